-- The items of the machine: what its set entries hold, by rising position. They are an order in which the untaken items may be
-- left. From the invariant.
use Rattle.std.specs.Prelude.{◌≡◌, refl, ◌≢◌, List, [], ◌∷◌, ◌++◌, ℕ, zero, suc, ◌<◌}
use Rattle.std.proofs.Common.{sym, ◌∙◌, subst, subst₂, inl, inr, arith}
use Rattle.history.specs.Lists.{All, Pairwise, Member}
use Rattle.history.specs.Linearization.{Item, Queue}
use Rattle.criterion.specs.Explained.{Started, Ended, Taken, EndedBefore, Rest}
use Rattle.model.specs.State.{Entry, blank, put, gone, State, owner}
use Rattle.model.specs.Invariant.{Invariant}
use Rattle.model.specs.Known.{below_suc, put_untaken, ended_put}

-- What the set entries below n hold, by rising position; of a content of any kind.
module _ {A : Type 0} where
  -- a set entry's content joins at the back
  abbrev pub join : List A → Entry → A → List A
  join q blank x = q
  join q put x = q ++ (x ∷ [])
  join q gone x = q

  abbrev pub items_below : (n : ℕ) (entry : ℕ → Entry) (content : ℕ → A) → List A
  items_below zero entry content = []
  items_below (suc n) entry content = join (items_below n entry content) (entry n) (content n)

  all_back : (P : A → Type 0) (q : List A) (x : A) → All P q → P x → All P (q ++ (x ∷ []))
  all_back P [] x a p = (p, tt)
  all_back P (y ∷ q) x a p = (a.0, all_back P q x a.1 p)

  all_join : (P : A → Type 0) (q : List A) (e : Entry) (x : A) → All P q → (e ≡ put → P x) → All P (join q e x)
  all_join P q blank x a p = a
  all_join P q put x a p = all_back P q x a (p refl)
  all_join P q gone x a p = a

  pairwise_back : (R : A → A → Type 0) (q : List A) (x : A) → Pairwise R q → All (λ y. R y x) q → Pairwise R (q ++ (x ∷ []))
  pairwise_back R [] x a r = (tt, tt)
  pairwise_back R (y ∷ q) x a r = (all_back (R y) q x a.0 r.0, pairwise_back R q x a.1 r.1)

  pairwise_join : (R : A → A → Type 0) (q : List A) (e : Entry) (x : A) → Pairwise R q → (e ≡ put → All (λ y. R y x) q)
      → Pairwise R (join q e x)
  pairwise_join R q blank x a r = a
  pairwise_join R q put x a r = pairwise_back R q x a (r refl)
  pairwise_join R q gone x a r = a

  member_back : (q : List A) (x : A) → Member x (q ++ (x ∷ []))
  member_back [] x = inl refl
  member_back (y ∷ q) x = inr (member_back q x)

  member_before : (q : List A) (x y : A) → Member y q → Member y (q ++ (x ∷ []))
  member_before (z ∷ q) x y (inl e) = inl e
  member_before (z ∷ q) x y (inr e) = inr (member_before q x y e)
  member_before [] x y m = elim m [ ]

  member_join : (q : List A) (e : Entry) (x y : A) → Member y q → Member y (join q e x)
  member_join q blank x y m = m
  member_join q put x y m = member_before q x y m
  member_join q gone x y m = m

  module _ (entry : ℕ → Entry) (content : ℕ → A) where
    -- what holds of every set entry below n holds of every item
    pub all_items : (P : A → Type 0) (n : ℕ) → ((p : ℕ) → p < n → entry p ≡ put → P (content p)) → All P (items_below n entry content)
    all_items P zero h = tt
    all_items P (suc n) h =
        all_join P (items_below n entry content) (entry n) (content n) (all_items P n (λ p l. h p (omega arith))) (h n (omega arith))

    -- and so for every two of them
    pub pairwise_items : (R : A → A → Type 0) (n : ℕ)
        → ((p q : ℕ) → p < q → q < n → entry p ≡ put → entry q ≡ put → R (content p) (content q))
        → Pairwise R (items_below n entry content)
    pairwise_items R zero h = tt
    pairwise_items R (suc n) h =
        pairwise_join R (items_below n entry content) (entry n) (content n) (pairwise_items R n (λ p q l m. h p q l (omega arith)))
        (λ is_put. all_items (λ x. R x (content n)) n (λ p l e. h p n l (omega arith) e is_put))

    -- what a set entry below n holds is an item
    pub member_items : (n p : ℕ) → p < n → entry p ≡ put → Member (content p) (items_below n entry content)
    member_items zero p l is_put = absurd (omega arith)
    member_items (suc n) p l is_put =
        below_suc (λ q. entry q ≡ put → Member (content q) (items_below (suc n) entry content)) n
        (λ q b e. member_join (items_below n entry content) (entry n) (content n) (content q) (member_items n q b e))
        (λ e. rw e (member_back (items_below n entry content) (content n)))
        p l is_put

abbrev pub items : State → Queue
items s = items_below s.tail s.entry s.content

module _ (B : ℕ) (s : State) (i : Invariant B s) where
  open s use {tail, entry, content, history}

  number : (p : ℕ) → entry p ≡ put → (content p).number ≡ owner p
  number = i.contents.number_is

  untaken_item : (p : ℕ) → p < tail → entry p ≡ put
      → Started (content p).number (content p).value history × (Taken (content p).number history → ⊥)
  untaken_item p l e = (i.contents.value_is p e, put_untaken B s i p (content p).number e (sym (number p e)))

  -- an untaken enqueue that has ended is among the items, with its value
  ended_item : (n v : ℕ) → Started n v history → Ended n history → (Taken n history → ⊥)
      → Member (record { number = n; value = v }) (items s)
  ended_item n v is_started ended not_taken =
      let (p, l, o, e) = ended_put B s i n ended not_taken in
      let is-n : (content p).number ≡ n = number p e ∙ o in
      let as-held : Started n (content p).value history =
      subst (λ (m : ℕ). Started m (content p).value history) is-n (i.contents.value_is p e) in
      let is-v : (content p).value ≡ v = i.past.one_value n (content p).value v as-held is_started in
      subst (λ (x : Item). Member x (items s)) (λ j. record { number = is-n j; value = is-v j })
      (member_items entry content tail p l e)

  distinct_items : (p q : ℕ) → p < q → q < tail → entry p ≡ put → entry q ≡ put → (content p).number ≢ (content q).number
  distinct_items p q l b ep eq e = omega (arith, sym (number p ep) ∙ e ∙ number q eq)

  ordered_items : (p q : ℕ) → p < q → q < tail → entry p ≡ put → entry q ≡ put
      → EndedBefore (content q).number (content p).number history → ⊥
  ordered_items p q l b ep eq e =
      i.owners.in_order p q (omega arith) b (subst₂ (λ (a b : ℕ). EndedBefore a b history) (number q eq) (number p ep) e)

  pub items_rest : Rest history (items s)
  items_rest =
      record {
        untaken = all_items entry content _ tail untaken_item;
        complete = ended_item;
        distinct = pairwise_items entry content _ tail distinct_items;
        in_order = pairwise_items entry content _ tail ordered_items;
      }
