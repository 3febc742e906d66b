-- The items left: what the store holds in state 1, by rising position, is what the position machine holds set.
use Rattle.std.specs.Prelude.{◌≡◌, refl, ◌⊎◌, Bool, true, false, List, [], ◌∷◌, ◌++◌, ℕ, zero, suc, ◌+◌, ◌*◌, ◌/◌, ◌%◌, ◌≤◌, ◌<◌, eqb}
use Rattle.std.proofs.Math.Path.{ap, subst⁻¹}
use Rattle.std.proofs.Common.{sym, ◌∙◌, subst, inl, inr, ⊎_elim, mod-lt, arith, eqb-true}
use Rattle.std.proofs.Math.Nat.{div-add-mod, lt_of_mul-lt-mul_left}
use Rattle.std.proofs.Math.Decide.{ℕ_discrete}
use Rattle.std.proofs.lemmas.Bool.{eqb-false}
use Rattle.history.specs.Lists.{Member}
use Rattle.history.specs.Linearization.{Item, Queue}
use Rattle.rules.specs.Sizes.{Sizes}
use Rattle.rules.specs.Cell.{Reader, tail, place, used, state, entry_number, entry_value}
use Rattle.rules.specs.Play.{Placed, insert, placed_item, insert_entries, insert_records, items_of, items_left}
use Rattle.model.specs.State.{Entry, blank, put, gone}
use Rattle.model.specs.Facts.{put_not_gone}
use Rattle.model.specs.Known.{put_below_tail, put_in_records, put_past_head}
use Rattle.model.specs.Items.{join, items_below, items, all_items, pairwise_items, member_items}
use Rattle.memory.specs.Listed.{by_gap}
use Rattle.memory.specs.Memory.{ListedIn, Memory}
use Rattle.simulation.specs.View.{Ghost, view, code_of}
use Rattle.simulation.specs.Good.{Good}
use Rattle.simulation.specs.Limits.{limits}
use Rattle.simulation.specs.Entries.{position_apart}
use Rattle.simulation.specs.Rising.{Rising, all_member, rising_same, insert_has, insert_of, insert_rises}

module _ (z : Sizes) (σ : Reader) where
  -- entry i of record r is in state 1
  abbrev Set : (r i : ℕ) → Type 0
  Set r i = (i < z.B) × (σ (state r i) ≡ 1)

  -- an item of the first n entries of record r; one of the first n records
  abbrev OfEntries : (r n : ℕ) → Placed → Type 0
  OfEntries r n x = (i : ℕ) × (i < n) × (σ (state r i) ≡ 1) × (x ≡ placed_item z σ r i)

  abbrev OfRecords : (n : ℕ) → Placed → Type 0
  OfRecords n x = (r : ℕ) × (r < n) × OfEntries r z.B x

  entries_has : (r n : ℕ) (ps : List Placed) (x : Placed) → Member x (insert_entries z σ r n ps) → OfEntries r n x ⊎ Member x ps
  entries_has r zero ps x = λ m. inr m
  entries_has r (suc n) ps x = go (eqb (σ (state r n)) 1) refl (entries_has r n ps x)
    where
      wider : OfEntries r n x ⊎ Member x ps → OfEntries r (suc n) x ⊎ Member x ps
      wider (inl o) = inl (o.0, omega (arith, o.1), o.2, o.3)
      wider (inr m) = inr m

      go : (b : Bool) → eqb (σ (state r n)) 1 ≡ b → (Member x (insert_entries z σ r n ps) → OfEntries r n x ⊎ Member x ps)
          → Member x (elim b [ true ↦ insert (placed_item z σ r n) (insert_entries z σ r n ps) | false ↦ insert_entries z σ r n ps ])
          → OfEntries r (suc n) x ⊎ Member x ps
      go true e rest m =
          ⊎_elim (λ q. inl (n, omega arith, eqb-true (σ (state r n)) 1 e, q)) (λ w. wider (rest w))
          (insert_has (placed_item z σ r n) (insert_entries z σ r n ps) x m)
      go false e rest m = wider (rest m)

  entries_of : (r n : ℕ) (ps : List Placed) (x : Placed) → OfEntries r n x ⊎ Member x ps → Member x (insert_entries z σ r n ps)
  entries_of r zero ps x = λ o. ⊎_elim (λ w. absurd (omega (arith, w.1))) (λ m. m) o
  entries_of r (suc n) ps x = go (eqb (σ (state r n)) 1) refl (entries_of r n ps x)
    where
      go : (b : Bool) → eqb (σ (state r n)) 1 ≡ b → (OfEntries r n x ⊎ Member x ps → Member x (insert_entries z σ r n ps))
          → OfEntries r (suc n) x ⊎ Member x ps
          → Member x (elim b [ true ↦ insert (placed_item z σ r n) (insert_entries z σ r n ps) | false ↦ insert_entries z σ r n ps ])
      go true e rest (inr m) = insert_of (placed_item z σ r n) (insert_entries z σ r n ps) x (inr (rest (inr m)))
      go true e rest (inl o) = one (ℕ_discrete o.0 n)
        where
          one : Dec (o.0 ≡ n) → Member x (insert (placed_item z σ r n) (insert_entries z σ r n ps))
          one (yes q) = insert_of (placed_item z σ r n) (insert_entries z σ r n ps) x (inl (o.3 ∙ ap (placed_item z σ r) q))
          one (no q) = insert_of (placed_item z σ r n) (insert_entries z σ r n ps) x (inr (rest (inl (o.0, omega (arith, o.1), o.2, o.3))))
      go false e rest (inr m) = rest (inr m)
      go false e rest (inl o) = one (ℕ_discrete o.0 n)
        where
          one : Dec (o.0 ≡ n) → Member x (insert_entries z σ r n ps)
          one (yes q) = absurd (eqb-false (σ (state r n)) 1 e (ap (λ (i : ℕ). σ (state r i)) (sym q) ∙ o.2))
          one (no q) = rest (inl (o.0, omega (arith, o.1), o.2, o.3))

  records_has : (n : ℕ) (x : Placed) → Member x (insert_records z σ n) → OfRecords n x
  records_has zero x m = absurd m
  records_has (suc r) x m =
      ⊎_elim (λ o. (r, omega arith, o)) (λ w. let o = records_has r x w in (o.0, omega (arith, o.1), o.2))
      (entries_has r z.B (insert_records z σ r) x m)

  records_of : (n : ℕ) (x : Placed) → OfRecords n x → Member x (insert_records z σ n)
  records_of zero x o = absurd (omega (arith, o.1))
  records_of (suc n) x o = go (ℕ_discrete o.0 n) (records_of n x)
    where
      go : Dec (o.0 ≡ n) → (OfRecords n x → Member x (insert_records z σ n)) → Member x (insert_records z σ (suc n))
      go (yes e) rest = entries_of n z.B (insert_records z σ n) x (inl (subst (λ (r : ℕ). OfEntries r z.B x) e o.2))
      go (no n') rest = entries_of n z.B (insert_records z σ n) x (inr (rest (o.0, omega (arith, o.1), o.2)))

  -- Where no two set entries have one position, the list rises.
  module _ (N : ℕ) (apart : (r i s j : ℕ) → r < N → Set r i → s < N → Set s j → z.B * σ (place r) + i ≡ z.B * σ (place s) + j → (r ≡ s) × (i ≡ j)) where
    entries_rise : (r n : ℕ) (ps : List Placed) → r < N → n ≤ z.B → Rising ps
        → ((x : Placed) → Member x ps → OfRecords r x) → Rising (insert_entries z σ r n ps)
    entries_rise r zero ps l b rising before = rising
    entries_rise r (suc n) ps l b rising before = go (eqb (σ (state r n)) 1) refl (entries_rise r n ps l (omega arith) rising before)
      where
        new : σ (state r n) ≡ 1 → (x : Placed) → OfEntries r n x ⊎ Member x ps → x.at ≡ z.B * σ (place r) + n → ⊥
        new e x (inl o) q =
            let w : x.at ≡ z.B * σ (place r) + o.0 = ap (λ (y : Placed). y.at) o.3 in
            omega (arith, o.1)
        new e x (inr m) q =
            let o = before x m in
            let w : x.at ≡ z.B * σ (place o.0) + o.2.0 = ap (λ (y : Placed). y.at) o.2.3 in
            let d = apart o.0 o.2.0 r n (omega (arith, o.1)) (o.2.1, o.2.2) l (omega arith, e) (omega arith) in
            omega (arith, o.1, d.0)

        go : (c : Bool) → eqb (σ (state r n)) 1 ≡ c → Rising (insert_entries z σ r n ps)
            → Rising (elim c [ true ↦ insert (placed_item z σ r n) (insert_entries z σ r n ps) | false ↦ insert_entries z σ r n ps ])
        go true e rest =
            insert_rises (placed_item z σ r n) (insert_entries z σ r n ps) rest
            (λ x m. new (eqb-true (σ (state r n)) 1 e) x (entries_has r n ps x m))
        go false e rest = rest

    records_rise : (n : ℕ) → n ≤ N → Rising (insert_records z σ n)
    records_rise zero l = tt
    records_rise (suc n) l = entries_rise n z.B (insert_records z σ n) l (omega arith) (records_rise n (omega arith)) (records_has n)

-- a set entry with its position, B more than it is
abbrev placed_at : (B : ℕ) (content : ℕ → Item) → ℕ → Placed
placed_at B content p = record { at = p + B; what = content p }

items_of_lem : (B n : ℕ) (entry : ℕ → Entry) (content : ℕ → Item) → items_of (items_below n entry (placed_at B content)) ≡ items_below n entry content
items_of_lem B zero entry content = refl
items_of_lem B (suc n) entry content = joined (entry n) ∙ ap (λ (q : Queue). join q (entry n) (content n)) (items_of_lem B n entry content)
  where
    back : (ps : List Placed) (x : Placed) → items_of (ps ++ (x ∷ [])) ≡ items_of ps ++ (x.what ∷ [])
    back [] x = refl
    back (p ∷ ps) x = ap (◌∷◌ p.what) (back ps x)

    joined : (e : Entry) → items_of (join (items_below n entry (placed_at B content)) e (placed_at B content n)) ≡ join (items_of (items_below n entry (placed_at B content))) e (content n)
    joined blank = refl
    joined put = back (items_below n entry (placed_at B content)) (placed_at B content n)
    joined gone = refl

-- an entry of state 1 is set
code_put : (e : Entry) → code_of e ≡ 1 → e ≡ put
code_put blank q = absurd (omega arith)
code_put put q = refl
code_put gone q = absurd (omega arith)

module _ (z : Sizes) (σ : Reader) (γ : Ghost) (good : Good z σ γ) where
  m : Memory z σ γ.shape
  m = good.memory

  -- a set entry is in a linked record, at a position of the machine that is set
  pub record At (r i : ℕ) : Type 0 where
    pub before : ℕ
    pub placed : σ (place r) ≡ suc before
    pub is : γ.shape.at (suc before) ≡ r
    pub is_put : γ.entry (z.B * before + i) ≡ put
    pub number : σ (entry_number r i) ≡ (γ.content (z.B * before + i)).number
    pub value : σ (entry_value r i) ≡ (γ.content (z.B * before + i)).value

  found_at : (r i : ℕ) → r < z.N → Set z σ r i → At r i
  found_at r i l s = go (ℕ_discrete (σ (used r)) 2)
    where
      linked : (k : ℕ) → σ (place r) ≡ k → ListedIn γ.shape (σ (place r)) × (γ.shape.at (σ (place r)) ≡ r) → At r i
      linked zero e o = absurd (omega (arith, o.0.from, good.model.places.first))
      linked (suc a) e o =
          let is : γ.shape.at (suc a) ≡ r = ap γ.shape.at (sym e) ∙ o.1 in
          let listed : ListedIn γ.shape (suc a) = rw e at o.0 in
          record {
            before = a;
            placed = e;
            is = is;
            is_put = code_put (γ.entry (z.B * a + i)) (sym (rw is at (good.agrees.states a i listed s.0)) ∙ s.1);
            number = rw is at (good.agrees.numbers a i listed s.0);
            value = rw is at (good.agrees.values a i listed s.0);
          }

      go : Dec (σ (used r) ≡ 2) → At r i
      go (yes u) = linked (σ (place r)) refl (m.chain.only r u)
      go (no n) = absurd (m.unset r i l s.0 n s.1)

  -- the item of a set entry is that of its position
  same_item : (r i : ℕ) (a : At r i) → placed_item z σ r i ≡ placed_at z.B γ.content (z.B * a.before + i)
  same_item r i a =
      let key : z.B * σ (place r) + i ≡ z.B * a.before + i + z.B = ap (λ (k : ℕ). z.B * k + i) a.placed ∙ omega arith in
      λ j. record { at = key j; what = record { number = a.number j; value = a.value j } }

  apart : (r i s j : ℕ) → r < z.N → Set z σ r i → s < z.N → Set z σ s j → z.B * σ (place r) + i ≡ z.B * σ (place s) + j → (r ≡ s) × (i ≡ j)
  apart r i s j lr hr ls hs e =
      let a = found_at r i lr hr in
      let b = found_at s j ls hs in
      let q = position_apart z.B (σ (place r)) (σ (place s)) i j hr.0 hs.0 e in
      (sym a.is ∙ ap γ.shape.at (sym a.placed ∙ q.0 ∙ b.placed) ∙ b.is, q.1)

  stored_is_put : (x : Placed) → Member x (insert_records z σ z.N) → Member x (items_below (σ tail) γ.entry (placed_at z.B γ.content))
  stored_is_put x h =
      let o = records_has z σ z.N x h in
      let a = found_at o.0 o.2.0 o.1 (o.2.1, o.2.2) in
      let p : ℕ = z.B * a.before + o.2.0 in
      subst⁻¹ (λ (y : Placed). Member y (items_below (σ tail) γ.entry (placed_at z.B γ.content))) (o.2.3 ∙ same_item o.0 o.2.0 a)
      (member_items γ.entry (placed_at z.B γ.content) (σ tail) p (put_below_tail z.B (view σ γ) good.model p a.is_put) a.is_put)

  put_is_stored : (p : ℕ) → p < σ tail → γ.entry p ≡ put → Member (placed_at z.B γ.content p) (insert_records z σ z.N)
  put_is_stored p l e =
      records_of z σ z.N (placed_at z.B γ.content p) (r, m.chain.fits (suc a) listed, (i, below, set, item))
    where
      a : ℕ
      a = p / z.B

      i : ℕ
      i = p % z.B

      positive : 0 < z.B
      positive = omega (arith, (limits z good.sizes).two_entries)

      below : i < z.B
      below = mod-lt p positive

      whole : z.B * a + i ≡ p
      whole = div-add-mod p z.B

      r : ℕ
      r = γ.shape.at (suc a)

      first : γ.shape.lo ≤ suc a
      first =
          let h : z.B * γ.shape.lo < z.B * suc (suc a) =
          omega (arith, whole, below, put_past_head z.B (view σ γ) good.model p e, good.model.places.head_from) in
          omega (arith, lt_of_mul-lt-mul_left z.B h)

      last : suc a ≤ γ.shape.hi
      last =
          let h : z.B * a < z.B * γ.shape.tp = omega (arith, whole, put_in_records z.B (view σ γ) good.model p e) in
          omega (arith, lt_of_mul-lt-mul_left z.B h, m.tail_last)

      entry_is : γ.entry (z.B * a + i) ≡ put
      entry_is = ap γ.entry whole ∙ e

      listed : ListedIn γ.shape (suc a)
      listed = record { from = first; to = last; no_gap = by_gap γ.shape.gap (suc a) (λ g. absurd (put_not_gone _ entry_is (good.agrees.folded a i g below))) (λ g. g) }

      set : σ (state r i) ≡ 1
      set = good.agrees.states a i listed below ∙ ap code_of entry_is

      item : placed_at z.B γ.content p ≡ placed_item z σ r i
      item =
          ap (placed_at z.B γ.content) (sym whole)
          ∙ sym
          (same_item r i
          (record {
            before = a;
            placed = m.chain.placed (suc a) listed;
            is = refl;
            is_put = entry_is;
            number = good.agrees.numbers a i listed below;
            value = good.agrees.values a i listed below;
          }))

  -- The items left of a store that only the engine has written are the items of the position machine.
  pub items_left_lem : items_left z σ ≡ items (view σ γ)
  unfolding items_left
  items_left_lem =
      ap items_of
      (rising_same (insert_records z σ z.N) (items_below (σ tail) γ.entry (placed_at z.B γ.content))
      (records_rise z σ z.N apart z.N (omega arith))
      (pairwise_items γ.entry (placed_at z.B γ.content) (λ p q. p.at < q.at) (σ tail) (λ p q l b e f. omega arith))
      stored_is_put
      (all_member (λ x. Member x (insert_records z σ z.N)) (items_below (σ tail) γ.entry (placed_at z.B γ.content))
      (all_items γ.entry (placed_at z.B γ.content) (λ x. Member x (insert_records z σ z.N)) (σ tail) put_is_stored)))
      ∙ items_of_lem z.B (σ tail) γ.entry γ.content
