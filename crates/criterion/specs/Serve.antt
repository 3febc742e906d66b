-- Where the dequeues serve a list of enqueues in turn, placing them as late as they may stand gives an order that fits.
use Rattle.std.specs.Prelude.{◌≡◌, refl, ◌⊎◌, ◌≢◌, Bool, true, false, ◌&&◌, ◌||◌, not, List, [], ◌∷◌, ◌++◌, map, ℕ, ◌≤◌, ◌<◌, eqb, ltb}
use Rattle.std.proofs.Common.{sym, subst, ◌∙◌, inl, inr, true≢false, append_assoc, arith, ltb-true, lt-ltb, ne_eqb}
use Rattle.std.proofs.Math.Bool.{and-eq-true_iff}
use Rattle.std.proofs.lemmas.Bool.{false≢true, eqb-false, not-true}
use Rattle.history.specs.Lists.{All, Pairwise}
use Rattle.history.specs.Calls.{Answer, nothing, item, empty, Enqueue, Dequeue, Call, enq, deq}
use Rattle.history.specs.Linearization.{Precedes}
use Rattle.criterion.specs.Members.{all_map}
use Rattle.criterion.specs.Order.{is_item, ended_before, any_ended, is_empty, behind, after, must, fill, place}
use Rattle.criterion.specs.Fits.{Fits, done, put, give, find_none, Timely, Next}

-- enqueue y did not end before event s
abbrev pub Lasts : ℕ → Enqueue → Type 0
Lasts s y = y.end ≢ 0 → y.end < s → ⊥

-- One dequeue serves the enqueues p and hands on the rest of them: it gives the first, which started before it ended; or it
-- answers empty, and none of them ended before it started.
abbrev pub Serve : Answer → (s k : ℕ) → List Enqueue → (List Enqueue → Type 0) → Type 0
Serve nothing s k p on = ⊥
Serve (item n v) s k [] on = ⊥
Serve (item n v) s k (x ∷ p) on = (x.number ≡ n) × (x.value ≡ v) × (x.start ≤ k) × on p
Serve empty s k p on = All (Lasts s) p × on p

-- The dequeues serve p in turn, and r is left.
abbrev pub Serves : List Dequeue → (p r : List Enqueue) → Type 0
Serves [] p r = p ≡ r
Serves (d ∷ ds) p r = Serve d.answer d.start d.end p (λ z. Serves ds z r)

-- enqueues in an order that keeps to their times
abbrev pub InLine : List Enqueue → Type 0
InLine p = Pairwise (λ x y. Timely (enq x) (enq y)) p × All (λ x. x.end ≢ 0 → x.start < x.end) p

-- what the tests for an end before event s say
neither : (a b : Bool) → (a || b) ≡ false → (a ≡ false) × (b ≡ false)
neither true b e = absurd (true≢false e)
neither false b e = (refl, e)

ended_is : (s : ℕ) (x : Enqueue) → ended_before s x ≡ true → (x.end ≢ 0) × (x.end < s)
ended_is s x e =
    let b = (and-eq-true_iff (not (eqb x.end 0)) (ltb x.end s)).0 e in
    (eqb-false _ _ (not-true _ b.0), ltb-true _ _ b.1)

ended_not : (s : ℕ) (x : Enqueue) → ended_before s x ≡ false → Lasts s x
ended_not s x e z l = true≢false (sym (rw (ne_eqb x.end 0 z, lt-ltb x.end s l)) ∙ e)

none_ended : (s : ℕ) (p : List Enqueue) → any_ended s p ≡ false → All (Lasts s) p
none_ended s [] e = tt
none_ended s (x ∷ p) e = let n = neither (ended_before s x) (any_ended s p) e in (ended_not s x n.0, none_ended s p n.1)

-- what stands before one that had ended before event s started before s
starts_before : (s : ℕ) (x : Enqueue) (p : List Enqueue) → InLine (x ∷ p) → any_ended s (x ∷ p) ≡ true → x.start < s
starts_before s x p t e = go (ended_before s x) refl e
  where
    later : (p : List Enqueue) → All (λ y. Timely (enq x) (enq y)) p → any_ended s p ≡ true → x.start < s
    later [] a e = absurd (false≢true e)
    later (y ∷ p) a e = at (ended_before s y) refl e (later p a.1)
      where
        at : (b : Bool) → ended_before s y ≡ b → (b || any_ended s p) ≡ true → (any_ended s p ≡ true → x.start < s) → x.start < s
        at true q e ih =
            let o = ended_is s y q in
            let g : y.end < x.start → ⊥ = λ l. a.0.0 (o.0, l) in
            let l = o.1 in
            omega arith
        at false q e ih = ih e

    go : (b : Bool) → ended_before s x ≡ b → (b || any_ended s p) ≡ true → x.start < s
    go true q e = let o = ended_is s x q in let f = t.1.0 o.0 in let l = o.1 in omega arith
    go false q e = later p t.0.0 e

-- The last enqueue in a queue, if it has one, had ended before event s: no enqueue waits there without need.
abbrev pub Due : ℕ → List Enqueue → Type 0
Due s [] = Unit
Due s (x ∷ []) = (x.end ≢ 0) × (x.end < s)
Due s (x ∷ y ∷ q) = Due s (y ∷ q)

due_later : (s t : ℕ) (q : List Enqueue) → s ≤ t → Due s q → Due t q
due_later s t [] l u = tt
due_later s t (x ∷ []) l u = (u.0, let e = u.1 in omega arith)
due_later s t (x ∷ y ∷ q) l u = due_later s t (y ∷ q) l u

due_behind : (s : ℕ) (q : List Enqueue) → Due s q → Due s (behind q)
due_behind s [] u = tt
due_behind s (x ∷ []) u = tt
due_behind s (x ∷ y ∷ q) u = u

due_snoc : (s : ℕ) (q : List Enqueue) (x : Enqueue) → (x.end ≢ 0) × (x.end < s) → Due s (q ++ (x ∷ []))
due_snoc s [] x e = e
due_snoc s (y ∷ []) x e = e
due_snoc s (y ∷ z ∷ q) x e = due_snoc s (z ∷ q) x e

-- so a queue in which none had ended is empty
not_due : (s : ℕ) (x : Enqueue) (q p : List Enqueue) → All (Lasts s) (x ∷ (q ++ p)) → Due s (x ∷ q) → ⊥
not_due s x [] p a u = a.0 u.0 u.1
not_due s x (y ∷ q) p a u = not_due s y q p a.1 u

-- the queue that dequeue d finds, of which its answer takes the first or nothing
abbrev DueFor : Answer → ℕ → List Enqueue → Type 0
DueFor nothing s q = Unit
DueFor (item n v) s q = Due s (behind q)
DueFor empty s q = Due s q

due_for : (a : Answer) (s : ℕ) (q : List Enqueue) → Due s q → DueFor a s q
due_for nothing s q u = tt
due_for (item n v) s q u = due_behind s q u
due_for empty s q u = u

-- A dequeue in its turn, with what holds of the dequeues after it.
module _ (d : Dequeue) (ds : List Dequeue) (r : List Enqueue) where
  abbrev FitsOn : Type 0
  FitsOn = (q p : List Enqueue) → InLine p → Serves ds (q ++ p) r → Due d.start q → Fits ds q p r (place ds q p)

  abbrev ServeWith : Answer → List Enqueue → Type 0
  ServeWith b p = Serve b d.start d.end p (λ z. Serves ds z r)

  -- it comes before the enqueues p
  goes :
      FitsOn → (q p : List Enqueue) → InLine p → Serves (d ∷ ds) (q ++ p) r → All (Lasts d.start) p
      → DueFor d.answer d.start q → (q ≡ [] → is_item d.answer ≡ true → ⊥)
      → Fits (d ∷ ds) q p r (deq d ∷ place ds (after d.answer q) p)
  goes ih q p t v a u f = go q d.answer refl v u f
    where
      none_before : All (λ y. Precedes (enq y) (deq d) → ⊥) p
      none_before = all_map (Lasts d.start) (λ y. Precedes (enq y) (deq d) → ⊥) p (λ y g o. g o.0 o.1) a

      go :
          (q : List Enqueue) (b : Answer) → d.answer ≡ b → ServeWith b (q ++ p) → DueFor b d.start q
          → (q ≡ [] → is_item b ≡ true → ⊥) → Fits (d ∷ ds) q p r (deq d ∷ place ds (after b q) p)
      go [] (item n w) e v u f = absurd (f refl refl)
      go [] empty e v u f = find_none e none_before (ih [] p t v.1 tt)
      go (y ∷ q) (item n w) e v u f = give {d = d} {x = y} (cc (e, v.0, v.1)) none_before (ih q p t v.3 u)
      go (y ∷ q) empty e v u f = absurd (not_due d.start y q p v.0 u)
      go [] nothing e v u f = elim v [ ]
      go (y ∷ q) nothing e v u f = elim v [ ]

  -- it finds an item in the queue, if it gives one and no enqueue is left to be put before it
  finds_at_end : (q : List Enqueue) → Serves (d ∷ ds) (q ++ []) r → q ≡ [] → is_item d.answer ≡ true → ⊥
  finds_at_end [] v e i = go d.answer v i
    where
      go : (b : Answer) → ServeWith b [] → is_item b ≡ true → ⊥
      go (item n w) v i = v
      go empty v i = false≢true i
      go nothing v i = elim v [ ]
  finds_at_end (y ∷ q) v e i = let z : ◌≡◌ {A = ℕ} 0 1 = cc in omega arith

  -- an enqueue that it takes from the empty queue started before it ended
  takes : (q : List Enqueue) (x : Enqueue) (p : List Enqueue) → Serves (d ∷ ds) (q ++ (x ∷ p)) r → (is_item d.answer && is_empty q) ≡ true → x.start ≤ d.end
  takes q x p v e = go q d.answer v e
    where
      go : (q : List Enqueue) (b : Answer) → ServeWith b (q ++ (x ∷ p)) → (is_item b && is_empty q) ≡ true → x.start ≤ d.end
      go [] (item n w) v e = v.2
      go [] empty v e = absurd (false≢true e)
      go (y ∷ q) (item n w) v e = absurd (false≢true e)
      go (y ∷ q) empty v e = absurd (false≢true e)
      go [] nothing v e = elim v [ ]
      go (y ∷ q) nothing v e = elim v [ ]

  -- what it takes leaves the queue empty again
  due_taken : (b : Answer) (q : List Enqueue) (x : Enqueue) → (is_item b && is_empty q) ≡ true → DueFor b d.start (q ++ (x ∷ []))
  due_taken nothing q x e = tt
  due_taken (item n w) [] x e = tt
  due_taken (item n w) (y ∷ q) x e = absurd (false≢true e)
  due_taken empty q x e = absurd (false≢true e)

  -- nor else, if none must come before it
  finds : (q : List Enqueue) → (is_item d.answer && is_empty q) ≡ false → q ≡ [] → is_item d.answer ≡ true → ⊥
  finds [] n e i = true≢false (sym (rw i) ∙ n)
  finds (y ∷ q) n e i = let z : ◌≡◌ {A = ℕ} 0 1 = cc in omega arith

  module _ (forward : d.start < d.end) where
    -- before it: the queue is due, or one that must come before it is still to be put
    abbrev Ready : (q p : List Enqueue) → Type 0
    Ready q p = (any_ended d.start p ≡ true) ⊎ DueFor d.answer d.start q

    is_due : (q p : List Enqueue) → Ready q p → any_ended d.start p ≡ false → DueFor d.answer d.start q
    is_due q p (inl e) n = absurd (true≢false (sym e ∙ n))
    is_due q p (inr u) n = u

    ready_on : (q : List Enqueue) (x : Enqueue) (p : List Enqueue) → must d q (x ∷ p) ≡ true → Ready (q ++ (x ∷ [])) p
    ready_on q x p e = go (any_ended d.start p) (ended_before d.start x) refl refl e
      where
        go :
            (a b : Bool) → any_ended d.start p ≡ a → ended_before d.start x ≡ b
            → ((b || a) || (is_item d.answer && is_empty q)) ≡ true → Ready (q ++ (x ∷ [])) p
        go true b i j e = inl i
        go false true i j e = inr (due_for d.answer d.start (q ++ (x ∷ [])) (due_snoc d.start q x (ended_is d.start x j)))
        go false false i j e = inr (due_taken d.answer q x e)

    put_in_time :
        (q : List Enqueue) (x : Enqueue) (p : List Enqueue) → InLine (x ∷ p) → Serves (d ∷ ds) (q ++ (x ∷ p)) r
        → must d q (x ∷ p) ≡ true → x.start ≤ d.end
    put_in_time q x p t v e = go (any_ended d.start (x ∷ p)) refl e
      where
        go :
            (a : Bool) → any_ended d.start (x ∷ p) ≡ a → (a || (is_item d.answer && is_empty q)) ≡ true → x.start ≤ d.end
        go true i e = let l = starts_before d.start x p t i in omega arith
        go false i e = takes q x p v e

    fits_fill :
        FitsOn → (p q : List Enqueue) → InLine p → Serves (d ∷ ds) (q ++ p) r → Ready q p
        → Fits (d ∷ ds) q p r (fill d (place ds) q p)
    fits_fill ih [] q t v u = goes ih q [] t v tt (is_due q [] u refl) (finds_at_end q v)
    fits_fill ih (x ∷ p) q t v u = go (must d q (x ∷ p)) refl (λ e. fits_fill ih p (q ++ (x ∷ [])) (t.0.1, t.1.1) (rw append_assoc v) (ready_on q x p e))
      where
        go :
            (b : Bool) → must d q (x ∷ p) ≡ b → (must d q (x ∷ p) ≡ true → Fits (d ∷ ds) (q ++ (x ∷ [])) p r (fill d (place ds) (q ++ (x ∷ [])) p))
            → Fits (d ∷ ds) q (x ∷ p) r (elim b as
            (λ _. List Call) [ true ↦ enq x ∷ fill d (place ds) (q ++ (x ∷ [])) p | false ↦ deq d ∷ place ds (after d.answer q) (x ∷ p) ])
        go true e next = put (put_in_time q x p t v e) (next e)
        go false e next =
            let n = neither (any_ended d.start (x ∷ p)) (is_item d.answer && is_empty q) e in
            goes ih q (x ∷ p) t v (none_ended d.start (x ∷ p) n.0) (is_due q (x ∷ p) u n.0) (finds q n.1)

-- Where the dequeues serve the enqueues, and the queue has nothing in it without need, the order fits.
pub place_fits :
    (s : ℕ) (ds : List Dequeue) (q p r : List Enqueue) → Pairwise Next ds → All (λ d. (d.end ≢ 0) × (d.start < d.end)) ds
    → All (λ d. s ≤ d.start) ds → Due s q → InLine p → Serves ds (q ++ p) r → Fits ds q p r (place ds q p)
place_fits s [] q p r n f a u t v = subst (λ z. Fits [] q p z (map enq p)) v done
place_fits s (d ∷ ds) q p r n f a u t v =
    fits_fill d ds r f.0.1
    (λ q p t v u. place_fits d.start ds q p r n.1 f.1 (all_map (Next d) _ ds (λ e l. let o = f.0.1 in omega arith) n.0) u t v)
    p q t v (inr (due_for d.answer d.start q (due_later s d.start q a.0 u)))
