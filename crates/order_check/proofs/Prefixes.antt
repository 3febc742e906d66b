-- The tests on a beginning of an order, and on that with one number more.
use mathlib.Core.Path.{◌≡◌, refl, sym, ap, ◌∙◌}
use mathlib.Core.Bool.{Bool, true, false, ◌&&◌, ◌||◌, not, and_assoc, or_assoc, true≢false}
use mathlib.Core.Bool as bool
use mathlib.Core.List.{List, [], ◌∷◌, ◌++◌}
use mathlib.Core.Option.{Option, none, some}
use Prim.Native.Nat.{ℕ, zero, suc, ◌<◌, max}
use native.Mathlib.Omega.{arith}
use lib.Dec.{leb, ltb, eqb}
use lib.ListN.{length, get_or, take, drop, take-append-drop}
use borrow.Author.Tests.{ltb-true, ltb-false, le-leb, lt-leb, leb-true, leb-false}
use Rattle.history.specs.Calls.{Call, enq, deq, start_of, end_of}
use Rattle.history.specs.Linearization.{Queue, perform, run}
use Rattle.history.specs.Shows.{numbered, listed}
use Rattle.order_check.specs.Check.{every, every_two, is_some, has, is_number, precedes, orderly}
use Rattle.order_check.specs.Tests.{both, and_true}
use Rattle.order_check.specs.Decides.{orderly_parts, parts_orderly}
use Rattle.order_check.specs.Walk.{items}

exchange : (a b c d : Bool) → ((a && b) && (c && d)) ≡ ((a && c) && (b && d))
exchange true true c d = refl
exchange true false true d = refl
exchange true false false d = refl
exchange false b c d = refl

module _ {A : Type 0} where
  every_append : (p : A → Bool) (xs ys : List A) → every p (xs ++ ys) ≡ (every p xs && every p ys)
  every_append p [] ys = refl
  every_append p (x ∷ xs) ys = ap (λ b. p x && b) (every_append p xs ys) ∙ sym (and_assoc (p x) (every p xs) (every p ys))

  pub every_last : (p : A → Bool) (xs : List A) (y : A) → every p (xs ++ (y ∷ [])) ≡ (every p xs && p y)
  every_last p xs y = every_append p xs (y ∷ []) ∙ ap (λ b. every p xs && b) (bool.and-true (p y))

  every_two_last : (r : A → A → Bool) (xs : List A) (y : A) → every_two r (xs ++ (y ∷ [])) ≡ (every_two r xs && every (λ a. r a y) xs)
  every_two_last r [] y = refl
  every_two_last r (x ∷ xs) y =
      ap (λ b. b && every_two r (xs ++ (y ∷ []))) (every_last (r x) xs y)
      ∙ ap (λ b. (every (r x) xs && r x y) && b) (every_two_last r xs y)
      ∙ exchange (every (r x) xs) (r x y) (every_two r xs) (every (λ a. r a y) xs)

  every_left : (p : A → Bool) (xs ys : List A) → every p (xs ++ ys) ≡ true → every p xs ≡ true
  every_left p xs ys e = (both (every p xs) (every p ys) (sym (every_append p xs ys) ∙ e)).0

  every_two_left : (r : A → A → Bool) (xs ys : List A) → every_two r (xs ++ ys) ≡ true → every_two r xs ≡ true
  every_two_left r [] ys e = refl
  every_two_left r (x ∷ xs) ys e =
      let b = both (every (r x) (xs ++ ys)) (every_two r (xs ++ ys)) e in
      and_true (every (r x) xs) (every_two r xs) (every_left (r x) xs ys b.0) (every_two_left r xs ys b.1)

  pub every_at : (p : A → Bool) (xs : List A) (d : A) → every p xs ≡ true → (i : ℕ) → i < length xs → p (get_or xs i d) ≡ true
  every_at p [] d e i l = absurd (omega arith)
  every_at p (x ∷ xs) d e zero l = (both (p x) (every p xs) e).0
  every_at p (x ∷ xs) d e (suc i) l = every_at p xs d (both (p x) (every p xs) e).1 i (omega arith)

pub listed_append : (cs : List Call) (xs ys : List ℕ) → listed cs (xs ++ ys) ≡ listed cs xs ++ listed cs ys
listed_append cs [] ys = refl
listed_append cs (x ∷ xs) ys = ap (λ l. numbered cs x ∷ l) (listed_append cs xs ys)

pub items_append : (xs ys : List Call) → items (xs ++ ys) ≡ items xs ++ items ys
items_append [] ys = refl
items_append (enq x ∷ xs) ys = ap (λ q. record { number = x.number; value = x.value } ∷ q) (items_append xs ys)
items_append (deq d ∷ xs) ys = items_append xs ys

pub has_last : (k : ℕ) (ns : List ℕ) (n : ℕ) → has k (ns ++ (n ∷ [])) ≡ (has k ns || eqb n k)
has_last k [] n = bool.or-false (eqb n k)
has_last k (x ∷ ns) n = ap (λ b. eqb x k || b) (has_last k ns n) ∙ sym (or_assoc (eqb x k) (has k ns) (eqb n k))

-- On a queue one call after another.
pub run_then : (q r : Queue) (xs ys : List Call) → run q xs ≡ some r → run q (xs ++ ys) ≡ run r ys
run_then q r [] ys e = let z : q ≡ r = cc in ap (λ s. run s ys) z
run_then q r (c ∷ xs) ys e = go (perform c q) (λ s. run_then s r xs ys) e
  where
    go : (o : Option Queue) → ((s : Queue) → run s xs ≡ some r → run s (xs ++ ys) ≡ run r ys)
        → elim o [ none ↦ none | some s ↦ run s xs ] ≡ some r → elim o [ none ↦ none | some s ↦ run s (xs ++ ys) ] ≡ run r ys
    go none rest e = absurd (let z : ◌≡◌ {A = ℕ} 0 1 = cc in omega arith)
    go (some s) rest e = rest s e

run_left : (q : Queue) (xs ys : List Call) → is_some (run q (xs ++ ys)) ≡ true → is_some (run q xs) ≡ true
run_left q [] ys e = refl
run_left q (c ∷ xs) ys e = go (perform c q) (λ s. run_left s xs ys) e
  where
    go : (o : Option Queue) → ((s : Queue) → is_some (run s (xs ++ ys)) ≡ true → is_some (run s xs) ≡ true)
        → is_some {A = Queue} (elim o [ none ↦ none | some s ↦ run s (xs ++ ys) ]) ≡ true → is_some {A = Queue} (elim o [ none ↦ none | some s ↦ run s xs ]) ≡ true
    go none rest e = e
    go (some s) rest e = rest s e

-- What an order passes, each beginning of it passes.
orderly_left : (cs : List Call) (xs ys : List ℕ) → orderly cs (xs ++ ys) ≡ true → orderly cs xs ≡ true
orderly_left cs xs ys e =
    let o = orderly_parts cs (xs ++ ys) e in
    let l = listed_append cs xs ys in
    parts_orderly cs xs
    (record {
      numbers = every_left (is_number cs) xs ys o.numbers;
      once = every_two_left (λ a b. not (eqb a b)) xs ys o.once;
      timely = every_two_left (λ a b. not (precedes b a)) (listed cs xs) (listed cs ys) (rw l at o.timely);
      runs = run_left [] (listed cs xs) (listed cs ys) (rw l at o.runs);
    })

pub beginning_fails : (cs : List Call) (ns : List ℕ) (k : ℕ) → orderly cs (take k ns) ≡ false → orderly cs ns ≡ false
beginning_fails cs ns k e = go (orderly cs ns) refl
  where
    go : (b : Bool) → orderly cs ns ≡ b → b ≡ false
    go false i = refl
    go true i =
        absurd (true≢false (sym (orderly_left cs (take k ns) (drop k ns) (ap (orderly cs) (take-append-drop k ns) ∙ i)) ∙ e))

-- not listed yet
not_has : (n : ℕ) (ns : List ℕ) → every (λ a. not (eqb a n)) ns ≡ not (has n ns)
not_has n [] = refl
not_has n (k ∷ ns) = go (eqb k n) (not_has n ns)
  where
    go : (b : Bool) → every (λ a. not (eqb a n)) ns ≡ not (has n ns) → (not b && every (λ a. not (eqb a n)) ns) ≡ not (b || has n ns)
    go true e = refl
    go false e = e

not_below : (a b : ℕ) → not (ltb a b) ≡ leb b a
not_below a b = go (ltb a b) refl
  where
    go : (t : Bool) → ltb a b ≡ t → not t ≡ leb b a
    go true e = sym (lt-leb b a (ltb-true a b e))
    go false e = sym (le-leb b a (ltb-false a b e))

-- ended before none of their starts
in-time : (b : Call) (l : List Call) → every (λ a. not (precedes b a)) l ≡ (eqb (end_of b) 0 || every (λ a. leb (start_of a) (end_of b)) l)
in-time b l = go (eqb (end_of b) 0) l
  where
    go : (t : Bool) (l : List Call) → every (λ a. not (not t && ltb (end_of b) (start_of a))) l ≡ (t || every (λ a. leb (start_of a) (end_of b)) l)
    go true [] = refl
    go true (a ∷ l) = go true l
    go false [] = refl
    go false (a ∷ l) = rw (not_below (end_of b) (start_of a), go false l)

-- One number more after a beginning that passes: the tests that are left.
pub orderly_last :
    (cs : List Call) (ns : List ℕ) (n : ℕ) → orderly cs ns ≡ true
    → orderly cs (ns ++ (n ∷ []))
    ≡ (is_number cs n
    && not (has n ns)
    && (eqb (end_of (numbered cs n)) 0 || every (λ a. leb (start_of a) (end_of (numbered cs n))) (listed cs ns))
    && is_some (run [] (listed cs ns ++ (numbered cs n ∷ []))))
unfolding orderly
orderly_last cs ns n e =
    let o = orderly_parts cs ns e in
    rw (
      listed_append cs ns (n ∷ []),
      every_last (is_number cs) ns n,
      every_two_last (λ a b. not (eqb a b)) ns n,
      every_two_last (λ a b. not (precedes b a)) (listed cs ns) (numbered cs n),
      o.numbers,
      o.once,
      o.timely,
      not_has n ns,
      in-time (numbered cs n) (listed cs ns),
    )

pub max_below : (a b e : ℕ) → (leb a e && leb b e) ≡ leb (max a b) e
max_below a b e = go (leb a e) (leb b e) refl refl
  where
    go : (s t : Bool) → leb a e ≡ s → leb b e ≡ t → (s && t) ≡ leb (max a b) e
    go true true p q = sym (le-leb (max a b) e (omega (arith, leb-true a e p, leb-true b e q)))
    go true false p q = sym (lt-leb (max a b) e (omega (arith, leb-false b e q)))
    go false t p q = sym (lt-leb (max a b) e (omega (arith, leb-false a e p)))
