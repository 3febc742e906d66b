-- What the check's tests say: of every element, of every two, of a number that is listed.
use Rattle.std.specs.Prelude.{◌≡◌, refl, ◌⊎◌, Bool, true, false, ◌&&◌, ◌||◌, not, List, [], ◌∷◌, map, ℕ, zero, suc, ◌-◌, ◌<◌, leb, ltb, eqb, length, get_or}
use Rattle.std.proofs.Common.{sym, subst, inl, inr, arith, eqb-true, leb-true, le-leb, lt-ltb, ltb-true, eq-eqb, ne_eqb}
use Rattle.std.proofs.Math.Bool.{and-eq-true_iff}
use Rattle.std.proofs.lemmas.Bool.{false≢true, eqb-false, not-true}
use Rattle.std.proofs.Math.Option.{Option, none, some}
use Rattle.history.specs.Lists.{All, Pairwise, Member}
use Rattle.history.specs.Calls.{Call, start_of, end_of}
use Rattle.history.specs.Linearization.{Precedes}
use Rattle.history.specs.Shows.{numbered, Numbers}
use Rattle.order_check.specs.Check.{every, every_two, is_some, has, is_number, precedes}

pub both : (a b : Bool) → (a && b) ≡ true → (a ≡ true) × (b ≡ true)
both a b = (and-eq-true_iff a b).0

pub and_true : (a b : Bool) → a ≡ true → b ≡ true → (a && b) ≡ true
and_true a b p q = (and-eq-true_iff a b).1 (p, q)

pub either : (a b : Bool) → (a || b) ≡ true → (a ≡ true) ⊎ (b ≡ true)
either true b e = inl refl
either false b e = inr e

pub or_right : (a b : Bool) → b ≡ true → (a || b) ≡ true
or_right true b e = refl
or_right false b e = e

pub not_then : (b : Bool) → not b ≡ true → b ≡ true → ⊥
not_then true p q = false≢true p
not_then false p q = false≢true q

pub then_not : (b : Bool) → (b ≡ true → ⊥) → not b ≡ true
then_not true f = absurd (f refl)
then_not false f = refl

module _ {A : Type 0} where
  pub every_all : (p : A → Bool) (P : A → Type 0) → ((a : A) → p a ≡ true → P a) → (xs : List A) → every p xs ≡ true → All P xs
  every_all p P f [] e = tt
  every_all p P f (x ∷ xs) e = let b = both (p x) (every p xs) e in (f x b.0, every_all p P f xs b.1)

  pub all_every : (p : A → Bool) (P : A → Type 0) → ((a : A) → P a → p a ≡ true) → (xs : List A) → All P xs → every p xs ≡ true
  all_every p P f [] h = refl
  all_every p P f (x ∷ xs) h = and_true (p x) (every p xs) (f x h.0) (all_every p P f xs h.1)

  pub every_two_pairwise :
      (r : A → A → Bool) (R : A → A → Type 0) → ((a b : A) → r a b ≡ true → R a b) → (xs : List A) → every_two r xs ≡ true → Pairwise R xs
  every_two_pairwise r R f [] e = tt
  every_two_pairwise r R f (x ∷ xs) e =
      let b = both (every (r x) xs) (every_two r xs) e in
      (every_all (r x) (R x) (f x) xs b.0, every_two_pairwise r R f xs b.1)

  pub pairwise_every_two :
      (r : A → A → Bool) (R : A → A → Type 0) → ((a b : A) → R a b → r a b ≡ true) → (xs : List A) → Pairwise R xs → every_two r xs ≡ true
  pairwise_every_two r R f [] h = refl
  pairwise_every_two r R f (x ∷ xs) h =
      and_true (every (r x) xs) (every_two r xs) (all_every (r x) (R x) (f x) xs h.0) (pairwise_every_two r R f xs h.1)

  pub is_some_lem : (o : Option A) → is_some o ≡ true → (a : A) × (o ≡ some a)
  is_some_lem none e = absurd (false≢true e)
  is_some_lem (some a) e = (a, refl)

  -- an element by its place
  pub member_at : (xs : List A) (i : ℕ) (d : A) → i < length xs → Member (get_or xs i d) xs
  member_at [] i d l = absurd (omega arith)
  member_at (x ∷ xs) zero d l = inl refl
  member_at (x ∷ xs) (suc i) d l = inr (member_at xs i d (omega arith))

  pub all_at : (P : A → Type 0) (xs : List A) → All P xs → (a : A) → Member a xs → P a
  all_at P [] p a m = elim m [ ]
  all_at P (x ∷ xs) p a (inl e) = subst P (sym e) p.0
  all_at P (x ∷ xs) p a (inr m) = all_at P xs p.1 a m

module _ {A B : Type 0} where
  pub in_map : (f : A → B) (a : A) (xs : List A) → Member a xs → Member (f a) (map f xs)
  in_map f a [] m = elim m [ ]
  in_map f a (x ∷ xs) (inl e) = inl (subst (λ z. f a ≡ f z) e refl)
  in_map f a (x ∷ xs) (inr m) = inr (in_map f a xs m)

  pub from_map : (f : A → B) (b : B) (xs : List A) → Member b (map f xs) → (a : A) × Member a xs × (b ≡ f a)
  from_map f b [] m = elim m [ ]
  from_map f b (x ∷ xs) (inl e) = (x, inl refl, e)
  from_map f b (x ∷ xs) (inr m) = let r = from_map f b xs m in (r.0, inr r.1, r.2)

  pub all_map : (P : B → Type 0) (f : A → B) (xs : List A) → All (λ a. P (f a)) xs → All P (map f xs)
  all_map P f [] h = tt
  all_map P f (x ∷ xs) h = (h.0, all_map P f xs h.1)

pub has_member : (n : ℕ) (ns : List ℕ) → has n ns ≡ true → Member n ns
has_member n [] e = absurd (false≢true e)
has_member n (k ∷ ns) e = elim (either (eqb k n) (has n ns) e) [
  | inl a ↦ inl (sym (eqb-true k n a))
  | inr b ↦ inr (has_member n ns b)
]

pub member_has : (n : ℕ) (ns : List ℕ) → Member n ns → has n ns ≡ true
member_has n [] m = elim m [ ]
member_has n (k ∷ ns) (inl e) = rw (eq-eqb k n (sym e))
member_has n (k ∷ ns) (inr m) = or_right (eqb k n) (has n ns) (member_has n ns m)

pub is_number_lem : (cs : List Call) (n : ℕ) → is_number cs n ≡ true → Numbers cs n
is_number_lem cs n e = let b = both (leb 1 n) (leb n (length cs)) e in (leb-true 1 n b.0, leb-true n (length cs) b.1)

pub number_is : (cs : List Call) (n : ℕ) → Numbers cs n → is_number cs n ≡ true
number_is cs n p = and_true (leb 1 n) (leb n (length cs)) (le-leb 1 n p.0) (le-leb n (length cs) p.1)

pub numbered_member : (cs : List Call) (n : ℕ) → Numbers cs n → Member (numbered cs n) cs
numbered_member cs n p = member_at cs (n - 1) _ (omega (arith, p))

pub precedes_true : (a b : Call) → Precedes a b → precedes a b ≡ true
precedes_true a b p = rw (ne_eqb (end_of a) 0 p.0, lt-ltb (end_of a) (start_of b) p.1)

pub true_precedes : (a b : Call) → precedes a b ≡ true → Precedes a b
true_precedes a b e =
    let p = both (not (eqb (end_of a) 0)) (ltb (end_of a) (start_of b)) e in
    (eqb-false (end_of a) 0 (not-true (eqb (end_of a) 0) p.0), ltb-true (end_of a) (start_of b) p.1)
