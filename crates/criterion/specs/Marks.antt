-- What the tests of the pass say: which items have been given, which enqueues ended before the mark, and what giving an item
-- asks.
use Rattle.std.specs.Prelude.{◌≡◌, refl, ◌⊎◌, ◌≢◌, Bool, true, false, ◌&&◌, ◌||◌, not, List, [], ◌∷◌, ℕ, max, ◌≤◌, ◌<◌, leb, eqb}
use Rattle.std.proofs.Common.{sym, subst, ◌∙◌, inl, inr, true≢false, arith, eqb-true, eq-eqb, leb-true, le-leb}
use Rattle.std.proofs.Math.Bool.{and-eq-true_iff}
use Rattle.std.proofs.lemmas.Bool.{false≢true, eqb-false, not-true}
use Rattle.std.proofs.Math.Decide.{dec_lt}
use Rattle.history.specs.Lists.{Member}
use Rattle.history.specs.Calls.{Enqueue, Call, enq, deq}
use Rattle.criterion.specs.Parts.{look}
use Rattle.criterion.specs.Entering.{same_enq, enq_not_deq}
use Rattle.criterion.specs.Following.{or_right}
use Rattle.criterion.specs.Found.{look_is}
use Rattle.criterion.specs.Pass.{has, past, leaves, giving}

-- the Boolean tests
either : (a b : Bool) → (a || b) ≡ true → (a ≡ true) ⊎ (b ≡ true)
either true b e = inl refl
either false b e = inr e

left_true : (a b : Bool) → a ≡ true → (a || b) ≡ true
left_true a b e = rw e

pub has_is : (n : ℕ) (given : List ℕ) → has n given ≡ true → Member n given
has_is n [] e = absurd (false≢true e)
has_is n (k ∷ given) e = elim (either (eqb k n) (has n given) e) [ inl p ↦ inl (sym (eqb-true k n p)) | inr q ↦ inr (has_is n given q) ]

pub is_has : (n : ℕ) (given : List ℕ) → Member n given → has n given ≡ true
is_has n (k ∷ given) (inl e) = left_true (eqb k n) (has n given) (eq-eqb k n (sym e))
is_has n (k ∷ given) (inr m) = or_right (eqb k n) (has n given) (is_has n given m)
is_has n [] m = elim m [ ]

pub has_not : (n : ℕ) (given : List ℕ) → (Member n given → ⊥) → has n given ≡ false
has_not n given f = go (has n given) refl
  where
    go : (b : Bool) → has n given ≡ b → b ≡ false
    go true e = absurd (f (has_is n given e))
    go false e = refl

-- an enqueue that ended before the mark
abbrev pub Short : ℕ → Enqueue → Type 0
Short mark x = (x.end ≢ 0) × (x.end < mark)

pub past_is : (mark : ℕ) (x : Enqueue) → past mark x ≡ true → Short mark x → ⊥
past_is mark x e s =
    elim (either (eqb x.end 0) (leb mark x.end) e) [
      | inl p ↦ s.0 (eqb-true _ _ p)
      | inr q ↦ (let l = leb-true mark x.end q in let r = s.1 in omega arith)
    ]

pub is_past : (mark : ℕ) (x : Enqueue) → (Short mark x → ⊥) → past mark x ≡ true
is_past mark x f = go (eqb x.end 0) refl
  where
    go : (b : Bool) → eqb x.end 0 ≡ b → (b || leb mark x.end) ≡ true
    go true e = refl
    go false e = le-leb mark x.end (let z = eqb-false x.end 0 e in let g : x.end < mark → ⊥ = λ l. f (z, l) in omega arith)

-- What the mark means: an enqueue that ended before it has been given.
abbrev pub Marks : List Call → ℕ → List ℕ → Type 0
Marks cs mark given = (y : Enqueue) → Member (enq y) cs → Short mark y → Member y.number given

pub leaves_is : (mark : ℕ) (given : List ℕ) (cs : List Call) → leaves mark given cs ≡ true → Marks cs mark given
leaves_is mark given (enq x ∷ cs) e y m s =
    let b = (and-eq-true_iff (has x.number given || past mark x) (leaves mark given cs)).0 e in
    elim m [
      | inl q ↦ own q (either (has x.number given) (past mark x) b.0)
      | inr k ↦ leaves_is mark given cs b.1 y k s
    ]
  where
    own : enq y ≡ enq x → (has x.number given ≡ true) ⊎ (past mark x ≡ true) → Member y.number given
    own q (inl p) = subst (λ z. Member z.number given) (sym (same_enq q)) (has_is x.number given p)
    own q (inr p) = absurd (past_is mark x p (subst (Short mark) (same_enq q) s))
leaves_is mark given (deq d ∷ cs) e y m s = elim m [ inl q ↦ absurd (enq_not_deq q) | inr k ↦ leaves_is mark given cs e y k s ]
leaves_is mark given [] e y m s = elim m [ ]

pub is_leaves : (mark : ℕ) (given : List ℕ) (cs : List Call) → Marks cs mark given → leaves mark given cs ≡ true
is_leaves mark given [] f = refl
is_leaves mark given (enq x ∷ cs) f =
    (and-eq-true_iff (has x.number given || past mark x) (leaves mark given cs)).1
    (go (has x.number given) refl, is_leaves mark given cs (λ y m. f y (inr m)))
  where
    go : (b : Bool) → has x.number given ≡ b → (b || past mark x) ≡ true
    go true e = refl
    go false e = is_past mark x (λ s. true≢false (sym (is_has x.number given (f x (inl refl) s)) ∙ e))
is_leaves mark given (deq d ∷ cs) f = is_leaves mark given cs (λ y m. f y (inr m))

pub marks_both : (cs : List Call) (i j : ℕ) (given : List ℕ) → Marks cs i given → Marks cs j given → Marks cs (max i j) given
marks_both cs i j given p q y m s = go (dec_lt y.end i)
  where
    go : Dec (y.end < i) → Member y.number given
    go (yes l) = p y m (s.0, l)
    go (no f) = q y m (s.0, let l = s.1 in omega arith)

-- What it takes to give the item n with value v at event k.
pub record Gives (cs : List Call) (n v k mark : ℕ) (given : List ℕ) (x : Enqueue) : Type 0 where
  pub member : Member (enq x) cs
  pub number_is : x.number ≡ n
  pub value_is : x.value ≡ v
  pub new : Member n given → ⊥
  pub started : x.start ≤ k
  pub not_short : Short mark x → ⊥

module _ (cs : List Call) (n v k mark : ℕ) (given : List ℕ) (on : ℕ → List ℕ → Bool) where
  pub giving_is :
      giving n v k mark given on (look n cs) ≡ true
      → (x : Enqueue) × Gives cs n v k mark given x × (on (max mark x.start) (n ∷ given) ≡ true)
  giving_is e = go (look n cs) refl e
    where
      go :
          (xs : List Enqueue) → look n cs ≡ xs → giving n v k mark given on xs ≡ true
          → (x : Enqueue) × Gives cs n v k mark given x × (on (max mark x.start) (n ∷ given) ≡ true)
      go [] q e = absurd (false≢true e)
      go (x ∷ xs) q e =
          let a = (and-eq-true_iff (eqb x.value v && not (has n given) && leb x.start k && past mark x)
          (on (max mark x.start) (n ∷ given))).0 e in
          let b = (and-eq-true_iff (eqb x.value v && not (has n given) && leb x.start k) (past mark x)).0 a.0 in
          let c = (and-eq-true_iff (eqb x.value v && not (has n given)) (leb x.start k)).0 b.0 in
          let f = (and-eq-true_iff (eqb x.value v) (not (has n given))).0 c.0 in
          let l = look_is n x cs (subst (Member x) (sym q) (inl refl)) in (
            x,
            record {
              member = l.0;
              number_is = l.1;
              value_is = eqb-true _ _ f.0;
              new = λ m. true≢false (sym (is_has n given m) ∙ not-true _ f.1);
              started = leb-true _ _ c.1;
              not_short = past_is mark x b.1;
            },
            a.1,
          )

  pub is_giving :
      (x : Enqueue) → look n cs ≡ x ∷ [] → Gives cs n v k mark given x → on (max mark x.start) (n ∷ given) ≡ true
      → giving n v k mark given on (look n cs) ≡ true
  is_giving x q g e =
      rw
      (q, eq-eqb x.value v g.value_is, has_not n given g.new, le-leb x.start k g.started, is_past mark x g.not_short)
      e
