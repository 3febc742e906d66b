-- The calls of any history, well-formed or not, start at different events, in rising order; so a call's start tells its number.
use Rattle.std.specs.Prelude.{◌≡◌, refl, List, [], ◌∷◌, ◌++◌, map, ℕ, zero, suc, ◌-◌, ◌<◌, length, get_or}
use Rattle.std.proofs.Common.{sym, subst, ap, ◌∙◌, arith}
use Rattle.std.proofs.lemmas.List.{length-map}
use Rattle.std.proofs.Math.ListN.{get_or-map}
use Rattle.history.specs.Lists.{All, Pairwise}
use Rattle.history.specs.Event.{History, enqueue_started, enqueue_ended, dequeue_started, gave_item, gave_empty}
use Rattle.history.specs.Calls.{Answer, item, empty, Call, enq, deq, start_of, end_enqueue, end_dequeue, calls}
use Rattle.history.specs.Shows.{no_call, numbered, Numbers}

-- numbers below n, each below those after it
pub record Rising (n : ℕ) (l : List ℕ) : Type 0 where
  pub below : All (λ s. s < n) l
  pub rises : Pairwise ◌<◌ l

below_more : (n : ℕ) (l : List ℕ) → All (λ s. s < n) l → All (λ s. s < suc n) l
below_more n [] p = tt
below_more n (x ∷ l) p = (omega (arith, p.0), below_more n l p.1)

all_and_last : (k n : ℕ) (l : List ℕ) → k < n → All (λ s. k < s) l → All (λ s. k < s) (l ++ (n ∷ []))
all_and_last k n [] e p = (e, tt)
all_and_last k n (x ∷ l) e p = (p.0, all_and_last k n l e p.1)

below_and_last : (n : ℕ) (l : List ℕ) → All (λ s. s < n) l → All (λ s. s < suc n) (l ++ (n ∷ []))
below_and_last n [] p = (omega arith, tt)
below_and_last n (x ∷ l) p = (omega (arith, p.0), below_and_last n l p.1)

rises_to_last : (n : ℕ) (l : List ℕ) → All (λ s. s < n) l → Pairwise ◌<◌ l → Pairwise ◌<◌ (l ++ (n ∷ []))
rises_to_last n [] b p = (tt, tt)
rises_to_last n (x ∷ l) b p = (all_and_last x n l b.0 p.0, rises_to_last n l b.1 p.1)

one_more : (n : ℕ) (l : List ℕ) → Rising n l → Rising (suc n) (l ++ (n ∷ []))
one_more n l r = record { below = below_and_last n l r.below; rises = rises_to_last n l r.below r.rises }

no_more : (n : ℕ) (l : List ℕ) → Rising n l → Rising (suc n) l
no_more n l r = record { below = below_more n l r.below; rises = r.rises }

-- an end leaves every start
same_starts : (f : Call → Call) → ((c : Call) → start_of (f c) ≡ start_of c) → (cs : List Call) → map start_of (map f cs) ≡ map start_of cs
same_starts f e [] = refl
same_starts f e (c ∷ cs) = let a = e c in let b = same_starts f e cs in cc

enqueue_start : (t k : ℕ) (c : Call) → start_of (end_enqueue t k c) ≡ start_of c
enqueue_start t k (enq x) = refl
enqueue_start t k (deq d) = refl

dequeue_start : (k : ℕ) (a : Answer) (c : Call) → start_of (end_dequeue k a c) ≡ start_of c
dequeue_start k a (enq x) = refl
dequeue_start k a (deq d) = refl

last_start : (c : Call) (cs : List Call) → map start_of (cs ++ (c ∷ [])) ≡ map start_of cs ++ (start_of c ∷ [])
last_start c [] = refl
last_start c (x ∷ cs) = ap (λ l. start_of x ∷ l) (last_start c cs)

pub starts_rise : (h : History) → Rising (suc (length h)) (map start_of (calls h))
starts_rise [] = record { below = tt; rises = tt }
starts_rise (enqueue_started t n v ∷ h) = subst (Rising _) (sym (last_start _ (calls h))) (one_more _ _ (starts_rise h))
starts_rise (enqueue_ended t n v ∷ h) = subst (Rising _) (sym (same_starts _ (enqueue_start t _) (calls h))) (no_more _ _ (starts_rise h))
starts_rise (dequeue_started ∷ h) = subst (Rising _) (sym (last_start _ (calls h))) (one_more _ _ (starts_rise h))
starts_rise (gave_item n v ∷ h) = subst (Rising _) (sym (same_starts _ (dequeue_start _ (item n v)) (calls h))) (no_more _ _ (starts_rise h))
starts_rise (gave_empty ∷ h) = subst (Rising _) (sym (same_starts _ (dequeue_start _ empty) (calls h))) (no_more _ _ (starts_rise h))

-- what stands at a place of a list
all_at : (P : ℕ → Type 0) (l : List ℕ) → All P l → (i : ℕ) → i < length l → P (get_or l i 0)
all_at P [] p i b = absurd (omega arith)
all_at P (x ∷ l) p zero b = p.0
all_at P (x ∷ l) p (suc i) b = all_at P l p.1 i (omega arith)

one_place : (l : List ℕ) → Pairwise ◌<◌ l → (i j : ℕ) → i < length l → j < length l → get_or l i 0 ≡ get_or l j 0 → i ≡ j
one_place [] p i j a b e = absurd (omega arith)
one_place (x ∷ l) p zero zero a b e = refl
one_place (x ∷ l) p zero (suc j) a b e = let z = all_at (λ s. x < s) l p.0 j (omega arith) in absurd (omega arith)
one_place (x ∷ l) p (suc i) zero a b e = let z = all_at (λ s. x < s) l p.0 i (omega arith) in absurd (omega arith)
one_place (x ∷ l) p (suc i) (suc j) a b e = ap suc (one_place l p.1 i j (omega arith) (omega arith) e)

-- Two starting numbers of calls with one start are the same.
pub start_tells_number :
    (h : History) (a b : ℕ) → Numbers (calls h) a → Numbers (calls h) b → start_of (numbered (calls h) a) ≡ start_of (numbered (calls h) b) → a ≡ b
start_tells_number h a b p q e =
    let cs = calls h in
    let len = length-map cs start_of in
    let at : (n : ℕ) → get_or (map start_of cs) (n - 1) 0 ≡ start_of (numbered cs n) = λ n. get_or-map start_of cs (n - 1) no_call in
    let z =
    one_place (map start_of cs) (starts_rise h).rises (a - 1) (b - 1) (omega (arith, p, q, len)) (omega (arith, p, q, len)) (at a ∙ e ∙ sym (at b)) in
    omega (arith, p, q, z)
