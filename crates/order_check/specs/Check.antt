-- The check of an order as a computation (document 02, U9): one test for each part of `Shows` and of `Linearization`.
use Rattle.std.specs.Prelude.{Bool, true, false, ◌&&◌, ◌||◌, not, List, [], ◌∷◌, ℕ, suc, leb, ltb, eqb, length, Result, Ok, Err}
use Rattle.std.proofs.Math.Option.{Option, none, some}
use Rattle.history.specs.Event.{History}
use Rattle.history.specs.Calls.{Call, start_of, end_of, calls}
use Rattle.history.specs.Form.{Reading, refused, history}
use Rattle.history.specs.Linearization.{run}
use Rattle.history.specs.Shows.{listed}

module _ {A : Type 0} where
  -- p says yes to every element
  abbrev pub every : (A → Bool) → List A → Bool
  every p [] = true
  every p (x ∷ xs) = p x && every p xs

  -- r says yes to every two elements, the earlier one first
  abbrev pub every_two : (A → A → Bool) → List A → Bool
  every_two r [] = true
  every_two r (x ∷ xs) = every (r x) xs && every_two r xs

  abbrev pub is_some : Option A → Bool
  is_some none = false
  is_some (some x) = true

-- n is one of the numbers
abbrev pub has : ℕ → List ℕ → Bool
has n [] = false
has n (k ∷ ns) = eqb k n || has n ns

-- n is the starting number of one of the calls
abbrev pub is_number : List Call → ℕ → Bool
is_number cs n = leb 1 n && leb n (length cs)

-- a ended before b started
abbrev pub precedes : Call → Call → Bool
precedes a b = not (eqb (end_of a) 0) && ltb (end_of a) (start_of b)

-- The tests that a beginning of an order must pass as well: starting numbers, none of them twice; no call behind one that started
-- after it had ended; and the calls run in that order on a queue, empty at first.
unfoldable pub orderly : List Call → List ℕ → Bool
orderly cs ns =
    every (is_number cs) ns
    && every_two (λ a b. not (eqb a b)) ns
    && every_two (λ a b. not (precedes b a)) (listed cs ns)
    && is_some (run [] (listed cs ns))

-- Every ended one of the calls is listed, where the first of them has number n.
abbrev pub keeps : (n : ℕ) → List Call → List ℕ → Bool
keeps n [] ns = true
keeps n (c ∷ cs) ns = (eqb (end_of c) 0 || has n ns) && keeps (suc n) cs ns

-- The numbers are an order of the history's calls that is a linearization (specs/Decides.antt).
unfoldable pub is_order : History → List ℕ → Bool
is_order h ns = orderly (calls h) ns && keeps 1 (calls h) ns

-- The reply on what the words are read as: a refusal's number, or whether the numbers are such an order.
abbrev pub checked : Reading → List ℕ → Result Bool ℕ
checked (refused n) ns = Err n
checked (history h) ns = Ok (is_order h ns)
