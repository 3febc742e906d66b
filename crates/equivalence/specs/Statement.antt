-- When the second of two recordings of one run may be trusted on the word of the first (document 02, U10). Definitions alone; the
-- proof is in Theorem.antt.
use Rattle.std.specs.Prelude.{◌≡◌, cond, List, [], ◌∷◌, map, ℕ, suc, ltb}
use Rattle.history.specs.Event.{History}
use Rattle.history.specs.Calls.{Call, start_of, calls}
use Rattle.history.specs.Linearization.{Queue, Precedes, Linearization, Linearizable}
use Rattle.equivalence.specs.Threads.{events_of, caller_of, calls_of, ranked}

-- Same calls: every thread has the same events in the same order in both (Herlihy and Wing 1990: equivalent histories).
abbrev pub SameCalls : (first second : History) → Type 0
SameCalls first second = (t : ℕ) → events_of t first ≡ events_of t second

-- Everything that ended before something started in the second also did so in the first.
abbrev pub KeepsPrecedence : (first second : History) → Type 0
KeepsPrecedence first second =
    (t k u l : ℕ) → Precedes (ranked second t k) (ranked second u l) → Precedes (ranked first t k) (ranked first u l)

-- how many of some calls started before an event
abbrev pub started_before : ℕ → List Call → ℕ
started_before s [] = 0
started_before s (c ∷ cs) = cond (ltb (start_of c) s) (suc (started_before s cs)) (started_before s cs)

-- the call of the second that a call of the first is matched with
abbrev pub counterpart : (first second : History) → Call → Call
counterpart first second c = ranked second (caller_of c) (started_before (start_of c) (calls_of (caller_of c) (calls first)))

-- Every linearization of the first, call by call, is one of the second, and leaves the same queue.
abbrev pub LinearizationsCarryOver : Type 0
LinearizationsCarryOver =
    (first second : History) → SameCalls first second → KeepsPrecedence first second
    → (order : List Call) (left : Queue) → Linearization first order left
    → Linearization second (map (counterpart first second) order) left

-- If both have the same calls, everything that ended before something started in the second also did so in the first, and the
-- first is linearizable, then so is the second.
abbrev pub LinearizableCarriesOver : Type 0
LinearizableCarriesOver = (first second : History) → SameCalls first second → KeepsPrecedence first second → Linearizable first → Linearizable second
