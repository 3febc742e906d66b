-- What the enum that turns a call down means: the table's number of each case (document 01, "Where a call is turned down"; document 02, U5).
use Rattle.std.specs.Prelude.{◌≡◌, ℕ, suc, Result, MatchResult}
use Rattle.std.proofs.Common.{arith}
use Rattle.store.specs.declared.Refusal.{Refusal}
use Rattle.store.specs.declared.Refusal.TheVariants.{Sizes, Short, OutOfRange, NoThread, Busy, NoStartLeft, Idle, NoneFree, Broken, Limit, BufferShort}

abbrev pub refusal_number : Refusal → ℕ
refusal_number Sizes = 1
refusal_number Short = 2
refusal_number OutOfRange = 3
refusal_number NoThread = 4
refusal_number Busy = 5
refusal_number NoStartLeft = 6
refusal_number Idle = 7
refusal_number NoneFree = 8
refusal_number Broken = 9
refusal_number Limit = 14
refusal_number BufferShort = 15

-- What a needed link gives: the record that it names, or refusal 9 where it is none.
abbrev pub Needed : (link : ℕ) → Result ℕ Refusal → Type 0
Needed l x = MatchResult x (λ r. l ≡ suc r) (λ e. (l ≡ 0) × (e ≡ Broken))

-- A refusal's number is not 0, which C gets of a call that is accepted.
pub refuses : (e : Refusal) → refusal_number e ≡ 0 → ⊥
refuses Sizes h = omega arith
refuses Short h = omega arith
refuses OutOfRange h = omega arith
refuses NoThread h = omega arith
refuses Busy h = omega arith
refuses NoStartLeft h = omega arith
refuses Idle h = omega arith
refuses NoneFree h = omega arith
refuses Broken h = omega arith
refuses Limit h = omega arith
refuses BufferShort h = omega arith
