-- The number of each refusal, and of what a call answers: 0 where it is done (document 02, U13).
use Rattle.std.specs.Prelude.{ℕ, Result, Ok, Err}
use Rattle.census.specs.declared.Refusal.{Refusal}
use Rattle.census.specs.declared.Refusal.TheVariants.{Item, Table, Office, Board}

abbrev pub refusal_number : Refusal → ℕ
refusal_number Item = 19
refusal_number Table = 20
refusal_number Office = 21
refusal_number Board = 22

abbrev pub answer_number : Result (Unit {0}) Refusal → ℕ
answer_number (Ok done) = 0
answer_number (Err refusal) = refusal_number refusal
