-- The numbers of the refusals (document 01's table, and 16 of document 02).
use Rattle.std.specs.Prelude.{ℕ, Result, Ok, Err}
use Rattle.reading.specs.declared.Refusal.{Refusal}
use Rattle.reading.specs.declared.Refusal.TheVariants.{Length, Table, Form, Follows, Order}

abbrev pub refusal_number : Refusal → ℕ
refusal_number Length = 10
refusal_number Table = 11
refusal_number Form = 12
refusal_number Follows = 13
refusal_number Order = 16

-- A reply with its refusal's number.
abbrev pub numbered : {A : Type 0} → Result A Refusal → Result A ℕ
numbered (Ok x) = Ok x
numbered (Err refusal) = Err (refusal_number refusal)
