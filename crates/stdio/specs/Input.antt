-- What reading the input answers. Which bytes are read no contract can say.
use Rattle.std.specs.Prelude.{ℕ, zero, suc, Option, Some, None, Result, Ok, Err}

-- What a read's answer says: that it failed, how many bytes it gave, or, where it gave none, that the input has ended.
abbrev pub read_answer : {E : Type 0} → Result ℕ E → Result (Option ℕ) E
read_answer (Ok zero) = Ok None
read_answer (Ok (suc k)) = Ok (Some (suc k))
read_answer (Err e) = Err e
