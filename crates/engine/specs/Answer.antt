-- What a call leaves of the lent words.
use Rattle.std.specs.Prelude.{List, ℕ}
use Rattle.rules.specs.Request.{Request, Result, result}

-- A call on a store, by the buffer that it is lent and the word that the caller names. (A start is lent none, and looks at neither.)
abbrev pub called : Request → (words : List ℕ) → (buffer : List ℕ) (from : ℕ) → Result
called q m = λ b i. result (record { request = q; buffer = b; from = i }) m
