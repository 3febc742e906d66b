-- Decimal numbers as bytes: how one is read at a position, and how one is printed (document 01, "Program").
use Rattle.std.specs.Prelude.{Option, Some, None, Bool, ◌&&◌, cond, List, [], ◌∷◌, ◌++◌, ℕ, zero, suc, ◌+◌, ◌-◌, ◌*◌, ◌/◌, ◌%◌, leb, ltb, eqb, get_or, drop}
use Rattle.text.specs.declared.Number.{Number}

-- the largest number
abbrev pub most_number : ℕ
most_number = 4294967295

-- A number that was read, and the position after it.
abbrev pub read : (value next : ℕ) → Option Number
read n next = Some (record { value = n; next = next })

-- a byte from '0' to '9'
abbrev pub is_digit : ℕ → Bool
is_digit b = leb 48 b && leb b 57

-- The digits at the front of the bytes, which begin at position `at`, after digits whose number is n: the number of all of them
-- with the position after the last, or none where it passes the largest.
unfoldable pub digits_from : (at n : ℕ) → List ℕ → Option Number
digits_from at n [] = read n at
digits_from at n (b ∷ bs) =
    cond (is_digit b)
    (cond (leb (n * 10 + (b - 48)) most_number) (digits_from (at + 1) (n * 10 + (b - 48)) bs) None)
    (read n at)

-- What follows a leading zero, at position `at`: no digit.
abbrev pub after_zero : List ℕ → (at : ℕ) → Option Number
after_zero s at = cond (is_digit (get_or s at 0)) None (read 0 at)

-- The number at a position: all the digits there, at least one, none after a leading zero, up to 4,294,967,295.
unfoldable pub number_at : List ℕ → (at : ℕ) → Option Number
number_at s at =
    cond (is_digit (get_or s at 0))
    (cond (eqb (get_or s at 0) 48) (after_zero s (at + 1)) (digits_from at 0 (drop at s)))
    None

-- the byte of a digit
abbrev pub digit : ℕ → ℕ
digit d = 48 + d

-- A number's digits, at most k of them, without leading zeros.
unfoldable pub digits : (k n : ℕ) → List ℕ
digits zero n = []
digits (suc k) n = cond (ltb n 10) (digit n ∷ []) (digits k (n / 10) ++ (digit (n % 10) ∷ []))

-- the most digits that a number has
abbrev pub most_digits : ℕ
most_digits = 10

-- The bytes that print a number.
abbrev pub decimal : ℕ → List ℕ
decimal n = digits most_digits n
