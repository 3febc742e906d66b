-- Laws of lines and of what is printed.
use Rattle.std.specs.Prelude.{◌≡◌, refl, Bool, true, false, ◌&&◌, cond, List, [], ◌∷◌, ◌++◌, ℕ, suc, ◌+◌, ◌≤◌, eqb, nat_eq, nat_lt, not, length, take, drop, Some, None, unwrap_or}
use Rattle.std.proofs.Common.{ap, sym, ltb-false, ◌∙◌, arith, length-append}
use Rattle.std.proofs.Math.Numerals.{one-add}
use Rattle.std.specs.List.{position, position_or_len, starts_with as slice_starts_with}
use Rattle.std.proofs.lemmas.Cmp.{nat_eq_equiv}
use Rattle.std.proofs.lemmas.List.Sums.{prefix_len-le-length}
use Rattle.std.proofs.lemmas.List.Recursion.{is_position_or_len}
use Rattle.text.specs.Decimal.{decimal}
use Rattle.text.specs.Laws.{length_digits}
use Rattle.rules.specs.Rule.{Response, refused, accepted, ok, started, going, ended, empty, item, drained}
use Rattle.protocol.specs.Words.{space, newline, ok_word, end_word, empty_word, item_word, refused_word}
use Rattle.protocol.specs.Line.{line_length, push, lines_of, starts_with}
use Rattle.protocol.specs.Printed.{number_and, numbered, number_pair, printed, most_printed}

-- The first line and those after it.
pub first_line : (b : ℕ) (bs : List ℕ) → lines_of (b ∷ bs) ≡ take (line_length (b ∷ bs)) (b ∷ bs) ∷ lines_of (drop (suc (line_length (b ∷ bs))) (b ∷ bs))
unfolding lines_of line_length
first_line b [] = go (eqb b newline)
  where
    go : (t : Bool) → cond t ([] ∷ lines_of []) (push b (lines_of [])) ≡ take (cond t 0 (suc (line_length []))) (b ∷ []) ∷ lines_of (drop (suc (cond t 0 (suc (line_length [])))) (b ∷ []))
    go true = refl
    go false = refl
first_line b (d ∷ ds) = go (eqb b newline) (first_line d ds)
  where
    go : (t : Bool) → lines_of (d ∷ ds) ≡ take (line_length (d ∷ ds)) (d ∷ ds) ∷ lines_of (drop (suc (line_length (d ∷ ds))) (d ∷ ds)) → cond t ([] ∷ lines_of (d ∷ ds)) (push b (lines_of (d ∷ ds))) ≡ take (cond t 0 (suc (line_length (d ∷ ds)))) (b ∷ d ∷ ds) ∷ lines_of (drop (suc (cond t 0 (suc (line_length (d ∷ ds))))) (b ∷ d ∷ ds))
    go true e = refl
    go false e = ap (push b) e

-- The line's end is the first newline's position, or the end.
line_ends : (s : List ℕ) → line_length s ≡ position_or_len (λ b. nat_eq b newline) s
unfolding line_length
line_ends s = is_position_or_len line_length (λ b. nat_eq b newline) refl (λ b bs. ap (cond (eqb b newline) 0) (sym (one-add (line_length bs)))) s

pub line_length_position : (s : List ℕ) → unwrap_or (position (λ b. nat_eq b newline) s) (length s) ≡ line_length s
line_length_position s = go (nat_lt at (length s)) refl
  where
    at : ℕ
    at = position_or_len (λ b. nat_eq b newline) s

    go : (t : Bool) → nat_lt at (length s) ≡ t → unwrap_or (cond t (Some at) None) (length s) ≡ line_length s
    go true e = sym (line_ends s)
    go false e =
        let l : length s ≡ at = omega (arith, ltb-false at (length s) e, prefix_len-le-length (λ b. not (nat_eq b newline)) s) in
        l ∙ sym (line_ends s)

-- A word in front, as the slice's method tests it.
starts_method : (s word : List ℕ) → slice_starts_with nat_eq s word ≡ starts_with word s
unfolding starts_with
starts_method s [] = refl
starts_method [] (w ∷ ws) = refl
starts_method (b ∷ bs) (w ∷ ws) = rw (starts_method bs ws) (ap (λ (t : Bool). t && starts_with ws bs) (nat_eq_equiv.symm w b))

pub begins : (s word : List ℕ) {t : Bool} → t ≡ slice_starts_with nat_eq s word → starts_with word s ≡ t
begins s word e = sym (e ∙ starts_method s word)

-- A reply's line is short.
pub length_decimal : (n : ℕ) → length (decimal n) ≤ 10
length_decimal n = length_digits 10 n

pub length_number : (n end : ℕ) → length (number_and n end) ≤ 11
length_number n end = simp length-append (omega (arith, length_decimal n))

pub length_numbered : (word : List ℕ) (n : ℕ) → length (numbered word n) ≤ length word + 11
length_numbered word n = rw (length-append word) (omega (arith, length_number n newline))

length_item : (n v k : ℕ) → length (item_word ++ (number_and n space ++ number_pair v k)) ≤ most_printed
length_item n v k =
    rw (length-append item_word, length-append (number_and n space), length-append (number_and v space))
    (omega (arith, length_number n space, length_number v space, length_number k newline))

pub length_printed : (r : Response) → length (printed r) ≤ most_printed
unfolding printed
length_printed (refused n) = omega (arith, length_numbered refused_word n)
length_printed (accepted ok k) = omega arith
length_printed (accepted (started n) k) = omega (arith, length_numbered ok_word n)
length_printed (accepted going k) = omega arith
length_printed (accepted ended k) = omega (arith, length_numbered end_word k)
length_printed (accepted empty k) = omega (arith, length_numbered empty_word k)
length_printed (accepted (item n v) k) = omega (arith, length_item n v k)
length_printed (accepted (drained items) k) = omega arith
