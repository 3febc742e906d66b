-- Laws of the empty line, of events as lines and of what is printed.
use Rattle.std.specs.Prelude.{◌≡◌, refl, Bool, true, false, ◌&&◌, cond, List, [], ◌∷◌, ◌++◌, ℕ, suc, ◌+◌, ◌≤◌, ◌<◌, eqb, leb, length, take, drop, get_or, Ok, Err}
use Rattle.std.proofs.Math.Path.{ap}
use Rattle.std.proofs.Common.{sym, ◌∙◌, append-nil, append_assoc, arith, add-zero, zero-add, length-append, length-drop, take-suc, drop-cons, length-take-le, le-leb}
use Rattle.std.proofs.Math.Numerals.{add-one}
use Rattle.std.proofs.lemmas.Bool.{lt-leb}
use Rattle.text.specs.Decimal.{digits}
use Rattle.protocol.specs.Words.{space, newline, refused_word, bad_line_word}
use Rattle.protocol.specs.Printed.{number_and, numbered, number_pair}
use Rattle.protocol.specs.Laws.{length_number, length_numbered}
use Rattle.lines.specs.declared.ParseError.TheVariants.{TooLong, BadLine}
use Rattle.lines.specs.Lines.{most_numbers, separator, line_after, Parsed, Reading, reading, Parses}
use Rattle.lines.specs.Laws.{reading_fits, reply_read, numbers_read}
use Rattle.comparison.specs.declared.Recording.{Recording}
use Rattle.comparison.specs.declared.Recording.TheVariants.{First, Second}
use Rattle.comparison.specs.declared.Rest.{Rest}
use Rattle.comparison.specs.Compared.{Reply, Refused, SameCalls, OtherCalls, Comparison, compared, of_two, part_of, handed_back, keeps_to}
use Rattle.comparison.specs.Reply.{recording_number}
use Rattle.history.specs.Form.{most_events, read}
use Rattle.two_recordings.specs.Report.{before_empty, empty_line, event_lines, printed_reply, printed_precedence, printed_comparison, printed_later, printed_second, printed_after, printed_first, reported, most_reply_line, most_precedence_line, most_event_lines, most_report}

-- The empty line, looked for from position i, after the byte `last`.
module _ (s : List ℕ) (last i : ℕ) (h : i < length s) where
  pub empty_here : (eqb last newline && eqb (get_or s i 0) newline) ≡ true → before_empty last (drop i s) ≡ 0
  unfolding before_empty
  empty_here e = rw (drop-cons s i 0, e)

  pub empty_later : (eqb last newline && eqb (get_or s i 0) newline) ≡ false → before_empty last (drop i s) ≡ 1 + before_empty (get_or s i 0) (drop (i + 1) s)
  unfolding before_empty
  empty_later e = rw (drop-cons s i 0, add-one i, e) (omega arith)

-- It stands within the text.
pub empty_within : (last : ℕ) (s : List ℕ) → before_empty last s ≤ length s
unfolding before_empty
empty_within last [] = omega arith
empty_within last (b ∷ bs) = go (eqb last newline && eqb b newline) (empty_within b bs)
  where
    go : (t : Bool) → before_empty b bs ≤ length bs → cond t 0 (suc (before_empty b bs)) ≤ suc (length bs)
    go true l = omega arith
    go false l = omega arith

-- Events as lines, number by number.
event_lines_append : (count : ℕ) (ms ns : List ℕ) → event_lines count (ms ++ ns) ≡ event_lines count ms ++ event_lines (count + length ms) ns
event_lines_append count [] ns = rw add-zero
event_lines_append count (m ∷ ms) ns =
    let e : count + 1 + length ms ≡ count + suc (length ms) = omega arith in
    ap (λ (bs : List ℕ). number_and m (separator (count + 1)) ++ bs) (event_lines_append (count + 1) ms ns)
    ∙ ap (λ (k : ℕ). number_and m (separator (count + 1)) ++ (event_lines (count + 1) ms ++ event_lines k ns)) e
    ∙ sym (append_assoc (number_and m (separator (count + 1))) (event_lines (count + 1) ms) (event_lines (count + suc (length ms)) ns))

pub event_lines_more : (ns : List ℕ) (i : ℕ) → i < length ns → event_lines 0 (take (i + 1) ns) ≡ event_lines 0 (take i ns) ++ number_and (get_or ns i 0) (separator (i + 1))
event_lines_more ns i h =
    let e : 0 + length (take i ns) ≡ i = zero-add (length (take i ns)) ∙ length-take-le i ns (omega arith) in
    ap (λ (k : ℕ). event_lines 0 (take k ns)) (add-one i)
    ∙ ap (event_lines 0) (take-suc ns i 0 h)
    ∙ event_lines_append 0 (take i ns) (get_or ns i 0 ∷ [])
    ∙ ap (λ (k : ℕ). event_lines 0 (take i ns) ++ (number_and (get_or ns i 0) (separator (k + 1)) ++ [])) e
    ∙ ap (λ (bs : List ℕ). event_lines 0 (take i ns) ++ bs) (append-nil (number_and (get_or ns i 0) (separator (i + 1))))

pub length_event_lines : (count : ℕ) (ns : List ℕ) → length (event_lines count ns) ≤ most_event_lines (length ns)
length_event_lines count [] = omega arith
length_event_lines count (n ∷ ns) =
    rw (length-append (number_and n (separator (count + 1)))) (omega (arith, length_number n (separator (count + 1)), length_event_lines (count + 1) ns))

-- The word of a refusal with the recording's number.
pub refused_first : {which : Recording} (n : ℕ) → which ≡ First → refused_word ++ number_pair (recording_number which) n ≡ numbered (refused_word ++ (49 ∷ space ∷ [])) n
unfolding digits
refused_first n e = rw e

pub refused_second : {which : Recording} (n : ℕ) → which ≡ Second → refused_word ++ number_pair (recording_number which) n ≡ numbered (refused_word ++ (50 ∷ space ∷ [])) n
unfolding digits
refused_second n e = rw e

-- What is printed for a comparison, by its value.
pub comparison_printed : (xs ys : List ℕ) {c : Comparison} → c ≡ compared xs ys → printed_comparison xs ys ≡ printed_reply c.reply ++ (printed_precedence c.reply (keeps_to (read most_events xs) (read most_events ys)) ++ event_lines 0 (part_of c.rest xs ys))
unfolding printed_comparison
comparison_printed xs ys e = rw e

-- The lines of the second recording, parsed into a buffer with room for all its numbers.
module _ (xs : List ℕ) {s before after : List ℕ} {r : Parsed} (room : length before ≡ most_numbers) (p : Parses s before after r) where
  pub second_printed : {v : Parsed} → r ≡ v → printed_second xs (reading s most_numbers) ≡ printed_later xs v (reading s most_numbers).numbers
  unfolding printed_second
  second_printed e = ap (λ (v : Parsed). printed_later xs v (reading s most_numbers).numbers) (reply_read room p e)

  pub second_compared : {k : ℕ} → r ≡ Ok k → printed_second xs (reading s most_numbers) ≡ printed_comparison xs (take k after)
  second_compared e = second_printed e ∙ ap (printed_comparison xs) (numbers_read room p e)

-- What follows the first recording: an empty line and the second, or nothing.
module _ (xs s : List ℕ) (end : ℕ) where
  pub nothing_after : length s ≤ end → printed_after xs s end ≡ numbered bad_line_word (line_after (length xs))
  unfolding printed_after
  nothing_after l = simp (le-leb (length s) end l)

  pub second_after : end < length s → printed_after xs s end ≡ printed_second xs (reading (drop (end + 1) s) most_numbers)
  unfolding printed_after
  second_after l = simp (lt-leb (length s) end l)

-- The lines of the first recording, parsed likewise.
module _ (s : List ℕ) {end : ℕ} (ends : end ≡ empty_line s) {before after : List ℕ} {r : Parsed} (room : length before ≡ most_numbers) (p : Parses (take end s) before after r) where
  first_reading : reading (take (empty_line s) s) most_numbers ≡ reading (take end s) most_numbers
  first_reading = ap (λ (k : ℕ). reading (take k s) most_numbers) (sym ends)

  pub first_printed : {v : Parsed} → r ≡ v → reported s ≡ printed_first v (reading (take end s) most_numbers).numbers s
  unfolding reported
  first_printed e =
      ap (λ (x : Reading). printed_first x.reply x.numbers s) first_reading
      ∙ ap (λ (v : Parsed). printed_first v (reading (take end s) most_numbers).numbers s) (reply_read room p e)

  pub first_good : {k : ℕ} → r ≡ Ok k → reported s ≡ printed_after (take k after) s end
  first_good {k} e =
      first_printed e
      ∙ ap (λ (xs : List ℕ). printed_after xs s (empty_line s)) (numbers_read room p e)
      ∙ ap (printed_after (take k after) s) (sym ends)

-- What is printed is short.
pub length_part : (rest : Rest) (xs ys : List ℕ) {n : ℕ} → length xs ≤ n → length ys ≤ n → length (part_of rest xs ys) ≤ n
length_part rest xs ys {n} a b = go rest.recording
  where
    go : (which : Recording) → length (drop rest.from (of_two which xs ys)) ≤ n
    go First = rw length-drop (omega arith)
    go Second = rw length-drop (omega arith)

pub length_pair : (word : List ℕ) (n v : ℕ) → length (word ++ number_pair n v) ≤ length word + 22
length_pair word n v =
    rw (length-append word, length-append (number_and n space)) (omega (arith, length_number n space, length_number v newline))

pub length_reply : (r : Reply) → length (printed_reply r) ≤ most_reply_line
length_reply (Refused which n) = omega (arith, length_pair refused_word (recording_number which) n)
length_reply SameCalls = omega arith
length_reply OtherCalls = omega arith

pub length_precedence : (r : Reply) (kept : Bool) → length (printed_precedence r kept) ≤ most_precedence_line
length_precedence (Refused which n) kept = omega arith
length_precedence SameCalls true = omega arith
length_precedence SameCalls false = omega arith
length_precedence OtherCalls kept = omega arith

length_comparison : (xs ys : List ℕ) → length xs ≤ most_numbers → length ys ≤ most_numbers → length (printed_comparison xs ys) ≤ most_report
unfolding printed_comparison
length_comparison xs ys a b =
    let r = (compared xs ys).reply in
    let kept = keeps_to (read most_events xs) (read most_events ys) in
    let part = length_part (compared xs ys).rest xs ys a b in
    rw (length-append (printed_reply r), length-append (printed_precedence r kept))
    (omega (arith, length_reply r, length_precedence r kept, length_event_lines 0 (handed_back xs ys), part))

length_second : (xs s : List ℕ) → length xs ≤ most_numbers → length (printed_second xs (reading s most_numbers)) ≤ most_report
unfolding printed_second
length_second xs s few = go (reading s most_numbers).reply refl
  where
    go : (v : Parsed) → (reading s most_numbers).reply ≡ v → length (printed_later xs v (reading s most_numbers).numbers) ≤ most_report
    go (Err TooLong) e = omega arith
    go (Err (BadLine line)) e = omega (arith, length_numbered bad_line_word (line_after (length xs) + line))
    go (Ok k) e = length_comparison xs (reading s most_numbers).numbers few (reading_fits s most_numbers e)

length_after : (xs s : List ℕ) (end : ℕ) → length xs ≤ most_numbers → length (printed_after xs s end) ≤ most_report
unfolding printed_after
length_after xs s end few = go (leb (length s) end) (length_second xs (drop (end + 1) s) few)
  where
    go : (b : Bool) → length (printed_second xs (reading (drop (end + 1) s) most_numbers)) ≤ most_report
        → length (cond b (numbered bad_line_word (line_after (length xs))) (printed_second xs (reading (drop (end + 1) s) most_numbers))) ≤ most_report
    go true l = omega (arith, length_numbered bad_line_word (line_after (length xs)))
    go false l = l

pub length_reported : (s : List ℕ) → length (reported s) ≤ most_report
unfolding reported
length_reported s = go (reading (take (empty_line s) s) most_numbers).reply refl
  where
    go : (v : Parsed) → (reading (take (empty_line s) s) most_numbers).reply ≡ v → length (printed_first v (reading (take (empty_line s) s) most_numbers).numbers s) ≤ most_report
    go (Err TooLong) e = omega arith
    go (Err (BadLine line)) e = omega (arith, length_numbered bad_line_word line)
    go (Ok k) e = length_after (reading (take (empty_line s) s) most_numbers).numbers s (empty_line s) (reading_fits (take (empty_line s) s) most_numbers e)
