-- From the judge's reply to the word that is printed, and from the parsed lines to the report.
use Rattle.std.specs.Prelude.{Option, Some, None, Result, Ok, Err, ◌≡◌, refl, Bool, true, false, cond, List, [], ◌∷◌, ◌++◌, ℕ, ◌+◌, ◌*◌, ◌≤◌, ◌<◌, length, take, drop, get_or}
use Rattle.std.proofs.Math.Path.{ap}
use Rattle.std.proofs.Common.{sym, ◌∙◌, append-nil, append_assoc, arith, add-one, length-append, take-suc}
use Rattle.std.proofs.Math.Seq.{take-append_seam}
use Rattle.history.specs.Calls.{calls}
use Rattle.history.specs.Form.{most_events, Reading, refused, history, read}
use Rattle.criterion.specs.Pass.{explains}
use Rattle.criterion.specs.Order.{order_numbers}
use Rattle.criterion.specs.Shown.{order_fits}
use Rattle.reading.specs.declared.Refusal.{Refusal}
use Rattle.reading.specs.Refusal.{numbered}
use Rattle.judge.specs.Contract.{reply, orders_over, order_written, JudgesAlone}
use Rattle.reading.specs.Admitted.{LetThrough, read_lets_through}
use Rattle.judge.specs.Admitted.{largest_room_admits}
use Rattle.lines.specs.declared.ParseError.TheVariants.{TooLong, BadLine}
use Rattle.lines.specs.Lines.{Parsed, most_numbers, reading, Parses}
use Rattle.lines.specs.Laws.{reply_read, numbers_read}
use Rattle.text.specs.Decimal.{most_digits, decimal}
use Rattle.text.specs.Laws.{length_digits}
use Rattle.protocol.specs.Words.{space, newline, refused_word, bad_line_word}
use Rattle.protocol.specs.Printed.{printed_verdict}
use Rattle.protocol.specs.Laws.{length_numbered}
use Rattle.recording.specs.Report.{printed_reading, word_of, spaced, order_line, printed_order, printed_judged, most_order_line, most_word, most_report, printed_parsed, reported}

-- The word for the judge's reply is the judge's word.
verdict_printed : (k : ℕ) (b : Bool) → printed_verdict b ≡ word_of (Ok (cond b (Some k) None))
verdict_printed k true = refl
verdict_printed k false = refl

word_printed : (x : Reading) → printed_reading x ≡ word_of (reply x)
word_printed (refused n) = refl
word_printed (history h) = verdict_printed (length (order_numbers (calls h))) (explains h)

-- What is printed of the order: the first words of the buffer, as many as the reply says.
abbrev pub line_after : Result (Option ℕ) ℕ → List ℕ → List ℕ
line_after (Err n) order = []
line_after (Ok (Some n)) order = order_line (take n order)
line_after (Ok None) order = []

order_printed : (ns : List ℕ) (b : Bool) (order : List ℕ) → cond b (order_line ns) [] ≡ line_after (Ok (cond b (Some (length ns)) None)) (cond b (orders_over ns order) order)
order_printed ns true order = ap order_line (sym (take-append_seam ns (drop (length ns) order)))
order_printed ns false order = refl

line_printed : (x : Reading) (order : List ℕ) → printed_order x ≡ line_after (reply x) (order_written x order)
line_printed (refused n) order = refl
line_printed (history h) order = order_printed (order_numbers (calls h)) (explains h) order

module _ {ws order order' : List ℕ} {r : Result (Option ℕ) Refusal} (long : most_events ≤ length order) (j : JudgesAlone ws order order' r) where
  replied : numbered r ≡ reply (read most_events ws)
  replied = j.replies ∙ ap reply (largest_room_admits (length order) long ws)

  pub judges_word : printed_reading (read most_events ws) ≡ word_of (numbered r)
  judges_word = word_printed (read most_events ws) ∙ ap word_of (sym replied)

  pub judges_line : printed_order (read most_events ws) ≡ line_after (numbered r) order'
  judges_line =
      line_printed (read most_events ws) order
      ∙ ap (λ (v : Result (Option ℕ) ℕ). line_after v (order_written (read most_events ws) order)) (sym replied)
      ∙ ap (line_after (numbered r)) (sym (j.orders ∙ ap (λ x. order_written x order) (largest_room_admits (length order) long ws)))

  -- the order's line follows the word where the reply is explained; else the word is all
  pub explained_and_line : {n : ℕ} → r ≡ Ok (Some n) → printed_judged (read most_events ws) ≡ word_of (numbered r) ++ order_line (take n order')
  explained_and_line e = rw (judges_line, judges_word, e)

  pub refused_alone : {n : Refusal} → r ≡ Err n → printed_judged (read most_events ws) ≡ word_of (numbered r)
  refused_alone e = rw (judges_line, judges_word, e, append-nil)

  pub unexplained_alone : r ≡ Ok None → printed_judged (read most_events ws) ≡ word_of (numbered r)
  unexplained_alone e = rw (judges_line, judges_word, e)

  -- the order has at most a number for each event
  pub order_short : {n : ℕ} → r ≡ Ok (Some n) → n ≤ most_events
  order_short {n} e = go (read most_events ws) (read_lets_through most_events ws) (sym replied ∙ ap numbered e)
    where
      go : (x : Reading) → LetThrough most_events ws x → reply x ≡ Ok (Some n) → n ≤ most_events
      go (refused k) l q = absurd (let z : ◌≡◌ {A = ℕ} 0 1 = cc in omega arith)
      go (history h) l q = next (explains h) refl q
        where
          next : (b : Bool) → explains h ≡ b → ◌≡◌ {A = Result (Option ℕ) ℕ} (Ok (cond b (Some (length (order_numbers (calls h)))) None)) (Ok (Some n)) → n ≤ most_events
          next true e q = let same : length (order_numbers (calls h)) ≡ n = cc in omega (arith, same, order_fits h l.formed e, l.few)
          next false e q = absurd (let z : ◌≡◌ {A = ℕ} 0 1 = cc in omega arith)

-- The report on lines that were parsed into a buffer with room for all its numbers.
module _ {s before after : List ℕ} {r : Parsed} (room : length before ≡ most_numbers) (p : Parses s before after r) where
  pub reported_is : {v : Parsed} → r ≡ v → reported s ≡ printed_parsed v (reading s most_numbers).numbers
  unfolding reported
  reported_is e = ap (λ (x : Parsed). printed_parsed x (reading s most_numbers).numbers) (reply_read room p e)

  pub reported_numbers : {k : ℕ} → r ≡ Ok k → reported s ≡ printed_judged (read most_events (take k after))
  reported_numbers e = reported_is e ∙ ap (λ (ns : List ℕ). printed_judged (read most_events ns)) (numbers_read room p e)

-- What is printed is short.
pub length_verdict : (b : Bool) → length (printed_verdict b) ≤ 12
length_verdict true = omega arith
length_verdict false = omega arith

pub length_word_of : (v : Result (Option ℕ) ℕ) → length (word_of v) ≤ most_word
length_word_of (Err n) = omega (arith, length_numbered refused_word n)
length_word_of (Ok (Some n)) = omega arith
length_word_of (Ok None) = omega arith

length_word : (x : Reading) → length (printed_reading x) ≤ most_word
length_word x = rw (word_printed x) (length_word_of (reply x))

-- An order's line, number by number.
pub spaced_append : (ms ns : List ℕ) → spaced (ms ++ ns) ≡ spaced ms ++ spaced ns
spaced_append [] ns = refl
spaced_append (m ∷ ms) ns = ap (λ (bs : List ℕ). (space ∷ decimal m) ++ bs) (spaced_append ms ns) ∙ sym (append_assoc (space ∷ decimal m) (spaced ms) (spaced ns))

pub length_spaced : (ns : List ℕ) → length (spaced ns) ≤ 11 * length ns
length_spaced [] = omega arith
length_spaced (n ∷ ns) = rw length-append (omega (arith, length_digits most_digits n, length_spaced ns))

-- one number more
pub spaced_more : (ns : List ℕ) (i : ℕ) → i < length ns → spaced (take (i + 1) ns) ≡ spaced (take i ns) ++ ((space ∷ []) ++ decimal (get_or ns i 0))
spaced_more ns i h =
    ap (λ (k : ℕ). spaced (take k ns)) (add-one i)
    ∙ ap spaced (take-suc ns i 0 h)
    ∙ spaced_append (take i ns) (get_or ns i 0 ∷ [])
    ∙ ap (λ (bs : List ℕ). spaced (take i ns) ++ (space ∷ bs)) (append-nil (decimal (get_or ns i 0)))

-- The whole report.
length_order : (ws : List ℕ) (x : Reading) → LetThrough most_events ws x → length (printed_order x) ≤ most_order_line most_events
length_order ws (refused n) l = omega arith
length_order ws (history h) l = go (explains h) refl
  where
    go : (b : Bool) → explains h ≡ b → length (cond b (order_line (order_numbers (calls h))) []) ≤ most_order_line most_events
    go true e =
        rw (length-append {A = ℕ} (spaced (order_numbers (calls h))) (newline ∷ []))
        (omega (arith, length_spaced (order_numbers (calls h)), order_fits h l.formed e, l.few))
    go false e = omega arith

length_parsed : (r : Parsed) (ns : List ℕ) → length (printed_parsed r ns) ≤ most_report
length_parsed (Err TooLong) ns = omega arith
length_parsed (Err (BadLine line)) ns = omega (arith, length_numbered bad_line_word line)
length_parsed (Ok k) ns =
    rw length-append (omega (arith, length_word (read most_events ns), length_order ns (read most_events ns) (read_lets_through most_events ns)))

pub length_reported : (s : List ℕ) → length (reported s) ≤ most_report
unfolding reported
length_reported s = length_parsed (reading s most_numbers).reply (reading s most_numbers).numbers
