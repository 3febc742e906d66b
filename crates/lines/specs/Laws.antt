-- Laws of reading: each step of the parser, and the count of what it reads.
use Rattle.std.specs.Prelude.{Option, Some, None, Ok, Err, ◌≡◌, refl, Bool, true, false, cond, List, [], ◌∷◌, ◌++◌, leb, eqb, length, set, take, drop, get_or}
use Rattle.std.proofs.Common.{ap, sym, ◌∙◌, subst, arith, zero-add, length-append, take_at, le-leb, eq-eqb, ne_eqb}
use Prim.Native.Nat.{ℕ, zero, suc, ◌+◌, ◌-◌, ◌%◌, ◌≤◌, ◌<◌}
use Rattle.std.proofs.Math.Numerals.{sub-one}
use Rattle.std.proofs.lemmas.List.Edits.{sets, sets-eq}
use Rattle.std.proofs.Math.Seq.{length-sets}
use Rattle.std.proofs.lemmas.Bool.{lt-leb}
use Rattle.text.specs.declared.Number.{Number}
use Rattle.text.specs.Decimal.{read, number_at}
use Rattle.text.specs.Laws.{sets_append}
use Rattle.lines.specs.declared.ParseError.TheVariants.{TooLong, BadLine}
use Rattle.lines.specs.Lines.{Parsed, separator, is_parted, line_after, ending, Reading, stop, with_number, numbers_from, reading, Parses}

-- A position: the text ends there, there is no room for another number, or a number is read.
module _ (s : List ℕ) (at : ℕ) (ns : List ℕ) where
  text_ends : (room : ℕ) → length s ≤ at → numbers_from room s at ns ≡ stop (ending (length ns)) ns
  unfolding numbers_from
  text_ends zero l = simp (le-leb (length s) at l)
  text_ends (suc room) l = simp (le-leb (length s) at l)

  no_room : (room : ℕ) → room ≡ 0 → at < length s → numbers_from room s at ns ≡ stop (Err TooLong) ns
  unfolding numbers_from
  no_room room e l = rw e (simp (lt-leb (length s) at l))

  one_number : (room : ℕ) → 0 < room → at < length s → numbers_from room s at ns ≡ with_number s ns (number_at s at) (numbers_from (room - 1) s)
  unfolding numbers_from
  one_number zero p l = absurd (omega arith)
  one_number (suc room) p l = rw sub-one (simp (lt-leb (length s) at l))

-- What holds before each number: those before it are stored, and reading on gives the answer.
pub record Going (s before buffer : List ℕ) (at count : ℕ) : Type 0 where
  pub numbers : List ℕ
  pub room : ℕ
  pub counted : length numbers ≡ count
  pub fits : count + room ≡ length before
  pub stored : buffer ≡ sets before 0 numbers
  pub left : numbers_from room s at numbers ≡ reading s (length before)

pub going_begins : (s before : List ℕ) → Going s before before 0 0
going_begins s before = record { numbers = []; room = length before; counted = refl; fits = omega arith; stored = refl; left = refl }

answers : {s before buffer ns : List ℕ} {r : Parsed} → buffer ≡ sets before 0 ns → stop r ns ≡ reading s (length before) → Parses s before buffer r
answers {s} {before} e d =
    record { reply_is = ap (λ (x : Reading). x.reply) d; after_is = e ∙ ap (λ (x : Reading). sets before 0 x.numbers) d }

module _ {s before buffer : List ℕ} {at count : ℕ} (g : Going s before buffer at count) where
  pub going_ends : length s ≤ at → Parses s before buffer (ending count)
  going_ends l = rw (← g.counted) (answers g.stored (sym (text_ends s at g.numbers g.room l) ∙ g.left))

  pub too_long : at < length s → length before ≤ count → Parses s before buffer (Err TooLong)
  too_long l h = answers g.stored (sym (no_room s at g.numbers g.room (omega arith) l) ∙ g.left)

-- The number that is read next.
module _ {s before buffer : List ℕ} {at count : ℕ} (g : Going s before buffer at count) (more : at < length s) (room : count < length before) where
  next_number : with_number s g.numbers (number_at s at) (numbers_from (g.room - 1) s) ≡ reading s (length before)
  next_number = sym (one_number s at g.numbers g.room (omega arith) more) ∙ g.left

  pub no_number : number_at s at ≡ None → Parses s before buffer (Err (BadLine (line_after count)))
  no_number e = rw (← g.counted) (answers g.stored (rw e at next_number))

  module _ {n next : ℕ} (e : number_at s at ≡ read n next) where
    counted_more : length (g.numbers ++ (n ∷ [])) ≡ count + 1
    counted_more = rw length-append (omega (arith, g.counted))

    stored_more : set buffer count n ≡ sets before 0 (g.numbers ++ (n ∷ []))
    stored_more =
        let k : count ≡ 0 + length g.numbers = omega (arith, g.counted) in
        ap (λ (b : List ℕ). set b count n) g.stored
        ∙ ap (λ (i : ℕ). set (sets before 0 g.numbers) i n) k
        ∙ sets_append before 0 g.numbers (n ∷ [])

    going_on : is_parted s next (count + 1) ≡ true → Going s before (set buffer count n) (next + 1) (count + 1)
    going_on p =
        record {
          numbers = g.numbers ++ (n ∷ []);
          room = g.room - 1;
          counted = counted_more;
          fits = omega (arith, g.fits);
          stored = stored_more;
          left = rw (e, counted_more, p) at next_number;
        }

    pub ends_after : length s ≤ next → Parses s before (set buffer count n) (ending (count + 1))
    ends_after l = going_ends (going_on (simp (le-leb (length s) next l))) (omega arith)

    pub goes_on_lem : next < length s → get_or s next 0 ≡ separator (count + 1) → Going s before (set buffer count n) (next + 1) (count + 1)
    goes_on_lem l p = going_on (simp (lt-leb (length s) next l, eq-eqb (get_or s next 0) (separator (count + 1)) p))

    pub bad_separator : next < length s → (get_or s next 0 ≡ separator (count + 1) → ⊥) → Parses s before (set buffer count n) (Err (BadLine (line_after count)))
    bad_separator l p =
        let f : is_parted s next (count + 1) ≡ false = simp (lt-leb (length s) next l, ne_eqb (get_or s next 0) (separator (count + 1)) p) in
        answers stored_more (ap (λ (k : ℕ). stop (Err (BadLine (line_after k))) (g.numbers ++ (n ∷ []))) (sym g.counted) ∙ rw (e, counted_more, f) at next_number)

-- What an answer says of how many numbers were read, with room for so many: a count is theirs, and a bad line is at most the one after
-- them all.
abbrev Counts : Parsed → (read limit : ℕ) → Type 0
Counts (Err TooLong) read limit = Unit
Counts (Err (BadLine line)) read limit = line ≤ line_after limit
Counts (Ok k) read limit = (read ≡ k) × (k ≤ limit)

abbrev Counted : Reading → (limit : ℕ) → Type 0
Counted x limit = Counts x.reply (length x.numbers) limit

all_counted : (ns : List ℕ) (room : ℕ) → Counted (stop (ending (length ns)) ns) (length ns + room)
all_counted ns room = go (eqb (length ns % 4) 0)
  where
    go : (b : Bool) → Counts (cond b (Ok (length ns)) (Err (BadLine (line_after (length ns))))) (length ns) (length ns + room)
    go true = (refl, omega arith)
    go false = omega arith

counts : (room : ℕ) (s : List ℕ) (at : ℕ) (ns : List ℕ) → Counted (numbers_from room s at ns) (length ns + room)
unfolding numbers_from
counts zero s at ns = go (leb (length s) at)
  where
    go : (b : Bool) → Counted (cond b (stop (ending (length ns)) ns) (stop (Err TooLong) ns)) (length ns + 0)
    go true = all_counted ns 0
    go false = tt
counts (suc room) s at ns = go (leb (length s) at) (number_at s at) (λ next ms. counts room s next ms)
  where
    go : (b : Bool) (x : Option Number) → ((next : ℕ) (ms : List ℕ) → Counted (numbers_from room s next ms) (length ms + room))
        → Counted (cond b (stop (ending (length ns)) ns) (with_number s ns x (numbers_from room s))) (length ns + suc room)
    go true x f = all_counted ns (suc room)
    go false None f = omega arith
    go false (Some x) f = parted (is_parted s x.next (length (ns ++ (x.value ∷ []))))
      where
        parted : (b : Bool) → Counted (cond b (numbers_from room s (x.next + 1) (ns ++ (x.value ∷ []))) (stop (Err (BadLine (line_after (length ns)))) (ns ++ (x.value ∷ [])))) (length ns + suc room)
        parted true =
            let e : length (ns ++ (x.value ∷ [])) + room ≡ length ns + suc room = rw length-append (omega arith) in
            subst (λ (l : ℕ). Counted (numbers_from room s (x.next + 1) (ns ++ (x.value ∷ []))) l) e (f (x.next + 1) (ns ++ (x.value ∷ [])))
        parted false = omega arith

-- so many numbers fit in the room
pub reading_fits : (s : List ℕ) (room : ℕ) {k : ℕ} → (reading s room).reply ≡ Ok k → length (reading s room).numbers ≤ room
reading_fits s room e =
    let c = subst (Counted (reading s room)) (zero-add room) (counts room s 0 []) in
    omega (arith, subst (λ (x : Parsed). Counts x (length (reading s room).numbers) room) e c)

module _ {s before after : List ℕ} {r : Parsed} (p : Parses s before after r) where
  counted : {v : Parsed} → r ≡ v → Counts v (length (reading s (length before)).numbers) (length before)
  counted e =
      subst (λ (x : Parsed). Counts x (length (reading s (length before)).numbers) (length before)) (sym p.reply_is ∙ e)
      (subst (Counted (reading s (length before))) (zero-add (length before)) (counts (length before) s 0 []))

  pub line_within : {line : ℕ} → r ≡ Err (BadLine line) → line ≤ line_after (length before)
  line_within e = counted e

  -- The numbers that were read stand at the beginning of the buffer.
  module _ {k : ℕ} (e : r ≡ Ok k) where
    pub numbers_fit : k ≤ length before
    numbers_fit = (counted e).1

    pub numbers_within : k ≤ length after
    numbers_within = omega (arith, (counted e).1, simp length-sets at (ap length p.after_is))

    pub numbers_stored : take k after ≡ (reading s (length before)).numbers
    numbers_stored =
        let ns = (reading s (length before)).numbers in
        ap (take k) (p.after_is ∙ sets-eq ns before 0 (omega (arith, counted e)))
        ∙ take_at ns (drop (0 + length ns) before) k (counted e).0

-- The answer and the numbers, read with as much room as the buffer has.
module _ {s before after : List ℕ} {r : Parsed} {room : ℕ} (long : length before ≡ room) (p : Parses s before after r) where
  pub reply_read : {v : Parsed} → r ≡ v → (reading s room).reply ≡ v
  reply_read e = ap (λ (k : ℕ). (reading s k).reply) (sym long) ∙ sym p.reply_is ∙ e

  pub numbers_read : {k : ℕ} → r ≡ Ok k → (reading s room).numbers ≡ take k after
  numbers_read e = ap (λ (k : ℕ). (reading s k).numbers) (sym long) ∙ sym (numbers_stored p e)
