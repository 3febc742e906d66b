-- What the words are taken for: reading refuses, the order buffer is too short for the calls, or there is a history with its verdict.
use mathlib.Core.Path.{◌≡◌, refl, ap, sym, subst, ◌∙◌}
use mathlib.Core.List.{List, ◌++◌, map}
use Prim.Native.Nat.{ℕ, ◌≤◌, ◌<◌}
use native.Mathlib.Omega.{arith}
use lib.ListN.{length, drop, length-map}
use borrow.Author.Tests.{lt-ltb, le-ltb}
use Rattle.std.specs.Prelude.{Option, Result, Ok, Err}
use Rattle.history.specs.Event.{History}
use Rattle.history.specs.Calls.{calls, row, rows}
use Rattle.history.specs.Form.{Reading, refused, history, read}
use Rattle.criterion.specs.Pass.{explains}
use Rattle.reading.specs.declared.Refusal.{Refusal}
use Rattle.reading.specs.declared.Refusal.TheVariants.{Order}
use Rattle.reading.specs.Refusal.{refusal_number, numbered}
use Rattle.reading.specs.Build.{build}
use Rattle.reading.specs.Table.{call_at, calls_in}
use Rattle.reading.specs.Steps.{entered, Read}
use Rattle.reading.specs.Admitted.{read_lets_through}
use Rattle.reading.proofs.Builds.{map_build}
use Rattle.marking.specs.Marks.{Numbered}
use Rattle.judge.specs.declared.Call.{Call}
use Rattle.judge.specs.Contract.{entry, written, Judges}
use Rattle.judge.specs.Working.{Ready, Explains, entry_in, filled}
use Rattle.judge.proofs.Filling.{length_filled, entry_there}

-- The words were read, with the memory m and the reply e.
module _ (words : List ℕ) (table : List Call) (order m : List ℕ) (limit : ℕ) (e : Result ℕ Refusal)
    (reads : Read (read (length table) words) limit m e) where
  abbrev reading : Reading
  reading = read (length table) words

  pub refuses : (refusal : Refusal) → e ≡ Err refusal → Judges words table table order order (Err refusal)
  refuses refusal is = go reading refl
    where
      go : (x : Reading) → reading ≡ x → Judges words table table order order (Err refusal)
      go (refused n) i =
          let same : Err (refusal_number refusal) ≡ Err n = ap numbered (sym is) ∙ reads.replies ∙ ap entered i in
          let number : refusal_number refusal ≡ n = cc in
          record { replies = rw (i, number); fills = rw i; orders = rw i }
      go (history h) i = absurd (let same : Err (refusal_number refusal) ≡ Ok (length (calls h)) = ap numbered (sym is) ∙ reads.replies ∙ ap entered i in cc)

  -- a history with so many calls
  record ReadAs (c : ℕ) : Type 0 where
    which : History
    is_read : reading ≡ history which
    count : c ≡ length (calls which)

  read_as : (c : ℕ) → e ≡ Ok c → ReadAs c
  read_as c is = go reading refl
    where
      go : (x : Reading) → reading ≡ x → ReadAs c
      go (refused n) i = absurd (let same : Ok c ≡ Err n = ap numbered (sym is) ∙ reads.replies ∙ ap entered i in cc)
      go (history h) i =
          let same : Ok c ≡ Ok (length (calls h)) = ap numbered (sym is) ∙ reads.replies ∙ ap entered i in
          record { which = h; is_read = i; count = cc }

  module _ (c : ℕ) (is : e ≡ Ok c) where
    abbrev it : ReadAs c
    it = read_as c is

    abbrev h : History
    h = it.which

    pub no_room : length order < c → Judges words table table order order (Err Order)
    no_room short =
        let is-short = lt-ltb (length order) (length (calls h)) (omega (arith, it.count)) in
        record { replies = rw (it.is_read, is-short); fills = rw (it.is_read, is-short); orders = rw (it.is_read, is-short) }

    are_calls : calls_in m c ≡ calls h
    are_calls = ap (calls_in m) it.count ∙ (reads.holds h it.is_read).are_calls

    pub few : (c ≤ length table) × (c ≤ 4096)
    few = let through = rw it.is_read at (read_lets_through (length table) words) in (
      omega (arith, through.as_many_entries, it.count),
      omega (arith, through.few, it.count),
    )

    module _ (fits : c ≤ length order) (table' : List Call) (fills : table' ≡ filled m c table) where
      pub ready : Ready m table' c (length order)
      ready =
          let holds = reads.holds h it.is_read in
          record {
            judged = h;
            formed = (rw it.is_read at (read_lets_through (length table) words)).formed;
            are_calls = are_calls;
            numbered = subst (λ (n : ℕ). Numbered m n) (sym it.count) (record { plain = holds.table.plain; distinct = holds.table.distinct });
            few = few.1;
            enough_room = fits;
            enough_entries = rw fills (omega (arith, few.0, length_filled m table c few.0));
            entries = λ j l. rw fills (entry_there m c table j l);
          }

      entries_are : build (entry_in m) c ≡ map entry (rows h)
      entries_are =
          sym (map_build entry (λ j. row (call_at m j)) c)
          ∙ ap (map entry) (sym (map_build row (call_at m) c))
          ∙ ap (λ cs. map entry (map row cs)) are_calls

      table_written : table' ≡ written (history h) table
      table_written =
          fills
          ∙ ap (λ l. l ++ drop c table) entries_are
          ∙ ap (λ (i : ℕ). map entry (rows h) ++ drop i table) (it.count ∙ sym (length-map (calls h) row))

      pub judged_as : (order' : List ℕ) (r : Option ℕ) → Explains (calls_in m c) order order' r → Judges words table table' order order' (Ok r)
      unfolding explains
      judged_as order' r by =
          let enough = le-ltb (length order) (length (calls h)) (omega (arith, fits, it.count)) in
          record {
            replies = rw (it.is_read, enough) (ap Ok by.replies ∙ rw are_calls);
            fills = rw (it.is_read, enough) table_written;
            orders = rw (it.is_read, enough) (by.orders ∙ rw are_calls);
          }
