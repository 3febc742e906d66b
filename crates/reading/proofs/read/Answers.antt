-- `reading::read` meets its contract. Assumes nothing.
use Rattle.std.proofs.Common.{arith}
use Rattle.reading.proofs.Reading.{is_refused, no_multiple, too_many, too_few_entries, reads_all, same_reading}
use Rattle.reading.proofs.read.Goals as goal

pub returns-then-words-ne0 : goal.returns-then-words-ne0
returns-then-words-ne0 c = is_refused _ _ _ _ (no_multiple _ _ c.if-words-ne0.true)

pub returns-then-words-gt-MOST_EVENTS : goal.returns-then-words-gt-MOST_EVENTS
returns-then-words-gt-MOST_EVENTS c =
    let a = c.args in
    is_refused _ _ _ _ (too_many a.entries a.history.now c.if-words-ne0.false (omega (arith, c.if-words-gt-MOST_EVENTS.true)))

pub returns-then-entries-words : goal.returns-then-entries-words
returns-then-entries-words c =
    let a = c.args in
    is_refused _ _ _ _
    (too_few_entries a.entries a.history.now c.if-words-ne0.false (omega (arith, c.if-words-gt-MOST_EVENTS.false)) (omega (arith, c.if-entries-words.true)))

pub returns : goal.returns
returns c =
    let a = c.args in
    let e = reads_all a.entries a.history.now c.if-words-ne0.false (omega (arith, c.if-words-gt-MOST_EVENTS.false)) (omega (arith, c.if-entries-words.false)) in
    same_reading _ _ _ _ _ e c.read_events.ensures
