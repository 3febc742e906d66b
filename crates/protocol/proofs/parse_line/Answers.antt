-- `protocol::parse_line` meets its contract: each return has the tests on the first word that led there.
use Rattle.std.proofs.Common.{◌∙◌}
use Rattle.protocol.specs.Words.{open_word, enqueue_word, step_word, dequeue_word}
use Rattle.protocol.specs.Line.{parse_line}
use Rattle.protocol.specs.Laws.{begins}
use Rattle.protocol.proofs.parse_line.Goals as goal

pub returns-then-starts_with : goal.returns-then-starts_with
unfolding parse_line
returns-then-starts_with c = c.parse_open.ensures ∙ simp (begins c.args.s.now open_word c.if-starts_with.ensures.value)

pub returns-then-starts_with-2 : goal.returns-then-starts_with-2
unfolding parse_line
returns-then-starts_with-2 c =
    let s = c.args.s.now in
    c.parse_enqueue.ensures ∙ simp (begins s open_word c.if-starts_with.ensures.value, begins s enqueue_word c.if-starts_with-2.ensures.value)

pub returns-then-starts_with-3 : goal.returns-then-starts_with-3
unfolding parse_line
returns-then-starts_with-3 c =
    let s = c.args.s.now in
    c.parse_step.ensures
    ∙ simp (begins s open_word c.if-starts_with.ensures.value, begins s enqueue_word c.if-starts_with-2.ensures.value, begins s step_word c.if-starts_with-3.ensures.value)

pub returns-then-starts_with-4 : goal.returns-then-starts_with-4
unfolding parse_line
returns-then-starts_with-4 c =
    let s = c.args.s.now in
    c.parse_dequeue.ensures
    ∙ simp (begins s open_word c.if-starts_with.ensures.value, begins s enqueue_word c.if-starts_with-2.ensures.value, begins s step_word c.if-starts_with-3.ensures.value, begins s dequeue_word c.if-starts_with-4.ensures.value)

pub returns-else-starts_with-4 : goal.returns-else-starts_with-4
unfolding parse_line
returns-else-starts_with-4 c =
    let s = c.args.s.now in
    simp (begins s open_word c.if-starts_with.ensures.value, begins s enqueue_word c.if-starts_with-2.ensures.value, begins s step_word c.if-starts_with-3.ensures.value, begins s dequeue_word c.if-starts_with-4.ensures.value)
