-- `session::run_input` meets its contract: what the lines leave, with the words of the store by name.
use Rattle.std.specs.Prelude.{List, ℕ}
use Rattle.std.proofs.Common.{refl, Break, Continue}
use Rattle.protocol.specs.Line.{lines_of}
use Rattle.session.specs.Session.{Run, run_lines, start, blank}
use Rattle.session.specs.Turns.{Next, Leaves}
use Rattle.session.proofs.run_input.Goals as goal

-- the words are those of the session that the lines leave
named : (r : Run) (store history before out : List ℕ) (n : Next) → Leaves r store history before out n → Leaves r r.session.words history before out n
named r s h b o (Break end) l = (l.0, record { words_are = refl; recorded = l.1.recorded }, l.2)
named r s h b o (Continue at) l = (record { good = l.0.good; stands = record { words_are = refl; recorded = l.0.stands.recorded }; wrote = l.0.wrote }, l.1, l.2)

pub returns : goal.returns
unfolding blank
returns c = record { leaves = named (run_lines (lines_of c.args.input.now) start) _ _ _ _ _ c.run_lines.ensures.leaves }
