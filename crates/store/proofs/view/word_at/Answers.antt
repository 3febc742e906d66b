-- `store::view::word_at` meets its contract.
use Rattle.std.proofs.Common.{arith}
use Rattle.store.specs.Shape.{sizes}
use Rattle.store.specs.Words.{reads_word}
use Rattle.store.proofs.view.word_at.Goals as goal

pub returns : goal.returns
returns c =
    let a = c.args in
    record { reads = λ d h e. reads_word (sizes a.z) a.s.now d c.requires.admitted h a.at e (omega (arith, c.type_inv.s a.at)) }
