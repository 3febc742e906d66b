-- `draining::end_with` meets its contract.
use Rattle.std.proofs.Common.{[], ◌∷◌, ◌≡◌, ◌+◌, ◌≤◌, arith, length}
use Rattle.rules.specs.Cell.{reader, writes, clear_consumer, clear_drain}
use Rattle.rules.specs.Consumer.{items_marked}
use Rattle.rules.specs.Request.{item_words}
use Rattle.store.specs.Items.{length_marked, length_words}
use Rattle.store.specs.Shape.{sizes}
use Rattle.draining.specs.Onward.{put_part, handed}
use Rattle.draining.proofs.end_with.Goals as goal

pub returns : goal.returns
unfolding writes
returns c =
    let a = c.args in
    let m = a.s.now in
    let xs = items_marked (reader (sizes a.z) m) a.n in
    let count : length xs ≡ a.n = length_marked (reader (sizes a.z) m) a.n in
    let words : a.from + length (item_words xs) ≤ length a.b.now = omega (arith, length_words xs, c.requires) in
    rw (c.clear_drain.ensures, c.clear_consumer.ensures, c.hand_over.ensures, put_part a.b.now (item_words xs) a.from words)
    (handed (sizes a.z) m a.b.now a.from a.n xs (clear_consumer ∷ clear_drain ∷ []) count c.requires.n_le_most_drained.1)
