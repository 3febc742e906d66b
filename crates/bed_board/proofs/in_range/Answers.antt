-- `bed_board::in_range` meets its contract.
use Rattle.std.proofs.Common.{ap, ap₂, ◌∙◌, ◌&&◌}
use Rattle.std.proofs.lemmas.List.{drop-take}
use Rattle.census_rules.specs.Board.{in_range, at_most}
use Rattle.bed_board.proofs.in_range.Goals as goal

pub returns : goal.returns
unfolding in_range
returns c = (
  c.told-board,
  ap₂ ◌&&◌
      (ap₂ ◌&&◌ c.at_most.ensures (ap (at_most 1) (drop-take 512 20 c.args.board.now) ∙ c.at_most-2.ensures))
      (ap (at_most 512) (drop-take 532 4 c.args.board.now) ∙ c.at_most-3.ensures),
)
