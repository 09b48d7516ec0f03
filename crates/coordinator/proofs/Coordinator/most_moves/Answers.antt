use Rattle.coordinator.specs.Bound.{most_moves}
use Rattle.coordinator.proofs.Coordinator.most_moves.Goals as goal

pub returns : goal.returns
unfolding most_moves
returns c = rw c.count_all.ensures.all
