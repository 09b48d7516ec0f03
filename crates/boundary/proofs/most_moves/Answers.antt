use Rattle.boundary.proofs.Cases.{moves_wrong, moves_right}
use Rattle.boundary.proofs.most_moves.Goals as goal

pub returns-then-state-ne-STATE_SIZE : goal.returns-then-state-ne-STATE_SIZE
returns-then-state-ne-STATE_SIZE c = moves_wrong _ c.if-state-ne-STATE_SIZE.true

pub returns : goal.returns
returns c = moves_right _ _ _ c.if-state-ne-STATE_SIZE.false c.decode.ensures c.most_moves.ensures
