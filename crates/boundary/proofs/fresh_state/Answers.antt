use Rattle.boundary.proofs.Cases.{start_wrong, start_right}
use Rattle.boundary.proofs.fresh_state.Goals as goal

pub returns-then-state-ne-STATE_SIZE : goal.returns-then-state-ne-STATE_SIZE
returns-then-state-ne-STATE_SIZE c = start_wrong _ _ c.if-state-ne-STATE_SIZE.true

pub returns : goal.returns
returns c = start_right _ _ c.if-state-ne-STATE_SIZE.false _ _ c.fresh.ensures c.encode.ensures
