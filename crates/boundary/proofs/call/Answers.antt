use Rattle.std.proofs.Common.{◌∙◌}
use Rattle.boundary.proofs.Answering.{plays_answers}
use Rattle.boundary.proofs.Cases.{call_wrong_state, call_wrong_answer, call_right}
use Rattle.boundary.proofs.call.Goals as goal

pub returns-then-state-ne-STATE_SIZE : goal.returns-then-state-ne-STATE_SIZE
returns-then-state-ne-STATE_SIZE c = call_wrong_state _ _ _ c.if-state-ne-STATE_SIZE.true

pub returns-then-answer-ne-ROW_SIZE : goal.returns-then-answer-ne-ROW_SIZE
returns-then-answer-ne-ROW_SIZE c = call_wrong_answer _ _ _ c.if-state-ne-STATE_SIZE.false c.if-answer-ne-ROW_SIZE.true

pub returns : goal.returns
returns c =
    call_right _ _ _ c.if-state-ne-STATE_SIZE.false c.if-answer-ne-ROW_SIZE.false _ _ _ _ (c.new-tested.ensures ∙ c.decode.ensures)
    (plays_answers _ _ _ _ _ _ _ c.play-row.ensures c.put_row.ensures)
    c.encode.ensures
