use Rattle.std.proofs.Common.{◌∙◌, arith}
use Rattle.boundary.proofs.Cases.{records_wrong_state, records_wrong, answers_wrong, records_right}
use Rattle.boundary.proofs.play_records.Goals as goal

pub returns-then-state-ne-STATE_SIZE : goal.returns-then-state-ne-STATE_SIZE
returns-then-state-ne-STATE_SIZE c = records_wrong_state _ _ _ c.if-state-ne-STATE_SIZE.true

pub returns-then-records-ne0 : goal.returns-then-records-ne0
returns-then-records-ne0 c = records_wrong _ _ _ c.if-state-ne-STATE_SIZE.false c.if-records-ne0.true

pub returns-then-answers-ne0 : goal.returns-then-answers-ne0
returns-then-answers-ne0 c =
    answers_wrong _ _ _ c.if-state-ne-STATE_SIZE.false c.if-records-ne0.false (omega (arith, c.if-answers-ne0.true))

pub returns-then-answers-records : goal.returns-then-answers-records
returns-then-answers-records c =
    answers_wrong _ _ _ c.if-state-ne-STATE_SIZE.false c.if-records-ne0.false (omega (arith, c.if-answers-records.true))

pub returns : goal.returns
returns c =
    records_right _ _ _ c.if-state-ne-STATE_SIZE.false c.if-records-ne0.false (omega (arith, c.if-answers-ne0.false, c.if-answers-records.false)) _ _ _ _
    (c.new-tested.ensures ∙ c.decode.ensures)
    c.play_all.ensures
    c.encode.ensures
