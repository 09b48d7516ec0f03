use Rattle.std.proofs.Common.{◌∙◌, arith}
use Rattle.boundary.proofs.Playing.{chunk_is, going_start, going_on, going_done}
use Rattle.boundary.proofs.Answering.{plays_answers}
use Rattle.boundary.proofs.records.play_all.Goals as goal

pub loop-i-init : goal.loop-i-init
loop-i-init c = going_start _ _ _

pub loop-i-preserved : goal.loop-i-preserved
loop-i-preserved c =
    going_on _ _ _ _ _ _ _ _ _ _ c.requires (omega (arith, c.loop-i-test.true, c.as_chunks.ensures.front_len)) c.loop-i.invariant
    (c.try_from.ensures ∙ chunk_is _ _ _ _ c.as_chunks.ensures.front c.as_chunks.ensures.front_len c.loop-i-test.true)
    (omega arith)
    (plays_answers _ _ _ _ _ _ _ c.play-answer.ensures c.put_row.ensures)

pub returns : goal.returns
returns c = going_done _ _ _ _ _ _ c.requires (omega (arith, c.loop-i-test.false, c.as_chunks.ensures.front_len)) c.loop-i.invariant
