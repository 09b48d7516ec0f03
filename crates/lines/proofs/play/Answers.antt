use Rattle.std.proofs.Common.{◌∙◌}
use Rattle.lines.proofs.Playing.{played, no_room, no_index}
use Rattle.lines.proofs.play.Goals.{else-index-via-then-index+else-records-out, else-index-via-else-index}
use Rattle.lines.proofs.play.Goals as goal

pub returns-then-records-out : goal.returns-then-records-out
returns-then-records-out c =
    (c.play_all.ensures.0, c.play_all.ensures.1 ∙ played _ _ _ _ c.if-index.true c.if-records-out.true)

pub returns : goal.returns
returns c = (
  tt,
  elim c.else-index.branch [
    | else-index-via-then-index+else-records-out w ↦ no_room _ _ _ _ w.if-index.true w.if-records-out.false
    | else-index-via-else-index w ↦ no_index _ _ _ _ w.if-index.false
  ],
)
