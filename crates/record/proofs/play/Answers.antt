use Rattle.record.proofs.Playing.{none_plays}
use Rattle.record.proofs.play.Goals as goal

pub returns-in-Err : goal.returns-in-Err
returns-in-Err c = rw c.in-Err.is (none_plays _ _ _ _ c.from.ensures c.from-in-Err.ensures)
