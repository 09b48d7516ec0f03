use Rattle.std.proofs.Common.{arith}
use Rattle.layout.proofs.Number.{put_byte}
use Rattle.boundary.proofs.bytes.U8Number.put.Goals as goal

pub returns : goal.returns
returns c = put_byte _ _ _ (omega arith) (omega arith)
