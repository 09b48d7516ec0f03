use Rattle.std.proofs.Common.{arith}
use Rattle.layout.proofs.Number.{number_one}
use Rattle.boundary.proofs.bytes.U8Number.get.Goals as goal

pub returns : goal.returns
returns c = omega (arith, number_one c.args.b.now c.args.at (omega arith))
