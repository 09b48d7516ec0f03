use Rattle.std.proofs.Common.{arith}
use Rattle.layout.proofs.Number.{number_four}
use Rattle.boundary.proofs.bytes.U32Number.get.Goals as goal

pub returns : goal.returns
returns c = omega (arith, number_four c.args.b.now c.args.at c.requires)
