use Rattle.std.proofs.Common.{arith}
use Rattle.layout.proofs.Number.{number_two}
use Rattle.boundary.proofs.bytes.U16Number.get.Goals as goal

pub returns : goal.returns
returns c = omega (arith, number_two c.args.b.now c.args.at c.requires)
