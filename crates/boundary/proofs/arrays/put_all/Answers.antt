use Rattle.std.proofs.Common.{◌+◌, ◌*◌, arith, ap}
use Rattle.layout.proofs.Numbers.{write_none, write_turn, write_done}
use Rattle.boundary.proofs.arrays.put_all.Goals as goal

pub loop-i-init : goal.loop-i-init
loop-i-init g c = write_none g.N.Number.value g.N.Number.WIDTH _ _ _ c.requires

pub loop-i-preserved : goal.loop-i-preserved
loop-i-preserved g c =
    write_turn g.N.Number.value g.N.Number.WIDTH _ _ _ c.requires _ _ _ _ _ c.loop-i.invariant c.loop-i-test.true (ap (λ w. c.args.at + w * c.loop-i.i) c.WIDTH.ensures) c.index-a-i.is c.put.ensures

pub returns : goal.returns
returns g c = write_done g.N.Number.value g.N.Number.WIDTH _ _ _ c.requires _ _ (omega arith) c.loop-i-test.false c.loop-i.invariant
