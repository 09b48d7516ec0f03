use Rattle.std.proofs.Common.{◌+◌, ◌*◌, ◌∙◌, arith, ap}
use Rattle.std.proofs.lemmas.List.{length-replicate, length-set}
use Rattle.layout.proofs.Numbers.{read_none, read_turn, read_done}
use Rattle.boundary.proofs.arrays.get_all.Goals as goal

pub loop-i-init : goal.loop-i-init
loop-i-init g c = record { long = length-replicate _ _; read = read_none g.N.Number.value g.N.Number.WIDTH _ _ }

pub loop-i-preserved : goal.loop-i-preserved
loop-i-preserved g c = record {
  long = length-set _ _ _ ∙ c.loop-i.invariant.long;
  read =
      read_turn g.N.Number.value g.N.Number.WIDTH _ _ c.loop-i.x-items c.loop-i.i _ _ (omega (arith, c.loop-i-test.true, c.loop-i.invariant.long))
      (ap (λ w. c.args.at + w * c.loop-i.i) c.WIDTH.ensures) c.get.ensures c.loop-i.invariant.read;
}

pub returns : goal.returns
returns g c = read_done g.N.Number.value g.N.Number.WIDTH _ _ _ _ _ c.loop-i.invariant.long (omega arith) c.loop-i-test.false c.loop-i.invariant.read
