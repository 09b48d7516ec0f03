use Rattle.mask.proofs.Gather.{gather_none, gather_asked, gather_done}
use Rattle.mask.proofs.by_test.gathered.Goals as goal

pub loop-j-init : goal.loop-j-init
loop-j-init g c = λ p same. gather_none _

pub loop-j-preserved : goal.loop-j-preserved
loop-j-preserved g c = λ p same.
    gather_asked p 32 _ _ _ _ (c.loop-j.invariant p same) c.from.ensures (same _ _ c.loop-j-test.true c.test.ensures) c.loop-j-test.true

pub returns : goal.returns
returns g c = λ p same. gather_done _ 32 _ _ c.loop-j.auto.j-end c.loop-j-test.false (c.loop-j.invariant p same)
