use Rattle.boundary.proofs.Playing.{Going}
use Rattle.boundary.proofs.records.play_all.Given as goal

abbrev pub invariant-loop-i : goal.invariant-loop-i
invariant-loop-i l = Going l.initial.tested.state l.records l.initial.out l.tested.state l.out l.i
