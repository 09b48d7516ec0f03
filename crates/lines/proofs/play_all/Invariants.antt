use Rattle.std.proofs.Common.{◌+◌, ◌*◌}
use Rattle.lines.proofs.Going.{Going}
use Rattle.lines.proofs.play_all.Given as goal

abbrev pub invariant-loop-i : goal.invariant-loop-i
invariant-loop-i l = Going l.start l.initial.tested.state l.records l.initial.out l.out l.tested.state (l.start + l.i) (4 * l.i) l.wrote
