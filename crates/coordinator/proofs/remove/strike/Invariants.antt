use Rattle.std.proofs.Common.{◌≡◌, set}
use Rattle.loops.specs.Loop.{over}
use Rattle.mask.specs.Member.{excluding}
use Rattle.coordinator.specs.Views.{entry}
use Rattle.coordinator.proofs.remove.strike.Given as goal

abbrev pub invariant-loop-set : goal.invariant-loop-set
invariant-loop-set l = l.sets ≡ over l.set-index (λ i r. set r i (excluding (entry r i) l.j.0)) l.initial.sets
