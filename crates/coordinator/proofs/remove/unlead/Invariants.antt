use Rattle.std.proofs.Common.{◌≡◌, ◌+◌, ◌*◌, set}
use Rattle.loops.specs.Loop.{over}
use Rattle.coordinator.specs.Limits.{jobs}
use Rattle.coordinator.proofs.remove.unlead.Given as goal

abbrev pub invariant-loop-k : goal.invariant-loop-k
invariant-loop-k l = l.dependencies ≡ over l.k (λ i r. set r (i * jobs + l.b) 0) l.initial.dependencies
