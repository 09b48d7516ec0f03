use Rattle.std.proofs.Common.{◌≡◌}
use Rattle.loops.specs.Loop.{over}
use Rattle.coordinator.specs.Views.{entry}
use Rattle.coordinator.specs.Change.{lead}
use Rattle.coordinator.proofs.enter.lead_found.Given as goal

abbrev pub invariant-loop-k : goal.invariant-loop-k
invariant-loop-k l = l.dependencies ≡ over l.k (λ u. lead u (entry l.found u) l.job.slot.0) l.initial.dependencies
