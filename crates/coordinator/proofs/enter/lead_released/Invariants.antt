use Rattle.mask.proofs.Walking.{Left}
use Rattle.coordinator.specs.Limits.{databases}
use Rattle.coordinator.specs.Views.{entry}
use Rattle.coordinator.specs.Change.{lead}
use Rattle.coordinator.proofs.enter.lead_released.Given as goal

abbrev pub invariant-loop-k : goal.invariant-loop-k
invariant-loop-k l = Left (λ k. lead k (entry l.released k) l.job.slot.0) databases l.mask l.initial.dependencies l.k-iterator.left l.dependencies
