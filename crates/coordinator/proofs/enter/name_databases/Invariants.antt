use Rattle.mask.proofs.Walking.{Left}
use Rattle.coordinator.specs.Limits.{databases}
use Rattle.coordinator.specs.Change.{mark}
use Rattle.coordinator.proofs.enter.name_databases.Given as goal

abbrev pub invariant-loop-k : goal.invariant-loop-k
invariant-loop-k l = Left (λ k sets. mark sets k l.job.slot.0) databases l.mask l.initial.named l.k-iterator.left l.named
