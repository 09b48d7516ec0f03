use Rattle.std.proofs.Common.{◌+◌, ◌^◌, set, bit_or}
use Rattle.mask.proofs.Walking.{Left}
use Rattle.coordinator.specs.Limits.{jobs}
use Rattle.coordinator.specs.Views.{entry}
use Rattle.coordinator.proofs.release.lead_to.Given as goal

abbrev pub invariant-loop-b : goal.invariant-loop-b
invariant-loop-b l =
    Left (λ b d. set d (l.first + b) (bit_or (entry d (l.first + b)) (2 ^ l.step.slot.0))) jobs l.later l.initial.dependencies l.b-iterator.left l.dependencies
