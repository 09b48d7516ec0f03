use Rattle.std.proofs.Common.{◌-◌}
use Rattle.coordinator.specs.Limits.{jobs}
use Rattle.coordinator.proofs.Closings.{Going}
use Rattle.coordinator.proofs.Coordinator.close_from.Given as goal

abbrev pub invariant-loop-left : goal.invariant-loop-left
invariant-loop-left l = Going l.initial.self l.fn.job.slot.0 l.self l.tickets l.count l.left

abbrev pub decreases-loop-left : goal.decreases-loop-left
decreases-loop-left l = jobs - l.count
