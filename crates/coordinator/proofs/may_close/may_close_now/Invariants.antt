use Rattle.std.proofs.Common.{◌*◌, ◌^◌, bit_or}
use Rattle.loops.specs.Sum.{tally}
use Rattle.mask.proofs.Walking.{Left}
use Rattle.coordinator.specs.Limits.{jobs}
use Rattle.coordinator.specs.Tables.{may_close_in}
use Rattle.coordinator.proofs.may_close.may_close_now.Given as goal

abbrev pub invariant-loop-j : goal.invariant-loop-j
invariant-loop-j l = Left (λ j m. bit_or m (tally (may_close_in l.dependencies j) * 2 ^ j)) jobs l.held 0 l.j-iterator.left l.found
