use Rattle.coordinator.specs.Views.{entry}
use Rattle.coordinator.proofs.Unconfirmed.{Gathered}
use Rattle.coordinator.proofs.may_close.all_confirmed.Given as goal

abbrev pub invariant-loop-k : goal.invariant-loop-k
invariant-loop-k l = Gathered (entry l.named) (entry l.confirmed) l.k l.unfinished
