use Rattle.mask.proofs.Walking.{Left}
use Rattle.search.specs.Limits.{jobs}
use Rattle.search.specs.Visit.{sets}
use Rattle.search.proofs.put_ahead.Given as goal

abbrev pub invariant-loop-v : goal.invariant-loop-v
invariant-loop-v l =
    Left (λ v ahead. sets.put ahead l.u v) jobs l.slots l.initial.ahead l.v-iterator.left l.ahead
