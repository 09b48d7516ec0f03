use Rattle.std.proofs.Common.{◌≡◌, ℕ, ◌<◌, Bool}
use Rattle.loops.specs.Sum.{tally}
use Rattle.mask.specs.Members.{gather}
use Rattle.mask.proofs.by_test.gathered.Given as goal

abbrev pub invariant-loop-j : goal.invariant-loop-j
invariant-loop-j g l =
    (p : ℕ → Bool) → ((j : ℕ) (b : Bool) → j < 32 → goal.F-post g l.test j b → b ≡ p j) → l.found ≡ gather l.j (λ i. tally (p i))
