-- How many moves the next opening's search can take at most. Assumes nothing: these are definitions.
use Rattle.std.specs.Prelude.{ℕ, ◌*◌}
use Rattle.loops.specs.Sum.{sum}
use Rattle.mask.specs.Member.{size}
use Rattle.coordinator.specs.declared.Coordinator.{Coordinator}
use Rattle.coordinator.specs.Limits.{jobs, databases}
use Rattle.coordinator.specs.Views.{entry}

-- three for each database that an open job names
unfoldable pub most_moves : Coordinator → ℕ
most_moves s = 3 * sum databases (λ k. size jobs (entry s.named k))
