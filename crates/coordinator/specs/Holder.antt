-- Whose ticket it is. Assumes nothing: these are definitions.
use Rattle.std.specs.Prelude.{ℕ}
use Rattle.mask.specs.Member.{lowest}
use Rattle.tables.specs.Tables.{holders_in}
use Rattle.coordinator.specs.declared.Coordinator.{Coordinator}
use Rattle.coordinator.specs.Limits.{jobs}
use Rattle.coordinator.specs.Views.{open_slots}

-- the open slots whose job holds ticket t: in a sound state at most one
unfoldable pub holders : Coordinator → ℕ → ℕ
holders s t = holders_in s.tickets (open_slots s) t

-- the slot of the job that holds t
unfoldable pub holder : Coordinator → ℕ → ℕ
holder s t = lowest jobs (holders s t)
