-- What the tables of a state mean. Slots are below `jobs`, databases below `databases`. Assumes nothing: these are definitions.
use Rattle.std.specs.Prelude.{ℕ, ◌+◌, ◌*◌, Bool}
use Rattle.mask.specs.Member.{holds, size}
use Rattle.tables.specs.Tables.{open_in}
pub use Rattle.tables.specs.Tables.{entry}
use Rattle.coordinator.specs.declared.Coordinator.{Coordinator}
use Rattle.coordinator.specs.Limits.{jobs}

-- database k is in the mask of the job in slot j; and the job has a step there. These are two views, so that a step may leave the graph while the mask stays.
unfoldable pub in_mask : Coordinator → ℕ → ℕ → Bool
in_mask s j k = holds (entry s.named k) j

unfoldable pub names : Coordinator → ℕ → ℕ → Bool
names s j k = in_mask s j k

-- that step is asked, released, confirmed
unfoldable pub asked : Coordinator → ℕ → ℕ → Bool
asked s j k = holds (entry s.asked k) j

unfoldable pub released : Coordinator → ℕ → ℕ → Bool
released s j k = holds (entry s.released k) j

unfoldable pub confirmed : Coordinator → ℕ → ℕ → Bool
confirmed s j k = holds (entry s.confirmed k) j

-- a slot is open where its mask is not 0
unfoldable pub open_slots : Coordinator → ℕ
open_slots s = open_in s.named

unfoldable pub is_open : Coordinator → ℕ → Bool
is_open s j = holds (open_slots s) j

-- how many jobs are open
unfoldable pub open_count : Coordinator → ℕ
open_count s = size jobs (open_slots s)

-- the ticket of the job in slot j, and whether its close is held
unfoldable pub ticket : Coordinator → ℕ → ℕ
ticket s j = entry s.tickets j

unfoldable pub held : Coordinator → ℕ → Bool
held s j = holds s.held j

-- the slot that was opened as the i-th of those that are open
unfoldable pub opened : Coordinator → ℕ → ℕ
opened s i = entry s.order i

-- the slots that go before slot b at database k
unfoldable pub into : Coordinator → ℕ → ℕ → ℕ
into s k b = entry s.dependencies (k * jobs + b)

-- at database k, the job in slot a goes before the one in slot b
unfoldable pub dep : Coordinator → ℕ → ℕ → ℕ → Bool
dep s k a b = holds (into s k b) a
