-- The refusal of a call, and what it means that a row is the first that applies. Assumes nothing: these are definitions.
use Rattle.std.specs.Prelude.{ℕ, ◌<◌, true, false, not, ◌||◌, List, ◌≡◌, length, get_or, Option}
use Rattle.refusals.specs.declared.refusal.Refusal.{Refusal}
use Rattle.refusals.specs.declared.refusal.Refusal.TheVariants.{NamesNone, AskedBefore, Settled}
use Rattle.coordinator.specs.declared.Coordinator.{Coordinator}
use Rattle.coordinator.specs.Views.{in_mask, asked, released, confirmed, open_count, held}
use Rattle.coordinator.specs.Holder.{holders, holder}
use Rattle.coordinator.specs.Test.{sound}
use Rattle.coordinator.specs.Refusal.{Row, slot_rows, step_rows, job_rows, all_confirmed, open_refusal, ask_refusal, confirm_refusal, close_refusal}
use Rattle.coordinator.specs.Call.{Call, open_job, ask_step, confirm_step, close_job}

unfoldable pub refusal_of : Coordinator → Call → Option Refusal
refusal_of s (open_job mask) = open_refusal s mask
refusal_of s (ask_step t k) = ask_refusal s t k
refusal_of s (confirm_step t k) = confirm_refusal s t k
refusal_of s (close_job t) = close_refusal s t

-- the rows of each call's table, told of the state
unfoldable pub rows_of : Coordinator → Call → List Row
rows_of s (open_job mask) = slot_rows (sound s) mask (open_count s)
rows_of s (ask_step t k) = step_rows (sound s) (holders s t) k (in_mask s (holder s t) k) (asked s (holder s t) k) AskedBefore
rows_of s (confirm_step t k) =
    step_rows (sound s) (holders s t) k (in_mask s (holder s t) k) (not (released s (holder s t) k) || confirmed s (holder s t) k) Settled
rows_of s (close_job t) = job_rows (sound s) (holders s t) (all_confirmed s (holder s t)) (held s (holder s t))

-- row i of a table; beyond the last there is none that applies
abbrev pub row : List Row → ℕ → Row
row rows i = get_or rows i (record { applies = false; refusal = NamesNone })

-- r is the refusal of a row that applies, and no row above it does
pub record FirstApplies (rows : List Row) (r : Refusal) : Type 0 where
  pub place : ℕ
  pub inside : place < length rows
  pub refusal : (row rows place).refusal ≡ r
  pub applies : (row rows place).applies ≡ true
  pub above : (i : ℕ) → i < place → (row rows i).applies ≡ false
