-- The refusal of each call: document 01's table, of a state. The rows themselves stand in crate `refusals`. Assumes nothing: these are definitions.
use Rattle.std.specs.Prelude.{ℕ, Bool, not, ◌||◌, Option}
use Rattle.loops.specs.Loop.{every}
use Rattle.refusals.specs.declared.refusal.Refusal.TheVariants.{AskedBefore, Settled}
pub use Rattle.refusals.specs.Refusal.{Row, slot_rows, step_rows, job_rows}
unfoldable pub use Rattle.refusals.specs.Refusal.{first_row, slot_refusal, step_refusal, job_refusal}
use Rattle.coordinator.specs.declared.Coordinator.{Coordinator}
use Rattle.coordinator.specs.Limits.{databases}
use Rattle.coordinator.specs.Views.{in_mask, names, asked, released, confirmed, open_count, held}
use Rattle.coordinator.specs.Holder.{holders, holder}
use Rattle.coordinator.specs.Test.{sound}
use Rattle.refusals.specs.declared.refusal.Refusal.{Refusal}

unfoldable pub all_confirmed : Coordinator → ℕ → Bool
all_confirmed s j = every databases (λ k. not (names s j k) || confirmed s j k)

-- the refusal of each call, given whether the state is sound
abbrev pub open_refusal_tested : Bool → Coordinator → ℕ → Option Refusal
open_refusal_tested is_sound s mask = slot_refusal is_sound mask (open_count s)

abbrev pub ask_refusal_tested : Bool → Coordinator → ℕ → ℕ → Option Refusal
ask_refusal_tested is_sound s t k = step_refusal is_sound (holders s t) k (in_mask s (holder s t) k) (asked s (holder s t) k) AskedBefore

abbrev pub confirm_refusal_tested : Bool → Coordinator → ℕ → ℕ → Option Refusal
confirm_refusal_tested is_sound s t k =
    step_refusal is_sound (holders s t) k (in_mask s (holder s t) k) (not (released s (holder s t) k) || confirmed s (holder s t) k) Settled

abbrev pub close_refusal_tested : Bool → Coordinator → ℕ → Option Refusal
close_refusal_tested is_sound s t = job_refusal is_sound (holders s t) (all_confirmed s (holder s t)) (held s (holder s t))

-- and of a state as it is
unfoldable pub open_refusal : Coordinator → ℕ → Option Refusal
open_refusal s mask = open_refusal_tested (sound s) s mask

unfoldable pub ask_refusal : Coordinator → ℕ → ℕ → Option Refusal
ask_refusal s t k = ask_refusal_tested (sound s) s t k

unfoldable pub confirm_refusal : Coordinator → ℕ → ℕ → Option Refusal
confirm_refusal s t k = confirm_refusal_tested (sound s) s t k

unfoldable pub close_refusal : Coordinator → ℕ → Option Refusal
close_refusal s t = close_refusal_tested (sound s) s t
