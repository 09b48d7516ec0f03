-- What a call finds that is not refused. Assumes nothing: these are definitions.
use Rattle.std.specs.Prelude.{ℕ, ◌<◌, true, false, ◌≡◌}
use Rattle.coordinator.specs.declared.Coordinator.{Coordinator}
use Rattle.coordinator.specs.Limits.{jobs, databases}
use Rattle.coordinator.specs.Views.{names, asked, released, confirmed, is_open, open_count, ticket, held}
use Rattle.coordinator.specs.Holder.{holder}
use Rattle.coordinator.specs.Test.{sound}

pub record OpenAccepted (s : Coordinator) (mask : ℕ) : Type 0 where
  pub tested : sound s ≡ true
  pub some : ¬ (mask ≡ 0)
  pub room : open_count s < jobs

-- the slot of the job that holds the ticket
pub record HolderOf (s : Coordinator) (t : ℕ) : Type 0 where
  pub slot : holder s t < jobs
  pub is_open : is_open s (holder s t) ≡ true
  pub holds : ticket s (holder s t) ≡ t

pub record AskAccepted (s : Coordinator) (t k : ℕ) : Type 0 where
  pub tested : sound s ≡ true
  pub holder_of : HolderOf s t
  pub database : k < databases
  pub named : names s (holder s t) k ≡ true
  pub unasked : asked s (holder s t) k ≡ false

pub record ConfirmAccepted (s : Coordinator) (t k : ℕ) : Type 0 where
  pub tested : sound s ≡ true
  pub holder_of : HolderOf s t
  pub database : k < databases
  pub named : names s (holder s t) k ≡ true
  pub is_released : released s (holder s t) k ≡ true
  pub unconfirmed : confirmed s (holder s t) k ≡ false

pub record CloseAccepted (s : Coordinator) (t : ℕ) : Type 0 where
  pub tested : sound s ≡ true
  pub holder_of : HolderOf s t
  pub all_confirmed : (k : ℕ) → names s (holder s t) k ≡ true → confirmed s (holder s t) k ≡ true
  pub unheld : held s (holder s t) ≡ false
