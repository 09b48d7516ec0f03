-- A call that tests the state first is the call given what the test says. Assumes nothing.
use Prim.Native.Nat.{ℕ}
use mathlib.Core.Bool.{Bool}
use mathlib.Core.Path.{◌≡◌}
use Rattle.coordinator.specs.declared.Coordinator.{Coordinator}
use Rattle.coordinator.specs.Test.{sound}
use Rattle.coordinator.specs.Refusal.{open_refusal, ask_refusal, confirm_refusal, close_refusal}
use Rattle.coordinator.specs.Open.{after_open, after_open_tested}
use Rattle.coordinator.specs.Ask.{after_ask, after_ask_tested}
use Rattle.coordinator.specs.Confirm.{after_confirm, after_confirm_tested}
use Rattle.coordinator.specs.Close.{after_close, after_close_tested}

module _ (s : Coordinator) (b : Bool) (e : b ≡ sound s) where
  pub open_is : (mask : ℕ) → after_open_tested b s mask ≡ after_open s mask
  unfolding after_open_tested after_open open_refusal
  open_is mask = rw e

  pub ask_is : (t k : ℕ) → after_ask_tested b s t k ≡ after_ask s t k
  unfolding after_ask_tested after_ask ask_refusal
  ask_is t k = rw e

  pub confirm_is : (t k : ℕ) → after_confirm_tested b s t k ≡ after_confirm s t k
  unfolding after_confirm_tested after_confirm confirm_refusal
  confirm_is t k = rw e

  pub close_is : (t : ℕ) → after_close_tested b s t ≡ after_close s t
  unfolding after_close_tested after_close close_refusal
  close_is t = rw e
