-- A call that a row refuses, and one that none refuses. Assumes nothing.
use mathlib.Core.Path.{◌≡◌}
use mathlib.Core.Bool.{Bool}
use Prim.Native.Nat.{ℕ}
use Rattle.std.specs.Prelude.{Option, None, Some, Err}
use Rattle.numbers.specs.declared.Ticket.{Ticket}
use Rattle.refusals.specs.declared.refusal.Refusal.{Refusal}
use Rattle.coordinator.specs.declared.Coordinator.{Coordinator}
use Rattle.coordinator.specs.declared.answers.After.{After}
use Rattle.coordinator.specs.declared.answers.Opened.{Opened}
use Rattle.coordinator.specs.declared.answers.Asked.{Asked}
use Rattle.coordinator.specs.declared.answers.Closed.{Closed}
use Rattle.coordinator.specs.Holder.{holder}
use Rattle.coordinator.specs.Refusal.{open_refusal_tested, ask_refusal_tested, confirm_refusal_tested, close_refusal_tested}
use Rattle.coordinator.specs.Open.{free_slot, accepted, after_open_tested}
use Rattle.coordinator.specs.Ask.{asked_for, after_ask_tested}
use Rattle.coordinator.specs.Confirm.{confirmed_at, after_confirm_tested}
use Rattle.coordinator.specs.Close.{closed_at, after_close_tested}

module _ (b : Bool) (s : Coordinator) where
  pub open_refused : (mask : ℕ) (r : Refusal) → open_refusal_tested b s mask ≡ Some r → ◌≡◌ {A = After Opened} (record { answer = Err r; state = s }) (after_open_tested b s mask)
  unfolding after_open_tested
  open_refused mask r e = rw (after_open_tested, e)

  pub open_taken : (mask : ℕ) → open_refusal_tested b s mask ≡ None → accepted s (free_slot s) mask ≡ after_open_tested b s mask
  unfolding after_open_tested
  open_taken mask e = rw (after_open_tested, e)

  pub ask_refused : (t k : ℕ) (r : Refusal) → ask_refusal_tested b s t k ≡ Some r → ◌≡◌ {A = After Asked} (record { answer = Err r; state = s }) (after_ask_tested b s t k)
  unfolding after_ask_tested
  ask_refused t k r e = rw (after_ask_tested, e)

  pub ask_taken : (t k : ℕ) → ask_refusal_tested b s t k ≡ None → asked_for s (holder s t) k ≡ after_ask_tested b s t k
  unfolding after_ask_tested
  ask_taken t k e = rw (after_ask_tested, e)

  pub confirm_refused : (t k : ℕ) (r : Refusal) → confirm_refusal_tested b s t k ≡ Some r
      → ◌≡◌ {A = After (Option Ticket)} (record { answer = Err r; state = s }) (after_confirm_tested b s t k)
  unfolding after_confirm_tested
  confirm_refused t k r e = rw (after_confirm_tested, e)

  pub confirm_taken : (t k : ℕ) → confirm_refusal_tested b s t k ≡ None → confirmed_at s (holder s t) k ≡ after_confirm_tested b s t k
  unfolding after_confirm_tested
  confirm_taken t k e = rw (after_confirm_tested, e)

  pub close_refused : (t : ℕ) (r : Refusal) → close_refusal_tested b s t ≡ Some r → ◌≡◌ {A = After (Option Closed)} (record { answer = Err r; state = s }) (after_close_tested b s t)
  unfolding after_close_tested
  close_refused t r e = rw (after_close_tested, e)

  pub close_taken : (t : ℕ) → close_refusal_tested b s t ≡ None → closed_at s (holder s t) ≡ after_close_tested b s t
  unfolding after_close_tested
  close_taken t e = rw (after_close_tested, e)
