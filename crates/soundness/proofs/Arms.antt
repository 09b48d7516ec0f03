-- Which arm each call takes: what it answers and leaves, by its refusal and its tests. Assumes nothing.
use Prim.Native.Nat.{ℕ, suc}
use mathlib.Core.Bool.{true, false}
use Rattle.std.specs.Prelude.{Option, None, Some, Ok, Err}
use mathlib.Core.Path.{◌≡◌}
use lib.Dec.{eqb}
use Rattle.numbers.specs.declared.Ticket.{Ticket}
use Rattle.refusals.specs.declared.refusal.Refusal.{Refusal}
use Rattle.coordinator.specs.declared.Coordinator.{Coordinator}
use Rattle.coordinator.specs.Holder.{holder}
use Rattle.coordinator.specs.Refusal.{open_refusal, ask_refusal, confirm_refusal, close_refusal}
use Rattle.coordinator.specs.Change.{mark_asked, mark_confirmed, mark_held}
use Rattle.coordinator.specs.Release.{may_go, release, may_go_at, may_close, may_close_now, first_of}
use Rattle.coordinator.specs.Open.{free_slot, accepted, after_open}
use Rattle.coordinator.specs.Ask.{asked_for, after_ask}
use Rattle.coordinator.specs.Confirm.{released_one, confirmed_at, after_confirm}
use Rattle.coordinator.specs.Close.{Closing, close_one, close_held, closing, after_closing, closed_at, after_close}
use Rattle.coordinator.specs.declared.answers.After.{After}
use Rattle.coordinator.specs.declared.answers.Opened.{Opened}
use Rattle.coordinator.specs.declared.answers.Asked.{Asked}
use Rattle.coordinator.specs.declared.answers.Closed.{Closed}

module _ (s : Coordinator) where
  -- open

  pub open_refused : (mask : ℕ) (r : Refusal) → open_refusal s mask ≡ Some r → ◌≡◌ {A = After Opened} (after_open s mask) (record { answer = Err r; state = s })
  unfolding after_open
  open_refused mask r e = rw (after_open, e)

  pub open_taken : (mask : ℕ) → open_refusal s mask ≡ None → after_open s mask ≡ accepted s (free_slot s) mask
  unfolding after_open
  open_taken mask e = rw (after_open, e)

  -- ask

  pub ask_refused : (t k : ℕ) (r : Refusal) → ask_refusal s t k ≡ Some r → ◌≡◌ {A = After Asked} (after_ask s t k) (record { answer = Err r; state = s })
  unfolding after_ask
  ask_refused t k r e = rw (after_ask, e)

  pub ask_taken : (t k : ℕ) → ask_refusal s t k ≡ None → after_ask s t k ≡ asked_for s (holder s t) k
  unfolding after_ask
  ask_taken t k e = rw (after_ask, e)

  pub ask_goes : (j k : ℕ) → may_go (mark_asked s j k) j k ≡ true
      → ◌≡◌ {A = After Asked} (asked_for s j k) (record { answer = Ok Asked.Released; state = release (mark_asked s j k) j k })
  unfolding asked_for
  ask_goes j k e = rw (asked_for, e)

  pub ask_waits : (j k : ℕ) → may_go (mark_asked s j k) j k ≡ false → ◌≡◌ {A = After Asked} (asked_for s j k) (record { answer = Ok Asked.Held; state = mark_asked s j k })
  unfolding asked_for
  ask_waits j k e = rw (asked_for, e)

  -- confirm

  pub confirm_refused : (t k : ℕ) (r : Refusal) → confirm_refusal s t k ≡ Some r
      → ◌≡◌ {A = After (Option Ticket)} (after_confirm s t k) (record { answer = Err r; state = s })
  unfolding after_confirm
  confirm_refused t k r e = rw (after_confirm, e)

  pub confirm_taken : (t k : ℕ) → confirm_refusal s t k ≡ None → after_confirm s t k ≡ confirmed_at s (holder s t) k
  unfolding after_confirm
  confirm_taken t k e = rw (after_confirm, e)

  pub confirm_none : (j k : ℕ) → eqb (may_go_at (mark_confirmed s j k) k) 0 ≡ true
      → ◌≡◌ {A = After (Option Ticket)} (confirmed_at s j k) (record { answer = Ok None; state = mark_confirmed s j k })
  unfolding confirmed_at
  confirm_none j k e = rw (confirmed_at, e)

  pub confirm_one : (j k : ℕ) → eqb (may_go_at (mark_confirmed s j k) k) 0 ≡ false
      → confirmed_at s j k ≡ released_one (mark_confirmed s j k) (first_of (mark_confirmed s j k) (may_go_at (mark_confirmed s j k) k)) k
  unfolding confirmed_at
  confirm_one j k e = rw (confirmed_at, e)

  -- close

  pub close_refused : (t : ℕ) (r : Refusal) → close_refusal s t ≡ Some r → ◌≡◌ {A = After (Option Closed)} (after_close s t) (record { answer = Err r; state = s })
  unfolding after_close
  close_refused t r e = rw (after_close, e)

  pub close_taken : (t : ℕ) → close_refusal s t ≡ None → after_close s t ≡ closed_at s (holder s t)
  unfolding after_close
  close_taken t e = rw (after_close, e)

  pub close_goes : (j : ℕ) → may_close s j ≡ true
      → ◌≡◌ {A = After (Option Closed)} (closed_at s j) (after_closing (closing s j))
  unfolding closed_at
  close_goes j e = rw (closed_at, e)

  pub close_waits : (j : ℕ) → may_close s j ≡ false
      → ◌≡◌ {A = After (Option Closed)} (closed_at s j) (record { answer = Ok None; state = mark_held s j })
  unfolding closed_at
  close_waits j e = rw (closed_at, e)

-- the cascade

pub cascade_none : (left : ℕ) (c : Closing) → eqb (may_close_now c.state) 0 ≡ true → close_held (suc left) c ≡ c
unfolding close_held
cascade_none left c e = rw (close_held, e)

pub cascade_one : (left : ℕ) (c : Closing) → eqb (may_close_now c.state) 0 ≡ false
    → close_held (suc left) c ≡ close_held left (close_one c (first_of c.state (may_close_now c.state)))
unfolding close_held
cascade_one left c e = rw (close_held, e)
