-- What is said of refusals: a call that no row refuses answers 0 for its number, and no refusal does. Assumes nothing.
use Prim.Native.Nat.{ℕ}
use mathlib.Core.Bool.{Bool, true, false}
use Rattle.std.specs.Prelude.{Option, None, Some}
use mathlib.Core.Path.{◌≡◌, refl, ap, ◌∙◌}
use lib.Dec.{eqb}
use Rattle.numbers.specs.declared.Ticket.{Ticket}
use Rattle.refusals.specs.declared.refusal.Refusal.{Refusal}
use Rattle.refusals.specs.Number.{number}
use Rattle.coordinator.specs.declared.Coordinator.{Coordinator}
use Rattle.coordinator.specs.Holder.{holder}
use Rattle.coordinator.specs.Change.{mark_asked, mark_confirmed}
use Rattle.coordinator.specs.Release.{may_go, may_go_at, may_close}
use Rattle.coordinator.specs.Open.{accepted}
use Rattle.coordinator.specs.Ask.{asked_for}
use Rattle.coordinator.specs.Confirm.{released_one, confirmed_at}
use Rattle.coordinator.specs.Close.{closed_at}
use Rattle.coordinator.specs.Answer.{open_values, ask_values, confirm_values, close_values}
use Rattle.coordinator.specs.Call.{Call, open_job, ask_step, confirm_step, close_job, play}
use Rattle.coordinator.specs.declared.answers.After.{After}
use Rattle.coordinator.specs.declared.answers.Opened.{Opened}
use Rattle.coordinator.specs.declared.answers.Asked.{Asked}
use Rattle.coordinator.specs.declared.answers.Closed.{Closed}
use Rattle.soundness.proofs.Arms.{open_taken, ask_taken, ask_goes, ask_waits, confirm_taken, confirm_none, confirm_one, close_taken, close_goes, close_waits}
use Rattle.soundness.specs.Refused.{refusal_of}
use Rattle.soundness.proofs.Refused.{refused_play, refusal_first, refusal_none}
use Rattle.soundness.proofs.Every.{damaged_refused}
use Rattle.promises.specs.Everywhere.{Refusals}
use Rattle.promises.proofs.Refusals.{not_zero, told_apart}

ask_zero : (s : Coordinator) (j k : ℕ) → (ask_values (asked_for s j k).answer).refusal ≡ 0
ask_zero s j k = by (may_go (mark_asked s j k) j k) refl
  where
    by : (b : Bool) → may_go (mark_asked s j k) j k ≡ b → (ask_values (asked_for s j k).answer).refusal ≡ 0
    by true e = ap (λ (a : After Asked). (ask_values a.answer).refusal) (ask_goes s j k e)
    by false e = ap (λ (a : After Asked). (ask_values a.answer).refusal) (ask_waits s j k e)

confirm_zero : (s : Coordinator) (j k : ℕ) → (confirm_values (confirmed_at s j k).answer).refusal ≡ 0
unfolding released_one
confirm_zero s j k = by (eqb (may_go_at (mark_confirmed s j k) k) 0) refl
  where
    by : (b : Bool) → eqb (may_go_at (mark_confirmed s j k) k) 0 ≡ b → (confirm_values (confirmed_at s j k).answer).refusal ≡ 0
    by true e = ap (λ (a : After (Option Ticket)). (confirm_values a.answer).refusal) (confirm_none s j k e)
    by false e = ap (λ (a : After (Option Ticket)). (confirm_values a.answer).refusal) (confirm_one s j k e)

close_zero : (s : Coordinator) (j : ℕ) → (close_values (closed_at s j).answer).refusal ≡ 0
close_zero s j = by (may_close s j) refl
  where
    by : (b : Bool) → may_close s j ≡ b → (close_values (closed_at s j).answer).refusal ≡ 0
    by true e = ap (λ (a : After (Option Closed)). (close_values a.answer).refusal) (close_goes s j e)
    by false e = ap (λ (a : After (Option Closed)). (close_values a.answer).refusal) (close_waits s j e)

accepts : (s : Coordinator) (c : Call) → refusal_of s c ≡ None → (play s c).values.refusal ≡ 0
unfolding play accepted refusal_of
accepts s (open_job mask) e = ap (λ (a : After Opened). (open_values a.answer).refusal) (open_taken s mask e)
accepts s (ask_step t k) e = ap (λ (a : After Asked). (ask_values a.answer).refusal) (ask_taken s t k e) ∙ ask_zero s (holder s t) k
accepts s (confirm_step t k) e = ap (λ (a : After (Option Ticket)). (confirm_values a.answer).refusal) (confirm_taken s t k e) ∙ confirm_zero s (holder s t) k
accepts s (close_job t) e = ap (λ (a : After (Option Closed)). (close_values a.answer).refusal) (close_taken s t e) ∙ close_zero s (holder s t)

numbered : (s : Coordinator) (c : Call) (r : Refusal) → refusal_of s c ≡ Some r → ¬ (number r ≡ 0)
numbered s c r e = not_zero r

pub refusals : Refusals
refusals = record {
  changes_nothing = refused_play;
  accepts = accepts;
  damaged = λ s c S x. damaged_refused s S x c;
  first_row = refusal_first;
  no_row = refusal_none;
  numbered = numbered;
  told_apart = told_apart;
}
