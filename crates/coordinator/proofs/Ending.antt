-- What close has read of a state before it changes it, what it tells that no row applies, and what it leaves. Assumes nothing.
use mathlib.Core.Path.{◌≡◌}
use mathlib.Core.Bool.{Bool, true, false}
use Prim.Native.Nat.{ℕ, ◌<◌}
use Rattle.std.specs.Prelude.{Option, None, Ok}
use Rattle.mask.specs.Member.{holds, joined}
use Rattle.mask.proofs.Change.{joined_below}
use Rattle.refusals.proofs.Passed.{close_passed}
use Rattle.coordinator.specs.declared.Coordinator.{Coordinator}
use Rattle.coordinator.specs.declared.answers.After.{After}
use Rattle.coordinator.specs.declared.answers.Closed.{Closed}
use Rattle.coordinator.specs.Limits.{jobs}
use Rattle.coordinator.specs.Views.{in_mask, names, confirmed, held}
use Rattle.coordinator.specs.Holder.{holder}
use Rattle.coordinator.specs.Refusal.{all_confirmed, job_refusal, close_refusal_tested}
use Rattle.coordinator.specs.Tables.{may_close_in, all_confirmed_in}
use Rattle.coordinator.specs.Change.{mark_held}
use Rattle.coordinator.specs.Close.{closing, after_closing, closed_at, after_close_tested}
use Rattle.coordinator.proofs.Tables.{may_close_is}
use Rattle.coordinator.proofs.Answered.{close_taken}
use Rattle.coordinator.proofs.Step.{Read, slot_below}

module _ {s : Coordinator} {t f j : ℕ} (r : Read s t f j) (b is_confirmed is_held : Bool) where
  -- the rows that the code goes down are the call's
  pub close_rows : is_confirmed ≡ all_confirmed_in s.named s.confirmed j → is_held ≡ holds s.held j → job_refusal b f is_confirmed is_held ≡ close_refusal_tested b s t
  unfolding job_refusal all_confirmed_in all_confirmed names in_mask confirmed held
  close_rows p q = rw (p, q, r.found, r.slot)

  -- a call that is not refused finds a job, in range
  pub close_fits : job_refusal b f is_confirmed is_held ≡ None → j < jobs
  close_fits e = slot_below r (close_passed b f is_confirmed is_held e)

-- the two ends

module _ (b : Bool) (s : Coordinator) (t j : ℕ) (taken : close_refusal_tested b s t ≡ None) (slot : j ≡ holder s t) where
  taken_at : closed_at s j ≡ after_close_tested b s t
  taken_at = rw slot (close_taken b s t taken)

  pub held_is : may_close_in s.dependencies j ≡ false → j < jobs → (held : ℕ) → held ≡ joined jobs s.held j
      → ◌≡◌ {A = After (Option Closed)}
      (record {
        answer = Ok None;
        state = record {
          tickets = s.tickets;
          held = held;
          order = s.order;
          named = s.named;
          asked = s.asked;
          released = s.released;
          confirmed = s.confirmed;
          dependencies = s.dependencies;
          maker = s.maker;
        };
      })
      (after_close_tested b s t)
  unfolding closed_at mark_held
  held_is e l held h = rw (← taken_at, closed_at, ← may_close_is s j, e, h, joined_below jobs s.held j l)

  pub closed_is : may_close_in s.dependencies j ≡ true → after_closing (closing s j) ≡ after_close_tested b s t
  unfolding closed_at
  closed_is e = rw (← taken_at, closed_at, ← may_close_is s j, e)
