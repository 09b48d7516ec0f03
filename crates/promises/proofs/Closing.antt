-- Asking to close a job keeps the invariant. Assumes nothing.
use Prim.Native.Nat.{ℕ}
use native.Mathlib.Omega.{arith}
use mathlib.Core.Bool.{Bool, true, false, not, ◌&&◌, ◌||◌}
use Rattle.std.specs.Prelude.{Option, None, Some}
use mathlib.Core.Path.{◌≡◌, refl, sym, ap, ◌∙◌, subst}
use lib.Dec.{eqb}
use lib.ListN.{length-replicate}
use Rattle.mask.specs.Member.{including, excluding, holds}
use Rattle.mask.proofs.Holds.{holds_including, holds_excluding}
use Rattle.mask.proofs.Equal.{equal_members}
use Rattle.rings.proofs.Marking.{holding_ordered}
use Rattle.rings.proofs.Calls.{close_held_kept}
use Rattle.refusals.specs.declared.refusal.Refusal.{Refusal}
use Rattle.coordinator.specs.declared.Coordinator.{Coordinator}
use Rattle.coordinator.specs.Limits.{jobs}
use Rattle.coordinator.specs.Views.{is_open, names, confirmed, into, ticket, opened}
use Rattle.coordinator.specs.Holder.{holder}
use Rattle.coordinator.specs.Change.{mark_held, removed, place}
use Rattle.coordinator.specs.Release.{may_close}
use Rattle.coordinator.specs.Refusal.{close_refusal}
use Rattle.coordinator.specs.Close.{Closing, no_tickets, close_one, closing, closed_at, after_close}
use Rattle.coordinator.specs.Answer.{close_values}
use Rattle.coordinator.specs.Call.{close_job, play}
use Rattle.coordinator.specs.declared.answers.After.{After}
use Rattle.coordinator.specs.declared.answers.Closed.{Closed}
use Rattle.effects.specs.View.{view}
use Rattle.effects.specs.Effect.{held_at}
use Rattle.effects.proofs.Bounds.{count_le}
use Rattle.soundness.specs.Changed.{Changed}
use Rattle.soundness.specs.Refused.{refusal_of}
use Rattle.soundness.specs.Accepted.{CloseAccepted}
use Rattle.soundness.proofs.Accepted.{close_accepted}
use Rattle.soundness.proofs.Arms.{close_taken, close_goes, close_waits}
use Rattle.soundness.proofs.Marks.{held_sound}
use Rattle.promises.specs.Told.{Told, close_asked_told, tell}
use Rattle.promises.specs.Moment.{Moment, next}
use Rattle.promises.specs.Tied.{history, Tied}
use Rattle.promises.specs.Invariant.{Invariant}
use Rattle.promises.proofs.Same.{tied_alike}
use Rattle.promises.proofs.Marks.{tied_held}
use Rattle.promises.proofs.Reading.{holder_means, close_waits_job}
use Rattle.promises.proofs.Refusals.{refused_next}
use Rattle.promises.proofs.Cascade.{Going, closed_so_far, one_closed, Ended, cascade, closes_wait}

-- a close held and then carried out leaves what it leaves when it is not held first
held_no_matter : (m k : ℕ) → excluding (including m k) k ≡ excluding m k
held_no_matter m k = equal_members _ _ (λ j. holds_excluding (including m k) k j ∙ ap (λ (b : Bool). not (eqb j k) && b) (holds_including m k j) ∙ off (eqb j k) (holds m j) ∙ sym (holds_excluding m k j))
  where
    off : (x y : Bool) → not x && (x || y) ≡ not x && y
    off true y = refl
    off false y = refl

removed_held : (s : Coordinator) (j : ℕ) → removed (mark_held s j) j ≡ removed s j
unfolding removed mark_held place opened
removed_held s j = λ i. record {
  tickets = (removed s j).tickets;
  held = held_no_matter s.held j i;
  order = (removed s j).order;
  named = (removed s j).named;
  asked = (removed s j).asked;
  released = (removed s j).released;
  confirmed = (removed s j).confirmed;
  dependencies = (removed s j).dependencies;
  maker = s.maker;
}

module _ (m : Moment) (I : Invariant m) (j : ℕ) (o : is_open m.state j ≡ true) (all : (k : ℕ) → names m.state j k ≡ true → confirmed m.state j k ≡ true) where
  abbrev s : Coordinator
  s = m.state

  abbrev u : Coordinator
  u = mark_held s j

  abbrev T : Told
  T = m.told

  abbrev J : ℕ → ℕ
  J = I.job

  C : Changed u (held_at (view s) j)
  C = held_sound s I.shape I.sound j o all

  K : Tied (close_asked_told T (J j)) I.dep J (view u)
  K = tied_alike C.shows (tied_held I.tied j o)

  pub waits : may_close s j ≡ false → Invariant (record { told = close_asked_told T (J j); state = u })
  waits e = record {
    dep = I.dep;
    job = J;
    kept = close_held_kept (history T I.dep) I.kept (I.tied.sits j o) (close_waits_job s I.shape I.tied I.sound j o e);
    tied = K;
    shape = C.shape;
    sound = C.sound;
  }

  abbrev at_first : Coordinator → Closing
  at_first x = record { count = 0; tickets = no_tickets; state = x }

  begun : Going (close_asked_told T (J j)) (at_first u)
  begun = record {
    dep = I.dep;
    job = J;
    ordered = holding_ordered (history T I.dep) I.kept.ordered (I.tied.sits j o);
    steps_wait = record { step_waits = I.kept.steps_wait.step_waits };
    tied = K;
    shape = C.shape;
    sound = C.sound;
    room = omega (arith, count_le u C.shape);
    slots = length-replicate {A = ℕ} jobs 0;
  }

  same_test : may_close u j ≡ may_close s j
  unfolding may_close into mark_held
  same_test = refl

  same_first : close_one (at_first u) j ≡ close_one (at_first s) j
  unfolding close_one ticket mark_held
  same_first = λ i. record { count = 1; tickets = (close_one (at_first s) j).tickets; state = removed_held s j i }

  first_closed : may_close s j ≡ true → Going (close_asked_told T (J j)) (close_one (at_first s) j)
  first_closed e =
      subst (Going (close_asked_told T (J j))) same_first
      (one_closed (at_first u) begun j (C.shows.is_open j ∙ o) (same_test ∙ e) (λ k n. C.shows.confirmed j k ∙ all k (sym (C.shows.names j k) ∙ n)))

  pub goes : may_close s j ≡ true → Invariant (record { told = closed_so_far (close_asked_told T (J j)) (closing s j); state = (closing s j).state })
  unfolding closing
  goes e = record {
    dep = E.going.dep;
    job = E.going.job;
    kept = record { ordered = E.going.ordered; steps_wait = E.going.steps_wait; closes_wait = closes_wait (close_asked_told T (J j)) (closing s j) E };
    tied = E.going.tied;
    shape = E.going.shape;
    sound = E.going.sound;
  }
    where
      E : Ended (close_asked_told T (J j)) (closing s j)
      E = cascade (close_asked_told T (J j)) jobs (close_one (at_first s) j) (first_closed e) (omega (arith, (first_closed e).room))

-- the call, by what the table and the test say

module _ (m : Moment) (I : Invariant m) (t : ℕ) where
  abbrev left : After (Option Closed) → Moment
  left a = record { told = tell m.told (close_job t) (close_values a.answer); state = a.state }

  next_is : next m (close_job t) ≡ left (after_close m.state t)
  unfolding next play
  next_is = refl

  taken : close_refusal m.state t ≡ None → Invariant (left (closed_at m.state (holder m.state t)))
  unfolding tell
  taken e = by (may_close m.state j) refl
    where
      A : CloseAccepted m.state t
      A = close_accepted m.state I.shape t e

      j : ℕ
      j = holder m.state t

      o : is_open m.state j ≡ true
      o = A.holder_of.is_open

      all : (k : ℕ) → names m.state j k ≡ true → confirmed m.state j k ≡ true
      all = A.all_confirmed

      same : I.job j ≡ m.told.latest t
      same = sym (holder_means m.state I.shape I.tied t A.holder_of)

      by : (b : Bool) → may_close m.state j ≡ b → Invariant (left (closed_at m.state j))
      by true g =
          subst (λ (a : After (Option Closed)). Invariant (left a)) (sym (close_goes m.state j g))
          (subst (λ (a : ℕ). Invariant (record { told = closed_so_far (close_asked_told m.told a) (closing m.state j); state = (closing m.state j).state })) same
          (goes m I j o all g))
      by false g =
          subst (λ (a : After (Option Closed)). Invariant (left a)) (sym (close_waits m.state j g))
          (subst (λ (a : ℕ). Invariant (record { told = close_asked_told m.told a; state = mark_held m.state j })) same (waits m I j o all g))

  pub close_next : Invariant (next m (close_job t))
  unfolding refusal_of
  close_next = by (close_refusal m.state t) refl
    where
      by : (o : Option Refusal) → close_refusal m.state t ≡ o → Invariant (next m (close_job t))
      by None e = subst Invariant (sym (next_is ∙ ap left (close_taken m.state t e))) (taken e)
      by (Some r) e = refused_next m I (close_job t) r e
