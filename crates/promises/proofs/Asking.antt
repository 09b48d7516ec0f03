-- Asking for a step keeps the invariant. Assumes nothing.
use Prim.Native.Nat.{ℕ, ◌<◌}
use mathlib.Core.Bool.{Bool, true, false}
use Rattle.std.specs.Prelude.{Option, None, Some}
use mathlib.Core.Path.{◌≡◌, refl, sym, ap, ◌∙◌, subst}
use borrow.Author.Tests.{eq-eqb}
use Rattle.loops.proofs.Tests.{both, untrue}
use Rattle.rings.specs.Change.{releasing}
use Rattle.rings.specs.Rule.{MayGo, StepWaits}
use Rattle.rings.proofs.Calls.{ask_held_kept, ask_released_kept}
use Rattle.refusals.specs.declared.refusal.Refusal.{Refusal}
use Rattle.coordinator.specs.declared.Coordinator.{Coordinator}
use Rattle.coordinator.specs.Limits.{databases}
use Rattle.coordinator.specs.Views.{names, asked, released, is_open}
use Rattle.coordinator.specs.Holder.{holder}
use Rattle.coordinator.specs.Change.{mark_asked}
use Rattle.coordinator.specs.Release.{may_go, release}
use Rattle.coordinator.specs.Refusal.{ask_refusal}
use Rattle.coordinator.specs.Ask.{asked_for, after_ask}
use Rattle.coordinator.specs.Answer.{ask_values}
use Rattle.coordinator.specs.Call.{ask_step, play}
use Rattle.coordinator.specs.declared.answers.After.{After}
use Rattle.coordinator.specs.declared.answers.Asked.{Asked}
use Rattle.effects.specs.View.{view}
use Rattle.effects.specs.Effect.{asked_at, released_at}
use Rattle.soundness.specs.Changed.{Changed}
use Rattle.soundness.specs.Refused.{refusal_of}
use Rattle.soundness.specs.Accepted.{AskAccepted}
use Rattle.soundness.proofs.Accepted.{ask_accepted}
use Rattle.soundness.proofs.Arms.{ask_taken, ask_goes, ask_waits}
use Rattle.soundness.proofs.Marks.{asked_sound}
use Rattle.soundness.proofs.Release.{released_sound}
use Rattle.promises.specs.Told.{Told, asked_told, released_told, tell}
use Rattle.promises.specs.Moment.{Moment, next}
use Rattle.promises.specs.Tied.{history, Tied}
use Rattle.promises.specs.Invariant.{Invariant}
use Rattle.promises.proofs.Same.{tied_alike}
use Rattle.promises.proofs.Marks.{tied_asked}
use Rattle.promises.proofs.Release.{tied_released}
use Rattle.promises.proofs.Reading.{holder_means, may_go_job, step_waits_job}
use Rattle.promises.proofs.Refusals.{refused_next}

module _ (m : Moment) (I : Invariant m) (k j : ℕ) (l : k < databases) (o : is_open m.state j ≡ true) (n : names m.state j k ≡ true) (u : asked m.state j k ≡ false) where
  abbrev s : Coordinator
  s = m.state

  abbrev t : Coordinator
  t = mark_asked s j k

  abbrev T : Told
  T = m.told

  abbrev J : ℕ → ℕ
  J = I.job

  C : Changed t (asked_at (view s) j k)
  C = asked_sound s I.shape I.sound j k (I.tied.inside j o) l n

  K : Tied (asked_told T (J j) k) I.dep J (view t)
  K = tied_alike C.shows (tied_asked I.tied j o k)

  still : is_open t j ≡ true
  still = C.shows.is_open j ∙ o

  job_names : T.names (J j) k
  job_names = (I.tied.names j k o).0 n

  unreleased : released s j k ≡ false
  unreleased = untrue (released s j k) (λ e. both (I.sound.released_asked j k e) u)

  pub held : may_go t j k ≡ false → Invariant (record { told = asked_told T (J j) k; state = t })
  held e = record {
    dep = I.dep;
    job = J;
    kept = ask_held_kept (history T I.dep) I.kept job_names waits;
    tied = K;
    shape = C.shape;
    sound = C.sound;
  }
    where
      waits : StepWaits (history T I.dep) (J j) k
      waits = step_waits_job t C.shape K C.sound j still k e

  pub goes : may_go t j k ≡ true → Invariant (record { told = released_told (asked_told T (J j) k) (J j) k; state = release t j k })
  goes e = record {
    dep = (releasing (history (asked_told T (J j) k) I.dep) (J j) k).dep;
    job = J;
    kept = ask_released_kept (history T I.dep) I.kept (I.tied.sits j o) job_names (λ r. both ((I.tied.released j k o).1 r) unreleased) may;
    tied = tied_alike R.shows (tied_released K j k still);
    shape = R.shape;
    sound = R.sound;
  }
    where
      R : Changed (release t j k) (released_at (view t) j k)
      R = released_sound t C.shape C.sound j k (I.tied.inside j o) l (C.shows.asked j k ∙ rw (eq-eqb j j refl, eq-eqb k k refl)) (C.shows.released j k ∙ unreleased)

      may : MayGo (history T I.dep) (J j) k
      may = may_go_job t C.shape K (λ k x y d. (I.kept.ordered.depends.dep_open d).0) j still k e

-- the call, by what the table and the test say

module _ (m : Moment) (I : Invariant m) (t k : ℕ) where
  abbrev left : After Asked → Moment
  left a = record { told = tell m.told (ask_step t k) (ask_values a.answer); state = a.state }

  next_is : next m (ask_step t k) ≡ left (after_ask m.state t k)
  unfolding next play
  next_is = refl

  taken : ask_refusal m.state t k ≡ None → Invariant (left (asked_for m.state (holder m.state t) k))
  unfolding tell
  taken e = by (may_go (mark_asked m.state j k) j k) refl
    where
      A : AskAccepted m.state t k
      A = ask_accepted m.state t k e

      j : ℕ
      j = holder m.state t

      o : is_open m.state j ≡ true
      o = A.holder_of.is_open

      same : I.job j ≡ m.told.latest t
      same = sym (holder_means m.state I.shape I.tied t A.holder_of)

      by : (b : Bool) → may_go (mark_asked m.state j k) j k ≡ b → Invariant (left (asked_for m.state j k))
      by true g =
          subst (λ (a : After Asked). Invariant (left a)) (sym (ask_goes m.state j k g))
          (subst (λ (a : ℕ). Invariant (record { told = released_told (asked_told m.told a k) a k; state = release (mark_asked m.state j k) j k })) same
          (goes m I k j A.database o A.named A.unasked g))
      by false g =
          subst (λ (a : After Asked). Invariant (left a)) (sym (ask_waits m.state j k g))
          (subst (λ (a : ℕ). Invariant (record { told = asked_told m.told a k; state = mark_asked m.state j k })) same
          (held m I k j A.database o A.named A.unasked g))

  pub ask_next : Invariant (next m (ask_step t k))
  unfolding refusal_of
  ask_next = by (ask_refusal m.state t k) refl
    where
      by : (o : Option Refusal) → ask_refusal m.state t k ≡ o → Invariant (next m (ask_step t k))
      by None e = subst Invariant (sym (next_is ∙ ap left (ask_taken m.state t k e))) (taken e)
      by (Some r) e = refused_next m I (ask_step t k) r e
