-- Confirming a step keeps the invariant. Assumes nothing.
use Prim.Native.Nat.{ℕ, ◌<◌}
use mathlib.Core.Bool.{Bool, true, false}
use Rattle.std.specs.Prelude.{Option, None, Some}
use mathlib.Core.Path.{◌≡◌, refl, sym, ap, ◌∙◌, subst}
use borrow.Author.Tests.{eqb-true, eqb-false}
use lib.Dec.{eqb}
use Rattle.loops.proofs.Tests.{and_both, both, untrue}
use Rattle.rings.specs.Change.{confirming, releasing}
use Rattle.rings.specs.Rule.{Pending, MayGo, StepWaits}
use Rattle.rings.proofs.Calls.{confirm_kept, confirm_released_kept}
use Rattle.numbers.specs.declared.Ticket.{Ticket}
use Rattle.refusals.specs.declared.refusal.Refusal.{Refusal}
use Rattle.coordinator.specs.declared.Coordinator.{Coordinator}
use Rattle.coordinator.specs.Limits.{jobs, databases}
use Rattle.coordinator.specs.Views.{asked, released, is_open}
use Rattle.coordinator.specs.Holder.{holder}
use Rattle.coordinator.specs.Change.{mark_confirmed}
use Rattle.coordinator.specs.Release.{may_go, may_go_at, first_of, release}
use Rattle.coordinator.specs.Refusal.{confirm_refusal}
use Rattle.coordinator.specs.Confirm.{released_one, confirmed_at, after_confirm}
use Rattle.coordinator.specs.Answer.{confirm_values}
use Rattle.coordinator.specs.Call.{confirm_step, play}
use Rattle.coordinator.specs.declared.answers.After.{After}
use Rattle.effects.specs.View.{view}
use Rattle.effects.specs.Effect.{released_at}
use Rattle.effects.specs.Effect.{confirmed_at as confirmedView}
use Rattle.effects.proofs.Bounds.{open_names}
use Rattle.effects.proofs.Tests.{none_may_go, first_to_go}
use Rattle.soundness.specs.Changed.{Changed}
use Rattle.soundness.specs.Refused.{refusal_of}
use Rattle.soundness.specs.Accepted.{ConfirmAccepted}
use Rattle.soundness.proofs.Accepted.{confirm_accepted}
use Rattle.soundness.proofs.Arms.{confirm_taken, confirm_none, confirm_one}
use Rattle.soundness.proofs.Marks.{confirmed_sound}
use Rattle.soundness.proofs.Release.{released_sound}
use Rattle.promises.specs.Told.{Told, confirmed_told, released_told, tell}
use Rattle.promises.specs.Promise.{Released}
use Rattle.promises.specs.Moment.{Moment, next}
use Rattle.promises.specs.Tied.{history, Tied}
use Rattle.promises.specs.Invariant.{Invariant}
use Rattle.promises.proofs.Same.{tied_alike}
use Rattle.promises.proofs.Marks.{tied_confirmed}
use Rattle.promises.proofs.Release.{tied_released, is_not}
use Rattle.promises.proofs.Reading.{holder_means, may_go_job, step_waits_job}
use Rattle.promises.proofs.Refusals.{refused_next}

module _ (m : Moment) (I : Invariant m) (k j : ℕ) (l : k < databases) (o : is_open m.state j ≡ true) (n : released m.state j k ≡ true) where
  abbrev s : Coordinator
  s = m.state

  abbrev t : Coordinator
  t = mark_confirmed s j k

  abbrev T : Told
  T = m.told

  abbrev J : ℕ → ℕ
  J = I.job

  C : Changed t (confirmedView (view s) j k)
  C = confirmed_sound s I.shape I.sound j k (I.tied.inside j o) l n

  K : Tied (confirmed_told T (J j) k) I.dep J (view t)
  K = tied_alike C.shows (tied_confirmed I.tied j o k)

  job_released : Released T (J j) k
  job_released = (I.tied.released j k o).0 n

  -- nobody may go: all who asked wait
  pub nobody : may_go_at t k ≡ 0 → Invariant (record { told = confirmed_told T (J j) k; state = t })
  nobody e = record {
    dep = I.dep;
    job = J;
    kept = confirm_kept (history T I.dep) I.kept job_released waits;
    tied = K;
    shape = C.shape;
    sound = C.sound;
  }
    where
      stuck : (i : ℕ) → i < jobs → asked t i k ≡ true → released t i k ≡ false → may_go t i k ≡ false
      stuck i h a r = untrue (may_go t i k) (λ g. both (and_both (and_both a (rw r)) g) ((none_may_go t k).0 e i h))

      waits : (x : ℕ) → Pending (history T I.dep) x k → StepWaits (confirming (history T I.dep) (J j) k) x k
      waits x (p, a, u) =
          let (i, q, z) = K.seat x p in
          let asks : asked t i k ≡ true = (K.asked i k q).1 (subst (λ (y : ℕ). T.asked y k) (sym z) a) in
          let free : released t i k ≡ false = is_not (K.released i k q) (λ r. u (subst (λ (y : ℕ). Released T y k) z r)) in
          subst (λ (y : ℕ). StepWaits (confirming (history T I.dep) (J j) k) y k) z
          (step_waits_job t C.shape K C.sound i q k (stuck i (K.inside i q) asks free))

  -- one of those that may go is released
  module _ (f : ℕ) (h : f < jobs) (a : asked t f k ≡ true) (u : released t f k ≡ false) (g : may_go t f k ≡ true) where
    q : is_open t f ≡ true
    q = open_names t C.shape f k (C.sound.asked_named f k a)

    R : Changed (release t f k) (released_at (view t) f k)
    R = released_sound t C.shape C.sound f k h l a u

    pub freed : Invariant (record { told = released_told (confirmed_told T (J j) k) (J f) k; state = release t f k })
    freed = record {
      dep = (releasing (history (confirmed_told T (J j) k) I.dep) (J f) k).dep;
      job = J;
      kept = confirm_released_kept (history T I.dep) I.kept job_released pending may;
      tied = tied_alike R.shows (tied_released K f k q);
      shape = R.shape;
      sound = R.sound;
    }
      where
        pending : Pending (history T I.dep) (J f) k
        pending = (K.sits f q, (K.asked f k q).0 a, λ r. both ((K.released f k q).1 r) u)

        may : MayGo (confirming (history T I.dep) (J j) k) (J f) k
        may = may_go_job t C.shape K (λ k x y d. (I.kept.ordered.depends.dep_open d).0) f q k g

-- the call, by what the table and the test say

module _ (m : Moment) (I : Invariant m) (t k : ℕ) where
  abbrev left : After (Option Ticket) → Moment
  left a = record { told = tell m.told (confirm_step t k) (confirm_values a.answer); state = a.state }

  next_is : next m (confirm_step t k) ≡ left (after_confirm m.state t k)
  unfolding next play
  next_is = refl

  taken : confirm_refusal m.state t k ≡ None → Invariant (left (confirmed_at m.state (holder m.state t) k))
  unfolding tell released_one
  taken e = by (eqb (may_go_at u k) 0) refl
    where
      A : ConfirmAccepted m.state t k
      A = confirm_accepted m.state t k e

      j : ℕ
      j = holder m.state t

      u : Coordinator
      u = mark_confirmed m.state j k

      o : is_open m.state j ≡ true
      o = A.holder_of.is_open

      same : I.job j ≡ m.told.latest t
      same = sym (holder_means m.state I.shape I.tied t A.holder_of)

      f : ℕ
      f = first_of u (may_go_at u k)

      goer : ¬ (may_go_at u k ≡ 0) → Invariant (left (released_one u f k))
      goer ne =
          let F = first_to_go u k ne in
          let there = (K m I k j A.database o A.is_released).means f (q m I k j A.database o A.is_released f F.slot F.asks F.unreleased F.goes) in
          subst (λ (a : ℕ). Invariant (record { told = released_told (confirmed_told m.told (m.told.latest t) k) a k; state = release u f k })) (sym there)
          (subst (λ (a : ℕ). Invariant (record { told = released_told (confirmed_told m.told a k) (I.job f) k; state = release u f k })) same
          (freed m I k j A.database o A.is_released f F.slot F.asks F.unreleased F.goes))

      by : (b : Bool) → eqb (may_go_at u k) 0 ≡ b → Invariant (left (confirmed_at m.state j k))
      by true g =
          subst (λ (a : After (Option Ticket)). Invariant (left a)) (sym (confirm_none m.state j k g))
          (subst (λ (a : ℕ). Invariant (record { told = confirmed_told m.told a k; state = u })) same
          (nobody m I k j A.database o A.is_released (eqb-true (may_go_at u k) 0 g)))
      by false g = subst (λ (a : After (Option Ticket)). Invariant (left a)) (sym (confirm_one m.state j k g)) (goer (eqb-false (may_go_at u k) 0 g))

  pub confirm_next : Invariant (next m (confirm_step t k))
  unfolding refusal_of
  confirm_next = by (confirm_refusal m.state t k) refl
    where
      by : (o : Option Refusal) → confirm_refusal m.state t k ≡ o → Invariant (next m (confirm_step t k))
      by None e = subst Invariant (sym (next_is ∙ ap left (confirm_taken m.state t k e))) (taken e)
      by (Some r) e = refused_next m I (confirm_step t k) r e
