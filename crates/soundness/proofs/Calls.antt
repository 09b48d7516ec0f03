-- Every call on a sound state leaves a sound state, refused or not. Assumes nothing.
use Prim.Native.Nat.{ℕ, zero, suc, ◌^◌, ◌<◌}
use mathlib.Core.Bool.{Bool, true, false}
use Rattle.std.specs.Prelude.{Option, None, Some}
use mathlib.Core.Path.{◌≡◌, refl, sym, subst, ◌∙◌}
use borrow.Author.Tests.{eq-eqb, eqb-false}
use lib.Dec.{eqb}
use Rattle.loops.proofs.Tests.{both, untrue}
use Rattle.refusals.specs.declared.refusal.Refusal.{Refusal}
use Rattle.coordinator.specs.declared.Coordinator.{Coordinator}
use Rattle.coordinator.specs.Limits.{jobs, databases}
use Rattle.coordinator.specs.Shape.{Shape}
use Rattle.coordinator.specs.Sound.{Sound}
use Rattle.coordinator.specs.Views.{names, asked, released, confirmed, is_open, held}
use Rattle.coordinator.specs.Holder.{holder}
use Rattle.coordinator.specs.Refusal.{open_refusal, ask_refusal, confirm_refusal, close_refusal}
use Rattle.coordinator.specs.Change.{mark_asked, mark_confirmed}
use Rattle.coordinator.specs.Release.{may_go, may_go_at, may_close, may_close_now, first_of}
use Rattle.coordinator.specs.Open.{accepted, after_open}
use Rattle.coordinator.specs.Ask.{asked_for, after_ask}
use Rattle.coordinator.specs.Confirm.{released_one, confirmed_at, after_confirm}
use Rattle.coordinator.specs.Close.{Closing, close_one, close_held, closing, closed_at, after_close}
use Rattle.coordinator.specs.Call.{Call, open_job, ask_step, confirm_step, close_job, play}
use Rattle.coordinator.specs.declared.answers.After.{After}
use Rattle.effects.specs.View.{View, view}
use Rattle.effects.specs.Effect.{asked_at}
use Rattle.effects.proofs.Tests.{first_to_go, first_to_close}
use Rattle.soundness.specs.Changed.{Changed}
use Rattle.soundness.specs.Kept.{Kept, MaskFits}
use Rattle.soundness.proofs.Arms.{open_refused, open_taken, ask_refused, ask_taken, ask_goes, ask_waits, confirm_refused, confirm_taken, confirm_none, confirm_one, close_refused, close_taken, close_goes, close_waits, cascade_none, cascade_one}
use Rattle.soundness.proofs.Accepted.{open_accepted, ask_accepted, confirm_accepted, close_accepted}
use Rattle.soundness.proofs.Marks.{asked_sound, confirmed_sound, held_sound}
use Rattle.soundness.proofs.Release.{released_sound}
use Rattle.soundness.proofs.Remove.{removed_sound}
use Rattle.soundness.proofs.Open.{opened_sound}

kept : {s : Coordinator} {v : View} → Changed s v → Kept s
kept c = (c.shape, c.sound)

left_kept : {A : Type 0} {x y : After A} → x ≡ y → Kept y.state → Kept x.state
left_kept {A} e K = subst (λ (z : After A). Kept z.state) (sym e) K

-- open

pub open_kept : (s : Coordinator) → Kept s → (mask : ℕ) → mask < 2 ^ 16 → Kept (after_open s mask).state
unfolding accepted
open_kept s (h, S) mask small = by (open_refusal s mask) refl
  where
    by : (o : Option Refusal) → open_refusal s mask ≡ o → Kept (after_open s mask).state
    by None e =
        let a = open_accepted s h mask e in
        left_kept (open_taken s mask e) (kept (opened_sound s h S mask small a.some a.room).1)
    by (Some r) e = left_kept (open_refused s mask r e) (h, S)

-- ask

-- a step that is asked for, and was not before
asked_kept : (s : Coordinator) → Kept s → (j k : ℕ) → j < jobs → k < databases → names s j k ≡ true → asked s j k ≡ false → Kept (asked_for s j k).state
asked_kept s (h, S) j k slot database n new = by (may_go (mark_asked s j k) j k) refl
  where
    c : Changed (mark_asked s j k) (asked_at (view s) j k)
    c = asked_sound s h S j k slot database n

    by : (b : Bool) → may_go (mark_asked s j k) j k ≡ b → Kept (asked_for s j k).state
    by true e =
        let asks : asked (mark_asked s j k) j k ≡ true = c.shows.asked j k ∙ rw (eq-eqb j j refl, eq-eqb k k refl) in
        let waits : released (mark_asked s j k) j k ≡ false = c.shows.released j k ∙ untrue (released s j k) (λ r. both (S.released_asked j k r) new) in
        left_kept (ask_goes s j k e) (kept (released_sound (mark_asked s j k) c.shape c.sound j k slot database asks waits))
    by false e = left_kept (ask_waits s j k e) (kept c)

pub ask_kept : (s : Coordinator) → Kept s → (t k : ℕ) → Kept (after_ask s t k).state
ask_kept s K t k = by (ask_refusal s t k) refl
  where
    by : (o : Option Refusal) → ask_refusal s t k ≡ o → Kept (after_ask s t k).state
    by None e =
        let a = ask_accepted s t k e in
        left_kept (ask_taken s t k e) (asked_kept s K (holder s t) k a.holder_of.slot a.database a.named a.unasked)
    by (Some r) e = left_kept (ask_refused s t k r e) K

-- confirm

-- whichever of those that may go is released
one_kept : (s : Coordinator) → Kept s → (k : ℕ) → k < databases → ¬ (may_go_at s k ≡ 0) → Kept (released_one s (first_of s (may_go_at s k)) k).state
unfolding released_one
one_kept s (h, S) k database any =
    let f = first_to_go s k any in
    kept (released_sound s h S (first_of s (may_go_at s k)) k f.slot database f.asks f.unreleased)

confirmed_kept : (s : Coordinator) → Kept s → (j k : ℕ) → j < jobs → k < databases → released s j k ≡ true → Kept (confirmed_at s j k).state
confirmed_kept s (h, S) j k slot database r = by (eqb (may_go_at (mark_confirmed s j k) k) 0) refl
  where
    K : Kept (mark_confirmed s j k)
    K = kept (confirmed_sound s h S j k slot database r)

    by : (b : Bool) → eqb (may_go_at (mark_confirmed s j k) k) 0 ≡ b → Kept (confirmed_at s j k).state
    by true e = left_kept (confirm_none s j k e) K
    by false e = left_kept (confirm_one s j k e) (one_kept (mark_confirmed s j k) K k database (eqb-false (may_go_at (mark_confirmed s j k) k) 0 e))

pub confirm_kept : (s : Coordinator) → Kept s → (t k : ℕ) → Kept (after_confirm s t k).state
confirm_kept s K t k = by (confirm_refusal s t k) refl
  where
    by : (o : Option Refusal) → confirm_refusal s t k ≡ o → Kept (after_confirm s t k).state
    by None e =
        let a = confirm_accepted s t k e in
        left_kept (confirm_taken s t k e) (confirmed_kept s K (holder s t) k a.holder_of.slot a.database a.is_released)
    by (Some r) e = left_kept (confirm_refused s t k r e) K

-- close

pub one_closed : (c : Closing) → Kept c.state → (j : ℕ) → is_open c.state j ≡ true → Kept (close_one c j).state
unfolding close_one
one_closed c (h, S) j o = kept (removed_sound c.state h S j o)

-- a job whose close is held is open
pub held_open : (s : Coordinator) → Sound s → (j : ℕ) → held s j ≡ true → is_open s j ≡ true
held_open s S j e = by (is_open s j) refl
  where
    by : (b : Bool) → is_open s j ≡ b → is_open s j ≡ true
    by true o = o
    by false o = both e (S.free_zeros j o).not_held

-- the first of the held closes that may go
pub first_open : (s : Coordinator) → Sound s → ¬ (may_close_now s ≡ 0) → is_open s (first_of s (may_close_now s)) ≡ true
first_open s S any = held_open s S (first_of s (may_close_now s)) (first_to_close s any).is_held

pub cascade_kept : (left : ℕ) (c : Closing) → Kept c.state → Kept (close_held left c).state
unfolding close_held
cascade_kept zero c K = K
cascade_kept (suc left) c K = by (eqb (may_close_now c.state) 0) refl (λ d L. cascade_kept left d L)
  where
    by : (b : Bool) → eqb (may_close_now c.state) 0 ≡ b → ((d : Closing) → Kept d.state → Kept (close_held left d).state) → Kept (close_held (suc left) c).state
    by true e on = subst (λ (d : Closing). Kept d.state) (sym (cascade_none left c e)) K
    by false e on =
        let o = first_open c.state K.1 (eqb-false (may_close_now c.state) 0 e) in
        subst (λ (d : Closing). Kept d.state) (sym (cascade_one left c e)) (on _ (one_closed c K (first_of c.state (may_close_now c.state)) o))

closed_kept : (s : Coordinator) → Kept s → (j : ℕ) → is_open s j ≡ true → ((k : ℕ) → names s j k ≡ true → confirmed s j k ≡ true) → Kept (closed_at s j).state
unfolding closing
closed_kept s (h, S) j o all = by (may_close s j) refl
  where
    by : (b : Bool) → may_close s j ≡ b → Kept (closed_at s j).state
    by true e = left_kept (close_goes s j e) (cascade_kept jobs _ (one_closed _ (h, S) j o))
    by false e = left_kept (close_waits s j e) (kept (held_sound s h S j o all))

pub close_kept : (s : Coordinator) → Kept s → (t : ℕ) → Kept (after_close s t).state
close_kept s K t = by (close_refusal s t) refl
  where
    by : (o : Option Refusal) → close_refusal s t ≡ o → Kept (after_close s t).state
    by None e =
        let a = close_accepted s K.0 t e in
        left_kept (close_taken s t e) (closed_kept s K (holder s t) a.holder_of.is_open a.all_confirmed)
    by (Some r) e = left_kept (close_refused s t r e) K

-- every call

pub play_sound : (s : Coordinator) (c : Call) → MaskFits c → Shape s → Sound s → Shape (play s c).state × Sound (play s c).state
unfolding play
play_sound s (open_job mask) fits h S = open_kept s (h, S) mask fits
play_sound s (ask_step t k) fits h S = ask_kept s (h, S) t k
play_sound s (confirm_step t k) fits h S = confirm_kept s (h, S) t k
play_sound s (close_job t) fits h S = close_kept s (h, S) t
