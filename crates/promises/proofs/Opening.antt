-- Opening a job keeps the invariant. Assumes nothing.
use Prim.Native.Nat.{ℕ, ◌^◌, ◌<◌}
use native.Mathlib.Nat.{lt_irrefl}
use mathlib.Core.Bool.{Bool, true, false}
use mathlib.Core.Logic.{◌↔◌}
use Rattle.std.specs.Prelude.{Option, None, Some}
use mathlib.Core.Path.{◌≡◌, refl, sym, ap, subst, ◌∙◌}
use Rattle.loops.proofs.Tests.{untrue}
use Rattle.mask.specs.Member.{holds}
use Rattle.rings.specs.Change.{opening}
use Rattle.rings.proofs.Calls.{open_kept}
use Rattle.numbers.specs.Ticket.{after}
use Rattle.refusals.specs.declared.refusal.Refusal.{Refusal}
use Rattle.coordinator.specs.declared.Coordinator.{Coordinator}
use Rattle.coordinator.specs.Limits.{jobs}
use Rattle.coordinator.specs.Shape.{Shape}
use Rattle.coordinator.specs.Sound.{Sound}
use Rattle.coordinator.specs.Views.{entry, is_open, open_count}
use Rattle.coordinator.specs.Refusal.{open_refusal}
use Rattle.coordinator.specs.Open.{free_slot, ticket_for, entered, searched, with_found, accepted, after_open}
use Rattle.coordinator.specs.Answer.{open_values}
use Rattle.coordinator.specs.Call.{open_job, play}
use Rattle.coordinator.specs.declared.answers.After.{After}
use Rattle.coordinator.specs.declared.answers.Opened.{Opened}
use Rattle.effects.specs.View.{view}
use Rattle.effects.specs.Effect.{entered_at, found_at}
use Rattle.effects.proofs.Holder.{free_slot_lem}
use Rattle.soundness.specs.Changed.{Changed}
use Rattle.soundness.specs.Refused.{refusal_of}
use Rattle.soundness.proofs.Free.{free_names, free_asked, free_released, free_confirmed, free_held, free_from_lem, free_into}
use Rattle.soundness.proofs.GivenOut.{ticket_unheld}
use Rattle.soundness.proofs.Open.{opened_sound}
use Rattle.soundness.proofs.Accepted.{open_accepted}
use Rattle.soundness.proofs.Arms.{open_taken}
use Rattle.promises.specs.Told.{opened_told, tell}
use Rattle.promises.specs.Moment.{Moment, next}
use Rattle.promises.specs.Tied.{history}
use Rattle.promises.specs.Invariant.{Invariant}
use Rattle.promises.proofs.Same.{tied_alike}
use Rattle.promises.proofs.Entry.{FreeAt, seated, tied_opened}
use Rattle.promises.proofs.Searching.{Found, found_all, found_facts}
use Rattle.promises.proofs.Refusals.{refused_next}

-- a free slot shows nothing of a job
free_at : (s : Coordinator) → Shape s → Sound s → (n : ℕ) → n < jobs → is_open s n ≡ false → FreeAt (view s) n
free_at s S X n l e = record {
  inside = l;
  shut = e;
  no_names = free_names s S X n e;
  no_asked = free_asked s S X n e;
  no_released = free_released s S X n e;
  no_confirmed = free_confirmed s S X n e;
  no_held = free_held s S X n e;
  none_from = free_from_lem s S X n e;
  none_into = λ k a. free_into s S X n e k a l;
  last = X.ordered.only;
}

module _ (m : Moment) (I : Invariant m) (mask : ℕ) (fits : mask < 2 ^ 16) (some-database : ¬ (mask ≡ 0)) (room : open_count m.state < jobs) where
  abbrev s : Coordinator
  s = m.state

  abbrev n : ℕ
  n = free_slot s

  abbrev e : Coordinator
  e = entered s n mask

  abbrev t : ℕ
  t = ticket_for s

  abbrev f : ℕ → ℕ → Bool
  f i u = holds (entry (searched e n).found u) i

  C : Changed e (entered_at (view s) n mask t (after t)) × Changed (with_found e n (searched e n).found) (found_at (entered_at (view s) n mask t (after t)) n (λ a u. f a u))
  C = opened_sound s I.shape I.sound mask fits some-database room

  Z : FreeAt (view s) n
  Z = let (l, h) = free_slot_lem s I.shape room in free_at s I.shape I.sound n l h

  unheld : (i : ℕ) → is_open s i ≡ true → ¬ ((view s).ticket i ≡ t)
  unheld = ticket_unheld s I.shape I.sound

  found_iff : (i u : ℕ) → is_open s i ≡ true → (f i u ≡ true) ↔ Found I.job (view s) f (I.job i) u
  found_iff i u o = (λ h. (i, o, refl, h), λ (j, p, x, h). subst (λ (y : ℕ). f y u ≡ true) (I.tied.apart j i p o x) h)

  unfound : (u : ℕ) → f n u ≡ false
  unfound u =
      untrue (f n u) (λ h. (found_facts I.tied I.kept.ordered.formed I.kept.ordered.depends n mask t (after t) Z unheld e C.0.shape C.0.shows n u h).other refl)

  found_old : (u : ℕ) → ¬ Found I.job (view s) f m.told.count u
  found_old u (i, o, x, h) = lt_irrefl m.told.count (subst (λ (y : ℕ). y < m.told.count) x (I.tied.sits i o).0)

  pub opens : Invariant (record { told = opened_told m.told t mask; state = with_found e n (searched e n).found })
  opens = record {
    dep = (opening (history m.told I.dep) (λ k. holds mask k ≡ true) (Found I.job (view s) f)).dep;
    job = seated I.job n m.told.count;
    kept = open_kept (history m.told I.dep) I.kept
        (found_all I.tied I.kept.ordered.formed I.kept.ordered.depends n mask t (after t) Z unheld e C.0.shape C.0.shows);
    tied = tied_alike C.1.shows
        (tied_opened I.tied I.kept.ordered.formed I.kept.ordered.depends n mask t (after t) Z unheld f (Found I.job (view s) f) found_iff unfound found_old);
    shape = C.1.shape;
    sound = C.1.sound;
  }

-- the call, by what the table says

module _ (m : Moment) (I : Invariant m) (mask : ℕ) (fits : mask < 2 ^ 16) where
  abbrev left : After Opened → Moment
  left a = record { told = tell m.told (open_job mask) (open_values a.answer); state = a.state }

  next_is : next m (open_job mask) ≡ left (after_open m.state mask)
  unfolding next play
  next_is = refl

  taken : open_refusal m.state mask ≡ None → Invariant (left (accepted m.state (free_slot m.state) mask))
  unfolding tell accepted
  taken r = let A = open_accepted m.state I.shape mask r in opens m I mask fits A.some A.room

  pub open_next : Invariant (next m (open_job mask))
  unfolding refusal_of
  open_next = by (open_refusal m.state mask) refl
    where
      by : (o : Option Refusal) → open_refusal m.state mask ≡ o → Invariant (next m (open_job mask))
      by None e = subst Invariant (sym (next_is ∙ ap left (open_taken m.state mask e))) (taken e)
      by (Some r) e = refused_next m I (open_job mask) r e
