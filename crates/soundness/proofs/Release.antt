-- A step released: what was sound is sound. Assumes nothing.
use Prim.Native.Nat.{ℕ, ◌<◌}
use mathlib.Core.Bool.{Bool, true, false, not, ◌&&◌, ◌||◌}
use mathlib.Core.Logic.{◌⊎◌, inl, inr}
use mathlib.Core.Path.{◌≡◌, sym, ◌∙◌}
use borrow.Author.Tests.{eqb-true, eqb-false, eq-eqb, ne_eqb, not-true}
use lib.Dec.{eqb}
use Rattle.loops.proofs.Tests.{and_left, and_right, or_cases, or_right, or_false}
use Rattle.coordinator.specs.declared.Coordinator.{Coordinator}
use Rattle.coordinator.specs.Limits.{jobs, databases}
use Rattle.coordinator.specs.Shape.{Shape}
use Rattle.coordinator.specs.Sound.{Sound}
use Rattle.coordinator.specs.Views.{asked, released}
use Rattle.coordinator.specs.Release.{release}
use Rattle.effects.specs.View.{View, view}
use Rattle.effects.specs.Effect.{released_at}
use Rattle.effects.proofs.Release.{shape_release, released_step}
use Rattle.soundness.specs.SoundView.{Joined, SoundView, NamesOpen}
use Rattle.soundness.specs.Changed.{Changed}
use Rattle.soundness.proofs.Seen.{seen_sound, names_open, changed}
use Rattle.soundness.proofs.Slots.{marked, marked_so, unmarked}

module _ (v : View) (S : SoundView v) (N : NamesOpen v) (j k : ℕ) (asks : v.asked j k ≡ true) where
  abbrev leads : ℕ → ℕ → ℕ → Bool
  leads u a b = eqb u k && eqb a j && v.names b k && not (eqb b j) && not (v.released b k)

  named : v.names j k ≡ true
  named = S.asked_named j k asks

  -- whoever the released step leads to
  led_joins : (u a b : ℕ) → leads u a b ≡ true → Joined v.is_open v.names u a b
  led_joins u a b e =
      let p = and_left (eqb u k && eqb a j && v.names b k && not (eqb b j)) _ e in
      let q = and_left (eqb u k && eqb a j && v.names b k) _ p in
      let here = and_left (eqb u k && eqb a j) _ q in
      let at : u ≡ k = eqb-true u k (and_left (eqb u k) _ here) in
      let is : a ≡ j = eqb-true a j (and_right (eqb u k) _ here) in
      let other : v.names b k ≡ true = and_right (eqb u k && eqb a j) _ q in
      let apart : eqb b j ≡ false = not-true (eqb b j) (and_right (eqb u k && eqb a j && v.names b k) _ p) in
      record {
        differ = λ x. eqb-false b j apart (sym x ∙ is);
        from_open = rw is (N j k named);
        to_open = N b k other;
        from_names = rw (at, is) named;
        to_names = rw at other;
      }

  released_under : (u a b : ℕ) → ((a ≡ j) × (u ≡ k)) ⊎ (v.released a u ≡ true) → v.confirmed a u ≡ false → ¬ (b ≡ a) → v.is_open b ≡ true → v.names b u ≡ true
      → v.released b u ≡ false → leads u a b || v.dep u a b ≡ true
  released_under u a b (inl (is, at)) c d o n w =
      rw (eq-eqb u k at, eq-eqb a j is, rw at at n, ne_eqb b j (λ x. d (x ∙ sym is)), rw at at w)
  released_under u a b (inr r) c d o n w = or_right (leads u a b) (v.dep u a b) (S.under_way u a b r c d o n w)

  released_view : SoundView (released_at v j k)
  released_view = record {
    tickets_differ = S.tickets_differ;
    masks_nonzero = S.masks_nonzero;
    confirmed_released = λ a u e. or_right (eqb a j && eqb u k) (v.released a u) (S.confirmed_released a u e);
    released_asked = λ a u e. marked_so v.asked j k a u (v.released a u) (S.released_asked a u) asks e;
    asked_named = S.asked_named;
    ordered = S.ordered;
    joins = λ u a b l e. by u a b l (or_cases (leads u a b) (v.dep u a b) e);
    under_way = λ u a b r c d o n w.
        released_under u a b (marked a j u k (v.released a u) r) c d o n (or_false (eqb b j && eqb u k) (v.released b u) w).1;
    held_confirmed = S.held_confirmed;
    free_zeros = λ a e. let z = S.free_zeros a e in record {
      no_ticket = z.no_ticket;
      not_held = z.not_held;
      not_asked = z.not_asked;
      not_released = λ u. unmarked v.is_open a j u k (v.released a u) (N j k named) e (z.not_released u);
      not_confirmed = z.not_confirmed;
    };
  }
    where
      by : (u a b : ℕ) → b < jobs → (leads u a b ≡ true) ⊎ (v.dep u a b ≡ true) → Joined v.is_open v.names u a b
      by u a b l (inl e) = led_joins u a b e
      by u a b l (inr e) = S.joins u a b l e

pub released_sound : (s : Coordinator) → Shape s → Sound s → (j k : ℕ) → j < jobs → k < databases → asked s j k ≡ true → released s j k ≡ false
    → Changed (release s j k) (released_at (view s) j k)
released_sound s h S j k slot database asks waits =
    changed (release s j k) (shape_release s h j slot k database) _ (released_step s h j slot k database) (released_view (view s) (seen_sound s S) (names_open s h) j k asks)
