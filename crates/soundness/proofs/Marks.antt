-- A step asked or confirmed, a close held: what was sound is sound. Assumes nothing.
use Prim.Native.Nat.{ℕ, ◌<◌}
use mathlib.Core.Bool.{true, false, ◌&&◌}
use mathlib.Core.Logic.{◌⊎◌, inl, inr}
use mathlib.Core.Path.{◌≡◌, ap, sym, ◌∙◌}
use borrow.Author.Tests.{eqb-true}
use lib.Dec.{eqb}
use Rattle.loops.proofs.Tests.{both, or_cases, or_right, or_false, untrue}
use Rattle.coordinator.specs.declared.Coordinator.{Coordinator}
use Rattle.coordinator.specs.Limits.{jobs, databases}
use Rattle.coordinator.specs.Shape.{Shape}
use Rattle.coordinator.specs.Sound.{Sound}
use Rattle.coordinator.specs.Views.{names, released, confirmed, is_open}
use Rattle.coordinator.specs.Change.{mark_asked, mark_confirmed, mark_held}
use Rattle.effects.specs.View.{View, view}
use Rattle.effects.specs.Effect.{asked_at, confirmed_at, held_at}
use Rattle.effects.proofs.Bounds.{open_names, open_range}
use Rattle.effects.proofs.Marks.{shape_asked, shape_confirmed, shape_held, mark_asked_lem, mark_confirmed_lem, mark_held_lem}
use Rattle.soundness.specs.SoundView.{SoundView}
use Rattle.soundness.specs.Changed.{Changed}
use Rattle.soundness.proofs.Seen.{seen_sound, changed}
use Rattle.soundness.proofs.Slots.{marked_so, unmarked}

module _ (v : View) (S : SoundView v) (j k : ℕ) (o : v.is_open j ≡ true) where
  asked_view : v.names j k ≡ true → SoundView (asked_at v j k)
  asked_view n = record {
    tickets_differ = S.tickets_differ;
    masks_nonzero = S.masks_nonzero;
    confirmed_released = S.confirmed_released;
    released_asked = λ a u e. or_right (eqb a j && eqb u k) (v.asked a u) (S.released_asked a u e);
    asked_named = λ a u e. marked_so v.names j k a u (v.asked a u) (S.asked_named a u) n e;
    ordered = S.ordered;
    joins = S.joins;
    under_way = S.under_way;
    held_confirmed = S.held_confirmed;
    free_zeros = λ a e. let z = S.free_zeros a e in record {
      no_ticket = z.no_ticket;
      not_held = z.not_held;
      not_asked = λ u. unmarked v.is_open a j u k (v.asked a u) o e (z.not_asked u);
      not_released = z.not_released;
      not_confirmed = z.not_confirmed;
    };
  }

  confirmed_view : v.released j k ≡ true → SoundView (confirmed_at v j k)
  confirmed_view r = record {
    tickets_differ = S.tickets_differ;
    masks_nonzero = S.masks_nonzero;
    confirmed_released = λ a u e. marked_so v.released j k a u (v.confirmed a u) (S.confirmed_released a u) r e;
    released_asked = S.released_asked;
    asked_named = S.asked_named;
    ordered = S.ordered;
    joins = S.joins;
    under_way = λ u a b p c. S.under_way u a b p (or_false (eqb a j && eqb u k) (v.confirmed a u) c).1;
    held_confirmed = λ a u e n. or_right (eqb a j && eqb u k) (v.confirmed a u) (S.held_confirmed a u e n);
    free_zeros = λ a e. let z = S.free_zeros a e in record {
      no_ticket = z.no_ticket;
      not_held = z.not_held;
      not_asked = z.not_asked;
      not_released = z.not_released;
      not_confirmed = λ u. unmarked v.is_open a j u k (v.confirmed a u) o e (z.not_confirmed u);
    };
  }

module _ (v : View) (S : SoundView v) (j : ℕ) (o : v.is_open j ≡ true) where
  held_view : ((k : ℕ) → v.names j k ≡ true → v.confirmed j k ≡ true) → SoundView (held_at v j)
  held_view all = record {
    tickets_differ = S.tickets_differ;
    masks_nonzero = S.masks_nonzero;
    confirmed_released = S.confirmed_released;
    released_asked = S.released_asked;
    asked_named = S.asked_named;
    ordered = S.ordered;
    joins = S.joins;
    under_way = S.under_way;
    held_confirmed = λ a u e. by a u (or_cases (eqb a j) (v.held a) e);
    free_zeros = λ a e. let z = S.free_zeros a e in record {
      no_ticket = z.no_ticket;
      not_held = untrue _ (λ q. not_this a e z.not_held (or_cases (eqb a j) (v.held a) q));
      not_asked = z.not_asked;
      not_released = z.not_released;
      not_confirmed = z.not_confirmed;
    };
  }
    where
      by : (a u : ℕ) → (eqb a j ≡ true) ⊎ (v.held a ≡ true) → v.names a u ≡ true → v.confirmed a u ≡ true
      by a u (inl e) n = let q = eqb-true a j e in rw q (all u (rw q at n))
      by a u (inr e) n = S.held_confirmed a u e n

      not_this : (a : ℕ) → v.is_open a ≡ false → v.held a ≡ false → (eqb a j ≡ true) ⊎ (v.held a ≡ true) → ⊥
      not_this a e f (inl q) = both o (ap v.is_open (sym (eqb-true a j q)) ∙ e)
      not_this a e f (inr q) = both q f

module _ (s : Coordinator) (h : Shape s) (S : Sound s) where
  pub asked_sound : (j k : ℕ) → j < jobs → k < databases → names s j k ≡ true → Changed (mark_asked s j k) (asked_at (view s) j k)
  asked_sound j k slot database n =
      changed (mark_asked s j k) (shape_asked s h j slot k) _ (mark_asked_lem s h j slot k database) (asked_view (view s) (seen_sound s S) j k (open_names s h j k n) n)

  pub confirmed_sound : (j k : ℕ) → j < jobs → k < databases → released s j k ≡ true → Changed (mark_confirmed s j k) (confirmed_at (view s) j k)
  confirmed_sound j k slot database r =
      let o : is_open s j ≡ true = open_names s h j k (S.asked_named j k (S.released_asked j k r)) in
      changed (mark_confirmed s j k) (shape_confirmed s h j slot k) _ (mark_confirmed_lem s h j slot k database) (confirmed_view (view s) (seen_sound s S) j k o r)

  pub held_sound : (j : ℕ) → is_open s j ≡ true → ((k : ℕ) → names s j k ≡ true → confirmed s j k ≡ true) → Changed (mark_held s j) (held_at (view s) j)
  held_sound j o all =
      let slot : j < jobs = open_range s h j o in
      changed (mark_held s j) (shape_held s h j slot) _ (mark_held_lem s h j slot) (held_view (view s) (seen_sound s S) j o all)
