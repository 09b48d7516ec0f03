-- A job removed: what was sound is sound. Assumes nothing.
use Prim.Native.Nat.{ℕ, ◌<◌}
use native.Mathlib.Decide.{ℕ_discrete}
use native.Mathlib.Omega.{arith}
use mathlib.Core.Bool.{true, false, not, ◌&&◌, and_assoc}
use mathlib.Core.Path.{◌≡◌, sym, ◌∙◌}
use borrow.Author.Tests.{ne_eqb}
use lib.Dec.{eqb}
use Rattle.coordinator.specs.declared.Coordinator.{Coordinator}
use Rattle.coordinator.specs.Shape.{Shape}
use Rattle.coordinator.specs.Sound.{Sound}
use Rattle.coordinator.specs.Views.{is_open}
use Rattle.coordinator.specs.Change.{place, removed}
use Rattle.effects.specs.View.{View, view}
use Rattle.effects.specs.Effect.{removed_at}
use Rattle.effects.proofs.Bounds.{count_le}
use Rattle.effects.proofs.Holder.{place_is}
use Rattle.effects.proofs.Remove.{shape_removed, job_removed}
use Rattle.soundness.specs.SoundView.{Joined, Empty, SoundView}
use Rattle.soundness.specs.Changed.{Changed}
use Rattle.soundness.proofs.Seen.{seen_sound, changed}
use Rattle.soundness.proofs.Slots.{other, other_so, other_not, none_other, no_more, number_here, number_there}
use Rattle.soundness.proofs.Listing.{removed_listing}

module _ (v : View) (S : SoundView v) (j p : ℕ) where
  removed_joins : (k a b : ℕ) → ¬ (a ≡ j) → ¬ (b ≡ j) → Joined v.is_open v.names k a b → Joined (removed_at v j p).is_open (removed_at v j p).names k a b
  removed_joins k a b d e x = record {
    differ = x.differ;
    from_open = other_so a j (v.is_open a) d x.from_open;
    to_open = other_so b j (v.is_open b) e x.to_open;
    from_names = other_so a j (v.names a k) d x.from_names;
    to_names = other_so b j (v.names b k) e x.to_names;
  }

  removed_empty : (a : ℕ) → Dec (a ≡ j) → not (eqb a j) && v.is_open a ≡ false
      → Empty (removed_at v j p).ticket (removed_at v j p).held (removed_at v j p).asked (removed_at v j p).released (removed_at v j p).confirmed a
  removed_empty a (yes e) f = record {
    no_ticket = number_here 0 (v.ticket a) a j e;
    not_held = no_more a j (v.held a) e;
    not_asked = λ k. no_more a j (v.asked a k) e;
    not_released = λ k. no_more a j (v.released a k) e;
    not_confirmed = λ k. no_more a j (v.confirmed a k) e;
  }
  removed_empty a (no d) f =
      let z = S.free_zeros a (other_not a j (v.is_open a) d f) in
      record {
        no_ticket = number_there 0 (v.ticket a) a j d ∙ z.no_ticket;
        not_held = none_other a j (v.held a) z.not_held;
        not_asked = λ k. none_other a j (v.asked a k) (z.not_asked k);
        not_released = λ k. none_other a j (v.released a k) (z.not_released k);
        not_confirmed = λ k. none_other a j (v.confirmed a k) (z.not_confirmed k);
      }

  removed_view : p < v.count → v.opened p ≡ j → SoundView (removed_at v j p)
  removed_view inside at = record {
    tickets_differ = λ a b x y e.
        let (d, o) = other a j (v.is_open a) x in
        let (c, q) = other b j (v.is_open b) y in
        S.tickets_differ a b o q (sym (number_there 0 (v.ticket a) a j d) ∙ e ∙ number_there 0 (v.ticket b) b j c);
    masks_nonzero = λ a e.
        let (d, o) = other a j (v.is_open a) e in
        let (k, l, q) = S.masks_nonzero a o in
        (k, l, other_so a j (v.in_mask a k) d q);
    confirmed_released = λ a k e. let (d, o) = other a j (v.confirmed a k) e in other_so a j (v.released a k) d (S.confirmed_released a k o);
    released_asked = λ a k e. let (d, o) = other a j (v.released a k) e in other_so a j (v.asked a k) d (S.released_asked a k o);
    asked_named = λ a k e. let (d, o) = other a j (v.asked a k) e in other_so a j (v.names a k) d (S.asked_named a k o);
    ordered = removed_listing v.is_open v.count v.opened j p S.ordered inside at;
    joins = λ k a b l e.
        let (d, r) = other a j (not (eqb b j) && v.dep k a b) (sym (and_assoc (not (eqb a j)) (not (eqb b j)) (v.dep k a b)) ∙ e) in
        let (c, x) = other b j (v.dep k a b) r in
        removed_joins k a b d c (S.joins k a b l x);
    under_way = λ k a b r c d o n w.
        let (e, x) = other a j (v.released a k) r in
        let (f, y) = other b j (v.is_open b) o in
        let z = S.under_way k a b x (other_not a j (v.confirmed a k) e c) d y (other b j (v.names b k) n).1 (other_not b j (v.released b k) f w) in
        rw (ne_eqb a j e, ne_eqb b j f, z);
    held_confirmed = λ a k e n.
        let (d, x) = other a j (v.held a) e in
        other_so a j (v.confirmed a k) d (S.held_confirmed a k x (other a j (v.names a k) n).1);
    free_zeros = λ a e. removed_empty a (ℕ_discrete a j) e;
  }

pub removed_sound : (s : Coordinator) → Shape s → Sound s → (j : ℕ) → is_open s j ≡ true → Changed (removed s j) (removed_at (view s) j (place s j))
removed_sound s h S j o =
    let (i, l, q) = S.ordered.each j o in
    let (m, at) = place_is s i j (omega (arith, count_le s h)) q in
    changed (removed s j) (shape_removed s h j o) _ (job_removed s h j o) (removed_view (view s) (seen_sound s S) j (place s j) (omega arith) at)
