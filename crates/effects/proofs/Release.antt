-- A step released. Assumes nothing.
use Prim.Native.Nat.{ℕ, ◌<◌}
use mathlib.Core.Bool.{Bool, true, false, not, ◌&&◌, ◌||◌, and-true}
use mathlib.Core.Path.{◌≡◌, refl, ap, ◌∙◌}
use borrow.Author.Tests.{eq-eqb}
use lib.Dec.{eqb}
use Rattle.mask.specs.Member.{holds, less}
use Rattle.mask.proofs.Holds.{holds_less_any}
use Rattle.coordinator.specs.declared.Coordinator.{Coordinator}
use Rattle.coordinator.specs.Limits.{jobs, databases}
use Rattle.coordinator.specs.Shape.{Shape}
use Rattle.coordinator.specs.Views.{entry, in_mask, names, asked, released, confirmed, open_slots, is_open, open_count, held, ticket, opened, into, dep}
use Rattle.coordinator.specs.Change.{mark, mark_released, with_dependencies}
use Rattle.coordinator.specs.Release.{release}
use Rattle.effects.specs.View.{view, Alike}
use Rattle.effects.specs.Effect.{released_at}
use Rattle.effects.proofs.Sized.{sized_mark, holds_mark}
use Rattle.effects.proofs.Rows.{lead_to_lem, lead_to_sized}

-- names, and neither the one released nor released before
still : (first second names own was : Bool) → first && second && (names && not (own || was)) ≡ first && second && names && not own && not was
still true true true true was = refl
still true true true false was = refl
still true true false own was = refl
still true false names own was = refl
still false second names own was = refl

module _ (s : Coordinator) (h : Shape s) (j : ℕ) (slot : j < jobs) (k : ℕ) (database : k < databases) where
  abbrev waiting : ℕ
  waiting = less jobs (entry s.named k) (entry (mark s.released k j) k)

  -- who waits at the database once j is released there
  waiting_are : (b : ℕ) → holds waiting b ≡ names s b k && not (eqb b j || released s b k)
  unfolding names in_mask released
  waiting_are b =
      let own : eqb b j && eqb k k ≡ eqb b j = rw (eq-eqb k k refl) (and-true (eqb b j)) in
      holds_less_any jobs (entry s.named k) (entry (mark s.released k j) k) b (h.named.fits k) ((sized_mark h.released k j slot).fits k)
      ∙ ap (λ (x : Bool). names s b k && not x) (holds_mark h.released k j database b k ∙ ap (λ (x : Bool). x || released s b k) own)

  pub shape_release : Shape (release s j k)
  unfolding release mark_released with_dependencies
  shape_release = record {
    tickets = h.tickets;
    held = h.held;
    order = h.order;
    named = h.named;
    asked = h.asked;
    released = sized_mark h.released k j slot;
    confirmed = h.confirmed;
    dependencies = lead_to_sized s.dependencies h.dependencies k j waiting slot;
    candidate = h.candidate;
  }

  pub released_step : Alike (view (release s j k)) (released_at (view s) j k)
  unfolding release mark_released with_dependencies in_mask names asked released confirmed open_slots is_open open_count held ticket opened into dep
  released_step = record {
    in_mask = λ a u. refl;
    names = λ a u. refl;
    asked = λ a u. refl;
    released = holds_mark h.released k j database;
    confirmed = λ a u. refl;
    is_open = λ a. refl;
    held = λ a. refl;
    ticket = λ a. refl;
    count = refl;
    opened = λ i. refl;
    dep = λ u a b l. lead_to_lem s.dependencies h.dependencies k j waiting database u a b l ∙ ap (λ (x : Bool). x || dep s u a b) (ap (λ (x : Bool). eqb u k && eqb a j && x) (waiting_are b) ∙ still (eqb u k) (eqb a j) (names s b k) (eqb b j) (released s b k));
    candidate = refl;
  }
