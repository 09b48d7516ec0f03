-- The dependencies that the search found, added. Assumes nothing.
use Prim.Native.Nat.{ℕ, ◌<◌}
use mathlib.Core.Bool.{Bool, true, ◌&&◌, ◌||◌, and-true}
use mathlib.Core.List.{List}
use mathlib.Core.Path.{refl, ap, ◌∙◌}
use lib.Dec.{eqb}
use Rattle.loops.specs.Loop.{guard}
use Rattle.mask.specs.Member.{holds}
use Rattle.coordinator.specs.declared.Coordinator.{Coordinator}
use Rattle.coordinator.specs.Limits.{jobs, databases}
use Rattle.coordinator.specs.Shape.{Sized, Shape}
use Rattle.coordinator.specs.Views.{entry, in_mask, names, asked, released, confirmed, open_slots, is_open, open_count, held, ticket, opened, into, dep}
use Rattle.coordinator.specs.Change.{with_dependencies, lead}
use Rattle.coordinator.specs.Open.{with_found}
use Rattle.effects.specs.View.{view, Alike}
use Rattle.effects.specs.Effect.{found_at}
use Rattle.effects.proofs.Bounds.{entry_beyond}
use Rattle.effects.proofs.Rows.{led_into_lem, led_into_sized}

module _ (s : Coordinator) (h : Shape s) (n : ℕ) (slot : n < jobs) (found : List ℕ) (sets : Sized databases jobs found) where
  pub shape_found : Shape (with_found s n found)
  unfolding with_found with_dependencies lead guard
  shape_found = record {
    tickets = h.tickets;
    held = h.held;
    order = h.order;
    named = h.named;
    asked = h.asked;
    released = h.released;
    confirmed = h.confirmed;
    dependencies = led_into_sized s.dependencies h.dependencies (entry found) (λ k. true) n slot sets.fits;
    candidate = h.candidate;
  }

  pub found_added : Alike (view (with_found s n found)) (found_at (view s) n (λ a u. holds (entry found u) a))
  unfolding with_found with_dependencies lead guard in_mask names asked released confirmed open_slots is_open open_count held ticket opened into dep
  found_added = record {
    in_mask = λ a u. refl;
    names = λ a u. refl;
    asked = λ a u. refl;
    released = λ a u. refl;
    confirmed = λ a u. refl;
    is_open = λ a. refl;
    held = λ a. refl;
    ticket = λ a. refl;
    count = refl;
    opened = λ i. refl;
    dep = λ u a b l. led_into_lem s.dependencies h.dependencies (entry found) (λ k. true) n slot (entry_beyond sets) u a b l ∙ ap (λ (x : Bool). x && holds (entry found u) a || dep s u a b) (and-true (eqb b n));
    candidate = refl;
  }
