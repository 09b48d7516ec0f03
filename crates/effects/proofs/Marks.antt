-- A step marked asked or confirmed, and a close marked held. Assumes nothing.
use Prim.Native.Nat.{ℕ, ◌<◌}
use mathlib.Core.Path.{refl}
use Rattle.mask.proofs.Change.{including_lt}
use Rattle.mask.proofs.Holds.{holds_including}
use Rattle.coordinator.specs.declared.Coordinator.{Coordinator}
use Rattle.coordinator.specs.Limits.{jobs, databases}
use Rattle.coordinator.specs.Shape.{Shape}
use Rattle.coordinator.specs.Views.{in_mask, names, asked, released, confirmed, open_slots, is_open, open_count, held, ticket, opened, into, dep}
use Rattle.coordinator.specs.Change.{mark_asked, mark_confirmed, mark_held}
use Rattle.effects.specs.View.{view, Alike}
use Rattle.effects.specs.Effect.{asked_at, confirmed_at, held_at}
use Rattle.effects.proofs.Sized.{sized_mark, holds_mark}

module _ (s : Coordinator) (h : Shape s) (j : ℕ) (slot : j < jobs) where
  pub shape_asked : (k : ℕ) → Shape (mark_asked s j k)
  unfolding mark_asked
  shape_asked k = record {
    tickets = h.tickets;
    held = h.held;
    order = h.order;
    named = h.named;
    asked = sized_mark h.asked k j slot;
    released = h.released;
    confirmed = h.confirmed;
    dependencies = h.dependencies;
    candidate = h.candidate;
  }

  pub shape_confirmed : (k : ℕ) → Shape (mark_confirmed s j k)
  unfolding mark_confirmed
  shape_confirmed k = record {
    tickets = h.tickets;
    held = h.held;
    order = h.order;
    named = h.named;
    asked = h.asked;
    released = h.released;
    confirmed = sized_mark h.confirmed k j slot;
    dependencies = h.dependencies;
    candidate = h.candidate;
  }

  pub shape_held : Shape (mark_held s j)
  unfolding mark_held
  shape_held = record {
    tickets = h.tickets;
    held = including_lt jobs s.held j h.held slot;
    order = h.order;
    named = h.named;
    asked = h.asked;
    released = h.released;
    confirmed = h.confirmed;
    dependencies = h.dependencies;
    candidate = h.candidate;
  }

  pub mark_asked_lem : (k : ℕ) → k < databases → Alike (view (mark_asked s j k)) (asked_at (view s) j k)
  unfolding mark_asked in_mask names asked released confirmed open_slots is_open open_count held ticket opened into dep
  mark_asked_lem k l = record {
    in_mask = λ a u. refl;
    names = λ a u. refl;
    asked = holds_mark h.asked k j l;
    released = λ a u. refl;
    confirmed = λ a u. refl;
    is_open = λ a. refl;
    held = λ a. refl;
    ticket = λ a. refl;
    count = refl;
    opened = λ i. refl;
    dep = λ u a b l. refl;
    candidate = refl;
  }

  pub mark_confirmed_lem : (k : ℕ) → k < databases → Alike (view (mark_confirmed s j k)) (confirmed_at (view s) j k)
  unfolding mark_confirmed in_mask names asked released confirmed open_slots is_open open_count held ticket opened into dep
  mark_confirmed_lem k l = record {
    in_mask = λ a u. refl;
    names = λ a u. refl;
    asked = λ a u. refl;
    released = λ a u. refl;
    confirmed = holds_mark h.confirmed k j l;
    is_open = λ a. refl;
    held = λ a. refl;
    ticket = λ a. refl;
    count = refl;
    opened = λ i. refl;
    dep = λ u a b l. refl;
    candidate = refl;
  }

  pub mark_held_lem : Alike (view (mark_held s j)) (held_at (view s) j)
  unfolding mark_held in_mask names asked released confirmed open_slots is_open open_count held ticket opened into dep
  mark_held_lem = record {
    in_mask = λ a u. refl;
    names = λ a u. refl;
    asked = λ a u. refl;
    released = λ a u. refl;
    confirmed = λ a u. refl;
    is_open = λ a. refl;
    held = λ a. holds_including s.held j a;
    ticket = λ a. refl;
    count = refl;
    opened = λ i. refl;
    dep = λ u a b l. refl;
    candidate = refl;
  }
