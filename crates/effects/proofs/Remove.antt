-- A job goes with all its dependencies. Assumes nothing.
use Prim.Native.Nat.{ℕ, ◌-◌, ◌<◌}
use native.Mathlib.Omega.{arith}
use mathlib.Core.Bool.{Bool, true, false, not, ◌&&◌}
use mathlib.Core.Path.{◌≡◌, refl, ap, sym, ◌∙◌}
use lib.Dec.{eqb, lit<}
use Rattle.loops.proofs.Tests.{and_left, and_right, and_both, same_test}
use Rattle.mask.specs.Member.{excluding, size}
use Rattle.mask.proofs.Change.{excluding_lt}
use Rattle.mask.proofs.Equal.{equal_members}
use Rattle.mask.proofs.Holds.{holds_excluding}
use Rattle.mask.proofs.Size.{size_excluding}
use Rattle.coordinator.specs.declared.Coordinator.{Coordinator}
use Rattle.coordinator.specs.Limits.{jobs, databases}
use Rattle.coordinator.specs.Shape.{Shape}
use Rattle.coordinator.specs.Views.{in_mask, names, asked, released, confirmed, open_slots, is_open, open_count, held, ticket, opened, into, dep}
use Rattle.coordinator.specs.Change.{place, removed}
use Rattle.effects.specs.View.{view, Alike}
use Rattle.effects.specs.Effect.{removed_at}
use Rattle.effects.proofs.Bounds.{open_iff, open_range}
use Rattle.effects.proofs.Sized.{sized_set, stored}
use Rattle.effects.proofs.Strike.{strike_sized, strike_holds, unled_sized, unled_holds, moved_up_lem, moved_up_sized}

swapped : (a b c : Bool) → b && (a && c) ≡ a && b && c
swapped true b c = refl
swapped false true c = refl
swapped false false c = refl

module _ (s : Coordinator) (h : Shape s) (j : ℕ) (is_open_lem : is_open s j ≡ true) where
  abbrev t : Coordinator
  t = removed s j

  slot : j < jobs
  slot = open_range s h j is_open_lem

  pub shape_removed : Shape (removed s j)
  unfolding removed
  shape_removed = record {
    tickets = sized_set h.tickets j 0 (lit< tt);
    held = excluding_lt jobs s.held j h.held;
    order = moved_up_sized h.order (place s j);
    named = strike_sized h.named j;
    asked = strike_sized h.asked j;
    released = strike_sized h.released j;
    confirmed = strike_sized h.confirmed j;
    dependencies = unled_sized (strike_sized h.dependencies j) j slot;
    candidate = h.candidate;
  }

  names_removed : (a u : ℕ) → names t a u ≡ not (eqb a j) && names s a u
  unfolding removed names in_mask
  names_removed a u = strike_holds h.named j a u

  open_removed : (a : ℕ) → is_open t a ≡ not (eqb a j) && is_open s a
  open_removed a = same_test (is_open t a) (not (eqb a j) && is_open s a) (λ e. to ((open_iff t shape_removed a).0 e)) from
    where
      to : (k : ℕ) × (k < databases) × (names t a k ≡ true) → not (eqb a j) && is_open s a ≡ true
      to (k, l, q) =
          let e = sym (names_removed a k) ∙ q in
          and_both (and_left (not (eqb a j)) (names s a k) e) ((open_iff s h a).1 (k, l, and_right (not (eqb a j)) (names s a k) e))

      from : not (eqb a j) && is_open s a ≡ true → is_open t a ≡ true
      from e =
          let (k, l, q) = (open_iff s h a).0 (and_right (not (eqb a j)) (is_open s a) e) in
          (open_iff t shape_removed a).1 (k, l, names_removed a k ∙ and_both (and_left (not (eqb a j)) (is_open s a) e) q)

  count_removed : open_count t ≡ open_count s - 1
  unfolding open_count is_open
  count_removed =
      let same : open_slots t ≡ excluding (open_slots s) j = equal_members (open_slots t) (excluding (open_slots s) j) (λ a. open_removed a ∙ sym (holds_excluding (open_slots s) j a)) in
      ap (size jobs) same ∙ omega (arith, size_excluding jobs (open_slots s) j slot is_open_lem)

  dep_removed : (u a b : ℕ) → b < jobs → dep t u a b ≡ not (eqb a j) && not (eqb b j) && dep s u a b
  unfolding removed dep into
  dep_removed u a b l =
      unled_holds (strike_sized h.dependencies j) j slot u a b l
      ∙ ap (λ (x : Bool). not (eqb b j) && x) (strike_holds h.dependencies j a _)
      ∙ swapped (not (eqb a j)) (not (eqb b j)) (dep s u a b)

  pub job_removed : Alike (view (removed s j)) (removed_at (view s) j (place s j))
  unfolding removed in_mask names asked released confirmed held ticket opened
  job_removed = record {
    in_mask = strike_holds h.named j;
    names = strike_holds h.named j;
    asked = strike_holds h.asked j;
    released = strike_holds h.released j;
    confirmed = strike_holds h.confirmed j;
    is_open = open_removed;
    held = holds_excluding s.held j;
    ticket = stored s.tickets j 0 (omega (arith, h.tickets.size, slot));
    count = count_removed;
    opened = moved_up_lem h.order (place s j);
    dep = dep_removed;
    candidate = refl;
  }
