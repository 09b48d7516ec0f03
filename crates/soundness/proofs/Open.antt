-- A job opened: entered in the lowest free slot, and what the search found added. What was sound is sound. Assumes nothing.
use Prim.Native.Nat.{ℕ, ◌^◌, ◌<◌}
use mathlib.Core.Bool.{Bool, true, ◌&&◌, ◌||◌}
use mathlib.Core.List.{List}
use mathlib.Core.Logic.{◌⊎◌, inl, inr}
use mathlib.Core.Path.{◌≡◌, ap}
use borrow.Author.Tests.{eqb-true}
use lib.Dec.{eqb}
use Rattle.loops.proofs.Tests.{and_left, and_right, or_cases, or_right}
use Rattle.mask.specs.Member.{holds}
use Rattle.walks.specs.Opening.{FoundAt}
use Rattle.walks.proofs.Opening.{found_at_lem, found_below, found_length}
use Rattle.numbers.specs.Ticket.{after}
use Rattle.coordinator.specs.declared.Coordinator.{Coordinator}
use Rattle.coordinator.specs.Limits.{jobs, databases}
use Rattle.coordinator.specs.Shape.{Sized, Shape}
use Rattle.coordinator.specs.Sound.{Sound}
use Rattle.coordinator.specs.Views.{entry, open_count}
use Rattle.coordinator.specs.Open.{free_slot, ticket_for, entered, graph, searched, with_found}
use Rattle.effects.specs.View.{View, view, Alike}
use Rattle.effects.specs.Effect.{entered_at, found_at}
use Rattle.effects.proofs.Bounds.{open_names}
use Rattle.effects.proofs.Holder.{free_slot_lem}
use Rattle.effects.proofs.Found.{shape_found, found_added}
use Rattle.soundness.specs.SoundView.{Joined, SoundView}
use Rattle.soundness.specs.Changed.{Changed}
use Rattle.soundness.proofs.Seen.{seen_sound, changed, changed_alike}
use Rattle.soundness.proofs.Enter.{entered_sound}

-- what is found joins another job that names the database with the new one, which names it too
found_view : (v : View) → SoundView v → (n : ℕ) (found : ℕ → ℕ → Bool) → ((a u : ℕ) → found a u ≡ true → Joined v.is_open v.names u a n) → SoundView (found_at v n found)
found_view v S n found joins = record {
  tickets_differ = S.tickets_differ;
  masks_nonzero = S.masks_nonzero;
  confirmed_released = S.confirmed_released;
  released_asked = S.released_asked;
  asked_named = S.asked_named;
  ordered = S.ordered;
  joins = λ u a b l e. by u a b l (or_cases (eqb b n && found a u) (v.dep u a b) e);
  under_way = λ u a b r c d o m f. or_right (eqb b n && found a u) (v.dep u a b) (S.under_way u a b r c d o m f);
  held_confirmed = S.held_confirmed;
  free_zeros = S.free_zeros;
}
  where
    by : (u a b : ℕ) → b < jobs → (eqb b n && found a u ≡ true) ⊎ (v.dep u a b ≡ true) → Joined v.is_open v.names u a b
    by u a b l (inl e) = rw (eqb-true b n (and_left (eqb b n) (found a u) e)) (joins a u (and_right (eqb b n) (found a u) e))
    by u a b l (inr e) = S.joins u a b l e

-- added to views that show the same
found_alike : (v w : View) → Alike v w → (n : ℕ) (found : ℕ → ℕ → Bool) → Alike (found_at v n found) (found_at w n found)
found_alike v w A n found = record {
  in_mask = A.in_mask;
  names = A.names;
  asked = A.asked;
  released = A.released;
  confirmed = A.confirmed;
  is_open = A.is_open;
  held = A.held;
  ticket = A.ticket;
  count = A.count;
  opened = A.opened;
  dep = λ u a b l. ap (λ (x : Bool). eqb b n && found a u || x) (A.dep u a b l);
  candidate = A.candidate;
}

module _ (e : Coordinator) (h : Shape e) (n : ℕ) (slot : n < jobs) where
  found_sized : Sized databases jobs (searched e n).found
  unfolding searched
  found_sized = record { size = found_length (graph e n) slot; fits = found_below (graph e n) slot }

  found_where : (a u : ℕ) → holds (entry (searched e n).found u) a ≡ true → FoundAt (graph e n) a u
  unfolding searched
  found_where a u q = found_at_lem (graph e n) slot a u q

  found_joins : (a u : ℕ) → FoundAt (graph e n) a u → Joined (view e).is_open (view e).names u a n
  found_joins a u f = record {
    differ = f.other;
    from_open = open_names e h a u f.names;
    to_open = open_names e h n u f.new_names;
    from_names = f.names;
    to_names = f.new_names;
  }

  pub found_sound : Sound e → Changed (with_found e n (searched e n).found) (found_at (view e) n (λ a u. holds (entry (searched e n).found u) a))
  found_sound S =
      changed (with_found e n (searched e n).found) (shape_found e h n slot (searched e n).found found_sized) _ (found_added e h n slot (searched e n).found found_sized)
      (found_view (view e) (seen_sound e S) n (λ a u. holds (entry (searched e n).found u) a) (λ a u q. found_joins a u (found_where a u q)))

module _ (s : Coordinator) (h : Shape s) (S : Sound s) (mask : ℕ) (small : mask < 2 ^ 16) (some : ¬ (mask ≡ 0)) (room : open_count s < jobs) where
  abbrev n : ℕ
  n = free_slot s

  abbrev e : Coordinator
  e = entered s (free_slot s) mask

  abbrev f : List ℕ
  f = (searched (entered s (free_slot s) mask) (free_slot s)).found

  abbrev w : View
  w = entered_at (view s) (free_slot s) mask (ticket_for s) (after (ticket_for s))

  opened_entered : Changed e w
  opened_entered = let (slot, free) = free_slot_lem s h room in entered_sound s h S n mask slot free room small some

  opened_found : Changed (with_found e n f) (found_at w n (λ a u. holds (entry f u) a))
  opened_found =
      let c = opened_entered in
      changed_alike (found_sound e c.shape n (free_slot_lem s h room).0 c.sound) (found_alike (view e) w c.shows n (λ a u. holds (entry f u) a))

pub opened_sound : (s : Coordinator) → Shape s → Sound s → (mask : ℕ) → mask < 2 ^ 16 → ¬ (mask ≡ 0) → open_count s < jobs
    → Changed (entered s (free_slot s) mask) (entered_at (view s) (free_slot s) mask (ticket_for s) (after (ticket_for s)))
    × Changed (with_found (entered s (free_slot s) mask) (free_slot s) (searched (entered s (free_slot s) mask) (free_slot s)).found)
    (found_at (entered_at (view s) (free_slot s) mask (ticket_for s) (after (ticket_for s))) (free_slot s)
    (λ a u. holds (entry (searched (entered s (free_slot s) mask) (free_slot s)).found u) a))
opened_sound s h S mask small some room = (opened_entered s h S mask small some room, opened_found s h S mask small some room)
