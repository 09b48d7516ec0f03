-- Where a view is true, its slot and its database are in range; a slot is open where it names a database. Assumes nothing.
use Prim.Native.Nat.{ℕ, ◌+◌, ◌*◌, ◌^◌, ◌<◌, ◌≤◌}
use native.Mathlib.Omega.{arith}
use native.Mathlib.Decide.{dec_lt}
use mathlib.Core.Bool.{true}
use mathlib.Core.List.{List}
use mathlib.Core.Logic.{◌↔◌}
use mathlib.Core.Path.{◌≡◌}
use lib.ListN.{get_or-eq_default}
use Rattle.loops.proofs.Tests.{both}
use Rattle.mask.specs.Member.{holds}
use Rattle.mask.proofs.Holds.{holds_none, holds_below}
use Rattle.mask.proofs.Size.{size_le}
use Rattle.mask.proofs.Union.{union_iff, union_lt}
use Rattle.tables.specs.Tables.{open_in}
use Rattle.coordinator.specs.declared.Coordinator.{Coordinator}
use Rattle.coordinator.specs.Limits.{jobs, databases}
use Rattle.coordinator.specs.Shape.{Sized, Shape}
use Rattle.coordinator.specs.Views.{entry, in_mask, names, asked, released, confirmed, open_slots, is_open, open_count, held, into, dep}

-- n sets of numbers below w

module _ {n w : ℕ} {l : List ℕ} (h : Sized n w l) where
  pub entry_beyond : (i : ℕ) → n ≤ i → entry l i ≡ 0
  entry_beyond i b = get_or-eq_default l 0 (rw h.size b)

  pub in_range : (j k : ℕ) → holds (entry l k) j ≡ true → (j < w) × (k < n)
  in_range j k e = (
    holds_below w (entry l k) j (h.fits k) e,
    elim (dec_lt k n) [
      | yes g ↦ g
      | no g ↦ both e (rw (entry_beyond k (omega arith)) (holds_none j))
    ],
  )

-- the views of a state

module _ (s : Coordinator) (h : Shape s) where
  pub in_mask_range : (j k : ℕ) → in_mask s j k ≡ true → (j < jobs) × (k < databases)
  unfolding in_mask
  in_mask_range j k e = in_range h.named j k e

  pub names_range : (j k : ℕ) → names s j k ≡ true → (j < jobs) × (k < databases)
  unfolding names in_mask
  names_range j k e = in_range h.named j k e

  pub asked_range : (j k : ℕ) → asked s j k ≡ true → (j < jobs) × (k < databases)
  unfolding asked
  asked_range j k e = in_range h.asked j k e

  pub released_range : (j k : ℕ) → released s j k ≡ true → (j < jobs) × (k < databases)
  unfolding released
  released_range j k e = in_range h.released j k e

  pub confirmed_range : (j k : ℕ) → confirmed s j k ≡ true → (j < jobs) × (k < databases)
  unfolding confirmed
  confirmed_range j k e = in_range h.confirmed j k e

  pub held_range : (j : ℕ) → held s j ≡ true → j < jobs
  unfolding held
  held_range j e = holds_below jobs s.held j h.held e

  pub into_small : (k b : ℕ) → into s k b < 2 ^ jobs
  unfolding into
  into_small k b = h.dependencies.fits (k * jobs + b)

  pub dep_range : (k a b : ℕ) → b < jobs → dep s k a b ≡ true → (a < jobs) × (k < databases)
  unfolding dep into
  dep_range k a b l e =
      let r = in_range h.dependencies a (k * jobs + b) e in
      (r.0, omega (arith, r.1))

  -- the open slots

  pub slots_small : open_slots s < 2 ^ jobs
  unfolding open_slots open_in
  slots_small = union_lt (λ k. entry s.named k) jobs databases (λ k l. h.named.fits k)

  pub open_iff : (j : ℕ) → (is_open s j ≡ true) ↔ ((k : ℕ) × (k < databases) × (names s j k ≡ true))
  unfolding is_open open_slots open_in names in_mask
  open_iff j = union_iff (λ k. entry s.named k) databases j

  pub open_names : (j k : ℕ) → names s j k ≡ true → is_open s j ≡ true
  open_names j k e = (open_iff j).1 (k, (names_range j k e).1, e)

  pub open_range : (j : ℕ) → is_open s j ≡ true → j < jobs
  unfolding is_open
  open_range j e = holds_below jobs (open_slots s) j slots_small e

  pub count_le : open_count s ≤ jobs
  unfolding open_count
  count_le = size_le jobs (open_slots s)
