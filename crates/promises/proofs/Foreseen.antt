-- The bound that the coordinator gives before an opening is three for each pair of an earlier open job and a database it names. Assumes nothing.
use Prim.Native.Nat.{ℕ, ◌*◌}
use mathlib.Core.Bool.{false, not, ◌&&◌, ◌||◌}
use mathlib.Core.Path.{◌≡◌, sym, ap, ◌∙◌}
use native.Mathlib.Decide.{ℕ_discrete}
use borrow.Author.Tests.{eq-eqb, ne_eqb}
use lib.Dec.{eqb}
use Rattle.loops.specs.Sum.{sum, tally}
use Rattle.loops.proofs.Sums.{sum_same}
use Rattle.mask.specs.Member.{holds, size}
use Rattle.mask.proofs.Size.{size_sum}
use Rattle.walks.specs.Walk.{others, named}
use Rattle.walks.proofs.Opening.{named_by_database}
use Rattle.coordinator.specs.declared.Coordinator.{Coordinator}
use Rattle.coordinator.specs.Limits.{jobs, databases}
use Rattle.coordinator.specs.Views.{entry, in_mask, names}
use Rattle.coordinator.specs.Bound.{most_moves}
use Rattle.coordinator.specs.Open.{graph}

-- e is s with a job more, in slot n
module _ (s e : Coordinator) (n mask : ℕ) (free : (k : ℕ) → names s n k ≡ false) (shows : (j k : ℕ) → names e j k ≡ eqb j n && holds mask k || names s j k) where
  other_names : (j k : ℕ) → others (graph e n) j k ≡ names s j k
  other_names j k = by (ℕ_discrete j n)
    where
      by : Dec (j ≡ n) → not (eqb j n) && names e j k ≡ names s j k
      by (yes p) = rw (eq-eqb j n p) (sym (rw p (free k)))
      by (no p) = rw (shows j k, ne_eqb j n p)

  by_database : (k : ℕ) → sum jobs (λ j. tally (others (graph e n) j k)) ≡ size jobs (entry s.named k)
  unfolding names in_mask
  by_database k = sum_same jobs _ _ (λ j l. ap tally (other_names j k)) ∙ sym (size_sum jobs (entry s.named k))

  pub foreseen : 3 * named (graph e n) ≡ most_moves s
  unfolding most_moves
  foreseen = ap (λ (x : ℕ). 3 * x) (named_by_database (graph e n) ∙ sum_same databases _ _ (λ k l. by_database k))
