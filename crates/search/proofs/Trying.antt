-- The slots to try at a database, as the code has them. Assumes nothing.
use Prim.Native.Nat.{ℕ, ◌-◌, ◌*◌, ◌%◌, ◌^◌, ◌<◌}
use native.Mathlib.Nat.{le_trans}
use mathlib.Core.Path.{◌∙◌}
use lib.Bits.{bit_and, and_le_l}
use Rattle.mask.specs.Member.{excluding, lowest}
use Rattle.mask.proofs.Lowest.{trailing_lowest}
use Rattle.mask.proofs.Walking.{rest_falls}
use Rattle.mask.proofs.Change.{excluding_le, excluding_lt, less_lt}
use Rattle.mask.proofs.Holds.{holds_excluding, holds_less}
use Rattle.mask.proofs.Words.{and_not_shl}
use Rattle.search.specs.Limits.{jobs}
use Rattle.search.specs.Visit.{Others}

pub others_are : (all reached v : ℕ) → all < 2 ^ jobs → reached < 2 ^ jobs → v < jobs
    → Others all reached v (bit_and (bit_and all (2 ^ jobs - 1 - 1 * 2 ^ v % 2 ^ jobs)) (2 ^ jobs - 1 - reached))
others_are all reached v a b l =
    rw (and_not_shl jobs all v a l)
    (record {
      below = less_lt jobs (excluding all v) reached (excluding_lt jobs all v a);
      most = le_trans (and_le_l (excluding all v) (2 ^ jobs - 1 - reached)) (excluding_le all v);
      members = λ j h. holds_less jobs (excluding all v) reached j b h ∙ rw (holds_excluding all v j);
    })

pub lowest_out : (m : ℕ) → 0 < m → m < 2 ^ jobs → excluding m (lowest jobs m) < m
lowest_out m p h = rest_falls (trailing_lowest jobs m p h)
