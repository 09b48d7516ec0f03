-- The steps that may go are gathered over all slots at once, and those that do not wait are taken off afterwards. Assumes nothing.
use mathlib.Core.Path.{◌≡◌, sym, ◌∙◌}
use mathlib.Core.Bool.{Bool, not, ◌&&◌}
use Prim.Native.Nat.{ℕ, ◌+◌, ◌*◌, ◌^◌, ◌<◌}
use lib.Bits.{bit_and, and_lt}
use Rattle.loops.specs.Sum.{tally}
use Rattle.mask.specs.Member.{holds, less, within}
use Rattle.mask.specs.Members.{gather}
use Rattle.mask.proofs.Change.{less_lt}
use Rattle.mask.proofs.Holds.{holds_and, holds_less}
use Rattle.mask.proofs.Gather.{gathered_lt, holds_gather}
use Rattle.mask.proofs.Equal.{same_members}
use Rattle.coordinator.specs.Limits.{jobs}
use Rattle.coordinator.specs.declared.Coordinator.{Coordinator}
use Rattle.coordinator.specs.Views.{entry, asked, released, into}
use Rattle.coordinator.specs.Release.{may_go, may_go_at}

less_gathered : (n a b : ℕ) (p : ℕ → Bool) → a < 2 ^ n → b < 2 ^ n
    → bit_and (less n a b) (gather n (λ j. tally (p j))) ≡ gather n (λ j. tally (holds a j && not (holds b j) && p j))
less_gathered n a b p ha hb =
    let g : ℕ = gather n (λ j. tally (p j)) in
    let q : ℕ → Bool = λ j. holds a j && not (holds b j) && p j in
    same_members n (bit_and (less n a b) g) (gather n (λ j. tally (q j)))
    (and_lt n (less n a b) g (less_lt n a b ha) (gathered_lt p n))
    (gathered_lt q n)
    (λ j l. holds_and (less n a b) g j ∙ rw (holds_less n a b j hb l, holds_gather p n j l) (sym (holds_gather q n j l)))

pub going_is : (s : Coordinator) (k waiting free : ℕ) → entry s.asked k < 2 ^ jobs → entry s.released k < 2 ^ jobs → waiting ≡ less jobs (entry s.asked k) (entry s.released k)
    → free ≡ gather jobs (λ j. tally (within jobs (entry s.dependencies (k * jobs + j)) (entry s.confirmed k))) → bit_and waiting free ≡ may_go_at s k
unfolding may_go_at may_go into asked released
going_is s k waiting free a r e f =
    rw (e, f) (less_gathered jobs (entry s.asked k) (entry s.released k) (λ j. within jobs (entry s.dependencies (k * jobs + j)) (entry s.confirmed k)) a r)
