-- The fresh start: nothing is open. Assumes nothing.
use Prim.Native.Nat.{ℕ, ◌+◌, ◌*◌, ◌^◌, ◌<◌}
use native.Mathlib.Decide.{dec_lt}
use native.Mathlib.Omega.{arith}
use mathlib.Core.Bool.{false}
use mathlib.Core.Path.{◌≡◌, refl, ap, sym, ◌∙◌}
use lib.ListN.{replicate, length-replicate, get_or-replicate, get_or-eq_default}
use lib.Pow.{pow_pos}
use Rattle.loops.proofs.Tests.{untrue, both}
use Rattle.mask.specs.Member.{holds, size}
use Rattle.mask.proofs.Equal.{equal_members}
use Rattle.mask.proofs.Holds.{holds_none}
use Rattle.mask.proofs.Size.{size_none}
use Rattle.coordinator.specs.Limits.{jobs, databases, steps}
use Rattle.coordinator.specs.Fresh.{fresh}
use Rattle.coordinator.specs.Shape.{Sized, Shape}
use Rattle.coordinator.specs.Views.{entry, in_mask, names, asked, released, confirmed, open_slots, is_open, open_count, held, ticket, opened, into, dep}
use Rattle.effects.specs.View.{view, Alike}
use Rattle.effects.specs.Effect.{nothing_open}
use Rattle.effects.proofs.Bounds.{open_iff}

zeros : (n i : ℕ) → entry (replicate n 0) i ≡ 0
zeros n i = elim (dec_lt i n) [
  | yes b ↦ get_or-replicate n i 0 0 b
  | no b ↦ get_or-eq_default (replicate n 0) 0 {n = i} (omega (arith, length-replicate {A = ℕ} n 0))
]

zeros_hold : (n u a : ℕ) → holds (entry (replicate n 0) u) a ≡ false
zeros_hold n u a = rw (zeros n u) (holds_none a)

zeros_sized : (n w : ℕ) → Sized n w (replicate n 0)
zeros_sized n w = record { size = length-replicate {A = ℕ} n 0; fits = λ i. rw (zeros n i) (pow_pos w) }

module _ (n : ℕ) (small : n < 2 ^ 16) where
  pub shape_fresh : Shape (fresh n)
  shape_fresh = record {
    tickets = zeros_sized jobs 16;
    held = pow_pos jobs;
    order = zeros_sized jobs 8;
    named = zeros_sized databases jobs;
    asked = zeros_sized databases jobs;
    released = zeros_sized databases jobs;
    confirmed = zeros_sized databases jobs;
    dependencies = zeros_sized steps jobs;
    candidate = small;
  }

  names_fresh : (a u : ℕ) → names (fresh n) a u ≡ false
  unfolding names in_mask
  names_fresh a u = zeros_hold databases u a

  open_fresh : (a : ℕ) → is_open (fresh n) a ≡ false
  open_fresh a = untrue (is_open (fresh n) a) (λ e. let (k, l, q) = (open_iff (fresh n) shape_fresh a).0 e in both q (names_fresh a k))

  count_fresh : open_count (fresh n) ≡ 0
  unfolding open_count is_open
  count_fresh =
      let none : open_slots (fresh n) ≡ 0 = equal_members (open_slots (fresh n)) 0 (λ a. open_fresh a ∙ sym (holds_none a)) in
      ap (size jobs) none ∙ size_none jobs

  pub fresh_view : Alike (view (fresh n)) (nothing_open n)
  unfolding in_mask names asked released confirmed held ticket opened into dep
  fresh_view = record {
    in_mask = λ a u. zeros_hold databases u a;
    names = λ a u. zeros_hold databases u a;
    asked = λ a u. zeros_hold databases u a;
    released = λ a u. zeros_hold databases u a;
    confirmed = λ a u. zeros_hold databases u a;
    is_open = open_fresh;
    held = λ a. holds_none a;
    ticket = zeros jobs;
    count = count_fresh;
    opened = zeros jobs;
    dep = λ u a b l. zeros_hold steps (u * jobs + b) a;
    candidate = refl;
  }
