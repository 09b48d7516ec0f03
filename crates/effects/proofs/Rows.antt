-- The dependencies, a set for each database and slot, after stores into those of one database or those of one slot. Assumes nothing.
use Prim.Native.Nat.{ℕ, ◌+◌, ◌*◌, ◌^◌, ◌<◌, ◌≤◌}
use native.Mathlib.Omega.{arith}
use native.Mathlib.Decide.{dec_lt}
use mathlib.Core.Bool.{Bool, true, false, ◌&&◌, ◌||◌, and-true, and-false, or_comm}
use mathlib.Core.List.{List}
use mathlib.Core.Path.{◌≡◌, refl, ap, ◌∙◌}
use borrow.Author.Tests.{eqb-true, eqb-false}
use lib.Bits.{bit_or, or_lt}
use lib.Dec.{eqb}
use lib.Pow.{pow-lt}
use Rattle.mask.specs.Member.{holds}
use Rattle.mask.specs.Members.{over_members}
use Rattle.mask.proofs.Holds.{holds_none, holds_one, holds_or}
use Rattle.coordinator.specs.Limits.{jobs, databases, steps}
use Rattle.coordinator.specs.Shape.{Sized}
use Rattle.coordinator.specs.Views.{entry}
use Rattle.coordinator.specs.Change.{lead, lead_to}
use Rattle.effects.proofs.Stores.{stores, stores_at, stores_off, stores_else, stores_sized}

module _ (d : List ℕ) (h : Sized steps jobs d) where
  -- at database k, j goes before each of the set m

  pub lead_to_sized : (k j m : ℕ) → j < jobs → Sized steps jobs (lead_to k j m d)
  unfolding lead_to over_members lead
  lead_to_sized k j m l = stores_sized (λ b. k * jobs + b) (λ b x. bit_or x (2 ^ j)) (holds m) jobs d h (λ i x q. or_lt jobs x (2 ^ j) q (pow-lt l))

  pub lead_to_lem : (k j m : ℕ) → k < databases → (u a b : ℕ) → b < jobs
      → holds (entry (lead_to k j m d) (u * jobs + b)) a ≡ eqb u k && eqb a j && holds m b || holds (entry d (u * jobs + b)) a
  unfolding lead_to over_members lead
  lead_to_lem k j m l u a b c = by (eqb u k) refl (holds m b) refl
    where
      f : ℕ → ℕ
      f i = k * jobs + i

      g : ℕ → ℕ → ℕ
      g i x = bit_or x (2 ^ j)

      apart : (i e : ℕ) → f i ≡ f e → i ≡ e
      apart i e p = omega arith

      old : ℕ
      old = entry d (u * jobs + b)

      by : (t : Bool) → eqb u k ≡ t → (z : Bool) → holds m b ≡ z → holds (entry (lead_to k j m d) (u * jobs + b)) a ≡ t && eqb a j && z || holds old a
      by true e true y =
          rw (eqb-true u k e, and-true (eqb a j))
          (ap (λ (x : ℕ). holds x a) (stores_at f g (holds m) apart jobs b d c (omega (arith, h.size)) y)
          ∙ holds_or (entry d (k * jobs + b)) (2 ^ j) a
          ∙ or_comm (holds (entry d (k * jobs + b)) a) _
          ∙ ap (λ (z : Bool). z || holds (entry d (k * jobs + b)) a) (holds_one j a))
      by true e false y = rw (eqb-true u k e, and-false (eqb a j)) (ap (λ (x : ℕ). holds x a) (stores_off f g (holds m) apart jobs b d y))
      by false e z y = ap (λ (x : ℕ). holds x a) (stores_else f g (holds m) jobs (u * jobs + b) d (λ i q p. let ne = eqb-false u k e in omega arith))

  -- at each database k that passes the test, the set R k goes before slot n

  module _ (R : ℕ → ℕ) (p : ℕ → Bool) (n : ℕ) (slot : n < jobs) where
    abbrev pub led_into : List ℕ
    led_into = stores (λ k. k * jobs + n) (λ k x. bit_or x (R k)) p databases d

    pub led_into_sized : ((k : ℕ) → R k < 2 ^ jobs) → Sized steps jobs led_into
    led_into_sized small = stores_sized (λ k. k * jobs + n) (λ k x. bit_or x (R k)) p databases d h (λ k x q. or_lt jobs x (R k) q (small k))

    pub led_into_lem : ((u : ℕ) → databases ≤ u → R u ≡ 0) → (u a b : ℕ) → b < jobs
        → holds (entry led_into (u * jobs + b)) a ≡ eqb b n && p u && holds (R u) a || holds (entry d (u * jobs + b)) a
    led_into_lem end u a b c = by (eqb b n) refl (p u) refl (dec_lt u databases)
      where
        f : ℕ → ℕ
        f k = k * jobs + n

        g : ℕ → ℕ → ℕ
        g k x = bit_or x (R k)

        apart : (i e : ℕ) → f i ≡ f e → i ≡ e
        apart i e q = omega arith

        by : (t : Bool) → eqb b n ≡ t → (z : Bool) → p u ≡ z → Dec (u < databases)
            → holds (entry led_into (u * jobs + b)) a ≡ t && z && holds (R u) a || holds (entry d (u * jobs + b)) a
        by true e true y (yes l) =
            rw (eqb-true b n e)
            (ap (λ (x : ℕ). holds x a) (stores_at f g p apart databases u d l (omega (arith, h.size)) y)
            ∙ holds_or (entry d (u * jobs + n)) (R u) a
            ∙ or_comm (holds (entry d (u * jobs + n)) a) _)
        by true e true y (no l) =
            rw (end u (omega arith), holds_none a)
            (ap (λ (x : ℕ). holds x a) (stores_else f g p databases (u * jobs + b) d (λ i q z. omega arith)))
        by true e false y l = rw (eqb-true b n e) (ap (λ (x : ℕ). holds x a) (stores_off f g p apart databases u d y))
        by false e z y l = ap (λ (x : ℕ). holds x a) (stores_else f g p databases (u * jobs + b) d (λ i q w. let ne = eqb-false b n e in omega arith))
