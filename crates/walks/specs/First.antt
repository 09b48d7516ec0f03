-- The first of f 0, .., f (n - 1) that is something.
-- Assumes nothing.
use Rattle.std.specs.Prelude.{ℕ, zero, suc, Bool, true, false}
use Rattle.std.proofs.Math.Option.{Option, none, some}

unfoldable pub or_else : {A : Type 0} → Option A → (ℕ → Option A) → ℕ → Option A
or_else none f k = f k
or_else (some x) f k = some x

unfoldable pub first_of : {A : Type 0} → ℕ → (ℕ → Option A) → Option A
first_of zero f = none
first_of (suc k) f = or_else (first_of k f) f k

-- x where the test passes
unfoldable pub given : {A : Type 0} → Bool → A → Option A
given true x = some x
given false x = none
