-- Loops and tests of a program as functions of its state. Assumes nothing.
use Rattle.std.specs.Prelude.{ℕ, zero, suc, Bool, true, false, ◌&&◌}

-- the loop `for i in 0..k { s = f(i, s) }`
unfoldable pub over : {S : Type 0} → ℕ → (ℕ → S → S) → S → S
over zero f s = s
over (suc k) f s = f k (over k f s)

-- p holds of 0 to k - 1
unfoldable pub every : ℕ → (ℕ → Bool) → Bool
every zero p = true
every (suc k) p = every k p && p k

-- `if b { s = f(s) }`, and `if b { s = f(s) } else { s = g(s) }`: the arms are functions, so the one not taken is not computed
unfoldable pub guard : {S : Type 0} → Bool → (S → S) → S → S
guard true f s = f s
guard false f s = s

unfoldable pub choice : {S : Type 0} → Bool → (S → S) → (S → S) → S → S
choice true f g s = f s
choice false f g s = g s
