-- What any way of doing the opening search has to show: then its pairs and its moves are those of every other way.
-- R w u: w is reached through u. F v u: the dependency at u from v to the new job is found. m: the moves.
-- Assumes nothing.
use Rattle.std.specs.Prelude.{ℕ, ◌+◌, ◌*◌, Bool, true, ◌≡◌}
use Rattle.loops.specs.Sum.{pairs}
use Rattle.walks.specs.Walk.{Graph, Link, Reach, WalkEnd}

-- nothing is left to choose at v, reached through t
pub record Made (G : Graph) (R F : ℕ → ℕ → Bool) (v t : ℕ) : Type 0 where
  pub enters : (u w : ℕ) → ¬ (u ≡ t) → Link G u v w → ¬ (w ≡ G.new) → R w u ≡ true
  pub closes : (u : ℕ) → ¬ (u ≡ t) → Link G u v G.new → F v u ≡ true

-- the marks are sound for walks, nothing is left to choose at N nor at a pair that is reached, and the moves tally
pub record Engine (G : Graph) (R F : ℕ → ℕ → Bool) (m : ℕ) : Type 0 where
  pub walks : (w u : ℕ) → R w u ≡ true → Reach G w u
  pub ends : (v u : ℕ) → F v u ≡ true → WalkEnd G v u
  pub begun : Made G R F G.new G.databases
  pub closed : (w u : ℕ) → R w u ≡ true → Made G R F w u
  pub tally : m ≡ 2 * pairs G.jobs G.databases R + pairs G.jobs G.databases F

-- the same pairs, as many of them found, and as many moves
pub record Alike (G : Graph) (R F : ℕ → ℕ → Bool) (m : ℕ) (R' F' : ℕ → ℕ → Bool) (m' : ℕ) : Type 0 where
  pub reached : (w u : ℕ) → R w u ≡ R' w u
  pub found : (v u : ℕ) → F v u ≡ F' v u
  pub added : pairs G.jobs G.databases F ≡ pairs G.jobs G.databases F'
  pub moves : m ≡ m'
