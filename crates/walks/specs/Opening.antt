-- The opening search of a graph as an opening uses it: one set of jobs for each database, and fuel that is enough.
-- Assumes nothing.
use Rattle.std.specs.Prelude.{ℕ, ◌+◌, ◌*◌, ◌<◌, true, false, ◌≡◌}
use Rattle.walks.specs.Walk.{Graph}
use Rattle.walks.specs.Rows.{rows}
use Rattle.walks.specs.Search.{Seek, opening_search}

abbrev pub opening : (G : Graph) → Seek (rows G.jobs G.databases)
opening G = opening_search G (rows G.jobs G.databases) (G.jobs * G.databases + 1)

-- what the tables need to know of a dependency at u from v to the new job before they take it
pub record FoundAt (G : Graph) (v u : ℕ) : Type 0 where
  pub job : v < G.jobs
  pub database : u < G.databases
  pub other : ¬ (v ≡ G.new)
  pub names : G.names v u ≡ true
  pub new_names : G.names G.new u ≡ true
  pub free : G.dep u v G.new ≡ false
