-- What is promised of the opening search, over any graph: statements only, so that a reader needs no proof file to judge them. proofs/Promise proves them.
-- Assumes nothing: these are definitions.
use Rattle.std.specs.Prelude.{ℕ, ◌+◌, ◌*◌, ◌<◌, ◌≤◌, Bool, true, ◌⊎◌, ◌↔◌, ◌≡◌}
use Rattle.std.proofs.Math.Option.{none, some}
use Rattle.loops.specs.Sum.{pairs}
use Rattle.walks.specs.Walk.{Graph, Reach, WalkEnd, named}
use Rattle.walks.specs.Marks.{Marks}
use Rattle.walks.specs.Rows.{rows}
use Rattle.walks.specs.Machine.{Standing, may_be_chosen, chosen, step, machine}
use Rattle.walks.specs.Search.{Seek, opening_search}
use Rattle.walks.specs.Engine.{Engine, Alike}

-- What a search has marked at its end, and its moves. R w u: w is reached through u. F v u: the dependency at u from v to the new job is found.
pub record Right (G : Graph) (R F : ℕ → ℕ → Bool) (m : ℕ) : Type 0 where
  -- reached are exactly the pairs that a walk comes to
  pub reached : (w u : ℕ) → (R w u ≡ true) ↔ Reach G w u
  -- found are exactly the dependencies that a walk ends with
  pub found : (v u : ℕ) → (F v u ≡ true) ↔ WalkEnd G v u
  -- two moves for each pair reached, forward and return, and one for each dependency found
  pub moves : m ≡ 2 * pairs G.jobs G.databases R + pairs G.jobs G.databases F
  -- at most 3×E
  pub most : m ≤ 3 * named G
  pub limit : G.jobs ≡ 32 → G.databases ≡ 16 → m ≤ 1488

-- the pair c may be chosen, and comes first among those that may: by database, then by slot
pub record FirstChoice (G : Graph) (K : Marks G.jobs G.databases) (s : Standing K) (c : ℕ × ℕ) : Type 0 where
  pub database : c.0 < G.databases
  pub job : c.1 < G.jobs
  pub may : may_be_chosen G K s.place.job s.place.via s.reached s.found c.0 c.1 ≡ true
  pub before : (u w : ℕ) → u < G.databases → w < G.jobs → may_be_chosen G K s.place.job s.place.via s.reached s.found u w ≡ true
      → (c.0 < u) ⊎ ((c.0 ≡ u) × (c.1 ≤ w))

-- what the machine leaves, in the shape of what the nested form leaves
abbrev pub left : {J D : ℕ} (K : Marks J D) → Standing K → Seek K
left K s = record { reached = s.reached; found = s.found; moves = s.moves }

-- K and H are any two ways to keep sets of pairs; k is a number of moves that is enough, f is fuel that is enough.
pub record Promise (G : Graph) : Type 1 where
  -- the machine's choice is the one that document 01 fixes
  pub first : (K : Marks G.jobs G.databases) (s : Standing K) (c : ℕ × ℕ) → chosen G K s ≡ some c → FirstChoice G K s c
  -- each step is one move, and after 3×E of them the machine has ended
  pub counts : (K : Marks G.jobs G.databases) (k : ℕ) → (step G K (machine G K k) ≡ none) ⊎ ((machine G K k).moves ≡ k)
  pub ends : (K : Marks G.jobs G.databases) (k : ℕ) → 3 * named G ≤ k → step G K (machine G K k) ≡ none
  -- at its end its marks and moves are right
  pub right : (K : Marks G.jobs G.databases) (k : ℕ) → 3 * named G ≤ k
      → Right G (K.has (machine G K k).reached) (K.has (machine G K k).found) (machine G K k).moves
  -- the nested form gives the same marks and the same moves, however the sets are kept; with rows all that it leaves is equal
  pub nested : (K H : Marks G.jobs G.databases) (k f : ℕ) → 3 * named G ≤ k → G.jobs * G.databases < f
      → Alike G (K.has (machine G K k).reached) (K.has (machine G K k).found) (machine G K k).moves
      (H.has (opening_search G H f).reached) (H.has (opening_search G H f).found) (opening_search G H f).moves
  pub same : (k f : ℕ) → 3 * named G ≤ k → G.jobs * G.databases < f
      → left (rows G.jobs G.databases) (machine G (rows G.jobs G.databases) k) ≡ opening_search G (rows G.jobs G.databases) f
  -- any other engine is right too, and so agrees with the machine
  pub engine_right : (R F : ℕ → ℕ → Bool) (m : ℕ) → Engine G R F m → Right G R F m
  pub engine : (R F R' F' : ℕ → ℕ → Bool) (m m' : ℕ) → Engine G R F m → Engine G R' F' m' → Alike G R F m R' F' m'
