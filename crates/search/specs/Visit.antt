-- What the functions of the search ask and leave. Assumes nothing: these are definitions.
use Rattle.std.specs.Prelude.{◌≡◌, true, false, not, ◌&&◌, List, ◌⊎◌, ℕ, ◌+◌, ◌-◌, ◌*◌, ◌^◌, ◌<◌, ◌≤◌, eqb, length, get_or, Option, None, Some}
use Rattle.loops.specs.Loop.{over}
use Rattle.mask.specs.Member.{holds}
use Rattle.mask.specs.Members.{over_members}
use Rattle.walks.specs.Marks.{Marks, count}
use Rattle.walks.specs.Rows.{rows}
use Rattle.walks.specs.Walk.{Graph, Link}
use Rattle.walks.proofs.Walk.{Come}
use Rattle.walks.proofs.Next.{Hit, Sound}
use Rattle.numbers.specs.declared.Database.{Database}
use Rattle.search.specs.declared.Walker.{Walker}
use Rattle.search.specs.Limits.{jobs, databases}
use Rattle.search.specs.Search.{graph}

-- one set of slots for each database
abbrev pub marks : Marks jobs databases
marks = rows jobs databases

-- one set of databases for each slot
abbrev pub sets : Marks databases jobs
sets = rows databases jobs

-- database u is ahead of each of the slots; and each database of those that name it
unfoldable pub put_ahead : ℕ → ℕ → List ℕ → List ℕ
put_ahead slots u ahead = over_members jobs slots (λ v l. sets.put l u v) ahead

unfoldable pub all_ahead : List ℕ → List ℕ → List ℕ
all_ahead named ahead = over databases (λ u. put_ahead (get_or named u 0) u) ahead

-- what a walker is given, and leaves as it is
pub record Given : Type 0 where
  pub named : List ℕ
  pub dependencies : List ℕ
  pub new : ℕ

abbrev pub given : Walker → Given
given s = record { named = s.named.now; dependencies = s.dependencies.now; new = s.job.0 }

abbrev pub graph_of : Given → Graph
graph_of g = graph g.named g.dependencies g.new

-- the database that a walk may not go back through; there is none as it begins, and no database has that number
abbrev pub turned : Option Database → ℕ
turned None = databases
turned (Some u) = u.0

-- the pairs of a job and a database that are not reached: their number falls
abbrev pub unmarked : List ℕ → ℕ
unmarked reached = jobs * databases - count marks reached

-- a forward move and a return for each pair that is reached, a closing move for each that is found
abbrev pub due : Walker → ℕ
due s = 2 * count marks s.reached + count marks s.found

-- of the databases at most t is ahead of v
pub record Taken (ahead : List ℕ) (v t : ℕ) : Type 0 where
  pub each : (u : ℕ) → ¬ (u ≡ t) → sets.has ahead u v ≡ false

module _ (g : Given) where
  -- s works on what is given; ahead of a slot are only databases that it names; and the marks tell of walks only
  pub record Ready (s : Walker) : Type 0 where
    pub same : given s ≡ g
    pub new_job : g.new < jobs
    pub ahead_sets : length s.ahead ≡ jobs
    pub ahead_named : (v u : ℕ) → v < jobs → sets.has s.ahead u v ≡ true → (u < databases) × (holds (get_or g.named u 0) v ≡ true)
    pub reached_sets : length s.reached ≡ databases
    pub found_sets : length s.found ≡ databases
    pub sound : Sound (graph_of g) marks s.reached s.found

  -- v is the new job, or a walk comes to it through `via`
  abbrev pub Arrived : ℕ → ℕ → Type 0
  Arrived v via = Come (graph_of g) v via

  -- at v, which names u, one may go on through u
  pub record Standing (v u : ℕ) : Type 0 where
    pub job : v < jobs
    pub database : u < databases
    pub names : holds (get_or g.named u 0) v ≡ true
    pub via : ℕ
    pub turns : ¬ (u ≡ via)
    pub arrived : Arrived v via

  -- from v through u nothing is left to choose
  pub record Through (reached found : List ℕ) (v u : ℕ) : Type 0 where
    pub hits : (w : ℕ) → Link (graph_of g) u v w → Hit (graph_of g) marks reached found v u w

  -- from s the search has come to r: what is taken off since is through, and where it stood since, all is taken off
  pub record Onward (s r : Walker) : Type 0 where
    pub ready : Ready r
    pub ahead : (v u : ℕ) → sets.has s.ahead u v ≡ false → sets.has r.ahead u v ≡ false
    pub reached : (w u : ℕ) → marks.has s.reached w u ≡ true → marks.has r.reached w u ≡ true
    pub found : (v u : ℕ) → marks.has s.found v u ≡ true → marks.has r.found v u ≡ true
    pub through : (v u : ℕ) → sets.has r.ahead u v ≡ false → (sets.has s.ahead u v ≡ false) ⊎ Through r.reached r.found v u
    pub taken : (w t : ℕ) → marks.has r.reached w t ≡ true → (marks.has s.reached w t ≡ true) ⊎ Taken r.ahead w t

-- before and after the visit of job v, come to through `via`
pub record BeforeJob (s : Walker) (v : ℕ) (via : Option Database) : Type 0 where
  pub ready : Ready (given s) s
  pub arrived : Arrived (given s) v (turned via)

pub record JobVisited (s : Walker) (v : ℕ) (via : Option Database) (r : Walker) : Type 0 where
  pub onward : Onward (given s) s r
  pub taken : Taken r.ahead v (turned via)

-- before and after the visit of database u, come to from job v
pub record BeforeDatabase (s : Walker) (v u : ℕ) : Type 0 where
  pub ready : Ready (given s) s
  pub standing : Standing (given s) v u

pub record DatabaseVisited (s : Walker) (v u : ℕ) (r : Walker) : Type 0 where
  pub onward : Onward (given s) s r
  pub through : Through (given s) r.reached r.found v u

-- m has the slots of `all` but v that are not in `reached`
pub record Others (all reached v m : ℕ) : Type 0 where
  pub below : m < 2 ^ jobs
  pub most : m ≤ all
  pub members : (j : ℕ) → j < jobs → holds m j ≡ (not (eqb j v) && holds all j) && not (holds reached j)
