-- The opening search in nested form: visiting a job loops over its databases, visiting a database loops over jobs.
-- Here no choice is looked for anew: each loop goes on where it was. The code is nested so too, and looks through each pair of a job and a database only once. Assumes nothing.
use Rattle.std.specs.Prelude.{ℕ, zero, suc, Bool, not, ◌&&◌, eqb}
use Rattle.loops.specs.Loop.{over, guard, choice}
use Rattle.walks.specs.Marks.{Marks}
use Rattle.walks.specs.Walk.{Graph}

pub record Seek {J D : ℕ} (K : Marks J D) : Type 0 where
  pub reached : K.M
  pub found : K.M
  pub moves : ℕ

module _ {J D : ℕ} (K : Marks J D) where
  unfoldable pub mark_reached : ℕ → ℕ → Seek K → Seek K
  mark_reached w u s = record { reached = K.put s.reached w u; found = s.found; moves = suc s.moves }

  unfoldable pub mark_found : ℕ → ℕ → Seek K → Seek K
  mark_found v u s = record { reached = s.reached; found = K.put s.found v u; moves = suc s.moves }

  -- a return move
  unfoldable pub back : Seek K → Seek K
  back s = record { reached = s.reached; found = s.found; moves = suc s.moves }

  -- a closing move, unless the dependency at u from v to the new job is found already
  unfoldable pub closing : ℕ → ℕ → Seek K → Seek K
  closing v u s = guard (not (K.has s.found v u)) (mark_found v u) s

  -- a forward move, the visit of w and the return, unless w has been reached through u already
  unfoldable pub forward : (ℕ → ℕ → Seek K → Seek K) → ℕ → ℕ → Seek K → Seek K
  forward go w u s = guard (not (K.has s.reached w u)) (λ r. back (go w u (mark_reached w u r))) s

  unfoldable pub fresh : Seek K
  fresh = record { reached = K.none; found = K.none; moves = 0 }

-- v names u: may one go on to w?
abbrev pub opens : Graph → ℕ → ℕ → ℕ → Bool
opens G u v w = not (eqb w v) && G.names w u && not (G.dep u v w)

module _ (G : Graph) (K : Marks G.jobs G.databases) where
  -- the pair (u, w) at v
  unfoldable pub choose : (ℕ → ℕ → Seek K → Seek K) → ℕ → ℕ → ℕ → Seek K → Seek K
  choose go v u w s = guard (opens G u v w) (choice (eqb w G.new) (closing K v u) (forward K go w u)) s

  -- visiting database u from job v leads to jobs: `go w u` visits w
  unfoldable pub across : (ℕ → ℕ → Seek K → Seek K) → ℕ → ℕ → Seek K → Seek K
  across go v u s = over G.jobs (choose go v u) s

  -- database u at job v, which was reached through t
  unfoldable pub pass : (ℕ → ℕ → Seek K → Seek K) → ℕ → ℕ → ℕ → Seek K → Seek K
  pass go v t u s = guard (G.names v u && not (eqb u t)) (across go v u) s

  -- visiting job v, reached through t, leads to its databases; the first number is fuel
  unfoldable pub visit : ℕ → ℕ → ℕ → Seek K → Seek K
  visit zero v t s = s
  visit (suc f) v t s = over G.databases (pass (visit f) v t) s

  -- the new job is reached through no database: `databases` is none
  unfoldable pub opening_search : ℕ → Seek K
  unfolding visit pass across choose forward closing back mark_found mark_reached fresh over guard choice
  opening_search f = visit f G.new G.databases (fresh K)
