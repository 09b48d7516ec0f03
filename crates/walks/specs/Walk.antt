-- Graph, link and walk, in the words of document 01's paragraph 'Walk' and with no word of the search.
-- Assumes nothing.
use Rattle.std.specs.Prelude.{ℕ, ◌<◌, Bool, true, false, not, ◌&&◌, ◌≡◌, eqb}
use Rattle.loops.specs.Sum.{pairs}

-- Slots of jobs are below `jobs`, databases below `databases`. `new` is N, the slot of the job that is opened.
-- `names j u`: job j names database u. `dep u v w`: a dependency at u from v to w stands before the search.
pub record Graph : Type 0 where
  pub jobs : ℕ
  pub databases : ℕ
  pub new : ℕ
  pub names : ℕ → ℕ → Bool
  pub dep : ℕ → ℕ → ℕ → Bool

-- One may go from job v through database u to job w.
-- 'each job naming the databases beside it': `leaves` and `enters`. 'neighbouring jobs different': `differ`.
-- 'no dependency standing before the search along any link (from the job before a database to the job after it)': `free`.
pub record Link (G : Graph) (u v w : ℕ) : Type 0 where
  pub job : w < G.jobs
  pub database : u < G.databases
  pub leaves : G.names v u ≡ true
  pub enters : G.names w u ≡ true
  pub differ : ¬ (w ≡ v)
  pub free : G.dep u v w ≡ false

-- N, u1, j1, u2, j2, .., u, w: a walk that has come to job w through database u.
-- 'none of j1 .. j(r−1) being N': ¬ (w ≡ G.new). 'neighbouring databases different': ¬ (u ≡ t), where t is the database before u.
pub data Reach (G : Graph) : ℕ → ℕ → Type 0 where
  first : {u w : ℕ} → Link G u G.new w → ¬ (w ≡ G.new) → Reach G w u
  next : {t v u w : ℕ} → Reach G v t → ¬ (u ≡ t) → Link G u v w → ¬ (w ≡ G.new) → Reach G w u

-- N, u1, j1, u2, j2, .., ur, N: a whole walk, with v for j(r−1), u for ur and `through` for u(r−1).
-- 'r at least 2': `walk` has one link or more, and `closes` is the last. Only neighbours are told apart, so u1 and ur may be equal.
pub record WalkEnd (G : Graph) (v u : ℕ) : Type 0 where
  pub through : ℕ
  pub walk : Reach G v through
  pub turns : ¬ (u ≡ through)
  pub closes : Link G u v G.new

-- j is another job than the new one, and names u
abbrev pub others : Graph → ℕ → ℕ → Bool
others G j u = not (eqb j G.new) && G.names j u

-- E, 'the sum of databases named by the other open jobs'
abbrev pub named : Graph → ℕ
named G = pairs G.jobs G.databases (others G)
