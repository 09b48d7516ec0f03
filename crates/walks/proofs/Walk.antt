-- What walks come to and end with, and how they go on.
-- Assumes nothing.
use Prim.Native.Nat.{ℕ, ◌+◌, ◌*◌, ◌<◌, ◌≤◌}
use native.Mathlib.Omega.{arith}
use mathlib.Core.Bool.{Bool, true}
use mathlib.Core.Logic.{◌⊎◌, inl, inr}
use mathlib.Core.Path.{◌≡◌, sym, ◌∙◌}
use borrow.Author.Tests.{ne_eqb}
use Rattle.loops.specs.Sum.{pairs}
use Rattle.loops.proofs.Sums.{pairs_mono}
use Rattle.walks.specs.Walk.{Graph, Link, Reach, first, next, WalkEnd, others, named}

-- v is a place to go on from, reached through t
abbrev pub Come : Graph → ℕ → ℕ → Type 0
Come G v t = (v ≡ G.new) ⊎ Reach G v t

pub go_on : (G : Graph) (v t u w : ℕ) → ¬ (u ≡ t) → Link G u v w → ¬ (w ≡ G.new) → Come G v t → Reach G w u
go_on G v t u w turn l ne (inl e) = first (rw e at l) ne
go_on G v t u w turn l ne (inr r) = next r turn l ne

pub end_at : (G : Graph) (v t u w : ℕ) → ¬ (u ≡ t) → Link G u v w → w ≡ G.new → Come G v t → WalkEnd G v u
end_at G v t u w turn l e (inl p) = absurd (l.differ (e ∙ sym p))
end_at G v t u w turn l e (inr r) = record { through = t; walk = r; turns = turn; closes = rw e at l }

-- a walk comes to jobs other than the new one, through databases
pub reach_job : {G : Graph} {w u : ℕ} → Reach G w u → w < G.jobs
reach_job (first l ne) = l.job
reach_job (next r turn l ne) = l.job

pub reach_database : {G : Graph} {w u : ℕ} → Reach G w u → u < G.databases
reach_database (first l ne) = l.database
reach_database (next r turn l ne) = l.database

pub reach_not_new : {G : Graph} {w u : ℕ} → Reach G w u → ¬ (w ≡ G.new)
reach_not_new (first l ne) = ne
reach_not_new (next r turn l ne) = ne

-- what walks come to and end with are other jobs, at databases that they name
other : (G : Graph) (w u : ℕ) → ¬ (w ≡ G.new) → G.names w u ≡ true → others G w u ≡ true
other G w u ne e = rw (ne_eqb w G.new ne, e)

pub reach_other : {G : Graph} {w u : ℕ} → Reach G w u → others G w u ≡ true
reach_other {G} {w} {u} (first l ne) = other G w u ne l.enters
reach_other {G} {w} {u} (next r turn l ne) = other G w u ne l.enters

pub end_other : {G : Graph} {v u : ℕ} → WalkEnd G v u → others G v u ≡ true
end_other {G} {v} {u} h = other G v u (λ e. h.closes.differ (sym e)) h.closes.leaves

-- so two moves for each pair reached and one for each found are at most 3×E
pub sound_le : (G : Graph) (R F : ℕ → ℕ → Bool) → ((w u : ℕ) → R w u ≡ true → Reach G w u) → ((v u : ℕ) → F v u ≡ true → WalkEnd G v u)
    → 2 * pairs G.jobs G.databases R + pairs G.jobs G.databases F ≤ 3 * named G
sound_le G R F walks ends =
    omega (
      arith,
      pairs_mono G.jobs G.databases R (others G) (λ w u e. reach_other (walks w u e)),
      pairs_mono G.jobs G.databases F (others G) (λ v u e. end_other (ends v u e)),
    )
