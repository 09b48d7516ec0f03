-- The places that the machine goes back to: they lead to the new job, link by link.
-- Assumes nothing.
use Prim.Native.Nat.{ℕ, ◌<◌}
use native.Mathlib.Omega.{arith}
use mathlib.Core.List.{List, [], ◌∷◌}
use mathlib.Core.Logic.{◌⊎◌, inl, inr}
use mathlib.Core.Path.{◌≡◌}
use Rattle.walks.specs.Walk.{Graph, Link}
use Rattle.walks.specs.Machine.{Place}
use Rattle.walks.proofs.Walk.{Come, go_on}

-- p is where one stands, and l leads back to the new job
pub data Trail (G : Graph) : Place → List Place → Type 0 where
  begin : {p : Place} → p.job ≡ G.new → p.via ≡ G.databases → Trail G p []
  on : {p q : Place} {l : List Place} → Trail G p l → ¬ (q.via ≡ p.via) → Link G q.via p.job q.job → ¬ (q.job ≡ G.new) → Trail G q (p ∷ l)

pub trail_job : {G : Graph} {p : Place} {l : List Place} → G.new < G.jobs → Trail G p l → p.job < G.jobs
trail_job new (begin e f) = omega arith
trail_job new (on h turn l ne) = l.job

-- a walk has come to where one stands
pub trail_come : {G : Graph} {p : Place} {l : List Place} → Trail G p l → Come G p.job p.via
trail_come (begin e f) = inl e
trail_come {G} (on {p = p} {q = q} h turn k ne) = inr (go_on G p.job p.via q.via q.job turn k ne (trail_come h))

pub trail_back : {G : Graph} {p q : Place} {l : List Place} → Trail G p (q ∷ l) → Trail G q l
trail_back (on h turn k ne) = h

pub trail_end : {G : Graph} {p : Place} → Trail G p [] → (p.job ≡ G.new) × (p.via ≡ G.databases)
trail_end (begin e f) = (e, f)

-- (w, u) is among the places
abbrev pub Among : ℕ → ℕ → List Place → Type 0
Among w u [] = ⊥
Among w u (p ∷ l) = ((w ≡ p.job) × (u ≡ p.via)) ⊎ Among w u l
