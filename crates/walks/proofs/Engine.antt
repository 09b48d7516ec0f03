-- An engine of the opening search is right, and any two are alike.
-- Assumes nothing.
use Prim.Native.Nat.{ℕ, ◌*◌, ◌<◌, ◌≤◌}
use native.Mathlib.Omega.{arith}
use mathlib.Core.Bool.{Bool, true}
use mathlib.Core.Logic.{◌↔◌}
use mathlib.Core.Path.{◌≡◌}
use Rattle.loops.proofs.Tests.{same_test}
use Rattle.loops.proofs.Sums.{pairs_same}
use Rattle.walks.specs.Walk.{Graph, Reach, first, next, WalkEnd, named}
use Rattle.walks.specs.Engine.{Engine, Alike}
use Rattle.walks.specs.Promise.{Right}
use Rattle.walks.proofs.Walk.{sound_le}
use Rattle.walks.proofs.Named.{named_limit}

module _ (G : Graph) (R F : ℕ → ℕ → Bool) (m : ℕ) (E : Engine G R F m) where
  walk_reached : {w u : ℕ} → Reach G w u → R w u ≡ true
  walk_reached (first {u = u} {w = w} l ne) = E.begun.enters u w (λ e. omega (arith, l.database)) l ne
  walk_reached (next {t = t} {v = v} {u = u} {w = w} r turn l ne) = (E.closed v t (walk_reached r)).enters u w turn l ne

  pub engine_reached : (w u : ℕ) → (R w u ≡ true) ↔ Reach G w u
  engine_reached w u = (E.walks w u, walk_reached)

  pub engine_found : (v u : ℕ) → (F v u ≡ true) ↔ WalkEnd G v u
  engine_found v u = (E.ends v u, λ h. (E.closed v h.through (walk_reached h.walk)).closes u h.turns h.closes)

  engine_most : m ≤ 3 * named G
  engine_most = omega (arith, E.tally, sound_le G R F E.walks E.ends)

  pub engine_right : G.new < G.jobs → Right G R F m
  engine_right new = record {
    reached = engine_reached;
    found = engine_found;
    moves = E.tally;
    most = engine_most;
    limit = λ jobs databases. omega (arith, engine_most, named_limit G new jobs databases);
  }

pub engine : (G : Graph) (R F R' F' : ℕ → ℕ → Bool) (m m' : ℕ) → Engine G R F m → Engine G R' F' m' → Alike G R F m R' F' m'
engine G R F R' F' m m' E E' =
    let r : (w u : ℕ) → R w u ≡ R' w u = λ w u. same_test (R w u) (R' w u) (λ e. (engine_reached G R' F' m' E' w u).1 (E.walks w u e)) (λ e. (engine_reached G R F m E w u).1 (E'.walks w u e)) in
    let f : (v u : ℕ) → F v u ≡ F' v u = λ v u. same_test (F v u) (F' v u) (λ e. (engine_found G R' F' m' E' v u).1 (E.ends v u e)) (λ e. (engine_found G R F m E v u).1 (E'.ends v u e)) in
    let added = pairs_same G.jobs G.databases F F' f in
    record { reached = r; found = f; added = added; moves = omega (arith, E.tally, E'.tally, added, pairs_same G.jobs G.databases R R' r) }
