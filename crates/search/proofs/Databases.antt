-- The loop of visit_job: the databases that it takes, walked from low to high. Assumes nothing.
use Prim.Native.Nat.{ℕ, ◌^◌, ◌<◌}
use native.Mathlib.Omega.{arith}
use mathlib.Core.Bool.{Bool, true, false, not, ◌&&◌}
use mathlib.Core.Logic.{◌⊎◌, inl, inr}
use mathlib.Core.Path.{◌≡◌, refl, sym, subst, ◌∙◌}
use borrow.Author.Tests.{eqb-true, eqb-false, ne_eqb, not-true}
use lib.Dec.{eqb}
use lib.ListN.{get_or, set, length-set}
use lib.Seq.{get_or-set_same, get_or-set_other}
use Rattle.std.specs.Prelude.{Option}
use Rattle.numbers.specs.declared.Database.{Database}
use Rattle.loops.proofs.Tests.{both, and_left, and_right}
use Rattle.mask.specs.Member.{holds, excluding, less}
use Rattle.mask.specs.Lowest.{Lowest}
use Rattle.mask.proofs.Change.{excluding_lt}
use Rattle.mask.proofs.Equal.{below_iff}
use Rattle.mask.proofs.Holds.{holds_none, holds_excluding, holds_less_any}
use Rattle.mask.proofs.Lowest.{lowest_holds}
use Rattle.search.specs.Limits.{jobs, databases}
use Rattle.walks.proofs.Walk.{reach_job}
use Rattle.search.specs.declared.Walker.{Walker}
use Rattle.search.specs.Visit.{sets, Given, given, Ready, Arrived, Standing, Through, Taken, Onward, BeforeJob, JobVisited, BeforeDatabase, DatabaseVisited, turned}
use Rattle.search.proofs.Onward.{through_on, onward_refl, onward_then}

-- what is arrived at is a slot
arrived_below : {g : Given} {v via : ℕ} {s : Walker} → Ready g s → Arrived g v via → v < jobs
arrived_below h (inl e) = rw e h.new_job
arrived_below h (inr r) = reach_job r

-- x stays ahead of v
abbrev pub taking : Walker → ℕ → ℕ → Walker
taking s v x = record s { ahead = set s.ahead v x }

-- m is left of the databases m₀ that were taken at s, and t is come to since
pub record AtDatabases (v m₀ : ℕ) (s t : Walker) (m : ℕ) : Type 0 where
  pub onward : Onward (given s) s t
  pub among : (u : ℕ) → holds m u ≡ true → holds m₀ u ≡ true
  pub left : (u : ℕ) → holds m₀ u ≡ true → (holds m u ≡ true) ⊎ Through (given s) t.reached t.found v u

pub databases_start : {v m₀ : ℕ} {s : Walker} → Ready (given s) s → AtDatabases v m₀ s s m₀
databases_start h = record { onward = onward_refl h; among = λ u e. e; left = λ u e. inl e }

-- what is taken

module _ {s : Walker} {v : ℕ} {through : Option Database} (asked : BeforeJob s v through) {m₀ : ℕ}
    (is : m₀ ≡ excluding (get_or s.ahead v 0) (turned through)) {x : ℕ} (off : x ≡ less databases (get_or s.ahead v 0) m₀) where
  abbrev g : Given
  g = given s

  abbrev via : ℕ
  via = turned through

  h : Ready g s
  h = asked.ready

  hv : v < jobs
  hv = arrived_below h asked.arrived

  all_below : get_or s.ahead v 0 < 2 ^ databases
  all_below = (below_iff databases (get_or s.ahead v 0)).1 (λ u e. (h.ahead_named v u hv e).0)

  pub taken_below : m₀ < 2 ^ databases
  taken_below = rw is (excluding_lt databases (get_or s.ahead v 0) via all_below)

  member : (u : ℕ) → holds m₀ u ≡ not (eqb u via) && sets.has s.ahead u v
  member u = rw is (holds_excluding (get_or s.ahead v 0) via u)

  own : (u : ℕ) → sets.has (taking s v x).ahead u v ≡ sets.has s.ahead u v && not (holds m₀ u)
  own u = rw (get_or-set_same s.ahead v x 0 (omega (arith, h.ahead_sets, hv)), off) (holds_less_any databases (get_or s.ahead v 0) m₀ u all_below taken_below)

  foreign : (a u : ℕ) → ¬ (a ≡ v) → sets.has (taking s v x).ahead u a ≡ sets.has s.ahead u a
  foreign a u ne = rw (get_or-set_other s.ahead v a x 0 ne)

  -- taken off now or before
  taken_off : (a u : ℕ) → sets.has (taking s v x).ahead u a ≡ false → (sets.has s.ahead u a ≡ false) ⊎ ((a ≡ v) × (holds m₀ u ≡ true))
  taken_off a u e = by (eqb a v) refl
    where
      new : a ≡ v → (b c : Bool) → sets.has s.ahead u v ≡ b → holds m₀ u ≡ c → b && not c ≡ false → (sets.has s.ahead u a ≡ false) ⊎ ((a ≡ v) × (holds m₀ u ≡ true))
      new q false c p r z = inl (rw q p)
      new q true true p r z = inr (q, r)
      new q true false p r z = both refl z

      by : (b : Bool) → eqb a v ≡ b → (sets.has s.ahead u a ≡ false) ⊎ ((a ≡ v) × (holds m₀ u ≡ true))
      by true q = new (eqb-true a v q) (sets.has s.ahead u v) (holds m₀ u) refl refl (sym (own u) ∙ (rw (eqb-true a v q) at e))
      by false q = inl (sym (foreign a u (eqb-false a v q)) ∙ e)

  ahead_on : (a u : ℕ) → sets.has s.ahead u a ≡ false → sets.has (taking s v x).ahead u a ≡ false
  ahead_on a u e = by (eqb a v) refl
    where
      by : (b : Bool) → eqb a v ≡ b → sets.has (taking s v x).ahead u a ≡ false
      by true q = rw (eqb-true a v q) (own u ∙ rw (rw (eqb-true a v q) at e))
      by false q = foreign a u (eqb-false a v q) ∙ e

  pub taking_ready : Ready g (taking s v x)
  taking_ready = record {
    same = h.same;
    new_job = h.new_job;
    ahead_sets = length-set s.ahead v _ ∙ h.ahead_sets;
    ahead_named = λ a u l e. by a u l e (sets.has s.ahead u a) refl;
    reached_sets = h.reached_sets;
    found_sets = h.found_sets;
    sound = h.sound;
  }
    where
      by : (a u : ℕ) → a < jobs → sets.has (taking s v x).ahead u a ≡ true → (b : Bool) → sets.has s.ahead u a ≡ b → (u < databases) × (holds (get_or g.named u 0) a ≡ true)
      by a u l e true q = h.ahead_named a u l q
      by a u l e false q = both e (ahead_on a u q)

  -- but for `via` nothing is ahead of v any more
  takes : Taken (taking s v x).ahead v via
  takes = record { each = λ u ne. own u ∙ rw (member u, ne_eqb u via ne) (by (sets.has s.ahead u v)) }
    where
      by : (b : Bool) → b && not b ≡ false
      by true = refl
      by false = refl

  -- from v one may go on through each of those taken
  pub taken_standing : (u : ℕ) → holds m₀ u ≡ true → Standing g v u
  taken_standing u e =
      let p : not (eqb u via) && sets.has s.ahead u v ≡ true = sym (member u) ∙ e in
      let q = h.ahead_named v u hv (and_right (not (eqb u via)) (sets.has s.ahead u v) p) in
      record {
        job = hv;
        database = q.0;
        names = q.1;
        via = via;
        turns = eqb-false u via (not-true (eqb u via) (and_left (not (eqb u via)) (sets.has s.ahead u v) p));
        arrived = asked.arrived;
      }

  -- what the visit of the lowest of those left asks
  pub database_asked : {t : Walker} {m : ℕ} → AtDatabases v m₀ (taking s v x) t m → {u : ℕ} → Lowest databases m u → BeforeDatabase t v u
  database_asked {t} at {u} low = record {
    ready = subst (λ (x : Given). Ready x t) (sym at.onward.ready.same) at.onward.ready;
    standing = subst (λ (x : Given). Standing x v u) (sym at.onward.ready.same) (taken_standing u (at.among u (lowest_holds low)));
  }

  pub databases_done : {t : Walker} {m : ℕ} → AtDatabases v m₀ (taking s v x) t m → m ≡ 0 → JobVisited s v through t
  databases_done {t} {m} at z = record {
    onward = record {
      ready = at.onward.ready;
      ahead = λ a u e. at.onward.ahead a u (ahead_on a u e);
      reached = at.onward.reached;
      found = at.onward.found;
      through = λ a u e. before a u (at.onward.through a u e);
      taken = at.onward.taken;
    };
    taken = record { each = λ u ne. at.onward.ahead v u (takes.each u ne) };
  }
    where
      walked : (a u : ℕ) → a ≡ v → (holds m u ≡ true) ⊎ Through g t.reached t.found v u → Through g t.reached t.found a u
      walked a u q (inl k) = both k (rw z (holds_none u))
      walked a u q (inr k) = rw q k

      now : (a u : ℕ) → (sets.has s.ahead u a ≡ false) ⊎ ((a ≡ v) × (holds m₀ u ≡ true))
          → (sets.has s.ahead u a ≡ false) ⊎ Through g t.reached t.found a u
      now a u (inl k) = inl k
      now a u (inr k) = inr (walked a u k.0 (at.left u k.1))

      before : (a u : ℕ) → (sets.has (taking s v x).ahead u a ≡ false) ⊎ Through g t.reached t.found a u
          → (sets.has s.ahead u a ≡ false) ⊎ Through g t.reached t.found a u
      before a u (inl k) = now a u (taken_off a u k)
      before a u (inr k) = inr k

-- a turn: u is the lowest of those left

module _ {v m₀ : ℕ} {s t : Walker} {m : ℕ} (at : AtDatabases v m₀ s t m) {u : ℕ} where
  pub databases_turn : {k : ℕ} → k ≡ excluding m u → (r : Walker) → DatabaseVisited t v u r → AtDatabases v m₀ s r k
  databases_turn {k} p r visited = record {
    onward = onward_then at.onward now;
    among = λ j q. at.among j (and_right (not (eqb j u)) (holds m j) (sym (kept j) ∙ q));
    left = λ j q. by j (eqb j u) refl (at.left j q);
  }
    where
      now : Onward (given s) t r
      now = subst (λ (x : Given). Onward x t r) at.onward.ready.same visited.onward

      through : Through (given s) r.reached r.found v u
      through = subst (λ (x : Given). Through x r.reached r.found v u) at.onward.ready.same visited.through

      kept : (j : ℕ) → holds k j ≡ not (eqb j u) && holds m j
      kept j = rw p (holds_excluding m u j)

      by : (j : ℕ) → (b : Bool) → eqb j u ≡ b → (holds m j ≡ true) ⊎ Through (given s) t.reached t.found v j → (holds k j ≡ true) ⊎ Through (given s) r.reached r.found v j
      by j true q h = inr (rw (eqb-true j u q) through)
      by j false q (inl h) = inl (kept j ∙ rw (q, h))
      by j false q (inr h) = inr (through_on now h)
