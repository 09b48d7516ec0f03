-- The loop of visit_database: the slots to try at a database, walked from low to high. Assumes nothing.
use Prim.Native.Nat.{ℕ, ◌+◌, ◌*◌, ◌^◌, ◌<◌}
use native.Mathlib.Nat.{lt_of_lt_of_le}
use native.Mathlib.Omega.{arith}
use mathlib.Core.Bool.{Bool, true, false, not, ◌&&◌}
use mathlib.Core.List.{List}
use mathlib.Core.Logic.{◌⊎◌, inl, inr}
use mathlib.Core.Path.{◌≡◌, refl, sym, ap, subst, ◌∙◌}
use borrow.Author.Tests.{eqb-true, eqb-false, ne_eqb, not-true}
use lib.Dec.{eqb}
use lib.ListN.{get_or}
use Rattle.std.specs.Prelude.{Some}
use Rattle.loops.proofs.Tests.{both, and_left, and_right}
use Rattle.mask.specs.Member.{holds, excluding, lowest}
use Rattle.mask.specs.Lowest.{Lowest}
use Rattle.mask.proofs.Change.{excluding_lt}
use Rattle.mask.proofs.Holds.{holds_below, holds_none, holds_excluding}
use Rattle.mask.proofs.Lowest.{trailing_lowest, lowest_holds}
use Rattle.walks.specs.Walk.{Link}
use Rattle.walks.proofs.Walk.{reach_not_new}
use Rattle.walks.proofs.Next.{Hit}
use Rattle.search.specs.Limits.{jobs}
use Rattle.search.specs.declared.Walker.{Walker}
use Rattle.search.specs.Visit.{marks, Given, given, graph_of, unmarked, Ready, Arrived, Standing, Onward, BeforeJob, JobVisited, DatabaseVisited, Others}
use Rattle.search.proofs.Onward.{hit_on, unmarked_le, onward_refl, onward_then}
use Rattle.search.proofs.Moves.{put_in, closing_on, closing_hit, walk_on, next_ready, next_falls, forward_on, forward_hit}

-- a slot to try: it names u, it is not v, and it is not reached through u
pub record Fresh (g : Given) (reached : List ℕ) (v u w : ℕ) : Type 0 where
  pub names : holds (get_or g.named u 0) w ≡ true
  pub differs : ¬ (w ≡ v)
  pub absent : marks.has reached w u ≡ false

-- m is left to try, and t is come to from s
pub record AtSlots (v u : ℕ) (s t : Walker) (m : ℕ) : Type 0 where
  pub onward : Onward (given s) s t
  pub below : m < 2 ^ jobs
  pub fresh : (w : ℕ) → holds m w ≡ true → Fresh (given s) t.reached v u w
  pub left : (w : ℕ) → Link (graph_of (given s)) u v w → (holds m w ≡ true) ⊎ Hit (graph_of (given s)) marks t.reached t.found v u w

-- a turn at w comes from t to r
pub record Turned (g : Given) (v u w : ℕ) (t r : Walker) : Type 0 where
  pub onward : Onward g t r
  pub hit : Link (graph_of g) u v w → Hit (graph_of g) marks r.reached r.found v u w

module _ {all reached v m : ℕ} (o : Others all reached v m) (w : ℕ) (e : holds m w ≡ true) where
  tried : (not (eqb w v) && holds all w) && not (holds reached w) ≡ true
  tried = sym (o.members w (holds_below jobs m w o.below e)) ∙ e

  of_all : holds all w ≡ true
  of_all = and_right (not (eqb w v)) (holds all w) (and_left _ (not (holds reached w)) tried)

  not_own : ¬ (w ≡ v)
  not_own = eqb-false w v (not-true (eqb w v) (and_left (not (eqb w v)) (holds all w) (and_left _ (not (holds reached w)) tried)))

  unreached : holds reached w ≡ false
  unreached = not-true (holds reached w) (and_right (not (eqb w v) && holds all w) (not (holds reached w)) tried)

-- what is not to try any more is reached: the new job never is
try_or_hit : {g : Given} {v u all m : ℕ} {t : Walker} → Ready g t → Others all (get_or t.reached u 0) v m
    → (w : ℕ) → w < jobs → ¬ (w ≡ v) → holds all w ≡ true → (holds m w ≡ true) ⊎ Hit (graph_of g) marks t.reached t.found v u w
try_or_hit {g} {v} {u} {all} {m} {t} h o w l ne e = by (holds (get_or t.reached u 0) w) refl
  where
    by : (b : Bool) → holds (get_or t.reached u 0) w ≡ b → (holds m w ≡ true) ⊎ Hit (graph_of g) marks t.reached t.found v u w
    by true p = inr (record { closes = λ q. absurd (reach_not_new (h.sound.walks w u p) q); enters = λ q. p })
    by false p = inl (o.members w l ∙ rw (p, e, ne_eqb w v ne))

pub slots_start : {v u m : ℕ} {s : Walker} → Ready (given s) s → Others (get_or s.named.now u 0) (get_or s.reached u 0) v m
    → AtSlots v u s s m
slots_start h o = record {
  onward = onward_refl h;
  below = o.below;
  fresh = λ w e. record { names = of_all o w e; differs = not_own o w e; absent = unreached o w e };
  left = λ w l. try_or_hit h o w l.job l.differ l.enters;
}

module _ {v u : ℕ} {s t : Walker} {m : ℕ} (at : AtSlots v u s t m) where
  abbrev g : Given
  g = given s

  -- a turn: w is the lowest of those left

  module _ (ne : ¬ (m ≡ 0)) {w : ℕ} (e : w ≡ lowest jobs m) where
    low : Lowest jobs m w
    low = rw e (trailing_lowest jobs m (omega arith) at.below)

    pub slot_below : w < jobs
    slot_below = low.within

    pub slot_fresh : Fresh g t.reached v u w
    slot_fresh = at.fresh w (lowest_holds low)

    -- the three ways that a turn can go

    is_dependency : holds (get_or t.dependencies.now (u * jobs + w) 0) v ≡ holds (get_or g.dependencies (u * jobs + w) 0) v
    is_dependency = ap (λ (x : Given). holds (get_or x.dependencies (u * jobs + w) 0) v) at.onward.ready.same

    is_new : t.job.0 ≡ g.new
    is_new = ap (λ (x : Given). x.new) at.onward.ready.same

    module _ (st : Standing g v u) where
      pub turn_held : holds (get_or t.dependencies.now (u * jobs + w) 0) v ≡ true → Turned g v u w t t
      turn_held d = record { onward = onward_refl at.onward.ready; hit = λ l. both (sym is_dependency ∙ d) l.free }

      module _ (d : holds (get_or t.dependencies.now (u * jobs + w) 0) v ≡ false) where
        pub slot_link : Link (graph_of g) u v w
        slot_link = record {
          job = low.within;
          database = st.database;
          leaves = st.names;
          enters = slot_fresh.names;
          differ = slot_fresh.differs;
          free = sym is_dependency ∙ d;
        }

        pub turn_closes : w ≡ t.job.0 → Turned g v u w t (record t { found = put_in t.found u v })
        turn_closes new = record { onward = closing_on st at.onward.ready (new ∙ is_new) slot_link; hit = λ l. closing_hit st at.onward.ready (new ∙ is_new) slot_link }

        -- what the visit of w asks, and that fewer pairs are left to it

        module _ (old : ¬ (w ≡ t.job.0)) where
          other : ¬ (w ≡ g.new)
          other e = old (e ∙ sym is_new)

          -- w is marked
          abbrev goes : Walker
          goes = record t { reached = put_in t.reached u w }

          pub forward_asked : (unmarked goes.reached < unmarked s.reached) × BeforeJob goes w (Some (record { 0 = u }))
          forward_asked = (
            lt_of_lt_of_le (next_falls st at.onward.ready other slot_link slot_fresh.absent) (unmarked_le at.onward),
            record {
              ready = subst (λ (x : Given). Ready x goes) (sym at.onward.ready.same) (next_ready st at.onward.ready other slot_link slot_fresh.absent);
              arrived = subst (λ (x : Given). Arrived x w u) (sym at.onward.ready.same) (inr (walk_on st at.onward.ready other slot_link slot_fresh.absent));
            },
          )

          pub turn_forward : (r : Walker) → JobVisited goes w (Some (record { 0 = u })) r → Turned g v u w t r
          turn_forward r k =
              let on : Onward g goes r = subst (λ (x : Given). Onward x goes r) at.onward.ready.same k.onward in
              record {
                onward = forward_on st at.onward.ready other slot_link slot_fresh.absent on k.taken;
                hit = λ l. forward_hit st at.onward.ready other slot_link slot_fresh.absent on k.taken;
              }

    -- x is left of m without w

    module _ {x : ℕ} (p : x ≡ excluding m (lowest jobs m)) where
      kept : (j : ℕ) → holds x j ≡ not (eqb j w) && holds m j
      kept j = rw (p, ← e) (holds_excluding m w j)

      kept_in : (j : ℕ) → holds x j ≡ true → holds m j ≡ true
      kept_in j q = and_right (not (eqb j w)) (holds m j) (sym (kept j) ∙ q)

      -- what is left to try beside w, or made
      kept_left : {r : Walker} → Turned g v u w t r → (j : ℕ) → Link (graph_of g) u v j
          → (holds x j ≡ true) ⊎ Hit (graph_of g) marks r.reached r.found v u j
      kept_left {r} now j l = by (eqb j w) refl (at.left j l)
        where
          by : (b : Bool) → eqb j w ≡ b → (holds m j ≡ true) ⊎ Hit (graph_of g) marks t.reached t.found v u j
              → (holds x j ≡ true) ⊎ Hit (graph_of g) marks r.reached r.found v u j
          by true q h = inr (rw (eqb-true j w q) (now.hit (rw (eqb-true j w q) at l)))
          by false q (inr h) = inr (hit_on now.onward h)
          by false q (inl h) = inl (kept j ∙ rw (q, h))

      -- nothing more is reached
      pub slots_rest : {r : Walker} → r.reached ≡ t.reached → Turned g v u w t r → AtSlots v u s r x
      slots_rest same now = record {
        onward = onward_then at.onward now.onward;
        below = rw p (excluding_lt jobs m (lowest jobs m) at.below);
        fresh = λ j q. rw same (at.fresh j (kept_in j q));
        left = kept_left now;
      }

      -- k is to try of x, once more is reached
      pub slots_turn : {r : Walker} {k : ℕ} → Others x (get_or r.reached u 0) v k → Turned g v u w t r → AtSlots v u s r k
      slots_turn {r} {k} o now = record {
        onward = onward_then at.onward now.onward;
        below = o.below;
        fresh = λ j q. record { names = (at.fresh j (kept_in j (of_all o j q))).names; differs = not_own o j q; absent = unreached o j q };
        left = λ j l. by j l (kept_left now j l);
      }
        where
          by : (j : ℕ) → Link (graph_of g) u v j → (holds x j ≡ true) ⊎ Hit (graph_of g) marks r.reached r.found v u j
              → (holds k j ≡ true) ⊎ Hit (graph_of g) marks r.reached r.found v u j
          by j l (inl h) = try_or_hit now.onward.ready o j l.job l.differ h
          by j l (inr h) = inr h

      -- what is left after each of the three ways

      module _ (st : Standing g v u) where
        pub slots_held : holds (get_or t.dependencies.now (u * jobs + w) 0) v ≡ true → AtSlots v u s t x
        slots_held d = slots_rest refl (turn_held st d)

        module _ (d : holds (get_or t.dependencies.now (u * jobs + w) 0) v ≡ false) where
          pub slots_closed : w ≡ t.job.0 → AtSlots v u s (record t { found = put_in t.found u v }) x
          slots_closed new = slots_rest refl (turn_closes st d new)

          pub slots_forward : ¬ (w ≡ t.job.0) → {r : Walker} {k : ℕ} → JobVisited (record t { reached = put_in t.reached u w }) w (Some (record { 0 = u })) r
              → Others x (get_or r.reached u 0) v k → AtSlots v u s r k
          slots_forward old {r} visited o = slots_turn o (turn_forward st d old r visited)

  pub slots_done : m ≡ 0 → DatabaseVisited s v u t
  slots_done z = record { onward = at.onward; through = record { hits = λ w l. by w (at.left w l) } }
    where
      by : (w : ℕ) → (holds m w ≡ true) ⊎ Hit (graph_of g) marks t.reached t.found v u w → Hit (graph_of g) marks t.reached t.found v u w
      by w (inl h) = both h (rw z (holds_none w))
      by w (inr h) = h
