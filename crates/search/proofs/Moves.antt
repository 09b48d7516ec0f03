-- The moves: a closing move, and a forward move with the visit and the return. Assumes nothing.
use Prim.Native.Nat.{ℕ, ◌+◌, ◌*◌, ◌%◌, ◌^◌, ◌<◌}
use native.Mathlib.Omega.{arith}
use mathlib.Core.Bool.{true, false}
use mathlib.Core.List.{List}
use mathlib.Core.Logic.{◌⊎◌, inl, inr}
use mathlib.Core.Path.{◌≡◌, ap, ◌∙◌}
use lib.Bits.{bit_or}
use lib.ListN.{get_or, set, length-set}
use Rattle.mask.proofs.Words.{or_shl}
use Rattle.walks.specs.Marks.{count}
use Rattle.walks.specs.Walk.{Link, Reach, WalkEnd}
use Rattle.walks.proofs.Walk.{go_on, end_at}
use Rattle.walks.proofs.Marking.{count_le, put_same, put_more, put_only, count_put}
use Rattle.walks.proofs.Next.{Hit}
use Rattle.search.specs.Limits.{jobs}
use Rattle.search.specs.declared.Walker.{Walker}
use Rattle.search.specs.Visit.{marks, Given, graph_of, unmarked, Ready, Standing, Taken, Onward}

-- slot w comes into the set at u, as the code has it
abbrev pub put_in : List ℕ → ℕ → ℕ → List ℕ
put_in sets u w = set sets u (bit_or (get_or sets u 0) (1 * 2 ^ w % 2 ^ 32))

put_is : (sets : List ℕ) (u w : ℕ) → w < jobs → put_in sets u w ≡ marks.put sets w u
put_is sets u w l = rw (or_shl 32 (get_or sets u 0) w l)

-- from v through u to w

module _ {g : Given} {v u : ℕ} (at : Standing g v u) {s : Walker} (h : Ready g s) {w : ℕ} where
  module _ (new : w ≡ g.new) (l : Link (graph_of g) u v w) where
    closed_on : Onward g s (record s { found = marks.put s.found v u })
    closed_on = record {
      ready = record {
        same = h.same;
        new_job = h.new_job;
        ahead_sets = h.ahead_sets;
        ahead_named = h.ahead_named;
        reached_sets = h.reached_sets;
        found_sets = length-set s.found u _ ∙ h.found_sets;
        sound = record { walks = h.sound.walks; ends = λ a b e. by a b (put_only marks s.found v u h.found_sets at.job at.database a b e) };
      };
      ahead = λ a b e. e;
      reached = λ a b e. e;
      found = put_more marks s.found v u h.found_sets at.job at.database;
      through = λ a b e. inl e;
      taken = λ a b e. inl e;
    }
      where
        by : (a b : ℕ) → ((a ≡ v) × (b ≡ u)) ⊎ (marks.has s.found a b ≡ true) → WalkEnd (graph_of g) a b
        by a b (inl e) = rw (e.0, e.1) (end_at (graph_of g) v at.via u w at.turns l new at.arrived)
        by a b (inr e) = h.sound.ends a b e

    pub closing_on : Onward g s (record s { found = put_in s.found u v })
    closing_on = rw (put_is s.found u v at.job) closed_on

    pub closing_hit : Hit (graph_of g) marks s.reached (put_in s.found u v) v u w
    closing_hit = rw (put_is s.found u v at.job) (record { closes = λ e. put_same marks s.found v u h.found_sets at.job at.database; enters = λ ne. absurd (ne new) })

  module _ (old : ¬ (w ≡ g.new)) (l : Link (graph_of g) u v w) (absent : marks.has s.reached w u ≡ false) where
    -- w is marked
    abbrev pub next : Walker
    next = record s { reached = put_in s.reached u w }

    is : put_in s.reached u w ≡ marks.put s.reached w u
    is = put_is s.reached u w l.job

    one_reached : count marks (put_in s.reached u w) ≡ count marks s.reached + 1
    one_reached = ap (count marks) is ∙ count_put marks s.reached w u h.reached_sets l.job at.database absent

    only : (a b : ℕ) → marks.has (put_in s.reached u w) a b ≡ true → ((a ≡ w) × (b ≡ u)) ⊎ (marks.has s.reached a b ≡ true)
    only a b e = put_only marks s.reached w u h.reached_sets l.job at.database a b (rw is at e)

    more : (a b : ℕ) → marks.has s.reached a b ≡ true → marks.has (put_in s.reached u w) a b ≡ true
    more a b e = rw is (put_more marks s.reached w u h.reached_sets l.job at.database a b e)

    pub walk_on : Reach (graph_of g) w u
    walk_on = go_on (graph_of g) v at.via u w at.turns l old at.arrived

    pub next_ready : Ready g next
    next_ready = record {
      same = h.same;
      new_job = h.new_job;
      ahead_sets = h.ahead_sets;
      ahead_named = h.ahead_named;
      reached_sets = length-set s.reached u _ ∙ h.reached_sets;
      found_sets = h.found_sets;
      sound = record { walks = λ a b e. by a b (only a b e); ends = h.sound.ends };
    }
      where
        by : (a b : ℕ) → ((a ≡ w) × (b ≡ u)) ⊎ (marks.has s.reached a b ≡ true) → Reach (graph_of g) a b
        by a b (inl e) = rw (e.0, e.1) walk_on
        by a b (inr e) = h.sound.walks a b e

    pub next_falls : unmarked (put_in s.reached u w) < unmarked s.reached
    next_falls = omega (arith, one_reached, count_le marks (put_in s.reached u w))

    -- the search goes on from there, comes to r, and returns

    module _ {r : Walker} (on : Onward g next r) (done : Taken r.ahead w u) where
      pub forward_on : Onward g s r
      forward_on = record {
        ready = on.ready;
        ahead = on.ahead;
        reached = λ a b e. on.reached a b (more a b e);
        found = on.found;
        through = on.through;
        taken = λ a b e. stood a b (on.taken a b e);
      }
        where
          this : (a b : ℕ) → ((a ≡ w) × (b ≡ u)) ⊎ (marks.has s.reached a b ≡ true) → (marks.has s.reached a b ≡ true) ⊎ Taken r.ahead a b
          this a b (inl e) = inr (rw (e.0, e.1) done)
          this a b (inr e) = inl e

          stood : (a b : ℕ) → (marks.has (put_in s.reached u w) a b ≡ true) ⊎ Taken r.ahead a b → (marks.has s.reached a b ≡ true) ⊎ Taken r.ahead a b
          stood a b (inl e) = this a b (only a b e)
          stood a b (inr t) = inr t

      pub forward_hit : Hit (graph_of g) marks r.reached r.found v u w
      forward_hit = record {
        closes = λ e. absurd (old e);
        enters = λ ne. on.reached w u (rw is (put_same marks s.reached w u h.reached_sets l.job at.database));
      }
