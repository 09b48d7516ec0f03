-- What is answered, with and without a search. Assumes nothing.
use Prim.Native.Nat.{ℕ, ◌+◌, ◌*◌, ◌≤◌, ◌<◌}
use native.Mathlib.Omega.{arith}
use mathlib.Core.Bool.{true, false}
use mathlib.Core.List.{List}
use mathlib.Core.Logic.{◌⊎◌, inl, inr}
use mathlib.Core.Path.{◌≡◌, refl, ap}
use borrow.Author.Tests.{lt-ltb, le-ltb}
use lib.ListN.{get_or, replicate}
use Rattle.std.specs.Borrow.{Bor}
use Rattle.std.specs.Prelude.{None}
use Rattle.loops.proofs.Tests.{both}
use Rattle.mask.specs.Member.{holds}
use Rattle.walks.specs.Walk.{Link}
use Rattle.walks.specs.Engine.{Made, Engine}
use Rattle.walks.specs.Marks.{count}
use Rattle.walks.specs.Rows.{row_none}
use Rattle.walks.specs.Search.{Seek}
use Rattle.walks.proofs.Walk.{reach_job}
use Rattle.walks.proofs.Next.{Hit}
use Rattle.walks.proofs.Marking.{count_none}
use Rattle.walks.proofs.Opening.{opening_engine}
use Rattle.numbers.specs.declared.Slot.{Slot}
use Rattle.search.specs.declared.Sought.{Sought}
use Rattle.search.specs.Limits.{jobs, databases}
use Rattle.search.specs.Search.{searched, sought}
use Rattle.search.specs.declared.Walker.{Walker}
use Rattle.search.specs.Visit.{marks, Given, given, graph_of, sets, all_ahead, Ready, Through, Taken, due, BeforeJob, JobVisited}
use Rattle.search.proofs.Ahead.{all_grows, all_only}

answer : Seek marks → Sought
answer z = record { found = z.found; moves = z.moves }

-- before the first visit
abbrev pub begin : Bor (List ℕ) → Bor (List ℕ) → Slot → Walker
begin named dependencies n = record {
  named = named;
  dependencies = dependencies;
  job = n;
  ahead = all_ahead named.now (replicate jobs 0);
  reached = replicate databases 0;
  found = replicate databases 0;
}

module _ (named dependencies : Bor (List ℕ)) (n : Slot) where
  abbrev s : Walker
  s = begin named dependencies n

  abbrev g : Given
  g = given s

  pub begin_ready : n.0 < jobs → Ready g s
  begin_ready new = record {
    same = refl;
    new_job = new;
    ahead_sets = (all_grows g.named (replicate jobs 0) sets.good_none).0.good sets.good_none;
    ahead_named = λ v u l e. by v u (all_only g.named (replicate jobs 0) sets.good_none u v e);
    reached_sets = marks.good_none;
    found_sets = marks.good_none;
    sound = record { walks = λ w u e. both e (row_none databases w u); ends = λ v u e. both e (row_none databases v u) };
  }
    where
      by : (v u : ℕ) → ((u < databases) × (holds (get_or g.named u 0) v ≡ true)) ⊎ (sets.has (replicate jobs 0) u v ≡ true) → (u < databases) × (holds (get_or g.named u 0) v ≡ true)
      by v u (inl k) = k
      by v u (inr k) = both k (row_none jobs u v)

  pub begin_asked : n.0 < jobs → BeforeJob s n.0 None
  begin_asked new = record { ready = begin_ready new; arrived = inl refl }

  -- where the whole of it is done, nothing is left to choose
  module _ {r : Walker} (h : JobVisited s n.0 None r) where
    through : (v u w : ℕ) → v < jobs → Link (graph_of g) u v w → sets.has r.ahead u v ≡ false → Hit (graph_of g) marks r.reached r.found v u w
    through v u w lv l e = by (h.onward.through v u e)
      where
        by : (sets.has s.ahead u v ≡ false) ⊎ Through g r.reached r.found v u → Hit (graph_of g) marks r.reached r.found v u w
        by (inl k) = both ((all_grows g.named (replicate jobs 0) sets.good_none).1 u l.database v lv l.leaves) k
        by (inr k) = k.hits w l

    made : (v t : ℕ) → v < jobs → Taken r.ahead v t → Made (graph_of g) (marks.has r.reached) (marks.has r.found) v t
    made v t lv k = record {
      enters = λ u w turn l ne. (through v u w lv l (k.each u turn)).enters ne;
      closes = λ u turn l. (through v u g.new lv l (k.each u turn)).closes refl;
    }

    stood : (w t : ℕ) → marks.has r.reached w t ≡ true → Taken r.ahead w t
    stood w t e = by (h.onward.taken w t e)
      where
        by : (marks.has s.reached w t ≡ true) ⊎ Taken r.ahead w t → Taken r.ahead w t
        by (inl k) = both k (row_none databases w t)
        by (inr k) = k

    visited_engine : Engine (graph_of g) (marks.has r.reached) (marks.has r.found) (due r)
    visited_engine = record {
      walks = h.onward.ready.sound.walks;
      ends = h.onward.ready.sound.ends;
      begun = made g.new databases h.onward.ready.new_job h.taken;
      closed = λ w t e. made w t (reach_job (h.onward.ready.sound.walks w t e)) (stood w t e);
      tally = refl;
    }

    pub search_some : record { found = r.found; moves = due r } ≡ sought g.named g.dependencies g.new
    unfolding sought searched answer
    search_some =
        rw (sought, lt-ltb g.new jobs h.onward.ready.new_job)
        (ap answer
        (opening_engine (graph_of g) h.onward.ready.new_job (record { reached = r.reached; found = r.found; moves = due r }) h.onward.ready.reached_sets h.onward.ready.found_sets visited_engine))

pub search_none : (named dependencies : List ℕ) (n : ℕ) → jobs ≤ n
    → record { found = replicate databases 0; moves = 2 * count marks (replicate databases 0) + count marks (replicate databases 0) } ≡ sought named dependencies n
unfolding sought
search_none named dependencies n h =
    rw (sought, le-ltb n jobs h) (ap (λ (m : ℕ). record { found = replicate databases 0; moves = m }) (omega (arith, count_none marks)))
