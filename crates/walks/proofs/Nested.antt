-- The nested search is an engine of the opening search.
-- Assumes nothing.
use Prim.Native.Nat.{ℕ, ◌*◌, ◌<◌}
use native.Mathlib.Omega.{arith}
use mathlib.Core.Bool.{true}
use mathlib.Core.Logic.{◌⊎◌, inl, inr}
use mathlib.Core.Path.{◌≡◌, refl}
use Rattle.walks.specs.Marks.{Marks}
use Rattle.walks.specs.Walk.{Graph}
use Rattle.walks.specs.Search.{fresh, opening_search}
use Rattle.walks.specs.Engine.{Made, Engine}
use Rattle.loops.proofs.Tests.{both}
use Rattle.walks.proofs.Marking.{count_none}
use Rattle.walks.proofs.Walk.{Come}
use Rattle.walks.proofs.Next.{Done, Sound, Good, Next}
use Rattle.walks.proofs.Visit.{visit_next}

module _ (G : Graph) (K : Marks G.jobs G.databases) where
  sound_fresh : Sound G K (fresh K).reached (fresh K).found
  unfolding fresh
  sound_fresh = record { walks = λ w u e. both e (K.has_none w u); ends = λ v u e. both e (K.has_none v u) }

  done_made : (R F : K.M) (v t : ℕ) → Done G K R F v t → Made G (K.has R) (K.has F) v t
  done_made R F v t d = record { enters = λ u w turn l ne. (d u w turn l).enters ne; closes = λ u turn l. (d u G.new turn l).closes refl }

  module _ (new : G.new < G.jobs) (f : ℕ) (enough : G.jobs * G.databases < f) where
    abbrev R : K.M
    R = (opening_search G K f).reached

    abbrev F : K.M
    F = (opening_search G K f).found

    search_next : Next G K (Come G G.new G.databases) (fresh K) (opening_search G K f) × Done G K R F G.new G.databases
    unfolding fresh opening_search
    search_next = visit_next G K f G.new G.databases new (fresh K) ((K.good_none, K.good_none), omega arith)

    sound_end : Sound G K R F
    sound_end = search_next.0.sound (inl refl) sound_fresh

    reached_done : (w u : ℕ) → K.has R w u ≡ true → Done G K R F w u
    unfolding fresh
    reached_done w u e = by (search_next.0.closed w u e)
      where
        by : (K.has (fresh K).reached w u ≡ true) ⊎ Done G K R F w u → Done G K R F w u
        by (inl p) = both p (K.has_none w u)
        by (inr d) = d

    pub search_good : Good G K (opening_search G K f)
    unfolding fresh
    search_good = search_next.0.good (K.good_none, K.good_none)

    pub search_engine : Engine G (K.has (opening_search G K f).reached) (K.has (opening_search G K f).found) (opening_search G K f).moves
    unfolding fresh
    search_engine = record {
      walks = sound_end.walks;
      ends = sound_end.ends;
      begun = done_made R F G.new G.databases search_next.1;
      closed = λ w u e. done_made R F w u (reached_done w u e);
      tally = omega (arith, search_next.0.tally, count_none K);
    }
