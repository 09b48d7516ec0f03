-- An opening's search, in the words of walks and of the sets that it leaves: ready to be cited where a call opens a job.
-- Assumes nothing.
use Prim.Native.Nat.{ℕ, ◌+◌, ◌*◌, ◌^◌, ◌<◌, ◌≤◌}
use native.Mathlib.Omega.{arith}
use mathlib.Core.Bool.{true}
use mathlib.Core.List.{List}
use mathlib.Core.Logic.{◌↔◌}
use mathlib.Core.Path.{◌≡◌, sym, ◌∙◌}
use lib.ListN.{length, get_or}
use Rattle.loops.specs.Sum.{sum, tally}
use Rattle.loops.proofs.Sums.{sum_same, sum_turn}
use Rattle.mask.specs.Member.{holds, size}
use Rattle.mask.proofs.Equal.{below_iff}
use Rattle.mask.proofs.Size.{size_sum}
use Rattle.walks.specs.Marks.{count}
use Rattle.walks.specs.Walk.{Graph, Reach, WalkEnd, others, named}
use Rattle.walks.specs.Rows.{rows}
use Rattle.walks.specs.Machine.{machine}
use Rattle.walks.specs.Search.{Seek}
use Rattle.walks.specs.Engine.{Engine}
use Rattle.walks.specs.Opening.{opening, FoundAt}
use Rattle.walks.specs.Promise.{Right, left}
use Rattle.walks.proofs.Walk.{reach_job}
use Rattle.walks.proofs.Engine.{engine_right}
use Rattle.walks.proofs.Nested.{search_good, search_engine}
use Rattle.walks.proofs.Same.{engine_rows, machine_rows}

-- how many pairs rows have: the members of every row
pub rows_count : (J D : ℕ) (m : List ℕ) → count (rows J D) m ≡ sum D (λ u. size J (get_or m u 0))
rows_count J D m = sum_turn J D (λ w u. tally (holds (get_or m u 0) w)) ∙ sum_same D _ _ (λ u l. sym (size_sum J (get_or m u 0)))

-- E, counted database by database
pub named_by_database : (G : Graph) → named G ≡ sum G.databases (λ u. sum G.jobs (λ j. tally (others G j u)))
named_by_database G = sum_turn G.jobs G.databases (λ j u. tally (others G j u))

-- where a walk ends
end_at : {G : Graph} {v u : ℕ} → WalkEnd G v u → FoundAt G v u
end_at h = record {
  job = reach_job h.walk;
  database = h.closes.database;
  other = λ e. h.closes.differ (sym e);
  names = h.closes.leaves;
  new_names = h.closes.enters;
  free = h.closes.free;
}

module _ (G : Graph) (new : G.new < G.jobs) where
  enough : G.jobs * G.databases < G.jobs * G.databases + 1
  enough = omega arith

  opening_right : Right G (λ w u. holds (get_or (opening G).reached u 0) w) (λ v u. holds (get_or (opening G).found u 0) v) (opening G).moves
  opening_right = engine_right G _ _ _ (search_engine G (rows G.jobs G.databases) new (G.jobs * G.databases + 1) enough) new

  -- it is what the machine of document 01 leaves after k moves, where k is enough
  pub opening_machine : (k : ℕ) → 3 * named G ≤ k → left (rows G.jobs G.databases) (machine G (rows G.jobs G.databases) k) ≡ opening G
  opening_machine k most = machine_rows G new k (G.jobs * G.databases + 1) most enough

  -- and what any engine leaves: the form that a proof of the code wants
  pub opening_engine : (s : Seek (rows G.jobs G.databases)) → length s.reached ≡ G.databases → length s.found ≡ G.databases
      → Engine G (λ w u. holds (get_or s.reached u 0) w) (λ v u. holds (get_or s.found u 0) v) s.moves → s ≡ opening G
  opening_engine s r f E = engine_rows G new (G.jobs * G.databases + 1) enough s (r, f) E

  pub reached_iff : (w u : ℕ) → (holds (get_or (opening G).reached u 0) w ≡ true) ↔ Reach G w u
  reached_iff = opening_right.reached

  pub found_iff : (v u : ℕ) → (holds (get_or (opening G).found u 0) v ≡ true) ↔ WalkEnd G v u
  found_iff = opening_right.found

  pub moves_are : (opening G).moves ≡ 2 * count (rows G.jobs G.databases) (opening G).reached + count (rows G.jobs G.databases) (opening G).found
  moves_are = opening_right.moves

  pub moves_most : (opening G).moves ≤ 3 * named G
  moves_most = opening_right.most

  pub moves_limit : G.jobs ≡ 32 → G.databases ≡ 16 → (opening G).moves ≤ 1488
  moves_limit = opening_right.limit

  -- the sets: one for each database, of slots
  pub reached_length : length (opening G).reached ≡ G.databases
  reached_length = (search_good G (rows G.jobs G.databases) new (G.jobs * G.databases + 1) enough).0

  pub found_length : length (opening G).found ≡ G.databases
  found_length = (search_good G (rows G.jobs G.databases) new (G.jobs * G.databases + 1) enough).1

  pub reached_below : (u : ℕ) → get_or (opening G).reached u 0 < 2 ^ G.jobs
  reached_below u = (below_iff G.jobs (get_or (opening G).reached u 0)).1 (λ w e. reach_job ((reached_iff w u).0 e))

  pub found_at_lem : (v u : ℕ) → holds (get_or (opening G).found u 0) v ≡ true → FoundAt G v u
  found_at_lem v u e = end_at ((found_iff v u).0 e)

  pub found_below : (u : ℕ) → get_or (opening G).found u 0 < 2 ^ G.jobs
  found_below u = (below_iff G.jobs (get_or (opening G).found u 0)).1 (λ v e. (found_at_lem v u e).job)

  -- how many are added: the members of every set
  pub added_is : count (rows G.jobs G.databases) (opening G).found ≡ sum G.databases (λ u. size G.jobs (get_or (opening G).found u 0))
  added_is = rows_count G.jobs G.databases (opening G).found
