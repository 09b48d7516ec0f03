-- Where sets with the same pairs are equal, any engine leaves just what the nested search leaves: so does the machine. Rows are such sets.
-- Assumes nothing.
use Prim.Native.Nat.{ℕ, ◌*◌, ◌<◌, ◌≤◌}
use mathlib.Core.Path.{◌≡◌, sym, ◌∙◌}
use lib.ListN.{get_or}
use lib.Seq.{ext_get_or}
use Rattle.mask.proofs.Equal.{equal_members}
use Rattle.walks.specs.Marks.{Marks}
use Rattle.walks.specs.Walk.{Graph, named}
use Rattle.walks.specs.Rows.{rows}
use Rattle.walks.specs.Machine.{machine}
use Rattle.walks.specs.Search.{Seek, opening_search}
use Rattle.walks.specs.Engine.{Engine}
use Rattle.walks.specs.Promise.{left}
use Rattle.walks.proofs.Next.{Good}
use Rattle.walks.proofs.Engine.{engine}
use Rattle.walks.proofs.Nested.{search_good, search_engine}
use Rattle.walks.proofs.Machine.{machine_engine, machine_good}

-- sets with the same pairs are equal
abbrev pub Extensional : {J D : ℕ} → Marks J D → Type 0
Extensional K = (m n : K.M) → K.Good m → K.Good n → ((w u : ℕ) → K.has m w u ≡ K.has n w u) → m ≡ n

rows_extensional : (J D : ℕ) → Extensional (rows J D)
rows_extensional J D m n g h e = ext_get_or 0 m n (g ∙ sym h) (λ u l. equal_members (get_or m u 0) (get_or n u 0) (λ w. e w u))

same_seek : {J D : ℕ} (K : Marks J D) (s r : Seek K) → s.reached ≡ r.reached → s.found ≡ r.found → s.moves ≡ r.moves → s ≡ r
same_seek K s r a b c = λ i. record { reached = a i; found = b i; moves = c i }

-- any engine leaves just what the nested search leaves
pub engine_is : (G : Graph) → G.new < G.jobs → (f : ℕ) → G.jobs * G.databases < f → (K : Marks G.jobs G.databases) → Extensional K
    → (s : Seek K) → Good G K s → Engine G (K.has s.reached) (K.has s.found) s.moves → s ≡ opening_search G K f
engine_is G new f fuel K ext s g E =
    let a = engine G _ _ _ _ _ _ E (search_engine G K new f fuel) in
    let q = search_good G K new f fuel in
    same_seek K _ _ (ext _ _ g.0 q.0 a.reached) (ext _ _ g.1 q.1 a.found) a.moves

pub engine_rows : (G : Graph) → G.new < G.jobs → (f : ℕ) → G.jobs * G.databases < f → (s : Seek (rows G.jobs G.databases)) → Good G (rows G.jobs G.databases) s
    → Engine G ((rows G.jobs G.databases).has s.reached) ((rows G.jobs G.databases).has s.found) s.moves → s ≡ opening_search G (rows G.jobs G.databases) f
engine_rows G new f fuel = engine_is G new f fuel (rows G.jobs G.databases) (rows_extensional G.jobs G.databases)

module _ (G : Graph) (new : G.new < G.jobs) (k f : ℕ) (enough : 3 * named G ≤ k) (fuel : G.jobs * G.databases < f) where
  pub machine_is : (K : Marks G.jobs G.databases) → Extensional K → left K (machine G K k) ≡ opening_search G K f
  machine_is K ext = engine_is G new f fuel K ext _ (machine_good G K new k enough) (machine_engine G K new k enough)

  pub machine_rows : left (rows G.jobs G.databases) (machine G (rows G.jobs G.databases) k) ≡ opening_search G (rows G.jobs G.databases) f
  machine_rows = machine_is (rows G.jobs G.databases) (rows_extensional G.jobs G.databases)
