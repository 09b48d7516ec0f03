-- When a state is sound: document 01's clauses, in its order. Assumes nothing: these are definitions.
use Rattle.std.specs.Prelude.{ℕ, ◌<◌, ◌≤◌, true, false, ◌≡◌}
use Rattle.coordinator.specs.declared.Coordinator.{Coordinator}
use Rattle.coordinator.specs.Limits.{jobs, databases}
use Rattle.coordinator.specs.Views.{in_mask, names, asked, released, confirmed, is_open, open_count, ticket, held, opened, dep}

-- the opening order lists each open slot once and nothing else, its unused end zeros
pub record Ordered (s : Coordinator) : Type 0 where
  pub only : (i : ℕ) → i < open_count s → is_open s (opened s i) ≡ true
  pub once : (i k : ℕ) → i < open_count s → k < open_count s → opened s i ≡ opened s k → i ≡ k
  pub each : (j : ℕ) → is_open s j ≡ true → (i : ℕ) × (i < open_count s) × (opened s i ≡ j)
  pub end : (i : ℕ) → open_count s ≤ i → opened s i ≡ 0

-- dependencies join two different open jobs that both name that database
pub record Joins (s : Coordinator) (k a b : ℕ) : Type 0 where
  pub differ : ¬ (a ≡ b)
  pub from_open : is_open s a ≡ true
  pub to_open : is_open s b ≡ true
  pub from_names : names s a k ≡ true
  pub to_names : names s b k ≡ true

-- a free slot holds only zeros
pub record Zeros (s : Coordinator) (j : ℕ) : Type 0 where
  pub no_ticket : ticket s j ≡ 0
  pub not_held : held s j ≡ false
  pub not_asked : (k : ℕ) → asked s j k ≡ false
  pub not_released : (k : ℕ) → released s j k ≡ false
  pub not_confirmed : (k : ℕ) → confirmed s j k ≡ false

pub record Sound (s : Coordinator) : Type 0 where
  pub tickets_differ : (a b : ℕ) → is_open s a ≡ true → is_open s b ≡ true → ticket s a ≡ ticket s b → a ≡ b
  pub masks_nonzero : (j : ℕ) → is_open s j ≡ true → (k : ℕ) × (k < databases) × (in_mask s j k ≡ true)
  pub confirmed_released : (j k : ℕ) → confirmed s j k ≡ true → released s j k ≡ true
  pub released_asked : (j k : ℕ) → released s j k ≡ true → asked s j k ≡ true
  pub asked_named : (j k : ℕ) → asked s j k ≡ true → names s j k ≡ true
  pub ordered : Ordered s
  -- (beyond the last slot the rows of one database run into those of the next)
  pub joins : (k a b : ℕ) → b < jobs → dep s k a b ≡ true → Joins s k a b
  -- a released and unconfirmed step has a dependency to each other open job that names its database and whose step there isn't released
  pub under_way : (k a b : ℕ) → released s a k ≡ true → confirmed s a k ≡ false → ¬ (b ≡ a) → is_open s b ≡ true → names s b k ≡ true → released s b k ≡ false
      → dep s k a b ≡ true
  pub held_confirmed : (j k : ℕ) → held s j ≡ true → names s j k ≡ true → confirmed s j k ≡ true
  pub free_zeros : (j : ℕ) → is_open s j ≡ false → Zeros s j
