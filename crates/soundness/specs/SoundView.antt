-- Soundness, told of what can be seen: the clauses of the coordinator's `Sound`, of a view in place of a state.
-- Its parts are told of the views that they speak of, so that a change of the others leaves them as they are. Assumes nothing: these are definitions.
use Rattle.std.specs.Prelude.{ℕ, ◌<◌, ◌≤◌, Bool, true, false, ◌≡◌}
use Rattle.coordinator.specs.Limits.{jobs, databases}
use Rattle.effects.specs.View.{View}

-- the opening order lists each open slot once and nothing else, its unused end zeros
pub record Listing (is_open : ℕ → Bool) (count : ℕ) (opened : ℕ → ℕ) : Type 0 where
  pub only : (i : ℕ) → i < count → is_open (opened i) ≡ true
  pub once : (i k : ℕ) → i < count → k < count → opened i ≡ opened k → i ≡ k
  pub each : (j : ℕ) → is_open j ≡ true → (i : ℕ) × (i < count) × (opened i ≡ j)
  pub end : (i : ℕ) → count ≤ i → opened i ≡ 0

-- a and b are two different open jobs that both name database k
pub record Joined (is_open : ℕ → Bool) (names : ℕ → ℕ → Bool) (k a b : ℕ) : Type 0 where
  pub differ : ¬ (a ≡ b)
  pub from_open : is_open a ≡ true
  pub to_open : is_open b ≡ true
  pub from_names : names a k ≡ true
  pub to_names : names b k ≡ true

-- a free slot holds only zeros
pub record Empty (ticket : ℕ → ℕ) (held : ℕ → Bool) (asked released confirmed : ℕ → ℕ → Bool) (j : ℕ) : Type 0 where
  pub no_ticket : ticket j ≡ 0
  pub not_held : held j ≡ false
  pub not_asked : (k : ℕ) → asked j k ≡ false
  pub not_released : (k : ℕ) → released j k ≡ false
  pub not_confirmed : (k : ℕ) → confirmed j k ≡ false

pub record SoundView (v : View) : Type 0 where
  pub tickets_differ : (a b : ℕ) → v.is_open a ≡ true → v.is_open b ≡ true → v.ticket a ≡ v.ticket b → a ≡ b
  pub masks_nonzero : (j : ℕ) → v.is_open j ≡ true → (k : ℕ) × (k < databases) × (v.in_mask j k ≡ true)
  pub confirmed_released : (j k : ℕ) → v.confirmed j k ≡ true → v.released j k ≡ true
  pub released_asked : (j k : ℕ) → v.released j k ≡ true → v.asked j k ≡ true
  pub asked_named : (j k : ℕ) → v.asked j k ≡ true → v.names j k ≡ true
  pub ordered : Listing v.is_open v.count v.opened
  pub joins : (k a b : ℕ) → b < jobs → v.dep k a b ≡ true → Joined v.is_open v.names k a b
  pub under_way : (k a b : ℕ) → v.released a k ≡ true → v.confirmed a k ≡ false → ¬ (b ≡ a) → v.is_open b ≡ true → v.names b k ≡ true
      → v.released b k ≡ false → v.dep k a b ≡ true
  pub held_confirmed : (j k : ℕ) → v.held j ≡ true → v.names j k ≡ true → v.confirmed j k ≡ true
  pub free_zeros : (j : ℕ) → v.is_open j ≡ false → Empty v.ticket v.held v.asked v.released v.confirmed j

-- whoever names a database is open: the tables have it by themselves
abbrev pub NamesOpen : View → Type 0
NamesOpen v = (j k : ℕ) → v.names j k ≡ true → v.is_open j ≡ true
