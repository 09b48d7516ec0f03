-- What each part of the test for soundness decides, in views. Assumes nothing: these are definitions.
use Rattle.std.specs.Prelude.{ℕ, true, false, ◌≡◌}
use Rattle.coordinator.specs.declared.Coordinator.{Coordinator}
use Rattle.coordinator.specs.Views.{names, asked, released, confirmed, is_open, ticket, held, dep}

-- the tickets of open jobs differ, and a free slot has none
pub record Tickets (s : Coordinator) : Type 0 where
  pub differ : (a b : ℕ) → is_open s a ≡ true → is_open s b ≡ true → ticket s a ≡ ticket s b → a ≡ b
  pub none : (j : ℕ) → is_open s j ≡ false → ticket s j ≡ 0

-- the steps at database k: each mark within the one before it, a held close confirmed
pub record Marks (s : Coordinator) (k : ℕ) : Type 0 where
  pub asked_named : (j : ℕ) → asked s j k ≡ true → names s j k ≡ true
  pub released_asked : (j : ℕ) → released s j k ≡ true → asked s j k ≡ true
  pub confirmed_released : (j : ℕ) → confirmed s j k ≡ true → released s j k ≡ true
  pub held_confirmed : (j : ℕ) → held s j ≡ true → names s j k ≡ true → confirmed s j k ≡ true

-- the dependencies into slot b at database k: from others that name it, b naming it too; and from each step under way, where that of b waits
pub record Row (s : Coordinator) (k b : ℕ) : Type 0 where
  pub may : (a : ℕ) → dep s k a b ≡ true → (names s b k ≡ true) × ¬ (a ≡ b) × (names s a k ≡ true)
  pub has_to : (a : ℕ) → names s b k ≡ true → released s b k ≡ false → released s a k ≡ true → confirmed s a k ≡ false → dep s k a b ≡ true
