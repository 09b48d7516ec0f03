-- The rule for tickets, told of a state. Assumes nothing: these are definitions.
use Rattle.std.specs.Prelude.{ℕ, ◌<◌, true, ◌≡◌}
use Rattle.numbers.specs.First.{upward}
use Rattle.coordinator.specs.declared.Coordinator.{Coordinator}
use Rattle.coordinator.specs.Views.{is_open, ticket}

-- some open job holds ticket t
abbrev pub Holds : Coordinator → ℕ → Type 0
Holds s t = (j : ℕ) × (is_open s j ≡ true) × (ticket s j ≡ t)

-- t is the first number, from the candidate upwards, that no open job holds
pub record GivenOut (s : Coordinator) (t : ℕ) : Type 0 where
  pub steps : ℕ
  pub is : t ≡ upward s.maker.next steps
  pub free : ¬ Holds s t
  pub passed : (i : ℕ) → i < steps → Holds s (upward s.maker.next i)
