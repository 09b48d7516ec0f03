-- What holds after every history: some dependencies between jobs and some seating keep all that the rings ask, and tie it to the tables.
-- Assumes nothing: these are definitions.
use Rattle.std.specs.Prelude.{ℕ}
use Rattle.rings.specs.Kept.{Kept}
use Rattle.coordinator.specs.Shape.{Shape}
use Rattle.coordinator.specs.Sound.{Sound}
use Rattle.effects.specs.View.{view}
use Rattle.promises.specs.Moment.{Moment}
use Rattle.promises.specs.Tied.{history, Tied}

pub record Invariant (m : Moment) : Type 1 where
  pub dep : ℕ → ℕ → ℕ → Type 0
  pub job : ℕ → ℕ
  pub kept : Kept (history m.told dep)
  pub tied : Tied m.told dep job (view m.state)
  pub shape : Shape m.state
  pub sound : Sound m.state
