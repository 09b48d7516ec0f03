-- What a small change of a sound state leaves: s, which is sound again and shows v. Assumes nothing: these are definitions.
use Rattle.coordinator.specs.declared.Coordinator.{Coordinator}
use Rattle.coordinator.specs.Shape.{Shape}
use Rattle.coordinator.specs.Sound.{Sound}
use Rattle.effects.specs.View.{View, view, Alike}

pub record Changed (s : Coordinator) (v : View) : Type 0 where
  pub shape : Shape s
  pub sound : Sound s
  pub shows : Alike (view s) v
