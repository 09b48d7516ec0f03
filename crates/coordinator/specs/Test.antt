-- The test for soundness: that of the tables of the state. Assumes nothing: these are definitions.
use Rattle.std.specs.Prelude.{Bool}
use Rattle.tables.specs.Test.{sound_in}
use Rattle.coordinator.specs.declared.Coordinator.{Coordinator}

unfoldable pub sound : Coordinator → Bool
sound s = sound_in s.tickets s.held s.order s.named s.asked s.released s.confirmed s.dependencies
