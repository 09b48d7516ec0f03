use Rattle.std.proofs.Common.{◌∙◌}
use Rattle.coordinator.proofs.Tested.{open_is}
use Rattle.coordinator.proofs.Coordinator.open.Goals as goal

pub returns : goal.returns
returns c = c.open_tested-answer.ensures ∙ open_is c.args.self _ c.is_sound-sound.ensures _
