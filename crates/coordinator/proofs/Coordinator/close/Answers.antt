use Rattle.std.proofs.Common.{◌∙◌}
use Rattle.coordinator.proofs.Tested.{close_is}
use Rattle.coordinator.proofs.Coordinator.close.Goals as goal

pub returns : goal.returns
returns c = c.close_tested-answer.ensures ∙ close_is c.args.self _ c.is_sound-sound.ensures _
