use Rattle.std.proofs.Common.{◌∙◌}
use Rattle.coordinator.proofs.Tested.{confirm_is}
use Rattle.coordinator.proofs.Coordinator.confirm.Goals as goal

pub returns : goal.returns
returns c = c.confirm_tested-answer.ensures ∙ confirm_is c.args.self _ c.is_sound-sound.ensures _ _
