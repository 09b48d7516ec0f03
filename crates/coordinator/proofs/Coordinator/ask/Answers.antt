use Rattle.std.proofs.Common.{◌∙◌}
use Rattle.coordinator.proofs.Tested.{ask_is}
use Rattle.coordinator.proofs.Coordinator.ask.Goals as goal

pub returns : goal.returns
returns c = c.ask_tested-answer.ensures ∙ ask_is c.args.self _ c.is_sound-sound.ensures _ _
