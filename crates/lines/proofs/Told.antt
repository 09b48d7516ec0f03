-- The numbers said of a record's answer, beside the state left, are what the record answers. Assumes nothing.
use Rattle.std.specs.Prelude.{Option, Some, None}
use mathlib.Core.Path.{◌≡◌, refl, ap, ◌∙◌}
use Rattle.coordinator.specs.declared.Coordinator.{Coordinator}
use Rattle.coordinator.specs.Call.{Call, open_job, ask_step, confirm_step, close_job}
use Rattle.record.specs.declared.answer.Answer.{Answer}
use Rattle.record.specs.Answer.{numbers_of, answer}
use Rattle.record.specs.Tested.{Plays}
use Rattle.lines.specs.declared.said.Said.{Said}
use Rattle.lines.specs.Said.{said_of}
use Rattle.lines.specs.Answered.{beside, told, answered}

told_is : (s : Coordinator) (c : Option Call) → beside (answer s c).state (said_of c (numbers_of (answer s c).values)) ≡ answered s c
unfolding answered told answer
told_is s None = refl
told_is s (Some (open_job mask)) = refl
told_is s (Some (ask_step t k)) = refl
told_is s (Some (confirm_step t k)) = refl
told_is s (Some (close_job t)) = refl

pub said_is : (s : Coordinator) (c : Option Call) (r : Answer) (t : Coordinator) (q : Said) → Plays (answer s c) r t → q ≡ said_of c r.numbers → beside t q ≡ answered s c
said_is s c r t q p e =
    ap (beside t) (e ∙ ap (said_of c) p.numbers)
    ∙ ap (λ (x : Coordinator). beside x (said_of c (numbers_of (answer s c).values))) p.state
    ∙ told_is s c
