-- Histories: any list of calls, bad ones included, from any fresh start, each given the state that the last one left.
-- Assumes nothing: these are definitions.
use Rattle.std.specs.Prelude.{ℕ, ◌^◌, ◌<◌, List, [], ◌∷◌}
use Rattle.coordinator.specs.declared.Coordinator.{Coordinator}
use Rattle.coordinator.specs.Fresh.{fresh}
use Rattle.coordinator.specs.Call.{Call, open_job, ask_step, confirm_step, close_job, Played, play}
use Rattle.promises.specs.Told.{Told, nothing, tell}

-- the numbers of a call have the code's types: masks and tickets 16 bits, databases 8
abbrev pub Fits : Call → Type 0
Fits (open_job mask) = mask < 2 ^ 16
Fits (ask_step t k) = (t < 2 ^ 16) × (k < 2 ^ 8)
Fits (confirm_step t k) = (t < 2 ^ 16) × (k < 2 ^ 8)
Fits (close_job t) = t < 2 ^ 16

abbrev pub AllFit : List Call → Type 0
AllFit [] = Unit {0}
AllFit (c ∷ calls) = Fits c × AllFit calls

-- what has been told so far, and the state
pub record Moment : Type 1 where
  pub told : Told
  pub state : Coordinator

abbrev pub begin : ℕ → Moment
begin n = record { told = nothing; state = fresh n }

unfoldable pub next : Moment → Call → Moment
next m c = let r : Played = play m.state c in record { told = tell m.told c r.values; state = r.state }

unfoldable pub after : Moment → List Call → Moment
after m [] = m
after m (c ∷ calls) = after (next m c) calls
