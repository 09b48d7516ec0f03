-- The number of each refusal. Assumes nothing: these are definitions.
use Rattle.std.specs.Prelude.{ℕ}
use Rattle.refusals.specs.declared.refusal.Refusal.{Refusal}
use Rattle.refusals.specs.declared.refusal.Refusal.TheVariants.{NamesNone, Full, NoJob, NoDatabase, NotNamed, AskedBefore, Settled, Unfinished, CloseHeld, Unsound}

abbrev pub number : Refusal → ℕ
number NamesNone = 1
number Full = 2
number NoJob = 3
number NoDatabase = 4
number NotNamed = 5
number AskedBefore = 6
number Settled = 7
number Unfinished = 8
number CloseHeld = 9
number Unsound = 10
