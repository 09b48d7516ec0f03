-- What the code gives back for a row that applies, or for none. Assumes nothing: these are definitions.
use Rattle.std.specs.Prelude.{Bool, true, false, Result, Ok, Err, Option, None, Some}
use Rattle.refusals.specs.declared.refusal.Refusal.{Refusal}

abbrev pub outcome : Option Refusal → Result Unit Refusal
outcome None = Ok tt
outcome (Some r) = Err r

-- and where the row after them refuses with a value of its own, and f has one of that type for each refusal
abbrev pub outcome_or : {E : Type 0} → (Refusal → E) → Option Refusal → Bool → E → Result Unit E
outcome_or f (Some r) applies own = Err (f r)
outcome_or f None true own = Err own
outcome_or f None false own = Ok tt
