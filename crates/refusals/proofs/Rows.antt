-- Going down the rows of a table of refusals: what the outcome that the code gives back tells. Assumes nothing.
use mathlib.Core.Path.{◌≡◌, refl, ◌∙◌}
use mathlib.Core.Bool.{Bool, true, false, not}
use mathlib.Core.List.{List, [], ◌∷◌}
use Rattle.std.specs.Prelude.{Option, None, Some, Result, Ok, Err}
use Prim.Native.Nat.{ℕ, ◌<◌}
use borrow.Author.Tests.{ltb-true}
use lib.Dec.{eqb, ltb}
use Rattle.tables.specs.Limits.{databases}
use Rattle.refusals.specs.declared.refusal.Refusal.{Refusal}
use Rattle.refusals.specs.declared.refusal.Refusal.TheVariants.{Unsound, NoJob, NoDatabase, NotNamed}
use Rattle.refusals.specs.Number.{number}
use Rattle.refusals.specs.Refusal.{Row, first_row, step_above, step_refusal}
use Rattle.refusals.specs.Outcome.{outcome, outcome_or}

-- what is given back tells whether a row applies, and which is the first
pub not_refused : (o : Option Refusal) (u : Unit {0}) → ◌≡◌ {A = Result (Unit {0}) Refusal} (Ok u) (outcome o) → o ≡ None
not_refused None u e = refl
not_refused (Some r) u e = absurd cc

pub refused : (o : Option Refusal) (r : Refusal) → ◌≡◌ {A = Result (Unit {0}) Refusal} (Err r) (outcome o) → o ≡ Some r
refused None r e = absurd cc
refused (Some m) r e = cc

-- where the own row of a step refuses with a refusal, it is the last of the rows
own_last : (b : Bool) (f k : ℕ) (names applies : Bool) (own : Refusal) → outcome_or (λ r. r) (step_above b f k names) applies own ≡ outcome (step_refusal b f k names applies own)
unfolding step_above step_refusal first_row
own_last b f k names applies own = by (not b) (eqb f 0) (not (ltb k databases)) (not names) applies
  where
    above : (p q r s : Bool) → List Row → List Row
    above p q r s own = record { applies = p; refusal = Unsound } ∷ record { applies = q; refusal = NoJob } ∷ record { applies = r; refusal = NoDatabase } ∷ record { applies = s; refusal = NotNamed } ∷ own

    by : (p q r s a : Bool) → outcome_or (λ r. r) (first_row (above p q r s [])) a own ≡ outcome (first_row (above p q r s (record { applies = a; refusal = own } ∷ [])))
    by true q r s a = refl
    by false true r s a = refl
    by false false true s a = refl
    by false false false true a = refl
    by false false false false true = refl
    by false false false false false = refl

-- so what `of_step` gives back where it is handed a refusal is told by all the rows
pub as_step : (b : Bool) (f k : ℕ) (names applies : Bool) (own : Refusal) (r : Result (Unit {0}) Refusal)
    → ((g : Refusal → Refusal) → ((a e : Refusal) → e ≡ a → e ≡ g a) → r ≡ outcome_or g (step_above b f k names) applies own) → r ≡ outcome (step_refusal b f k names applies own)
as_step b f k names applies own r h = h (λ a. a) (λ a e q. q) ∙ own_last b f k names applies own

-- and where it is handed a number, whichever, each row above it refuses with its own
pub as_numbered : (b : Bool) (f k : ℕ) (names applies : Bool) (own : ℕ) (r : Result (Unit {0}) ℕ)
    → ((g : Refusal → ℕ) → ((a : Refusal) (e : ℕ) → e ≡ number a → e ≡ g a) → r ≡ outcome_or g (step_above b f k names) applies own) → r ≡ outcome_or number (step_above b f k names) applies own
as_numbered b f k names applies own r h = h number (λ a e q. q)

-- where no row applies the first does not, and none below it
pub passed : (r : Row) (rows : List Row) → first_row (r ∷ rows) ≡ None → (r.applies ≡ false) × (first_row rows ≡ None)
unfolding first_row
passed r rows e = by r.applies refl e
  where
    by : (b : Bool) → r.applies ≡ b → ◌≡◌ {A = Option Refusal} (elim b [ true ↦ Some r.refusal | false ↦ first_row rows ]) None
        → (b ≡ false) × (first_row rows ≡ None)
    by true p e = absurd cc
    by false p e = (refl, e)

-- the rows below the one of the database count only where there is such a database
third : (a b : Bool) (rows others : List Row)
    → first_row (record { applies = a; refusal = Unsound } ∷ record { applies = b; refusal = NoJob } ∷ record { applies = true; refusal = NoDatabase } ∷ rows)
    ≡ first_row (record { applies = a; refusal = Unsound } ∷ record { applies = b; refusal = NoJob } ∷ record { applies = true; refusal = NoDatabase } ∷ others)
unfolding first_row
third true b rows others = refl
third false true rows others = refl
third false false rows others = refl

pub rows_same : (b : Bool) (f k : ℕ) (names applies named applied : Bool) (own : Refusal) → (k < databases → names ≡ named) → (k < databases → applies ≡ applied)
    → step_refusal b f k names applies own ≡ step_refusal b f k named applied own
unfolding step_refusal
rows_same b f k names applies named applied own p q = by (ltb k databases) refl
  where
    by : (x : Bool) → ltb k databases ≡ x → step_refusal b f k names applies own ≡ step_refusal b f k named applied own
    by true e = rw (p (ltb-true k databases e), q (ltb-true k databases e))
    by false e = rw (step_refusal, step_refusal, e) (third (not b) (eqb f 0) _ _)
