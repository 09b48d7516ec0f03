-- The rows of document 01's table of refusals, in order, and the first that applies. Assumes nothing: these are definitions.
use Rattle.std.specs.Prelude.{ℕ, Bool, true, false, not, List, [], ◌∷◌, eqb, ltb, Option, None, Some}
use Rattle.tables.specs.Limits.{jobs, databases}
use Rattle.refusals.specs.declared.refusal.Refusal.{Refusal}
use Rattle.refusals.specs.declared.refusal.Refusal.TheVariants.{NamesNone, Full, NoJob, NoDatabase, NotNamed, Unfinished, CloseHeld, Unsound}

-- when a row applies, and what it refuses with
pub record Row : Type 0 where
  pub applies : Bool
  pub refusal : Refusal

-- the refusal of the first row that applies, or none
unfoldable pub first_row : List Row → Option Refusal
first_row [] = None
first_row (r ∷ rows) = elim r.applies [ true ↦ Some r.refusal | false ↦ first_row rows ]

-- the rows of an opening: whether the state is sound, the mask, how many jobs are open
abbrev pub slot_rows : Bool → ℕ → ℕ → List Row
slot_rows is_sound mask count =
    record { applies = not is_sound; refusal = Unsound }
    ∷ record { applies = eqb mask 0; refusal = NamesNone }
    ∷ record { applies = eqb count jobs; refusal = Full }
    ∷ []

unfoldable pub slot_refusal : Bool → ℕ → ℕ → Option Refusal
slot_refusal is_sound mask count = first_row (slot_rows is_sound mask count)

-- the rows of ask and confirm: whether the state is sound, the slots that hold the ticket, whether the job names database k; then the call's own
abbrev pub rows_above : Bool → ℕ → ℕ → Bool → List Row → List Row
rows_above is_sound found k names own =
    record { applies = not is_sound; refusal = Unsound }
    ∷ record { applies = eqb found 0; refusal = NoJob }
    ∷ record { applies = not (ltb k databases); refusal = NoDatabase }
    ∷ record { applies = not names; refusal = NotNamed }
    ∷ own

unfoldable pub step_above : Bool → ℕ → ℕ → Bool → Option Refusal
step_above is_sound found k names = first_row (rows_above is_sound found k names [])

abbrev pub step_rows : Bool → ℕ → ℕ → Bool → Bool → Refusal → List Row
step_rows is_sound found k names applies own = rows_above is_sound found k names (record { applies = applies; refusal = own } ∷ [])

unfoldable pub step_refusal : Bool → ℕ → ℕ → Bool → Bool → Refusal → Option Refusal
step_refusal is_sound found k names applies own = first_row (step_rows is_sound found k names applies own)

-- the rows of a close: whether the state is sound, the slots that hold the ticket, whether every step of the job is confirmed, whether its close is held
abbrev pub job_rows : Bool → ℕ → Bool → Bool → List Row
job_rows is_sound found is_confirmed is_held =
    record { applies = not is_sound; refusal = Unsound }
    ∷ record { applies = eqb found 0; refusal = NoJob }
    ∷ record { applies = not is_confirmed; refusal = Unfinished }
    ∷ record { applies = is_held; refusal = CloseHeld }
    ∷ []

unfoldable pub job_refusal : Bool → ℕ → Bool → Bool → Option Refusal
job_refusal is_sound found is_confirmed is_held = first_row (job_rows is_sound found is_confirmed is_held)
