-- The job sheet: for each P line of document 01 a start, calls, and what they answer. Assumes nothing: these are definitions.
use Rattle.std.specs.Prelude.{ℕ, zero, suc, ◌+◌, List, [], ◌∷◌, ◌++◌, ◌≡◌}
use Rattle.coordinator.specs.Fresh.{fresh}
use Rattle.coordinator.specs.Answer.{Values, refused}
use Rattle.coordinator.specs.Call.{Call, open_job, ask_step, confirm_step, answers}

pub record Line : Type 0 where
  pub number : ℕ
  pub first : ℕ
  pub calls : List Call
  pub expected : List Values

abbrev pub Holds : Line → Type 0
Holds l = answers (fresh l.first) l.calls ≡ l.expected

abbrev pub AllHold : List Line → Type 0
AllHold [] = Unit {0}
AllHold (l ∷ ls) = Holds l × AllHold ls

abbrev opens : ℕ → ℕ → ℕ → Values
opens t a m = record { refusal = 0; ticket = t; added = a; moves = m; released = 0; closed = 0; tickets = [] }

abbrev goes : Values
goes = record { refusal = 0; ticket = 0; added = 0; moves = 0; released = 1; closed = 0; tickets = [] }

abbrev waits : Values
waits = record { refusal = 0; ticket = 0; added = 0; moves = 0; released = 0; closed = 0; tickets = [] }

abbrev frees : ℕ → Values
frees t = record { refusal = 0; ticket = t; added = 0; moves = 0; released = 1; closed = 0; tickets = [] }

-- n openings of {0} answer tickets 0 to n - 1, each with two moves for every job that is open already
abbrev pub openings : ℕ → List Call
openings zero = []
openings (suc n) = open_job 1 ∷ openings n

abbrev pub numbered : ℕ → ℕ → List Values
numbered zero t = []
numbered (suc n) t = opens t 0 (t + t) ∷ numbered n (suc t)

-- line 9, with all slots taken and with one left
abbrev pub full_table : Line
full_table = record { number = 9; first = 0; calls = openings 32 ++ (open_job 0 ∷ open_job 1 ∷ []); expected = numbered 32 0 ++ (refused 1 ∷ refused 2 ∷ []) }

abbrev pub one_left : Line
one_left = record { number = 9; first = 0; calls = openings 31 ++ (open_job 1 ∷ []); expected = numbered 31 0 ++ (opens 31 0 62 ∷ []) }

abbrev pub sheet : List Line
sheet =
    record { number = 1; first = 0; calls = (open_job 3 ∷ []); expected = (opens 0 0 0 ∷ []) }
    ∷ record { number = 2; first = 0; calls = (open_job 3 ∷ open_job 3 ∷ []); expected = (opens 0 0 0 ∷ opens 1 2 6 ∷ []) }
    ∷ record { number = 3; first = 0; calls = (open_job 3 ∷ open_job 3 ∷ ask_step 1 0 ∷ ask_step 0 0 ∷ []); expected = (opens 0 0 0 ∷ opens 1 2 6 ∷ waits ∷ goes ∷ []) }
    ∷ record { number = 4; first = 0; calls = (open_job 3 ∷ open_job 3 ∷ ask_step 1 0 ∷ ask_step 0 0 ∷ confirm_step 0 0 ∷ []); expected = (opens 0 0 0 ∷ opens 1 2 6 ∷ waits ∷ goes ∷ frees 1 ∷ []) }
    ∷ record { number = 5; first = 0; calls = (open_job 1 ∷ open_job 1 ∷ ask_step 1 0 ∷ []); expected = (opens 0 0 0 ∷ opens 1 0 2 ∷ goes ∷ []) }
    ∷ record { number = 6; first = 0; calls = (open_job 3 ∷ open_job 6 ∷ open_job 5 ∷ []); expected = (opens 0 0 0 ∷ opens 1 0 2 ∷ opens 2 2 10 ∷ []) }
    ∷ record { number = 7; first = 0; calls = (open_job 3 ∷ ask_step 0 0 ∷ open_job 3 ∷ []); expected = (opens 0 0 0 ∷ goes ∷ opens 1 1 5 ∷ []) }
    ∷ record { number = 8; first = 65535; calls = (open_job 1 ∷ open_job 1 ∷ []); expected = (opens 65535 0 0 ∷ opens 0 0 2 ∷ []) }
    ∷ full_table
    ∷ one_left
    ∷ record { number = 10; first = 0; calls = (open_job 3 ∷ ask_step 0 16 ∷ ask_step 0 15 ∷ []); expected = (opens 0 0 0 ∷ refused 4 ∷ refused 5 ∷ []) }
    ∷ []
