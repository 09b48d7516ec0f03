-- Any two results that meet a contract are equal, for every public function of the coordinator and of the floors below it, as their sources have it.
-- Assumes nothing: these are definitions.
use Rattle.std.specs.Prelude.{get_or, ◌%◌, ◌^◌, ℕ, Bool, List, ◌≡◌, Option, Result}
use Rattle.loops.specs.Sum.{tally, sum}
use Rattle.mask.specs.Members.{Takes, gather}
use Rattle.refusals.specs.Number.{number}
use Rattle.mask.specs.Member.{holds, joined, excluding, less, lowest, size}
use Rattle.numbers.specs.declared.NumberMaker.{NumberMaker}
use Rattle.numbers.specs.Ticket.{absent_in, after, ticket_from}
use Rattle.numbers.specs.declared.Ticket.{Ticket}
use Rattle.search.specs.declared.Sought.{Sought}
use Rattle.search.specs.Search.{sought}
use Rattle.tables.specs.Tables.{open_in, holders_in}
use Rattle.tables.specs.Test.{sound_in}
use Rattle.tables.specs.Limits.{jobs, databases}
use Rattle.refusals.specs.declared.refusal.Refusal.{Refusal}
use Rattle.refusals.specs.Refusal.{slot_refusal, step_above, step_refusal, job_refusal}
use Rattle.refusals.specs.Outcome.{outcome, outcome_or}
use Rattle.coordinator.specs.declared.Coordinator.{Coordinator}
use Rattle.coordinator.specs.Fresh.{fresh}
use Rattle.coordinator.specs.Test.{sound}
use Rattle.coordinator.specs.Bound.{most_moves}
use Rattle.coordinator.specs.Open.{after_open, after_open_tested}
use Rattle.coordinator.specs.Ask.{after_ask, after_ask_tested}
use Rattle.coordinator.specs.Confirm.{after_confirm, after_confirm_tested}
use Rattle.coordinator.specs.Close.{after_close, after_close_tested}
use Rattle.coordinator.specs.declared.answers.After.{After}
use Rattle.coordinator.specs.declared.answers.Opened.{Opened}
use Rattle.coordinator.specs.declared.answers.Asked.{Asked}
use Rattle.coordinator.specs.declared.answers.Closed.{Closed}

abbrev pub Determines : {A : Type 0} → (A → Type 0) → Type 0
Determines {A} P = (x y : A) → P x → P y → x ≡ y

pub record Determined : Type 0 where
  -- the coordinator
  pub open_job : (s : Coordinator) (mask : ℕ) → Determines (λ (r : After Opened). r ≡ after_open s mask)
  pub ask : (s : Coordinator) (t k : ℕ) → Determines (λ (r : After Asked). r ≡ after_ask s t k)
  pub confirm : (s : Coordinator) (t k : ℕ) → Determines (λ (r : After (Option Ticket)). r ≡ after_confirm s t k)
  pub close : (s : Coordinator) (t : ℕ) → Determines (λ (r : After (Option Closed)). r ≡ after_close s t)
  -- and in place, given whether the state is sound
  pub open_tested : (b : Bool) (s : Coordinator) (mask : ℕ) → Determines (λ (r : After Opened). r ≡ after_open_tested b s mask)
  pub ask_tested : (b : Bool) (s : Coordinator) (t k : ℕ) → Determines (λ (r : After Asked). r ≡ after_ask_tested b s t k)
  pub confirm_tested : (b : Bool) (s : Coordinator) (t k : ℕ) → Determines (λ (r : After (Option Ticket)). r ≡ after_confirm_tested b s t k)
  pub close_tested : (b : Bool) (s : Coordinator) (t : ℕ) → Determines (λ (r : After (Option Closed)). r ≡ after_close_tested b s t)
  pub start : (n : ℕ) → Determines (λ (r : Coordinator). r ≡ fresh n)
  pub is_sound : (s : Coordinator) → Determines (λ (r : Bool). r ≡ sound s)
  pub most_moves : (s : Coordinator) → Determines (λ (r : ℕ). r ≡ most_moves s)
  -- its tables
  pub open_slots : (named : List ℕ) → Determines (λ (r : ℕ). r ≡ open_in named)
  pub holders_of : (tickets named : List ℕ) (t : ℕ) → Determines (λ (r : ℕ). r ≡ holders_in tickets (open_in named) t)
  pub are_sound : (tickets : List ℕ) (held : ℕ) (order named asked released confirmed dependencies : List ℕ)
      → Determines (λ (r : Bool). r ≡ sound_in tickets held order named asked released confirmed dependencies)
  -- its refusals
  pub of_open : (sound : Bool) (mask slots : ℕ) → Determines (λ (r : Result Unit Refusal). r ≡ outcome (slot_refusal sound mask (size jobs slots)))
  pub of_step : (sound : Bool) (found k : ℕ) (names applies : Bool) (own : Refusal)
      → Determines (λ (r : Result Unit Refusal). r ≡ outcome (step_refusal sound found k names applies own))
  -- and where the own row of a step has any number, and the rows above it those of their refusals
  pub of_step_numbered : (sound : Bool) (found k : ℕ) (names applies : Bool) (own : ℕ)
      → Determines (λ (r : Result Unit ℕ). r ≡ outcome_or number (step_above sound found k names) applies own)
  pub of_close : (sound : Bool) (found : ℕ) (confirmed held : Bool) → Determines (λ (r : Result Unit Refusal). r ≡ outcome (job_refusal sound found confirmed held))
  pub refusal_number : (refusal : Refusal) → Determines (λ (r : ℕ). r ≡ number refusal)
  -- the opening search
  pub count_all : (sets : List ℕ) → Determines (λ (r : ℕ). r ≡ sum databases (λ u. size jobs (get_or sets u 0)))
  pub search : (named dependencies : List ℕ) (n : ℕ) → Determines (λ (r : Sought). r ≡ sought named dependencies n)
  -- the number maker: the ticket that `take` gives, and the number maker that it leaves
  pub absent : (held : List ℕ) (t : ℕ) → Determines (λ (r : Bool). r ≡ absent_in held t)
  pub next_number : (t : ℕ) → Determines (λ (r : ℕ). r ≡ after t)
  pub free_from : (held : List ℕ) (from : ℕ) → Determines (λ (r : ℕ). r ≡ ticket_from held from)
  pub take : (held : List ℕ) (next : ℕ) → Determines (λ (r : Ticket × NumberMaker). (r.0.0 ≡ ticket_from held next) × (r.1.next ≡ after r.0.0))
  -- sets of n slots or databases
  pub member : (m k : ℕ) → Determines (λ (r : Bool). r ≡ holds m k)
  pub with_member : (n m k : ℕ) → Determines (λ (r : ℕ). r ≡ joined n m k)
  pub without_member : (m k : ℕ) → Determines (λ (r : ℕ). r ≡ excluding m k)
  pub lowest_member : (n m : ℕ) → Determines (λ (r : ℕ). r ≡ lowest n m)
  pub rest_of : (n m : ℕ) → Determines (λ (r : ℕ). r ≡ excluding m (lowest n m))
  pub size_of : (n m : ℕ) → Determines (λ (r : ℕ). r ≡ size n m)
  pub less_of : (n a b : ℕ) → Determines (λ (r : ℕ). r ≡ less n a b)
  pub word_of : (m : ℕ) → Determines (λ (r : ℕ). r ≡ m)
  pub of_word : (n w : ℕ) → Determines (λ (r : ℕ). r ≡ w % 2 ^ n)
  pub members_of : (m : ℕ) → Determines (λ (left : ℕ). left ≡ m)
  -- of a turn of a walk: the member that it gives, and what is left
  pub next_member : (n m : ℕ) → Determines (λ (r : Option ℕ × ℕ). Takes n m r.0 r.1)
  pub gathered : (p : ℕ → Bool) → Determines (λ (r : ℕ). r ≡ gather 32 (λ j. tally (p j)))
