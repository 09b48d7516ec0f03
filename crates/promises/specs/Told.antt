-- What the calls and their answers tell, with no look at the tables. Job a is the a-th accepted opening, counted from 0, though its number was used earlier.
-- Assumes nothing: these are definitions.
use Rattle.std.specs.Prelude.{ℕ, zero, suc, true, false, List, [], ◌∷◌, ◌⊎◌, ◌≡◌, eqb}
use Rattle.mask.specs.Member.{holds}
use Rattle.coordinator.specs.Answer.{Values}
use Rattle.coordinator.specs.Call.{Call, open_job, ask_step, confirm_step, close_job}

pub record Told : Type 1 where
  -- how many jobs have been opened; how many releases and closings there have been, which is the time
  pub count : ℕ
  pub now : ℕ
  -- the job that a ticket means: its latest opening
  pub latest : ℕ → ℕ
  -- `names a k`: job a has a step at database k; it has been asked for; it was released at time t; it has been confirmed
  pub names : ℕ → ℕ → Type 0
  pub asked : ℕ → ℕ → Type 0
  pub released : ℕ → ℕ → ℕ → Type 0
  pub confirmed : ℕ → ℕ → Type 0
  -- job a has asked to close without being refused; it was closed at time t
  pub close_asked : ℕ → Type 0
  pub closed : ℕ → ℕ → Type 0

abbrev pub nothing : Told
nothing = record {
  count = 0;
  now = 0;
  latest = λ t. 0;
  names = λ a k. ⊥;
  asked = λ a k. ⊥;
  released = λ a k t. ⊥;
  confirmed = λ a k. ⊥;
  close_asked = λ a. ⊥;
  closed = λ a t. ⊥;
}

-- a job is opened: its ticket, its mask
abbrev pub opened_told : Told → ℕ → ℕ → Told
opened_told T t mask = record {
  count = suc T.count;
  now = T.now;
  latest = λ x. elim (eqb x t) [ true ↦ T.count | false ↦ T.latest x ];
  names = λ a k. T.names a k ⊎ ((a ≡ T.count) × (holds mask k ≡ true));
  asked = T.asked;
  released = T.released;
  confirmed = T.confirmed;
  close_asked = T.close_asked;
  closed = T.closed;
}

-- the step of job a at database k is asked for, released, confirmed
abbrev pub asked_told : Told → ℕ → ℕ → Told
asked_told T a k = record {
  count = T.count;
  now = T.now;
  latest = T.latest;
  names = T.names;
  asked = λ x j. T.asked x j ⊎ ((x ≡ a) × (j ≡ k));
  released = T.released;
  confirmed = T.confirmed;
  close_asked = T.close_asked;
  closed = T.closed;
}

abbrev pub released_told : Told → ℕ → ℕ → Told
released_told T a k = record {
  count = T.count;
  now = suc T.now;
  latest = T.latest;
  names = T.names;
  asked = T.asked;
  released = λ x j t. T.released x j t ⊎ ((x ≡ a) × (j ≡ k) × (t ≡ T.now));
  confirmed = T.confirmed;
  close_asked = T.close_asked;
  closed = T.closed;
}

abbrev pub confirmed_told : Told → ℕ → ℕ → Told
confirmed_told T a k = record {
  count = T.count;
  now = T.now;
  latest = T.latest;
  names = T.names;
  asked = T.asked;
  released = T.released;
  confirmed = λ x j. T.confirmed x j ⊎ ((x ≡ a) × (j ≡ k));
  close_asked = T.close_asked;
  closed = T.closed;
}

-- job a asks to close; the jobs of the tickets are closed, the first one first
abbrev pub close_asked_told : Told → ℕ → Told
close_asked_told T a = record {
  count = T.count;
  now = T.now;
  latest = T.latest;
  names = T.names;
  asked = T.asked;
  released = T.released;
  confirmed = T.confirmed;
  close_asked = λ x. T.close_asked x ⊎ (x ≡ a);
  closed = T.closed;
}

abbrev pub closed_told : Told → ℕ → Told
closed_told T a = record {
  count = T.count;
  now = suc T.now;
  latest = T.latest;
  names = T.names;
  asked = T.asked;
  released = T.released;
  confirmed = T.confirmed;
  close_asked = T.close_asked;
  closed = λ x t. T.closed x t ⊎ ((x ≡ a) × (t ≡ T.now));
}

abbrev pub all_closed_told : Told → List ℕ → Told
all_closed_told T [] = T
all_closed_told T (t ∷ tickets) = all_closed_told (closed_told T (T.latest t)) tickets

-- where the answer says 1, the step of the job with that ticket is released
abbrev pub goes_told : Told → ℕ → ℕ → ℕ → Told
goes_told T zero t k = T
goes_told T (suc n) t k = released_told T (T.latest t) k

-- one accepted call and its answer
abbrev pub accepted : Told → Call → Values → Told
accepted T (open_job mask) v = opened_told T v.ticket mask
accepted T (ask_step t k) v = goes_told (asked_told T (T.latest t) k) v.released t k
accepted T (confirm_step t k) v = goes_told (confirmed_told T (T.latest t) k) v.released v.ticket k
accepted T (close_job t) v = all_closed_told (close_asked_told T (T.latest t)) v.tickets

-- one call and its answer: a refused one tells nothing
unfoldable pub tell : Told → Call → Values → Told
tell T c v = elim (eqb v.refusal 0) [ true ↦ accepted T c v | false ↦ T ]
