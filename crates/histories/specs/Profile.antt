-- A profile: what it keeps beside the history, and its rules.
use Rattle.std.specs.Prelude.{ℕ, List, [], ◌∷◌}
use Rattle.histories.specs.History.{History, Open, Pending, AllConfirmed}
use Rattle.histories.specs.Change.{closing}
use Rattle.histories.specs.Past.{Past}

pub record Profile : Type 2 where
  pub State : Type 1
  -- what it is at a fresh start
  pub begun : State
  -- what becomes of it when a job is opened at the databases of `named`, given what the opening has found out
  pub Finding : History → State → (ℕ → Type 0) → Type 1
  pub opened : (H : History) (S : State) (named : ℕ → Type 0) → Finding H S named → State
  -- what becomes of it when the step of a job at a database is released, and when a job is closed
  pub released : History → State → ℕ → ℕ → State
  pub closed : State → ℕ → State
  -- Given which steps are confirmed: the step of a job at a database may go, or something is in its way.
  pub MayGo : (ℕ → ℕ → Type 0) → State → ℕ → ℕ → Type 0
  pub StepWaits : (ℕ → ℕ → Type 0) → State → ℕ → ℕ → Type 0
  -- The job may close, or something is in its way.
  pub MayClose : State → ℕ → Type 0
  pub CloseWaits : State → ℕ → Type 0
  -- what the rules keep true of it
  pub Ordered : History → State → Type 0

module _ (P : Profile) where
  module _ (H : History) (S : P.State) where
    -- (Q) something is in the way of every asked, unreleased step
    pub record StepsWait : Type 0 where
      pub step_waits : {a k : ℕ} → Pending H a k → P.StepWaits H.confirmed S a k

    -- (H) something is in the way of every held close
    pub record ClosesWait : Type 0 where
      pub close_waits : {a : ℕ} → Open H a → H.close_asked a → P.CloseWaits S a

    -- what stands in the middle of a call: steps at the databases of `unsettled` may be free to go
    pub record Standing (unsettled : ℕ → Type 0) : Type 0 where
      pub past : Past H
      pub ordered : P.Ordered H S
      pub step_waits : {a k : ℕ} → Pending H a k → ¬ unsettled k → P.StepWaits H.confirmed S a k
      pub closes_wait : ClosesWait

    -- all of it, as it stands after every call
    pub record Kept : Type 0 where
      pub past : Past H
      pub ordered : P.Ordered H S
      pub steps_wait : StepsWait
      pub closes_wait : ClosesWait

  -- what is left beside the history when the jobs of the list are closed, and each of them may close when its turn comes
  abbrev pub all_closed : P.State → List ℕ → P.State
  all_closed S [] = S
  all_closed S (a ∷ l) = all_closed (P.closed S a) l

  abbrev pub InTurn : History → P.State → List ℕ → Type 0
  InTurn H S [] = Unit {0}
  InTurn H S (a ∷ l) = Open H a × P.MayClose S a × AllConfirmed H a × InTurn (closing H a) (P.closed S a) l
