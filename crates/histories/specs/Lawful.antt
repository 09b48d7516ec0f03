-- What a profile has to show once, for each small change, so that every call keeps what is kept, and demand 3 holds after it.
use Rattle.std.specs.Prelude.{ℕ, ◌≢◌}
use Rattle.histories.specs.History.{History, Open, Released, BeforeAt, Pending, AllConfirmed}
use Rattle.histories.specs.Columns.{fresh}
use Rattle.histories.specs.Change.{opening, Marks, marked, releasing, closing}
use Rattle.histories.specs.Past.{Past}
use Rattle.histories.specs.Profile.{Profile, Kept}
use Rattle.histories.specs.Arranged.{Arranged}

module _ (P : Profile) where
  -- an opening, marks, a release of a step that may go, and a close of a job that may close keep the rules, which hold at a fresh start
  pub record Orderly : Type 1 where
    pub beginning : P.Ordered fresh P.begun
    pub opening_job : (H : History) (S : P.State) (named : ℕ → Type 0) (found : P.Finding H S named) →
        Past H → P.Ordered H S → P.Ordered (opening H named) (P.opened H S named found)
    pub marking : (H : History) (S : P.State) (asked confirmed : ℕ → ℕ → Type 0) (close_asked : ℕ → Type 0) →
        Marks H asked confirmed close_asked → P.Ordered H S → P.Ordered (marked H asked confirmed close_asked) S
    pub releasing_step : (H : History) (S : P.State) (a k : ℕ) →
        Past H → P.Ordered H S → Pending H a k → P.MayGo H.confirmed S a k → P.Ordered (releasing H a k) (P.released H S a k)
    pub closing_job : (H : History) (S : P.State) (a : ℕ) →
        Past H → P.Ordered H S → Open H a → AllConfirmed H a → P.MayClose S a → P.Ordered (closing H a) (P.closed S a)
    -- a job doesn't close while one is open that has gone before it
    pub closes_after : (H : History) (S : P.State) (k x a : ℕ) → P.Ordered H S → Open H x → Open H a → BeforeAt H k x a → ¬ P.MayClose S a

  -- what is in the way stays there
  pub record Waits : Type 1 where
    pub waits_opened : (H : History) (S : P.State) (named : ℕ → Type 0) (found : P.Finding H S named) (x j : ℕ) →
        P.StepWaits H.confirmed S x j → P.StepWaits H.confirmed (P.opened H S named found) x j
    pub close_waits_opened : (H : History) (S : P.State) (named : ℕ → Type 0) (found : P.Finding H S named) (x : ℕ) →
        P.CloseWaits S x → P.CloseWaits (P.opened H S named found) x
    -- neither confirmations nor a release elsewhere clear the way here
    pub waits_confirmed : (S : P.State) (confirmed more : ℕ → ℕ → Type 0) (x j : ℕ) →
        ((y : ℕ) → more y j → confirmed y j) → P.StepWaits confirmed S x j → P.StepWaits more S x j
    pub waits_released : (H : History) (S : P.State) (a k x j : ℕ) → j ≢ k → P.StepWaits H.confirmed S x j → P.StepWaits H.confirmed (P.released H S a k) x j
    -- the step released holds the others there
    pub released_holds : (H : History) (S : P.State) (a k x : ℕ) →
        Past H → P.Ordered H S → Pending H a k → Open H x → H.names x k → ¬ Released H x k → x ≢ a →
        P.StepWaits H.confirmed (P.released H S a k) x k
    -- nobody waited for a step of a job that has all its steps confirmed
    pub waits_closed : (H : History) (S : P.State) (a x j : ℕ) →
        Past H → P.Ordered H S → AllConfirmed H a → x ≢ a → P.StepWaits H.confirmed S x j → P.StepWaits H.confirmed (P.closed S a) x j
    pub close_waits_released : (H : History) (S : P.State) (a k x : ℕ) → P.CloseWaits S x → P.CloseWaits (P.released H S a k) x

  pub record Lawful : Type 1 where
    pub orderly : Orderly
    pub waits : Waits
    pub arranged : (H : History) (S : P.State) → Kept P H S → Arranged H
