-- What a profile has to show of a moment, so that demand 3 holds then: two orders of jobs, one for what was released and one for what waits.
-- Under Scheme 3 both are the order of the sets; under Scheme 2 the first is that of the releases and the second that of the openings.
use Rattle.std.specs.Prelude.{ℕ}
use Rattle.histories.specs.Relation.{Order}
use Rattle.histories.specs.History.{History, Open, Released, Before, Pending, AllConfirmed}

module _ (H : History) where
  -- (R) open jobs whose steps were released one after the other stand so in the order `precedes`
  -- (H) a held close, all of whose steps are confirmed, has an open job before its own
  pub record Preceded (precedes : ℕ → ℕ → Type 0) : Type 0 where
    pub precedes_order : Order precedes
    pub before_precedes : {a b : ℕ} → Open H a → Open H b → Before H a b → precedes a b
    pub close_waits : {a : ℕ} → Open H a → H.close_asked a → AllConfirmed H a → (x : ℕ) × Open H x × precedes x a

  -- the step of x at database k isn't confirmed; so it is under way, or it isn't released and x is before a
  pub record WaitsFor (precedes : ℕ → ℕ → Type 0) (a k x : ℕ) : Type 0 where
    pub is_open : Open H x
    pub names : H.names x k
    pub unconfirmed : ¬ H.confirmed x k
    pub earlier : ¬ Released H x k → precedes x a

  -- (Q) an asked, unreleased step waits for one that isn't confirmed
  pub record Awaited (precedes : ℕ → ℕ → Type 0) : Type 0 where
    pub awaited_order : Order precedes
    pub step_waits : {a k : ℕ} → Pending H a k → (x : ℕ) × WaitsFor precedes a k x

  pub record Arranged : Type 1 where
    pub released_order : ℕ → ℕ → Type 0
    pub waiting_order : ℕ → ℕ → Type 0
    pub preceded : Preceded released_order
    pub awaited : Awaited waiting_order
