-- When a step may go and a job may close, and what each call has to see to before it changes the history.
use Rattle.std.specs.Prelude.{ℕ, ◌≢◌, List, [], ◌∷◌}
use Rattle.rings.specs.History.{History, Open, Released}
use Rattle.rings.specs.Walk.{Link}
use Rattle.rings.specs.Change.{opening, closing}

module _ (H : History) where
  -- an asked step of an open job that is not yet released
  abbrev pub Pending : ℕ → ℕ → Type 0
  Pending a k = Open H a × H.asked a k × ¬ Released H a k

  -- Every dependency into the step comes from a confirmed one; or some does not.
  abbrev pub MayGo : ℕ → ℕ → Type 0
  MayGo a k = (x : ℕ) → H.dep k x a → H.confirmed x k

  abbrev pub StepWaits : ℕ → ℕ → Type 0
  StepWaits a k = (x : ℕ) × H.dep k x a × ¬ H.confirmed x k

  -- No dependency goes into the job at any database; or one does.
  abbrev pub MayClose : ℕ → Type 0
  MayClose a = (k x : ℕ) → ¬ H.dep k x a

  abbrev pub CloseWaits : ℕ → Type 0
  CloseWaits a = (k : ℕ) × (x : ℕ) × H.dep k x a

  abbrev pub AllConfirmed : ℕ → Type 0
  AllConfirmed a = (k : ℕ) → H.names a k → H.confirmed a k

-- Each job of the list may close when its turn comes.
abbrev pub InTurn : History → List ℕ → Type 0
InTurn H [] = Unit {0}
InTurn H (a ∷ l) = Open H a × MayClose H a × AllConfirmed H a × InTurn (closing H a) l

module _ (H : History) (named : ℕ → Type 0) where
  -- the opening as it stands before its search
  abbrev pub unsearched : History
  unsearched = opening H named (λ a k. ⊥)

  -- A walk that starts at the new job, never comes back to it, and has come to w through u.
  pub data Reached : ℕ → ℕ → Type 0 where
    first : {u w : ℕ} → Link unsearched u H.count w → Open H w → Reached w u
    next : {t v u w : ℕ} → Reached v t → u ≢ t → Link unsearched u v w → Open H w → Reached w u

  -- What the search found leads from open jobs, at databases that both name, and it found the end of every walk.
  pub record Searched (found : ℕ → ℕ → Type 0) : Type 0 where
    pub found_open : {v u : ℕ} → found v u → Open H v
    pub found_names : {v u : ℕ} → found v u → H.names v u
    pub found_named : {v u : ℕ} → found v u → named u
    pub found_all : {t v u : ℕ} → Reached v t → u ≢ t → Link unsearched u v H.count → found v u
