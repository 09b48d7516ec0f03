-- What every history keeps, whatever a profile keeps beside it.
use Rattle.std.specs.Prelude.{ℕ, ◌<◌, ◌≡◌}
use Rattle.histories.specs.History.{History, Released, Closed, BeforeAt}

module _ (H : History) where
  -- Steps go their way in order, each release and each closing happens once and in the past, and whether it did is decided.
  pub record Formed : Type 0 where
    pub names_opened : {a k : ℕ} → H.names a k → a < H.count
    pub asked_names : {a k : ℕ} → H.asked a k → H.names a k
    pub released_asked : {a k : ℕ} → Released H a k → H.asked a k
    pub confirmed_released : {a k : ℕ} → H.confirmed a k → Released H a k
    pub released_once : {a k time other : ℕ} → H.released a k time → H.released a k other → time ≡ other
    pub released_past : {a k time : ℕ} → H.released a k time → time < H.now
    pub released_decided : (a k : ℕ) → Dec (Released H a k)
    pub close_asked_opened : {a : ℕ} → H.close_asked a → a < H.count
    pub close_asked_confirmed : {a k : ℕ} → H.close_asked a → H.names a k → H.confirmed a k
    pub closed_opened : {a : ℕ} → Closed H a → a < H.count
    pub closed_once : {a time other : ℕ} → H.closed a time → H.closed a other → time ≡ other
    pub closed_past : {a time : ℕ} → H.closed a time → time < H.now
    pub closed_decided : (a : ℕ) → Dec (Closed H a)

  -- (C) what is before a closed job is closed, and was closed earlier
  pub record ClosedInOrder : Type 0 where
    pub closed_first : {k a b late : ℕ} → BeforeAt H k a b → H.closed b late → (early : ℕ) × H.closed a early × (early < late)

  pub record Past : Type 0 where
    pub formed : Formed
    pub closed_in_order : ClosedInOrder
