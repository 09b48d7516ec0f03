-- Nothing stands still: what waits stands in an order, and the first of all would wait for nobody.
use Prim.Native.Nat.{ℕ}
use Rattle.histories.specs.History.{History, Open, Released}
use Rattle.histories.specs.Past.{Past}
use Rattle.histories.specs.Promise.{AllAsked, NoneAwaits}
use Rattle.histories.specs.Arranged.{Preceded, Awaited}
use Rattle.histories.proofs.Orders.{none_first}

module _ (H : History) (P : Past H) (R : ℕ → ℕ → Type 0) (Q : Awaited H R) (asked : AllAsked H) (none : NoneAwaits H) where
  -- an open job whose step at k isn't released
  abbrev Unreleased : ℕ → ℕ → Type 0
  Unreleased k a = Open H a × H.names a k × ¬ Released H a k

  -- what it waits for isn't released either, as a released step is confirmed
  waits : (k a : ℕ) → Unreleased k a → (x : ℕ) × Unreleased k x × R x a
  waits k a (o, n, u) =
      let (x, w) = Q.step_waits (o, asked a k o n, u) in
      let v : ¬ Released H x k = λ r. w.unconfirmed (none x k w.is_open r) in
      (x, (w.is_open, w.names, v), w.earlier v)

  pub all_confirmed : (a k : ℕ) → Open H a → H.names a k → H.confirmed a k
  all_confirmed a k o n = cases (P.formed.released_decided a k)
    where
      cases : Dec (Released H a k) → H.confirmed a k
      cases (yes r) = none a k o r
      cases (no u) = absurd (none_first R Q.awaited_order H.count (Unreleased k) (λ x v. v.0.0) (waits k) a (o, n, u))

module _ (H : History) (R : ℕ → ℕ → Type 0) (C : Preceded H R) where
  pub none_open : ((a k : ℕ) → Open H a → H.names a k → H.confirmed a k) → ((a : ℕ) → Open H a → H.close_asked a) → (a : ℕ) → ¬ Open H a
  none_open all held =
      none_first R C.precedes_order H.count (Open H) (λ a o. o.0) (λ a o. C.close_waits o (held a o) (λ k n. all a k o n))
