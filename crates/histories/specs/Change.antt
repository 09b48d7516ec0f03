-- What one small change makes of a history, under either profile. The four calls are made of these.
use Rattle.std.specs.Prelude.{ℕ, suc, ◌<◌, ◌≡◌, ◌⊎◌, List, [], ◌∷◌}
use Rattle.histories.specs.History.{History, Released}
use Rattle.histories.specs.Columns.{with_count, with_now, with_names, with_asked, with_released, with_confirmed, with_close_asked, with_closed}

-- A new job, at the databases of `named`.
abbrev pub opening : History → (ℕ → Type 0) → History
opening H named = with_names (with_count H (suc H.count)) (λ a k. H.names a k ⊎ ((a ≡ H.count) × named k))

-- The step of job a at database k is asked for, or confirmed; job a asks to close.
abbrev pub asking : History → ℕ → ℕ → History
asking H a k = with_asked H (λ x j. H.asked x j ⊎ ((x ≡ a) × (j ≡ k)))

abbrev pub confirming : History → ℕ → ℕ → History
confirming H a k = with_confirmed H (λ x j. H.confirmed x j ⊎ ((x ≡ a) × (j ≡ k)))

abbrev pub asking_close : History → ℕ → History
asking_close H a = with_close_asked H (λ x. H.close_asked x ⊎ (x ≡ a))

-- These three leave other marks, and all else as it was.
abbrev pub marked : History → (ℕ → ℕ → Type 0) → (ℕ → ℕ → Type 0) → (ℕ → Type 0) → History
marked H asked confirmed close_asked = with_close_asked (with_confirmed (with_asked H asked) confirmed) close_asked

-- H's marks and perhaps more, each in its place
pub record Marks (H : History) (asked confirmed : ℕ → ℕ → Type 0) (close_asked : ℕ → Type 0) : Type 0 where
  pub more_asked : {a k : ℕ} → H.asked a k → asked a k
  pub asked_names : {a k : ℕ} → asked a k → H.names a k
  pub more_confirmed : {a k : ℕ} → H.confirmed a k → confirmed a k
  pub confirmed_released : {a k : ℕ} → confirmed a k → Released H a k
  pub close_asked_opened : {a : ℕ} → close_asked a → a < H.count
  pub close_asked_confirmed : {a k : ℕ} → close_asked a → H.names a k → confirmed a k

-- The step of job a at database k is released.
abbrev pub releasing : History → ℕ → ℕ → History
releasing H a k = with_released (with_now H (suc H.now)) (λ x j time. H.released x j time ⊎ ((x ≡ a) × (j ≡ k) × (time ≡ H.now)))

-- Job a is closed.
abbrev pub closing : History → ℕ → History
closing H a = with_closed (with_now H (suc H.now)) (λ x time. H.closed x time ⊎ ((x ≡ a) × (time ≡ H.now)))

-- The jobs of the list are closed, the first one first.
abbrev pub closings : History → List ℕ → History
closings H [] = H
closings H (a ∷ l) = closings (closing H a) l
