-- An opening keeps what every history keeps.
use Prim.Native.Nat.{ℕ, ◌<◌}
use native.Mathlib.Omega.{arith}
use native.Mathlib.Nat.{le_step}
use mathlib.Core.Path.{◌≡◌}
use mathlib.Core.Logic.{inl, inr}
use Rattle.histories.specs.History.{History, Open, Released}
use Rattle.histories.specs.Change.{opening}
use Rattle.histories.specs.Past.{Past}
use Rattle.histories.proofs.Rings.{released_opened}

module _ (H : History) (named : ℕ → Type 0) where
  abbrev G : History
  G = opening H named

  pub old_open : {a : ℕ} → Open H a → Open G a
  old_open o = (le_step o.0, o.1)

  pub was_named : {a k : ℕ} → a < H.count → G.names a k → H.names a k
  was_named h (inl n) = n
  was_named h (inr (e, n)) = absurd (omega arith)

  module _ (P : Past H) where
    pub new_open : {b : ℕ} → b ≡ H.count → Open G b
    new_open e = (omega arith, λ c. omega (arith, P.formed.closed_opened c))

    pub new_unreleased : {b k : ℕ} → b ≡ H.count → ¬ Released H b k
    new_unreleased e r = omega (arith, released_opened H P r.1)

    -- a job with a step released was open, if it is
    pub released_open : {a k : ℕ} → Released H a k → Open G a → Open H a
    released_open r o = (released_opened H P r.1, o.1)

    opened : {a k : ℕ} → G.names a k → a < G.count
    opened (inl n) = le_step (P.formed.names_opened n)
    opened (inr (e, n)) = omega arith

    pub opening_past : Past G
    opening_past = record {
      formed = record {
        names_opened = opened;
        asked_names = λ q. inl (P.formed.asked_names q);
        released_asked = P.formed.released_asked;
        confirmed_released = P.formed.confirmed_released;
        released_once = P.formed.released_once;
        released_past = P.formed.released_past;
        released_decided = P.formed.released_decided;
        close_asked_opened = λ h. le_step (P.formed.close_asked_opened h);
        close_asked_confirmed = λ h n. P.formed.close_asked_confirmed h (was_named (P.formed.close_asked_opened h) n);
        closed_opened = λ c. le_step (P.formed.closed_opened c);
        closed_once = P.formed.closed_once;
        closed_past = P.formed.closed_past;
        closed_decided = P.formed.closed_decided;
      };
      closed_in_order = record { closed_first = P.closed_in_order.closed_first };
    }
