-- A step asked for or confirmed and a close held keep what every history keeps.
use Prim.Native.Nat.{ℕ, ◌<◌}
use mathlib.Core.Path.{◌≡◌, sym, subst}
use mathlib.Core.Logic.{◌⊎◌, inl, inr}
use Rattle.histories.specs.History.{History, Open, Released, AllConfirmed}
use Rattle.histories.specs.Change.{Marks, marked, asking, confirming, asking_close}
use Rattle.histories.specs.Past.{Past}
use Rattle.histories.proofs.Orders.{same}

module _ (H : History) (P : Past H) where
  pub marked_past : (asked confirmed : ℕ → ℕ → Type 0) (close_asked : ℕ → Type 0) → Marks H asked confirmed close_asked → Past (marked H asked confirmed close_asked)
  marked_past asked confirmed close_asked M = record {
    formed = record {
      names_opened = P.formed.names_opened;
      asked_names = M.asked_names;
      released_asked = λ r. M.more_asked (P.formed.released_asked r);
      confirmed_released = M.confirmed_released;
      released_once = P.formed.released_once;
      released_past = P.formed.released_past;
      released_decided = P.formed.released_decided;
      close_asked_opened = M.close_asked_opened;
      close_asked_confirmed = M.close_asked_confirmed;
      closed_opened = P.formed.closed_opened;
      closed_once = P.formed.closed_once;
      closed_past = P.formed.closed_past;
      closed_decided = P.formed.closed_decided;
    };
    closed_in_order = record { closed_first = P.closed_in_order.closed_first };
  }

  -- what each of the three marks
  module _ (a k : ℕ) where
    pub asking_marks : H.names a k → Marks H (asking H a k).asked H.confirmed H.close_asked
    asking_marks n = record {
      more_asked = inl;
      asked_names = named;
      more_confirmed = λ c. c;
      confirmed_released = P.formed.confirmed_released;
      close_asked_opened = P.formed.close_asked_opened;
      close_asked_confirmed = P.formed.close_asked_confirmed;
    }
      where
        named : {x j : ℕ} → H.asked x j ⊎ ((x ≡ a) × (j ≡ k)) → H.names x j
        named (inl q) = P.formed.asked_names q
        named (inr (e, f)) = same H.names e f n

    pub confirming_marks : Released H a k → Marks H H.asked (confirming H a k).confirmed H.close_asked
    confirming_marks r = record {
      more_asked = λ q. q;
      asked_names = P.formed.asked_names;
      more_confirmed = inl;
      confirmed_released = released;
      close_asked_opened = P.formed.close_asked_opened;
      close_asked_confirmed = λ h m. inl (P.formed.close_asked_confirmed h m);
    }
      where
        released : {x j : ℕ} → H.confirmed x j ⊎ ((x ≡ a) × (j ≡ k)) → Released H x j
        released (inl c) = P.formed.confirmed_released c
        released (inr (e, f)) = same (Released H) e f r

  pub asking_close_marks : (a : ℕ) → Open H a → AllConfirmed H a → Marks H H.asked H.confirmed (asking_close H a).close_asked
  asking_close_marks a o all = record {
    more_asked = λ q. q;
    asked_names = P.formed.asked_names;
    more_confirmed = λ c. c;
    confirmed_released = P.formed.confirmed_released;
    close_asked_opened = opened;
    close_asked_confirmed = done;
  }
    where
      opened : {x : ℕ} → H.close_asked x ⊎ (x ≡ a) → x < H.count
      opened (inl h) = P.formed.close_asked_opened h
      opened (inr e) = subst (λ (y : ℕ). y < H.count) (sym e) o.0

      done : {x j : ℕ} → H.close_asked x ⊎ (x ≡ a) → H.names x j → H.confirmed x j
      done (inl h) n = P.formed.close_asked_confirmed h n
      done {j = j} (inr e) n = subst (λ (y : ℕ). H.confirmed y j) (sym e) (all j (subst (λ (y : ℕ). H.names y j) e n))
