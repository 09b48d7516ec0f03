-- A fresh start and every call but a close that goes leave all that is kept, under every lawful profile.
use Prim.Native.Nat.{ℕ}
use mathlib.Core.Path.{◌≡◌, refl, sym, subst}
use mathlib.Core.Logic.{◌⊎◌, inl, inr}
use Rattle.histories.specs.History.{History, Open, Released, Pending, AllConfirmed}
use Rattle.histories.specs.Columns.{fresh}
use Rattle.histories.specs.Change.{opening, asking, confirming, asking_close, releasing}
use Rattle.histories.specs.Profile.{Profile, Standing, Kept}
use Rattle.histories.specs.Lawful.{Lawful}
use Rattle.histories.proofs.Orders.{same}
use Rattle.histories.proofs.Fresh.{fresh_past}
use Rattle.histories.proofs.Opening.{opening_past}
use Rattle.histories.proofs.Marking.{marked_past, asking_marks, confirming_marks, asking_close_marks}
use Rattle.histories.proofs.Settling.{settle_held, settle_released, settled}

module _ (P : Profile) (L : Lawful P) where
  pub fresh_kept : Kept P fresh P.begun
  fresh_kept = record {
    past = fresh_past;
    ordered = L.orderly.beginning;
    steps_wait = record { step_waits = λ p. absurd p.1 };
    closes_wait = record { close_waits = λ o h. absurd h };
  }

  module _ (H : History) (S : P.State) where
    pub open_kept : (named : ℕ → Type 0) (found : P.Finding H S named) → Kept P H S → Kept P (opening H named) (P.opened H S named found)
    open_kept named found K = record {
      past = opening_past H named K.past;
      ordered = L.orderly.opening_job H S named found K.past K.ordered;
      steps_wait = record {
        step_waits = λ (o, q, u).
            L.waits.waits_opened H S named found _ _ (K.steps_wait.step_waits ((K.past.formed.names_opened (K.past.formed.asked_names q), o.1), q, u));
      };
      closes_wait = record {
        close_waits = λ o h. L.waits.close_waits_opened H S named found _ (K.closes_wait.close_waits (K.past.formed.close_asked_opened h, o.1) h);
      };
    }

  module _ (H : History) (S : P.State) (K : Kept P H S) where
    module _ (a k : ℕ) where
      -- when a step is asked for, only its database has to be settled
      asking_standing : H.names a k → Standing P (asking H a k) S (λ j. j ≡ k)
      asking_standing n = record {
        past = marked_past H K.past _ _ _ (asking_marks H K.past a k n);
        ordered = L.orderly.marking H S _ _ _ (asking_marks H K.past a k n) K.ordered;
        step_waits = waits;
        closes_wait = record { close_waits = K.closes_wait.close_waits };
      }
        where
          waits : {x j : ℕ} → Pending (asking H a k) x j → ¬ (j ≡ k) → P.StepWaits H.confirmed S x j
          waits (o, inl q, u) d = K.steps_wait.step_waits (o, q, u)
          waits (o, inr (e, f), u) d = absurd (d f)

      pub ask_held_kept : H.names a k → P.StepWaits H.confirmed S a k → Kept P (asking H a k) S
      ask_held_kept n w = settled P L (asking H a k) S (settle_held P L (asking H a k) S (asking_standing n) k waits) (λ j (f, d). d f)
        where
          waits : (x : ℕ) → Pending (asking H a k) x k → P.StepWaits H.confirmed S x k
          waits x (o, inl q, u) = K.steps_wait.step_waits (o, q, u)
          waits x (o, inr (e, f), u) = same (P.StepWaits H.confirmed S) e f w

      pub ask_released_kept : Open H a → H.names a k → ¬ Released H a k → P.MayGo H.confirmed S a k →
          Kept P (releasing (asking H a k) a k) (P.released (asking H a k) S a k)
      ask_released_kept o n u may =
          settled P L (releasing (asking H a k) a k) (P.released (asking H a k) S a k)
          (settle_released P L (asking H a k) S (asking_standing n) a k (o, inr (refl, refl), u) may) (λ j (f, d). d f)

      -- a confirmation changes nothing for those who wait at another database
      confirming_standing : Released H a k → Standing P (confirming H a k) S (λ j. j ≡ k)
      confirming_standing r = record {
        past = marked_past H K.past _ _ _ (confirming_marks H K.past a k r);
        ordered = L.orderly.marking H S _ _ _ (confirming_marks H K.past a k r) K.ordered;
        step_waits = λ p d. L.waits.waits_confirmed S H.confirmed (confirming H a k).confirmed _ _ (λ y. was d) (K.steps_wait.step_waits p);
        closes_wait = record { close_waits = K.closes_wait.close_waits };
      }
        where
          was : {y j : ℕ} → ¬ (j ≡ k) → (confirming H a k).confirmed y j → H.confirmed y j
          was d (inl c) = c
          was d (inr (e, f)) = absurd (d f)

      pub confirm_kept : Released H a k → ((x : ℕ) → Pending H x k → P.StepWaits (confirming H a k).confirmed S x k) → Kept P (confirming H a k) S
      confirm_kept r all = settled P L (confirming H a k) S (settle_held P L (confirming H a k) S (confirming_standing r) k all) (λ j (f, d). d f)

      pub confirm_released_kept : (b : ℕ) → Released H a k → Pending H b k → P.MayGo (confirming H a k).confirmed S b k →
          Kept P (releasing (confirming H a k) b k) (P.released (confirming H a k) S b k)
      confirm_released_kept b r p may =
          settled P L (releasing (confirming H a k) b k) (P.released (confirming H a k) S b k)
          (settle_released P L (confirming H a k) S (confirming_standing r) b k p may) (λ j (f, d). d f)

    pub close_held_kept : (a : ℕ) → Open H a → AllConfirmed H a → P.CloseWaits S a → Kept P (asking_close H a) S
    close_held_kept a o all w = record {
      past = marked_past H K.past _ _ _ (asking_close_marks H K.past a o all);
      ordered = L.orderly.marking H S _ _ _ (asking_close_marks H K.past a o all) K.ordered;
      steps_wait = record { step_waits = K.steps_wait.step_waits };
      closes_wait = record { close_waits = waits };
    }
      where
        waits : {x : ℕ} → Open H x → H.close_asked x ⊎ (x ≡ a) → P.CloseWaits S x
        waits p (inl h) = K.closes_wait.close_waits p h
        waits p (inr e) = subst (P.CloseWaits S) (sym e) w
