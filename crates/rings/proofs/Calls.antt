-- Every call leaves all that is kept.
use Prim.Native.Nat.{ℕ}
use mathlib.Core.Path.{◌≡◌, refl, sym, subst}
use mathlib.Core.Logic.{◌≢◌, ◌⊎◌, inl, inr}
use mathlib.Core.List.{List, [], ◌∷◌}
use native.Mathlib.Decide.{ℕ_discrete}
use native.Mathlib.Nat.{not-suc-le-zero}
use Rattle.rings.specs.History.{History, Open, Released}
use Rattle.rings.specs.Change.{fresh, opening, asking, confirming, holding, releasing, closing, closings}
use Rattle.rings.specs.Rule.{Pending, MayGo, StepWaits, CloseWaits, InTurn, Searched}
use Rattle.rings.specs.Kept.{Ordered, StepsWait, ClosesWait, Kept}
use Rattle.rings.proofs.Orders.{same}
use Rattle.rings.proofs.Opening.{opening_ordered, opening_steps_wait, opening_closes_wait}
use Rattle.rings.proofs.Marking.{asking_ordered, confirming_ordered, holding_ordered}
use Rattle.rings.proofs.Releasing.{releasing_ordered, releasing_steps_wait, releasing_closes_wait}
use Rattle.rings.proofs.Closing.{closing_ordered, closing_steps_wait}

module _ (H : History) (K : Kept H) where
  pub open_kept : {named : ℕ → Type 0} {found : ℕ → ℕ → Type 0} → Searched H named found → Kept (opening H named found)
  open_kept S = record {
    ordered = opening_ordered H _ _ K.ordered S;
    steps_wait = opening_steps_wait H _ _ K.ordered K.steps_wait;
    closes_wait = opening_closes_wait H _ _ K.ordered K.closes_wait;
  }

  module _ {a k : ℕ} where
    pub ask_held_kept : H.names a k → StepWaits H a k → Kept (asking H a k)
    ask_held_kept n w = record {
      ordered = asking_ordered H K.ordered n;
      steps_wait = record { step_waits = waits };
      closes_wait = record { close_waits = K.closes_wait.close_waits };
    }
      where
        waits : {x j : ℕ} → Pending (asking H a k) x j → StepWaits H x j
        waits (o, inl q, u) = K.steps_wait.step_waits (o, q, u)
        waits (o, inr (e, f), u) = same (StepWaits H) e f w

    pub ask_released_kept : Open H a → H.names a k → ¬ Released H a k → MayGo H a k → Kept (releasing (asking H a k) a k)
    ask_released_kept o n u may = record {
      ordered = releasing_ordered (asking H a k) p asked may;
      steps_wait = releasing_steps_wait (asking H a k) p asked.formed elsewhere;
      closes_wait = releasing_closes_wait (asking H a k) p (record { close_waits = K.closes_wait.close_waits });
    }
      where
        p : Pending (asking H a k) a k
        p = (o, inr (refl, refl), u)

        asked : Ordered (asking H a k)
        asked = asking_ordered H K.ordered n

        elsewhere : (x j : ℕ) → Pending (asking H a k) x j → j ≢ k → StepWaits H x j
        elsewhere x j (q, inl r, v) d = K.steps_wait.step_waits (q, r, v)
        elsewhere x j (q, inr (e, f), v) d = absurd (d f)

    -- A confirmation changes nothing for those who wait at another database.
    elsewhere : {x j : ℕ} → Pending H x j → j ≢ k → StepWaits (confirming H a k) x j
    elsewhere {x} {j} p d = let (y, e, v) = K.steps_wait.step_waits p in (y, e, still v)
      where
        still : {y : ℕ} → ¬ H.confirmed y j → ¬ (confirming H a k).confirmed y j
        still v (inl c) = v c
        still v (inr (e, f)) = d f

    pub confirm_kept : Released H a k → ((x : ℕ) → Pending H x k → StepWaits (confirming H a k) x k) → Kept (confirming H a k)
    confirm_kept r all = record {
      ordered = confirming_ordered H K.ordered r;
      steps_wait = record { step_waits = λ p. waits p (ℕ_discrete _ k) };
      closes_wait = record { close_waits = K.closes_wait.close_waits };
    }
      where
        waits : {x j : ℕ} → Pending H x j → Dec (j ≡ k) → StepWaits (confirming H a k) x j
        waits {x} p (yes f) = subst (λ (i : ℕ). Pending H x i → StepWaits (confirming H a k) x i) (sym f) (all x) p
        waits p (no n) = elsewhere p n

    pub confirm_released_kept : {b : ℕ} → Released H a k → Pending H b k → MayGo (confirming H a k) b k → Kept (releasing (confirming H a k) b k)
    confirm_released_kept r p may = record {
      ordered = releasing_ordered (confirming H a k) p (confirming_ordered H K.ordered r) may;
      steps_wait = releasing_steps_wait (confirming H a k) p (confirming_ordered H K.ordered r).formed (λ x j q n. elsewhere q n);
      closes_wait = releasing_closes_wait (confirming H a k) p (record { close_waits = K.closes_wait.close_waits });
    }

  pub close_held_kept : {a : ℕ} → Open H a → CloseWaits H a → Kept (holding H a)
  close_held_kept {a} o w = record {
    ordered = holding_ordered H K.ordered o;
    steps_wait = record { step_waits = K.steps_wait.step_waits };
    closes_wait = record { close_waits = waits };
  }
    where
      waits : {x : ℕ} → Open H x → H.held x ⊎ (x ≡ a) → CloseWaits H x
      waits p (inl h) = K.closes_wait.close_waits p h
      waits p (inr e) = subst (CloseWaits H) (sym e) w

-- a close with those that it lets go, as long as some held close may go
pub closings_kept : (H : History) (l : List ℕ) → Ordered H → StepsWait H → InTurn H l → ClosesWait (closings H l) → Kept (closings H l)
closings_kept H [] K Q t C = record { ordered = K; steps_wait = Q; closes_wait = C }
closings_kept H (a ∷ l) K Q (o, may, all, t) C =
    closings_kept (closing H a) l (closing_ordered H o K may) (closing_steps_wait H o K.depends all Q) t C

pub close_kept : (H : History) (l : List ℕ) → Kept H → InTurn H l → ClosesWait (closings H l) → Kept (closings H l)
close_kept H l K = closings_kept H l K.ordered K.steps_wait

pub fresh_kept : Kept fresh
fresh_kept = record {
  ordered = record {
    formed = record {
      names_opened = absurd;
      asked_names = absurd;
      released_asked = λ r. absurd r.1;
      confirmed_released = absurd;
      released_once = λ p q. absurd p;
      released_past = absurd;
      released_decided = λ a k. no (λ r. r.1);
      held_opened = absurd;
      closed_opened = λ c. absurd c.1;
      closed_once = λ c d. absurd c;
      closed_past = absurd;
      closed_decided = λ a. no (λ c. c.1);
    };
    depends = record {
      dep_open = absurd;
      dep_names = absurd;
      dep_first = λ d r. absurd d;
      dep_confirmed = λ d r. absurd d;
      dep_older = λ d u. absurd d;
      leads_unreleased = λ o p r n u. absurd n;
      leads_later = λ o p b. absurd b.2;
    };
    closed_in_order = record { closed_first = λ p c. absurd c };
    walkless = record { no_walk = λ o w. not-suc-le-zero o.0 };
  };
  steps_wait = record { step_waits = λ p. absurd p.1 };
  closes_wait = record { close_waits = λ o h. absurd h };
}
