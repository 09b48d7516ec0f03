-- A close keeps what every history keeps, where nothing open was before the job.
use Prim.Native.Nat.{ℕ, ◌<◌}
use native.Mathlib.Omega.{arith}
use native.Mathlib.Nat.{le_step}
use native.Mathlib.Decide.{ℕ_discrete}
use mathlib.Core.Path.{◌≡◌, refl, sym, ◌∙◌, subst}
use mathlib.Core.Logic.{◌≢◌, inl, inr}
use Rattle.histories.specs.History.{History, Open, Closed, BeforeAt}
use Rattle.histories.specs.Change.{closing}
use Rattle.histories.specs.Past.{Past}
use Rattle.histories.proofs.Rings.{released_opened}

module _ (H : History) (a : ℕ) where
  abbrev G : History
  G = closing H a

  pub was_open : {x : ℕ} → Open G x → Open H x
  was_open p = (p.0, λ c. p.1 (c.0, inl c.1))

  pub another : {x : ℕ} → Open G x → x ≢ a
  another p e = p.1 (H.now, inr (e, refl))

  pub still_open : {x : ℕ} → Open H x → x ≢ a → Open G x
  still_open {x} p n = (p.0, λ c. closed c.1)
    where
      closed : {time : ℕ} → ¬ G.closed x time
      closed (inl c) = p.1 (_, c)
      closed (inr (e, f)) = n e

  module _ (P : Past H) (o : Open H a) where
    closed_opened : {x time : ℕ} → G.closed x time → x < H.count
    closed_opened (inl c) = P.formed.closed_opened (_, c)
    closed_opened (inr (e, f)) = omega (arith, o.0)

    once : {x time other : ℕ} → G.closed x time → G.closed x other → time ≡ other
    once (inl c) (inl d) = P.formed.closed_once c d
    once {time = time} (inl c) (inr (e, f)) = absurd (o.1 (time, subst (λ (y : ℕ). H.closed y time) e c))
    once {other = other} (inr (e, f)) (inl d) = absurd (o.1 (other, subst (λ (y : ℕ). H.closed y other) e d))
    once (inr (e, f)) (inr (g, h)) = f ∙ sym h

    past : {x time : ℕ} → G.closed x time → time < G.now
    past (inl c) = le_step (P.formed.closed_past c)
    past (inr (e, f)) = omega arith

    decided : (x : ℕ) → Dec (x ≡ a) → Dec (Closed H x) → Dec (Closed G x)
    decided x (yes e) d = yes (H.now, inr (e, refl))
    decided x (no n) (yes c) = yes (c.0, inl c.1)
    decided x (no n) (no u) = no (λ c. neither c.1)
      where
        neither : {time : ℕ} → ¬ G.closed x time
        neither (inl c) = u (_, c)
        neither (inr (e, f)) = n e

    -- (C) for one more closing
    module _ (first : (k x : ℕ) → Open H x → ¬ BeforeAt H k x a) where
      closed_first : {k x b late : ℕ} → BeforeAt H k x b → G.closed b late → (early : ℕ) × G.closed x early × (early < late)
      closed_first p (inl c) = let (early, d, h) = P.closed_in_order.closed_first p c in (early, inl d, h)
      closed_first {k} {x} {b} {late} p (inr (e, f)) = cases (P.formed.closed_decided x)
        where
          cases : Dec (Closed H x) → (early : ℕ) × G.closed x early × (early < late)
          cases (yes c) = (c.0, inl c.1, omega (arith, P.formed.closed_past c.1))
          cases (no u) = absurd (first k x (released_opened H P p.2, u) (subst (BeforeAt H k x) e p))

      pub closing_past : Past G
      closing_past = record {
        formed = record {
          names_opened = P.formed.names_opened;
          asked_names = P.formed.asked_names;
          released_asked = P.formed.released_asked;
          confirmed_released = P.formed.confirmed_released;
          released_once = P.formed.released_once;
          released_past = λ r. le_step (P.formed.released_past r);
          released_decided = P.formed.released_decided;
          close_asked_opened = P.formed.close_asked_opened;
          close_asked_confirmed = P.formed.close_asked_confirmed;
          closed_opened = λ c. closed_opened c.1;
          closed_once = once;
          closed_past = past;
          closed_decided = λ x. decided x (ℕ_discrete x a) (P.formed.closed_decided x);
        };
        closed_in_order = record { closed_first = closed_first };
      }
