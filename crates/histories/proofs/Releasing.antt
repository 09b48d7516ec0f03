-- A release keeps what every history keeps.
use Prim.Native.Nat.{ℕ, ◌<◌}
use native.Mathlib.Omega.{arith}
use native.Mathlib.Nat.{le_step}
use native.Mathlib.Decide.{ℕ_discrete}
use mathlib.Core.Path.{◌≡◌, refl, sym, ◌∙◌, subst}
use mathlib.Core.Logic.{◌⊎◌, inl, inr}
use Rattle.histories.specs.History.{History, Released, BeforeAt, Pending}
use Rattle.histories.specs.Change.{releasing}
use Rattle.histories.specs.Past.{Past}
use Rattle.histories.proofs.Orders.{same}

module _ (H : History) (a k : ℕ) where
  abbrev G : History
  G = releasing H a k

  -- a release is new, or it was there
  pub earlier : {x j : ℕ} → Released H x j → Released G x j
  earlier (time, r) = (time, inl r)

  pub new : {x j : ℕ} → x ≡ a → j ≡ k → Released G x j
  new e f = (H.now, inr (e, f, refl))

  pub either : {x j : ℕ} → Released G x j → Released H x j ⊎ ((x ≡ a) × (j ≡ k))
  either (time, inl r) = inl (time, r)
  either (time, inr (e, f, g)) = inr (e, f)

  pub earlier_before : {x y j : ℕ} → BeforeAt H j x y → BeforeAt G j x y
  earlier_before (early, late, p, q, h) = (early, late, inl p, inl q, h)

  module _ (P : Past H) where
    -- what was released there is before the new one
    pub before_new : {x : ℕ} → Released H x k → BeforeAt G k x a
    before_new (early, p) = (early, H.now, inl p, inr (refl, refl, refl), P.formed.released_past p)

    -- of two releases in order the second is the new one, or both were there
    pub order : {x y j : ℕ} → BeforeAt G j x y → BeforeAt H j x y ⊎ (Released H x j × (y ≡ a) × (j ≡ k))
    order (early, late, inl p, inl q, h) = inl (early, late, p, q, h)
    order (early, late, inl p, inr (e, f, g), h) = inr ((early, p), e, f)
    order (early, late, inr (e, f, g), inl q, h) = absurd (omega (arith, P.formed.released_past q))
    order (early, late, inr (e, f, g), inr (e', f', g'), h) = absurd (omega arith)

  module _ (P : Past H) (p : Pending H a k) where
    released_asked : {x j : ℕ} → Released H x j ⊎ ((x ≡ a) × (j ≡ k)) → H.asked x j
    released_asked (inl r) = P.formed.released_asked r
    released_asked (inr (e, f)) = same H.asked e f p.1

    -- the pending step was not released, under whatever name
    not_yet : {x j time : ℕ} → x ≡ a → j ≡ k → ¬ H.released x j time
    not_yet e f r = p.2 (same (Released H) (sym e) (sym f) (_, r))

    once : {x j time other : ℕ} → G.released x j time → G.released x j other → time ≡ other
    once (inl r) (inl q) = P.formed.released_once r q
    once (inl r) (inr (e, f, g)) = absurd (not_yet e f r)
    once (inr (e, f, g)) (inl q) = absurd (not_yet e f q)
    once (inr (e, f, g)) (inr (e', f', g')) = g ∙ sym g'

    past : {x j time : ℕ} → G.released x j time → time < G.now
    past (inl r) = le_step (P.formed.released_past r)
    past (inr (e, f, g)) = omega arith

    decided : (x j : ℕ) → Dec (Released H x j) → Dec (x ≡ a) → Dec (j ≡ k) → Dec (Released G x j)
    decided x j (yes r) d d' = yes (earlier r)
    decided x j (no u) (yes e) (yes f) = yes (new e f)
    decided x j (no u) (yes e) (no n) = no (λ r. neither (either r))
      where
        neither : Released H x j ⊎ ((x ≡ a) × (j ≡ k)) → ⊥
        neither (inl r) = u r
        neither (inr (e', f)) = n f
    decided x j (no u) (no n) d' = no (λ r. neither (either r))
      where
        neither : Released H x j ⊎ ((x ≡ a) × (j ≡ k)) → ⊥
        neither (inl r) = u r
        neither (inr (e, f)) = n e

    closed_first : {j x y late : ℕ} → BeforeAt H j x y ⊎ (Released H x j × (y ≡ a) × (j ≡ k)) → H.closed y late → (early : ℕ) × H.closed x early × (early < late)
    closed_first (inl b) c = P.closed_in_order.closed_first b c
    closed_first {late = late} (inr (b, e, f)) c = absurd (p.0.1 (late, subst (λ (z : ℕ). H.closed z late) e c))

    pub releasing_past : Past G
    releasing_past = record {
      formed = record {
        names_opened = P.formed.names_opened;
        asked_names = P.formed.asked_names;
        released_asked = λ r. released_asked (either r);
        confirmed_released = λ c. earlier (P.formed.confirmed_released c);
        released_once = once;
        released_past = past;
        released_decided = λ x j. decided x j (P.formed.released_decided x j) (ℕ_discrete x a) (ℕ_discrete j k);
        close_asked_opened = P.formed.close_asked_opened;
        close_asked_confirmed = P.formed.close_asked_confirmed;
        closed_opened = P.formed.closed_opened;
        closed_once = P.formed.closed_once;
        closed_past = λ c. le_step (P.formed.closed_past c);
        closed_decided = P.formed.closed_decided;
      };
      closed_in_order = record { closed_first = λ b c. closed_first (order P b) c };
    }
