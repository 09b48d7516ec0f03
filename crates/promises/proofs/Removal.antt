-- A job closed: the tie stays for the others. Assumes nothing.
use Prim.Native.Nat.{ℕ, ◌+◌, ◌<◌, ◌≤◌}
use native.Mathlib.Omega.{arith}
use mathlib.Core.Bool.{Bool, true, false, not, ◌&&◌}
use mathlib.Core.Logic.{◌↔◌, inl, inr, ◌≢◌}
use mathlib.Core.Path.{◌≡◌, refl, sym, ap, ◌∙◌}
use borrow.Author.Tests.{eqb-false, ne_eqb, not-true, ltb-true, ltb-false}
use lib.Dec.{eqb, ltb}
use Rattle.loops.specs.Sum.{tally}
use Rattle.loops.proofs.Tests.{and_left, and_right, both}
use Rattle.rings.specs.Change.{closing}
use Rattle.effects.specs.View.{View}
use Rattle.effects.specs.Effect.{removed_at}
use Rattle.promises.specs.Told.{Told, closed_told}
use Rattle.promises.specs.Promise.{Open}
use Rattle.promises.specs.Tied.{history, Tied}

-- the places after p move up by one, and stay in order
moved_rising : (p i k : ℕ) → i < k → i + tally (not (ltb i p)) < k + tally (not (ltb k p))
moved_rising p i k h = by (ltb i p) refl (ltb k p) refl
  where
    by : (s : Bool) → ltb i p ≡ s → (t : Bool) → ltb k p ≡ t → i + tally (not s) < k + tally (not t)
    by true e true f = omega arith
    by true e false f = omega arith
    by false e true f = omega (arith, ltb-false i p e, ltb-true k p f)
    by false e false f = omega arith

moved_most : (p k : ℕ) → k + tally (not (ltb k p)) ≤ k + 1
moved_most p k = by (ltb k p)
  where
    by : (t : Bool) → k + tally (not t) ≤ k + 1
    by true = omega arith
    by false = omega arith

left_as : (b : Bool) (t : ℕ) → b ≡ false → elim b [ true ↦ 0 | false ↦ t ] ≡ t
left_as true t e = both refl e
left_as false t e = refl

module _ {T : Told} {d : ℕ → ℕ → ℕ → Type 0} {J : ℕ → ℕ} {v : View} (K : Tied T d J v) (j p : ℕ) (o : v.is_open j ≡ true) where
  -- another open slot
  module _ (i : ℕ) (h : not (eqb i j) && v.is_open i ≡ true) where
    other : eqb i j ≡ false
    other = not-true (eqb i j) (and_left (not (eqb i j)) (v.is_open i) h)

    was_open : v.is_open i ≡ true
    was_open = and_right (not (eqb i j)) (v.is_open i) h

    another : J i ≢ J j
    another e = eqb-false i j other (K.apart i j was_open o e)

    kept : (b : Bool) {P : Type 0} → (b ≡ true) ↔ P → (not (eqb i j) && b ≡ true) ↔ P
    kept b e = (λ x. e.0 (and_right (not (eqb i j)) b x), λ x. rw (other, e.1 x))

  still_open : (a : ℕ) → a ≢ J j → Open T a → Open (closed_told T (J j)) a
  still_open a n (h, u) = (h, λ c. not_closed c.1)
    where
      not_closed : {t : ℕ} → ¬ (closed_told T (J j)).closed a t
      not_closed (inl c) = u (_, c)
      not_closed (inr (e, f)) = n e

  opened_before : (a : ℕ) → Open (closed_told T (J j)) a → Open T a
  opened_before a (h, u) = (h, λ c. u (c.0, inl c.1))

  not_closing : (a : ℕ) → Open (closed_told T (J j)) a → a ≢ J j
  not_closing a (h, u) e = u (T.now, inr (e, refl))

  seat : (a : ℕ) → Open (closed_told T (J j)) a → (i : ℕ) × (not (eqb i j) && v.is_open i ≡ true) × (J i ≡ a)
  seat a u =
      let (i, q, e) = K.seat a (opened_before a u) in
      (i, rw (ne_eqb i j (λ z. not_closing a u (sym e ∙ ap J z)), q), e)

  module _ (u a b : ℕ) (x : not (eqb a j) && v.is_open a ≡ true) (y : not (eqb b j) && v.is_open b ≡ true) where
    dep_iff : (not (eqb a j) && not (eqb b j) && v.dep u a b ≡ true) ↔ (d u (J a) (J b) × (J a ≢ J j) × (J b ≢ J j))
    dep_iff =
        let h = K.dep u a b (was_open a x) (was_open b y) in
        (λ e. (h.0 (and_right (not (eqb a j) && not (eqb b j)) (v.dep u a b) e), another a x, another b y), λ (e, m, n). rw (other a x, other b y, h.1 e))

  pub tied_removed : Tied (closed_told T (J j)) (closing (history T d) (J j)).dep J (removed_at v j p)
  tied_removed = record {
    inside = λ i h. K.inside i (was_open i h);
    sits = λ i h. still_open (J i) (another i h) (K.sits i (was_open i h));
    apart = λ i k x y. K.apart i k (was_open i x) (was_open k y);
    seat = seat;
    means = λ i h. ap T.latest (left_as (eqb i j) (v.ticket i) (other i h)) ∙ K.means i (was_open i h);
    names = λ i k h. kept i h (v.names i k) (K.names i k (was_open i h));
    asked = λ i k h. kept i h (v.asked i k) (K.asked i k (was_open i h));
    released = λ i k h. kept i h (v.released i k) (K.released i k (was_open i h));
    confirmed = λ i k h. kept i h (v.confirmed i k) (K.confirmed i k (was_open i h));
    held = λ i h. kept i h (v.held i) (K.held i (was_open i h));
    dep = dep_iff;
    rising = λ i k h l. K.rising _ _ (moved_rising p i k h) (omega (arith, moved_most p k));
  }
