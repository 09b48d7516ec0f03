-- A step asked or confirmed, a close asked for: the tie stays. Assumes nothing.
use Prim.Native.Nat.{ℕ}
use mathlib.Core.Bool.{Bool, true, ◌&&◌, ◌||◌}
use mathlib.Core.Logic.{◌↔◌, ◌⊎◌, inl, inr}
use mathlib.Core.Path.{◌≡◌, ap}
use borrow.Author.Tests.{eqb-true, eq-eqb}
use lib.Dec.{eqb}
use Rattle.loops.proofs.Tests.{and_left, and_right, or_cases, or_right}
use Rattle.effects.specs.View.{View}
use Rattle.effects.specs.Effect.{asked_at, confirmed_at, held_at}
use Rattle.promises.specs.Told.{Told, asked_told, confirmed_told, close_asked_told}
use Rattle.promises.specs.Tied.{Tied}

-- one more place of a mark, by slots and by jobs
pub marked_iff : (J : ℕ → ℕ) (i j k u : ℕ) (p : Bool) (P : Type 0) → (J i ≡ J j → i ≡ j) → (p ≡ true) ↔ P
    → ((eqb i j && eqb k u || p) ≡ true) ↔ (P ⊎ ((J i ≡ J j) × (k ≡ u)))
marked_iff J i j k u p P one h = (λ e. to (or_cases (eqb i j && eqb k u) p e), from)
  where
    to : (eqb i j && eqb k u ≡ true) ⊎ (p ≡ true) → P ⊎ ((J i ≡ J j) × (k ≡ u))
    to (inl e) = inr (ap J (eqb-true i j (and_left (eqb i j) (eqb k u) e)), eqb-true k u (and_right (eqb i j) (eqb k u) e))
    to (inr e) = inl (h.0 e)

    from : P ⊎ ((J i ≡ J j) × (k ≡ u)) → (eqb i j && eqb k u || p) ≡ true
    from (inl q) = or_right (eqb i j && eqb k u) p (h.1 q)
    from (inr (e, f)) = rw (eq-eqb i j (one e), eq-eqb k u f)

pub marked_one : (J : ℕ → ℕ) (i j : ℕ) (p : Bool) (P : Type 0) → (J i ≡ J j → i ≡ j) → (p ≡ true) ↔ P → ((eqb i j || p) ≡ true) ↔ (P ⊎ (J i ≡ J j))
marked_one J i j p P one h = (λ e. to (or_cases (eqb i j) p e), from)
  where
    to : (eqb i j ≡ true) ⊎ (p ≡ true) → P ⊎ (J i ≡ J j)
    to (inl e) = inr (ap J (eqb-true i j e))
    to (inr e) = inl (h.0 e)

    from : P ⊎ (J i ≡ J j) → (eqb i j || p) ≡ true
    from (inl q) = or_right (eqb i j) p (h.1 q)
    from (inr e) = rw (eq-eqb i j (one e))

module _ {T : Told} {d : ℕ → ℕ → ℕ → Type 0} {J : ℕ → ℕ} {v : View} (K : Tied T d J v) (j : ℕ) (o : v.is_open j ≡ true) where
  pub tied_asked : (k : ℕ) → Tied (asked_told T (J j) k) d J (asked_at v j k)
  tied_asked k = record {
    inside = K.inside;
    sits = K.sits;
    apart = K.apart;
    seat = K.seat;
    means = K.means;
    names = K.names;
    asked = λ i u p. marked_iff J i j u k (v.asked i u) (T.asked (J i) u) (K.apart i j p o) (K.asked i u p);
    released = K.released;
    confirmed = K.confirmed;
    held = K.held;
    dep = K.dep;
    rising = K.rising;
  }

  pub tied_confirmed : (k : ℕ) → Tied (confirmed_told T (J j) k) d J (confirmed_at v j k)
  tied_confirmed k = record {
    inside = K.inside;
    sits = K.sits;
    apart = K.apart;
    seat = K.seat;
    means = K.means;
    names = K.names;
    asked = K.asked;
    released = K.released;
    confirmed = λ i u p. marked_iff J i j u k (v.confirmed i u) (T.confirmed (J i) u) (K.apart i j p o) (K.confirmed i u p);
    held = K.held;
    dep = K.dep;
    rising = K.rising;
  }

  pub tied_held : Tied (close_asked_told T (J j)) d J (held_at v j)
  tied_held = record {
    inside = K.inside;
    sits = K.sits;
    apart = K.apart;
    seat = K.seat;
    means = K.means;
    names = K.names;
    asked = K.asked;
    released = K.released;
    confirmed = K.confirmed;
    held = λ i p. marked_one J i j (v.held i) (T.close_asked (J i)) (K.apart i j p o) (K.held i p);
    dep = K.dep;
    rising = K.rising;
  }
