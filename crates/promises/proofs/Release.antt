-- A step released: the tie stays, with the dependencies that the release adds. Assumes nothing.
use Prim.Native.Nat.{ℕ}
use mathlib.Core.Bool.{Bool, true, false, not, ◌&&◌, ◌||◌}
use mathlib.Core.Logic.{◌↔◌, ◌⊎◌, inl, inr, ◌≢◌}
use mathlib.Core.Path.{◌≡◌, refl, ap, subst}
use borrow.Author.Tests.{eqb-true, eqb-false, eq-eqb, ne_eqb, not-true}
use lib.Dec.{eqb}
use Rattle.loops.proofs.Tests.{and_left, and_right, or_cases, or_right, both}
use Rattle.rings.specs.Change.{releasing}
use Rattle.effects.specs.View.{View}
use Rattle.effects.specs.Effect.{released_at}
use Rattle.promises.specs.Told.{Told, released_told}
use Rattle.promises.specs.Promise.{Open, Released}
use Rattle.promises.specs.Tied.{history, Tied}
use Rattle.promises.proofs.Marks.{marked_iff}

-- true or not
pub is_not : {b : Bool} {P : Type 0} → (b ≡ true) ↔ P → ¬ P → b ≡ false
is_not {b = true} h n = absurd (n (h.0 refl))
is_not {b = false} h n = refl

module _ {T : Told} {d : ℕ → ℕ → ℕ → Type 0} {J : ℕ → ℕ} {v : View} (K : Tied T d J v) (j k : ℕ) (o : v.is_open j ≡ true) where
  -- the new dependencies, by slots and by jobs
  abbrev New : ℕ → ℕ → ℕ → Type 0
  New u a b = (u ≡ k) × (J a ≡ J j) × (J b ≢ J j) × Open T (J b) × T.names (J b) u × ¬ Released T (J b) u

  module _ (u a b : ℕ) (p : v.is_open a ≡ true) (q : v.is_open b ≡ true) where
    abbrev test : Bool
    test = eqb u k && eqb a j && v.names b k && not (eqb b j) && not (v.released b k)

    to_new : test ≡ true → New u a b
    to_new e =
        let e₁ = and_left (eqb u k && eqb a j && v.names b k && not (eqb b j)) (not (v.released b k)) e in
        let e₂ = and_left (eqb u k && eqb a j && v.names b k) (not (eqb b j)) e₁ in
        let e₃ = and_left (eqb u k && eqb a j) (v.names b k) e₂ in
        let same : u ≡ k = eqb-true u k (and_left (eqb u k) (eqb a j) e₃) in
        let named : T.names (J b) k = (K.names b k q).0 (and_right (eqb u k && eqb a j) (v.names b k) e₂) in
        let unreleased : v.released b k ≡ false = not-true (v.released b k) (and_right (eqb u k && eqb a j && v.names b k && not (eqb b j)) (not (v.released b k)) e) in
        let differ : eqb b j ≡ false = not-true (eqb b j) (and_right (eqb u k && eqb a j && v.names b k) (not (eqb b j)) e₁) in (
          same,
          ap J (eqb-true a j (and_right (eqb u k) (eqb a j) e₃)),
          (λ z. eqb-false b j differ (K.apart b j q o z)),
          K.sits b q,
          rw same named,
          rw same (λ r. both ((K.released b k q).1 r) unreleased),
        )

    from_new : New u a b → test ≡ true
    from_new (e, f, n, x, m, r) =
        let named : v.names b k ≡ true = (K.names b k q).1 (subst (λ (y : ℕ). T.names (J b) y) e m) in
        let unreleased : v.released b k ≡ false = is_not (K.released b k q) (subst (λ (y : ℕ). ¬ Released T (J b) y) e r) in
        rw (eq-eqb u k e, eq-eqb a j (K.apart a j p o f), named, ne_eqb b j (λ z. n (ap J z)), unreleased)

    dep_iff : ((test || v.dep u a b) ≡ true) ↔ (d u (J a) (J b) ⊎ New u a b)
    dep_iff = (λ e. to (or_cases test (v.dep u a b) e), from)
      where
        to : (test ≡ true) ⊎ (v.dep u a b ≡ true) → d u (J a) (J b) ⊎ New u a b
        to (inl e) = inr (to_new e)
        to (inr e) = inl ((K.dep u a b p q).0 e)

        from : d u (J a) (J b) ⊎ New u a b → (test || v.dep u a b) ≡ true
        from (inl x) = or_right test (v.dep u a b) ((K.dep u a b p q).1 x)
        from (inr x) = rw (from_new x)

  -- a step was released before, or is now
  module _ (a u : ℕ) where
    joined : Released T a u ⊎ ((a ≡ J j) × (u ≡ k)) → Released (released_told T (J j) k) a u
    joined (inl (t, r)) = (t, inl r)
    joined (inr (e, f)) = (T.now, inr (e, f, refl))

    parted : Released (released_told T (J j) k) a u → Released T a u ⊎ ((a ≡ J j) × (u ≡ k))
    parted (t, inl r) = inl (t, r)
    parted (t, inr (e, f, g)) = inr (e, f)

  pub tied_released : Tied (released_told T (J j) k) (releasing (history T d) (J j) k).dep J (released_at v j k)
  tied_released = record {
    inside = K.inside;
    sits = K.sits;
    apart = K.apart;
    seat = K.seat;
    means = K.means;
    names = K.names;
    asked = K.asked;
    released = λ i u p.
        let h = marked_iff J i j u k (v.released i u) (Released T (J i) u) (K.apart i j p o) (K.released i u p) in
        (λ e. joined (J i) u (h.0 e), λ r. h.1 (parted (J i) u r));
    confirmed = K.confirmed;
    held = K.held;
    dep = λ u a b p q. dep_iff u a b p q;
    rising = K.rising;
  }
