-- A tie holds of all views that show the same. Assumes nothing.
use Prim.Native.Nat.{ℕ}
use mathlib.Core.Bool.{Bool, true}
use mathlib.Core.Logic.{◌↔◌}
use mathlib.Core.Path.{◌≡◌, sym, ◌∙◌}
use Rattle.effects.specs.View.{View, Alike}
use Rattle.promises.specs.Told.{Told}
use Rattle.promises.specs.Tied.{Tied}

along : {x y : Bool} {P : Type 0} → x ≡ y → (y ≡ true) ↔ P → (x ≡ true) ↔ P
along e h = (λ p. h.0 (sym e ∙ p), λ q. e ∙ h.1 q)

module _ {T : Told} {d : ℕ → ℕ → ℕ → Type 0} {J : ℕ → ℕ} {v w : View} (A : Alike v w) (K : Tied T d J w) where
  was : (i : ℕ) → v.is_open i ≡ true → w.is_open i ≡ true
  was i o = sym (A.is_open i) ∙ o

  pub tied_alike : Tied T d J v
  tied_alike = record {
    inside = λ i o. K.inside i (was i o);
    sits = λ i o. K.sits i (was i o);
    apart = λ i j o p. K.apart i j (was i o) (was j p);
    seat = λ a o. let (i, p, e) = K.seat a o in (i, A.is_open i ∙ p, e);
    means = λ i o. rw (A.ticket i) (K.means i (was i o));
    names = λ i k o. along (A.names i k) (K.names i k (was i o));
    asked = λ i k o. along (A.asked i k) (K.asked i k (was i o));
    released = λ i k o. along (A.released i k) (K.released i k (was i o));
    confirmed = λ i k o. along (A.confirmed i k) (K.confirmed i k (was i o));
    held = λ i o. along (A.held i) (K.held i (was i o));
    dep = λ k i j o p. along (A.dep k i j (K.inside j (was j p))) (K.dep k i j (was i o) (was j p));
    rising = λ i k h l. rw (A.opened i, A.opened k) (K.rising i k h (rw A.count at l));
  }
