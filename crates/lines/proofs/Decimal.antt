-- The laws of decimals. Assumes nothing.
use Prim.Native.Nat.{ℕ, zero, suc, ◌+◌, ◌-◌, ◌*◌, ◌/◌, ◌%◌, ◌^◌, ◌≤◌, ◌<◌}
use mathlib.Core.Path.{◌≡◌, refl, sym, ap, ◌∙◌}
use mathlib.Core.List.{List, [], ◌∷◌, ◌++◌}
use mathlib.Core.Bool.{Bool, true, false}
use native.Mathlib.Omega.{arith}
use native.Mathlib.Nat.{pow-suc}
use borrow.Author.Tests.{lt-ltb, le-ltb, ltb-true, ltb-false}
use lib.Dec.{ltb}
use lib.ListN.{length, length-append}
use Rattle.lines.specs.Line.{decimal_in}

decimal_low : (k n : ℕ) → n < 10 → (48 + n) ∷ [] ≡ decimal_in (suc k) n
unfolding decimal_in
decimal_low k n h = rw (decimal_in, lt-ltb n 10 h)

decimal_high : (k n : ℕ) → 10 ≤ n → decimal_in k (n / 10) ++ ((48 + n % 10) ∷ []) ≡ decimal_in (suc k) n
unfolding decimal_in
decimal_high k n h = rw (decimal_in, le-ltb n 10 h)

by_ten : {P : Type 0} (n : ℕ) → (n < 10 → P) → (10 ≤ n → P) → P
by_ten {P} n f g = go (ltb n 10) refl where
  go : (b : Bool) → ltb n 10 ≡ b → P
  go true e = f (ltb-true n 10 e)
  go false e = g (ltb-false n 10 e)

decimal_none : (n : ℕ) → length (decimal_in 0 n) ≡ 0
unfolding decimal_in
decimal_none n = refl

pub length_decimal : (k n : ℕ) → length (decimal_in k n) ≤ k
length_decimal zero n = omega (arith, decimal_none n)
length_decimal (suc k) n =
    by_ten n (λ h. rw (← decimal_low k n h) (omega arith))
    (λ h. rw (← decimal_high k n h) (simp length-append (omega (arith, length_decimal k (n / 10)))))

-- a number of two digits or more needs two places or more, and all but its last digit one place less
places : (k n : ℕ) → 10 ≤ n → n < 10 ^ suc k → 0 < k
places zero n l h = absurd (omega arith)
places (suc k) n l h = omega arith

fewer : (k n : ℕ) → n < 10 ^ suc k → n / 10 < 10 ^ k
fewer k n h = let e : 10 ^ suc k ≡ 10 ^ k * 10 = pow-suc 10 k in omega arith

-- enough places are enough
pub decimal_more : (k j n : ℕ) → 0 < k → n < 10 ^ k → k ≤ j → decimal_in k n ≡ decimal_in j n
decimal_more zero j n p h l = absurd (omega arith)
decimal_more (suc k) zero n p h l = absurd (omega arith)
decimal_more (suc k) (suc j) n p h l =
    by_ten n (λ lt. sym (decimal_low k n lt) ∙ decimal_low j n lt)
    (λ le. sym (decimal_high k n le) ∙ ap (λ (t : List ℕ). t ++ ((48 + n % 10) ∷ [])) (decimal_more k j (n / 10) (places k n le h) (fewer k n h) (omega arith)) ∙ decimal_high j n le)

-- the same, told of k and k - 1
pub sub_places : (k n : ℕ) → 10 ≤ n → n < 10 ^ k → 0 < k - 1
sub_places zero n l h = absurd (omega arith)
sub_places (suc k) n l h = let p : 0 < k = places k n l h in omega arith

pub sub_fewer : (k n : ℕ) → 0 < k → n < 10 ^ k → n / 10 < 10 ^ (k - 1)
sub_fewer zero n l h = absurd (omega arith)
sub_fewer (suc k) n l h = let e : suc k - 1 ≡ k = omega arith in rw e (fewer k n h)
