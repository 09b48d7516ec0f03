-- A set gathered from its digits, one a turn. Assumes nothing.
use Rattle.std.proofs.Common.{◌≡◌, ℕ, zero, suc, ◌+◌, ◌*◌, ◌%◌, ◌^◌, ◌<◌, ◌≤◌, max, Bool, true, false, ◌&&◌, eqb, ◌⊎◌, ◌↔◌, sym, refl, ap, ◌∙◌, inl, inr, le_refl, lt_of_lt_of_le, not-suc-le-zero, mod-eq_of_lt, le_antisymm, one-mul, pow-suc, zero-mul, add-one, arith, pow_pos, pow_mono}
use mir.Val.{bool_byte}
use lib.Bits.{bit_or, or_lt, or_zero_r}
use Rattle.loops.specs.Loop.{over, guard}
use Rattle.loops.specs.Sum.{tally}
use Rattle.loops.proofs.Rules.{below_suc, guard_yes, guard_no}
use Rattle.loops.proofs.Turns.{over_same}
use Rattle.loops.proofs.Sums.{tally_le}
use Rattle.mask.specs.Member.{digit, holds}
use Rattle.mask.specs.Members.{over_members, gather}
use Rattle.std.proofs.lemmas.Nat.Bits.{bit_at-pow_other, bit_at-pow_same, bit_at-zero, bit_at_above, bit_at_or}
use Rattle.mask.proofs.Holds.{holds_none, holds_beyond}
use Rattle.mask.proofs.Equal.{same_members}

leaf_lt : (d n : ℕ) → d < 2 → d * 2 ^ n < 2 ^ suc n
leaf_lt d n h = let p : 2 ^ suc n ≡ 2 ^ n * 2 = pow-suc 2 n in by d h
  where
    by : (d : ℕ) → d < 2 → d * 2 ^ n < 2 ^ suc n
    by zero h = omega (arith, pow_pos (suc n))
    by (suc zero) h = let p : 2 ^ suc n ≡ 2 ^ n * 2 = pow-suc 2 n in omega (arith, pow_pos n)
    by (suc (suc d)) h = absurd (omega arith)

-- as MIR has the leaf, at w digits
pub leaf_is : (w d n : ℕ) → d < 2 → n < w → d * 2 ^ n % 2 ^ w ≡ d * 2 ^ n
leaf_is w d n h l = mod-eq_of_lt (lt_of_lt_of_le (leaf_lt d n h) (pow_mono l))

leaf_same : (d n : ℕ) → d < 2 → digit (d * 2 ^ n) n ≡ d
leaf_same zero n h = rw (zero-mul (2 ^ n)) (bit_at-zero n)
leaf_same (suc zero) n h = rw (one-mul (2 ^ n)) (bit_at-pow_same n)
leaf_same (suc (suc d)) n h = absurd (omega arith)

leaf_other : (d n j : ℕ) → d < 2 → ¬ (j ≡ n) → digit (d * 2 ^ n) j ≡ 0
leaf_other zero n j h ne = rw (zero-mul (2 ^ n)) (bit_at-zero j)
leaf_other (suc zero) n j h ne = rw (one-mul (2 ^ n)) (bit_at-pow_other n j ne)
leaf_other (suc (suc d)) n j h ne = absurd (omega arith)

module _ (d : ℕ → ℕ) (two : (j : ℕ) → d j < 2) where
  pub gather_lt : (n : ℕ) → gather n d < 2 ^ n
  unfolding gather over
  gather_lt zero = pow_pos 0
  gather_lt (suc n) = or_lt (suc n) (gather n d) (d n * 2 ^ n) (let p : 2 ^ suc n ≡ 2 ^ n * 2 = pow-suc 2 n in omega (arith, gather_lt n)) (leaf_lt (d n) n (two n))

  pub gather_digit : (n j : ℕ) → j < n → digit (gather n d) j ≡ d j
  unfolding gather over
  gather_digit zero j l = absurd (not-suc-le-zero l)
  gather_digit (suc n) j l = bit_at_or (gather n d) (d n * 2 ^ n) j ∙ by (below_suc l) (λ h. gather_digit n j h)
    where
      by : (j ≡ n) ⊎ (j < n) → (j < n → digit (gather n d) j ≡ d j) → max (digit (gather n d) j) (digit (d n * 2 ^ n) j) ≡ d j
      by (inl e) ih = rw e (omega (arith, bit_at_above (gather n d) n n (gather_lt n) (le_refl n), leaf_same (d n) n (two n)))
      by (inr h) ih = omega (arith, ih h, leaf_other (d n) n j (two n) (λ q. omega arith))

-- a set gathered by a test

tally_two : (b : Bool) → tally b < 2
tally_two b = omega (arith, tally_le b)

module _ (p : ℕ → Bool) where
  pub gathered_lt : (n : ℕ) → gather n (λ j. tally (p j)) < 2 ^ n
  gathered_lt n = gather_lt (λ j. tally (p j)) (λ j. tally_two (p j)) n

  pub holds_gather : (n j : ℕ) → j < n → holds (gather n (λ j. tally (p j))) j ≡ p j
  holds_gather n j l = rw (gather_digit (λ j. tally (p j)) (λ j. tally_two (p j)) n j l) (by (p j))
    where
      by : (b : Bool) → eqb (tally b) 1 ≡ b
      by true = refl
      by false = refl

  pub holds_gather_beyond : (n j : ℕ) → n ≤ j → holds (gather n (λ j. tally (p j))) j ≡ false
  holds_gather_beyond n j l = holds_beyond n _ j (gathered_lt n) l

  pub gathered_none : (n : ℕ) → (gather n (λ j. tally (p j)) ≡ 0) ↔ ((j : ℕ) → j < n → p j ≡ false)
  gathered_none n = (
    λ e j l. sym (holds_gather n j l) ∙ rw e (holds_none j),
    λ e. same_members n _ 0 (gathered_lt n) (pow_pos n) (λ j l. holds_gather n j l ∙ e j l ∙ sym (holds_none j)),
  )

-- a set is what its members gather
pub gather_members : (n m : ℕ) → m < 2 ^ n → gather n (λ j. tally (holds m j)) ≡ m
gather_members n m h = same_members n _ m (gathered_lt (holds m) n) h (λ j l. holds_gather (holds m) n j l)

-- for the gathering loop: its start, a turn, its end
pub gather_none : (d : ℕ → ℕ) → 0 ≡ gather 0 d
unfolding gather over
gather_none d = refl

pub gather_turn : (d : ℕ → ℕ) (i x y : ℕ) → x ≡ gather i d → y ≡ d i * 2 ^ i → bit_or x y ≡ gather (i + 1) d
unfolding gather over
gather_turn d i x y p q = rw (p, q, add-one)

pub gather_done : (d : ℕ → ℕ) (n i x : ℕ) → i ≤ n → n ≤ i → x ≡ gather i d → x ≡ gather n d
gather_done d n i x a b e = e ∙ ap (λ (k : ℕ). gather k d) (le_antisymm a b)

-- the answer b as the code has it, as the digit x, and put in its place at w digits
answer_is : (b : Bool) → bool_byte b ≡ tally b
answer_is true = refl
answer_is false = refl

pub answer_shl : (w i x : ℕ) (b : Bool) → x ≡ bool_byte b → i < w → x * 2 ^ i % 2 ^ w ≡ tally b * 2 ^ i
answer_shl w i x b e l = rw (e, answer_is b) (leaf_is w (tally b) i (tally_two b) l)

-- a turn of the code that asks a test
pub gather_asked : (p : ℕ → Bool) (w i m x : ℕ) (b : Bool) → m ≡ gather i (λ j. tally (p j)) → x ≡ bool_byte b → b ≡ p i → i < w
    → bit_or m (x * 2 ^ i % 2 ^ w) ≡ gather (i + 1) (λ j. tally (p j))
gather_asked p w i m x b e q h l = gather_turn (λ j. tally (p j)) i m _ e (answer_shl w i x b q l ∙ rw h)

-- gathered while the members of a set are walked: those of them that pass the test
pub gather_among : (n m : ℕ) (p : ℕ → Bool) → over_members n m (λ j x. bit_or x (tally (p j) * 2 ^ j)) 0 ≡ gather n (λ j. tally (holds m j && p j))
unfolding over_members gather
gather_among n m p = over_same n _ _ 0 (λ j x l. by (holds m j) j x)
  where
    by : (b : Bool) (j x : ℕ) → guard b (λ y. bit_or y (tally (p j) * 2 ^ j)) x ≡ bit_or x (tally (b && p j) * 2 ^ j)
    by true j x = guard_yes true (λ y. bit_or y (tally (p j) * 2 ^ j)) x refl
    by false j x = guard_no false (λ y. bit_or y (tally (p j) * 2 ^ j)) x refl ∙ rw (zero-mul (2 ^ j)) (sym (or_zero_r x))
