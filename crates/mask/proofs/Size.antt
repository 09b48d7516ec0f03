-- How many members: the sum over the members, what one more or less makes of it, and where it is 0 or the whole width. Assumes nothing.
use Rattle.std.proofs.Common.{◌≡◌, ℕ, zero, suc, ◌+◌, ◌-◌, ◌*◌, ◌/◌, ◌%◌, ◌^◌, ◌<◌, ◌≤◌, Bool, true, false, eqb, ◌⊎◌, ◌↔◌, sym, refl, ap, ◌∙◌, ap₂, inl, inr, pow-suc, mul-one, arith, pow_pos, eq-eqb, ne_eqb, eqb-true}
use lib.Arith.{lt-one}
use lib.Count.{ones, ones_in, ones_step, ones-ones}
use lib.Pow.{ones_lt}
use Rattle.loops.specs.Sum.{sum, tally}
use Rattle.loops.proofs.Sums.{sum_first, sum_same, sum_at, sum_le, sum_mono, sum_zero, tally_le, tally_mono}
use Rattle.loops.proofs.Tests.{or_cases}
use Rattle.mask.specs.Member.{digit, holds, including, excluding, lowest, size}
use Rattle.mask.specs.Lowest.{Free}
use Rattle.std.proofs.lemmas.Nat.Bits.{bit_at-suc, bit_at_lowest}
use Rattle.mask.proofs.Holds.{tally_holds, holds_none, holds_all, holds_including, holds_excluding}
use Rattle.mask.proofs.Equal.{same_members}
use Rattle.mask.proofs.Lowest.{free_of}

-- the code's count of ones

ones_zero : ones 0 ≡ 0
unfolding ones
ones_zero = refl

pub ones_in_lem : (n m : ℕ) → m < 2 ^ n → ones m ≡ size n m
unfolding ones_in
ones_in_lem zero m h = ap ones (lt-one h) ∙ ones_zero
ones_in_lem (suc n) m h = let p : 2 ^ suc n ≡ 2 ^ n * 2 = pow-suc 2 n in ones_step m ∙ ap (λ (x : ℕ). m % 2 + x) (ones_in_lem n (m / 2) (omega arith))

-- the sum over the members

size_digits : (n m : ℕ) → size n m ≡ sum n (digit m)
unfolding ones_in sum
size_digits zero m = refl
size_digits (suc n) m =
    ap₂ (λ (x y : ℕ). x + y) (sym (bit_at_lowest m)) (size_digits n (m / 2) ∙ sum_same n _ _ (λ k l. sym (bit_at-suc m k))) ∙ sym (sum_first n (digit m))

pub size_sum : (n m : ℕ) → size n m ≡ sum n (λ k. tally (holds m k))
size_sum n m = size_digits n m ∙ sum_same n _ _ (λ k l. sym (tally_holds m k))

pub size_le : (n m : ℕ) → size n m ≤ n
size_le n m = omega (arith, size_sum n m, sum_le n 1 (λ k. tally (holds m k)) (λ k l. tally_le (holds m k)), mul-one n)

-- a set within another is no larger
pub size_mono : (n a b : ℕ) → ((j : ℕ) → holds a j ≡ true → holds b j ≡ true) → size n a ≤ size n b
size_mono n a b h =
    omega (arith, size_sum n a, size_sum n b, sum_mono n (λ k. tally (holds a k)) (λ k. tally (holds b k)) (λ k l. tally_mono (holds a k) (holds b k) (h k)))

-- one member more, one less

pub size_including : (n m k : ℕ) → k < n → holds m k ≡ false → size n (including m k) ≡ size n m + 1
size_including n m k l e =
    rw (size_sum n (including m k), size_sum n m)
    (sum_at n k 1 (λ j. tally (holds m j)) (λ j. tally (holds (including m k) j)) l
    (λ j h ne. rw (holds_including m k j, ne_eqb j k ne))
    (rw (holds_including m k k, eq-eqb k k refl, e)))

pub size_excluding : (n m k : ℕ) → k < n → holds m k ≡ true → size n m ≡ size n (excluding m k) + 1
size_excluding n m k l e =
    rw (size_sum n (excluding m k), size_sum n m)
    (sum_at n k 1 (λ j. tally (holds (excluding m k) j)) (λ j. tally (holds m j)) l
    (λ j h ne. rw (holds_excluding m k j, ne_eqb j k ne))
    (rw (holds_excluding m k k, eq-eqb k k refl, e)))

-- a set within another that is no larger is all of it
pub size_within : (n a b : ℕ) → ((j : ℕ) → holds a j ≡ true → holds b j ≡ true) → size n b ≤ size n a → (j : ℕ) → j < n → holds b j ≡ true → holds a j ≡ true
size_within n a b h le j l e = by (holds a j) refl
  where
    in_b : (k : ℕ) → (eqb k j ≡ true) ⊎ (holds a k ≡ true) → holds b k ≡ true
    in_b k (inl p) = rw (eqb-true k j p) e
    in_b k (inr p) = h k p

    by : (t : Bool) → holds a j ≡ t → t ≡ true
    by true p = refl
    by false p =
        absurd
        (omega (arith, size_including n a j l p, size_mono n (including a j) b (λ k q. in_b k (or_cases (eqb k j) (holds a k) (sym (holds_including a j k) ∙ q)))))

-- none, and all

pub size_none : (n : ℕ) → size n 0 ≡ 0
size_none n = size_sum n 0 ∙ sum_zero n _ (λ k l. ap tally (holds_none k))

pub size_none_iff : (n m : ℕ) → m < 2 ^ n → (size n m ≡ 0) ↔ (m ≡ 0)
size_none_iff n m h = (λ e. same_members n m 0 h (pow_pos n) (λ j l. off e j l (holds m j) refl ∙ sym (holds_none j)), λ e. rw e (size_none n))
  where
    off : size n m ≡ 0 → (j : ℕ) → j < n → (b : Bool) → holds m j ≡ b → holds m j ≡ false
    off e j l true p = absurd (omega (arith, size_excluding n m j l p))
    off e j l false p = p

pub size_all : (n : ℕ) → size n (2 ^ n - 1) ≡ n
size_all n = sym (ones_in_lem n (2 ^ n - 1) (ones_lt n)) ∙ ones-ones n

pub size_all_iff : (n m : ℕ) → m < 2 ^ n → (size n m ≡ n) ↔ (m ≡ 2 ^ n - 1)
size_all_iff n m h = (λ e. same_members n m (2 ^ n - 1) h (ones_lt n) (λ j l. on e j l (holds m j) refl ∙ sym (holds_all n j l)), λ e. rw e (size_all n))
  where
    on : size n m ≡ n → (j : ℕ) → j < n → (b : Bool) → holds m j ≡ b → holds m j ≡ true
    on e j l true p = p
    on e j l false p = absurd (omega (arith, size_including n m j l p, size_le n (including m j)))

-- a set that is not full leaves one free
pub size_free : (n m : ℕ) → m < 2 ^ n → size n m < n → Free n m (lowest n (2 ^ n - 1 - m))
size_free n m h l = let ne : ¬ (m ≡ 2 ^ n - 1) = λ p. absurd (omega (arith, (size_all_iff n m h).1 p)) in free_of n m (omega arith)
