-- Walking the members of a set from low to high is the loop over all numbers, guarded by membership. Assumes nothing.
use Rattle.std.proofs.Common.{◌≡◌, ℕ, zero, suc, ◌<◌, eqb, ◌⊎◌, sym, refl, ap, ◌∙◌, inl, inr, le_refl, not-suc-le-zero, arith, pow_pos}
use Rattle.loops.specs.Loop.{over, guard}
use Rattle.loops.proofs.Rules.{guard_yes, guard_no, below_suc}
use Rattle.mask.specs.Member.{digit, holds, excluding}
use Rattle.mask.specs.Members.{over_members}
use Rattle.mask.specs.Lowest.{Lowest}
use Rattle.std.proofs.lemmas.Nat.Bits.{bit_at-zero}
use Rattle.mask.proofs.Change.{excluding_same, excluding_other, member_le}
use Rattle.mask.proofs.Holds.{holds_of, holds_not}

-- a walk ends: what is left weighs less
pub rest_falls : {n m w : ℕ} → Lowest n m w → excluding m w < m
unfolding excluding
rest_falls {n} {m} {w} l = rw l.on (omega (arith, member_le m w l.on, pow_pos w))

module _ {S : Type 0} (f : ℕ → S → S) where
  -- nothing is done below the lowest member
  clear_below : (m k : ℕ) (t : S) → ((j : ℕ) → j < k → digit m j ≡ 0) → over k (λ j. guard (holds m j) (f j)) t ≡ t
  unfolding over
  clear_below m zero t h = refl
  clear_below m (suc k) t h =
      guard_no (holds m k) (f k) _ (holds_not m k (h k (le_refl (suc k)))) ∙ clear_below m k t (λ j l. h j (omega arith))

  -- the lowest member is done first, and then the others
  next_of : (m w : ℕ) → digit m w ≡ 1 → ((j : ℕ) → j < w → digit m j ≡ 0) → (t : S) (n : ℕ) → w < n
      → over n (λ j. guard (holds m j) (f j)) t ≡ over n (λ j. guard (holds (excluding m w) j) (f j)) (f w t)
  unfolding over
  next_of m w on below t zero l = absurd (not-suc-le-zero l)
  next_of m w on below t (suc n) l = go (below_suc l) (λ h. next_of m w on below t n h)
    where
      go : (w ≡ n) ⊎ (w < n) → (w < n → over n (λ j. guard (holds m j) (f j)) t ≡ over n (λ j. guard (holds (excluding m w) j) (f j)) (f w t))
          → guard (holds m n) (f n) (over n (λ j. guard (holds m j) (f j)) t) ≡ guard (holds (excluding m w) n) (f n) (over n (λ j. guard (holds (excluding m w) j) (f j)) (f w t))
      go (inl e) ih =
          rw (← e)
          (guard_yes (holds m w) (f w) _ (holds_of m w on)
          ∙ ap (f w) (clear_below m w t below)
          ∙ sym (guard_no (holds (excluding m w) w) (f w) _ (holds_not (excluding m w) w (excluding_same m w))
          ∙ clear_below (excluding m w) w (f w t) (λ j l. excluding_other m w j (λ p. omega arith) ∙ below j l)))
      go (inr h) ih = ap (λ (b : ℕ). guard (eqb b 1) (f n) (over n (λ j. guard (holds m j) (f j)) t)) (sym (excluding_other m w n (λ p. omega arith))) ∙ ap (guard (holds (excluding m w) n) (f n)) (ih h)

  pub over_members_next : (n m w : ℕ) (t : S) → Lowest n m w → over_members n m f t ≡ over_members n (excluding m w) f (f w t)
  unfolding over_members
  over_members_next n m w t l = next_of m w l.on l.below t n l.within

  pub over_members_none : (n : ℕ) (t : S) → over_members n 0 f t ≡ t
  unfolding over_members
  over_members_none n t = clear_below 0 n t (λ j l. bit_at-zero j)

  -- for a loop's invariant: m is left of m₀, and to walk it from t gives what walking m₀ from s gives

  pub record Left (n m₀ : ℕ) (s : S) (m : ℕ) (t : S) : Type 0 where
    pub among : (j : ℕ) → digit m j ≡ 1 → digit m₀ j ≡ 1
    pub same : over_members n m f t ≡ over_members n m₀ f s

  module _ (n m₀ : ℕ) (s : S) where
    pub left_start : Left n m₀ s m₀ s
    left_start = record { among = λ j e. e; same = refl }

    -- one turn: m and t before it, k and r after it
    pub left_turn : (m w : ℕ) (t : S) → Lowest n m w → Left n m₀ s m t → (k : ℕ) (r : S) → k ≡ excluding m w → r ≡ f w t → Left n m₀ s k r
    left_turn m w t l h k r p q = record { among = λ j e. h.among j (back j (rw p at e)); same = rw (p, q) (sym (over_members_next n m w t l) ∙ h.same) }
      where
        back : (j : ℕ) → digit (excluding m w) j ≡ 1 → digit m j ≡ 1
        back j e = sym (excluding_other m w j (λ q. let z : digit (excluding m w) j ≡ 0 = rw q (excluding_same m w) in omega arith)) ∙ e

    pub left_done : (m : ℕ) (t : S) → m ≡ 0 → Left n m₀ s m t → t ≡ over_members n m₀ f s
    left_done m t z h = sym (over_members_none n t) ∙ rw z at h.same
