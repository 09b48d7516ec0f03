-- The pigeonhole: n pigeons in m holes, no two of them in the same, are at most m. Assumes nothing.
use Prim.Native.Nat.{ℕ, zero, suc, pred, ◌<◌, ◌≤◌}
use native.Mathlib.Omega.{arith}
use native.Mathlib.Nat.{lt-suc_self, not-suc-le-zero}
use native.Mathlib.Decide.{dec_lt}
use mathlib.Core.Path.{◌≡◌}
use mathlib.Core.Logic.{◌⊎◌, inl, inr}

pub pigeonhole : (m n : ℕ) (In : ℕ → ℕ → Type 0) → ((i : ℕ) → i < n → (x : ℕ) × (x < m) × In i x) → ((i j x : ℕ) → i < j → j < n → In i x → In j x → ⊥) → n ≤ m
pigeonhole m zero In home apart = omega arith
pigeonhole zero (suc n) In home apart = absurd (not-suc-le-zero (home n (lt-suc_self n)).1)
pigeonhole (suc m) (suc n) In home apart = omega (arith, pigeonhole m n Moved moved apart')
  where
    -- the last pigeon's hole is closed, and those above it move down
    gone : ℕ
    gone = (home n (lt-suc_self n)).0

    Moved : ℕ → ℕ → Type 0
    Moved i x = ((x < gone) × In i x) ⊎ ((gone ≤ x) × In i (suc x))

    moved : (i : ℕ) → i < n → (x : ℕ) × (x < m) × Moved i x
    moved i l = place (home i (omega arith))
      where
        place : (x : ℕ) × (x < suc m) × In i x → (x : ℕ) × (x < m) × Moved i x
        place (x, b, h) = elim (dec_lt x gone) [
          | yes below ↦ (x, omega (arith, (home n (lt-suc_self n)).1), inl (below, h))
          | no n₁ ↦ elim (dec_lt gone x) [
            | yes above ↦
                let up : suc (pred x) ≡ x = omega arith in
                (pred x, omega arith, inr (omega arith, rw up h))
            | no n₂ ↦
                let same : x ≡ gone = omega arith in
                absurd (apart i n gone l (lt-suc_self n) (rw (← same) h) (home n (lt-suc_self n)).2)
          ]
        ]

    apart' : (i j x : ℕ) → i < j → j < n → Moved i x → Moved j x → ⊥
    apart' i j x a b (inl p) (inl q) = apart i j x a (omega arith) p.1 q.1
    apart' i j x a b (inl p) (inr q) = omega (arith, p.0, q.0)
    apart' i j x a b (inr p) (inl q) = omega (arith, p.0, q.0)
    apart' i j x a b (inr p) (inr q) = apart i j (suc x) a (omega arith) p.1 q.1
