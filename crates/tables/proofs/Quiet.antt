-- At a quiet database nothing may go before anything, and nothing has to: its rows are sound where they are empty. Assumes nothing.
use Prim.Native.Nat.{ℕ, ◌^◌, ◌<◌}
use mathlib.Core.Bool.{Bool, true, false, ◌||◌}
use mathlib.Core.List.{List}
use mathlib.Core.Logic.{◌⊎◌, inl, inr}
use mathlib.Core.Path.{◌≡◌, refl, sym, ap, ◌∙◌}
use native.Mathlib.Omega.{arith}
use borrow.Author.Tests.{eqb-true}
use lib.Bits.{or_zero_r, and_zero_r}
use lib.Dec.{eqb}
use lib.Pow.{pow_pos}
use Rattle.loops.proofs.Tests.{both, and_left, and_right, or_cases}
use Rattle.loops.proofs.Turns.{every_same}
use Rattle.mask.specs.Member.{holds, excluding, less, lowest}
use Rattle.mask.specs.Members.{union_of}
use Rattle.mask.proofs.Holds.{holds_none, holds_excluding}
use Rattle.mask.proofs.Union.{union_empty}
use Rattle.mask.proofs.Words.{and_not}
use Rattle.tables.specs.Limits.{jobs}
use Rattle.tables.specs.Tables.{entry}
use Rattle.tables.specs.Test.{partners, pressing, rows_sound}
use Rattle.tables.specs.Parts.{row_wrong, quiet}
use Rattle.tables.proofs.Testing.{rows_are}

-- the only member of a set whose rest is empty
alone : (named b : ℕ) → excluding named (lowest jobs named) ≡ 0 → holds named b ≡ true → b ≡ lowest jobs named
alone named b z e = by (eqb b (lowest jobs named)) refl
  where
    by : (t : Bool) → eqb b (lowest jobs named) ≡ t → b ≡ lowest jobs named
    by true p = eqb-true b (lowest jobs named) p
    by false p = both (holds_excluding named (lowest jobs named) b ∙ rw (p, e)) (rw z (holds_none b))

no_partners : (named b : ℕ) → excluding named (lowest jobs named) ≡ 0 → partners named b ≡ 0
unfolding partners
no_partners named b z = by (holds named b) refl
  where
    by : (t : Bool) → holds named b ≡ t → ◌≡◌ {A = ℕ} (elim t [ true ↦ excluding named b | false ↦ 0 ]) 0
    by true e = ap (excluding named) (alone named b z e) ∙ z
    by false e = refl

no_pressing : (waiting under b : ℕ) → (waiting ≡ 0) ⊎ (under ≡ 0) → pressing waiting under b ≡ 0
unfolding pressing
no_pressing waiting under b (inl e) = rw (pressing, e, holds_none b)
no_pressing waiting under b (inr e) = by (holds waiting b)
  where
    by : (t : Bool) → ◌≡◌ {A = ℕ} (elim t [ true ↦ under | false ↦ 0 ]) 0
    by true = e
    by false = refl

less_none : (n m : ℕ) → m < 2 ^ n → less n m 0 ≡ m
less_none n m h = and_not n m 0 h (pow_pos n) ∙ omega (arith, and_zero_r m)

row_quiet : (named waiting under b into : ℕ) → quiet named waiting under ≡ true → row_wrong named waiting under b into ≡ less jobs into 0
unfolding quiet row_wrong
row_quiet named waiting under b into q =
    let z : excluding named (lowest jobs named) ≡ 0 = eqb-true (excluding named (lowest jobs named)) 0 (and_left (eqb (excluding named (lowest jobs named)) 0) (eqb waiting 0 || eqb under 0) q) in
    rw (no_partners named b z, no_pressing waiting under b (calm (or_cases (eqb waiting 0) (eqb under 0) (and_right (eqb (excluding named (lowest jobs named)) 0) _ q)))) (or_zero_r (less jobs into 0))
  where
    calm : (eqb waiting 0 ≡ true) ⊎ (eqb under 0 ≡ true) → (waiting ≡ 0) ⊎ (under ≡ 0)
    calm (inl e) = inl (eqb-true waiting 0 e)
    calm (inr e) = inr (eqb-true under 0 e)

pub rows_quiet : (rows : List ℕ) (named waiting under : ℕ) → ((b : ℕ) → entry rows b < 2 ^ jobs) → quiet named waiting under ≡ true
    → eqb (union_of jobs (entry rows)) 0 ≡ rows_sound rows named waiting under
rows_quiet rows named waiting under small q =
    union_empty (entry rows) jobs
    ∙ every_same jobs _ _ (λ b l. ap (λ (m : ℕ). eqb m 0) (sym (row_quiet named waiting under b (entry rows b) q ∙ less_none jobs (entry rows b) (small b))))
    ∙ sym (union_empty (λ b. row_wrong named waiting under b (entry rows b)) jobs)
    ∙ rows_are rows named waiting under
