-- What a number and a line leave in the buffer. Assumes nothing.
use Prim.Native.Nat.{ℕ, ◌+◌, ◌-◌, ◌^◌, ◌≤◌, ◌<◌}
use mathlib.Core.Path.{◌≡◌, refl, sym, ap, ◌∙◌}
use mathlib.Core.List.{List, [], ◌∷◌, ◌++◌}
use native.Mathlib.Omega.{arith}
use lib.ListN.{length, set}
use lib.Seq.{drop-drop}
use borrow.Rule.Slice.PartMut.{put_mid}
use Rattle.std.proofs.Common.{rules}
use Rattle.std.specs.Fmt.{decimal}
use Rattle.std.proofs.lemmas.Fmt.{AppendsLastDigit, decimal_from_appends, length-decimal-le}
use Rattle.layout.specs.Put.{put}
use Rattle.layout.proofs.Put.{length_put, then_byte, then_text}
use Rattle.lines.specs.Line.{decimal_in, word, line, longest}

-- a text in the middle of the buffer, and a byte after it
pub word_put : (o u t : List ℕ) (at n end : ℕ) → u ≡ t → n ≡ length t → at + n < length o →
    (at + n + 1 ≡ at + length (t ++ end ∷ [])) × (set (put_mid at (at + n - at) o u) (at + n) end ≡ put o at (t ++ end ∷ []))
unfolding put
word_put o u t at n end eu en h =
    let m : at + n - at ≡ length t = omega (arith, en) in
    then_byte o at t end (at + n) (put_mid at (at + n - at) o u) (omega (arith, en)) h (rw (eu, m, drop-drop (length t) at o) refl)

-- what std writes is the number in at most 20 digits
decimal_appends : AppendsLastDigit decimal_in
unfolding decimal_in
decimal_appends = search rules

pub word_is : (n end : ℕ) → n < 2 ^ 64 → decimal n ++ end ∷ [] ≡ word n end
unfolding word
word_is n end h = ap (λ (t : List ℕ). t ++ end ∷ []) (sym (decimal_from_appends decimal_in decimal_appends 20 n h (length-decimal-le 20 n (omega arith) (omega arith) h)))

-- t stands at index at of o, up to index r, which is at most n + 1 further
abbrev Wrote : List ℕ → ℕ → List ℕ → ℕ → ℕ → List ℕ → Type 0
Wrote o at t n r o₁ = (r ≡ at + length t) × (r ≤ at + n + 1) × (o₁ ≡ put o at t)

pub wrote_word : (o : List ℕ) (at n end k r : ℕ) (o₁ : List ℕ) → n < 2 ^ 64 → Wrote o at (decimal n ++ end ∷ []) k r o₁ → Wrote o at (word n end) k r o₁
wrote_word o at n end k r o₁ h w = rw (← word_is n end h) w

pub line_done : (i refusal first second at : ℕ) (o : List ℕ) (p₁ p₂ p₃ p₄ : ℕ) (o₁ o₂ o₃ o₄ : List ℕ) → at + longest ≤ length o →
    Wrote o at (word i 32) 20 p₁ o₁ → Wrote o₁ p₁ (word refusal 32) 3 p₂ o₂ → Wrote o₂ p₂ (word first 32) 10 p₃ o₃ → Wrote o₃ p₃ (word second 10) 10 p₄ o₄ →
    (p₄ ≡ at + length (line i refusal first second)) × (p₄ ≤ at + longest) × (o₄ ≡ put o at (line i refusal first second))
unfolding line
line_done i refusal first second at o p₁ p₂ p₃ p₄ o₁ o₂ o₃ o₄ f h₁ h₂ h₃ h₄ =
    let l₁ : length o₁ ≡ length o = ap length h₁.2 ∙ length_put o at (word i 32) (omega arith) in
    let l₂ : length o₂ ≡ length o₁ = ap length h₂.2 ∙ length_put o₁ p₁ (word refusal 32) (omega arith) in
    let t₃ = then_text o₂ p₂ (word first 32) (word second 10) p₃ p₄ o₃ o₄ h₃.0 (omega arith) h₃.2 h₄.0 h₄.2 in
    let t₂ = then_text o₁ p₁ (word refusal 32) (word first 32 ++ word second 10) p₂ p₄ o₂ o₄ h₂.0 (omega arith) h₂.2 t₃.0 t₃.1 in
    let t₁ = then_text o at (word i 32) (word refusal 32 ++ (word first 32 ++ word second 10)) p₁ p₄ o₁ o₄ h₁.0 (omega arith) h₁.2 t₂.0 t₂.1 in
    (t₁.0, omega arith, t₁.1)
