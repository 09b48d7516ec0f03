-- An answer written as bytes. Assumes nothing.
use Prim.Native.Nat.{ℕ, ◌+◌, ◌-◌, ◌%◌, ◌^◌, ◌≤◌}
use mathlib.Core.Path.{◌≡◌, refl, sym, ap, ◌∙◌}
use mathlib.Core.List.{List, [], map}
use native.Mathlib.Omega.{arith}
use borrow.Rule.Slice.PartMut.{put_mid}
use lib.ListN.{length, take, drop, replicate, get_or, length-drop}
use lib.Seq.{length-take-le}
use Rattle.coordinator.specs.Limits.{jobs}
use Rattle.coordinator.specs.Answer.{Values}
use Rattle.layout.specs.Put.{put}
use Rattle.layout.specs.Bytes.{bytes_of, bytes_of_all}
use Rattle.layout.proofs.Put.{filled_none, filled_on, filled_to, filled_long}
use Rattle.layout.proofs.Number.{put_bytes, bytes_low}
use Rattle.layout.proofs.Numbers.{length_all, same_all, filled_number, filled_numbers}
use Rattle.record.specs.declared.answer.Numbers.{Numbers}
use Rattle.record.specs.Answer.{numbers_of}
use Rattle.boundary.specs.Row.{row_size, number_bytes, row_of, row}

pub length_row : (v : Values) → length (row v) ≡ row_size
unfolding row row_of number_bytes bytes_of
length_row v = omega (arith, length_all 2 jobs v.tickets)

-- the parts, one after another
pub numbers_done : (n : Numbers) (o : List ℕ) (at closed added moves : ℕ) (o₁ o₂ o₃ o₄ o₅ o₆ : List ℕ) → at + 10 ≤ length o →
    o₁ ≡ put o at (bytes_of 1 n.refusal) → o₂ ≡ put o₁ (at + 1) (bytes_of 1 n.released) → o₃ ≡ put o₂ (at + 2) (bytes_of 2 closed) → o₄ ≡ put o₃ (at + 4) (bytes_of 2 n.ticket) →
    o₅ ≡ put o₄ (at + 6) (bytes_of 2 added) → o₆ ≡ put o₅ (at + 8) (bytes_of 2 moves) → closed ≡ n.closed % 2 ^ 16 → added ≡ n.added % 2 ^ 16 → moves ≡ n.moves % 2 ^ 16 →
    o₆ ≡ put o at (number_bytes n)
unfolding number_bytes bytes_of
numbers_done n o at closed added moves o₁ o₂ o₃ o₄ o₅ o₆ h e₁ e₂ e₃ e₄ e₅ e₆ c a m =
    let f₁ = filled_number o at [] at o 1 n.refusal o₁ (filled_none o at (omega arith)) (omega arith) e₁ in
    let f₂ = filled_to (at + 2) (filled_number o at _ (at + 1) o₁ 1 n.released o₂ f₁ (omega arith) e₂) (omega arith) in
    let f₃ = filled_to (at + 4) (filled_number o at _ (at + 2) o₂ 2 n.closed o₃ f₂ (omega arith) (e₃ ∙ ap (put o₂ (at + 2)) (bytes_low n.closed closed c))) (omega arith) in
    let f₄ = filled_to (at + 6) (filled_number o at _ (at + 4) o₃ 2 n.ticket o₄ f₃ (omega arith) e₄) (omega arith) in
    let f₅ = filled_to (at + 8) (filled_number o at _ (at + 6) o₄ 2 n.added o₅ f₄ (omega arith) (e₅ ∙ ap (put o₄ (at + 6)) (bytes_low n.added added a))) (omega arith) in
    (filled_number o at _ (at + 8) o₅ 2 n.moves o₆ f₅ (omega arith) (e₆ ∙ ap (put o₅ (at + 8)) (bytes_low n.moves moves m))).is

pub row_done : (n : Numbers) (tickets o : List ℕ) (at : ℕ) (o₁ zeros o₂ o₃ : List ℕ) → length tickets ≡ jobs → at + row_size ≤ length o →
    o₁ ≡ put o at (number_bytes n) → zeros ≡ replicate (length (take (at + 16 - (at + 10)) (drop (at + 10) o₁))) 0 → o₂ ≡ put_mid (at + 10) (at + 16 - (at + 10)) o₁ zeros →
    o₃ ≡ put o₂ (at + 16) (bytes_of_all 2 (length tickets) (map (λ x. x) tickets)) →
    o₃ ≡ put o at (row_of n tickets)
unfolding row_of number_bytes bytes_of
row_done n tickets o at o₁ zeros o₂ o₃ l h e₁ z e₂ e₃ =
    let f₁ = filled_on o at [] at o (number_bytes n) 10 o₁ (filled_none o at (omega arith)) refl (omega arith) e₁ in
    let room : 10 + 6 + at ≤ length o₁ = omega (arith, filled_long o at _ (at + 10) o₁ f₁) in
    let six : length (take (at + 16 - (at + 10)) (drop (at + 10) o₁)) ≡ 6 = length-take-le (at + 16 - (at + 10)) (drop (at + 10) o₁) (simp length-drop (omega arith)) ∙ omega arith in
    let f₂ = filled_to (at + 16) (filled_number o at _ (at + 10) o₁ 6 0 o₂ f₁ (omega arith) (e₂ ∙ put_bytes 6 0 o₁ zeros (at + 10) (at + 16) (z ∙ ap (λ k. replicate k 0) six) (omega arith))) (omega arith) in
    (filled_numbers o at _ (at + 16) o₂ 2 jobs tickets o₃ f₂ l (omega arith) e₃).is

-- tickets that read the same, zeros where there are no more, are written the same
pub row_is : (n : Numbers) (v : Values) (tickets : List ℕ) → n ≡ numbers_of v → ((i : ℕ) → get_or v.tickets i 0 ≡ get_or tickets i 0) → row_of n tickets ≡ row v
unfolding row_of row
row_is n v tickets e h = ap (λ (m : Numbers). row_of m tickets) e ∙ rw (same_all 2 jobs tickets v.tickets (λ i. sym (h i)))
