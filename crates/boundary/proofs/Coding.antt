-- What encoding and decoding leave, and that a state comes back, and its bytes. Assumes nothing.
use Prim.Native.Nat.{ℕ}
use mathlib.Core.Path.{◌≡◌, refl, sym, ◌∙◌}
use mathlib.Core.List.{List, [], append_assoc, append-nil, map}
use native.Mathlib.Omega.{arith}
use lib.ListN.{length}
use Rattle.coordinator.specs.declared.Coordinator.{Coordinator}
use Rattle.coordinator.specs.Limits.{jobs, databases, steps}
use Rattle.coordinator.specs.Shape.{Sized, Shape}
use Rattle.layout.specs.Put.{put}
use Rattle.layout.specs.Bytes.{bytes_of, bytes_of_all}
use Rattle.layout.proofs.Put.{put_all, filled_none}
use Rattle.layout.proofs.Number.{length_bytes}
use Rattle.layout.proofs.Numbers.{length_all, filled_number, filled_numbers}
use Rattle.layout.proofs.Back.{next_part, number_there, numbers_there, bytes_there, all_there, rejoin, last_part}
use Rattle.boundary.specs.State.{state_size, encoded, decoded}

-- the arrays of a state are as long as its type says
pub record Long (s : Coordinator) : Type 0 where
  pub tickets : length s.tickets ≡ jobs
  pub order : length s.order ≡ jobs
  pub named : length s.named ≡ databases
  pub asked : length s.asked ≡ databases
  pub released : length s.released ≡ databases
  pub confirmed : length s.confirmed ≡ databases
  pub dependencies : length s.dependencies ≡ steps

pub encode_done : (s : Coordinator) (o o₁ o₂ o₃ o₄ o₅ o₆ o₇ o₈ o₉ : List ℕ) → Long s → length o ≡ state_size →
    o₁ ≡ put o 0 (bytes_of_all 2 (length s.tickets) (map (λ x. x) s.tickets)) → o₂ ≡ put o₁ 64 (bytes_of 4 s.held) → o₃ ≡ put o₂ 68 (bytes_of_all 1 (length s.order) (map (λ x. x) s.order)) →
    o₄ ≡ put o₃ 100 (bytes_of_all 4 (length s.named) (map (λ x. x) s.named)) → o₅ ≡ put o₄ 164 (bytes_of_all 4 (length s.asked) (map (λ x. x) s.asked)) →
    o₆ ≡ put o₅ 228 (bytes_of_all 4 (length s.released) (map (λ x. x) s.released)) → o₇ ≡ put o₆ 292 (bytes_of_all 4 (length s.confirmed) (map (λ x. x) s.confirmed)) →
    o₈ ≡ put o₇ 356 (bytes_of_all 4 (length s.dependencies) (map (λ x. x) s.dependencies)) →
    o₉ ≡ put o₈ 2404 (bytes_of 2 s.maker.next) → o₉ ≡ encoded s
unfolding encoded
encode_done s o o₁ o₂ o₃ o₄ o₅ o₆ o₇ o₈ o₉ l h e₁ e₂ e₃ e₄ e₅ e₆ e₇ e₈ e₉ =
    let f₁ = filled_numbers o 0 [] 0 o 2 jobs s.tickets o₁ (filled_none o 0 (omega arith)) l.tickets (omega arith) e₁ in
    let f₂ = filled_number o 0 _ 64 o₁ 4 s.held o₂ f₁ (omega arith) e₂ in
    let f₃ = filled_numbers o 0 _ 68 o₂ 1 jobs s.order o₃ f₂ l.order (omega arith) e₃ in
    let f₄ = filled_numbers o 0 _ 100 o₃ 4 databases s.named o₄ f₃ l.named (omega arith) e₄ in
    let f₅ = filled_numbers o 0 _ 164 o₄ 4 databases s.asked o₅ f₄ l.asked (omega arith) e₅ in
    let f₆ = filled_numbers o 0 _ 228 o₅ 4 databases s.released o₆ f₅ l.released (omega arith) e₆ in
    let f₇ = filled_numbers o 0 _ 292 o₆ 4 databases s.confirmed o₇ f₆ l.confirmed (omega arith) e₇ in
    let f₈ = filled_numbers o 0 _ 356 o₇ 4 steps s.dependencies o₈ f₇ l.dependencies (omega arith) e₈ in
    let f₉ = filled_number o 0 _ 2404 o₈ 2 s.maker.next o₉ f₈ (omega arith) e₉ in
    f₉.is ∙ put_all o _ (omega (arith, f₉.ends)) ∙ simp append_assoc

-- a state comes back from its bytes
pub state_back : (s : Coordinator) → Shape s → decoded (encoded s) ≡ s
unfolding encoded decoded
state_back s h =
    let b = encoded s in
    let d₁ = next_part b 0 (bytes_of_all 2 jobs s.tickets) _ 64 (length_all 2 jobs s.tickets) refl in
    let d₂ = next_part b 64 (bytes_of 4 s.held) _ 4 (length_bytes 4 s.held) d₁ in
    let d₃ = next_part b 68 (bytes_of_all 1 jobs s.order) _ 32 (length_all 1 jobs s.order) d₂ in
    let d₄ = next_part b 100 (bytes_of_all 4 databases s.named) _ 64 (length_all 4 databases s.named) d₃ in
    let d₅ = next_part b 164 (bytes_of_all 4 databases s.asked) _ 64 (length_all 4 databases s.asked) d₄ in
    let d₆ = next_part b 228 (bytes_of_all 4 databases s.released) _ 64 (length_all 4 databases s.released) d₅ in
    let d₇ = next_part b 292 (bytes_of_all 4 databases s.confirmed) _ 64 (length_all 4 databases s.confirmed) d₆ in
    let d₈ = next_part b 356 (bytes_of_all 4 steps s.dependencies) _ 2048 (length_all 4 steps s.dependencies) d₇ in
    let e₁ = numbers_there 2 jobs s.tickets b 0 _ h.tickets.size h.tickets.fits refl in
    let e₂ = number_there 4 s.held b 64 _ h.held d₁ in
    let e₃ = numbers_there 1 jobs s.order b 68 _ h.order.size h.order.fits d₂ in
    let e₄ = numbers_there 4 databases s.named b 100 _ h.named.size h.named.fits d₃ in
    let e₅ = numbers_there 4 databases s.asked b 164 _ h.asked.size h.asked.fits d₄ in
    let e₆ = numbers_there 4 databases s.released b 228 _ h.released.size h.released.fits d₅ in
    let e₇ = numbers_there 4 databases s.confirmed b 292 _ h.confirmed.size h.confirmed.fits d₆ in
    let e₈ = numbers_there 4 steps s.dependencies b 356 _ h.dependencies.size h.dependencies.fits d₇ in
    let e₉ = number_there 2 s.maker.next b 2404 [] h.candidate (d₈ ∙ sym (append-nil (bytes_of 2 s.maker.next))) in
    λ i. record {
      tickets = e₁ i;
      held = e₂ i;
      order = e₃ i;
      named = e₄ i;
      asked = e₅ i;
      released = e₆ i;
      confirmed = e₇ i;
      dependencies = e₈ i;
      maker = record { next = e₉ i };
    }

-- and bytes come back from the state that they are
pub bytes_back : (b : List ℕ) → Sized state_size 8 b → encoded (decoded b) ≡ b
unfolding encoded decoded
bytes_back b h =
    let size : length b ≡ state_size = h.size in
    rejoin b 0 64 _ _ (all_there b h.fits 2 jobs 0 (omega arith))
    (rejoin b 64 4 _ _ (bytes_there b h.fits 4 64 (omega arith))
    (rejoin b 68 32 _ _ (all_there b h.fits 1 jobs 68 (omega arith))
    (rejoin b 100 64 _ _ (all_there b h.fits 4 databases 100 (omega arith))
    (rejoin b 164 64 _ _ (all_there b h.fits 4 databases 164 (omega arith))
    (rejoin b 228 64 _ _ (all_there b h.fits 4 databases 228 (omega arith))
    (rejoin b 292 64 _ _ (all_there b h.fits 4 databases 292 (omega arith))
    (rejoin b 356 2048 _ _ (all_there b h.fits 4 steps 356 (omega arith))
    (last_part b 2404 2 _ (omega arith) (bytes_there b h.fits 2 2404 (omega arith))))))))))
