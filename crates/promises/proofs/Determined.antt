-- Any two results that meet a contract are equal. Assumes nothing.
use Prim.Native.Nat.{ℕ}
use native.Mathlib.Nat.{le_antisymm}
use native.Mathlib.Omega.{arith}
use mathlib.Core.List.{List}
use mathlib.Core.Path.{◌≡◌, sym, ap, ◌∙◌}
use Rattle.std.specs.Prelude.{Option, None, Some}
use Rattle.mask.specs.Member.{excluding}
use Rattle.mask.specs.Members.{Takes}
use Rattle.mask.proofs.Holds.{holds_pos}
use Rattle.mask.proofs.Lowest.{lowest_holds, lowest_first}
use Rattle.numbers.specs.declared.Ticket.{Ticket}
use Rattle.numbers.specs.declared.NumberMaker.{NumberMaker}
use Rattle.numbers.specs.Ticket.{after, ticket_from}
use Rattle.promises.specs.Determined.{Determines, Determined}

equation : {A : Type 0} (d : A) → Determines (λ (r : A). r ≡ d)
equation d x y p q = p ∙ sym q

take : (held : List ℕ) (next : ℕ) → Determines (λ (r : Ticket × NumberMaker). (r.0.0 ≡ ticket_from held next) × (r.1.next ≡ after r.0.0))
take held next x y (p, q) (r, s) =
    let t : x.0.0 ≡ y.0.0 = p ∙ sym r in
    let n : x.1.next ≡ y.1.next = q ∙ ap after t ∙ sym s in
    λ i. (record { 0 = t i }, record { next = n i })

-- a set has one lowest member, and the empty one has none
next_member : (n m : ℕ) → Determines (λ (r : Option ℕ × ℕ). Takes n m r.0 r.1)
next_member n m (None, a) (None, b) p q = ap (λ (c : ℕ). (None, c)) (p.1 ∙ sym q.1)
next_member n m (None, a) (Some j, b) p q = absurd (omega (arith, holds_pos m j (lowest_holds q.0), p.0))
next_member n m (Some i, a) (None, b) p q = absurd (omega (arith, holds_pos m i (lowest_holds p.0), q.0))
next_member n m (Some i, a) (Some j, b) p q =
    let e : i ≡ j = le_antisymm (lowest_first p.0 j (lowest_holds q.0)) (lowest_first q.0 i (lowest_holds p.0)) in
    let c : a ≡ b = p.1 ∙ ap (excluding m) e ∙ sym q.1 in
    λ x. (Some (e x), c x)

pub determined : Determined
determined = record {
  open_job = λ s mask. equation _;
  ask = λ s t k. equation _;
  confirm = λ s t k. equation _;
  close = λ s t. equation _;
  open_tested = λ b s mask. equation _;
  ask_tested = λ b s t k. equation _;
  confirm_tested = λ b s t k. equation _;
  close_tested = λ b s t. equation _;
  start = λ n. equation _;
  is_sound = λ s. equation _;
  most_moves = λ s. equation _;
  open_slots = λ named. equation _;
  holders_of = λ tickets named t. equation _;
  are_sound = λ tickets held order named asked released confirmed dependencies. equation _;
  of_open = λ sound mask slots. equation _;
  of_step = λ sound found k names applies own. equation _;
  of_step_numbered = λ sound found k names applies own. equation _;
  of_close = λ sound found confirmed held. equation _;
  refusal_number = λ refusal. equation _;
  count_all = λ sets. equation _;
  search = λ named dependencies n. equation _;
  absent = λ held t. equation _;
  next_number = λ t. equation _;
  free_from = λ held from. equation _;
  take = take;
  member = λ m k. equation _;
  with_member = λ n m k. equation _;
  without_member = λ m k. equation _;
  lowest_member = λ n m. equation _;
  rest_of = λ n m. equation _;
  size_of = λ n m. equation _;
  less_of = λ n a b. equation _;
  word_of = λ m. equation _;
  of_word = λ n w. equation _;
  members_of = λ m. equation _;
  next_member = next_member;
  gathered = λ p. equation _;
}
