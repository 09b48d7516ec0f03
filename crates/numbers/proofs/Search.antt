-- The test and one step of the search for a number that is not held. Assumes nothing.
use Rattle.std.proofs.Common.{◌≡◌, ℕ, zero, suc, ◌+◌, ◌-◌, ◌<◌, Bool, true, false, not, List, length, eqb, refl, sym, ap, ◌∙◌, zero-le, arith}
use Rattle.std.specs.List.{IsAnyAnswer}
use Rattle.loops.proofs.Turns.{every_of, every_fails}
use Rattle.numbers.specs.Ticket.{absent_in, after, free_from}

pub free_stop : (f : ℕ) (held : List ℕ) (t : ℕ) → absent_in held t ≡ true → t ≡ free_from f held t
unfolding free_from
free_stop zero held t e = refl
free_stop (suc f) held t e = rw (free_from, e)

pub free_suc : (f : ℕ) (held : List ℕ) (t : ℕ) → absent_in held t ≡ false → free_from (suc f) held t ≡ free_from f held (after t)
unfolding free_from
free_suc f held t e = rw (free_from, e)

pub free_go : (n i : ℕ) (held : List ℕ) (t : ℕ) → i < n → absent_in held t ≡ false → free_from (n - i) held t ≡ free_from (n - (i + 1)) held (after t)
free_go n i held t l e = ap (λ (k : ℕ). free_from k held t) (omega arith) ∙ free_suc (n - (i + 1)) held t e

pub free_end : (n i : ℕ) (held : List ℕ) (t : ℕ) → n - i ≡ 0 → t ≡ free_from (n - i) held t
unfolding free_from
free_end n i held t e = rw e

-- what `contains` says of a number
pub absent_is : (held : List ℕ) (t : ℕ) (r : Bool) → IsAnyAnswer (λ y b. eqb y t ≡ b) held r → not r ≡ absent_in held t
unfolding absent_in
absent_is held t true h = every_fails _ (length held) h.0 h.1 (rw (h.2 0))
absent_is held t false h = sym (every_of (length held) _ (λ k l. rw (h k 0 zero-le l)))
