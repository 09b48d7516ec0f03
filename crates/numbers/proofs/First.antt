-- What the search finds is the first number, from the candidate upwards, that is not held; and there is one such number only.
-- Assumes nothing.
use Rattle.std.proofs.Common.{◌≡◌, ℕ, zero, suc, ◌+◌, ◌^◌, ◌<◌, ◌≤◌, Bool, true, false, List, length, get_or, sym, refl, ap, ◌∙◌, subst, not-suc-le-zero, mod-lt, arith, lit<, eq-eqb, eqb-true}
use borrow.Author.Tests.{not-false}
use Rattle.loops.proofs.Tests.{both}
use Rattle.loops.proofs.Rules.{split_last}
use Rattle.loops.proofs.Turns.{every_at, every_not}
use Rattle.loops.proofs.Pigeonhole.{pigeonhole}
use Rattle.numbers.specs.Ticket.{absent_in, after, free_from, ticket_from}
use Rattle.numbers.specs.First.{IsHeld, upward, FirstFree}
use Rattle.numbers.proofs.Search.{free_stop, free_suc}

-- the test says whether a number is held
pub absent_free : (held : List ℕ) (t : ℕ) → absent_in held t ≡ true → ¬ IsHeld held t
unfolding absent_in
absent_free held t e (i, l, q) = both (every_at (length held) _ e i l) (simp (eq-eqb _ _ q))

pub present_held : (held : List ℕ) (t : ℕ) → absent_in held t ≡ false → IsHeld held t
unfolding absent_in
present_held held t e = let at = every_not (length held) _ e in (at.0, at.1, eqb-true _ _ (not-false _ at.2))

-- fewer than 2 ^ 16 steps lead to different numbers
upward_apart : (from i j : ℕ) → i < j → j < 2 ^ 16 → upward from i ≡ upward from j → ⊥
upward_apart from i j l b e = omega arith

upward_next : (from steps : ℕ) → after (upward from steps) ≡ upward from (suc steps)
upward_next from steps = omega arith

-- all that stands before so many steps is held
abbrev Passed : List ℕ → ℕ → ℕ → Type 0
Passed held from steps = (j : ℕ) → j < steps → IsHeld held (upward from j)

pass : (held : List ℕ) (from steps : ℕ) → absent_in held (upward from steps) ≡ false → Passed held from steps → Passed held from (suc steps)
pass held from steps q passed = split_last (λ j. IsHeld held (upward from j)) (present_held held _ q) passed

-- what was passed is held, all of it different: so it is no more than what is held
passed_le : (held : List ℕ) (from steps : ℕ) → steps ≤ 2 ^ 16 → Passed held from steps → steps ≤ length held
passed_le held from steps b passed = pigeonhole (length held) steps (λ j i. get_or held i 0 ≡ upward from j) passed (λ i j x l m p q. upward_apart from i j l (omega arith) (sym p ∙ q))

stops : (turns : ℕ) (held : List ℕ) (from steps : ℕ) → absent_in held (upward from steps) ≡ true → Passed held from steps → FirstFree held from (free_from turns held (upward from steps))
stops turns held from steps q passed =
    rw (← (free_stop turns held (upward from steps) q))
    (record { steps = steps; is = refl; free = absent_free held _ q; passed = passed })

-- the search, so many steps up, with so many turns left
finds : (turns : ℕ) (held : List ℕ) (from steps : ℕ) → length held < 2 ^ 16 → steps + turns ≡ length held → Passed held from steps → FirstFree held from (free_from turns held (upward from steps))
finds zero held from steps b e passed = at (absent_in held (upward from steps)) refl
  where
    at : (free : Bool) → absent_in held (upward from steps) ≡ free → FirstFree held from (free_from zero held (upward from steps))
    at true q = stops zero held from steps q passed
    at false q = absurd (omega (arith, passed_le held from (suc steps) (omega arith) (pass held from steps q passed)))
finds (suc turns) held from steps b e passed = at (absent_in held (upward from steps)) refl (finds turns held from (suc steps) b (omega arith))
  where
    at : (free : Bool) → absent_in held (upward from steps) ≡ free → (Passed held from (suc steps) → FirstFree held from (free_from turns held (upward from (suc steps))))
        → FirstFree held from (free_from (suc turns) held (upward from steps))
    at true q on = stops (suc turns) held from steps q passed
    at false q on = rw (free_suc turns held (upward from steps) q, upward_next from steps) (on (pass held from steps q passed))

pub ticket_first : (held : List ℕ) (from : ℕ) → length held < 2 ^ 16 → from < 2 ^ 16 → FirstFree held from (ticket_from held from)
ticket_first held from b l =
    let here : upward from 0 ≡ from = omega arith in
    subst (λ (t : ℕ). FirstFree held from (free_from (length held) held t)) here (finds (length held) held from 0 b (omega arith) (λ j h. absurd (not-suc-le-zero h)))

-- the first free number is one only
no_earlier : {held : List ℕ} {from t u : ℕ} (p : FirstFree held from t) (q : FirstFree held from u) → q.steps < p.steps → ⊥
no_earlier p q l = q.free (rw q.is (p.passed q.steps l))

pub first_one : {held : List ℕ} {from t u : ℕ} → FirstFree held from t → FirstFree held from u → t ≡ u
first_one {from = from} p q =
    let same : p.steps ≡ q.steps = omega (arith, no_earlier p q, no_earlier q p) in
    p.is ∙ ap (upward from) same ∙ sym q.is

-- a ticket has 16 bits
free_small : (turns : ℕ) (held : List ℕ) (t : ℕ) → t < 2 ^ 16 → free_from turns held t < 2 ^ 16
unfolding free_from
free_small zero held t l = l
free_small (suc turns) held t l = at (absent_in held t) refl (free_small turns held (after t) (mod-lt _ (lit< tt)))
  where
    at : (free : Bool) → absent_in held t ≡ free → free_from turns held (after t) < 2 ^ 16 → free_from (suc turns) held t < 2 ^ 16
    at true q on = rw (← (free_stop (suc turns) held t q)) l
    at false q on = rw (free_suc turns held t q) on

pub ticket_small : (held : List ℕ) (from : ℕ) → from < 2 ^ 16 → ticket_from held from < 2 ^ 16
ticket_small held from l = free_small (length held) held from l

-- and no open job holds it
pub ticket_free : (held : List ℕ) (from : ℕ) → length held < 2 ^ 16 → from < 2 ^ 16 → (i : ℕ) → i < length held → get_or held i 0 ≡ ticket_from held from → ⊥
ticket_free held from b l i h e = (ticket_first held from b l).free (i, h, e)
