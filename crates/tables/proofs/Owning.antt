-- Each open slot has a ticket of its own: the definition's test, slot by slot, and the code's, which looks closely only where a ticket may have come before. Assumes nothing.
use Prim.Native.Nat.{ℕ, ◌-◌, ◌%◌, ◌*◌, ◌^◌, ◌<◌}
use native.Mathlib.Nat.{lt_of_le_of_lt, mod-lt}
use mathlib.Core.Bool.{Bool, true, false, not, ◌&&◌, ◌||◌}
use mathlib.Core.List.{List}
use mathlib.Core.Logic.{◌⊎◌, inl, inr, ◌↔◌}
use mathlib.Core.Path.{◌≡◌, refl, sym, ap, ◌∙◌}
use borrow.Author.Tests.{eq-eqb, ne_eqb, eqb-true}
use lib.Bits.{bit_and, bit_or, or_lt, and_le_l}
use lib.Dec.{eqb, lit<}
use lib.Pow.{pow-lt, ones_lt}
use Rattle.loops.specs.Loop.{every}
use Rattle.loops.proofs.Tests.{both, and_left, and_right, and_true, and_both, or_cases, or_right, or_false, same_test, untrue}
use Rattle.loops.proofs.Turns.{every_at, every_of, every_same, every_both, every_fails}
use Rattle.mask.specs.Lowest.{Lowest}
use Rattle.mask.specs.Member.{holds, excluding}
use Rattle.mask.proofs.Equal.{same_members}
use Rattle.mask.proofs.Gather.{holds_gather, gathered_lt}
use Rattle.mask.proofs.Holds.{holds_none, holds_one, holds_or, holds_and, holds_excluding, holds_below, holds_all}
use Rattle.mask.proofs.Lowest.{lowest_holds}
use Rattle.mask.proofs.Words.{one_shl}
use Rattle.tables.specs.Limits.{jobs}
use Rattle.tables.specs.Tables.{entry, sharers_in, holders_in}
use Rattle.tables.specs.Test.{ticket_sound}
use Rattle.tables.specs.Parts.{free_ticket, no_ticket, own_ticket, new_ticket}

-- in two tests

ticket_at_lem : (tickets : List ℕ) (slots j : ℕ) → no_ticket tickets slots j && own_ticket tickets slots j ≡ ticket_sound tickets slots j
unfolding no_ticket free_ticket own_ticket ticket_sound holders_in
ticket_at_lem tickets slots j = by (holds slots j)
  where
    by : (b : Bool)
        → eqb (elim b [ true ↦ 0 | false ↦ entry tickets j ]) 0 && (not b || eqb (bit_and (sharers_in tickets (entry tickets j)) slots) (2 ^ j))
        ≡ elim b [ true ↦ eqb (bit_and (sharers_in tickets (entry tickets j)) slots) (2 ^ j) | false ↦ eqb (entry tickets j) 0 ]
    by true = refl
    by false = and_true (eqb (entry tickets j) 0)

pub tickets_are : (tickets : List ℕ) (slots : ℕ)
    → every jobs (no_ticket tickets slots) && every jobs (own_ticket tickets slots) ≡ every jobs (ticket_sound tickets slots)
tickets_are tickets slots = sym (every_both jobs (no_ticket tickets slots) (own_ticket tickets slots)) ∙ every_same jobs _ _ (λ j l. ticket_at_lem tickets slots j)

pub free_fail : (tickets : List ℕ) (slots : ℕ) → every jobs (no_ticket tickets slots) ≡ false → false ≡ every jobs (ticket_sound tickets slots)
free_fail tickets slots e = ap (λ (b : Bool). b && every jobs (own_ticket tickets slots)) (sym e) ∙ tickets_are tickets slots

pub free_hold : (tickets : List ℕ) (slots : ℕ) → every jobs (no_ticket tickets slots) ≡ true
    → every jobs (own_ticket tickets slots) ≡ every jobs (ticket_sound tickets slots)
free_hold tickets slots e = ap (λ (b : Bool). b && every jobs (own_ticket tickets slots)) (sym e) ∙ tickets_are tickets slots

-- only slot j holds its ticket

module _ (tickets : List ℕ) (slots : ℕ) where
  pub holds_holders : (t a : ℕ) → a < jobs → holds (holders_in tickets slots t) a ≡ eqb (entry tickets a) t && holds slots a
  unfolding holders_in sharers_in
  holds_holders t a l =
      holds_and (sharers_in tickets t) slots a ∙ ap (λ (b : Bool). b && holds slots a) (holds_gather (λ j. eqb (entry tickets j) t) jobs a l)

  pub holders_lt : (t : ℕ) → holders_in tickets slots t < 2 ^ jobs
  unfolding holders_in sharers_in
  holders_lt t = lt_of_le_of_lt (and_le_l (sharers_in tickets t) slots) (gathered_lt (λ j. eqb (entry tickets j) t) jobs)

  -- no ticket is the ticket 0: each slot is open or has that
  without : (j : ℕ) → j < jobs → holds (bit_or slots (sharers_in tickets 0)) j ≡ no_ticket tickets slots j
  unfolding sharers_in no_ticket free_ticket
  without j l =
      holds_or slots (sharers_in tickets 0) j
      ∙ ap (λ (b : Bool). holds slots j || b) (holds_gather (λ j. eqb (entry tickets j) 0) jobs j l)
      ∙ by (holds slots j)
    where
      by : (b : Bool) → b || eqb (entry tickets j) 0 ≡ eqb (elim b [ true ↦ 0 | false ↦ entry tickets j ]) 0
      by true = refl
      by false = refl

  pub free_are : slots < 2 ^ jobs → eqb (bit_or slots (sharers_in tickets 0)) (2 ^ jobs - 1) ≡ every jobs (no_ticket tickets slots)
  unfolding sharers_in
  free_are small =
      same_test _ _
      (λ e. every_of jobs _ (λ j l. sym (without j l) ∙ ap (λ (m : ℕ). holds m j) (eqb-true _ _ e) ∙ holds_all jobs j l))
      (λ e.
      eq-eqb _ _
      (same_members jobs _ _ (or_lt jobs slots (sharers_in tickets 0) small (gathered_lt (λ j. eqb (entry tickets j) 0) jobs)) (ones_lt jobs)
      (λ j l. without j l ∙ every_at jobs _ e j l ∙ sym (holds_all jobs j l))))

  module _ (small : slots < 2 ^ jobs) (j : ℕ) (o : holds slots j ≡ true) where
    abbrev Only : Type 0
    Only = (a : ℕ) → holds slots a ≡ true → entry tickets a ≡ entry tickets j → a ≡ j

    only_to : holders_in tickets slots (entry tickets j) ≡ 2 ^ j → Only
    only_to e a p q =
        eqb-true a j
        (sym (holds_one j a)
        ∙ sym (ap (λ (m : ℕ). holds m a) e)
        ∙ holds_holders (entry tickets j) a (holds_below jobs slots a small p)
        ∙ and_both (eq-eqb (entry tickets a) (entry tickets j) q) p)

    only_from : Only → holders_in tickets slots (entry tickets j) ≡ 2 ^ j
    only_from e =
        same_members jobs (holders_in tickets slots (entry tickets j)) (2 ^ j) (holders_lt (entry tickets j)) (pow-lt (holds_below jobs slots j small o))
        (λ a l. holds_holders (entry tickets j) a l ∙ same a ∙ sym (holds_one j a))
      where
        same : (a : ℕ) → eqb (entry tickets a) (entry tickets j) && holds slots a ≡ eqb a j
        same a =
            same_test (eqb (entry tickets a) (entry tickets j) && holds slots a) (eqb a j)
            (λ p. eq-eqb a j (e a (and_right (eqb (entry tickets a) (entry tickets j)) (holds slots a) p) (eqb-true (entry tickets a) (entry tickets j) (and_left (eqb (entry tickets a) (entry tickets j)) (holds slots a) p))))
            (λ p. and_both (eq-eqb (entry tickets a) (entry tickets j) (ap (λ (i : ℕ). entry tickets i) (eqb-true a j p))) (rw (eqb-true a j p) o))

    pub only_iff : (holders_in tickets slots (entry tickets j) ≡ 2 ^ j) ↔ Only
    only_iff = (only_to, only_from)

  own_at : (j : ℕ) (b : Bool) → holds slots j ≡ b → (b ≡ true → holders_in tickets slots (entry tickets j) ≡ 2 ^ j) → own_ticket tickets slots j ≡ true
  unfolding own_ticket
  own_at j true e h = or_right (not (holds slots j)) _ (eq-eqb (holders_in tickets slots (entry tickets j)) (2 ^ j) (h refl))
  own_at j false e h = rw e

  -- where the ticket of slot j is not new, it is not its own
  pub not_own : (seen j : ℕ) → holds slots j ≡ true → new_ticket tickets slots seen j ≡ false → own_ticket tickets slots j ≡ false
  unfolding own_ticket new_ticket
  not_own seen j o e = rw o (or_false (eqb (bit_and seen (2 ^ (entry tickets j % 64))) 0) _ e).1

  -- as the code has it
  pub new_unseen : (seen j : ℕ) → bit_and seen (1 * 2 ^ (entry tickets j % 64) % 2 ^ 64) ≡ 0 → true ≡ new_ticket tickets slots seen j
  unfolding new_ticket
  new_unseen seen j z = rw (eq-eqb (bit_and seen (2 ^ (entry tickets j % 64))) 0 (rw (one_shl 64 (entry tickets j % 64) (mod-lt (entry tickets j) (lit< tt))) at z))

  pub new_seen : (seen j r : ℕ) → ¬ (bit_and seen (1 * 2 ^ (entry tickets j % 64) % 2 ^ 64) ≡ 0) → j < jobs → r ≡ holders_in tickets slots (entry tickets j)
      → eqb r (1 * 2 ^ j % 2 ^ 32) ≡ new_ticket tickets slots seen j
  unfolding new_ticket
  new_seen seen j r ne l e =
      rw (ne_eqb (bit_and seen (2 ^ (entry tickets j % 64))) 0 (rw (one_shl 64 (entry tickets j % 64) (mod-lt (entry tickets j) (lit< tt))) at ne), e, one_shl 32 j l)

  -- a walk over the open slots: those not in m were met, and what their tickets are modulo 64 was seen

  pub record Met (seen m : ℕ) : Type 0 where
    pub among : (j : ℕ) → holds m j ≡ true → holds slots j ≡ true
    pub noted : (j : ℕ) → holds slots j ≡ true → holds m j ≡ false → holds seen (entry tickets j % 64) ≡ true
    pub differ : (a b : ℕ) → holds slots a ≡ true → holds m a ≡ false → holds slots b ≡ true → holds m b ≡ false → entry tickets a ≡ entry tickets b → a ≡ b

  pub met_none : Met 0 slots
  met_none = record { among = λ j e. e; noted = λ j e f. both e f; differ = λ a b e f g h t. both e f }

  module _ (small : slots < 2 ^ jobs) where
    module _ (seen m w : ℕ) (met : Met seen m) where
      module _ (l : Lowest jobs m w) (new : new_ticket tickets slots seen w ≡ true) where
        -- none of those met has the ticket of w
        apart : (a : ℕ) → holds slots a ≡ true → holds m a ≡ false → entry tickets a ≡ entry tickets w → a ≡ w
        unfolding new_ticket
        apart a p f q = by (or_cases (eqb (bit_and seen (2 ^ (entry tickets w % 64))) 0) (eqb (holders_in tickets slots (entry tickets w)) (2 ^ w)) new)
          where
            unseen : bit_and seen (2 ^ (entry tickets w % 64)) ≡ 0 → holds seen (entry tickets w % 64) ≡ false
            unseen z =
                untrue (holds seen (entry tickets w % 64))
                (λ e.
                both
                (holds_and seen (2 ^ (entry tickets w % 64)) (entry tickets w % 64)
                ∙ and_both e (holds_one (entry tickets w % 64) (entry tickets w % 64) ∙ eq-eqb (entry tickets w % 64) (entry tickets w % 64) refl))
                (rw z (holds_none (entry tickets w % 64))))

            by : (eqb (bit_and seen (2 ^ (entry tickets w % 64))) 0 ≡ true) ⊎ (eqb (holders_in tickets slots (entry tickets w)) (2 ^ w) ≡ true) → a ≡ w
            by (inl e) = both (rw q at (met.noted a p f)) (unseen (eqb-true (bit_and seen (2 ^ (entry tickets w % 64))) 0 e))
            by (inr e) =
                (only_iff small w (met.among w (lowest_holds l))).0 (eqb-true (holders_in tickets slots (entry tickets w)) (2 ^ w) e) a p q

        -- what was not met but for w
        before : (a : ℕ) → holds (excluding m w) a ≡ false → (a ≡ w) ⊎ (holds m a ≡ false)
        before a e = by (eqb a w) refl
          where
            by : (b : Bool) → eqb a w ≡ b → (a ≡ w) ⊎ (holds m a ≡ false)
            by true p = inl (eqb-true a w p)
            by false p = inr (sym (rw p at (holds_excluding m w a)) ∙ e)

        met_turn : Met (bit_or seen (2 ^ (entry tickets w % 64))) (excluding m w)
        met_turn = record {
          among = λ j e. met.among j (and_right (not (eqb j w)) (holds m j) (sym (holds_excluding m w j) ∙ e));
          noted = λ j p f. holds_or seen (2 ^ (entry tickets w % 64)) (entry tickets j % 64) ∙ note j p (before j f);
          differ = λ a b p f q g t. pair a b p q t (before a f) (before b g);
        }
          where
            note : (j : ℕ) → holds slots j ≡ true → (j ≡ w) ⊎ (holds m j ≡ false)
                → holds seen (entry tickets j % 64) || holds (2 ^ (entry tickets w % 64)) (entry tickets j % 64) ≡ true
            note j p (inl e) =
                or_right (holds seen (entry tickets j % 64)) _
                (holds_one (entry tickets w % 64) (entry tickets j % 64) ∙ eq-eqb (entry tickets j % 64) (entry tickets w % 64) (ap (λ (i : ℕ). entry tickets i % 64) e))
            note j p (inr f) = rw (met.noted j p f)

            pair : (a b : ℕ) → holds slots a ≡ true → holds slots b ≡ true → entry tickets a ≡ entry tickets b
                → (a ≡ w) ⊎ (holds m a ≡ false) → (b ≡ w) ⊎ (holds m b ≡ false) → a ≡ b
            pair a b p q t (inl e) (inl f) = e ∙ sym f
            pair a b p q t (inl e) (inr f) = e ∙ sym (apart b q f (sym t ∙ ap (λ (i : ℕ). entry tickets i) e))
            pair a b p q t (inr e) (inl f) = apart a p e (t ∙ ap (λ (i : ℕ). entry tickets i) f) ∙ sym f
            pair a b p q t (inr e) (inr f) = met.differ a b p e q f t

      pub met_own : Lowest jobs m w → false ≡ new_ticket tickets slots seen w → false ≡ every jobs (own_ticket tickets slots)
      met_own l e = every_fails _ jobs _ l.within (not_own seen w (met.among w (lowest_holds l)) (sym e))

      pub met_again : (k : ℕ) → Lowest jobs m w → true ≡ new_ticket tickets slots seen w → k ≡ excluding m w
          → Met (bit_or seen (1 * 2 ^ (entry tickets w % 64) % 2 ^ 64)) k
      met_again k l new p = rw (one_shl 64 (entry tickets w % 64) (mod-lt (entry tickets w) (lit< tt)), p) (met_turn l (sym new))

    pub met_all : (seen m : ℕ) → m ≡ 0 → Met seen m → true ≡ every jobs (own_ticket tickets slots)
    met_all seen m z met = sym (every_of jobs _ (λ j l. at j (holds slots j) refl))
      where
        none : (j : ℕ) → holds m j ≡ false
        none j = rw z (holds_none j)

        at : (j : ℕ) (b : Bool) → holds slots j ≡ b → own_ticket tickets slots j ≡ true
        at j b e = own_at j b e (λ o. (only_iff small j (e ∙ o)).1 (λ a p q. met.differ a j p (none a) (e ∙ o) (none j) q))

-- for the code: the two tests, whether a ticket is new, and the walk over the open slots
pub ruleset two_tests = (free_fail, free_hold)

pub ruleset new_or_not = (new_unseen, new_seen)

pub ruleset walk = (met_none, met_own, met_again, met_all)
