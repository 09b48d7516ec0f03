-- Each call's row and the state left are what the record answers. Assumes nothing.
use Prim.Native.Nat.{ℕ}
use mathlib.Core.Bool.{Bool}
use mathlib.Core.List.{List, []}
use Rattle.std.specs.Prelude.{Option, None, Some, Result, Ok, Err}
use mathlib.Core.Path.{◌≡◌, refl, sym, ap, subst, ◌∙◌}
use lib.ListN.{get_or}
use Rattle.coordinator.specs.declared.Coordinator.{Coordinator}
use Rattle.coordinator.specs.declared.answers.After.{After}
use Rattle.coordinator.specs.declared.answers.Opened.{Opened}
use Rattle.coordinator.specs.declared.answers.Asked.{Asked}
use Rattle.coordinator.specs.declared.answers.Closed.{Closed}
use Rattle.coordinator.specs.Limits.{jobs}
use Rattle.coordinator.specs.Test.{sound}
use Rattle.coordinator.specs.Open.{after_open_tested}
use Rattle.coordinator.specs.Ask.{after_ask_tested}
use Rattle.coordinator.specs.Confirm.{after_confirm_tested}
use Rattle.coordinator.specs.Close.{after_close_tested}
use Rattle.coordinator.specs.Answer.{Values, refused, open_values, ask_values, confirm_values, close_values}
use Rattle.coordinator.specs.Call.{Call, open_job, ask_step, confirm_step, close_job, Played, play}
use Rattle.coordinator.proofs.Tested.{open_is, ask_is, confirm_is, close_is}
use Rattle.numbers.specs.declared.Ticket.{Ticket}
use Rattle.refusals.specs.declared.refusal.Refusal.{Refusal}
use Rattle.record.specs.declared.answer.Answer.{Answer}
use Rattle.record.specs.declared.answer.Numbers.{Numbers}
use Rattle.record.specs.Answer.{numbers_of, answer}
use Rattle.record.specs.Row.{no_tickets, tickets_of}
use Rattle.record.specs.Tested.{answer_tested, Plays}
use Rattle.record.proofs.Tickets.{none_there, Told, close_told}

no_opened : (a : Result Opened Refusal) → (open_values a).tickets ≡ []
no_opened (Ok o) = refl
no_opened (Err r) = refl

no_asked : (a : Result Asked Refusal) → (ask_values a).tickets ≡ []
no_asked (Ok Asked.Released) = refl
no_asked (Ok Asked.Held) = refl
no_asked (Err r) = refl

no_confirmed : (a : Result (Option Ticket) Refusal) → (confirm_values a).tickets ≡ []
no_confirmed (Ok (Some t)) = refl
no_confirmed (Ok None) = refl
no_confirmed (Err r) = refl

-- of a call that closes nothing
bare_plays : (p q : Played) (a : Answer) (n : Numbers) → p ≡ q → p.values.tickets ≡ [] → n ≡ numbers_of p.values → a ≡ record { numbers = n; tickets = no_tickets } → Plays q a p.state
bare_plays p q a n e z v b = subst (λ (x : Played). Plays x a p.state) e (record {
  numbers = ap (λ (x : Answer). x.numbers) b ∙ v;
  tickets = λ i. ap (λ (l : List ℕ). get_or l i 0) z ∙ none_there jobs i ∙ ap (λ (x : Answer). get_or x.tickets i 0) (sym b);
  state = refl;
})

-- what a call of one kind left, played
abbrev played : {A : Type 0} → (Result A Refusal → Values) → After A → Played
played values r = record { values = values r.answer; state = r.state }

module _ (is_sound : Bool) (s : Coordinator) (a : Answer) (n : Numbers) where
  pub open_plays : (mask : ℕ) (r : After Opened) → r ≡ after_open_tested is_sound s mask → n ≡ numbers_of (open_values r.answer) → a ≡ record { numbers = n; tickets = no_tickets } → Plays (answer_tested is_sound s (Some (open_job mask))) a r.state
  unfolding answer_tested
  open_plays mask r e v b = bare_plays (played open_values r) _ a n (ap (played open_values) e) (no_opened r.answer) v b

  pub ask_plays : (t k : ℕ) (r : After Asked) → r ≡ after_ask_tested is_sound s t k → n ≡ numbers_of (ask_values r.answer) → a ≡ record { numbers = n; tickets = no_tickets } → Plays (answer_tested is_sound s (Some (ask_step t k))) a r.state
  unfolding answer_tested
  ask_plays t k r e v b = bare_plays (played ask_values r) _ a n (ap (played ask_values) e) (no_asked r.answer) v b

  pub confirm_plays : (t k : ℕ) (r : After (Option Ticket)) → r ≡ after_confirm_tested is_sound s t k → n ≡ numbers_of (confirm_values r.answer) → a ≡ record { numbers = n; tickets = no_tickets } → Plays (answer_tested is_sound s (Some (confirm_step t k))) a r.state
  unfolding answer_tested
  confirm_plays t k r e v b = bare_plays (played confirm_values r) _ a n (ap (played confirm_values) e) (no_confirmed r.answer) v b

  pub none_plays : n ≡ numbers_of (refused 11) → a ≡ record { numbers = n; tickets = no_tickets } → Plays (answer_tested is_sound s None) a s
  unfolding answer_tested
  none_plays v b = bare_plays (record { values = refused 11; state = s }) _ a n refl refl v b

pub close_plays : (is_sound : Bool) (s : Coordinator) (a : Answer) (t : ℕ) (r : After (Option Closed)) → r ≡ after_close_tested is_sound s t → a ≡ record { numbers = numbers_of (close_values r.answer); tickets = tickets_of r.answer } →
    Plays (answer_tested is_sound s (Some (close_job t))) a r.state
unfolding answer_tested
close_plays is_sound s a t r e b = subst (λ (x : Played). Plays x a r.state) (ap (played close_values) e) (record {
  numbers = ap (λ (x : Answer). x.numbers) b;
  tickets = λ i. subst Told (ap (λ (x : After (Option Closed)). x.answer) (sym e)) (close_told is_sound s t) i ∙ ap (λ (x : Answer). get_or x.tickets i 0) (sym b);
  state = refl;
})

-- for the callers: where the test was made
tested_is : (is_sound : Bool) (s : Coordinator) → is_sound ≡ sound s → (c : Option Call) → answer_tested is_sound s c ≡ answer s c
unfolding answer_tested answer play
tested_is is_sound s e None = refl
tested_is is_sound s e (Some (open_job mask)) = ap (played open_values) (open_is s is_sound e mask)
tested_is is_sound s e (Some (ask_step t k)) = ap (played ask_values) (ask_is s is_sound e t k)
tested_is is_sound s e (Some (confirm_step t k)) = ap (played confirm_values) (confirm_is s is_sound e t k)
tested_is is_sound s e (Some (close_job t)) = ap (played close_values) (close_is s is_sound e t)

pub plays_tested : (is_sound : Bool) (s : Coordinator) (c : Option Call) (a : Answer) (r : Coordinator) → is_sound ≡ sound s → Plays (answer_tested is_sound s c) a r → Plays (answer s c) a r
plays_tested is_sound s c a r e p = subst (λ (x : Played). Plays x a r) (tested_is is_sound s e c) p
