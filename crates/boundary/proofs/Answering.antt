-- A record's row, and the state it leaves. Assumes nothing.
use Prim.Native.Nat.{ℕ}
use mathlib.Core.Path.{◌≡◌, sym, ap, ◌∙◌}
use mathlib.Core.List.{List}
use Rattle.std.specs.Prelude.{Option}
use Rattle.coordinator.specs.declared.Coordinator.{Coordinator}
use Rattle.coordinator.specs.Call.{Call}
use Rattle.layout.specs.Put.{put}
use Rattle.record.specs.declared.answer.Answer.{Answer}
use Rattle.record.specs.Answer.{answer}
use Rattle.record.specs.Tested.{Plays}
use Rattle.boundary.specs.Row.{row_of, row}
use Rattle.boundary.specs.Records.{Answers}
use Rattle.boundary.proofs.Written.{row_is}

pub plays_answers : (s : Coordinator) (c : Option Call) (a : Answer) (r : Coordinator) (o : List ℕ) (at : ℕ) (left : List ℕ) → Plays (answer s c) a r
    → left ≡ put o at (row_of a.numbers a.tickets) → Answers s c o at left r
plays_answers s c a r o at left p w = record {
  written = w ∙ ap (put o at) (row_is a.numbers (answer s c).values a.tickets p.numbers p.tickets);
  state = p.state;
}

-- the same call, read otherwise
pub as_call : {s : Coordinator} {c d : Option Call} {o : List ℕ} {at : ℕ} {left : List ℕ} {r : Coordinator} → c ≡ d → Answers s d o at left r → Answers s c o at left r
as_call {s} {c} {d} {o} {at} {left} {r} e a = record {
  written = a.written ∙ ap (λ (x : Option Call). put o at (row (answer s x).values)) (sym e);
  state = a.state ∙ ap (λ (x : Option Call). (answer s x).state) (sym e);
}
