-- Records played one after another. Assumes nothing.
use Prim.Native.Nat.{ℕ, ◌+◌, ◌*◌, ◌/◌, ◌≤◌, ◌<◌}
use mathlib.Core.Path.{◌≡◌, refl, sym, ap, ◌∙◌}
use mathlib.Core.List.{List, []}
use Rattle.std.specs.Prelude.{Option}
use Rattle.std.specs.Simd.{first_chunks}
use native.Mathlib.Omega.{arith}
use native.Mathlib.Numerals.{add-one}
use lib.ListN.{length, get_or}
use Rattle.coordinator.specs.declared.Coordinator.{Coordinator}
use Rattle.layout.specs.Put.{put}
use Rattle.layout.specs.Bytes.{number_at}
use Rattle.layout.proofs.Put.{put_all, Filled, filled_long}
use Rattle.layout.proofs.Numbers.{length_pieces, pieces_none, pieces_turn}
use Rattle.record.specs.Answer.{answer}
use Rattle.boundary.specs.Row.{row_size, row}
use Rattle.boundary.specs.Records.{Answers, record_at, state_after, row_at, rows}
use Rattle.coordinator.specs.Call.{Call}
use Rattle.layout.proofs.Number.{number_two}
use Rattle.record.specs.Record.{call_of, two_bytes}
use Rattle.record.specs.Request.{read}
use Rattle.record.proofs.Chunks.{read_at}
use Rattle.boundary.proofs.Written.{length_row}
use Rattle.boundary.proofs.Answering.{as_call}

-- chunk i is record i
pub chunk_is : (records : List ℕ) (n : ℕ) (chunks : List (List ℕ)) (i : ℕ) → chunks ≡ first_chunks 4 (length records / 4) records → n ≡ length records / 4 → i < n → read (get_or chunks i []) ≡ record_at records i
chunk_is records n chunks i e m h =
    let last : 4 * i + 2 + 1 ≡ 4 * i + 3 = omega arith in
    let value : number_at 2 records (4 * i + 2) ≡ two_bytes (get_or records (4 * i + 2) 0) (get_or records (4 * i + 3) 0) = number_two records (4 * i + 2) (omega (arith, m)) ∙ ap (λ (k : ℕ). two_bytes (get_or records (4 * i + 2) 0) (get_or records k 0)) last in
    read_at (length records / 4) records i chunks e (omega (arith, m)) ∙ ap (call_of (get_or records (4 * i) 0) (get_or records (4 * i + 1) 0)) (sym value)

module _ (s : Coordinator) (records o : List ℕ) where
  -- i records are played
  pub record Going (t : Coordinator) (left : List ℕ) (i : ℕ) : Type 0 where
    pub here : i ≤ length records / 4
    pub state : t ≡ state_after s records i
    pub filled : Filled o 0 (rows s records i) (0 + row_size * i) left

  long : (i : ℕ) → length (row_at s records i) ≡ row_size
  unfolding row_at
  long i = length_row (answer (state_after s records i) (record_at records i)).values

  pub going_start : Going s o 0
  unfolding state_after rows
  going_start = record { here = omega arith; state = refl; filled = pieces_none row_size (row_at s records) long o 0 (omega arith) }

  pub going_long : (t : Coordinator) (left : List ℕ) (i : ℕ) → Going t left i → length left ≡ length o
  going_long t left i g = filled_long o 0 (rows s records i) (0 + row_size * i) left g.filled

  pub going_on : (t : Coordinator) (left : List ℕ) (i : ℕ) (c : Option Call) (t₁ : Coordinator) (left₁ : List ℕ) (p : ℕ) → length o ≡ row_size * (length records / 4) → i < length records / 4 → Going t left i →
      c ≡ record_at records i → p ≡ row_size * i → Answers t c left p left₁ t₁ → Going t₁ left₁ (i + 1)
  unfolding state_after row_at rows
  going_on t left i c t₁ left₁ p l h g v q w =
      let a : Answers t (record_at records i) left p left₁ t₁ = as_call (sym v) w in
      record {
        here = omega arith;
        state = a.state ∙ ap (λ (x : Coordinator). (answer x (record_at records i)).state) g.state ∙ ap (state_after s records) (sym (add-one i));
        filled =
            pieces_turn row_size (row_at s records) long o 0 i p left left₁ g.filled (omega arith) (omega arith)
            (a.written ∙ ap (λ (x : Coordinator). put left p (row (answer x (record_at records i)).values)) g.state);
      }

  pub going_done : (t : Coordinator) (left : List ℕ) (i : ℕ) → length o ≡ row_size * (length records / 4) → length records / 4 ≤ i → Going t left i →
      (left ≡ rows s records (length records / 4)) × (t ≡ state_after s records (length records / 4))
  unfolding rows
  going_done t left i l h g =
      let e : i ≡ length records / 4 = omega (arith, g.here) in
      (g.filled.is ∙ put_all o (rows s records i) (length_pieces row_size (row_at s records) long i ∙ omega arith) ∙ ap (rows s records) e, g.state ∙ ap (state_after s records) e)
