-- Records that come as chunks of four bytes. Assumes nothing.
use Prim.Native.Nat.{ℕ, ◌+◌, ◌*◌, ◌<◌}
use mathlib.Core.Path.{◌≡◌, ap, ◌∙◌}
use mathlib.Core.List.{List, []}
use native.Mathlib.Omega.{arith}
use lib.ListN.{get_or}
use Rattle.std.specs.Simd.{first_chunks}
use Rattle.loops.proofs.Chunks.{piece_at}
use Rattle.record.specs.Record.{call_of, two_bytes}
use Rattle.record.specs.Request.{read}

byte_at : (k : ℕ) (b : List ℕ) (i j : ℕ) → i < k → j < 4 → get_or (get_or (first_chunks 4 k b) i []) j 0 ≡ get_or b (4 * i + j) 0
byte_at k b i j h l = piece_at 4 k b i j 0 h l ∙ ap (λ (m : ℕ). get_or b m 0) (omega arith)

-- the record that chunk i is
pub read_at : (k : ℕ) (b : List ℕ) (i : ℕ) (chunks : List (List ℕ)) → chunks ≡ first_chunks 4 k b → i < k →
    read (get_or chunks i []) ≡ call_of (get_or b (4 * i) 0) (get_or b (4 * i + 1) 0) (two_bytes (get_or b (4 * i + 2) 0) (get_or b (4 * i + 3) 0))
read_at k b i chunks e h =
    let first : get_or (get_or (first_chunks 4 k b) i []) 0 0 ≡ get_or b (4 * i) 0 = byte_at k b i 0 h (omega arith) ∙ ap (λ (j : ℕ). get_or b j 0) (omega arith) in
    rw (e, first, byte_at k b i 1 h (omega arith), byte_at k b i 2 h (omega arith), byte_at k b i 3 h (omega arith))
