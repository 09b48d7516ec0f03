-- The loop of `play_all`: what is done, with what is still to be done, is the whole. Assumes nothing.
use Prim.Native.Nat.{ℕ, suc, ◌+◌, ◌*◌, ◌/◌, ◌%◌, ◌≤◌, ◌<◌}
use mathlib.Core.Path.{◌≡◌, refl, sym, ap, ◌∙◌}
use Rattle.std.specs.Prelude.{Some}
use mathlib.Core.List.{List, [], ◌∷◌, ◌++◌}
use native.Mathlib.Omega.{arith}
use Rattle.std.specs.Simd.{first_chunks}
use lib.ListN.{length, drop, get_or, length-append, length-drop, drop_of_length-le}
use lib.Seq.{drop-cons}
use Rattle.coordinator.specs.declared.Coordinator.{Coordinator}
use Rattle.layout.specs.Put.{put, Counts}
use Rattle.layout.proofs.Put.{put_none, put_put, length_put, counts}
use Rattle.lines.specs.Answered.{Answered}
use Rattle.lines.specs.Line.{longest}
use Rattle.lines.specs.Lines.{answer, line_of, left_over, lines_of, state_after, lines_in}
use Rattle.lines.specs.Playing.{Playing, all}

-- the four bytes from index at on are a record, and the rest follows
four : (b : List ℕ) (at : ℕ) → at + 4 ≤ length b → drop at b ≡ get_or b at 0 ∷ get_or b (at + 1) 0 ∷ get_or b (at + 2) 0 ∷ get_or b (at + 3) 0 ∷ drop (at + 4) b
four b at h =
    let last : suc (at + 3) ≡ at + 4 = omega arith in
    drop-cons b at 0 (omega arith)
    ∙ ap (λ (r : List ℕ). get_or b at 0 ∷ r) (one (at + 1) (suc at) (omega arith) (omega arith)
    ∙ ap (λ (r : List ℕ). get_or b (at + 1) 0 ∷ r) (one (at + 2) (suc (at + 1)) (omega arith) (omega arith)
    ∙ ap (λ (r : List ℕ). get_or b (at + 2) 0 ∷ r) (one (at + 3) (suc (at + 2)) (omega arith) (omega arith)
    ∙ ap (λ (k : ℕ). get_or b (at + 3) 0 ∷ drop k b) last))) where
      one : (k j : ℕ) → j ≡ k → k < length b → drop j b ≡ get_or b k 0 ∷ drop (suc k) b
      one k j e l = ap (λ (n : ℕ). drop n b) e ∙ drop-cons b k 0 l

abbrev pub answer_at : Coordinator → List ℕ → ℕ → Answered
answer_at s b at = answer s (get_or b at 0) (get_or b (at + 1) 0) (get_or b (at + 2) 0) (get_or b (at + 3) 0)

lines_on : (i : ℕ) (s : Coordinator) (b : List ℕ) (at : ℕ) → at + 4 ≤ length b →
    lines_of i s (drop at b) ≡ line_of i (answer_at s b at) ++ lines_of (i + 1) (answer_at s b at).state (drop (at + 4) b)
unfolding lines_of
lines_on i s b at h = ap (lines_of i s) (four b at h)

state_on : (s : Coordinator) (b : List ℕ) (at : ℕ) → at + 4 ≤ length b → state_after s (drop at b) ≡ state_after (answer_at s b at).state (drop (at + 4) b)
unfolding state_after
state_on s b at h = ap (state_after s) (four b at h)

few : (i : ℕ) (s : Coordinator) (b : List ℕ) → 0 < length b → length b < 4 → (lines_of i s b ≡ left_over i) × (state_after s b ≡ s)
unfolding lines_of state_after
few i s [] h l = absurd (omega arith)
few i s (x ∷ []) h l = (refl, refl)
few i s (x ∷ y ∷ []) h l = (refl, refl)
few i s (x ∷ y ∷ z ∷ []) h l = (refl, refl)
few i s (x ∷ y ∷ z ∷ w ∷ r) h l = absurd (omega arith)

none : (i : ℕ) (s : Coordinator) (b : List ℕ) (at : ℕ) → length b ≤ at → (lines_of i s (drop at b) ≡ []) × (state_after s (drop at b) ≡ s)
unfolding lines_of state_after
none i s b at h = rw (drop_of_length-le b h) (refl, refl)

-- what the chunks of a slice are, where it holds all of the bytes
pub record Parts (b : List ℕ) (whole : List (List ℕ)) (rest : List ℕ) : Type 0 where
  pub front : whole ≡ first_chunks 4 (length b / 4) b
  pub count : length whole ≡ length b / 4
  pub left : length rest ≡ length b % 4

pub parts : (x b : List ℕ) (whole : List (List ℕ)) (rest : List ℕ) → x ≡ b → whole ≡ first_chunks 4 (length x / 4) x → length whole ≡ length x / 4 → length rest ≡ length x % 4 → Parts b whole rest
parts x b whole rest e f c l = rw (← e) (record { front = f; count = c; left = l })

pub record Going (index : ℕ) (s : Coordinator) (b o₀ o : List ℕ) (t : Coordinator) (i at w : ℕ) : Type 0 where
  pub here : at ≤ length b
  pub count : 4 * i ≡ 4 * index + at
  pub room : w + longest * index ≤ longest * i
  pub long : length o ≡ length o₀
  pub size : w + length (lines_of i t (drop at b)) ≡ length (lines_of index s b)
  pub text : put o w (lines_of i t (drop at b)) ≡ put o₀ 0 (lines_of index s b)
  pub left : state_after t (drop at b) ≡ state_after s b

pub start : (index : ℕ) (s : Coordinator) (b o : List ℕ) → Going index s b o o s index 0 0
start index s b o = record { here = omega arith; count = omega arith; room = omega arith; long = refl; size = omega arith; text = refl; left = refl }

-- what is returned and left, from its parts
ended : (s : Coordinator) (index : ℕ) (b o₀ : List ℕ) (t : Coordinator) (i w : ℕ) (o : List ℕ) → t ≡ state_after s b → i ≡ index + lines_in b → w ≡ length (lines_of index s b) →
    o ≡ put o₀ 0 (lines_of index s b) → ◌≡◌ {A = Playing} (record { played = Some (record { index = i; wrote = w }); state = t; out = o }) (all s index b o₀)
ended s index b o₀ t i w o et ei ew eo = λ k. record { played = Some (record { index = ei k; wrote = ew k }); state = et k; out = eo k }

module _ (index : ℕ) (s : Coordinator) (b o₀ o : List ℕ) (t : Coordinator) (i at w : ℕ) (g : Going index s b o₀ o t i at w) (fits : length b / 4 < length o₀ / longest) where
  -- a line more has room
  pub room_on : at < length b → w + longest ≤ length o
  room_on h = omega (arith, g.room, g.count, g.long, g.here)

  -- a whole record more
  pub on : (q : Answered) (r : ℕ) (o₁ : List ℕ) (j next : ℕ) → q ≡ answer_at t b at → at + 4 ≤ length b → j ≡ i + 1 → next ≡ at + 4 → r ≡ w + length (line_of i q) → r ≤ w + longest → o₁ ≡ put o w (line_of i q) →
      Going index s b o₀ o₁ q.state j next r
  on q r o₁ j next eq h ej en er lr eo =
      let e : lines_of i t (drop at b) ≡ line_of i q ++ lines_of (i + 1) q.state (drop (at + 4) b) = rw eq (lines_on i t b at h) in
      let m : w + longest ≤ length o = room_on (omega (arith, h)) in
      rw (ej, en) (record {
        here = h;
        count = omega (arith, g.count);
        room = omega (arith, g.room);
        long = ap length eo ∙ length_put o w (line_of i q) (omega arith) ∙ g.long;
        size = omega (arith, simp length-append at (ap length e), g.size);
        text = rw (er, eo) (put_put o w (line_of i q) (lines_of (i + 1) q.state (drop (at + 4) b)) (omega arith)) ∙ ap (put o w) (sym e) ∙ g.text;
        left = ap (λ (x : Answered). state_after x.state (drop (at + 4) b)) eq ∙ sym (state_on t b at h) ∙ g.left;
      })

  -- some bytes are left over
  pub over : (r : ℕ) (o₁ : List ℕ) → at < length b → length b < at + 4 → r ≡ w + length (left_over i) → r ≤ w + longest → o₁ ≡ put o w (left_over i) →
      Counts r o₁ × (◌≡◌ {A = Playing} (record { played = Some (record { index = i + 1; wrote = r }); state = t; out = o₁ }) (all s index b o₀))
  over r o₁ h l er lr eo =
      let e : (lines_of i t (drop at b) ≡ left_over i) × (state_after t (drop at b) ≡ t) = few i t (drop at b) (simp length-drop (omega arith)) (simp length-drop (omega arith)) in
      let m : w + longest ≤ length o = room_on h in
      let lo : length o₁ ≡ length o = ap length eo ∙ length_put o w (left_over i) (omega arith) in (
        counts r o₁ (omega arith),
        ended s index b o₀ t (i + 1) r o₁ (sym e.1 ∙ g.left) (omega (arith, g.count)) (er ∙ ap (λ (x : List ℕ). w + length x) (sym e.0) ∙ g.size)
            (eo ∙ ap (put o w) (sym e.0) ∙ g.text),
      )

  -- none is
  pub done : length b ≤ at →
      Counts w o × (◌≡◌ {A = Playing} (record { played = Some (record { index = i; wrote = w }); state = t; out = o }) (all s index b o₀))
  done h =
      let e : (lines_of i t (drop at b) ≡ []) × (state_after t (drop at b) ≡ t) = none i t b at h in (
        counts w o (omega (arith, g.room, g.count, g.long, g.here)),
        ended s index b o₀ t i w o (sym e.1 ∙ g.left) (omega (arith, g.count, g.here)) (omega (arith, ap length e.0, g.size))
            (sym (put_none o w) ∙ ap (put o w) (sym e.0) ∙ g.text),
      )
