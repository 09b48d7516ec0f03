-- The machine of document 01: it ends, and it is an engine of the opening search.
-- Assumes nothing.
use Prim.Native.Nat.{ℕ, zero, suc, ◌+◌, ◌*◌, ◌<◌, ◌≤◌}
use native.Mathlib.Omega.{arith}
use mathlib.Core.Bool.{Bool, true, false}
use mathlib.Core.List.{List, [], ◌∷◌}
use mathlib.Core.Logic.{◌⊎◌, inl, inr}
use mathlib.Core.Option.{Option, none, some, none-ne-some}
use mathlib.Core.Path.{◌≡◌, refl, sym, ◌∙◌}
use borrow.Author.Tests.{eqb-true, eqb-false}
use lib.Dec.{eqb}
use Rattle.walks.specs.Marks.{Marks}
use Rattle.walks.specs.Walk.{Graph, named}
use Rattle.walks.specs.Machine.{Place, Standing, chosen, closing_move, forward_move, move_to, return_move, act, step, onward, after, at_new, machine}
use Rattle.walks.specs.Engine.{Made, Engine}
use Rattle.walks.proofs.Walk.{sound_le}
use Rattle.walks.proofs.Choice.{May, chosen_none, chosen_some, may_is, may_made}
use Rattle.walks.proofs.Invariant.{Inv, InvOf, inv_new, inv_closing, inv_forward, inv_return, inv_end}

module _ (G : Graph) (K : Marks G.jobs G.databases) (new : G.new < G.jobs) where
  -- a step keeps the invariant and is one move; at the end the machine is an engine

  abbrev Stepped : Standing K → Option (Standing K) → Type 0
  Stepped s none = Engine G (K.has s.reached) (K.has s.found) s.moves
  Stepped s (some r) = InvOf G K r × (r.moves ≡ suc s.moves)

  returned : (s : Standing K) (l : List Place) → Inv G K s.place l s.reached s.found s.moves
      → Made G (K.has s.reached) (K.has s.found) s.place.job s.place.via → Stepped s (return_move G K s l)
  unfolding return_move
  returned s [] i made = inv_end G K s.place s.reached s.found s.moves i made
  returned s (q ∷ l) i made = (inv_return G K s.place q l s.reached s.found s.moves i made, refl)

  moved : (s : Standing K) → InvOf G K s → (u w : ℕ) → May G K s.place.job s.place.via s.reached s.found u w
      → (b : Bool) → eqb w G.new ≡ b → Stepped s (some (move_to G K b u w s))
  unfolding move_to closing_move forward_move
  moved s i u w c true e =
      let q = eqb-true w G.new e in
      (inv_closing G K s.place s.trail s.reached s.found s.moves i new u (rw q at c), refl)
  moved s i u w c false e = (inv_forward G K s.place s.trail s.reached s.found s.moves i u w c (eqb-false w G.new e), refl)

  stepped : (s : Standing K) → InvOf G K s → Stepped s (step G K s)
  unfolding step act
  stepped s i = by (chosen G K s) refl
    where
      by : (o : Option (ℕ × ℕ)) → chosen G K s ≡ o → Stepped s (act G K s o)
      by none e = returned s s.trail i (may_made G K s.place.job s.place.via s.reached s.found (chosen_none G K s e))
      by (some c) e =
          let h = chosen_some G K s c e in
          moved s i c.0 c.1 (may_is G K s.place.job s.place.via s.reached s.found c.0 c.1 h.database h.job h.may) (eqb c.1 G.new) refl

  -- after k steps the machine has ended, or has made k moves
  afterwards : (k : ℕ) (s : Standing K) → InvOf G K s → InvOf G K (after G K k s) × ((step G K (after G K k s) ≡ none) ⊎ ((after G K k s).moves ≡ s.moves + k))
  unfolding after onward
  afterwards zero s i = (i, inr (omega arith))
  afterwards (suc k) s i = by (step G K s) refl (stepped s i) (afterwards k)
    where
      again : (r : Standing K) → Stepped s (some r) → (step G K (after G K k r) ≡ none) ⊎ ((after G K k r).moves ≡ r.moves + k)
          → (step G K (after G K k r) ≡ none) ⊎ ((after G K k r).moves ≡ s.moves + suc k)
      again r h (inl e) = inl e
      again r h (inr e) = inr (omega (arith, h.1))

      by : (o : Option (Standing K)) → step G K s ≡ o → Stepped s o
          → ((r : Standing K) → InvOf G K r → InvOf G K (after G K k r) × ((step G K (after G K k r) ≡ none) ⊎ ((after G K k r).moves ≡ r.moves + k)))
          → InvOf G K (onward G K (after G K k) s o) × ((step G K (onward G K (after G K k) s o) ≡ none) ⊎ ((onward G K (after G K k) s o).moves ≡ s.moves + suc k))
      by none e h ih = (i, inl e)
      by (some r) e h ih = ((ih r h.0).0, again r h (ih r h.0).1)

  moves_bound : (s : Standing K) → InvOf G K s → s.moves ≤ 3 * named G
  moves_bound s i = omega (arith, i.tally, sound_le G (K.has s.reached) (K.has s.found) i.walks i.ends)

  ended : (n k : ℕ) → 3 * named G ≤ k → (s : Standing K) → InvOf G K s → (step G K s ≡ none) ⊎ (s.moves ≡ n + k)
      → (step G K s ≡ none) × Engine G (K.has s.reached) (K.has s.found) s.moves
  ended n k enough s i h = by (step G K s) refl (stepped s i) h
    where
      by : (o : Option (Standing K)) → step G K s ≡ o → Stepped s o → (step G K s ≡ none) ⊎ (s.moves ≡ n + k)
          → (step G K s ≡ none) × Engine G (K.has s.reached) (K.has s.found) s.moves
      by none e d h = (e, d)
      by (some r) e d (inl q) = absurd (none-ne-some r (sym q ∙ e))
      by (some r) e d (inr q) = absurd (omega (arith, d.1, moves_bound r d.0))

  -- until it ends, `moves` is the number of steps
  pub machine_counts : (k : ℕ) → (step G K (machine G K k) ≡ none) ⊎ ((machine G K k).moves ≡ k)
  unfolding machine
  machine_counts k = by (afterwards k (at_new G K) (inv_new G K)).1
    where
      by : (step G K (after G K k (at_new G K)) ≡ none) ⊎ ((after G K k (at_new G K)).moves ≡ 0 + k)
          → (step G K (after G K k (at_new G K)) ≡ none) ⊎ ((after G K k (at_new G K)).moves ≡ k)
      by (inl e) = inl e
      by (inr e) = inr (omega arith)

  module _ (k : ℕ) (enough : 3 * named G ≤ k) where
    machine_ended : (step G K (machine G K k) ≡ none) × Engine G (K.has (machine G K k).reached) (K.has (machine G K k).found) (machine G K k).moves
    unfolding machine
    machine_ended =
        let h = afterwards k (at_new G K) (inv_new G K) in
        ended _ k enough (after G K k (at_new G K)) h.0 h.1

    -- within 3×E moves the machine ends
    pub machine_ends : step G K (machine G K k) ≡ none
    machine_ends = machine_ended.0

    pub machine_engine : Engine G (K.has (machine G K k).reached) (K.has (machine G K k).found) (machine G K k).moves
    machine_engine = machine_ended.1

    pub machine_good : K.Good (machine G K k).reached × K.Good (machine G K k).found
    unfolding machine
    machine_good = (afterwards k (at_new G K) (inv_new G K)).0.good
