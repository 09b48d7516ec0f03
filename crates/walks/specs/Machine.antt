-- The opening search as document 01 defines it: a machine that stands at a job, chooses and moves.
-- The quoted sentences are document 01's. Assumes nothing.
use Rattle.std.specs.Prelude.{ℕ, zero, suc, Bool, true, false, not, ◌&&◌, ◌||◌, List, [], ◌∷◌, eqb}
use Rattle.std.proofs.Math.Option.{Option, none, some}
use Rattle.walks.specs.Marks.{Marks}
use Rattle.walks.specs.Walk.{Graph}
use Rattle.walks.specs.First.{or_else, first_of, given}

-- a job, and the database through which it was reached
pub record Place : Type 0 where
  pub job : ℕ
  pub via : ℕ

-- Where the machine stands and what it has marked. `trail`: the places to go back to, the last one first.
pub record Standing {J D : ℕ} (K : Marks J D) : Type 0 where
  pub place : Place
  pub trail : List Place
  pub reached : K.M
  pub found : K.M
  pub moves : ℕ

module _ (G : Graph) (K : Marks G.jobs G.databases) where
  -- Standing at v, reached through t, 'a pair (u,w) may be chosen when: v and w both name u; w isn't v; u isn't the database v was reached through;
  -- no dependency at u from v to w exists, found ones included; and w is N, or w hasn't been reached through u yet'.
  unfoldable pub may_be_chosen : ℕ → ℕ → K.M → K.M → ℕ → ℕ → Bool
  may_be_chosen v t reached found u w =
      G.names v u && G.names w u && not (eqb w v) && not (eqb u t) && not (G.dep u v w || eqb w G.new && K.has found v u)
      && (eqb w G.new || not (K.has reached w u))

  -- the first pair that may be chosen: 'database u ascending, then slot of w ascending'
  unfoldable pub chosen : Standing K → Option (ℕ × ℕ)
  chosen s =
      first_of G.databases (λ u. first_of G.jobs (λ w. given (may_be_chosen s.place.job s.place.via s.reached s.found u w) (u, w)))

  -- 'If w is N: a closing move. The dependency at u from v to N is found. Stay at v.'
  unfoldable pub closing_move : ℕ → Standing K → Standing K
  closing_move u s = record {
    place = s.place;
    trail = s.trail;
    reached = s.reached;
    found = K.put s.found s.place.job u;
    moves = suc s.moves;
  }

  -- 'Otherwise: a forward move. Mark w reached through u, and stand at w.'
  unfoldable pub forward_move : ℕ → ℕ → Standing K → Standing K
  forward_move u w s = record {
    place = record { job = w; via = u };
    trail = s.place ∷ s.trail;
    reached = K.put s.reached w u;
    found = s.found;
    moves = suc s.moves;
  }

  unfoldable pub move_to : Bool → ℕ → ℕ → Standing K → Standing K
  move_to true u w s = closing_move u s
  move_to false u w s = forward_move u w s

  -- 'Nothing left to choose: go back to where v was reached from, a return move, or end at N.'
  unfoldable pub return_move : Standing K → List Place → Option (Standing K)
  return_move s [] = none
  return_move s (p ∷ l) = some (record { place = p; trail = l; reached = s.reached; found = s.found; moves = suc s.moves })

  unfoldable pub act : Standing K → Option (ℕ × ℕ) → Option (Standing K)
  act s none = return_move s s.trail
  act s (some c) = some (move_to (eqb c.1 G.new) c.0 c.1 s)

  -- the next move, looked for anew each time; none at the end
  unfoldable pub step : Standing K → Option (Standing K)
  step s = act s (chosen s)

  -- the next k moves, or those to the end
  unfoldable pub onward : (Standing K → Standing K) → Standing K → Option (Standing K) → Standing K
  onward go s none = s
  onward go s (some r) = go r

  unfoldable pub after : ℕ → Standing K → Standing K
  after zero s = s
  after (suc k) s = onward (after k) s (step s)

  -- at N, reached through none, with nothing marked: `databases` is the number of no database
  unfoldable pub at_new : Standing K
  at_new = record {
    place = record { job = G.new; via = G.databases };
    trail = [];
    reached = K.none;
    found = K.none;
    moves = 0;
  }

  unfoldable pub machine : ℕ → Standing K
  unfolding after onward step act return_move move_to forward_move closing_move chosen may_be_chosen given first_of or_else at_new
  machine k = after k at_new
