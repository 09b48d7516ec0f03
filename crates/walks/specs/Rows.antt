-- Sets of pairs as one set of jobs for each database: w is a member of the number at u.
-- Assumes nothing.
use Rattle.std.specs.Prelude.{ℕ, zero, suc, ◌<◌, Bool, true, false, ◌&&◌, ◌||◌, List, ◌≡◌, refl, eqb, length, get_or, set, replicate}
use Rattle.std.proofs.Common.{arith, ◌∙◌, eqb-true, length-set, get_or-set_same, get_or-set_other}
use Rattle.std.proofs.lemmas.Bool.{eqb-false}
use Rattle.std.proofs.lemmas.List.{length-replicate}
use Rattle.mask.specs.Member.{holds, including}
use Rattle.mask.proofs.Holds.{holds_none, holds_including}
use Rattle.walks.specs.Marks.{Marks}

-- w comes into the set at u
abbrev pub put_row : List ℕ → ℕ → ℕ → List ℕ
put_row m w u = set m u (including (get_or m u 0) w)

none_at : (k a : ℕ) → ◌≡◌ {A = ℕ} (get_or (replicate k 0) a 0) 0
none_at zero a = refl
none_at (suc k) zero = refl
none_at (suc k) (suc a) = none_at k a

pub row_none : (D a b : ℕ) → holds (get_or (replicate D 0) b 0) a ≡ false
row_none D a b = rw (none_at D b) (holds_none a)

pub row_put : (D : ℕ) (m : List ℕ) (w u a b : ℕ) → length m ≡ D → u < D → holds (get_or (put_row m w u) b 0) a ≡ eqb a w && eqb b u || holds (get_or m b 0) a
row_put D m w u a b g h = by (eqb b u) refl
  where
    turn : (p q : Bool) → p || q ≡ p && true || q
    turn true q = refl
    turn false q = refl

    drop : (p q : Bool) → q ≡ p && false || q
    drop true q = refl
    drop false q = refl

    by : (t : Bool) → eqb b u ≡ t → holds (get_or (put_row m w u) b 0) a ≡ eqb a w && eqb b u || holds (get_or m b 0) a
    by true p =
        let e = eqb-true b u p in
        rw (p, e, get_or-set_same m u (including (get_or m u 0) w) 0 (omega arith)) (holds_including (get_or m u 0) w a ∙ turn (eqb a w) (holds (get_or m u 0) a))
    by false p = rw (p, get_or-set_other m u b (including (get_or m u 0) w) 0 (eqb-false b u p)) (drop (eqb a w) (holds (get_or m b 0) a))

abbrev pub rows : (J D : ℕ) → Marks J D
rows J D = record {
  M = List ℕ;
  has = λ m w u. holds (get_or m u 0) w;
  put = put_row;
  none = replicate D 0;
  Good = λ m. length m ≡ D;
  good_none = length-replicate D 0;
  good_put = λ m w u g. length-set m u _ ∙ g;
  has_none = row_none D;
  has_put = λ m w u a b g hw hu. row_put D m w u a b g hu;
}
