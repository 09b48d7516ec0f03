-- Sets of pairs as their tests.
-- Assumes nothing.
use Rattle.std.specs.Prelude.{ℕ, Bool, false, ◌&&◌, ◌||◌, refl, eqb}
use Rattle.walks.specs.Marks.{Marks}

abbrev pub plain : (J D : ℕ) → Marks J D
plain J D = record {
  M = ℕ → ℕ → Bool;
  has = λ m. m;
  put = λ m w u a b. eqb a w && eqb b u || m a b;
  none = λ w u. false;
  Good = λ m. Unit {0};
  good_none = tt;
  good_put = λ m w u h. tt;
  has_none = λ w u. refl;
  has_put = λ m w u a b g hw hu. refl;
}
