-- The relation between what the nested search has before and after any part of it: marks are only added, and what is new is done and sound.
-- Assumes nothing.
use Prim.Native.Nat.{ℕ, ◌+◌, ◌*◌, ◌<◌}
use native.Mathlib.Omega.{arith}
use mathlib.Core.Bool.{true}
use mathlib.Core.Logic.{◌⊎◌, inl, inr}
use mathlib.Core.Path.{◌≡◌, refl}
use Rattle.walks.specs.Marks.{Marks, count}
use Rattle.walks.specs.Walk.{Graph, Link, Reach, WalkEnd}
use Rattle.walks.specs.Search.{Seek}
use Rattle.loops.proofs.Rules.{Steps}
use Rattle.walks.proofs.Marking.{count_mono}

module _ (G : Graph) (K : Marks G.jobs G.databases) where
  -- the choice of u and w at v has been made
  pub record Hit (R F : K.M) (v u w : ℕ) : Type 0 where
    pub closes : w ≡ G.new → K.has F v u ≡ true
    pub enters : ¬ (w ≡ G.new) → K.has R w u ≡ true

  -- so have all the choices at v, reached through t
  abbrev pub Done : K.M → K.M → ℕ → ℕ → Type 0
  Done R F v t = (u w : ℕ) → ¬ (u ≡ t) → Link G u v w → Hit R F v u w

  pub record Sound (R F : K.M) : Type 0 where
    pub walks : (w u : ℕ) → K.has R w u ≡ true → Reach G w u
    pub ends : (v u : ℕ) → K.has F v u ≡ true → WalkEnd G v u

  abbrev pub Good : Seek K → Type 0
  Good s = K.Good s.reached × K.Good s.found

  -- the fuel f is enough at s: it is above the number of pairs not reached
  abbrev pub Ok : ℕ → Seek K → Type 0
  Ok f s = Good s × (G.jobs * G.databases < count K s.reached + f)

  -- From s the search may come to r. What it marks is sound where C holds.
  pub record Next (C : Type 0) (s r : Seek K) : Type 0 where
    pub good : Good s → Good r
    pub more_r : (w u : ℕ) → K.has s.reached w u ≡ true → K.has r.reached w u ≡ true
    pub more_f : (v u : ℕ) → K.has s.found v u ≡ true → K.has r.found v u ≡ true
    pub closed : (w u : ℕ) → K.has r.reached w u ≡ true → (K.has s.reached w u ≡ true) ⊎ Done r.reached r.found w u
    pub sound : C → Sound s.reached s.found → Sound r.reached r.found
    pub tally : r.moves + (2 * count K s.reached + count K s.found) ≡ s.moves + (2 * count K r.reached + count K r.found)

  pub hit_on : {C : Type 0} (v u w : ℕ) (s r : Seek K) → Next C s r → Hit s.reached s.found v u w → Hit r.reached r.found v u w
  hit_on v u w s r h k = record { closes = λ e. h.more_f v u (k.closes e); enters = λ e. h.more_r w u (k.enters e) }

  closed_on : {C : Type 0} (r s t : Seek K) → Next C r s → Next C s t → (w u : ℕ) → K.has t.reached w u ≡ true
      → (K.has r.reached w u ≡ true) ⊎ Done t.reached t.found w u
  closed_on r s t h k w u e = later (k.closed w u e)
    where
      early : (K.has r.reached w u ≡ true) ⊎ Done s.reached s.found w u
          → (K.has r.reached w u ≡ true) ⊎ Done t.reached t.found w u
      early (inl p) = inl p
      early (inr d) = inr (λ a b turn l. hit_on w a b s t k (d a b turn l))

      later : (K.has s.reached w u ≡ true) ⊎ Done t.reached t.found w u
          → (K.has r.reached w u ≡ true) ⊎ Done t.reached t.found w u
      later (inl p) = early (h.closed w u p)
      later (inr d) = inr d

  pub stays : (C : Type 0) (s : Seek K) → Next C s s
  stays C s = record { good = λ g. g; more_r = λ w u e. e; more_f = λ v u e. e; closed = λ w u e. inl e; sound = λ c h. h; tally = refl }

  pub steps : (C : Type 0) (f : ℕ) → Steps (Next C) (Ok f)
  steps C f = record {
    stay = stays C;
    then = λ h k. record {
      good = λ g. k.good (h.good g);
      more_r = λ w u e. k.more_r w u (h.more_r w u e);
      more_f = λ w u e. k.more_f w u (h.more_f w u e);
      closed = closed_on _ _ _ h k;
      sound = λ c e. k.sound c (h.sound c e);
      tally = omega (arith, h.tally, k.tally);
    };
    keep = λ h ok. (h.good ok.0, omega (arith, ok.1, count_mono K _ _ h.more_r));
  }
