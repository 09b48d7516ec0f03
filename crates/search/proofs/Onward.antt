-- What the search has goes on from part to part: what was marked stays, and what was through stays through. Assumes nothing.
use Prim.Native.Nat.{ℕ, ◌≤◌}
use native.Mathlib.Omega.{arith}
use mathlib.Core.Bool.{true, false}
use mathlib.Core.Logic.{◌⊎◌, inl, inr}
use mathlib.Core.Path.{◌≡◌}
use Rattle.walks.proofs.Marking.{count_mono}
use Rattle.walks.proofs.Next.{Hit}
use Rattle.search.specs.declared.Walker.{Walker}
use Rattle.search.specs.Visit.{marks, Given, graph_of, sets, unmarked, Ready, Through, Taken, Onward}

module _ {g : Given} where
  module _ {s r : Walker} (h : Onward g s r) where
    pub hit_on : {v u w : ℕ} → Hit (graph_of g) marks s.reached s.found v u w → Hit (graph_of g) marks r.reached r.found v u w
    hit_on {v} {u} {w} k = record { closes = λ e. h.found v u (k.closes e); enters = λ e. h.reached w u (k.enters e) }

    pub through_on : {v u : ℕ} → Through g s.reached s.found v u → Through g r.reached r.found v u
    through_on k = record { hits = λ w l. hit_on (k.hits w l) }

    taken_on : {w t : ℕ} → Taken s.ahead w t → Taken r.ahead w t
    taken_on {w} {t} k = record { each = λ u ne. h.ahead w u (k.each u ne) }

    -- the pairs that are not reached do not get more
    pub unmarked_le : unmarked r.reached ≤ unmarked s.reached
    unmarked_le = omega (arith, count_mono marks s.reached r.reached h.reached)

  pub onward_refl : {s : Walker} → Ready g s → Onward g s s
  onward_refl h = record {
    ready = h;
    ahead = λ v u e. e;
    reached = λ w u e. e;
    found = λ v u e. e;
    through = λ v u e. inl e;
    taken = λ w t e. inl e;
  }

  pub onward_then : {a b c : Walker} → Onward g a b → Onward g b c → Onward g a c
  onward_then {a} {b} {c} p q = record {
    ready = q.ready;
    ahead = λ v u e. q.ahead v u (p.ahead v u e);
    reached = λ w u e. q.reached w u (p.reached w u e);
    found = λ v u e. q.found v u (p.found v u e);
    through = λ v u e. before v u (q.through v u e);
    taken = λ w t e. stood w t (q.taken w t e);
  }
    where
      early : (v u : ℕ) → (sets.has a.ahead u v ≡ false) ⊎ Through g b.reached b.found v u → (sets.has a.ahead u v ≡ false) ⊎ Through g c.reached c.found v u
      early v u (inl e) = inl e
      early v u (inr k) = inr (through_on q k)

      before : (v u : ℕ) → (sets.has b.ahead u v ≡ false) ⊎ Through g c.reached c.found v u → (sets.has a.ahead u v ≡ false) ⊎ Through g c.reached c.found v u
      before v u (inl e) = early v u (p.through v u e)
      before v u (inr k) = inr k

      first : (w t : ℕ) → (marks.has a.reached w t ≡ true) ⊎ Taken b.ahead w t → (marks.has a.reached w t ≡ true) ⊎ Taken c.ahead w t
      first w t (inl e) = inl e
      first w t (inr k) = inr (taken_on q k)

      stood : (w t : ℕ) → (marks.has b.reached w t ≡ true) ⊎ Taken c.ahead w t → (marks.has a.reached w t ≡ true) ⊎ Taken c.ahead w t
      stood w t (inl e) = first w t (p.taken w t e)
      stood w t (inr k) = inr k
