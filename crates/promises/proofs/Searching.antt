-- The search's walks over slots are those over jobs, so what it finds is what the rings ask of an opening. Assumes nothing.
use Prim.Native.Nat.{ℕ, ◌<◌}
use mathlib.Core.Bool.{Bool, true, false, ◌&&◌, ◌||◌}
use mathlib.Core.Logic.{◌↔◌, ◌⊎◌, inl, inr}
use mathlib.Core.Path.{◌≡◌, refl, sym, ap, ◌∙◌, subst, subst₂}
use native.Mathlib.Nat.{lt_irrefl, le_step}
use borrow.Author.Tests.{eq-eqb, ne_eqb}
use lib.Dec.{eqb}
use Rattle.loops.proofs.Tests.{or_cases, both}
use Rattle.mask.specs.Member.{holds}
use Rattle.walks.specs.Walk as walk
use Rattle.walks.specs.Opening.{FoundAt}
use Rattle.walks.proofs.Opening.{found_iff, found_at_lem}
use Rattle.rings.specs.Walk.{Link}
use Rattle.rings.specs.Rule.{unsearched, Reached, first, next, Searched}
use Rattle.rings.specs.Kept.{Formed, Depends}
use Rattle.coordinator.specs.declared.Coordinator.{Coordinator}
use Rattle.coordinator.specs.Views.{entry, names}
use Rattle.coordinator.specs.Shape.{Shape}
use Rattle.coordinator.specs.Open.{graph, searched}
use Rattle.effects.specs.View.{View, view, Alike}
use Rattle.effects.specs.Effect.{entered_at, found_at}
use Rattle.effects.proofs.Bounds.{names_range, open_names}
use Rattle.promises.specs.Told.{Told, opened_told}
use Rattle.promises.specs.Promise.{Open}
use Rattle.promises.specs.Tied.{history, Tied}
use Rattle.promises.proofs.Same.{tied_alike}
use Rattle.promises.proofs.Release.{is_not}
use Rattle.promises.proofs.Entry.{FreeAt, seated, tied_opened, neither, chosen, passed}

-- what is found, by jobs: f says it by slots
abbrev pub Found : (ℕ → ℕ) → View → (ℕ → ℕ → Bool) → ℕ → ℕ → Type 0
Found J v f a u = (i : ℕ) × (v.is_open i ≡ true) × (J i ≡ a) × (f i u ≡ true)

-- nothing found changes nothing
found_none : (v : View) (n : ℕ) → Alike v (found_at v n (λ a u. false))
found_none v n = record {
  in_mask = λ j k. refl;
  names = λ j k. refl;
  asked = λ j k. refl;
  released = λ j k. refl;
  confirmed = λ j k. refl;
  is_open = λ j. refl;
  held = λ j. refl;
  ticket = λ j. refl;
  count = refl;
  opened = λ i. refl;
  dep = λ k a b h. off (eqb b n) (v.dep k a b);
  candidate = refl;
}
  where
    off : (x y : Bool) → y ≡ x && false || y
    off true y = refl
    off false y = refl

module _ {T : Told} {d : ℕ → ℕ → ℕ → Type 0} {J : ℕ → ℕ} {v : View} (K : Tied T d J v) (F : Formed (history T d)) (D : Depends (history T d))
    (n mask t candidate : ℕ) (Z : FreeAt v n) (unheld : (i : ℕ) → v.is_open i ≡ true → ¬ (v.ticket i ≡ t))
    (e : Coordinator) (S : Shape e) (A : Alike (view e) (entered_at v n mask t candidate)) where
  abbrev named : ℕ → Type 0
  named k = holds mask k ≡ true

  abbrev J' : ℕ → ℕ
  J' = seated J n T.count

  abbrev G : walk.Graph
  G = graph e n

  E : Tied (opened_told T t mask) (unsearched (history T d) named).dep J' (view e)
  E =
      tied_alike A
      (tied_alike (found_none (entered_at v n mask t candidate) n)
      (tied_opened K F D n mask t candidate Z unheld (λ a u. false) (λ a u. ⊥) (λ i u o. neither refl (λ x. x)) (λ u. refl) (λ u x. x)))

  new_open : (view e).is_open n ≡ true
  new_open = A.is_open n ∙ rw (eq-eqb n n refl)

  new_job : J' n ≡ T.count
  new_job = chosen (eqb n n) T.count (J n) (eq-eqb n n refl)

  -- a link between jobs is one between their slots
  link : (u i j : ℕ) → (view e).is_open i ≡ true → (view e).is_open j ≡ true → Link (unsearched (history T d) named) u (J' i) (J' j) → walk.Link G u i j
  link u i j o p l =
      let from : names e i u ≡ true = (E.names i u o).1 l.from_names in
      record {
        job = E.inside j p;
        database = (names_range e S i u from).1;
        leaves = from;
        enters = (E.names j u p).1 l.to_names;
        differ = λ z. l.differ (ap J' (sym z));
        free = is_not (E.dep u i j o p) l.free;
      }

  -- where an old open job sits
  old_seat : (w : ℕ) → Open T w → (i : ℕ) × ((view e).is_open i ≡ true) × (J' i ≡ w) × ¬ (i ≡ n)
  old_seat w o =
      let (i, p, q) = E.seat w (le_step o.0, o.1) in
      (i, p, q, λ z. lt_irrefl T.count (subst (λ (x : ℕ). x < T.count) (sym q ∙ ap J' z ∙ new_job) o.0))

  -- a link of jobs that sit in slots i and j
  linked : {u a b : ℕ} (i j : ℕ) → (view e).is_open i ≡ true → (view e).is_open j ≡ true → J' i ≡ a → J' j ≡ b → Link (unsearched (history T d) named) u a b → walk.Link G u i j
  linked {u = u} i j o p x y l = link u i j o p (subst₂ (Link (unsearched (history T d) named) u) (sym x) (sym y) l)

  reach : {w u : ℕ} → Reached (history T d) named w u → (i : ℕ) × ((view e).is_open i ≡ true) × (J' i ≡ w) × walk.Reach G i u
  reach (first {u = u} {w = w} l o) =
      let (i, p, q, m) = old_seat w o in
      (i, p, q, walk.first (linked n i new_open p new_job q l) m)
  reach (next {u = u} {w = w} r c l o) =
      let (j, x, y, z) = reach r in
      let (i, p, q, m) = old_seat w o in
      (i, p, q, walk.next z c (linked j i x p y q l) m)

  abbrev f : ℕ → ℕ → Bool
  f i u = holds (entry (searched e n).found u) i

  found_is : (i u : ℕ) → (f i u ≡ true) ↔ walk.WalkEnd G i u
  unfolding searched
  found_is i u = found_iff G Z.inside i u

  pub found_facts : (i u : ℕ) → f i u ≡ true → FoundAt G i u
  unfolding searched
  found_facts i u = found_at_lem G Z.inside i u

  -- a found dependency comes from a slot that was open, at a database that both name
  module _ (i u : ℕ) (h : f i u ≡ true) where
    other : eqb i n ≡ false
    other = ne_eqb i n (found_facts i u h).other

    from_open : (view e).is_open i ≡ true
    from_open = open_names e S i u (found_facts i u h).names

    pub was_open : v.is_open i ≡ true
    was_open = old (eqb i n) other (or_cases (eqb i n) (v.is_open i) (sym (A.is_open i) ∙ from_open))
      where
        old : (b : Bool) → b ≡ false → (b ≡ true) ⊎ (v.is_open i ≡ true) → v.is_open i ≡ true
        old b z (inl q) = both q z
        old b z (inr q) = q

  pub found_all : Searched (history T d) named (Found J v f)
  found_all = record {
    found_open = λ (i, o, x, h). subst (Open T) x (K.sits i o);
    found_names = λ {v = a} {u = u} (i, o, x, h). old_names i u a o x h;
    found_named = λ {u = u} (i, o, x, h). new_names i u h;
    found_all = λ {v = a} r c l.
        let (i, p, q, z) = reach r in
        let g : f i _ ≡ true = (found_is i _).1 (record { through = _; walk = z; turns = c; closes = linked i n p new_open q new_job l }) in
        let o = was_open i _ g in
        (i, o, sym (passed (eqb i n) T.count (J i) (other i _ g)) ∙ q, g);
  }
    where
      old_names : (i u a : ℕ) → v.is_open i ≡ true → J i ≡ a → f i u ≡ true → T.names a u
      old_names i u a o x h = subst (λ (y : ℕ). T.names y u) x ((K.names i u o).0 (sym (A.names i u ∙ rw (other i u h)) ∙ (found_facts i u h).names))

      new_names : (i u : ℕ) → f i u ≡ true → holds mask u ≡ true
      new_names i u h = only (or_cases (holds mask u) false (sym (A.names n u ∙ rw (eq-eqb n n refl, Z.no_names u)) ∙ (found_facts i u h).new_names))
        where
          only : (holds mask u ≡ true) ⊎ (◌≡◌ {A = Bool} false true) → holds mask u ≡ true
          only (inl x) = x
          only (inr x) = both x refl
