-- A job opened: the tie goes on, with the new job in its slot. Assumes nothing.
use Prim.Native.Nat.{ℕ, suc, ◌<◌}
use native.Mathlib.Omega.{arith}
use native.Mathlib.Nat.{lt_irrefl, le_step, le_refl}
use mathlib.Core.Bool.{Bool, true, false, ◌&&◌, ◌||◌}
use mathlib.Core.Logic.{◌↔◌, ◌⊎◌, inl, inr}
use mathlib.Core.Path.{◌≡◌, refl, sym, ap, ◌∙◌, subst}
use borrow.Author.Tests.{eqb-true, eq-eqb, ne_eqb}
use lib.Dec.{eqb}
use Rattle.loops.proofs.Rules.{below_suc}
use Rattle.loops.proofs.Tests.{and_left, and_right, or_cases, or_right, both}
use Rattle.mask.specs.Member.{holds}
use Rattle.rings.specs.Change.{Leads, opening}
use Rattle.rings.specs.Kept.{Formed, Depends}
use Rattle.coordinator.specs.Limits.{jobs}
use Rattle.effects.specs.View.{View}
use Rattle.effects.specs.Effect.{entered_at, found_at}
use Rattle.promises.specs.Told.{Told, opened_told}
use Rattle.promises.specs.Promise.{Open, Released}
use Rattle.promises.specs.Tied.{history, Tied}

-- job a sits in slot n, the others where they sat
abbrev pub seated : (ℕ → ℕ) → ℕ → ℕ → ℕ → ℕ
seated J n a i = elim (eqb i n) [ true ↦ a | false ↦ J i ]

pub chosen : (b : Bool) (x y : ℕ) → b ≡ true → elim b [ true ↦ x | false ↦ y ] ≡ x
chosen true x y e = refl
chosen false x y e = both e refl

pub passed : (b : Bool) (x y : ℕ) → b ≡ false → elim b [ true ↦ x | false ↦ y ] ≡ y
passed true x y e = both refl e
passed false x y e = refl

pub neither : {b : Bool} {P : Type 0} → b ≡ false → ¬ P → (b ≡ true) ↔ P
neither e n = (λ h. both h e, λ p. absurd (n p))

-- slot n is free, and shows nothing of a job
pub record FreeAt (v : View) (n : ℕ) : Type 0 where
  pub inside : n < jobs
  pub shut : v.is_open n ≡ false
  pub no_names : (k : ℕ) → v.names n k ≡ false
  pub no_asked : (k : ℕ) → v.asked n k ≡ false
  pub no_released : (k : ℕ) → v.released n k ≡ false
  pub no_confirmed : (k : ℕ) → v.confirmed n k ≡ false
  pub no_held : v.held n ≡ false
  pub none_from : (k b : ℕ) → b < jobs → v.dep k n b ≡ false
  pub none_into : (k a : ℕ) → v.dep k a n ≡ false
  pub last : (i : ℕ) → i < v.count → v.is_open (v.opened i) ≡ true

module _ {T : Told} {d : ℕ → ℕ → ℕ → Type 0} {J : ℕ → ℕ} {v : View} (K : Tied T d J v) (F : Formed (history T d)) (D : Depends (history T d)) where
  old_below : (i : ℕ) → v.is_open i ≡ true → ¬ (J i ≡ T.count)
  old_below i o e = lt_irrefl T.count (subst (λ (x : ℕ). x < T.count) e (K.sits i o).0)

  no_new : ¬ (T.count < T.count)
  no_new = lt_irrefl T.count

  -- what is found, by slots and by jobs: not from the new job
  module _ (n mask t next : ℕ) (Z : FreeAt v n) (unheld : (i : ℕ) → v.is_open i ≡ true → ¬ (v.ticket i ≡ t))
      (f : ℕ → ℕ → Bool) (found : ℕ → ℕ → Type 0) (found_iff : (i u : ℕ) → v.is_open i ≡ true → (f i u ≡ true) ↔ found (J i) u)
      (unfound : (u : ℕ) → f n u ≡ false) (found_old : (u : ℕ) → ¬ found T.count u) where
    abbrev J' : ℕ → ℕ
    J' = seated J n T.count

    abbrev T' : Told
    T' = opened_told T t mask

    abbrev v' : View
    v' = found_at (entered_at v n mask t next) n f

    here : J' n ≡ T.count
    here = chosen (eqb n n) T.count (J n) (eq-eqb n n refl)

    there : (i : ℕ) → eqb i n ≡ false → J' i ≡ J i
    there i e = passed (eqb i n) T.count (J i) e

    -- an open slot is the new one, or was open
    old_or_new : (i : ℕ) → eqb i n || v.is_open i ≡ true → (i ≡ n) ⊎ ((eqb i n ≡ false) × (v.is_open i ≡ true))
    old_or_new i h = by (eqb i n) refl (or_cases (eqb i n) (v.is_open i) h)
      where
        by : (b : Bool) → eqb i n ≡ b → (eqb i n ≡ true) ⊎ (v.is_open i ≡ true) → (i ≡ n) ⊎ ((eqb i n ≡ false) × (v.is_open i ≡ true))
        by true e s = inl (eqb-true i n e)
        by false e (inl s) = both s e
        by false e (inr s) = inr (e, s)

    was_other : (i : ℕ) → v.is_open i ≡ true → eqb i n ≡ false
    was_other i o = ne_eqb i n (λ e. both o (rw e Z.shut))

    now_open : (a : ℕ) → Open T a → Open T' a
    now_open a o = (le_step o.0, o.1)

    sits : (i : ℕ) → v'.is_open i ≡ true → Open T' (J' i)
    sits i h = by (old_or_new i h)
      where
        by : (i ≡ n) ⊎ ((eqb i n ≡ false) × (v.is_open i ≡ true)) → Open T' (J' i)
        by (inl e) = rw (e, here) (le_refl (suc T.count), λ c. no_new (F.closed_opened c))
        by (inr (e, o)) = rw (there i e) (now_open (J i) (K.sits i o))

    apart : (i j : ℕ) → v'.is_open i ≡ true → v'.is_open j ≡ true → J' i ≡ J' j → i ≡ j
    apart i j g h same = by (old_or_new i g) (old_or_new j h)
      where
        by : (i ≡ n) ⊎ ((eqb i n ≡ false) × (v.is_open i ≡ true)) → (j ≡ n) ⊎ ((eqb j n ≡ false) × (v.is_open j ≡ true)) → i ≡ j
        by (inl e) (inl f) = e ∙ sym f
        by (inl e) (inr (f, o)) = absurd (old_below j o (sym (there j f) ∙ sym same ∙ ap J' e ∙ here))
        by (inr (e, o)) (inl f) = absurd (old_below i o (sym (there i e) ∙ same ∙ ap J' f ∙ here))
        by (inr (e, o)) (inr (f, p)) = K.apart i j o p (sym (there i e) ∙ same ∙ there j f)

    seat : (a : ℕ) → Open T' a → (i : ℕ) × (v'.is_open i ≡ true) × (J' i ≡ a)
    seat a (h, u) = by (below_suc h)
      where
        by : (a ≡ T.count) ⊎ (a < T.count) → (i : ℕ) × (v'.is_open i ≡ true) × (J' i ≡ a)
        by (inl e) = (n, rw (eq-eqb n n refl), here ∙ sym e)
        by (inr l) = let (i, o, e) = K.seat a (l, u) in (i, or_right (eqb i n) (v.is_open i) o, there i (was_other i o) ∙ e)

    means : (i : ℕ) → v'.is_open i ≡ true → T'.latest (v'.ticket i) ≡ J' i
    means i h = by (old_or_new i h)
      where
        by : (i ≡ n) ⊎ ((eqb i n ≡ false) × (v.is_open i ≡ true)) → T'.latest (v'.ticket i) ≡ J' i
        by (inl e) =
            let x : v'.ticket i ≡ t = chosen (eqb i n) t (v.ticket i) (eq-eqb i n e) in
            ap T'.latest x ∙ chosen (eqb t t) T.count (T.latest t) (eq-eqb t t refl) ∙ sym (ap J' e ∙ here)
        by (inr (e, o)) =
            let x : v'.ticket i ≡ v.ticket i = passed (eqb i n) t (v.ticket i) e in
            ap T'.latest x ∙ passed (eqb (v.ticket i) t) T.count (T.latest (v.ticket i)) (ne_eqb (v.ticket i) t (unheld i o)) ∙ K.means i o ∙ sym (there i e)

    -- a mark that the opening leaves alone: the new job has none
    same_mark : (p : ℕ → Bool) (P : ℕ → Type 0) → p n ≡ false → ¬ P T.count → ((i : ℕ) → v.is_open i ≡ true → (p i ≡ true) ↔ P (J i))
        → (i : ℕ) → v'.is_open i ≡ true → (p i ≡ true) ↔ P (J' i)
    same_mark p P off none tie i h = by (old_or_new i h)
      where
        by : (i ≡ n) ⊎ ((eqb i n ≡ false) × (v.is_open i ≡ true)) → (p i ≡ true) ↔ P (J' i)
        by (inl e) = rw (e, here) (neither off none)
        by (inr (e, o)) = rw (there i e) (tie i o)

    names : (i k : ℕ) → v'.is_open i ≡ true → (v'.names i k ≡ true) ↔ T'.names (J' i) k
    names i k h = by (old_or_new i h)
      where
        new : (holds mask k || false ≡ true) ↔ (T.names T.count k ⊎ ((T.count ≡ T.count) × (holds mask k ≡ true)))
        new = (λ e. inr (refl, to (or_cases (holds mask k) false e)), from)
          where
            to : (holds mask k ≡ true) ⊎ (◌≡◌ {A = Bool} false true) → holds mask k ≡ true
            to (inl e) = e
            to (inr e) = both e refl

            from : T.names T.count k ⊎ ((T.count ≡ T.count) × (holds mask k ≡ true)) → holds mask k || false ≡ true
            from (inl m) = absurd (no_new (F.names_opened m))
            from (inr (z, e)) = rw e

        old : v.is_open i ≡ true → (v.names i k ≡ true) ↔ (T.names (J i) k ⊎ ((J i ≡ T.count) × (holds mask k ≡ true)))
        old o = (λ e. inl ((K.names i k o).0 e), from)
          where
            from : T.names (J i) k ⊎ ((J i ≡ T.count) × (holds mask k ≡ true)) → v.names i k ≡ true
            from (inl m) = (K.names i k o).1 m
            from (inr (e, z)) = absurd (old_below i o e)

        by : (i ≡ n) ⊎ ((eqb i n ≡ false) × (v.is_open i ≡ true)) → (v'.names i k ≡ true) ↔ T'.names (J' i) k
        by (inl e) = rw (e, here, eq-eqb n n refl, Z.no_names k) new
        by (inr (e, o)) = rw (there i e, e) (old o)

    rising : (i k : ℕ) → i < k → k < suc v.count → J' (v'.opened i) < J' (v'.opened k)
    rising i k h l = by (below_suc l)
      where
        old_place : (x : ℕ) → x < v.count → J' (v'.opened x) ≡ J (v.opened x)
        old_place x m =
            ap J' (passed (eqb x v.count) n (v.opened x) (ne_eqb x v.count (λ e. omega arith)))
            ∙ there (v.opened x) (was_other (v.opened x) (Z.last x m))

        by : (k ≡ v.count) ⊎ (k < v.count) → J' (v'.opened i) < J' (v'.opened k)
        by (inl e) =
            let y : J' (v'.opened k) ≡ T.count = ap J' (chosen (eqb k v.count) n (v.opened k) (eq-eqb k v.count e)) ∙ here in
            rw (y, old_place i (omega arith)) (K.sits (v.opened i) (Z.last i (omega arith))).0
        by (inr m) = rw (old_place i (omega arith), old_place k m) (K.rising i k h m)

    -- the dependencies between jobs as they stand after the opening
    abbrev d' : ℕ → ℕ → ℕ → Type 0
    d' = (opening (history T d) (λ k. holds mask k ≡ true) found).dep

    -- into the new job from an old one, by slots and by jobs
    leads_iff : (u a : ℕ) → v.is_open a ≡ true → (f a u || holds mask u && v.released a u ≡ true) ↔ Leads (history T d) (λ k. holds mask k ≡ true) found u (J a)
    leads_iff u a o = (λ e. to (or_cases (f a u) (holds mask u && v.released a u) e), from)
      where
        to : (f a u ≡ true) ⊎ (holds mask u && v.released a u ≡ true) → Leads (history T d) (λ k. holds mask k ≡ true) found u (J a)
        to (inl e) = inr ((found_iff a u o).0 e)
        to (inr e) = inl (and_left (holds mask u) (v.released a u) e, K.sits a o, (K.released a u o).0 (and_right (holds mask u) (v.released a u) e))

        from : Leads (history T d) (λ k. holds mask k ≡ true) found u (J a) → f a u || holds mask u && v.released a u ≡ true
        from (inl (m, x, r)) = or_right (f a u) (holds mask u && v.released a u) (rw (m, (K.released a u o).1 r))
        from (inr g) = rw ((found_iff a u o).1 g)

    no_leads : (u : ℕ) → ¬ Leads (history T d) (λ k. holds mask k ≡ true) found u T.count
    no_leads u (inl (m, x, r)) = no_new x.0
    no_leads u (inr g) = found_old u g

    module _ (u a b : ℕ) where
      abbrev test : Bool
      test = eqb b n && f a u || (eqb b n && holds mask u && v.released a u || v.dep u a b)

      both_new : a ≡ n → b ≡ n → (test ≡ true) ↔ d' u (J' a) (J' b)
      both_new e g = rw (e, g, here, eq-eqb n n refl, unfound u, Z.no_released u, Z.none_into u n) (neither off none)
        where
          off : holds mask u && false || false ≡ false
          off = by (holds mask u)
            where
              by : (x : Bool) → x && false || false ≡ false
              by true = refl
              by false = refl

          none : ¬ (d u T.count T.count ⊎ ((T.count ≡ T.count) × Leads (history T d) (λ k. holds mask k ≡ true) found u T.count))
          none (inl x) = no_new (D.dep_open x).0.0
          none (inr (z, x)) = no_leads u x

      from_new : a ≡ n → eqb b n ≡ false → v.is_open b ≡ true → (test ≡ true) ↔ d' u (J' a) (J' b)
      from_new e g o = rw (e, g, here, there b g, Z.none_from u b (K.inside b o)) (neither refl none)
        where
          none : ¬ (d u T.count (J b) ⊎ ((J b ≡ T.count) × Leads (history T d) (λ k. holds mask k ≡ true) found u T.count))
          none (inl x) = no_new (D.dep_open x).0.0
          none (inr (z, x)) = old_below b o z

      into_new : eqb a n ≡ false → v.is_open a ≡ true → b ≡ n → (test ≡ true) ↔ d' u (J' a) (J' b)
      into_new e o g = rw (g, there a e, here, eq-eqb n n refl, Z.none_into u a) (λ x. inr (refl, (leads_iff u a o).0 (tidy.0 x)), from)
        where
          tidy : (f a u || (holds mask u && v.released a u || false) ≡ true) ↔ (f a u || holds mask u && v.released a u ≡ true)
          tidy = by (f a u) (holds mask u && v.released a u)
            where
              by : (x y : Bool) → (x || (y || false) ≡ true) ↔ (x || y ≡ true)
              by true y = (λ z. z, λ z. z)
              by false true = (λ z. z, λ z. z)
              by false false = (λ z. z, λ z. z)

          from : d u (J a) T.count ⊎ ((T.count ≡ T.count) × Leads (history T d) (λ k. holds mask k ≡ true) found u (J a))
              → f a u || (holds mask u && v.released a u || false) ≡ true
          from (inl x) = absurd (no_new (D.dep_open x).1.0)
          from (inr (z, x)) = tidy.1 ((leads_iff u a o).1 x)

      both_old : eqb a n ≡ false → v.is_open a ≡ true → eqb b n ≡ false → v.is_open b ≡ true → (test ≡ true) ↔ d' u (J' a) (J' b)
      both_old e o g p = rw (g, there a e, there b g) (λ x. inl ((K.dep u a b o p).0 x), from)
        where
          from : d u (J a) (J b) ⊎ ((J b ≡ T.count) × Leads (history T d) (λ k. holds mask k ≡ true) found u (J a)) → v.dep u a b ≡ true
          from (inl x) = (K.dep u a b o p).1 x
          from (inr (z, x)) = absurd (old_below b p z)

      dep_iff : v'.is_open a ≡ true → v'.is_open b ≡ true → (test ≡ true) ↔ d' u (J' a) (J' b)
      dep_iff g h = by (old_or_new a g) (old_or_new b h)
        where
          by : (a ≡ n) ⊎ ((eqb a n ≡ false) × (v.is_open a ≡ true)) → (b ≡ n) ⊎ ((eqb b n ≡ false) × (v.is_open b ≡ true)) → (test ≡ true) ↔ d' u (J' a) (J' b)
          by (inl e) (inl g) = both_new e g
          by (inl e) (inr (g, p)) = from_new e g p
          by (inr (e, o)) (inl g) = into_new e o g
          by (inr (e, o)) (inr (g, p)) = both_old e o g p

    pub tied_opened : Tied T' d' J' v'
    tied_opened = record {
      inside = λ i h. inside i (old_or_new i h);
      sits = sits;
      apart = apart;
      seat = seat;
      means = means;
      names = names;
      asked = λ i k. same_mark (λ x. v.asked x k) (λ x. T.asked x k) (Z.no_asked k) (λ x. no_new (F.names_opened (F.asked_names x))) (λ x. K.asked x k) i;
      released = λ i k.
          same_mark (λ x. v.released x k) (λ x. Released T x k) (Z.no_released k) (λ x. no_new (F.names_opened (F.asked_names (F.released_asked x))))
          (λ x. K.released x k) i;
      confirmed = λ i k.
          same_mark (λ x. v.confirmed x k) (λ x. T.confirmed x k) (Z.no_confirmed k)
          (λ x. no_new (F.names_opened (F.asked_names (F.released_asked (F.confirmed_released x))))) (λ x. K.confirmed x k) i;
      held = same_mark v.held T.close_asked Z.no_held (λ x. no_new (F.held_opened x)) K.held;
      dep = dep_iff;
      rising = rising;
    }
      where
        inside : (i : ℕ) → (i ≡ n) ⊎ ((eqb i n ≡ false) × (v.is_open i ≡ true)) → i < jobs
        inside i (inl e) = rw e Z.inside
        inside i (inr (e, o)) = K.inside i o
