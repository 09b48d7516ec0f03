-- A state is sound exactly where what can be seen of it is; so a change is judged by what it shows. Assumes nothing.
use Prim.Native.Nat.{ℕ}
use mathlib.Core.Bool.{true}
use mathlib.Core.Path.{◌≡◌, sym, ◌∙◌}
use Rattle.coordinator.specs.declared.Coordinator.{Coordinator}
use Rattle.coordinator.specs.Shape.{Shape}
use Rattle.coordinator.specs.Sound.{Ordered, Joins, Zeros, Sound}
use Rattle.coordinator.specs.Views.{is_open}
use Rattle.effects.specs.View.{View, view, Alike}
use Rattle.effects.proofs.Bounds.{open_names, open_range}
use Rattle.soundness.specs.SoundView.{Joined, Empty, SoundView, NamesOpen}
use Rattle.soundness.specs.Changed.{Changed}

pub seen_sound : (s : Coordinator) → Sound s → SoundView (view s)
seen_sound s S = record {
  tickets_differ = S.tickets_differ;
  masks_nonzero = S.masks_nonzero;
  confirmed_released = S.confirmed_released;
  released_asked = S.released_asked;
  asked_named = S.asked_named;
  ordered = let o = S.ordered in record { only = o.only; once = o.once; each = o.each; end = o.end };
  joins = λ k a b l e. let j = S.joins k a b l e in record {
    differ = j.differ;
    from_open = j.from_open;
    to_open = j.to_open;
    from_names = j.from_names;
    to_names = j.to_names;
  };
  under_way = S.under_way;
  held_confirmed = S.held_confirmed;
  free_zeros = λ j e. let z = S.free_zeros j e in record {
    no_ticket = z.no_ticket;
    not_held = z.not_held;
    not_asked = z.not_asked;
    not_released = z.not_released;
    not_confirmed = z.not_confirmed;
  };
}

pub names_open : (s : Coordinator) → Shape s → NamesOpen (view s)
names_open s h = open_names s h

-- a state that shows a sound view
module _ (s : Coordinator) (h : Shape s) (v : View) (A : Alike (view s) v) (S : SoundView v) where
  shown_open : (j : ℕ) → is_open s j ≡ true → v.is_open j ≡ true
  shown_open j e = sym (A.is_open j) ∙ e

  shown_ordered : Ordered s
  shown_ordered = record {
    only = λ i l. rw (A.opened i) (A.is_open (v.opened i) ∙ S.ordered.only i (rw A.count at l));
    once = λ i k l m e. S.ordered.once i k (rw A.count at l) (rw A.count at m) (sym (A.opened i) ∙ e ∙ A.opened k);
    each = λ j e. let (i, l, q) = S.ordered.each j (shown_open j e) in (i, rw A.count l, A.opened i ∙ q);
    end = λ i l. A.opened i ∙ S.ordered.end i (rw A.count at l);
  }

  shown_joins : (k a b : ℕ) → Joined v.is_open v.names k a b → Joins s k a b
  shown_joins k a b j = record {
    differ = j.differ;
    from_open = A.is_open a ∙ j.from_open;
    to_open = A.is_open b ∙ j.to_open;
    from_names = A.names a k ∙ j.from_names;
    to_names = A.names b k ∙ j.to_names;
  }

  shown_zeros : (j : ℕ) → Empty v.ticket v.held v.asked v.released v.confirmed j → Zeros s j
  shown_zeros j z = record {
    no_ticket = A.ticket j ∙ z.no_ticket;
    not_held = A.held j ∙ z.not_held;
    not_asked = λ k. A.asked j k ∙ z.not_asked k;
    not_released = λ k. A.released j k ∙ z.not_released k;
    not_confirmed = λ k. A.confirmed j k ∙ z.not_confirmed k;
  }

  shown_sound : Sound s
  shown_sound = record {
    tickets_differ = λ a b p q e. S.tickets_differ a b (shown_open a p) (shown_open b q) (sym (A.ticket a) ∙ e ∙ A.ticket b);
    masks_nonzero = λ j e. let (k, l, q) = S.masks_nonzero j (shown_open j e) in (k, l, A.in_mask j k ∙ q);
    confirmed_released = λ j k e. A.released j k ∙ S.confirmed_released j k (sym (A.confirmed j k) ∙ e);
    released_asked = λ j k e. A.asked j k ∙ S.released_asked j k (sym (A.released j k) ∙ e);
    asked_named = λ j k e. A.names j k ∙ S.asked_named j k (sym (A.asked j k) ∙ e);
    ordered = shown_ordered;
    joins = λ k a b l e. shown_joins k a b (S.joins k a b l (sym (A.dep k a b l) ∙ e));
    under_way = λ k a b r c d o n w.
        A.dep k a b (open_range s h b o)
        ∙ S.under_way k a b (sym (A.released a k) ∙ r) (sym (A.confirmed a k) ∙ c) d (shown_open b o) (sym (A.names b k) ∙ n) (sym (A.released b k) ∙ w);
    held_confirmed = λ j k e n. A.confirmed j k ∙ S.held_confirmed j k (sym (A.held j) ∙ e) (sym (A.names j k) ∙ n);
    free_zeros = λ j e. shown_zeros j (S.free_zeros j (sym (A.is_open j) ∙ e));
  }

  pub changed : Changed s v
  changed = record { shape = h; sound = shown_sound; shows = A }

-- what shows the same
alike_then : {u v w : View} → Alike u v → Alike v w → Alike u w
alike_then A B = record {
  in_mask = λ j k. A.in_mask j k ∙ B.in_mask j k;
  names = λ j k. A.names j k ∙ B.names j k;
  asked = λ j k. A.asked j k ∙ B.asked j k;
  released = λ j k. A.released j k ∙ B.released j k;
  confirmed = λ j k. A.confirmed j k ∙ B.confirmed j k;
  is_open = λ j. A.is_open j ∙ B.is_open j;
  held = λ j. A.held j ∙ B.held j;
  ticket = λ j. A.ticket j ∙ B.ticket j;
  count = A.count ∙ B.count;
  opened = λ i. A.opened i ∙ B.opened i;
  dep = λ k a b l. A.dep k a b l ∙ B.dep k a b l;
  candidate = A.candidate ∙ B.candidate;
}

pub changed_alike : {s : Coordinator} {v w : View} → Changed s v → Alike v w → Changed s w
changed_alike c A = record { shape = c.shape; sound = c.sound; shows = alike_then c.shows A }
