-- A step asked for or confirmed and a close held leave every rule of the order as it was.
use Prim.Native.Nat.{ℕ, ◌<◌}
use mathlib.Core.Path.{◌≡◌, sym, subst}
use mathlib.Core.Logic.{◌⊎◌, inl, inr}
use Rattle.rings.specs.History.{History, Open, Released}
use Rattle.rings.specs.Change.{marked, asking, confirming, holding}
use Rattle.rings.specs.Kept.{Formed, Depends, Ordered}
use Rattle.rings.proofs.Orders.{same}
use Rattle.rings.proofs.Later.{still_walkless}

-- H's marks and perhaps more, each in its place
pub record Marks (H : History) (asked confirmed : ℕ → ℕ → Type 0) (held : ℕ → Type 0) : Type 0 where
  pub more_asked : {a k : ℕ} → H.asked a k → asked a k
  pub asked_names : {a k : ℕ} → asked a k → H.names a k
  pub more_confirmed : {a k : ℕ} → H.confirmed a k → confirmed a k
  pub confirmed_released : {a k : ℕ} → confirmed a k → Released H a k
  pub held_opened : {a : ℕ} → held a → a < H.count

module _ (H : History) (K : Ordered H) where
  module _ (asked confirmed : ℕ → ℕ → Type 0) (held : ℕ → Type 0) (M : Marks H asked confirmed held) where
    marked_formed : Formed (marked H asked confirmed held)
    marked_formed = record {
      names_opened = K.formed.names_opened;
      asked_names = M.asked_names;
      released_asked = λ r. M.more_asked (K.formed.released_asked r);
      confirmed_released = M.confirmed_released;
      released_once = K.formed.released_once;
      released_past = K.formed.released_past;
      released_decided = K.formed.released_decided;
      held_opened = M.held_opened;
      closed_opened = K.formed.closed_opened;
      closed_once = K.formed.closed_once;
      closed_past = K.formed.closed_past;
      closed_decided = K.formed.closed_decided;
    }

    marked_depends : Depends (marked H asked confirmed held)
    marked_depends = record {
      dep_open = K.depends.dep_open;
      dep_names = K.depends.dep_names;
      dep_first = K.depends.dep_first;
      dep_confirmed = λ d r. M.more_confirmed (K.depends.dep_confirmed d r);
      dep_older = K.depends.dep_older;
      leads_unreleased = K.depends.leads_unreleased;
      leads_later = K.depends.leads_later;
    }

    pub marked_ordered : Ordered (marked H asked confirmed held)
    marked_ordered = record {
      formed = marked_formed;
      depends = marked_depends;
      closed_in_order = record { closed_first = K.closed_in_order.closed_first };
      walkless = still_walkless H (marked H asked confirmed held) (record {
        was_open = λ h o. o;
        was_named = λ h n. n;
        dep_kept = λ o p d. d;
      }) (λ n o. o.0) K.walkless;
    }

  module _ {a k : ℕ} where
    pub asking_ordered : H.names a k → Ordered (asking H a k)
    asking_ordered n = marked_ordered _ _ _ (record {
      more_asked = inl;
      asked_names = named;
      more_confirmed = λ c. c;
      confirmed_released = K.formed.confirmed_released;
      held_opened = K.formed.held_opened;
    })
      where
        named : {x j : ℕ} → H.asked x j ⊎ ((x ≡ a) × (j ≡ k)) → H.names x j
        named (inl q) = K.formed.asked_names q
        named (inr (e, f)) = same H.names e f n

    pub confirming_ordered : Released H a k → Ordered (confirming H a k)
    confirming_ordered r = marked_ordered _ _ _ (record {
      more_asked = λ q. q;
      asked_names = K.formed.asked_names;
      more_confirmed = inl;
      confirmed_released = released;
      held_opened = K.formed.held_opened;
    })
      where
        released : {x j : ℕ} → H.confirmed x j ⊎ ((x ≡ a) × (j ≡ k)) → Released H x j
        released (inl c) = K.formed.confirmed_released c
        released (inr (e, f)) = same (Released H) e f r

  pub holding_ordered : {a : ℕ} → Open H a → Ordered (holding H a)
  holding_ordered {a} o = marked_ordered _ _ _ (record {
    more_asked = λ q. q;
    asked_names = K.formed.asked_names;
    more_confirmed = λ c. c;
    confirmed_released = K.formed.confirmed_released;
    held_opened = opened;
  })
    where
      opened : {x : ℕ} → H.held x ⊎ (x ≡ a) → x < H.count
      opened (inl h) = K.formed.held_opened h
      opened (inr e) = subst (λ (y : ℕ). y < H.count) (sym e) o.0
