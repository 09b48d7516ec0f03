-- What can be seen of a state: the views of the coordinator, as one value. Assumes nothing: these are definitions.
use Rattle.std.specs.Prelude.{ℕ, ◌<◌, Bool, ◌≡◌}
use Rattle.coordinator.specs.declared.Coordinator.{Coordinator}
use Rattle.coordinator.specs.Limits.{jobs}
use Rattle.coordinator.specs.Views

-- by slot and database; by slot; by place in the opening order; by database and two slots
pub record View : Type 0 where
  pub in_mask : ℕ → ℕ → Bool
  pub names : ℕ → ℕ → Bool
  pub asked : ℕ → ℕ → Bool
  pub released : ℕ → ℕ → Bool
  pub confirmed : ℕ → ℕ → Bool
  pub is_open : ℕ → Bool
  pub held : ℕ → Bool
  pub ticket : ℕ → ℕ
  pub count : ℕ
  pub opened : ℕ → ℕ
  pub dep : ℕ → ℕ → ℕ → Bool
  pub candidate : ℕ

abbrev pub view : Coordinator → View
view s = record {
  in_mask = Views.in_mask s;
  names = Views.names s;
  asked = Views.asked s;
  released = Views.released s;
  confirmed = Views.confirmed s;
  is_open = Views.is_open s;
  held = Views.held s;
  ticket = Views.ticket s;
  count = Views.open_count s;
  opened = Views.opened s;
  dep = Views.dep s;
  candidate = s.maker.next;
}

-- v and w show the same. (What lies beyond the last slot is not looked at in `dep`: there its rows run into the next.)
pub record Alike (v w : View) : Type 0 where
  pub in_mask : (j k : ℕ) → v.in_mask j k ≡ w.in_mask j k
  pub names : (j k : ℕ) → v.names j k ≡ w.names j k
  pub asked : (j k : ℕ) → v.asked j k ≡ w.asked j k
  pub released : (j k : ℕ) → v.released j k ≡ w.released j k
  pub confirmed : (j k : ℕ) → v.confirmed j k ≡ w.confirmed j k
  pub is_open : (j : ℕ) → v.is_open j ≡ w.is_open j
  pub held : (j : ℕ) → v.held j ≡ w.held j
  pub ticket : (j : ℕ) → v.ticket j ≡ w.ticket j
  pub count : v.count ≡ w.count
  pub opened : (i : ℕ) → v.opened i ≡ w.opened i
  pub dep : (k a b : ℕ) → b < jobs → v.dep k a b ≡ w.dep k a b
  pub candidate : v.candidate ≡ w.candidate
