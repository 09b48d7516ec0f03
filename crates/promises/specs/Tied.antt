-- How the tables stand to what has been told. J is the job in each open slot, d the dependencies between jobs. Assumes nothing: these are definitions.
use Rattle.std.specs.Prelude.{ℕ, ◌<◌, true, ◌↔◌, ◌≡◌}
use Rattle.rings.specs.History.{History}
use Rattle.coordinator.specs.Limits.{jobs}
use Rattle.effects.specs.View.{View}
use Rattle.promises.specs.Told.{Told}
use Rattle.promises.specs.Promise.{Open, Released}

abbrev pub history : Told → (ℕ → ℕ → ℕ → Type 0) → History
history T d = record {
  count = T.count;
  now = T.now;
  names = T.names;
  asked = T.asked;
  released = T.released;
  confirmed = T.confirmed;
  held = T.close_asked;
  closed = T.closed;
  dep = d;
}

pub record Tied (T : Told) (d : ℕ → ℕ → ℕ → Type 0) (J : ℕ → ℕ) (v : View) : Type 0 where
  -- an open job sits in one slot, and each open slot has one
  pub inside : (i : ℕ) → v.is_open i ≡ true → i < jobs
  pub sits : (i : ℕ) → v.is_open i ≡ true → Open T (J i)
  pub apart : (i j : ℕ) → v.is_open i ≡ true → v.is_open j ≡ true → J i ≡ J j → i ≡ j
  pub seat : (a : ℕ) → Open T a → (i : ℕ) × (v.is_open i ≡ true) × (J i ≡ a)
  -- the slot's ticket, steps and held close are those of its job
  pub means : (i : ℕ) → v.is_open i ≡ true → T.latest (v.ticket i) ≡ J i
  pub names : (i k : ℕ) → v.is_open i ≡ true → (v.names i k ≡ true) ↔ T.names (J i) k
  pub asked : (i k : ℕ) → v.is_open i ≡ true → (v.asked i k ≡ true) ↔ T.asked (J i) k
  pub released : (i k : ℕ) → v.is_open i ≡ true → (v.released i k ≡ true) ↔ Released T (J i) k
  pub confirmed : (i k : ℕ) → v.is_open i ≡ true → (v.confirmed i k ≡ true) ↔ T.confirmed (J i) k
  pub held : (i : ℕ) → v.is_open i ≡ true → (v.held i ≡ true) ↔ T.close_asked (J i)
  pub dep : (k i j : ℕ) → v.is_open i ≡ true → v.is_open j ≡ true → (v.dep k i j ≡ true) ↔ d k (J i) (J j)
  -- the opening order lists the open jobs by rising number
  pub rising : (i k : ℕ) → i < k → k < v.count → J (v.opened i) < J (v.opened k)
