-- A history before anything has happened, and a history with one column changed. All changes are made of these: no other file writes a history out.
use Rattle.std.specs.Prelude.{ℕ}
use Rattle.histories.specs.History.{History}

abbrev pub fresh : History
fresh = record {
  count = 0;
  now = 0;
  names = λ a k. ⊥;
  asked = λ a k. ⊥;
  released = λ a k time. ⊥;
  confirmed = λ a k. ⊥;
  close_asked = λ a. ⊥;
  closed = λ a time. ⊥;
}

module _ (H : History) where
  abbrev pub with_count : ℕ → History
  with_count count = record { count = count; now = H.now; names = H.names; asked = H.asked; released = H.released; confirmed = H.confirmed; close_asked = H.close_asked; closed = H.closed }

  abbrev pub with_now : ℕ → History
  with_now now = record { count = H.count; now = now; names = H.names; asked = H.asked; released = H.released; confirmed = H.confirmed; close_asked = H.close_asked; closed = H.closed }

  abbrev pub with_names : (ℕ → ℕ → Type 0) → History
  with_names names = record { count = H.count; now = H.now; names = names; asked = H.asked; released = H.released; confirmed = H.confirmed; close_asked = H.close_asked; closed = H.closed }

  abbrev pub with_asked : (ℕ → ℕ → Type 0) → History
  with_asked asked = record { count = H.count; now = H.now; names = H.names; asked = asked; released = H.released; confirmed = H.confirmed; close_asked = H.close_asked; closed = H.closed }

  abbrev pub with_released : (ℕ → ℕ → ℕ → Type 0) → History
  with_released released = record { count = H.count; now = H.now; names = H.names; asked = H.asked; released = released; confirmed = H.confirmed; close_asked = H.close_asked; closed = H.closed }

  abbrev pub with_confirmed : (ℕ → ℕ → Type 0) → History
  with_confirmed confirmed = record { count = H.count; now = H.now; names = H.names; asked = H.asked; released = H.released; confirmed = confirmed; close_asked = H.close_asked; closed = H.closed }

  abbrev pub with_close_asked : (ℕ → Type 0) → History
  with_close_asked close_asked = record { count = H.count; now = H.now; names = H.names; asked = H.asked; released = H.released; confirmed = H.confirmed; close_asked = close_asked; closed = H.closed }

  abbrev pub with_closed : (ℕ → ℕ → Type 0) → History
  with_closed closed = record { count = H.count; now = H.now; names = H.names; asked = H.asked; released = H.released; confirmed = H.confirmed; close_asked = H.close_asked; closed = closed }
