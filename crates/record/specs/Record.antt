-- A record of four bytes as a call. Assumes nothing: these are definitions.
use Rattle.std.specs.Prelude.{ℕ, ◌+◌, ◌*◌, true, false, eqb, Option, None, Some}
use Rattle.coordinator.specs.Call.{Call, open_job, ask_step, confirm_step, close_job}

-- 1 opens, 2 asks, 3 confirms, 4 closes; the value is a mask for 1, a ticket otherwise; the database is not read for 1 and 4. No other kind is a call.
unfoldable pub call_of : ℕ → ℕ → ℕ → Option Call
call_of kind database value =
    elim (eqb kind 1) [
      | true ↦ Some (open_job value)
      | false ↦ elim (eqb kind 2) [
        | true ↦ Some (ask_step value database)
        | false ↦ elim (eqb kind 3) [
          | true ↦ Some (confirm_step value database)
          | false ↦ elim (eqb kind 4) [ true ↦ Some (close_job value) | false ↦ None ]
        ]
      ]
    ]

-- two bytes, low first
abbrev pub two_bytes : ℕ → ℕ → ℕ
two_bytes low high = low + 256 * high
