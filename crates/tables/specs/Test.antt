-- The test for soundness, by sets of slots. Assumes nothing: these are definitions.
use Rattle.std.specs.Prelude.{ℕ, ◌*◌, ◌^◌, Bool, true, false, ◌&&◌, List, eqb, ltb, drop}
use Rattle.std.specs.Int.Bits.{bit_and}
use Rattle.loops.specs.Loop.{over, every}
use Rattle.mask.specs.Member.{holds, including, excluding, less, within, size}
use Rattle.tables.specs.Limits.{jobs, databases}
use Rattle.tables.specs.Tables.{entry, open_in, holders_in}

-- of the open slots only j has the ticket of j, and a free slot has none
unfoldable pub ticket_sound : List ℕ → ℕ → ℕ → Bool
ticket_sound tickets slots j = elim (holds slots j) [ true ↦ eqb (holders_in tickets slots (entry tickets j)) (2 ^ j) | false ↦ eqb (entry tickets j) 0 ]

-- the first i slots of the opening order
unfoldable pub listed : List ℕ → ℕ → ℕ
listed order i = over i (λ n m. including m (entry order n)) 0

-- place i of the opening order has an open slot that is not listed before it, or is zero past the end
unfoldable pub place_sound : List ℕ → ℕ → ℕ → Bool
place_sound order slots i =
    elim (ltb i (size jobs slots)) [
      | true ↦ ltb (entry order i) jobs && holds (less jobs slots (listed order i)) (entry order i)
      | false ↦ eqb (entry order i) 0
    ]

-- each mark of a step lies within the one before it, and a held close has its step confirmed
unfoldable pub marks_sound : ℕ → ℕ → ℕ → ℕ → ℕ → Bool
marks_sound named asked released confirmed held =
    within jobs asked named && within jobs released asked && within jobs confirmed released && within jobs (bit_and held named) confirmed

-- who may go before slot b at a database, and who has to: the steps under way there, where that of b waits
unfoldable pub partners : ℕ → ℕ → ℕ
partners named b = elim (holds named b) [ true ↦ excluding named b | false ↦ 0 ]

unfoldable pub pressing : ℕ → ℕ → ℕ → ℕ
pressing waiting under b = elim (holds waiting b) [ true ↦ under | false ↦ 0 ]

unfoldable pub row_sound : ℕ → ℕ → ℕ → ℕ → ℕ → Bool
row_sound named waiting under b into = within jobs into (partners named b) && within jobs (pressing waiting under b) into

-- the dependencies at one database, a set for each slot
unfoldable pub rows_sound : List ℕ → ℕ → ℕ → ℕ → Bool
rows_sound rows named waiting under = every jobs (λ b. row_sound named waiting under b (entry rows b))

-- the steps at one database, and those at database k
unfoldable pub steps_sound : ℕ → ℕ → ℕ → ℕ → ℕ → List ℕ → Bool
steps_sound named asked released confirmed held rows =
    marks_sound named asked released confirmed held && rows_sound rows named (less jobs named released) (less jobs released confirmed)

unfoldable pub database_sound : ℕ → List ℕ → List ℕ → List ℕ → List ℕ → List ℕ → ℕ → Bool
database_sound held named asked released confirmed dependencies k =
    steps_sound (entry named k) (entry asked k) (entry released k) (entry confirmed k) held (drop (k * jobs) dependencies)

-- all of it, of the tables of a state
unfoldable pub sound_in : List ℕ → ℕ → List ℕ → List ℕ → List ℕ → List ℕ → List ℕ → List ℕ → Bool
sound_in tickets held order named asked released confirmed dependencies =
    let slots : ℕ = open_in named in
    within jobs held slots
    && every jobs (ticket_sound tickets slots)
    && every jobs (place_sound order slots)
    && every databases (database_sound held named asked released confirmed dependencies)
