-- A state as bytes, little endian. Assumes nothing: these are definitions.
use Rattle.std.specs.Prelude.{ℕ, List, ◌++◌}
use Rattle.coordinator.specs.declared.Coordinator.{Coordinator}
use Rattle.coordinator.specs.Limits.{jobs, databases, steps}
use Rattle.layout.specs.Bytes.{bytes_of, number_at, bytes_of_all, numbers_at}

abbrev pub state_size : ℕ
state_size = 2406

-- every state that its type allows has its bytes, one part after another
unfoldable pub encoded : Coordinator → List ℕ
encoded s =
    bytes_of_all 2 jobs s.tickets
    ++ (bytes_of 4 s.held
    ++ (bytes_of_all 1 jobs s.order
    ++ (bytes_of_all 4 databases s.named
    ++ (bytes_of_all 4 databases s.asked
    ++ (bytes_of_all 4 databases s.released
    ++ (bytes_of_all 4 databases s.confirmed
    ++ (bytes_of_all 4 steps s.dependencies
    ++ bytes_of 2 s.maker.next)))))))

-- and every 2,406 bytes are a state, sound or not
unfoldable pub decoded : List ℕ → Coordinator
decoded b = record {
  tickets = numbers_at 2 jobs b 0;
  held = number_at 4 b 64;
  order = numbers_at 1 jobs b 68;
  named = numbers_at 4 databases b 100;
  asked = numbers_at 4 databases b 164;
  released = numbers_at 4 databases b 228;
  confirmed = numbers_at 4 databases b 292;
  dependencies = numbers_at 4 steps b 356;
  maker = record { next = number_at 2 b 2404 };
}
