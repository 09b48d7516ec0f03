-- When the records are played, and when nothing is. Assumes nothing.
use Prim.Native.Nat.{ℕ, ◌/◌, ◌^◌, ◌≤◌, ◌<◌}
use mathlib.Core.Path.{◌≡◌}
use mathlib.Core.List.{List}
use borrow.Author.Tests.{lt-ltb, le-ltb}
use lib.ListN.{length}
use Rattle.coordinator.specs.declared.Coordinator.{Coordinator}
use Rattle.lines.specs.Line.{longest}
use Rattle.lines.specs.Playing.{all, nothing, playing}

module _ (s : Coordinator) (index : ℕ) (b o : List ℕ) where
  pub played : index < 2 ^ 63 → length b / 4 < length o / longest → all s index b o ≡ playing s index b o
  unfolding playing
  played h r = rw (playing, lt-ltb index (2 ^ 63) h, lt-ltb (length b / 4) (length o / longest) r)

  pub no_room : index < 2 ^ 63 → length o / longest ≤ length b / 4 → nothing s o ≡ playing s index b o
  unfolding playing
  no_room h r = rw (playing, lt-ltb index (2 ^ 63) h, le-ltb (length b / 4) (length o / longest) r)

  pub no_index : 2 ^ 63 ≤ index → nothing s o ≡ playing s index b o
  unfolding playing
  no_index h = rw (playing, le-ltb index (2 ^ 63) h)
