-- The jobs of a state by their slots, as the definition of cycles reads them. Assumes nothing: these are definitions.
use Rattle.std.specs.Prelude.{true, false, List, ◌≡◌}
use Rattle.rings.specs.History.{History}
use Rattle.rings.specs.Cycle.{Joint, Cycle}
use Rattle.coordinator.specs.declared.Coordinator.{Coordinator}
use Rattle.coordinator.specs.Limits.{jobs}
use Rattle.coordinator.specs.Views.{names, is_open, dep}

-- open slots, what they name, and the dependencies; a cycle looks at nothing else
abbrev pub tables : Coordinator → History
tables s = record {
  count = jobs;
  now = 1;
  names = λ j k. names s j k ≡ true;
  asked = λ j k. ⊥;
  released = λ j k t. ⊥;
  confirmed = λ j k. ⊥;
  held = λ j. ⊥;
  closed = λ j t. (is_open s j ≡ false) × (t ≡ 0);
  dep = λ k a b. dep s k a b ≡ true;
}

abbrev pub NoCycle : Coordinator → Type 0
NoCycle s = (chain : List Joint) → ¬ Cycle (tables s) chain
