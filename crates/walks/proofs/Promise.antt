-- What specs/Promise states of the opening search holds of every graph whose new job has a slot.
-- Assumes nothing.
use Prim.Native.Nat.{◌<◌}
use Rattle.walks.specs.Walk.{Graph}
use Rattle.walks.specs.Promise.{Promise}
use Rattle.walks.proofs.Choice.{chosen_some}
use Rattle.walks.proofs.Engine.{engine, engine_right}
use Rattle.walks.proofs.Nested.{search_engine}
use Rattle.walks.proofs.Machine.{machine_counts, machine_ends, machine_engine}
use Rattle.walks.proofs.Same.{machine_rows}

pub promise : (G : Graph) → G.new < G.jobs → Promise G
promise G new = record {
  first = chosen_some G;
  counts = λ K. machine_counts G K new;
  ends = λ K. machine_ends G K new;
  right = λ K k enough. engine_right G _ _ _ (machine_engine G K new k enough) new;
  nested = λ K H k f enough fuel. engine G _ _ _ _ _ _ (machine_engine G K new k enough) (search_engine G H new f fuel);
  same = machine_rows G new;
  engine_right = λ R F m E. engine_right G R F m E new;
  engine = engine G;
}
