use Rattle.std.proofs.lemmas.List.{map-id}
use Rattle.boundary.specs.State.{decoded}
use Rattle.boundary.proofs.state.decode.Goals as goal

pub returns : goal.returns
unfolding decoded
returns c =
    cc (
      simp map-id at c.get_all.ensures,
      simp map-id at c.get_all-2.ensures,
      simp map-id at c.get_all-3.ensures,
      simp map-id at c.get_all-4.ensures,
      simp map-id at c.get_all-5.ensures,
      simp map-id at c.get_all-6.ensures,
      simp map-id at c.get_all-7.ensures,
    )
