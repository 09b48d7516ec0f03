use Rattle.std.proofs.Common.{refl, ◌∙◌}
use Rattle.layout.proofs.Number.{put_bytes, le_bytes_four}
use Rattle.boundary.proofs.bytes.U32Number.put.Goals as goal

pub returns : goal.returns
returns c = put_bytes 4 _ _ _ _ _ (c.copy_from_slice.ensures.after ∙ c.to_le_bytes.ensures ∙ le_bytes_four _) refl
