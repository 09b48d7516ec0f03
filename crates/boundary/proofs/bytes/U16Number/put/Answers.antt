use Rattle.std.proofs.Common.{refl, ◌∙◌}
use Rattle.layout.specs.Bytes.{bytes_of}
use Rattle.layout.proofs.Number.{put_bytes}
use Rattle.boundary.proofs.bytes.U16Number.put.Goals as goal

pub returns : goal.returns
unfolding bytes_of
returns c = put_bytes 2 _ _ _ _ _ (c.copy_from_slice.ensures.after ∙ c.to_le_bytes.ensures) refl
