use Rattle.encoded_changes.proofs.Chunks.{chunk_touches}
use Rattle.encoded_changes.proofs.laws.chunks_touch_themselves.Goals as goal

pub returns : goal.returns
returns c = chunk_touches
