use Rattle.orphan_frees.proofs.Ordered.{by_bucket}
use Rattle.orphan_frees.proofs.laws.recovery_goes_by_bucket.Goals as goal

pub returns : goal.returns
returns c = by_bucket c.places_have_their_metadata.ensures.place
