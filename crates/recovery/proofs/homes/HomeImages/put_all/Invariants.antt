use Rattle.std.proofs.Common.{◌≡◌, take}
use Rattle.log_batch.specs.Put.{put_all}
use Rattle.recovery.proofs.homes.HomeImages.put_all.Given as goal

abbrev pub invariant-loop-image : goal.invariant-loop-image
invariant-loop-image l = l.self ≡ put_all (take l.image-index l.images) l.fn.self
