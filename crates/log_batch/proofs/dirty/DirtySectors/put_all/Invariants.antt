use Rattle.std.proofs.Common.{◌≡◌, ◌≤◌, ◌+◌, take}
use Rattle.log_batch.specs.Put.{put_all}
use Rattle.log_batch.proofs.dirty.DirtySectors.put_all.Given as goal

abbrev pub invariant-loop-image : goal.invariant-loop-image
invariant-loop-image l = record {
  images : l.self.images ≡ put_all (take l.image-index l.images) l.fn.self.images;
  room : l.fn.self.room ≤ l.self.room + l.image-index;
}
