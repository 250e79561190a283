use Rattle.std.proofs.Common.{◌≡◌, take, map, vec_capacity}
use Rattle.log_batch.specs.Picks.{picked_image}
use Rattle.log_batch.proofs.batch.copy_images.Given as goal

abbrev pub invariant-loop-pick : goal.invariant-loop-pick
invariant-loop-pick l = record {
  images : l.into.items ≡ map (picked_image l.commits.items) (take l.pick-index l.picks);
  capacity : vec_capacity l.into ≡ vec_capacity l.fn.into;
}
