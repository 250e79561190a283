use Rattle.std.proofs.Common.{◌≡◌, [], take, map, vec_capacity}
use Rattle.log_batch.specs.Newest.{commit_images}
use Rattle.log_batch.specs.Picks.{ArePicks, picked_image}
use Rattle.log_batch.specs.Put.{put_all}
use Rattle.log_batch.proofs.batch.pick_first.Given as goal

abbrev pub invariant-loop-at : goal.invariant-loop-at
invariant-loop-at l = record {
  picks : ArePicks l.commits.items l.picks.items;
  put : map (picked_image l.commits.items) l.picks.items ≡ put_all (commit_images (take l.at l.commits.items)) [];
  capacity : vec_capacity l.picks ≡ vec_capacity l.fn.picks;
}
