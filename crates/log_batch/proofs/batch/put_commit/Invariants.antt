use Rattle.std.proofs.Common.{◌≡◌, ◌+◌, ◌≤◌, take, map, vec_len, vec_capacity}
use Rattle.log_batch.specs.Picks.{ArePicks, picked_image}
use Rattle.log_batch.specs.Put.{put_all}
use Rattle.log_batch.proofs.batch.put_commit.Given as goal

abbrev pub invariant-loop-i : goal.invariant-loop-i
invariant-loop-i l = record {
  picks : ArePicks l.commits.items l.picks.items;
  put : map (picked_image l.commits.items) l.picks.items ≡ put_all (take l.i l.images) (map (picked_image l.commits.items) l.fn.picks.items);
  size : vec_len l.picks ≤ vec_len l.fn.picks + l.i;
  capacity : vec_capacity l.picks ≡ vec_capacity l.fn.picks;
}
