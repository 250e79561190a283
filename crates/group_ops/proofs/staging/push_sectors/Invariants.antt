use Rattle.std.proofs.Common.{◌≡◌, map}
use Rattle.std.specs.List.{range_with_len}
use Rattle.group_ops.specs.Staging.{candidate_at, with_candidates}
use Rattle.group_ops.proofs.staging.push_sectors.Given as goal

abbrev pub invariant-loop-index : goal.invariant-loop-index
invariant-loop-index l = l.staging ≡ with_candidates l.fn.staging (map (candidate_at l.place l.before l.after) (range_with_len 0 l.index))
