use Rattle.std.proofs.Common.{◌≡◌, ◌++◌, ℕ, List, length, slice_index}
use Rattle.life_limits.specs.declared.TheConstants.{NO_INODE}
use Rattle.agi_buckets.specs.Walks.{IsWalk}
use Rattle.agi_buckets.proofs.Steps.{steps}
use Rattle.agi_buckets.proofs.buckets.list.Given as goal

-- what the walk has met, and then what is ahead, is the list
abbrev pub invariant-loop-at : goal.invariant-loop-at
invariant-loop-at g l =
    (rest : List ℕ) × IsWalk (g.N.Nexts.pointers l.n) l.at rest
    × ((members : List ℕ) → IsWalk (g.N.Nexts.pointers l.n) (slice_index (g.N.Nexts.pointers l.n).heads l.bucket) members → members ≡ l.members.items ++ rest)

abbrev pub decreases-loop-at : goal.decreases-loop-at
decreases-loop-at g l = steps (g.N.Nexts.pointers l.n).next NO_INODE (length (g.N.Nexts.pointers l.n).places) l.at
