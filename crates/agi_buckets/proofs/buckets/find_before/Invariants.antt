use Rattle.std.proofs.Common.{◌≢◌, ℕ, List, Contains, length}
use Rattle.life_limits.specs.declared.TheConstants.{NO_INODE}
use Rattle.agi_buckets.specs.Walks.{IsWalk, LeadsTo}
use Rattle.agi_buckets.proofs.Steps.{steps}
use Rattle.agi_buckets.proofs.buckets.find_before.Given as goal

-- the walk has come to a member that is not the one that is looked for, which is still ahead
abbrev pub invariant-loop-first : goal.invariant-loop-first
invariant-loop-first g l = record {
  here : l.at ≢ l.agino;
  ahead : LeadsTo (g.N.Nexts.pointers l.n) l.at l.agino;
  listed : (members : List ℕ) → IsWalk (g.N.Nexts.pointers l.n) l.first members → Contains members l.at;
}

abbrev pub decreases-loop-first : goal.decreases-loop-first
decreases-loop-first g l = steps (g.N.Nexts.pointers l.n).next NO_INODE (length (g.N.Nexts.pointers l.n).places) l.at
