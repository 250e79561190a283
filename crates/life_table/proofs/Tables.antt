-- A table stays well formed: a group is changed, one inode is, or all are.
use Rattle.std.proofs.Common.{◌≡◌, ◌/◌, ◌%◌, ◌≤◌, ℕ, zero, suc, List, [], ◌∷◌, Some, length, slice_set, slice_index_or, replicate, refl, arith, length-set}
use Rattle.std.specs.List.{AllByRecursion}
use Rattle.life_limits.specs.declared.TheConstants.{GROUP_NUMBERS, MAX_BLOCKS, MAX_GROUPS, MIN_BLOCKS, VERSION}
use Rattle.life_table.specs.declared.table.Inode.{Inode}
use Rattle.life_table.specs.declared.table.Table.{Table}
use Rattle.std.proofs.lemmas.List.{length-replicate}
use Rattle.life_table.specs.Table.{empty_table, Group, group_at, with_group, inode_of, with_inode}
use Rattle.life_table.specs.Legal.{prepare}
use Rattle.life_table.specs.WellFormed.{IsInode, IsGroup, IsTable}
use Rattle.life_table.proofs.Counts.{times-used_nil}
use Rattle.life_table.proofs.Groups.{AllByRecursion-set, IsGroup-set_inode, TakesOnlyFree, IsInode-in}
use Rattle.life_table.proofs.Keys.{IsGroup-prepared}

-- a group without chunks
pub IsGroup-nil : (blocks : ℕ) → IsGroup blocks []
IsGroup-nil blocks = record {
  few = omega arith;
  ascends = tt;
  chunks = tt;
  data_blocks = λ b has. let none = times-used_nil b in absurd (omega (arith, none, has));
  once = λ b. let none = times-used_nil b in omega (arith, none);
}

nth_group : (blocks : ℕ) (groups : List Group) (g : ℕ) → AllByRecursion (IsGroup blocks) groups → IsGroup blocks (slice_index_or groups g [])
nth_group blocks [] g all = IsGroup-nil blocks
nth_group blocks (group ∷ groups) zero all = all.0
nth_group blocks (group ∷ groups) (suc g) all = nth_group blocks groups g all.1

pub IsGroup-group_of : (t : Table) (g : ℕ) → IsTable t → IsGroup t.blocks (group_at t g)
IsGroup-group_of t g ok = nth_group t.blocks t.groups g ok.groups

pub IsTable-with_group : (t : Table) (g : ℕ) (group : Group) → IsTable t → IsGroup t.blocks group → IsTable (with_group t g group)
IsTable-with_group t g group ok here =
    let same : length (slice_set t.groups g group) ≡ length t.groups = length-set t.groups g group in
    record {
      version = ok.version;
      least = ok.least;
      most = ok.most;
      some = omega (arith, same, ok.some);
      many = omega (arith, same, ok.many);
      groups = AllByRecursion-set (IsGroup t.blocks) t.groups g group ok.groups here;
    }

pub IsTable-with_inode : (t : Table) (number : ℕ) (old new : Inode) → IsTable t → inode_of t number ≡ Some old → IsInode new
    → TakesOnlyFree t.blocks (group_at t (number / GROUP_NUMBERS)) old.row new.row → IsTable (with_inode t number new)
unfolding inode_of with_inode
IsTable-with_inode t number old new ok at inode takes =
    let g = number / GROUP_NUMBERS in
    IsTable-with_group t g _ ok (IsGroup-set_inode t.blocks (group_at t g) (number % GROUP_NUMBERS) old new (IsGroup-group_of t g ok) at inode takes)

pub IsInode-of : (t : Table) (number : ℕ) (inode : Inode) → IsTable t → inode_of t number ≡ Some inode → IsInode inode
unfolding inode_of
IsInode-of t number inode ok at =
    let g = number / GROUP_NUMBERS in
    IsInode-in (group_at t g) (number % GROUP_NUMBERS) inode (IsGroup-group_of t g ok).chunks at

pub IsTable-prepare : (t : Table) (g : ℕ) → IsTable t → IsTable (prepare t g)
IsTable-prepare t g ok = IsTable-with_group t g _ ok (IsGroup-prepared t.blocks g (group_at t g) (IsGroup-group_of t g ok))

-- a table without chunks
empty_groups : (blocks n : ℕ) → AllByRecursion (IsGroup blocks) (replicate n [])
empty_groups blocks zero = tt
empty_groups blocks (suc n) = (IsGroup-nil blocks, empty_groups blocks n)

abbrev no_chunks : ℕ → Group
no_chunks n = []

pub IsTable-empty : (groups blocks : ℕ) → 1 ≤ groups → groups ≤ MAX_GROUPS → MIN_BLOCKS ≤ blocks → blocks ≤ MAX_BLOCKS → IsTable (empty_table VERSION groups blocks)
IsTable-empty groups blocks some many least most =
    let long : length (replicate groups (no_chunks groups)) ≡ groups = length-replicate groups (no_chunks groups) in
    record { version = refl; least = least; most = most; some = omega (arith, long); many = omega (arith, long); groups = empty_groups blocks groups }
