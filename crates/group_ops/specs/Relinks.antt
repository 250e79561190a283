-- How pointers are set where an inode is put into its unlinked bucket or taken out of it.
use Rattle.std.specs.Prelude.{◌≡◌, ◌≢◌, ◌%◌, ⊤, ℕ, Bool, true, false, Option, None, Some, IfSome, map}
use Rattle.std.specs.List.{range_with_len}
use Rattle.life_limits.specs.declared.TheConstants.{BUCKETS}
use Rattle.life_table.specs.declared.table.Inode.{Inode}
use Rattle.life_table.specs.declared.table.Table.{Table}
use Rattle.life_table.specs.Table.{group_at, inode_in}
use Rattle.sound_image.specs.Encoding.{Layouts, bucket_list, head_of, is_unlinked, next_in}
use Rattle.inode_cache.specs.Inodes.{incore_encoding}
use Rattle.group_ops.specs.declared.delta.Head.{Head}
use Rattle.group_ops.specs.declared.delta.Prior.{Prior}
use Rattle.group_ops.specs.Changes.{with_head}
use Rattle.group_ops.specs.Represents.{IsGroupOf, incore_for}
use Rattle.group_ops.specs.Values.{StateValue}

-- the next pointer of a number of a group, by its list
abbrev pub next_of : Layouts → ℕ → ℕ → ℕ
next_of layouts group agino = next_in (bucket_list layouts group (agino % BUCKETS)) agino

-- an inode as the inode before another one: it is one of the group, and its core and its sector have the pointer that the other layouts give
pub record IsPrior (s : StateValue) (t : Table) (layouts others : Layouts) (agino : ℕ) (prior : Prior) : Type 0 where
  pub other : prior.agino ≢ agino
  pub points : next_of layouts s.group prior.agino ≡ agino
  pub inode : Inode
  pub found : inode_in (group_at t s.group) prior.agino ≡ Some inode
  pub core : prior.core ≡ (incore_for others s.group prior.agino inode).core
  pub sector : prior.sector.bytes ≡ incore_encoding s.group s.geometry.uuid prior.agino (incore_for others s.group prior.agino inode)

-- another number than the one that changes, and than that of the inode before it
abbrev pub IsApart : Option Prior → ℕ → Type 0
IsApart None other = ⊤
IsApart (Some prior) other = other ≢ prior.agino

-- The pointers of a state as they are set where one inode changes its list: the heads are those of the other layouts, and so are the next pointers, of which
-- only that of the inode itself and that of the inode before it differ.
pub record Relinks (s : StateValue) (t : Table) (layouts others : Layouts) (agino : ℕ) (head : Option Head) (prior : Option Prior) : Type 0 where
  pub heads : with_head s.heads head ≡ map (λ bucket. head_of (bucket_list others s.group bucket)) (range_with_len 0 BUCKETS)
  pub apart : (other : ℕ) → other ≢ agino → IsApart prior other → next_of others s.group other ≡ next_of layouts s.group other
  pub before : IfSome prior (IsPrior s t layouts others agino)

-- a head is set, and no other pointer
abbrev pub IsFirst : Option Head → Option Prior → Type 0
IsFirst (Some head) None = ⊤
IsFirst _ _ = ⊥

-- an inode that is taken out is the head of its bucket, where a head is set; or it stands behind another one, where the pointer of that is set
abbrev pub IsTakenFrom : Layouts → ℕ → ℕ → Option Head → Option Prior → Type 0
IsTakenFrom layouts group agino (Some head) None = head_of (bucket_list layouts group (agino % BUCKETS)) ≡ agino
IsTakenFrom layouts group agino None (Some prior) = ⊤
IsTakenFrom layouts group agino _ _ = ⊥

-- the state is its group of some table, in which the number is not in use without links
abbrev pub IsListedNowhere : StateValue → ℕ → Type 0
IsListedNowhere s agino = (t : Table) × (layouts : Layouts) × IsGroupOf s t layouts × (is_unlinked (inode_in (group_at t s.group) agino) ≡ false)

-- the state is its group of some table, in which the number is in use and has no links
abbrev pub IsUnlinkedIn : StateValue → ℕ → Type 0
IsUnlinkedIn s agino = (t : Table) × (layouts : Layouts) × IsGroupOf s t layouts × (is_unlinked (inode_in (group_at t s.group) agino) ≡ true)

-- which of the pointers are set, by whether the inode was in use without links and whether it is then
abbrev pub StandsFor : Layouts → ℕ → ℕ → Bool → Bool → Option Head → Option Prior → Type 0
StandsFor layouts group agino false true head prior = IsFirst head prior
StandsFor layouts group agino true false head prior = IsTakenFrom layouts group agino head prior
StandsFor layouts group agino _ _ head prior = (head ≡ None) × (prior ≡ None)
