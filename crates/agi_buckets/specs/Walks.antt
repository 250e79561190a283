-- Walks along a list, and the pointers that a removal sets.
use Rattle.std.specs.Prelude.{◌≡◌, ◌==◌, ℕ, List, Contains, if◌then◌else◌, slice_index, slice_set}
use Rattle.std.specs.List.{AllByRecursion}
use Rattle.life_limits.specs.declared.TheConstants.{NO_INODE}
use Rattle.agi_buckets.specs.Buckets.{Pointers, IsChain, IsBefore, bucket_of}

-- what is still to be walked: these members, from the first of them to the end mark
pub record IsWalk (p : Pointers) (first : ℕ) (members : List ℕ) : Type 0 where
  pub chain : IsChain p.next first members NO_INODE
  pub placed : AllByRecursion (Contains p.places) members
  pub no_mark : ¬ Contains p.places NO_INODE

-- there are members to walk, one of which is this inode
abbrev pub LeadsTo : Pointers → ℕ → ℕ → Type 0
LeadsTo p first agino = (members : List ℕ) × IsWalk p first members × Contains members agino

-- the member whose next pointer is this inode
pub record PointsAtMember (p : Pointers) (first agino other : ℕ) : Type 0 where
  pub placed : Contains p.places other
  pub listed : (members : List ℕ) → IsWalk p first members → Contains members other
  pub points : p.next other ≡ agino

-- The pointer that led to an inode leads to what came behind it, and no other has changed.
pub record PassesOver (old new : Pointers) (agino : ℕ) (lists : List (List ℕ)) : Type 0 where
  pub heads : new.heads ≡ (if slice_index old.heads (bucket_of agino) == agino then slice_set old.heads (bucket_of agino) (old.next agino) else old.heads)
  pub before : (other : ℕ) → IsBefore old lists agino other → new.next other ≡ old.next agino
  pub others : (other : ℕ) → Contains old.places other → ¬ IsBefore old lists agino other → new.next other ≡ old.next other
  pub places : new.places ≡ old.places
