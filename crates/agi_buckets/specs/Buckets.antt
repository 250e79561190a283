-- The unlinked buckets of a group: 64 lists of inodes, each linked through its members.
use Rattle.std.specs.Prelude.{◌≡◌, ◌≢◌, ◌==◌, ◌⊎◌, ◌%◌, ◌<◌, ℕ, List, [], ◌∷◌, Option, None, Some, Contains, if◌then◌else◌, not, length, filter, slice_index, slice_index_or, slice_set}
use Rattle.std.specs.List.{AllByRecursion}
use Rattle.life_limits.specs.declared.TheConstants.{BUCKETS, NO_INODE}

-- What the pointers of a group are: the heads of its buckets, the next pointer of each inode, and the inodes that have one. An inode is its number in the
-- group.
pub record Pointers : Type 0 where
  pub heads : List ℕ
  pub next : ℕ → ℕ
  pub places : List ℕ

-- The members stand one behind the other, from one pointer to another: the first pointer points at the first member, each member's next pointer at the one
-- behind it, and that of the last is the other pointer.
abbrev pub IsChain : (ℕ → ℕ) → ℕ → List ℕ → ℕ → Type 0
IsChain next from [] to = from ≡ to
IsChain next from (agino ∷ members) to = (from ≡ agino) × IsChain next (next agino) members to

-- the list of a bucket: from its head, up to the end mark, through inodes that have a place and are of the bucket
pub record IsBucket (p : Pointers) (bucket : ℕ) (members : List ℕ) : Type 0 where
  pub chain : IsChain p.next (slice_index p.heads bucket) members NO_INODE
  pub placed : AllByRecursion (Contains p.places) members
  pub own : AllByRecursion (λ agino. agino % BUCKETS ≡ bucket) members

-- the list of a bucket among the lists
abbrev pub list_at : List (List ℕ) → ℕ → List ℕ
list_at lists bucket = slice_index_or lists bucket []

-- the 64 lists that the pointers give
pub record AreBuckets (p : Pointers) (lists : List (List ℕ)) : Type 0 where
  pub heads : length p.heads ≡ BUCKETS
  pub count : length lists ≡ BUCKETS
  pub each : (bucket : ℕ) → bucket < BUCKETS → IsBucket p bucket (list_at lists bucket)
  pub no_mark : ¬ Contains p.places NO_INODE

-- the pointers give 64 lists, and of these a fact holds
abbrev pub HaveBuckets : Pointers → (List (List ℕ) → Type 0) → Type 0
HaveBuckets p Fact = (lists : List (List ℕ)) × AreBuckets p lists × Fact lists

-- the bucket of an inode, and its list
abbrev pub bucket_of : ℕ → ℕ
bucket_of agino = agino % BUCKETS

abbrev pub own_list : List (List ℕ) → ℕ → List ℕ
own_list lists agino = list_at lists (bucket_of agino)

-- what a pointer may be set to: an inode that has a place, or the end mark
abbrev pub IsPointer : Pointers → ℕ → Type 0
IsPointer p agino = Contains p.places agino ⊎ (agino ≡ NO_INODE)

-- a head was set, and no other pointer
pub record SetsHead (old new : Pointers) (bucket agino : ℕ) : Type 0 where
  pub heads : new.heads ≡ slice_set old.heads bucket agino
  pub nexts : (other : ℕ) → Contains old.places other → new.next other ≡ old.next other
  pub places : new.places ≡ old.places

-- a next pointer was set, and no other pointer
pub record SetsNext (old new : Pointers) (agino next : ℕ) : Type 0 where
  pub heads : new.heads ≡ old.heads
  pub own : new.next agino ≡ next
  pub others : (other : ℕ) → Contains old.places other → other ≢ agino → new.next other ≡ old.next other
  pub places : new.places ≡ old.places

-- the lists with an inode put first in its own
abbrev pub put_first : List (List ℕ) → ℕ → List (List ℕ)
put_first lists agino = slice_set lists (bucket_of agino) (agino ∷ own_list lists agino)

-- An inode was put at the head of its bucket: its next pointer is the head that was, and beside it only that head has changed.
pub record Puts (old new : Pointers) (agino : ℕ) (lists : List (List ℕ)) : Type 0 where
  pub lists_after : AreBuckets new (put_first lists agino)
  pub heads : new.heads ≡ slice_set old.heads (bucket_of agino) agino
  pub own : new.next agino ≡ slice_index old.heads (bucket_of agino)
  pub others : (other : ℕ) → Contains old.places other → other ≢ agino → new.next other ≡ old.next other
  pub places : new.places ≡ old.places

-- a list without an inode
abbrev pub without : List ℕ → ℕ → List ℕ
without members agino = filter (λ other. not (other == agino)) members

-- the lists with an inode taken out of its own
abbrev pub take_out : List (List ℕ) → ℕ → List (List ℕ)
take_out lists agino = slice_set lists (bucket_of agino) (without (own_list lists agino) agino)

-- the inode before another one in its list
pub record IsBefore (p : Pointers) (lists : List (List ℕ)) (agino other : ℕ) : Type 0 where
  pub listed : Contains (own_list lists agino) other
  pub points : p.next other ≡ agino

-- what leads to an inode: the inode before it, or the head of its bucket
abbrev pub IsLedToBy : Pointers → List (List ℕ) → ℕ → Option ℕ → Type 0
IsLedToBy p lists agino None = slice_index p.heads (bucket_of agino) ≡ agino
IsLedToBy p lists agino (Some other) = IsBefore p lists agino other

-- An inode was taken out of its bucket: its next pointer is the end mark, and beside it only the pointer that led to it has changed, which leads to what
-- came behind it.
pub record Removes (old new : Pointers) (agino : ℕ) (lists : List (List ℕ)) : Type 0 where
  pub lists_after : AreBuckets new (take_out lists agino)
  pub heads : new.heads ≡ (if slice_index old.heads (bucket_of agino) == agino then slice_set old.heads (bucket_of agino) (old.next agino) else old.heads)
  pub own : new.next agino ≡ NO_INODE
  pub before : (other : ℕ) → IsBefore old lists agino other → new.next other ≡ old.next agino
  pub others : (other : ℕ) → Contains old.places other → other ≢ agino → ¬ IsBefore old lists agino other → new.next other ≡ old.next other
  pub places : new.places ≡ old.places
