-- The inode core as the front of a sector.
use Rattle.std.specs.Prelude.{◌≡◌, ◌<◌, ◌≤◌, ◌*◌, ◌^◌, ℕ, List, [], ◌∷◌, ◌++◌, Bool, true, false, drop, if◌then◌else◌}
use Rattle.life_limits.specs.declared.TheConstants.{BLOCK_BYTES, MAX_LINKS, MAX_EXTENTS, MAX_GENERATION, NO_INODE}
use Rattle.life_bytes.specs.Pieces.{Field, number, piece, placed, zeros, blank, sealed}
use Rattle.inode_core.specs.declared.shape.TheConstants.{CORE_CRC_AT, FORK_AT}
use Rattle.inode_core.specs.declared.shape.Core.{Core}

-- the fields of an inode in use
pub record IsLive (core : Core) : Type 0 where
  pub links : core.links ≤ MAX_LINKS
  pub size : core.size ≡ core.blocks * BLOCK_BYTES
  pub blocks : core.blocks < 2 ^ 32
  pub extents : core.extents ≤ MAX_EXTENTS
  pub generation : (1 ≤ core.generation) × (core.generation < MAX_GENERATION)
  pub next : core.next ≤ NO_INODE

-- the fields of a free inode
pub record IsFree (core : Core) : Type 0 where
  pub links : core.links ≡ 0
  pub size : core.size ≡ 0
  pub blocks : core.blocks ≡ 0
  pub extents : core.extents ≡ 0
  pub generation : (1 ≤ core.generation) × (core.generation ≤ MAX_GENERATION)
  pub next : core.next ≡ NO_INODE

-- the fields that a core may have
pub record IsCore (core : Core) : Type 0 where
  pub live : core.live ≡ true → IsLive core
  pub free : core.live ≡ false → IsFree core

-- a regular file that its owner may write and all may read
abbrev pub mode_of : Bool → ℕ
mode_of live = if live then 0x81A4 else 0

-- the fork: the bytes of a sector behind the core
abbrev pub fork_of : List ℕ → List ℕ
fork_of bytes = drop FORK_AT bytes

abbrev pub no_fork : List ℕ
no_fork = zeros 336

abbrev pub core_fields : Core → ℕ → List ℕ → List Field
core_fields core ino uuid =
    number 0 2 0x494E
    ∷ number 2 2 (mode_of core.live)
    ∷ number 4 1 3
    ∷ number 5 1 2
    ∷ number 16 4 core.links
    ∷ number 56 8 core.size
    ∷ number 64 8 core.blocks
    ∷ number 76 4 core.extents
    ∷ number 92 4 core.generation
    ∷ number 96 4 core.next
    ∷ number 152 8 ino
    ∷ piece 160 16 uuid
    ∷ []

-- the sector that encodes a core before a fork, with the checksum in its place
unfoldable pub core_encoding : Core → ℕ → List ℕ → List ℕ → List ℕ
core_encoding core ino uuid fork = sealed CORE_CRC_AT (placed (core_fields core ino uuid ++ (piece FORK_AT 336 fork ∷ [])) blank)

-- the sector encodes the core, under this number and uuid
pub record EncodesCore (bytes : List ℕ) (ino : ℕ) (uuid : List ℕ) (core : Core) : Type 0 where
  pub allowed : IsCore core
  pub fork : core.live ≡ false → fork_of bytes ≡ no_fork
  pub sector : bytes ≡ core_encoding core ino uuid (fork_of bytes)
