-- What the fields of a sector give, and that it is what the sector encodes.
use Rattle.std.specs.Prelude.{◌≡◌, ◌==◌, ℕ, List, length, false}
use Rattle.life_bytes.specs.Fields.{field}
use Rattle.inode_core.specs.declared.shape.Core.{Core}
use Rattle.inode_core.specs.Cores.{IsCore, EncodesCore, core_encoding, fork_of, no_fork}

-- the core that the fields give, whatever else the sector holds
abbrev pub core_in : List ℕ → Core
core_in bytes = record {
  live = field 2 2 bytes == 0x81A4;
  links = field 4 16 bytes;
  size = field 8 56 bytes;
  blocks = field 8 64 bytes;
  extents = field 4 76 bytes;
  generation = field 4 92 bytes;
  next = field 4 96 bytes;
}

-- a core that may stand before a fork, and a uuid
pub record CanStand (core : Core) (uuid fork : List ℕ) : Type 0 where
  pub allowed : IsCore core
  pub wide : length uuid ≡ 16
  pub long : length fork ≡ 336
  pub free : core.live ≡ false → fork ≡ no_fork

-- What is encoded is read, and no sector encodes two cores. The encoding of a core before a fork is a sector that encodes it and has that fork.
pub record CoresAreRead : Type 0 where
  pub read : (bytes uuid : List ℕ) (ino : ℕ) (core : Core) → length bytes ≡ 512 → length uuid ≡ 16 → EncodesCore bytes ino uuid core → core_in bytes ≡ core
  pub encoded : (core : Core) (ino : ℕ) (uuid fork : List ℕ) → CanStand core uuid fork → EncodesCore (core_encoding core ino uuid fork) ino uuid core
  pub same_fork : (core : Core) (ino : ℕ) (uuid fork : List ℕ) → CanStand core uuid fork → fork_of (core_encoding core ino uuid fork) ≡ fork
  pub long : (core : Core) (ino : ℕ) (uuid fork : List ℕ) → CanStand core uuid fork → length (core_encoding core ino uuid fork) ≡ 512
