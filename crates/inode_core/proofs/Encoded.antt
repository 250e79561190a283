-- The fields of a sector that encodes a core are the core's.
use Rattle.std.proofs.Common.{◌≡◌, ◌^◌, ◌<◌, ℕ, Bool, true, false, eqb, List, [], ◌∷◌, ◌++◌, length, take, drop, refl, sym, ap, ◌∙◌, arith, lit≤, lit<}
use Rattle.std.proofs.lemmas.List.{take_all, length-drop}
use Rattle.life_bytes.specs.Fields.{field, with_field, with_piece}
use Rattle.life_bytes.specs.Pieces.{Field, placed, blank, sealed, piece}
use Rattle.life_bytes.specs.TableLaws.{AreFields, sealed_row, sealed_number, length-sealed_table}
use Rattle.inode_core.specs.declared.shape.TheConstants.{CORE_CRC_AT, FORK_AT}
use Rattle.inode_core.specs.declared.shape.Core.{Core}
use Rattle.inode_core.specs.Cores.{IsCore, mode_of, fork_of, no_fork, core_fields, core_encoding, EncodesCore}
use Rattle.inode_core.specs.Reading.{core_in, CoresAreRead}

abbrev table : Core → ℕ → List ℕ → List ℕ → List Field
table core ino uuid fork = core_fields core ino uuid ++ (piece FORK_AT 336 fork ∷ [])

rows : (core : Core) (ino : ℕ) (uuid fork : List ℕ) → length uuid ≡ 16 → length fork ≡ 336 → AreFields 512 (table core ino uuid fork)
rows core ino uuid fork wide long = (
  (lit≤ tt, refl),
  (
    (lit≤ tt, refl),
    (
      (lit≤ tt, refl),
      (
        (lit≤ tt, refl),
        (
          (lit≤ tt, refl),
          (
            (lit≤ tt, refl),
            (
              (lit≤ tt, refl),
              ((lit≤ tt, refl), ((lit≤ tt, refl), ((lit≤ tt, refl), ((lit≤ tt, refl), ((lit≤ tt, wide), ((lit≤ tt, long), tt)))))),
            ),
          ),
        ),
      ),
    ),
  ),
)

record IsSmall (core : Core) : Type 0 where
  links : core.links < 256 ^ 4
  size : core.size < 256 ^ 8
  blocks : core.blocks < 256 ^ 8
  extents : core.extents < 256 ^ 4
  generation : core.generation < 256 ^ 4
  next : core.next < 256 ^ 4

small : (core : Core) → IsCore core → IsSmall core
small core is = by core.live refl
  where
    by : (b : Bool) → core.live ≡ b → IsSmall core
    by true e = let l = is.live e in record { links = omega arith; size = omega arith; blocks = omega arith; extents = omega arith; generation = omega arith; next = omega arith }
    by false e = let f = is.free e in record { links = omega arith; size = omega arith; blocks = omega arith; extents = omega arith; generation = omega arith; next = omega arith }

live_from_mode : (b : Bool) → eqb (mode_of b) 0x81A4 ≡ b
live_from_mode true = refl
live_from_mode false = refl

-- what the fields of an encoded core say
pub record Says (core : Core) (bytes : List ℕ) : Type 0 where
  pub mode : eqb (field 2 2 bytes) 0x81A4 ≡ core.live
  pub links : field 4 16 bytes ≡ core.links
  pub size : field 8 56 bytes ≡ core.size
  pub blocks : field 8 64 bytes ≡ core.blocks
  pub extents : field 4 76 bytes ≡ core.extents
  pub generation : field 4 92 bytes ≡ core.generation
  pub next : field 4 96 bytes ≡ core.next

mode_small : (b : Bool) → mode_of b < 256 ^ 2
mode_small true = lit< tt
mode_small false = lit< tt

pub says : (core : Core) (ino : ℕ) (uuid fork : List ℕ) → IsCore core → length uuid ≡ 16 → length fork ≡ 336 → Says core (core_encoding core ino uuid fork)
unfolding core_encoding
says core ino uuid fork is wide long =
    let t = table core ino uuid fork in
    let ok = rows core ino uuid fork wide long in
    let bound = small core is in
    record {
      mode = ap (λ (m : ℕ). eqb m 0x81A4) (sealed_number CORE_CRC_AT t 1 2 2 (mode_of core.live) ok (lit≤ tt) refl refl (mode_small core.live)) ∙ live_from_mode core.live;
      links = sealed_number CORE_CRC_AT t 4 16 4 core.links ok (lit≤ tt) refl refl bound.links;
      size = sealed_number CORE_CRC_AT t 5 56 8 core.size ok (lit≤ tt) refl refl bound.size;
      blocks = sealed_number CORE_CRC_AT t 6 64 8 core.blocks ok (lit≤ tt) refl refl bound.blocks;
      extents = sealed_number CORE_CRC_AT t 7 76 4 core.extents ok (lit≤ tt) refl refl bound.extents;
      generation = sealed_number CORE_CRC_AT t 8 92 4 core.generation ok (lit≤ tt) refl refl bound.generation;
      next = sealed_number CORE_CRC_AT t 9 96 4 core.next ok (lit≤ tt) refl refl bound.next;
    }

pub fork_of-encoding : (core : Core) (ino : ℕ) (uuid fork : List ℕ) → length uuid ≡ 16 → length fork ≡ 336 → fork_of (core_encoding core ino uuid fork) ≡ fork
unfolding core_encoding
fork_of-encoding core ino uuid fork wide long =
    let t = table core ino uuid fork in
    let ok = rows core ino uuid fork wide long in
    let s = sealed CORE_CRC_AT (placed t blank) in
    let size : length s ≡ 512 = length-sealed_table CORE_CRC_AT t ok (lit≤ tt) in
    sym (take_all 336 (drop FORK_AT s) (omega (arith, length-drop FORK_AT s))) ∙ sealed_row CORE_CRC_AT t 12 (piece FORK_AT 336 fork) ok (lit≤ tt) refl refl

pub whole_fork : (bytes : List ℕ) → length bytes ≡ 512 → take 336 (drop FORK_AT bytes) ≡ fork_of bytes
whole_fork bytes size = take_all 336 (drop FORK_AT bytes) (omega (arith, length-drop FORK_AT bytes))

-- one core before one fork is one sector
pub one_sector : (a b : List ℕ) (ino : ℕ) (uuid : List ℕ) (core : Core) → EncodesCore a ino uuid core → EncodesCore b ino uuid core → fork_of a ≡ fork_of b → a ≡ b
one_sector a b ino uuid core left right same = left.sector ∙ ap (core_encoding core ino uuid) same ∙ sym right.sector

-- the fields put in one after the other
pub put_in_turn : (core : Core) (ino : ℕ) (uuid z b0 b1 b2 b3 b4 b5 b6 b7 b8 b9 b10 b11 : List ℕ) → length uuid ≡ 16 → z ≡ blank
    → b0 ≡ with_field 2 0 0x494E z
    → b1 ≡ with_field 2 2 (mode_of core.live) b0
    → b2 ≡ with_field 1 4 3 b1
    → b3 ≡ with_field 1 5 2 b2
    → b4 ≡ with_field 4 16 core.links b3
    → b5 ≡ with_field 8 56 core.size b4
    → b6 ≡ with_field 8 64 core.blocks b5
    → b7 ≡ with_field 4 76 core.extents b6
    → b8 ≡ with_field 4 92 core.generation b7
    → b9 ≡ with_field 4 96 core.next b8
    → b10 ≡ with_field 8 152 ino b9
    → b11 ≡ with_piece (length uuid) 160 uuid b10 → b11 ≡ placed (core_fields core ino uuid) blank
unfolding placed
put_in_turn core ino uuid z b0 b1 b2 b3 b4 b5 b6 b7 b8 b9 b10 b11 wide zero e0 e1 e2 e3 e4 e5 e6 e7 e8 e9 e10 e11 =
    rw (e11, e10, e9, e8, e7, e6, e5, e4, e3, e2, e1, e0, zero, wide) refl

-- what `write_core` leaves
pub record IsWritten (core : Core) (ino : ℕ) (uuid old new : List ℕ) : Type 0 where
  pub encoded : EncodesCore new ino uuid core
  pub same_fork : fork_of new ≡ fork_of old

pub is_written : (core : Core) (ino : ℕ) (uuid old plain part forked new : List ℕ) → length uuid ≡ 16 → length old ≡ 512 → IsCore core → (core.live ≡ false → fork_of old ≡ no_fork)
    → plain ≡ placed (core_fields core ino uuid) blank → part ≡ fork_of old → forked ≡ with_piece (length part) FORK_AT part plain → new ≡ sealed CORE_CRC_AT forked → IsWritten core ino uuid old new
unfolding core_encoding placed
is_written core ino uuid old plain part forked new wide size is free p q r s =
    let long : length (fork_of old) ≡ 336 = omega (arith, length-drop FORK_AT old) in
    let e : new ≡ core_encoding core ino uuid (fork_of old) = is_encoding core ino uuid (fork_of old) plain part forked new long p q r s in
    let same : fork_of new ≡ fork_of old = ap fork_of e ∙ fork_of-encoding core ino uuid (fork_of old) wide long in
    record {
      encoded = record { allowed = is; fork = λ f. same ∙ free f; sector = e ∙ ap (core_encoding core ino uuid) (sym same) };
      same_fork = same;
    }
  where
    is_encoding : (core : Core) (ino : ℕ) (uuid fork plain part forked new : List ℕ) → length fork ≡ 336 → plain ≡ placed (core_fields core ino uuid) blank → part ≡ fork
        → forked ≡ with_piece (length part) FORK_AT part plain → new ≡ sealed CORE_CRC_AT forked → new ≡ core_encoding core ino uuid fork
    is_encoding core ino uuid fork plain part forked new long p q r s = rw (s, r, q, p, long) refl

-- ---- reading

abbrev made : Bool → ℕ → ℕ → ℕ → ℕ → ℕ → ℕ → Core
made live links size blocks extents generation next =
    record { live = live; links = links; size = size; blocks = blocks; extents = extents; generation = generation; next = next }

same : (a b : Core) → a.live ≡ b.live → a.links ≡ b.links → a.size ≡ b.size → a.blocks ≡ b.blocks → a.extents ≡ b.extents → a.generation ≡ b.generation → a.next ≡ b.next → a ≡ b
same a b live links size blocks extents generation next =
    ap (λ (x : Bool). made x a.links a.size a.blocks a.extents a.generation a.next) live
    ∙ ap (λ (x : ℕ). made b.live x a.size a.blocks a.extents a.generation a.next) links
    ∙ ap (λ (x : ℕ). made b.live b.links x a.blocks a.extents a.generation a.next) size
    ∙ ap (λ (x : ℕ). made b.live b.links b.size x a.extents a.generation a.next) blocks
    ∙ ap (λ (x : ℕ). made b.live b.links b.size b.blocks x a.generation a.next) extents
    ∙ ap (λ (x : ℕ). made b.live b.links b.size b.blocks b.extents x a.next) generation
    ∙ ap (λ (x : ℕ). made b.live b.links b.size b.blocks b.extents b.generation x) next

-- what the fields of these bytes give is what the bytes encode
pub is_read : (read core : Core) (ino : ℕ) (bytes uuid : List ℕ) → length uuid ≡ 16 → length bytes ≡ 512 → read.live ≡ eqb (field 2 2 bytes) 0x81A4 → read.links ≡ field 4 16 bytes
    → read.size ≡ field 8 56 bytes → read.blocks ≡ field 8 64 bytes → read.extents ≡ field 4 76 bytes → read.generation ≡ field 4 92 bytes → read.next ≡ field 4 96 bytes
    → EncodesCore bytes ino uuid core → read ≡ core
is_read read core ino bytes uuid wide size live links bytes_size blocks extents generation next s =
    let long : length (fork_of bytes) ≡ 336 = omega (arith, length-drop FORK_AT bytes) in
    let say = says core ino uuid (fork_of bytes) s.allowed wide long in
    same read core (live ∙ ap (λ (b : List ℕ). eqb (field 2 2 b) 0x81A4) s.sector ∙ say.mode) (links ∙ ap (field 4 16) s.sector ∙ say.links)
    (bytes_size ∙ ap (field 8 56) s.sector ∙ say.size) (blocks ∙ ap (field 8 64) s.sector ∙ say.blocks) (extents ∙ ap (field 4 76) s.sector ∙ say.extents)
    (generation ∙ ap (field 4 92) s.sector ∙ say.generation) (next ∙ ap (field 4 96) s.sector ∙ say.next)

-- the fork that the core has to stand before is the sector's, where the sector encodes it
pub same_fork : (core : Core) (ino : ℕ) (uuid bytes given : List ℕ) → (core.live ≡ true → fork_of given ≡ fork_of bytes) → (core.live ≡ false → fork_of given ≡ no_fork)
    → EncodesCore bytes ino uuid core → fork_of given ≡ fork_of bytes
same_fork core ino uuid bytes given live free s = by core.live refl
  where
    by : (b : Bool) → core.live ≡ b → fork_of given ≡ fork_of bytes
    by true e = live e
    by false e = free e ∙ sym (s.fork e)

pub length-encoding : (core : Core) (ino : ℕ) (uuid fork : List ℕ) → length uuid ≡ 16 → length fork ≡ 336 → length (core_encoding core ino uuid fork) ≡ 512
unfolding core_encoding
length-encoding core ino uuid fork wide long = length-sealed_table CORE_CRC_AT (table core ino uuid fork) (rows core ino uuid fork wide long) (lit≤ tt)

pub cores_are_read : CoresAreRead
cores_are_read = record {
  read = λ bytes uuid ino core size wide s. is_read (core_in bytes) core ino bytes uuid wide size refl refl refl refl refl refl refl s;
  encoded = λ core ino uuid fork can.
      let same = fork_of-encoding core ino uuid fork can.wide can.long in
      record { allowed = can.allowed; fork = λ f. same ∙ can.free f; sector = ap (core_encoding core ino uuid) (sym same) };
  same_fork = λ core ino uuid fork can. fork_of-encoding core ino uuid fork can.wide can.long;
  long = λ core ino uuid fork can. length-encoding core ino uuid fork can.wide can.long;
}
