-- A superblock's fields are those of the geometry that it encodes.
use Rattle.std.proofs.Common.{◌≡◌, ℕ, List, take, drop, refl, ap, sym, ◌∙◌, arith, lit≤}
use Rattle.life_bytes.specs.Fields.{field}
use Rattle.life_bytes.specs.Pieces.{piece}
use Rattle.life_bytes.specs.TableLaws.{AreFields, sealed_row, sealed_number}
use Rattle.geometry.specs.declared.superblock.TheConstants.{SUPERBLOCK_CRC_AT}
use Rattle.geometry.specs.declared.shape.Geometry.{Geometry}
use Rattle.geometry.specs.Shape.{IsGeometry}
use Rattle.geometry.specs.Superblock.{superblock, superblock_encoding, SuperblocksTell}

rows : (g : Geometry) → IsGeometry g → AreFields 512 (superblock g)
rows g is =
    ((lit≤ tt, refl), ((lit≤ tt, refl), ((lit≤ tt, refl), ((lit≤ tt, refl), ((lit≤ tt, refl), ((lit≤ tt, is.uuid), tt))))))

-- what the fields of an encoded superblock say
pub record Says (g : Geometry) (bytes : List ℕ) : Type 0 where
  pub version : field 4 4 bytes ≡ g.version
  pub groups : field 4 8 bytes ≡ g.groups
  pub blocks : field 4 12 bytes ≡ g.blocks
  pub ring : field 4 16 bytes ≡ g.ring
  pub uuid : take 16 (drop 24 bytes) ≡ g.uuid

pub says : (g : Geometry) → IsGeometry g → Says g (superblock_encoding g)
unfolding superblock_encoding
says g is = record {
  version = sealed_number SUPERBLOCK_CRC_AT (superblock g) 1 4 4 g.version (rows g is) (lit≤ tt) refl refl (omega (arith, is.version));
  groups = sealed_number SUPERBLOCK_CRC_AT (superblock g) 2 8 4 g.groups (rows g is) (lit≤ tt) refl refl (omega (arith, is.groups));
  blocks = sealed_number SUPERBLOCK_CRC_AT (superblock g) 3 12 4 g.blocks (rows g is) (lit≤ tt) refl refl (omega (arith, is.blocks));
  ring = sealed_number SUPERBLOCK_CRC_AT (superblock g) 4 16 4 g.ring (rows g is) (lit≤ tt) refl refl (omega (arith, is.ring));
  uuid = sealed_row SUPERBLOCK_CRC_AT (superblock g) 5 (piece 24 16 g.uuid) (rows g is) (lit≤ tt) refl refl;
}

abbrev made : ℕ → ℕ → ℕ → ℕ → List ℕ → Geometry
made version groups blocks ring uuid = record { version = version; groups = groups; blocks = blocks; ring = ring; uuid = uuid }

same : (a b : Geometry) → a.version ≡ b.version → a.groups ≡ b.groups → a.blocks ≡ b.blocks → a.ring ≡ b.ring → a.uuid ≡ b.uuid → a ≡ b
same a b version groups blocks ring uuid =
    ap (λ (x : ℕ). made x a.groups a.blocks a.ring a.uuid) version ∙ ap (λ (x : ℕ). made b.version x a.blocks a.ring a.uuid) groups
    ∙ ap (λ (x : ℕ). made b.version b.groups x a.ring a.uuid) blocks ∙ ap (λ (x : ℕ). made b.version b.groups b.blocks x a.uuid) ring
    ∙ ap (λ (x : List ℕ). made b.version b.groups b.blocks b.ring x) uuid

-- what the fields of these bytes give is what the bytes encode
pub is_read : (read g : Geometry) (bytes : List ℕ) → read.version ≡ field 4 4 bytes → read.groups ≡ field 4 8 bytes → read.blocks ≡ field 4 12 bytes
    → read.ring ≡ field 4 16 bytes → read.uuid ≡ take 16 (drop 24 bytes) → IsGeometry g → bytes ≡ superblock_encoding g → read ≡ g
is_read read g bytes version groups blocks ring uuid is encoded =
    let s = says g is in
    same read g (version ∙ ap (field 4 4) encoded ∙ s.version) (groups ∙ ap (field 4 8) encoded ∙ s.groups) (blocks ∙ ap (field 4 12) encoded ∙ s.blocks)
    (ring ∙ ap (field 4 16) encoded ∙ s.ring) (uuid ∙ ap (λ (b : List ℕ). take 16 (drop 24 b)) encoded ∙ s.uuid)

pub superblocks_tell : SuperblocksTell
superblocks_tell a b is_a is_b e =
    let s = says a is_a in
    is_read a b (superblock_encoding a) (sym s.version) (sym s.groups) (sym s.blocks) (sym s.ring) (sym s.uuid) is_b e
