-- What sound images represent.
use Rattle.std.proofs.Common.{◌≡◌, ℕ, ◌+◌, ◌≤◌, List, [], length, refl, sym, ap, subst, ◌∙◌, arith}
use Rattle.life_bytes.specs.declared.sector.Sector.{Sector}
use Rattle.life_bytes.specs.Sectors.{zero_sector}
use Rattle.life_bytes.specs.Fields.{field}
use Rattle.life_bytes.specs.TableLaws.{sealed_number, AreFields}
use Rattle.geometry.specs.declared.superblock.TheConstants.{SUPERBLOCK_CRC_AT}
use Rattle.geometry.specs.declared.shape.Geometry.{Geometry}
use Rattle.geometry.specs.Shape.{IsGeometry}
use Rattle.geometry.specs.Superblock.{superblock_magic, superblock_encoding, superblock as superblock_rows}
use Rattle.geometry.specs.Places.{anchor_of}
use Rattle.life_table.specs.declared.table.Table.{Table}
use Rattle.life_table.specs.History.{closed}
use Rattle.life_table.specs.WellFormed.{IsTable}
use Rattle.sound_image.specs.Damage.{AreGroupsSound as GroupsAreSound}
use Rattle.sound_image.specs.Places.{bytes_at}
use Rattle.sound_image.specs.Reading.{rows_of}
use Rattle.sound_image.specs.Encoding.{Layouts, CanEncode, encoded}
use Rattle.sound_image.specs.Superblocks.{HasSuperblock, IsLongEnough}
use Rattle.log_image.specs.Anchor.{HasAnchor}
use Rattle.log_image.specs.Log.{AreBelow, IsLog, Log, empty_log, groups_part, ring_part}
use Rattle.log_image.specs.Overlay.{overlaid}
use Rattle.whole_image.specs.Front.{ring_of}
use Rattle.whole_image.specs.Damage.{ImageRule, superblock, size, anchor, log, of_groups, image_rule_number, HasFrontAndLog, groups_of, ImageHolds, FirstDamage, IsSound}
use Rattle.whole_image.specs.Represents.{Represents}
use Rattle.whole_image.proofs.Unique.{Lower, one_geometry, one_said}
use Rattle.whole_image.proofs.Damages.{five, front_holds, groups_hold}

all_hold : Lower → (g : Geometry) (image : List Sector) (said : Log) → HasFrontAndLog g image said → GroupsAreSound g (groups_of g image said) → (rule : ImageRule) → ImageHolds image rule
all_hold lower g image said tells sound superblock = front_holds lower g image said superblock (omega arith) tells
all_hold lower g image said tells sound size = front_holds lower g image said size (omega arith) tells
all_hold lower g image said tells sound anchor = front_holds lower g image said anchor (omega arith) tells
all_hold lower g image said tells sound log = front_holds lower g image said log (omega arith) tells
all_hold lower g image said tells sound (of_groups rule) = groups_hold lower g image said rule tells (sound rule)

pub made : Lower → (g : Geometry) (image : List Sector) (said : Log) → HasFrontAndLog g image said → GroupsAreSound g (groups_of g image said)
    → Represents image (rows_of g (groups_of g image said)) said.next
made lower g image said tells sound =
    record { sound = all_hold lower g image said tells sound; geometry = g; said = said; tells = tells; rows = refl; next = refl }

-- what a sound image tells
heard : (image : List Sector) → IsSound image → (g : Geometry) × (said : Log) × HasFrontAndLog g image said
heard image sound =
    let first = sound superblock in
    let front = sound anchor first.0 first.1 in
    let right = sound log first.0 front.0 front.1 first.1 front.2 in
    (first.0, right.0, record { superblock = first.1; log = record { size = sound size first.0 first.1; says = (front.0, front.1, front.2, right.1) } })

pub stand : Lower → (image : List Sector) → IsSound image → (t : Table) × (c : ℕ) × Represents image t c
stand lower image sound =
    let at = heard image sound in
    (rows_of at.0 (groups_of at.0 image at.1), at.1.next, made lower at.0 image at.1 at.2 (λ rule. sound (of_groups rule) at.0 at.1 at.2))

pub well_formed : ((g : Geometry) (image : List Sector) → IsGeometry g → GroupsAreSound g image → IsTable (rows_of g image))
    → (image : List Sector) (t : Table) (c : ℕ) → Represents image t c → IsTable t
well_formed tables image t c stands =
    subst IsTable stands.rows
    (tables stands.geometry (groups_of stands.geometry image stands.said) stands.tells.superblock.shape (λ rule. stands.sound (of_groups rule) stands.geometry stands.said stands.tells))

pub unheld : ((g : Geometry) (image : List Sector) → closed (rows_of g image) ≡ rows_of g image) → (image : List Sector) (t : Table) (c : ℕ) → Represents image t c → closed t ≡ t
unheld none image t c stands = ap closed (sym stands.rows) ∙ none stands.geometry (groups_of stands.geometry image stands.said) ∙ stands.rows

pub one_table : Lower → (image : List Sector) (t u : Table) (c d : ℕ) → Represents image t c → Represents image u d → (t ≡ u) × (c ≡ d)
one_table lower image t u c d p q =
    let same : p.geometry ≡ q.geometry = one_geometry lower p.geometry q.geometry image p.tells.superblock q.tells.superblock in
    let here : HasFrontAndLog q.geometry image p.said = subst (λ (x : Geometry). HasFrontAndLog x image p.said) same p.tells in
    let log_same : p.said ≡ q.said = one_said lower q.geometry image p.said q.said here q.tells in (
      sym p.rows ∙ ap (λ (x : Geometry). rows_of x (groups_of x image p.said)) same
          ∙ ap (λ (x : Log). rows_of q.geometry (groups_of q.geometry image x)) log_same ∙ q.rows,
      sym p.next ∙ ap (λ (x : Log). x.next) log_same ∙ q.next,
    )

-- the laws of encoded groups
pub record Encodings : Type 0 where
  pub sound : (g : Geometry) (t : Table) (layouts : Layouts) (image : List Sector) → CanEncode g t layouts image → GroupsAreSound g (encoded g t layouts image)
  pub rows : (g : Geometry) (t : Table) (layouts : Layouts) (image : List Sector) → CanEncode g t layouts image → rows_of g (encoded g t layouts image) ≡ closed t

pub replays : Lower → Encodings → (g : Geometry) (t : Table) (layouts : Layouts) (base image : List Sector) (said : Log) → HasFrontAndLog g image said → CanEncode g t layouts base
    → groups_of g image said ≡ encoded g t layouts base → Represents image (closed t) said.next
replays lower encodings g t layouts base image said tells can same =
    let sound : GroupsAreSound g (groups_of g image said) = subst (GroupsAreSound g) (sym same) (encodings.sound g t layouts base can) in
    let rows : rows_of g (groups_of g image said) ≡ closed t = ap (rows_of g) same ∙ encodings.rows g t layouts base can in
    subst (λ (u : Table). Represents image u said.next) rows (made lower g image said tells sound)

-- an empty log
pub unlogged : Lower → Encodings
    → ((image : List Sector) (front ring position next : ℕ) → front + 1 + ring ≤ length image → HasAnchor image front ring position next
    → AreBelow (ring_part front ring image) position → IsLog image front ring (empty_log position next))
    → ((sectors : List Sector) → overlaid sectors [] ≡ sectors)
    → (g : Geometry) (t : Table) (layouts : Layouts) (base image : List Sector) (position next : ℕ) → HasSuperblock g image → IsLongEnough g image
    → HasAnchor image (anchor_of g) g.ring position next → AreBelow (ring_of g image) position → CanEncode g t layouts base
    → groups_part (anchor_of g) image ≡ encoded g t layouts base → Represents image (closed t) next
unlogged lower encodings empty none g t layouts base image position next has enough at below can same =
    let tells : HasFrontAndLog g image (empty_log position next) =
    record { superblock = has; log = empty image (anchor_of g) g.ring position next enough at below } in
    replays lower encodings g t layouts base image (empty_log position next) tells can (none (groups_part (anchor_of g) image) ∙ same)

-- ---- an image without a superblock

superblock_is_rows : (g : Geometry) → IsGeometry g → AreFields 512 (superblock_rows g)
superblock_is_rows g shape =
    ((omega arith, refl), ((omega arith, refl), ((omega arith, refl), ((omega arith, refl), ((omega arith, refl), ((omega arith, shape.uuid), tt))))))

magic_of : (g : Geometry) → IsGeometry g → field 4 0 (superblock_encoding g) ≡ superblock_magic
unfolding superblock_encoding
magic_of g shape = sealed_number SUPERBLOCK_CRC_AT (superblock_rows g) 0 0 4 superblock_magic (superblock_is_rows g shape) (omega arith) refl refl (omega arith)

first : (rule : ImageRule) → 1 ≤ image_rule_number rule
first superblock = omega arith
first size = omega arith
first anchor = omega arith
first log = omega arith
first (of_groups rule) = let low = five rule in omega arith

no_magic : field 4 0 zero_sector.bytes ≡ 0
no_magic = refl

pub blank : (image : List Sector) → bytes_at image 0 ≡ zero_sector.bytes → FirstDamage image superblock 0
blank image zero =
    record {
      before = λ other lt. let low = first other in absurd (omega arith);
      broken = (
        refl,
        λ found.
            let is : field 4 0 zero_sector.bytes ≡ superblock_magic = ap (field 4 0) (sym zero ∙ found.1.encoded) ∙ magic_of found.0 found.1.shape in
            let none = no_magic in absurd (omega arith),
      );
      least = λ other b. omega arith;
    }
