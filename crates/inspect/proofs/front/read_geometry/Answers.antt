use Rattle.std.proofs.Common.{◌≡◌, ◌∙◌, List, length, refl, sym, arith}
use Rattle.life_bytes.specs.declared.sector.Sector.{Sector}
use Rattle.geometry.specs.declared.shape.Geometry.{Geometry}
use Rattle.geometry.specs.Shape.{IsGeometry}
use Rattle.geometry.specs.Superblock.{superblock_encoding}
use Rattle.disk_model.specs.Disk.{as_read}
use Rattle.disk_model.specs.DiskLaws.{length-as_read}
use Rattle.whole_image.specs.Damage.{size, superblock}
use Rattle.inspect.specs.Faults.{NamesFirstDamage, of_superblock}
use Rattle.inspect.proofs.Fronts.{first_of_size, first_of_superblock, nothing_shown, superblock_is, superblock_is_wrong}
use Rattle.inspect.proofs.Results.{passed_up}
use Rattle.inspect.proofs.front.read_geometry.Goals as goal

pub returns-then-sectors-eq0-clause-first_damage : goal.returns-then-sectors-eq0-clause-first_damage
returns-then-sectors-eq0-clause-first_damage g c known =
    let image : List Sector = as_read (g.D.Disk.cells c.args.disk.now) in
    let size_is : length image ≡ g.D.Disk.sector_count c.args.disk.now = length-as_read (g.D.Disk.cells c.args.disk.now) ∙ g.met.D.Disk.cells_fit known c.args.disk.now in
    let none : length image ≡ 0 = omega arith in
    (superblock, refl, c.blank_images_are_damaged.ensures image (nothing_shown image none))

pub returns-in_err-g-clause-first_damage : goal.returns-in_err-g-clause-first_damage
returns-in_err-g-clause-first_damage g c known =
    let image : List Sector = as_read (g.D.Disk.cells c.args.disk.now) in
    let none : (h : Geometry) → IsGeometry h → c.read.new.into.bytes ≡ superblock_encoding h → ⊥ =
    λ h shape encoded. let is = c.in_err-g.ensures.only h shape encoded in cc is in
    passed_up c.from_residual-in_err-g.result (of_superblock c.in_err-g.field-0.0) (NamesFirstDamage image) c.from_residual-in_err-g.ensures.1
    (first_of_superblock image c.in_err-g.field-0.0 c.in_err-g.ensures.damaged c.one_first_damage.ensures.of_superblock
    (superblock_is_wrong image c.read.new.into (c.in_ok-read.ensures.read known) none))

pub returns-then-sectors-image_sectors-clause-first_damage : goal.returns-then-sectors-image_sectors-clause-first_damage
returns-then-sectors-image_sectors-clause-first_damage g c known =
    let image : List Sector = as_read (g.D.Disk.cells c.args.disk.now) in
    let size_is : length image ≡ c.sectors-sectors.result =
    length-as_read (g.D.Disk.cells c.args.disk.now) ∙ g.met.D.Disk.cells_fit known c.args.disk.now ∙ sym c.sectors-sectors.ensures in
    let has = superblock_is c.in_ok-g.g image c.read.new.into (c.in_ok-read.ensures.read known) c.in_ok-g.ensures.found.0 c.in_ok-g.ensures.found.1 in
    (size, refl, first_of_size c.in_ok-g.g image c.sectors-sectors.result size_is (omega arith) has c.one_first_damage.ensures.of_size)

pub returns-clause-superblock : goal.returns-clause-superblock
returns-clause-superblock g c known =
    superblock_is c.in_ok-g.g (as_read (g.D.Disk.cells c.args.disk.now)) c.read.new.into (c.in_ok-read.ensures.read known) c.in_ok-g.ensures.found.0 c.in_ok-g.ensures.found.1
