-- What the sector of an inode says.
use Rattle.std.proofs.Common.{◌≡◌, ◌<◌, ◌≤◌, ℕ, List, All, length, is_some, ap, sym, subst, ◌∙◌}
use Rattle.std.specs.List.{flat_map}
use Rattle.life_bytes.specs.declared.sector.Sector.{Sector}
use Rattle.geometry.specs.declared.shape.Geometry.{Geometry}
use Rattle.inode_core.specs.declared.shape.Core.{Core}
use Rattle.inode_core.specs.Cores.{EncodesCore}
use Rattle.inode_core.specs.Reading.{CoresAreRead, core_in}
use Rattle.extent_fork.specs.declared.extent.Extent.{Extent}
use Rattle.extent_fork.specs.Forks.{HasFork}
use Rattle.extent_fork.specs.Reading.{ForksAreRead, runs_in}
use Rattle.extent_fork.specs.Runs.{blocks_of}
use Rattle.life_table.specs.declared.table.Inode.{Inode}
use Rattle.geometry.specs.Places.{number_in}
use Rattle.sound_image.specs.Places.{bytes_at, sector_in}
use Rattle.sound_image.specs.Reading.{core_of, blocks_in}
use Rattle.sound_image.specs.Rules.{IsCoreRight, IsForkRight}

pub core_read : (l : CoresAreRead) (g : Geometry) (image : List Sector) (group agino : ℕ) (bytes : List ℕ) (core : Core) → bytes_at image (sector_in g group agino) ≡ bytes
    → length bytes ≡ 512 → length g.uuid ≡ 16 → EncodesCore bytes (number_in group agino) g.uuid core → core_of g image group agino ≡ core
unfolding core_of
core_read l g image group agino bytes core shown long wide encodes = ap core_in shown ∙ l.read bytes g.uuid (number_in group agino) core long wide encodes

pub core_right : (l : CoresAreRead) (g : Geometry) (image : List Sector) (group agino : ℕ) (bytes : List ℕ) (core : Core) (inode : Inode) → bytes_at image (sector_in g group agino) ≡ bytes
    → length bytes ≡ 512 → length g.uuid ≡ 16 → EncodesCore bytes (number_in group agino) g.uuid core → core.live ≡ is_some inode.row
    → IsCoreRight g image group agino inode × core_of g image group agino ≡ core
core_right l g image group agino bytes core inode shown long wide encodes live =
    let e : core_of g image group agino ≡ core = core_read l g image group agino bytes core shown long wide encodes in (
      record {
        encoded = subst (λ (c : Core). EncodesCore (bytes_at image (sector_in g group agino)) (number_in group agino) g.uuid c) (sym e)
            (subst (λ (b : List ℕ). EncodesCore b (number_in group agino) g.uuid core) (sym shown) encodes);
        live = ap (λ (c : Core). c.live) e ∙ live;
      },
      e,
    )

-- a right core is encoded by the sector's bytes
pub core_encoded : (g : Geometry) (image : List Sector) (group agino : ℕ) (bytes : List ℕ) (inode : Inode) → bytes_at image (sector_in g group agino) ≡ bytes
    → IsCoreRight g image group agino inode → EncodesCore bytes (number_in group agino) g.uuid (core_of g image group agino)
core_encoded g image group agino bytes inode shown right = subst (λ (b : List ℕ). EncodesCore b (number_in group agino) g.uuid (core_of g image group agino)) shown right.encoded

pub blocks_read : (l : ForksAreRead) (g : Geometry) (image : List Sector) (group agino : ℕ) (bytes : List ℕ) (core : Core) (runs : List Extent)
    → bytes_at image (sector_in g group agino) ≡ bytes → core_of g image group agino ≡ core → group < 16 → core.extents ≤ 21 → HasFork bytes core.extents group runs
    → runs_in (core_of g image group agino).extents (bytes_at image (sector_in g group agino)) ≡ runs
blocks_read l g image group agino bytes core runs shown same small few has =
    ap (λ (c : Core). runs_in c.extents (bytes_at image (sector_in g group agino))) same ∙ ap (runs_in core.extents) shown ∙ l.read bytes core.extents group runs small few has

pub blocks_are : (l : ForksAreRead) (g : Geometry) (image : List Sector) (group agino : ℕ) (bytes : List ℕ) (core : Core) (runs : List Extent)
    → bytes_at image (sector_in g group agino) ≡ bytes → core_of g image group agino ≡ core → group < 16 → core.extents ≤ 21 → HasFork bytes core.extents group runs
    → blocks_in g image group agino ≡ flat_map blocks_of runs
unfolding blocks_in
blocks_are l g image group agino bytes core runs shown same small few has =
    ap (λ (rs : List Extent). flat_map blocks_of rs) (blocks_read l g image group agino bytes core runs shown same small few has)

-- the fork of the sector, where it is right
pub fork_of_sector : (g : Geometry) (image : List Sector) (group agino : ℕ) (bytes : List ℕ) (core : Core) (runs : List Extent) → bytes_at image (sector_in g group agino) ≡ bytes
    → core_of g image group agino ≡ core → HasFork (bytes_at image (sector_in g group agino)) (core_of g image group agino).extents group runs → HasFork bytes core.extents group runs
fork_of_sector g image group agino bytes core runs shown same has =
    subst (λ (c : Core). HasFork bytes c.extents group runs) same (subst (λ (b : List ℕ). HasFork b (core_of g image group agino).extents group runs) shown has)

pub fork_right : (l : ForksAreRead) (g : Geometry) (image : List Sector) (group agino : ℕ) (bytes : List ℕ) (core : Core) (runs : List Extent)
    → bytes_at image (sector_in g group agino) ≡ bytes → core_of g image group agino ≡ core → group < 16 → core.extents ≤ 21 → HasFork bytes core.extents group runs
    → All (λ (block : ℕ). block < g.blocks) (flat_map blocks_of runs) → length (flat_map blocks_of runs) ≡ core.blocks → IsForkRight g image group agino
fork_right l g image group agino bytes core runs shown same small few has within count =
    let same_runs = blocks_read l g image group agino bytes core runs shown same small few has in
    let same_blocks = blocks_are l g image group agino bytes core runs shown same small few has in
    record {
      runs = subst (λ (rs : List Extent). HasFork (bytes_at image (sector_in g group agino)) (core_of g image group agino).extents group rs) (sym same_runs)
          (subst (λ (c : Core). HasFork (bytes_at image (sector_in g group agino)) c.extents group runs) (sym same)
          (subst (λ (b : List ℕ). HasFork b core.extents group runs) (sym shown) has));
      in_group = subst (All (λ (block : ℕ). block < g.blocks)) (sym same_blocks) within;
      count = ap (λ (c : Core). c.blocks) same ∙ sym count ∙ ap (λ (blocks : List ℕ). length blocks) (sym same_blocks);
    }

-- what the core says of the runs of a right fork
pub fork_counts : (l : ForksAreRead) (g : Geometry) (image : List Sector) (group agino : ℕ) (bytes : List ℕ) (core : Core) (runs : List Extent)
    → bytes_at image (sector_in g group agino) ≡ bytes → core_of g image group agino ≡ core → group < 16 → core.extents ≤ 21 → HasFork bytes core.extents group runs
    → IsForkRight g image group agino → All (λ (block : ℕ). block < g.blocks) (flat_map blocks_of runs) × core.blocks ≡ length (flat_map blocks_of runs)
fork_counts l g image group agino bytes core runs shown same small few has right =
    let same_blocks = blocks_are l g image group agino bytes core runs shown same small few has in (
      subst (All (λ (block : ℕ). block < g.blocks)) same_blocks right.in_group,
      ap (λ (c : Core). c.blocks) (sym same) ∙ right.count ∙ ap (λ (blocks : List ℕ). length blocks) same_blocks,
    )
