-- How a mount ends.
use Rattle.std.specs.Prelude.{◌≡◌, ◌⊎◌, ◌+◌, ℕ, List, length}
use Rattle.life_bytes.specs.declared.sector.Sector.{Sector}
use Rattle.life_ports.specs.Faults.{Rose}
use Rattle.disk_model.specs.Disk.{Cell}
use Rattle.geometry.specs.declared.shape.Geometry.{Geometry}
use Rattle.geometry.specs.Places.{anchor_of}
use Rattle.life_table.specs.declared.table.Table.{Table}
use Rattle.life_table.specs.History.{closed}
use Rattle.log_record.specs.declared.image.Commit.{Commit}
use Rattle.log_store.specs.declared.fault.StoreFault.{StoreFault}
use Rattle.log_store.specs.declared.fault.StoreFault.TheVariants as store
use Rattle.log_store.specs.declared.store.Stage.TheVariants as stage
use Rattle.log_store.specs.declared.store.Job.TheVariants as job
use Rattle.log_store.specs.OnDisk.{HasCover, base_of}
use Rattle.log_store.specs.Outcome.{CoverEndsPast, EndsPast}
use Rattle.log_store.specs.State.{State}
use Rattle.sound_image.specs.Encoding.{Layouts}
use Rattle.sound_image.specs.Superblocks.{HasSuperblock}
use Rattle.whole_image.specs.Represents.{Represents}
use Rattle.commit_history.specs.Carried.{CommitsCarry, IsEncoding}

-- A store's log lies behind the groups of this geometry, and its base encodes this table with these layouts.
pub record IsStoreOf (g : Geometry) (t : Table) (layouts : Layouts) (s : State) (cells : List Cell) : Type 0 where
  pub anchor : s.anchor ≡ anchor_of g
  pub ring : s.ring ≡ g.ring
  pub superblock : HasSuperblock g (base_of s cells)
  pub encodes : IsEncoding g t layouts (base_of s cells)

-- An image represents the table to which all of a list of commits carry a table, with the number of the next commit behind them, and its log is one cover.
pub record IsWholeLeft (g : Geometry) (t : Table) (layouts : Layouts) (list : List Commit) (next : ℕ) (image : List Sector) : Type 0 where
  pub position : ℕ
  pub cover : HasCover (anchor_of g) g.ring position (next + length list) image
  pub represents : (u : Table) (others : Layouts) → CommitsCarry g t layouts list u others → Represents image (closed u) (next + length list)

-- Why a store's commits were not all brought home, with its state then and the disk's counts of faults before and after. Where a flush failed, the store is down since; that it was down
-- before, and stays so, is the cause of `Down`;
-- the positions end where the record that comes next would end past the last one.
abbrev pub IsHomeFault : StoreFault → State → State → ℕ → ℕ → Type 0
IsHomeFault store.WriteFault old new before now = Rose before now
IsHomeFault store.FlushFault old new before now = Rose before now × (new.stage ≡ stage.Down now)
IsHomeFault store.PositionEnd old new before now = (new.stage ≡ stage.Free) × (EndsPast job.Force new (length new.batch) ⊎ CoverEndsPast new)
IsHomeFault (store.Down fault) old new before now = (old.stage ≡ stage.Down fault) × (new.stage ≡ stage.Down fault)
