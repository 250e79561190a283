-- A disk in memory: what it held at first, and all that was done to it since.
use Rattle.std.specs.Prelude.{◌≤◌, ◌++◌, ℕ, List, [], ◌∷◌, length, take}
use Rattle.life_bytes.specs.declared.sector.Sector.{Sector}
use Rattle.life_ports.specs.Faults.{next_count}
use Rattle.disk_model.specs.Disk.{Cell, IsImage, settled_as, written, flushed}

-- a write of these pieces, the first of them to the sector `at`, or a flush
pub data Change : Type 0 where
  Write : ℕ → List Sector → Change
  Flush : Change

-- what the disk held at first, all writes and flushes that succeeded since, in order, and the count of faults
pub record DiskRecord : Type 0 where
  pub first : List Sector
  pub changes : List Change
  pub faults : ℕ

-- a disk that held this at first, and to which nothing was done
abbrev pub fresh : List Sector → DiskRecord
fresh first = record { first = first; changes = []; faults = 0 }

-- the sectors after one change
abbrev pub after_change : List Cell → Change → List Cell
after_change cells (Write at pieces) = written at pieces cells
after_change cells Flush = flushed cells

-- the sectors after these changes
abbrev pub after_changes : List Cell → List Change → List Cell
after_changes cells [] = cells
after_changes cells (change ∷ changes) = after_changes (after_change cells change) changes

-- the sectors after the first k changes
abbrev pub cells_after : DiskRecord → ℕ → List Cell
cells_after disk k = after_changes (settled_as disk.first) (take k disk.changes)

-- the sectors now
abbrev pub cells_of : DiskRecord → List Cell
cells_of disk = after_changes (settled_as disk.first) disk.changes

-- a stop after some number of changes, no fewer than these, may have left the image
abbrev pub left_from : DiskRecord → ℕ → List Sector → Type 0
left_from disk since image = (k : ℕ) × (since ≤ k) × (k ≤ length disk.changes) × IsImage (cells_after disk k) image

-- one change more
abbrev pub with_change : DiskRecord → Change → DiskRecord
with_change disk change = record disk { changes = disk.changes ++ change ∷ [] }

-- one fault more
abbrev pub with_fault : DiskRecord → DiskRecord
with_fault disk = record disk { faults = next_count disk.faults }
