-- What a recovery leaves of a disk on which its log begins anew.
use Rattle.std.specs.Prelude.{◌≡◌, ◌+◌, List}
use Rattle.life_bytes.specs.declared.sector.Sector.{Sector}
use Rattle.disk_model.specs.Disk.{Cell, HasOneImage, as_read}
use Rattle.geometry.specs.declared.shape.Geometry.{Geometry}
use Rattle.geometry.specs.Places.{anchor_of}
use Rattle.life_table.specs.declared.table.Table.{Table}
use Rattle.sound_image.specs.Encoding.{Layouts}
use Rattle.sound_image.specs.Superblocks.{HasSuperblock}
use Rattle.log_image.specs.Anchor.{HasAnchor}
use Rattle.log_image.specs.Log.{AreBelow, Log, groups_part, ring_part}
use Rattle.recovery.specs.declared.start.Start.{Start}
use Rattle.whole_image.specs.Damage.{HasFrontAndLog, groups_of}
use Rattle.whole_image.specs.Represents.{Represents}
use Rattle.commit_history.specs.Carried.{IsEncoding}

-- The disk has one image. It has the superblock of this geometry, and an anchor with which the log begins anew, one turn of the ring behind where the log before ended, a
-- position that no sector of the ring has reached. Its groups are those of the image before with that log replayed, they encode the table that this image represented, and the
-- disk represents that table, with the same next commit number.
pub record IsRecovered (old : List Sector) (g : Geometry) (start : Start) (cells : List Cell) : Type 0 where
  pub table : Table
  pub layouts : Layouts
  pub was : Represents old table start.next_commit
  pub log : Log
  pub front : HasFrontAndLog g old log
  pub one : HasOneImage cells
  pub superblock : HasSuperblock g (as_read cells)
  pub anchor : HasAnchor (as_read cells) (anchor_of g) g.ring start.position start.next_commit
  pub below : AreBelow (ring_part (anchor_of g) g.ring (as_read cells)) start.position
  pub position : start.position ≡ log.end + g.ring
  pub groups : groups_part (anchor_of g) (as_read cells) ≡ groups_of g old log
  pub encodes : IsEncoding g table layouts (groups_part (anchor_of g) (as_read cells))
  pub whole : IsEncoding g table layouts (as_read cells)
  pub represents : Represents (as_read cells) table start.next_commit
