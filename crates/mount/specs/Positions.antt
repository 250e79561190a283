-- The positions of a log that are used up.
use Rattle.std.specs.Prelude.{◌≤◌, ◌+◌, ◌⊎◌, List}
use Rattle.life_limits.specs.declared.TheConstants.{MOUNT_LIMIT}
use Rattle.life_bytes.specs.declared.sector.Sector.{Sector}
use Rattle.geometry.specs.declared.shape.Geometry.{Geometry}
use Rattle.log_image.specs.Log.{Log}
use Rattle.whole_image.specs.Damage.{HasFrontAndLog}

-- the position one turn of the ring behind a log's end, or its next commit number, is one with which no image is mounted
abbrev pub IsUsedUp : Geometry → Log → Type 0
IsUsedUp g log = (MOUNT_LIMIT ≤ log.end + g.ring) ⊎ (MOUNT_LIMIT ≤ log.next)

abbrev pub ArePositionsUsedUp : List Sector → Type 0
ArePositionsUsedUp image = (g : Geometry) × (log : Log) × HasFrontAndLog g image log × IsUsedUp g log
