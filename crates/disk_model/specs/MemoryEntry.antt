-- The changes that the entries of a memory disk's record represent.
use Rattle.std.specs.Prelude.{List, map}
use Rattle.disk_model.specs.declared.memory_disk.Entry.{Entry}
use Rattle.disk_model.specs.declared.memory_disk.Entry.TheVariants.{Wrote, Flushed}
use Rattle.disk_model.specs.MemoryDisk.{Change}
use Rattle.disk_model.specs.MemoryDisk.Change.{Write, Flush}

abbrev pub change_of : Entry → Change
change_of (Wrote at pieces) = Write at pieces.items
change_of Flushed = Flush

abbrev pub changes_of : List Entry → List Change
changes_of entries = map change_of entries
