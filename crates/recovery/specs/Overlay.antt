-- A disk with what was found of its log over it.
use Rattle.std.specs.Borrow.{MutBor}
use Rattle.recovery.specs.declared.found.Found.{Found}
use Rattle.recovery.specs.declared.overlay.Overlay.{Overlay}

-- the reference to the disk that the view keeps: which disk was lent, and as it stands now
abbrev pub disk_of : {D : Type 0} → Overlay D → MutBor D
disk_of view = view.disk

-- what lies over it
abbrev pub found_of : {D : Type 0} → Overlay D → Found
found_of view = view.found.now
