-- A view whose first sectors are shown.
use Rattle.std.specs.Prelude.{ℕ}
use Rattle.std.specs.Borrow.{MutBor}
use Rattle.inspect.specs.declared.first_sectors.FirstSectors.{FirstSectors}

-- the reference to the view that is kept: which view was lent, and as it stands now
abbrev pub view_of : {V : Type 0} → FirstSectors V → MutBor V
view_of front = front.view

-- how many of its sectors are shown, where it has so many
abbrev pub count_of : {V : Type 0} → FirstSectors V → ℕ
count_of front = front.count
