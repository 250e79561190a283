-- A disk that is lent as a view.
use Rattle.std.specs.Borrow.{MutBor}
use Rattle.disk_model.specs.declared.disk_view.DiskView.{DiskView}

-- the reference that the view keeps: which disk was lent, and as it stands now
abbrev pub reference_of : {D : Type 0} → DiskView D → MutBor D
reference_of view = view.disk
