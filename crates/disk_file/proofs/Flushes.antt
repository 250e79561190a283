-- What a flush leaves.
use Rattle.std.proofs.Common.{◌≡◌, ◌∙◌, ap, List, Result, Ok, Err, OnOk, OnErr}
use Rattle.disk_model.specs.Disk.{Cell, as_read, flushed}
use Rattle.disk_model.specs.DiskLaws.{as_read-flushed}

-- whether it succeeds or fails, a disk reads as before
pub reads_stay : {T E : Type 0} (result : Result T E) (old now : List Cell) → OnOk result (now ≡ flushed old) → OnErr result (now ≡ old) → as_read now ≡ as_read old
reads_stay (Ok value) old now ok err = ap as_read ok ∙ as_read-flushed old
reads_stay (Err error) old now ok err = ap as_read err
