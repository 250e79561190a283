use Rattle.std.proofs.Common.{◌≤◌, ◌-◌, length}
use Rattle.disk_file.proofs.file_disk.write_from.Given as goal

abbrev pub invariant-loop-done : goal.invariant-loop-done
invariant-loop-done l = l.done ≤ length l.pieces

abbrev pub decreases-loop-done : goal.decreases-loop-done
decreases-loop-done l = length l.pieces - l.done
