use Rattle.std.proofs.Common.{◌≡◌, ◌++◌, take, drop}
use Rattle.disk_model.specs.Disk.{settled_as}
use Rattle.disk_model.specs.MemoryDisk.{after_changes}
use Rattle.disk_model.specs.MemoryEntry.{changes_of}
use Rattle.disk_model.specs.Outcome.{picked}
use Rattle.disk_model.proofs.outcome.settle.Given as goal

abbrev pub invariant-loop-at : goal.invariant-loop-at
invariant-loop-at l = record {
  done : picked l.choice (after_changes (settled_as l.initial.first) (changes_of l.entries))
      ≡ take l.at l.first ++ picked l.rest (drop l.at (after_changes (settled_as l.initial.first) (changes_of l.entries)));
  others : drop l.at l.first ≡ drop l.at l.initial.first;
}
