use Rattle.std.proofs.Common.{◌≤◌, ◌+◌, take}
use Rattle.disk_model.specs.Disk.{settled}
use Rattle.disk_model.specs.MemoryEntry.{changes_of}
use Rattle.disk_model.specs.OneSector.{cell_replayed, Walked}
use Rattle.disk_model.proofs.outcome.walked.Given as goal

abbrev pub invariant-loop-entry : goal.invariant-loop-entry
invariant-loop-entry l = record {
  few : l.walk.count ≤ l.entry-index + 1;
  walked : Walked l.index (cell_replayed l.at (settled l.first) (changes_of (take l.entry-index l.entries))) l.walk.count l.walk.latest.now l.walk.chosen.now;
}
