use Rattle.std.proofs.Common.{◌≡◌, ◌≤◌, ◌-◌, [], length, take}
use Rattle.std.specs.Io.KnownBytes.{Appends}
use Rattle.life_ports.specs.Faults.{NeverFalls}
use Rattle.life_cli.proofs.output.write_whole.Given as goal

abbrev pub invariant-loop-written : goal.invariant-loop-written
invariant-loop-written g l = record {
  within : l.written ≤ length l.bytes;
  appended : Appends (g.K.Sink.bytes_held l.initial.out) (g.K.Sink.bytes_held l.out) (take l.written l.bytes);
  never_falls : NeverFalls (g.K.Sink.fault_count l.initial.out) (g.K.Sink.fault_count l.out);
  untouched : l.bytes ≡ [] → l.out ≡ l.initial.out;
}

abbrev pub decreases-loop-written : goal.decreases-loop-written
decreases-loop-written g l = length l.bytes - l.written
