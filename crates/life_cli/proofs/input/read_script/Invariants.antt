use Rattle.std.proofs.Common.{◌≤◌, ◌-◌, vec_len}
use Rattle.std.specs.Io.KnownBytes.{Consumes}
use Rattle.life_ports.specs.Faults.{NeverFalls}
use Rattle.life_cli.proofs.input.read_script.Given as goal

abbrev pub invariant-loop-piece : goal.invariant-loop-piece
invariant-loop-piece g l = record {
  taken : Consumes (g.S.Source.bytes_left l.initial.source) (g.S.Source.bytes_left l.source) l.script.items;
  within : vec_len l.script ≤ 16777217;
  never_falls : NeverFalls (g.S.Source.fault_count l.initial.source) (g.S.Source.fault_count l.source);
}

abbrev pub decreases-loop-piece : goal.decreases-loop-piece
decreases-loop-piece g l = 16777217 - vec_len l.script
