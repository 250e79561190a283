use Rattle.std.proofs.Common.{◌++◌, take, arith}
use Rattle.std.proofs.lemmas.Grind.{common_steps}
use Rattle.life_ports.proofs.Bytes.{Consumes-then}
use Rattle.life_cli.proofs.input.read_script.Goals as goal

-- what was read is taken, though there was no memory to keep it
pub returns-in_err-extend_from_slice-clause-taken : goal.returns-in_err-extend_from_slice-clause-taken
returns-in_err-extend_from_slice-clause-taken g c = (
  c.loop-piece.script.items ++ take c.in_ok-count.count c.read.new.into,
  grind (arith, common_steps),
  Consumes-then _ _ _ _ _ c.loop-piece.invariant.taken c.in_ok-count.ensures.taken,
)
