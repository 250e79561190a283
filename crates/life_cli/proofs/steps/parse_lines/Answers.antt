use Rattle.std.proofs.Common.{Err, ap}
use Rattle.script.specs.declared.fault.ScriptFault.{ScriptFault}
use Rattle.life_cli.proofs.Scripts.{fault_of_grammar, few_lines}
use Rattle.life_cli.proofs.steps.parse_lines.Goals as goal

pub returns-in-None-clause-few : goal.returns-in-None-clause-few
returns-in-None-clause-few c = few_lines c.args.bytes.now c.in-Ok.script c.requires.short c.in-Ok.ensures.read

pub returns-in-Err-Outside-clause-refused : goal.returns-in-Err-Outside-clause-refused
returns-in-Err-Outside-clause-refused c =
    let it = c.in-Err-Outside in
    fault_of_grammar c.args.bytes.now it.line it.rule c.requires.short (it.ensures.outside it.line it.rule (ap (λ (f : ScriptFault). Err f) it.field-0-is))
