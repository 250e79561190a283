use Rattle.std.proofs.Common.{◌≡◌, take, string_bytes}
use Rattle.script.specs.Texts.{answer_lines}
use Rattle.script.proofs.printer.print.Given as goal

abbrev pub invariant-loop-one : goal.invariant-loop-one
invariant-loop-one l = string_bytes l.text ≡ answer_lines (take l.one-index l.said) l.mounts l.groups
