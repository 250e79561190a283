use Rattle.std.proofs.Common.{◌≡◌, ◌++◌, codes, flat_map, take, string_bytes}
use Rattle.script.specs.Texts.{run_text}
use Rattle.script.proofs.texts.push_more_runs.Given as goal

abbrev pub invariant-loop-run : goal.invariant-loop-run
invariant-loop-run l = string_bytes l.text ≡ string_bytes l.fn.text ++ flat_map (λ other. codes "," ++ run_text other) (take l.run-index l.runs)
