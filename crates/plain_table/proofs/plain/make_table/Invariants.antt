use Rattle.std.proofs.Common.{◌≡◌, [], replicate}
use Rattle.plain_table.proofs.plain.make_table.Given as goal

abbrev pub invariant-loop : goal.invariant-loop
invariant-loop l = l.list.items ≡ replicate l.counter []
