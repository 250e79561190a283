use Rattle.std.proofs.Common.{◌≡◌, ◌≤◌, ◌==◌, ◌&&◌, take}
use Rattle.std.specs.List.{count_by}
use Rattle.life_table.specs.declared.types.Entry.{Entry}
use Rattle.life_table.specs.History.{takes_hold}
use Rattle.plain_world.proofs.holds.count_taken.Given as goal

abbrev pub invariant-loop-entry : goal.invariant-loop-entry
invariant-loop-entry l = (l.count ≤ l.entry-index)
    × (l.count ≡ count_by (λ (entry : Entry). (entry.actor == l.a) && takes_hold l.key entry.event) (take l.entry-index l.entries))
