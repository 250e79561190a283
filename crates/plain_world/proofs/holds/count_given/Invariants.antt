use Rattle.std.proofs.Common.{◌≡◌, ◌≤◌, ◌==◌, ◌&&◌, take}
use Rattle.std.specs.List.{count_by}
use Rattle.life_table.specs.declared.types.Entry.{Entry}
use Rattle.life_table.specs.History.{gives_up}
use Rattle.plain_world.proofs.holds.count_given.Given as goal

abbrev pub invariant-loop-entry : goal.invariant-loop-entry
invariant-loop-entry l = (l.count ≤ l.entry-index)
    × (l.count ≡ count_by (λ (entry : Entry). (entry.actor == l.a) && gives_up l.key entry.event) (take l.entry-index l.entries))
