use Rattle.std.proofs.Common.{rules}
use Rattle.version_table.proofs.StepsKeep.{warns, takes_in}
use Rattle.version_table.proofs.telling.warn.Goals as goal

pub split_seat-note-requires : goal.split_seat-note-requires
split_seat-note-requires c = (c.requires.from, c.requires.words, warns _ _ _)

pub join_seat-requires : goal.join_seat-requires
join_seat-requires c = (search rules, search rules, search rules, c.requires.words, takes_in _ _ _ _ _)
