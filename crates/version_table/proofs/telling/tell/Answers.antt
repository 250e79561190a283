use Rattle.std.proofs.Common.{rules}
use Rattle.version_table.proofs.StepsKeep.{tells, takes_in}
use Rattle.version_table.proofs.telling.tell.Goals as goal

pub split_seat-note-requires : goal.split_seat-note-requires
split_seat-note-requires c = let made = c.requires.made in (c.requires.from, c.requires.words, tells _ _ _ _ _ _ made.2 made.3)

pub join_seat-requires : goal.join_seat-requires
join_seat-requires c = (search rules, search rules, search rules, c.requires.words, takes_in _ _ _ _ _)
