use Rattle.std.proofs.Common.{ap, ◌∙◌, arith, rules}
use Rattle.word_table.specs.Ends.{SeatState}
use Rattle.word_table.proofs.Making.{parts_off, some_words, room_left, next_maker}
use Rattle.word_table.proofs.make.make_keeper.Goals as goal

pub split_seat-requires : goal.split_seat-requires
split_seat-requires c = (
  search rules,
  omega (arith, c.cache.invariant.words, some_words _ c.cache.invariant.shape),
  parts_off _ _ _ _ _ _ (ap (λ (s : SeatState). s.known) (c.maker.view_is ∙ c.requires.maker.2)) (room_left c.args.cache.now _ _ c.requires.maker.1 c.requires.group),
)

pub returns-clause-maker : goal.returns-clause-maker
returns-clause-maker c = next_maker c.args.cache.now c.args.group c.args.maker.now _ c.requires.maker c.requires.group (search rules) (search rules)
