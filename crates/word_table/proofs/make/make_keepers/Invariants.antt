use Rattle.word_table.specs.Ends.{AreKeepers, IsMaker}
use Rattle.word_table.proofs.make.make_keepers.Given as goal

abbrev pub invariant-loop-group : goal.invariant-loop-group
invariant-loop-group l = record {
  maker : IsMaker l.cache l.group l.maker;
  made : AreKeepers l.cache l.group l.keepers.items;
}
