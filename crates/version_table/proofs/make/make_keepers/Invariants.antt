use Rattle.version_table.specs.Ends.{AreVersionKeepers, IsMaker}
use Rattle.version_table.proofs.make.make_keepers.Given as goal

abbrev pub invariant-loop-group : goal.invariant-loop-group
invariant-loop-group l = record {
  maker : IsMaker l.versions l.group l.maker.table_id l.maker.me;
  made : AreVersionKeepers l.versions l.group l.keepers.items;
}
