use Rattle.version_table.proofs.Calls.{one_more_keeper}
use Rattle.version_table.proofs.make.make_keepers.Goals as goal

pub loop-group-preserved : goal.loop-group-preserved
loop-group-preserved c = record {
  maker = c.make_keeper.ensures.maker;
  made = one_more_keeper _ _ _ _ _ c.loop-group.invariant.made c.in_ok-push.ensures.items c.make_keeper.ensures.keeper;
}
