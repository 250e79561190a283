use Rattle.std.proofs.Common.{◌∙◌}
use Rattle.version_table.proofs.Calls.{one_more_reader}
use Rattle.version_table.proofs.make.make_readers.Goals as goal

pub loop-reader-preserved : goal.loop-reader-preserved
loop-reader-preserved c = record {
  name = c.make_reader.ensures.stays.0 ∙ c.loop-reader.invariant.name;
  me = c.make_reader.ensures.stays.1 ∙ c.loop-reader.invariant.me;
  made = one_more_reader _ _ _ _ _ c.loop-reader.invariant.made c.in_ok-push.ensures.items c.in_ok-reader.ensures.reader;
}
