use Rattle.std.proofs.Common.{◌≡◌, replicate}
use Rattle.version_table.specs.Ends.{new_reader}
use Rattle.version_table.proofs.make.make_readers.Given as goal

abbrev pub invariant-loop-reader : goal.invariant-loop-reader
invariant-loop-reader l = record {
  name : l.maker.table_id ≡ l.fn.maker.table_id;
  me : l.maker.me ≡ l.fn.maker.me;
  made : l.readers.items ≡ replicate l._reader (new_reader l.versions);
}
