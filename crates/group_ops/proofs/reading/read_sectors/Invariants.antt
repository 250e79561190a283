use Rattle.std.proofs.Common.{◌≡◌, IsTrue, length}
use Rattle.group_ops.specs.Loading.{Shows}
use Rattle.group_ops.proofs.reading.read_sectors.Given as goal

abbrev pub invariant-loop-index : goal.invariant-loop-index
invariant-loop-index g l = record {
  read : g.V.View.only_read l.fn.view l.view;
  many : length l.sectors.items ≡ l.index;
  shown : IsTrue g.V.View.known → Shows (g.V.View.image l.fn.view) l.at l.sectors.items;
}
