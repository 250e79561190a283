use Rattle.std.proofs.Common.{◌≡◌, IsTrue, length}
use Rattle.group_ops.specs.Loading.{Shows}
use Rattle.mount.specs.Kept.{Grows, HasRun, StillAgrees}
use Rattle.mount.proofs.keeping.keep_sectors.Given as goal

abbrev pub invariant-loop-index : goal.invariant-loop-index
invariant-loop-index g l = record {
  read : g.V.View.only_read l.fn.view l.view;
  many : length l.sectors.items ≡ l.index;
  shown : IsTrue g.V.View.known → Shows (g.V.View.image l.fn.view) l.at l.sectors.items;
  agrees : IsTrue g.V.View.known → StillAgrees (g.V.View.image l.fn.view) l.fn.kept l.kept;
  has : HasRun l.kept l.at l.index;
  grows : Grows l.fn.kept l.kept;
}
