use Rattle.std.proofs.Common.{◌≡◌, ◌<◌, ℕ, IsTrue, List}
use Rattle.life_bytes.specs.declared.sector.Sector.{Sector}
use Rattle.life_table.specs.declared.table.Table.{Table}
use Rattle.sound_image.specs.Encoding.{CanEncode, Layouts, encoded}
use Rattle.mount.specs.Kept.{Agrees, HasGroup}
use Rattle.mount.proofs.keeping.keep_groups.Given as goal

abbrev pub invariant-loop-group : goal.invariant-loop-group
invariant-loop-group g l = record {
  read : g.V.View.only_read l.fn.view l.view;
  agrees : IsTrue g.V.View.known → Agrees (g.V.View.image l.fn.view) l.kept;
  has : IsTrue g.V.View.known → (t : Table) (layouts : Layouts) (rest : List Sector) → CanEncode l.g t layouts rest → g.V.View.image l.fn.view ≡ encoded l.g t layouts rest
      → (group : ℕ) → group < l.group → HasGroup l.g t layouts l.kept group;
}
