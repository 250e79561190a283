use Rattle.std.proofs.Common.{◌≡◌, List, length}
use Rattle.geometry.specs.declared.shape.Geometry.{Geometry}
use Rattle.life_bytes.specs.declared.sector.Sector.{Sector}
use Rattle.life_table.specs.declared.table.Table.{Table}
use Rattle.log_store.specs.State.{state_of}
use Rattle.log_store.specs.Steps.{IsStore}
use Rattle.sound_image.specs.Encoding.{Layouts}
use Rattle.orphan_frees.specs.Steps.{AreUnheld, FreesInGroups}
use Rattle.orphan_frees.proofs.Groups.{keys_before}
use Rattle.orphan_frees.proofs.frees.free_orphans.Given as goal

abbrev pub invariant-loop-index : goal.invariant-loop-index
invariant-loop-index g l = record {
  frees : (h : Geometry) (t : Table) (layouts : Layouts) (sectors : List Sector) → AreUnheld h t layouts sectors l.fn.groups.items
      → FreesInGroups h t layouts (keys_before t layouts l.index) l.fn.store.queue.items l.store.queue.items l.fn.entries.items l.entries.items l.groups.items;
  count : length l.groups.items ≡ length l.fn.groups.items;
  store : IsStore g.D.Disk.known g.D.Disk.cells g.D.Disk.sector_count l.store;
  state : state_of l.store ≡ record (state_of l.fn.store) { list = l.store.queue.items };
  disk : l.store.disk ≡ l.fn.store.disk;
  job : l.store.job ≡ l.fn.store.job;
}
