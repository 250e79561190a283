use Rattle.std.proofs.Common.{◌≡◌, List, take}
use Rattle.life_bytes.specs.declared.sector.Sector.{Sector}
use Rattle.life_table.specs.declared.table.Table.{Table}
use Rattle.life_table.specs.History.{closed}
use Rattle.log_store.specs.State.{state_of}
use Rattle.log_store.specs.Steps.{IsStore}
use Rattle.sound_image.specs.Encoding.{Layouts}
use Rattle.orphan_frees.specs.Order.{keys_of_group}
use Rattle.orphan_frees.specs.Steps.{FreesInGroup, IsGroupIn}
use Rattle.orphan_frees.proofs.frees.free_group.Given as goal

abbrev pub invariant-loop-i : goal.invariant-loop-i
invariant-loop-i g l = record {
  frees : (t : Table) (layouts : Layouts) (sectors : List Sector) → IsGroupIn l.fn.group t layouts sectors → closed t ≡ t
      → FreesInGroup l.fn.group t layouts (take l.i (keys_of_group t layouts l.fn.group.group)) l.fn.store.queue.items l.store.queue.items l.fn.entries.items l.entries.items l.group;
  store : IsStore g.D.Disk.known g.D.Disk.cells g.D.Disk.sector_count l.store;
  state : state_of l.store ≡ record (state_of l.fn.store) { list = l.store.queue.items };
  disk : l.store.disk ≡ l.fn.store.disk;
  job : l.store.job ≡ l.fn.store.job;
}
