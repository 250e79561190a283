use Rattle.std.proofs.Common.{◌≡◌, ℕ, Some, length, slice_get}
use Rattle.geometry.specs.Places.{anchor_of}
use Rattle.life_table.specs.declared.table.Table.{Table}
use Rattle.sound_image.specs.Encoding.{Layouts}
use Rattle.commit_history.specs.Carried.{IsEncoding}
use Rattle.group_ops.specs.Values.{StateValue}
use Rattle.mount.specs.Kept.{kept_image, shown_by}
use Rattle.orphan_frees.specs.Loaded.{IsGroupAt}
use Rattle.mount.proofs.loading.load_all.Given as goal

abbrev pub invariant-loop-group : goal.invariant-loop-group
invariant-loop-group l = record {
  shown : shown_by l.view ≡ kept_image l.kept (anchor_of l.g);
  size : l.view.count ≡ anchor_of l.g;
  count : length l.groups.items ≡ l.group;
  each : (t : Table) (layouts : Layouts) → IsEncoding l.g t layouts (kept_image l.kept (anchor_of l.g))
      → (group : ℕ) (s : StateValue) → slice_get l.groups.items group ≡ Some s → IsGroupAt l.g t layouts group s;
}
