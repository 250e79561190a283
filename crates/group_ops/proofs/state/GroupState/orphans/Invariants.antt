use Rattle.std.proofs.Common.{◌≡◌}
use Rattle.std.specs.List.{flat_map, range_with_len}
use Rattle.life_table.specs.declared.table.Table.{Table}
use Rattle.life_table.specs.Table.{group_at}
use Rattle.sound_image.specs.Encoding.{Layouts}
use Rattle.group_ops.specs.Orphans.{bucket_keys}
use Rattle.group_ops.specs.Represents.{IsGroupOf}
use Rattle.group_ops.proofs.state.GroupState.orphans.Given as goal

abbrev pub invariant-loop-bucket : goal.invariant-loop-bucket
invariant-loop-bucket l =
    (t : Table) (layouts : Layouts) → IsGroupOf l.self t layouts → l.keys.items ≡ flat_map (bucket_keys layouts l.self.group (group_at t l.self.group)) (range_with_len 0 l.bucket)
