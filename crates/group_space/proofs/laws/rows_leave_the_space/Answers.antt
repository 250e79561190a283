use Rattle.std.proofs.Common.{arith, sym, ◌∙◌}
use Rattle.group_space.proofs.Times.{used-set}
use Rattle.group_space.proofs.FreeSets.{kept_set}
use Rattle.group_space.proofs.Records.{kept_records}
use Rattle.life_table.specs.Table.{set_inode}
use Rattle.group_space.proofs.laws.rows_leave_the_space.Goals as goal

pub returns : goal.returns
returns c blocks chunks agino old new space is at same_use same_blocks = record {
  records = is.records ∙ sym (kept_records chunks agino old new at same_use);
  free = is.free ∙ kept_set blocks chunks (set_inode chunks agino new) (λ b. omega (arith, used-set b chunks agino old new at, same_blocks b));
}
