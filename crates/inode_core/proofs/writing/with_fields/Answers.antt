use Rattle.std.proofs.Common.{ℕ, ap, ◌∙◌, rules}
use Rattle.life_bytes.specs.TableLaws.{bytes_of_zero_sector}
use Rattle.life_bytes.specs.Fields.{with_field}
use Rattle.inode_core.proofs.Encoded.{put_in_turn}
use Rattle.inode_core.proofs.writing.with_fields.Goals as goal

pub returns : goal.returns
returns c =
    put_in_turn c.args.core.now c.args.number c.args.uuid.now _ _ _ _ _ _ _ _ _ _ _ _ _ (search rules) (bytes_of_zero_sector c.zero-sector.result c.zero-sector.ensures)
    c.put_u16.ensures
    (c.put_u16-2.ensures ∙ ap (λ (mode : ℕ). with_field 2 2 mode c.put_u16.new.bytes) c.mode_of.ensures) c.put_u8.ensures c.put_u8-2.ensures c.put_u32.ensures c.put_u64.ensures c.put_u64-2.ensures c.put_u32-2.ensures
    c.put_u32-3.ensures c.put_u32-4.ensures c.put_u64-3.ensures c.put_bytes.ensures
