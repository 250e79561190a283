use Rattle.std.proofs.Common.{ℕ, length, ap, arith, rules}
use Rattle.life_bytes.specs.TableLaws.{bytes_of_zero_sector}
use Rattle.ag_header.proofs.HeadBytes.{length-bytes_of}
use Rattle.ag_header.proofs.Encoded.{put_in_turn}
use Rattle.ag_header.proofs.writing.with_fields.Goals as goal

pub returns-clause-bytes : goal.returns-clause-bytes
returns-clause-bytes c =
    put_in_turn c.args.agi.now _ c.bytes_of.result _ _ _ _ _ _ _ _ _ _ _ _ (omega (arith, ap (length {A = ℕ}) c.bytes_of.ensures.bytes, length-bytes_of c.args.agi.now.heads, c.bytes_of.ensures.many)) (search rules) (bytes_of_zero_sector c.zero-sector.result c.zero-sector.ensures)
    c.put_u32.ensures c.put_u32-2.ensures c.put_u32-3.ensures c.put_u32-4.ensures c.put_u32-5.ensures c.put_u32-6.ensures c.put_u32-7.ensures
    c.put_u32-8.ensures c.put_u32-9.ensures c.put_u32-10.ensures c.bytes_of.ensures.bytes c.put_bytes.ensures c.put_bytes-2.ensures

pub returns-clause-fits : goal.returns-clause-fits
returns-clause-fits c = record {
  group = omega arith;
  blocks = omega arith;
  count = omega arith;
  free = omega arith;
  heads = c.bytes_of.ensures.many;
  each_head = c.bytes_of.ensures.small;
  uuid = search rules;
}
