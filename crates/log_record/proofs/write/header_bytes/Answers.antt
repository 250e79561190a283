use Rattle.std.proofs.Common.{ℕ, List, ap, ◌∙◌}
use Rattle.life_bytes.specs.Fields.{with_field}
use Rattle.log_record.specs.Encoding.{sector_count}
use Rattle.log_record.proofs.Encoded.{header_is}
use Rattle.log_record.proofs.write.header_bytes.Goals as goal

pub returns : goal.returns
returns c =
    c.put_u32-3.ensures ∙ ap (λ (k : ℕ). with_field 4 24 k c.put_u32-2.new.bytes) c.record_sectors.ensures
    ∙ ap (λ (l : List ℕ). with_field 4 24 (sector_count c.args.images) l)
    (c.put_u32-2.ensures ∙ ap (λ (l : List ℕ). with_field 4 20 c.args.images l)
    (c.put_u32.ensures ∙ ap (λ (l : List ℕ). with_field 4 16 c.args.commits l)
    (c.put_u64-2.ensures ∙ ap (λ (l : List ℕ). with_field 8 8 c.args.first l) c.put_u64.ensures)))
    ∙ header_is c.args.tail c.args.first c.args.commits c.args.images
