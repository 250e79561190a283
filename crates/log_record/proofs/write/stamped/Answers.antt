use Rattle.std.proofs.Common.{ℕ, List, ◌∙◌, ap}
use Rattle.life_bytes.specs.Fields.{with_field}
use Rattle.life_bytes.specs.declared.sector.Sector.{Sector}
use Rattle.log_record.proofs.Encoded.{stamped_is}
use Rattle.log_record.proofs.write.stamped.Goals as goal

pub returns : goal.returns
returns c =
    c.put_u64-2.ensures
    ∙ ap (λ (l : List ℕ). with_field 8 8 c.args.first l)
    (c.put_u64.ensures ∙ ap (λ (s : Sector). with_field 8 0 c.args.position s.bytes) c.zero-sector.ensures)
    ∙ stamped_is c.args.position c.args.first
