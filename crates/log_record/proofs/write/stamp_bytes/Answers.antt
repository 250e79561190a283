use Rattle.std.proofs.Common.{ℕ, List, ap, ◌∙◌}
use Rattle.life_bytes.specs.Fields.{with_field}
use Rattle.log_record.proofs.Encoded.{stamps_are}
use Rattle.log_record.proofs.write.stamp_bytes.Goals as goal

pub returns : goal.returns
returns c =
    c.put_u64-2.ensures ∙ ap (λ (l : List ℕ). with_field 8 8 c.args.first l) c.put_u64.ensures
    ∙ stamps_are c.args.position c.args.first
