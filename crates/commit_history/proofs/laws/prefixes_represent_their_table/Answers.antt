use Rattle.std.proofs.Common.{◌≡◌, sym, ◌∙◌}
use Rattle.commit_history.proofs.Encoded.{first}
use Rattle.commit_history.proofs.laws.prefixes_represent_their_table.Goals as goal

pub returns : goal.returns
returns c = λ g t v layouts last base image said commits count is carries front groups.
    let p = first g t v layouts last base commits count c.images_carry_changes.ensures.encoded c.images_carry_changes.ensures.one_group is carries in (
      p.0.table,
      p.0.layouts_of,
      p.0.before,
      p.0.after,
      c.encoded_images_represent_their_table.ensures.replayed g p.0.table p.0.layouts_of _ image said front p.1.can (groups ∙ sym p.1.same),
    )
