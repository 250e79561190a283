use Rattle.std.proofs.Common.{◌≡◌, ℕ, false, eqb, ap, ◌∙◌}
use Rattle.life_table.specs.Table.{group_at, inode_in}
use Rattle.sound_image.specs.Encoding.{Layouts, is_unlinked}
use Rattle.group_ops.specs.Calls.{relisted}
use Rattle.group_ops.proofs.Making.{made_is}
use Rattle.group_ops.proofs.state.GroupState.made.Goals as goal

pub returns-clause-makes : goal.returns-clause-makes
returns-clause-makes c t layouts is out =
    let s = c.args.self.now in
    let agino : ℕ = c.agino_of-agino.result in
    let others : Layouts = relisted layouts s.group agino false (eqb c.args.links 0) in
    let free : is_unlinked (inode_in (group_at t s.group) agino) ≡ false = ap (λ (n : ℕ). is_unlinked (inode_in (group_at t s.group) n)) c.agino_of-agino.ensures.own ∙ out in
    record {
      inode = made_is others s.group agino c.args.key.generation c.args.links c.relink_made-relink.result.next c.made_core.result c.new.result c.made_core.ensures c.new.ensures
          (c.relink_made-relink.ensures.next t layouts is free);
      relinks = c.relink_made-relink.ensures.pointers t layouts is free;
      prior = c.relink_made-relink.ensures.prior;
    }
