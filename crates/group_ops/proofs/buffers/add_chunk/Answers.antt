use Rattle.std.proofs.Common.{◌≡◌, rules, arith, ◌∙◌}
use Rattle.std.specs.List.{insert}
use Rattle.group_ops.proofs.Setting.{insert_place}
use Rattle.group_ops.proofs.buffers.add_chunk.Goals as goal

pub returns-clause-added : goal.returns-clause-added
returns-clause-added c =
    let count = rw c.as_slice.ensures.value at c.count_up_to-place.ensures in
    let inserted : c.insert.new.self.items ≡ insert c.args.chunks.now.items c.count_up_to-place.result c.args.new = search rules in
    let own = c.start.ensures.own in
    inserted
    ∙ insert_place c.args.new c.args.chunks.now.items c.count_up_to-place.result c.args.new count.within (λ k h. omega (arith, count.before k c.args.new h, own))
    (λ k l h. omega (arith, count.after k c.args.new l h, own))
