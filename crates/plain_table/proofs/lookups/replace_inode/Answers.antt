use Rattle.std.proofs.Common.{◌≡◌, ◌%◌, sym, ◌∙◌, ap, Some, slice_get, slice_set, arith}
use Rattle.std.proofs.lemmas.Grind.{common_steps}
use Rattle.std.proofs.lemmas.Option.{gets}
use Rattle.plain_table.proofs.Chunks.{set_inode-absent, set_inode-first}
use Rattle.plain_table.proofs.lookups.replace_inode.Goals as goal

pub returns-in_default : goal.returns-in_default
returns-in_default c = c.in_ok-copy.ensures ∙ sym (set_inode-absent c.args.group.now c.args.agino c.args.inode c.in_default.ensures.none)

pub returns : goal.returns
returns c =
    let at : slice_get c.args.group.now c.in-Some.place ≡ Some c.index-group-place.result = grind (arith, common_steps, gets) in
    let inodes = c.from_vec.ensures ∙ c.in_ok-inodes_with.ensures ∙ ap (λ s. slice_set s (c.args.agino % 64) c.args.inode) c.as_slice.ensures in
    (λ i. slice_set (c.in_ok-copy.ensures i) c.in-Some.place (record { start = c.index-group-place.result.start; inodes = inodes i }))
    ∙ sym (set_inode-first c.args.group.now c.args.agino c.in-Some.place c.index-group-place.result c.args.inode at c.in-Some.ensures.found)
