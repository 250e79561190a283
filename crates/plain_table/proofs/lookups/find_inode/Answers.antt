use Rattle.std.proofs.Common.{◌≡◌, ◌%◌, sym, ◌∙◌, ap, Some, slice_get, arith}
use Rattle.std.proofs.lemmas.Grind.{common_steps}
use Rattle.std.proofs.lemmas.Option.{gets}
use Rattle.life_table.specs.declared.table.Chunk.{Chunk}
use Rattle.plain_table.proofs.Chunks.{inode_in-absent, inode_in-first}
use Rattle.plain_table.proofs.lookups.find_inode.Goals as goal

pub returns-in-None : goal.returns-in-None
returns-in-None c = sym (inode_in-absent c.args.group.now c.args.agino c.in-None.ensures.none)

pub returns-in-Some : goal.returns-in-Some
returns-in-Some c =
    let at : slice_get c.args.group.now c.in-Some.place ≡ Some c.index-group-place.result = grind (arith, common_steps, gets) in
    c.inode_at.ensures ∙ ap (λ s. slice_get s (c.args.agino % 64)) c.as_slice.ensures
    ∙ ap (λ (chunk : Chunk). slice_get chunk.inodes (c.args.agino % 64)) (sym c.index-group-place.is)
    ∙ sym (inode_in-first c.args.group.now c.args.agino c.in-Some.place c.index-group-place.result at c.in-Some.ensures.found)
