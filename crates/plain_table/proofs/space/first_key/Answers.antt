use Rattle.std.proofs.Common.{◌≡◌, ◌+◌, ◌≤◌, true, false, Some, slice_get, length, sym, ap, ◌∙◌, arith}
use Rattle.std.proofs.lemmas.Grind.{common_steps}
use Rattle.std.proofs.lemmas.Option.{gets}
use Rattle.life_table.specs.Space.{is_free}
use Rattle.plain_table.proofs.Spaces.{first_key-here, first_key-step, keys_from-past}
use Rattle.plain_table.proofs.space.first_key.Goals as goal

pub returns-then-inode_is_free : goal.returns-then-inode_is_free
returns-then-inode_is_free c =
    let at : slice_get c.args.inodes.now c.loop-place.place ≡ Some c.index-inodes-place.result = grind (arith, common_steps, gets) in
    let free : is_free c.index-inodes-place.result ≡ true = sym c.inode_is_free.ensures ∙ c.if-inode_is_free.true in
    sym (first_key-here (c.args.number + c.loop-place.place) c.loop-place.place c.args.inodes.now c.index-inodes-place.result at free) ∙ ap (λ keys. slice_get keys 0) c.loop-place.invariant

pub loop-place-preserved : goal.loop-place-preserved
loop-place-preserved c =
    let at : slice_get c.args.inodes.now c.loop-place.place ≡ Some c.index-inodes-place.result = grind (arith, common_steps, gets) in
    let busy : is_free c.index-inodes-place.result ≡ false = sym c.inode_is_free.ensures ∙ c.if-inode_is_free.false in
    sym (first_key-step c.args.number c.loop-place.place c.args.inodes.now c.index-inodes-place.result at busy) ∙ c.loop-place.invariant

pub returns : goal.returns
returns c =
    let high : length c.args.inodes.now ≤ c.loop-place.place = omega arith in
    ap (λ keys. slice_get keys 0) (sym (keys_from-past (c.args.number + c.loop-place.place) c.loop-place.place c.args.inodes.now high) ∙ c.loop-place.invariant)
