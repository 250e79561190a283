use Rattle.std.proofs.Common.{ap, ◌∙◌, ◌≡◌, ◌<◌, ◌+◌, List, Bool, true, false, cond, ℕ, length, set, arith}
use Rattle.free_map.specs.Blocks.{is_block_free}
use Rattle.free_map.specs.Words.{map_blocks}
use Rattle.free_map.proofs.Maps.{kept-set, blocks_of-set, count_below, length-blocks_of}
use Rattle.free_map.proofs.map.FreeMap.give.Goals as goal

pub set_bit-requires : goal.set_bit-requires
set_bit-requires c = omega (arith, c.requires.below, ap length c.self.view_is, length-blocks_of c.self.inside.words c.self.inside.blocks, c.self.invariant.few, c.self.invariant.whole)

pub overflow_add-self : goal.overflow_add-self
overflow_add-self c =
    let m : List Bool = map_blocks c.self.inside.words c.self.inside.blocks in
    let taken : is_block_free m c.args.block ≡ false = ap (λ (m : List Bool). is_block_free m c.args.block) c.self.view_is ∙ c.requires.taken in
    let long = length-blocks_of c.self.inside.words c.self.inside.blocks in
    omega (arith, count_below m c.args.block (omega (arith, c.requires.below, ap length c.self.view_is)) taken, long, c.self.invariant.count, c.self.invariant.few)

pub invariant_of-self : goal.invariant_of-self
invariant_of-self c =
    let m : List Bool = map_blocks c.self.inside.words c.self.inside.blocks in
    let taken : is_block_free m c.args.block ≡ false = ap (λ (m : List Bool). is_block_free m c.args.block) c.self.view_is ∙ c.requires.taken in
    let below : c.args.block < c.self.inside.blocks = omega (arith, c.requires.below, ap length c.self.view_is, length-blocks_of c.self.inside.words c.self.inside.blocks) in
    kept-set c.self.inside.words c.set_bit.new.words c.self.inside.blocks c.self.inside.free (c.self.inside.free + 1) c.args.block true c.self.invariant c.set_bit.auto.words below
    c.set_bit.ensures.here c.set_bit.ensures.others (omega (arith, ap {B = ℕ} (λ (t : Bool). cond t 1 0) taken))

pub returns : goal.returns
returns c =
    let below : c.args.block < c.self.inside.blocks = omega (arith, c.requires.below, ap length c.self.view_is, length-blocks_of c.self.inside.words c.self.inside.blocks) in
    blocks_of-set c.self.inside.words c.set_bit.new.words c.self.inside.blocks c.args.block true below c.set_bit.ensures.here c.set_bit.ensures.others
    ∙ ap (λ (m : List Bool). set m c.args.block true) c.self.view_is
