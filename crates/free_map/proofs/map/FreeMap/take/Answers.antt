use Rattle.std.proofs.Common.{ap, ◌∙◌, ◌≡◌, ◌-◌, List, Bool, true, false, cond, ℕ, set, arith}
use Rattle.free_map.specs.Blocks.{is_block_free}
use Rattle.free_map.specs.Words.{map_blocks}
use Rattle.free_map.proofs.Maps.{free_below, kept-set, blocks_of-set, count_above, length-blocks_of}
use Rattle.free_map.proofs.map.FreeMap.take.Goals as goal

pub clear_bit-requires : goal.clear_bit-requires
clear_bit-requires c =
    let free : is_block_free (map_blocks c.self.inside.words c.self.inside.blocks) c.args.block ≡ true = ap (λ (m : List Bool). is_block_free m c.args.block) c.self.view_is ∙ c.requires in
    omega (arith, free_below c.self.inside.words c.self.inside.blocks c.args.block free, c.self.invariant.few, c.self.invariant.whole)

pub invariant_of-self : goal.invariant_of-self
invariant_of-self c =
    let m : List Bool = map_blocks c.self.inside.words c.self.inside.blocks in
    let free : is_block_free m c.args.block ≡ true = ap (λ (m : List Bool). is_block_free m c.args.block) c.self.view_is ∙ c.requires in
    let below = free_below c.self.inside.words c.self.inside.blocks c.args.block free in
    let some = count_above m c.args.block (omega (arith, below, length-blocks_of c.self.inside.words c.self.inside.blocks)) free in
    kept-set c.self.inside.words c.clear_bit.new.words c.self.inside.blocks c.self.inside.free (c.self.inside.free - 1) c.args.block false c.self.invariant c.clear_bit.auto.words below
    c.clear_bit.ensures.here c.clear_bit.ensures.others (omega (arith, some, c.self.invariant.count, ap {B = ℕ} (λ (t : Bool). cond t 1 0) free))

pub returns : goal.returns
returns c =
    let free : is_block_free (map_blocks c.self.inside.words c.self.inside.blocks) c.args.block ≡ true = ap (λ (m : List Bool). is_block_free m c.args.block) c.self.view_is ∙ c.requires in
    blocks_of-set c.self.inside.words c.clear_bit.new.words c.self.inside.blocks c.args.block false
    (free_below c.self.inside.words c.self.inside.blocks c.args.block free) c.clear_bit.ensures.here c.clear_bit.ensures.others
    ∙ ap (λ (m : List Bool). set m c.args.block false) c.self.view_is
