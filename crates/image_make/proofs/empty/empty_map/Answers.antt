use Rattle.std.proofs.Common.{◌≡◌, ◌∙◌, ℕ, ap, arith, leb, ltb}
use Rattle.std.specs.Prelude.{◌&&◌}
use Rattle.image_make.proofs.Maps.{free_set_of, read_blank, none_below}
use Rattle.image_make.proofs.empty.empty_map.Goals as goal

pub loop-block-init : goal.loop-block-init
loop-block-init c =
    let read = read_blank c.args.blocks c.zero.result c.read_map-map.result c.zero.ensures c.read_map-map.ensures in
    record { long = read.0; each = λ b. read.1 b ∙ none_below b }

pub returns : goal.returns
returns c =
    let last : c.loop-block.block ≡ c.args.blocks = omega arith in
    free_set_of c.args.blocks c.loop-block.map c.loop-block.invariant.long (λ b. c.loop-block.invariant.each b ∙ ap (λ (n : ℕ). leb 24 b && ltb b n) last)
