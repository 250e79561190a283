use Rattle.std.proofs.Common.{ap, sym, ◌∙◌, List, Bool}
use Rattle.std.proofs.lemmas.Bool.{le-ltb}
use Rattle.free_map.specs.Blocks.{is_block_free}
use Rattle.free_map.proofs.Maps.{is_free-blocks_of, is_free_past}
use Rattle.free_map.proofs.map.FreeMap.is_free.Goals as goal

pub returns-then-block-self : goal.returns-then-block-self
returns-then-block-self c =
    c.has_bit.ensures ∙ sym (is_free-blocks_of c.self.inside.words c.self.inside.blocks c.args.block c.if-block-self.true)
    ∙ ap (λ (m : List Bool). is_block_free m c.args.block) c.self.view_is

pub returns-else-block-self : goal.returns-else-block-self
returns-else-block-self c =
    le-ltb c.args.block c.self.inside.blocks c.if-block-self.false ∙ sym (is_free_past c.self.inside.words c.self.inside.blocks c.args.block c.if-block-self.false)
    ∙ ap (λ (m : List Bool). is_block_free m c.args.block) c.self.view_is
