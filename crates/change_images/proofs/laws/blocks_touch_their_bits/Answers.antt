use Rattle.change_images.proofs.Events.{with_blocks}
use Rattle.change_images.proofs.laws.blocks_touch_their_bits.Goals as goal

pub returns : goal.returns
returns c = λ g t layouts image group agino old new parts.
    with_blocks g t layouts image group agino old new parts c.places_have_their_metadata.ensures.place c.inodes_touch_themselves.ensures
    c.bitmaps_touch_their_part.ensures
