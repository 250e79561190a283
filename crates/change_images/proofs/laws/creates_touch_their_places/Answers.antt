use Rattle.change_images.proofs.Creates.{in_chunk, in_new_chunk}
use Rattle.change_images.proofs.laws.creates_touch_their_places.Goals as goal

pub returns-clause-in_chunk : goal.returns-clause-in_chunk
returns-clause-in_chunk c = λ g t layouts others image group key new.
    in_chunk g t layouts others image group key new c.places_have_their_metadata.ensures.place c.creates_touch_their_inode.ensures
    c.created_keys_are_free.ensures.group c.created_keys_are_free.ensures.inode

pub returns-clause-in_new_chunk : goal.returns-clause-in_new_chunk
returns-clause-in_new_chunk c = λ g t layouts others image group block key new.
    in_new_chunk g t layouts others image group block key new c.creates_touch_their_inode.ensures c.bitmaps_touch_their_part.ensures
    c.chunks_have_the_lowest_place.ensures.place c.created_keys_are_free.ensures.group c.created_keys_are_free.ensures.inode
