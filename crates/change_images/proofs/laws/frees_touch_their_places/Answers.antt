use Rattle.change_images.proofs.Events.{freed_first, freed_later}
use Rattle.change_images.proofs.laws.frees_touch_their_places.Goals as goal

pub returns-clause-first : goal.returns-clause-first
returns-clause-first c = λ g t layouts others image group agino old new parts.
    freed_first g t layouts others image group agino old new parts c.places_have_their_metadata.ensures.place c.rows_touch_their_bucket.ensures.taken
    c.bitmaps_touch_their_part.ensures c.buckets_touch_pointers.ensures.none_before

pub returns-clause-later : goal.returns-clause-later
returns-clause-later c = λ g t layouts others image group agino prior old new other parts.
    freed_later g t layouts others image group agino prior old new other parts c.places_have_their_metadata.ensures.place c.rows_touch_their_bucket.ensures.taken
    c.bitmaps_touch_their_part.ensures c.buckets_touch_pointers.ensures.one_before c.buckets_touch_pointers.ensures.none_before
