use Rattle.change_images.proofs.Events.{alone, put, taken_first, taken_later}
use Rattle.change_images.proofs.laws.links_touch_two_places.Goals as goal

pub returns-clause-alone : goal.returns-clause-alone
returns-clause-alone c = λ g t layouts image group agino old new.
    alone g t layouts image group agino old new c.places_have_their_metadata.ensures.place c.inodes_touch_themselves.ensures

pub returns-clause-put : goal.returns-clause-put
returns-clause-put c = λ g t layouts others image group agino old new.
    put g t layouts others image group agino old new c.places_have_their_metadata.ensures.place c.rows_touch_their_bucket.ensures.put

pub returns-clause-taken_first : goal.returns-clause-taken_first
returns-clause-taken_first c = λ g t layouts others image group agino old new.
    taken_first g t layouts others image group agino old new c.places_have_their_metadata.ensures.place c.rows_touch_their_bucket.ensures.taken
    c.buckets_touch_pointers.ensures.none_before

pub returns-clause-taken_later : goal.returns-clause-taken_later
returns-clause-taken_later c = λ g t layouts others image group agino prior old new other.
    taken_later g t layouts others image group agino prior old new other c.places_have_their_metadata.ensures.place c.rows_touch_their_bucket.ensures.taken
    c.buckets_touch_pointers.ensures.one_before c.buckets_touch_pointers.ensures.none_before
