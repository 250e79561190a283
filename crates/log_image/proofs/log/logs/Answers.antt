use Rattle.log_image.proofs.First.{first_stays}
use Rattle.log_image.proofs.Homes.{image-unique, image_empty, zeros_below}
use Rattle.log_image.proofs.RingLogs.{ends_with}
use Rattle.log_image.proofs.Written.{image_bounds}
use Rattle.log_image.proofs.log.logs.Goals as goal

pub returns-clause-one : goal.returns-clause-one
returns-clause-one c =
    image-unique (record { one = c.whole_records.ensures.one; places = c.whole_records.ensures.places; stamped = c.whole_records.ensures.stamped; counted = c.whole_records.ensures.counted })

pub returns-clause-bounds : goal.returns-clause-bounds
returns-clause-bounds c = image_bounds

pub returns-clause-empty : goal.returns-clause-empty
returns-clause-empty c =
    image_empty (record { one = c.whole_records.ensures.one; places = c.whole_records.ensures.places; stamped = c.whole_records.ensures.stamped; counted = c.whole_records.ensures.counted })

pub returns-clause-zeros : goal.returns-clause-zeros
returns-clause-zeros c = zeros_below

pub returns-clause-last : goal.returns-clause-last
returns-clause-last c =
    ends_with (record { one = c.whole_records.ensures.one; places = c.whole_records.ensures.places; stamped = c.whole_records.ensures.stamped; counted = c.whole_records.ensures.counted })

pub returns-clause-first : goal.returns-clause-first
returns-clause-first c = first_stays
