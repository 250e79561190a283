use Rattle.log_image.proofs.Written.{torn_record, whole_record, record_below, logged_groups}
use Rattle.log_image.proofs.torn.torn_records.Goals as goal

pub returns-clause-torn : goal.returns-clause-torn
returns-clause-torn c =
    torn_record (record { one = c.whole_records.ensures.one; places = c.whole_records.ensures.places; stamped = c.whole_records.ensures.stamped; counted = c.whole_records.ensures.counted })

pub returns-clause-whole : goal.returns-clause-whole
returns-clause-whole c =
    whole_record (record { one = c.whole_records.ensures.one; places = c.whole_records.ensures.places; stamped = c.whole_records.ensures.stamped; counted = c.whole_records.ensures.counted })

pub returns-clause-below : goal.returns-clause-below
returns-clause-below c = record_below

pub returns-clause-groups : goal.returns-clause-groups
returns-clause-groups c = logged_groups
