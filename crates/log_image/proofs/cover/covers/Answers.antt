use Rattle.log_image.specs.Log.{groups_part}
use Rattle.log_image.specs.OverlayLaws.{overlaid-none}
use Rattle.log_image.proofs.Written.{torn_or_covered, whole_cover, cover_below}
use Rattle.log_image.proofs.cover.covers.Goals as goal

pub returns-clause-torn : goal.returns-clause-torn
returns-clause-torn c =
    torn_or_covered (record { one = c.whole_records.ensures.one; places = c.whole_records.ensures.places; stamped = c.whole_records.ensures.stamped; counted = c.whole_records.ensures.counted })

pub returns-clause-whole : goal.returns-clause-whole
returns-clause-whole c =
    whole_cover (record { one = c.whole_records.ensures.one; places = c.whole_records.ensures.places; stamped = c.whole_records.ensures.stamped; counted = c.whole_records.ensures.counted })

pub returns-clause-below : goal.returns-clause-below
returns-clause-below c = cover_below

pub returns-clause-replayed : goal.returns-clause-replayed
returns-clause-replayed c anchor image log = overlaid-none (groups_part anchor image)
