use Rattle.log_image.proofs.Damages.{one_damage, right_log}
use Rattle.log_image.proofs.damage.log_damages.Goals as goal

pub returns-clause-one : goal.returns-clause-one
returns-clause-one c = one_damage

pub returns-clause-none : goal.returns-clause-none
returns-clause-none c =
    right_log (record { one = c.whole_records.ensures.one; places = c.whole_records.ensures.places; stamped = c.whole_records.ensures.stamped; counted = c.whole_records.ensures.counted })
