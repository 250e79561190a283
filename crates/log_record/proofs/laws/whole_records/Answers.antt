use Rattle.log_record.proofs.WholeLaws.{whole-unique, whole_from_encoded, whole-same_places, whole_field, first-counts}
use Rattle.log_record.proofs.laws.whole_records.Goals as goal

pub returns-clause-one : goal.returns-clause-one
returns-clause-one c = whole-unique

pub returns-clause-written : goal.returns-clause-written
returns-clause-written c = whole_from_encoded

pub returns-clause-places : goal.returns-clause-places
returns-clause-places c = whole-same_places

pub returns-clause-stamped : goal.returns-clause-stamped
returns-clause-stamped c = whole_field

pub returns-clause-counted : goal.returns-clause-counted
returns-clause-counted c = first-counts
