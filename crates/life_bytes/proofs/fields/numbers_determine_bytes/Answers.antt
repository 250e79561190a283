use Rattle.life_bytes.specs.FieldLaws.{field-injective, field-with_field}
use Rattle.life_bytes.proofs.fields.numbers_determine_bytes.Goals as goal

pub returns-clause-equal : goal.returns-clause-equal
returns-clause-equal c = field-injective

pub returns-clause-read : goal.returns-clause-read
returns-clause-read c = field-with_field
