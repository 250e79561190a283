use Rattle.sound_image.proofs.Damages.{one, none}
use Rattle.sound_image.proofs.laws.one_first_damage.Goals as goal

pub returns-clause-one : goal.returns-clause-one
returns-clause-one c = one

pub returns-clause-none : goal.returns-clause-none
returns-clause-none c = none
