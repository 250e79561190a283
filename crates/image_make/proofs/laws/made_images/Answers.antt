use Rattle.image_make.proofs.Finished.{stands}
use Rattle.image_make.proofs.laws.made_images.Goals as goal

pub returns-clause-finished : goal.returns-clause-finished
returns-clause-finished c = stands c.tables_stay_well_formed.ensures.empty c.encoded_images_represent_their_table.ensures.empty c.groups_stand_alone.ensures.layouts
