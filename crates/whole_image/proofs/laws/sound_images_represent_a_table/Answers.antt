use Rattle.whole_image.proofs.Unique.{Lower}
use Rattle.whole_image.proofs.Standing.{made, stand, well_formed, unheld}
use Rattle.whole_image.proofs.laws.sound_images_represent_a_table.Goals as goal

lower : goal.After-sound_tables_are_well_formed → Lower
lower c = record { tell = c.superblocks_tell_geometries.ensures; one_log = c.logs.ensures.one; one_record = c.whole_records.ensures.one }

pub returns-clause-represents : goal.returns-clause-represents
returns-clause-represents c = stand (lower c)

pub returns-clause-made : goal.returns-clause-made
returns-clause-made c = made (lower c)

pub returns-clause-well_formed : goal.returns-clause-well_formed
returns-clause-well_formed c = well_formed c.sound_tables_are_well_formed.ensures.well_formed

pub returns-clause-no_opens : goal.returns-clause-no_opens
returns-clause-no_opens c = unheld c.sound_tables_are_well_formed.ensures.no_opens
