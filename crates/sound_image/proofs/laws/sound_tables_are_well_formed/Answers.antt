use Rattle.sound_image.proofs.Ready.{Lower}
use Rattle.sound_image.proofs.Tables.{table_right}
use Rattle.sound_image.proofs.NoOpens.{no_opens}
use Rattle.sound_image.proofs.laws.sound_tables_are_well_formed.Goals as goal

-- the laws below, as they were called
lower : goal.After-numbers_hold_their_bits → Lower
lower c = record {
  cores = c.encoded_cores_are_read.ensures;
  headers = c.encoded_headers_are_read.ensures;
  pages = c.encoded_pages_are_read.ensures;
  forks = c.encoded_forks_are_read.ensures;
  bits = c.numbers_hold_their_bits.ensures;
}

pub returns-clause-well_formed : goal.returns-clause-well_formed
returns-clause-well_formed c = table_right (lower c)

pub returns-clause-no_opens : goal.returns-clause-no_opens
returns-clause-no_opens c = no_opens
