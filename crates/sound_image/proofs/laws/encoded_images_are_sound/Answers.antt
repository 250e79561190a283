use Rattle.sound_image.proofs.Ready.{Lower}
use Rattle.sound_image.proofs.Rows.{rows_are}
use Rattle.sound_image.proofs.Whole.{sound}
use Rattle.sound_image.proofs.laws.encoded_images_are_sound.Goals as goal

-- the laws below, as they were called
lower : goal.After-numbers_hold_their_bits → Lower
lower c = record {
  cores = c.encoded_cores_are_read.ensures;
  headers = c.encoded_headers_are_read.ensures;
  pages = c.encoded_pages_are_read.ensures;
  forks = c.encoded_forks_are_read.ensures;
  bits = c.numbers_hold_their_bits.ensures;
}

pub returns-clause-sound : goal.returns-clause-sound
returns-clause-sound c = sound (lower c)

pub returns-clause-rows : goal.returns-clause-rows
returns-clause-rows c = rows_are (lower c)
