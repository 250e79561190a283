use Rattle.sound_image.proofs.Ready.{Lower}
use Rattle.sound_image.proofs.Again.{encoded_again}
use Rattle.sound_image.proofs.laws.sound_images_are_encoded.Goals as goal

-- the laws below, as they were called
lower : goal.After-numbers_hold_their_bits → Lower
lower c = record {
  cores = c.encoded_cores_are_read.ensures;
  headers = c.encoded_headers_are_read.ensures;
  pages = c.encoded_pages_are_read.ensures;
  forks = c.encoded_forks_are_read.ensures;
  bits = c.numbers_hold_their_bits.ensures;
}

pub returns : goal.returns
returns c = encoded_again (lower c)
