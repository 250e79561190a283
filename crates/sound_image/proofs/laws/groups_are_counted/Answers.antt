use Rattle.sound_image.proofs.Counting.{counted, chunks_counted}
use Rattle.sound_image.proofs.Ready.{Lower}
use Rattle.sound_image.proofs.laws.groups_are_counted.Goals as goal

-- the laws below, as they were called
lower : goal.After-numbers_hold_their_bits → Lower
lower c = record {
  cores = c.encoded_cores_are_read.ensures;
  headers = c.encoded_headers_are_read.ensures;
  pages = c.encoded_pages_are_read.ensures;
  forks = c.encoded_forks_are_read.ensures;
  bits = c.numbers_hold_their_bits.ensures;
}

pub returns-clause-chunks : goal.returns-clause-chunks
returns-clause-chunks c = chunks_counted

pub returns-clause-inodes : goal.returns-clause-inodes
returns-clause-inodes c = counted (lower c)
