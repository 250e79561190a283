use Rattle.sound_image.proofs.Alone.{encoded_alike, layouts_alike, rows_alike, sound_alike}
use Rattle.sound_image.proofs.Ready.{Lower}
use Rattle.sound_image.proofs.laws.groups_stand_alone.Goals as goal

-- the laws below, as they were called
lower : goal.After-numbers_hold_their_bits → Lower
lower c = record {
  cores = c.encoded_cores_are_read.ensures;
  headers = c.encoded_headers_are_read.ensures;
  pages = c.encoded_pages_are_read.ensures;
  forks = c.encoded_forks_are_read.ensures;
  bits = c.numbers_hold_their_bits.ensures;
}

pub returns-clause-sound : goal.returns-clause-sound
returns-clause-sound c = sound_alike (lower c)

pub returns-clause-rows : goal.returns-clause-rows
returns-clause-rows c = rows_alike (lower c)

pub returns-clause-encoded : goal.returns-clause-encoded
returns-clause-encoded c = encoded_alike

pub returns-clause-layouts : goal.returns-clause-layouts
returns-clause-layouts c = layouts_alike
