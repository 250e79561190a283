use Rattle.mount.proofs.Clean.{is_of_a_table}
use Rattle.mount.proofs.laws.sound_images_are_of_tables.Goals as goal

pub returns : goal.returns
returns c image sound =
    let is = c.sound_images_represent_a_table.ensures.represents image sound in
    is_of_a_table c.sound_images_are_encoded.ensures image is.0 is.1 is.2
