use Rattle.mount.proofs.Replays.{Before, Lower, is_recovered, still_same}
use Rattle.mount.proofs.laws.replays_keep_the_table.Goals as goal

pub returns-clause-left : goal.returns-clause-left
returns-clause-left c g old image found t number has log homes is left =
    let laws : Lower = record {
      made = c.sound_images_represent_a_table.ensures.made;
      one = c.images_represent_one_table.ensures;
      encodes = c.sound_images_are_encoded.ensures;
      sound = c.groups_stand_alone.ensures.sound;
      rows = c.groups_stand_alone.ensures.rows;
    } in
    let before : Before g old found t number = record { superblock = has; log = log; homes = homes; is = is } in
    still_same laws g old image found t number before left

pub returns-clause-recovered : goal.returns-clause-recovered
returns-clause-recovered c g old found t number start cells has log homes is left next anew =
    let laws : Lower = record {
      made = c.sound_images_represent_a_table.ensures.made;
      one = c.images_represent_one_table.ensures;
      encodes = c.sound_images_are_encoded.ensures;
      sound = c.groups_stand_alone.ensures.sound;
      rows = c.groups_stand_alone.ensures.rows;
    } in
    let before : Before g old found t number = record { superblock = has; log = log; homes = homes; is = is } in
    is_recovered laws g old found t number start cells before left next anew
