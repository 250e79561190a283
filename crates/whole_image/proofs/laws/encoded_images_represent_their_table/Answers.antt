use Rattle.whole_image.proofs.Unique.{Lower}
use Rattle.whole_image.proofs.Standing.{Encodings, replays, unlogged}
use Rattle.whole_image.proofs.laws.encoded_images_represent_their_table.Goals as goal

lower : goal.After-encoded_images_are_sound → Lower
lower c = record { tell = c.superblocks_tell_geometries.ensures; one_log = c.logs.ensures.one; one_record = c.whole_records.ensures.one }

encodings : goal.After-encoded_images_are_sound → Encodings
encodings c = record { sound = c.encoded_images_are_sound.ensures.sound; rows = c.encoded_images_are_sound.ensures.rows }

pub returns-clause-replayed : goal.returns-clause-replayed
returns-clause-replayed c = replays (lower c) (encodings c)

pub returns-clause-empty : goal.returns-clause-empty
returns-clause-empty c = unlogged (lower c) (encodings c) c.logs.ensures.empty c.overlays.ensures.none
