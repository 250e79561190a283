use Rattle.whole_image.proofs.Standing.{one_table}
use Rattle.whole_image.proofs.laws.images_represent_one_table.Goals as goal

pub returns : goal.returns
returns c = one_table (record { tell = c.superblocks_tell_geometries.ensures; one_log = c.logs.ensures.one; one_record = c.whole_records.ensures.one })
