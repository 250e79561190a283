use Rattle.sound_image.specs.Encoding.{header_for, bucket_list, layout_of, page_of, head_of}
use Rattle.image_make.proofs.empty.empty_header.Goals as goal

pub returns : goal.returns
unfolding header_for bucket_list layout_of page_of head_of
returns c = c.write_agi.ensures.sector
