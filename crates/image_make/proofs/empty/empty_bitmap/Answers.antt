use Rattle.std.proofs.Common.{◌∙◌, List, Bool, ap, arith}
use Rattle.free_map.specs.Bitmap.{bitmap}
use Rattle.sound_image.specs.Places.{part}
use Rattle.image_make.proofs.empty.empty_bitmap.Goals as goal

pub returns : goal.returns
returns c = λ k lt.
    c.hold_parts.ensures k (omega arith) ∙ ap (part k) c.write_map.ensures ∙ ap (λ (map : List Bool). part k (bitmap map)) c.empty_map.ensures
