use Rattle.std.proofs.Common.{ap, ◌∙◌}
use Rattle.free_map.specs.Bitmap.{bitmap}
use Rattle.free_map.proofs.Bitmaps.{bitmap_of_words}
use Rattle.free_map.proofs.map.FreeMap.write_map.Goals as goal

pub returns : goal.returns
returns c = c.store.ensures ∙ bitmap_of_words c.self.inside.words c.self.inside.blocks c.self.inside.free c.self.invariant ∙ ap bitmap c.self.view_is
