-- The same images over the same sectors.
use Rattle.std.specs.Prelude.{◌≡◌, List}
use Rattle.std.specs.Borrow.{Bor}
use Rattle.std.proofs.Common.{ap, ◌∙◌}
use Rattle.disk_model.specs.Disk.{Cell, as_read}
use Rattle.log_image.specs.Overlay.{overlaid}
use Rattle.recovery.specs.declared.found.Found.{Found}

pub same_overlaid : (old new : List Cell) (before now : Bor Found) → now ≡ before → new ≡ old
    → overlaid (as_read new) now.now.images ≡ overlaid (as_read old) before.now.images
same_overlaid old new before now same stay =
    ap (λ (f : Bor Found). overlaid (as_read new) f.now.images) same ∙ ap (λ (c : List Cell). overlaid (as_read c) before.now.images) stay
