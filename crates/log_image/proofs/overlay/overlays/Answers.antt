use Rattle.std.proofs.Common.{◌∙◌, ap, List, ◌∷◌, [], ◌++◌}
use Rattle.std.proofs.lemmas.Grind.{flat_map-append}
use Rattle.log_record.specs.declared.image.Image.{Image}
use Rattle.log_record.specs.declared.record.LogRecord.{LogRecord}
use Rattle.log_image.specs.Log.{groups_part}
use Rattle.log_image.specs.Overlay.{images_of, overlaid}
use Rattle.log_image.specs.OverlayLaws.{length-overlaid, overlaid-none, overlaid-append, get_or-overlaid, newest-append, overlaid-newest, take-overlaid}
use Rattle.std.proofs.lemmas.List.{append-nil}
use Rattle.log_image.proofs.overlay.overlays.Goals as goal

pub returns-clause-length : goal.returns-clause-length
returns-clause-length c = length-overlaid

pub returns-clause-none : goal.returns-clause-none
returns-clause-none c = overlaid-none

pub returns-clause-append : goal.returns-clause-append
returns-clause-append c = overlaid-append

pub returns-clause-at : goal.returns-clause-at
returns-clause-at c = get_or-overlaid

pub returns-clause-newest_append : goal.returns-clause-newest_append
returns-clause-newest_append c = newest-append

pub returns-clause-newest : goal.returns-clause-newest
returns-clause-newest c = overlaid-newest

pub returns-clause-more : goal.returns-clause-more
returns-clause-more c anchor image records item =
    ap (λ (l : List Image). overlaid (groups_part anchor image) l)
    (flat_map-append (λ (r : LogRecord). r.images) records (item ∷ []) ∙ ap (λ (l : List Image). images_of records ++ l) (append-nil item.images))
    ∙ overlaid-append (groups_part anchor image) (images_of records) item.images

pub returns-clause-front : goal.returns-clause-front
returns-clause-front c = take-overlaid
