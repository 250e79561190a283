use Rattle.std.proofs.Common.{ap, sym, ◌∙◌, [], get_or}
use Rattle.log_record.specs.declared.image.Image.{Image}
use Rattle.log_batch.specs.Put.{put}
use Rattle.log_batch.specs.NewestLaws.{put_more}
use Rattle.recovery.proofs.homes.HomeImages.put_all.Goals as goal

pub loop-image-preserved : goal.loop-image-preserved
loop-image-preserved c =
    let none : Image = record { home = 0; sector = record { bytes = [] } } in
    let i = c.loop-image.image-index in
    let image = get_or c.args.images.now i none in
    c.in_ok-put.ensures.ok ∙ ap (put image) c.loop-image.invariant
    ∙ sym (put_more c.args.images.now i none c.args.self.now c.loop-image-test.true)
