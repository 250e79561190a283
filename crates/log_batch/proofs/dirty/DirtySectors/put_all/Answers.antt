use Rattle.std.proofs.Common.{ap, sym, ◌∙◌, [], get_or, arith}
use Rattle.log_record.specs.declared.image.Image.{Image}
use Rattle.log_batch.specs.Put.{put}
use Rattle.log_batch.specs.NewestLaws.{put_more}
use Rattle.log_batch.proofs.dirty.DirtySectors.put_all.Goals as goal

pub loop-image-preserved : goal.loop-image-preserved
loop-image-preserved c =
    let none : Image = record { home = 0; sector = record { bytes = [] } } in
    let i = c.loop-image.image-index in
    let image = get_or c.args.images.now i none in record {
      images = c.put.ensures.images ∙ ap (put image) c.loop-image.invariant.images
          ∙ sym (put_more c.args.images.now i none c.args.self.now.images c.loop-image-test.true);
      room = omega (arith, c.put.ensures.room, c.loop-image.invariant.room);
    }
