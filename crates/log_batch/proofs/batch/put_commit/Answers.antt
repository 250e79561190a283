use Rattle.std.proofs.Common.{◌≡◌, [], map, length, get_or, ap, sym, ◌∙◌, subst, arith}
use Rattle.log_record.specs.declared.image.Image.{Image}
use Rattle.log_batch.specs.declared.find.Pick.{Pick}
use Rattle.log_batch.specs.Picks.{ArePicks, picked_image}
use Rattle.log_batch.specs.Put.{put, put_by}
use Rattle.log_batch.specs.PutLaws.{length-put}
use Rattle.log_batch.specs.NewestLaws.{put_more}
use Rattle.log_batch.proofs.Picks.{names, put_one}
use Rattle.log_batch.proofs.batch.put_commit.Goals as goal

pub loop-i-preserved : goal.loop-i-preserved
loop-i-preserved c =
    let none : Image = record { home = 0; sector = record { bytes = [] } } in
    let commits = c.args.commits.now.items in
    let images = c.as_slice-images.result.now in
    let pick : Pick = record { home = (get_or images c.loop-i.i none).home; commit = c.args.at; image = c.loop-i.i } in
    let named = names commits c.args.at c.loop-i.i c.index.result.now images none c.requires.within c.index.ensures c.as_slice-images.ensures c.loop-i-test.true in
    let one = put_one commits c.loop-i.picks.items pick c.loop-i.invariant.picks named.0 in
    let is : c.put_pick.new.picks.items ≡ put_by (λ p. p.home) pick c.loop-i.picks.items = c.put_pick.ensures.put in
    let sizes = length-put (λ (p : Pick). p.home) pick c.loop-i.picks.items in
    let size = ap length is in record {
      picks = subst (ArePicks commits) (sym is) one.0;
      put = ap (map (picked_image commits)) is ∙ one.1
          ∙ ap (λ (m : Image). put m (map (picked_image commits) c.loop-i.picks.items)) named.1
          ∙ ap (put (get_or images c.loop-i.i none)) c.loop-i.invariant.put
          ∙ sym (put_more images c.loop-i.i none (map (picked_image commits) c.args.picks.now.items) c.loop-i-test.true);
      size = omega (arith, sizes.1);
      capacity = c.put_pick.ensures.capacity ∙ c.loop-i.invariant.capacity;
    }
