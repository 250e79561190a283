use Rattle.std.proofs.Common.{◌≡◌, ◌+◌, [], length, map, take, ap, sym, ◌∙◌, subst, arith}
use Rattle.std.proofs.lemmas.List.{length-map}
use Rattle.log_batch.specs.Newest.{IsNewestOf, commit_images}
use Rattle.log_batch.specs.Picks.{picked_image}
use Rattle.log_batch.specs.Put.{put_all}
use Rattle.log_batch.specs.NewestLaws.{put_all_is_newest, newest_is_put_all}
use Rattle.log_batch.proofs.batch.Batch.gather.Goals as goal

pub returns : goal.returns
returns c =
    let commits = c.args.commits.now.items in
    let taken = c.pick_most-taken.result in
    let picks = c.pick_most-taken.new.picks in
    let facts = c.pick_most-taken.ensures in
    let copied : c.copy_images.new.into.items ≡ map (picked_image commits) picks.items =
    c.copy_images.ensures.images ∙ ap (map (picked_image commits)) c.deref.ensures.value in
    let is : c.copy_images.new.into.items ≡ put_all (commit_images (take taken commits)) [] = copied ∙ facts.put in
    let size = length-map picks.items (picked_image commits) in
    let same = ap length copied in record {
      within = facts.within;
      newest = subst (IsNewestOf (commit_images (take taken commits))) (sym is) (put_all_is_newest (commit_images (take taken commits)));
      few = omega (arith, picks.ok.0, facts.few);
      countable = c.pick_most-taken.type_inv;
      longest = λ within below more new. rw (newest_is_put_all (commit_images (take (taken + 1) commits)) more new) (facts.longest within below);
    }
