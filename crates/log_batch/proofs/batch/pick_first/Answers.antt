use Rattle.std.proofs.Common.{◌<◌, [], length, get_or, ap, sym, ◌∙◌, arith}
use Rattle.log_record.specs.declared.image.Commit.{Commit}
use Rattle.log_batch.specs.Picks.{picked_image}
use Rattle.log_batch.specs.Put.{put_all}
use Rattle.log_batch.proofs.Picks.{commits_more, puts_grow}
use Rattle.std.proofs.lemmas.List.{length-map}
use Rattle.log_batch.proofs.batch.pick_first.Goals as goal

pub put_commit-requires-clause-room : goal.put_commit-requires-clause-room
put_commit-requires-clause-room c =
    let commits = c.args.commits.now.items in
    let grow = puts_grow commits c.loop-at.at c.args.taken (omega arith) in
    let size = length-map c.loop-at.picks.items (picked_image commits) in
    let same = ap length c.loop-at.invariant.put in
    omega (arith, c.requires.few, c.requires.room, c.loop-at.invariant.capacity, c.loop-at.picks.ok.0)

pub loop-at-preserved : goal.loop-at-preserved
loop-at-preserved c =
    let commits = c.args.commits.now.items in
    let none : Commit = record { group = 0; images = [] } in
    let within : c.loop-at.at < length commits = omega (arith, c.requires.within) in record {
      picks = c.put_commit.ensures.picks;
      put = c.put_commit.ensures.put none ∙ ap (put_all (get_or commits c.loop-at.at none).images) c.loop-at.invariant.put
          ∙ sym (commits_more commits c.loop-at.at none within);
      capacity = c.put_commit.ensures.capacity ∙ c.loop-at.invariant.capacity;
    }
