use Rattle.std.proofs.Common.{◌≡◌, ◌<◌, ◌+◌, [], length, map, take, get_or, ap, sym, ◌∙◌, arith, rules}
use Rattle.std.proofs.lemmas.List.{length-map}
use Rattle.log_record.specs.declared.image.Commit.{Commit}
use Rattle.log_batch.specs.Newest.{commit_images}
use Rattle.log_batch.specs.Picks.{picked_image}
use Rattle.log_batch.specs.Put.{put_all}
use Rattle.log_batch.proofs.Picks.{commits_more}
use Rattle.log_batch.proofs.batch.pick_most.Goals as goal

pub returns-then-len-clause-longest : goal.returns-then-len-clause-longest
returns-then-len-clause-longest c = λ within below.
    let commits = c.args.commits.now.items in
    let none : Commit = record { group = 0; images = [] } in
    let put : map (picked_image commits) c.put_commit.new.picks.items ≡ put_all (commit_images (take (c.loop-at.at + 1) commits)) [] =
    c.put_commit.ensures.put none ∙ ap (put_all (get_or commits c.loop-at.at none).images) c.loop-at.invariant.put
    ∙ sym (commits_more commits c.loop-at.at none within) in
    let size = length-map c.put_commit.new.picks.items (picked_image commits) in
    let same = ap length put in
    omega (arith, c.put_commit.new.picks.ok.0)

pub loop-at-preserved : goal.loop-at-preserved
loop-at-preserved c =
    let commits = c.args.commits.now.items in
    let none : Commit = record { group = 0; images = [] } in
    let within : c.loop-at.at < length commits = search rules in record {
      picks = c.put_commit.ensures.picks;
      put = c.put_commit.ensures.put none ∙ ap (put_all (get_or commits c.loop-at.at none).images) c.loop-at.invariant.put
          ∙ sym (commits_more commits c.loop-at.at none within);
      few = omega arith;
      capacity = c.put_commit.ensures.capacity ∙ c.loop-at.invariant.capacity;
    }
