use Rattle.std.proofs.Common.{◌≡◌, rules, ◌∙◌}
use Rattle.std.specs.List.{insert}
use Rattle.log_batch.specs.declared.find.Pick.{Pick}
use Rattle.log_batch.specs.PutLaws.{put-set, put-insert}
use Rattle.log_batch.proofs.find.put_pick.Goals as goal

pub returns-in-Ok-clause-put : goal.returns-in-Ok-clause-put
returns-in-Ok-clause-put c =
    let at = rw c.deref.ensures.value at c.in-Ok.ensures in
    put-set (λ (p : Pick). p.home) c.args.pick 0 c.args.picks.now.items c.in-Ok.at c.args.pick c.requires.order at.within (at.same c.args.pick)

pub returns-in-Err-clause-put : goal.returns-in-Err-clause-put
returns-in-Err-clause-put c =
    let gap = rw c.deref.ensures.value at c.in-Err.ensures in
    let inserted : c.insert.new.self.items ≡ insert c.args.picks.now.items c.in-Err.at c.args.pick = search rules in
    inserted ∙ put-insert (λ (p : Pick). p.home) c.args.pick c.args.picks.now.items c.in-Err.at c.args.pick gap.within (λ k h. gap.before k c.args.pick h) (λ k l h. gap.behind k c.args.pick l h)
