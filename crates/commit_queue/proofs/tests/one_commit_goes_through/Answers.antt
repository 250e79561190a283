use Rattle.std.proofs.Common.{sym, ap, ◌∙◌}
use Rattle.commit_queue.proofs.Making.{last_end}
use Rattle.commit_queue.proofs.tests.one_commit_goes_through.Goals as goal

pub take_in-requires : goal.take_in-requires
take_in-requires g c =
    let made = last_end 0 _ _ _ _ c.in_ok-committers.ensures c.in-Some.ensures.items in
    ap (λ s. s.queue) c.push.ensures.stays ∙ ap (λ s. s.queue) made ∙ sym (ap (λ s. s.queue) c.pop-2.ensures.stays)
