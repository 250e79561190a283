use Rattle.std.proofs.Common.{[], ◌∷◌, ap, sym, ◌∙◌, ◌+◌, length, length-append, rules}
use Rattle.commit_queue.proofs.Moves.{forks, is_taker}
use Rattle.commit_queue.proofs.Making.{one_more_count}
use Rattle.commit_queue.proofs.taker.Taker.make_next.Goals as goal

pub another-pass-requires-clause-rule : goal.another-pass-requires-clause-rule
another-pass-requires-clause-rule c = forks _ _ (ap (λ v. v.takes) c.self.invariant.1.knows)

pub invariant_of-self-2 : goal.invariant_of-self-2
invariant_of-self-2 c =
    let now = c.another-pass.ensures.rule.0 in
    let counts = c.in_ok-push.ensures.items in
    let groups = ap (λ v. v.groups) c.self.invariant.1.knows in (
      search rules,
      record {
        knows = is_taker _ _ _ _ _ now (ap (λ n. n + 1) groups ∙ sym (ap length counts ∙ length-append c.self.inside.counts.items (0 ∷ [])));
        counts_are = one_more_count c.self.inside.counts.items c.push.new.self.items c.self.inside.pass.me.view.client.taken c.another-pass.new.pass.me.view.client.taken counts (ap (λ v. v.taken) now)
            (ap (λ s. s.taken) c.self.view_is ∙ c.requires.new) c.self.invariant.1.counts_are;
      },
    )
