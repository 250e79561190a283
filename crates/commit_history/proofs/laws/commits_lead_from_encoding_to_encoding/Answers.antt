use Rattle.commit_history.proofs.Encoded.{all, first, made}
use Rattle.commit_history.proofs.laws.commits_lead_from_encoding_to_encoding.Goals as goal

pub returns-clause-made : goal.returns-clause-made
returns-clause-made c = made

pub returns-clause-all : goal.returns-clause-all
returns-clause-all c = λ g t u layouts others base commits.
    all g t u layouts others base commits c.images_carry_changes.ensures.encoded c.images_carry_changes.ensures.one_group

pub returns-clause-first : goal.returns-clause-first
returns-clause-first c = λ g t v layouts last base commits count is carries.
    let p = first g t v layouts last base commits count c.images_carry_changes.ensures.encoded c.images_carry_changes.ensures.one_group is carries in
    (p.0.table, p.0.layouts_of, p.0.before, p.0.after, p.1)
