use Rattle.std.proofs.Common.{[], sym, ◌∙◌, arith}
use Rattle.std.proofs.lemmas.List.{ext_get_or}
use Rattle.life_limits.specs.declared.TheConstants.{NO_INODE}
use Rattle.agi_buckets.specs.Buckets.{list_at}
use Rattle.agi_buckets.proofs.Lists.{count_distinct}
use Rattle.agi_buckets.proofs.Chains.{chain_distinct}
use Rattle.agi_buckets.proofs.Linked.{one_list, no_mark_in, none_linked}
use Rattle.agi_buckets.proofs.laws.pointers_give_one_list.Goals as goal

pub returns-clause-one : goal.returns-clause-one
returns-clause-one c = λ p first second one two. ext_get_or [] first second (one.count ∙ sym two.count) (λ bucket below. one_list p first second bucket one two (omega (arith, one.count)))

pub returns-clause-once : goal.returns-clause-once
returns-clause-once c = λ p lists bucket agino are below.
    count_distinct (list_at lists bucket) agino (chain_distinct p.next _ NO_INODE (list_at lists bucket) (no_mark_in p lists bucket are below) (are.each bucket below).chain)

pub returns-clause-empty : goal.returns-clause-empty
returns-clause-empty c = λ p heads no_mark. none_linked p heads no_mark
