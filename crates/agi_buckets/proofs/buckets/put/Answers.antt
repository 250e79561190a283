use Rattle.std.proofs.Common.{ℕ, sym, subst}
use Rattle.agi_buckets.specs.Buckets.{IsPointer, SetsNext, bucket_of, own_list}
use Rattle.agi_buckets.proofs.Lists.{moved}
use Rattle.agi_buckets.proofs.Linked.{bucket_small, head_is_pointer, one_list, puts}
use Rattle.agi_buckets.proofs.buckets.put.Goals as goal

pub set_next-requires-clause-next : goal.set_next-requires-clause-next
set_next-requires-clause-next g c =
    let p = g.N.Nexts.pointers c.args.n.now in
    let given = c.requires.absent in
    let first = c.head-first.ensures in
    subst (λ (f : ℕ). IsPointer p f) (sym first) (head_is_pointer p given.0 (bucket_of c.args.agino) given.1 (bucket_small c.args.agino))

pub returns-clause-put : goal.returns-clause-put
returns-clause-put g c = λ lists are.
    let p = g.N.Nexts.pointers c.args.n.now in
    let m = g.N.Nexts.pointers c.set_next.new.self in
    let given = c.requires.absent in
    let first = c.head-first.ensures in
    puts p m (g.N.Nexts.pointers c.set_head.new.self) c.args.agino lists
    (subst (λ (f : ℕ). SetsNext p m c.args.agino f) first c.set_next.ensures.set) c.set_head.ensures.set are c.requires.placed
    (λ member. given.2 (moved (own_list lists c.args.agino) (own_list given.0 c.args.agino) c.args.agino (one_list p lists given.0 (bucket_of c.args.agino) are given.1 (bucket_small c.args.agino)) member))
