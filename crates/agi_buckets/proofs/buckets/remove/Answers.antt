use Rattle.agi_buckets.specs.Buckets.{bucket_of, own_list}
use Rattle.agi_buckets.proofs.Lists.{moved}
use Rattle.agi_buckets.proofs.Linked.{bucket_small, one_list, removes}
use Rattle.agi_buckets.proofs.buckets.remove.Goals as goal

pub returns-clause-removed : goal.returns-clause-removed
returns-clause-removed g c = λ lists are.
    let p = g.N.Nexts.pointers c.args.n.now in
    let given = c.requires.present in
    removes p (g.N.Nexts.pointers c.pass_over-before.new.n) (g.N.Nexts.pointers c.set_next.new.self) c.args.agino lists are
    (moved (own_list given.0 c.args.agino) (own_list lists c.args.agino) c.args.agino (one_list p given.0 lists (bucket_of c.args.agino) given.1 are (bucket_small c.args.agino)) given.2)
    (c.pass_over-before.ensures.passed lists are) c.set_next.ensures.set
