use Rattle.std.proofs.Common.{ℕ, sym, subst, ◌∙◌}
use Rattle.agi_buckets.specs.Buckets.{IsPointer, SetsNext, SetsHead, bucket_of}
use Rattle.agi_buckets.specs.Walks.{PointsAtMember}
use Rattle.agi_buckets.proofs.Linked.{bucket_small, next_is_pointer, found_before, passes_by_head, passes_by_next}
use Rattle.agi_buckets.proofs.buckets.pass_over.Goals as goal

pub set_head-requires-clause-agino : goal.set_head-requires-clause-agino
set_head-requires-clause-agino g c =
    let p = g.N.Nexts.pointers c.args.n.now in
    let given = c.requires.present in
    subst (λ (f : ℕ). IsPointer p f) (sym c.next-behind.ensures) (next_is_pointer p given.0 (bucket_of c.args.agino) c.args.agino given.1 (bucket_small c.args.agino) given.2)

pub set_next-requires-clause-next : goal.set_next-requires-clause-next
set_next-requires-clause-next g c =
    let p = g.N.Nexts.pointers c.args.n.now in
    let given = c.requires.present in
    subst (λ (f : ℕ). IsPointer p f) (sym c.next-behind.ensures) (next_is_pointer p given.0 (bucket_of c.args.agino) c.args.agino given.1 (bucket_small c.args.agino) given.2)

pub returns-then-first-agino-clause-passed : goal.returns-then-first-agino-clause-passed
returns-then-first-agino-clause-passed g c = λ lists are.
    let p = g.N.Nexts.pointers c.args.n.now in
    let q = g.N.Nexts.pointers c.set_head.new.self in
    passes_by_head p q c.args.agino lists are (sym c.head-first.ensures ∙ c.if-first-agino.true)
    (subst (λ (f : ℕ). SetsHead p q (bucket_of c.args.agino) f) c.next-behind.ensures c.set_head.ensures.set)

pub returns-else-first-agino-clause-passed : goal.returns-else-first-agino-clause-passed
returns-else-first-agino-clause-passed g c = λ lists are.
    let p = g.N.Nexts.pointers c.args.n.now in
    let q = g.N.Nexts.pointers c.set_next.new.self in
    passes_by_next p q c.args.agino c.find_before-before.result lists are (λ e. c.if-first-agino.false (c.head-first.ensures ∙ e))
    (subst (λ (f : ℕ). PointsAtMember p f c.args.agino c.find_before-before.result) c.head-first.ensures c.find_before-before.ensures)
    (subst (λ (f : ℕ). SetsNext p q c.find_before-before.result f) c.next-behind.ensures c.set_next.ensures.set)

pub returns-then-first-agino-clause-before : goal.returns-then-first-agino-clause-before
returns-then-first-agino-clause-before g c = λ lists are. sym c.head-first.ensures ∙ c.if-first-agino.true

pub returns-else-first-agino-clause-before : goal.returns-else-first-agino-clause-before
returns-else-first-agino-clause-before g c = λ lists are.
    let p = g.N.Nexts.pointers c.args.n.now in
    found_before p c.args.agino c.find_before-before.result lists are
    (subst (λ (f : ℕ). PointsAtMember p f c.args.agino c.find_before-before.result) c.head-first.ensures c.find_before-before.ensures)
