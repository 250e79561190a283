use Rattle.std.proofs.Common.{◌<◌, ◌++◌, ℕ, List, length, slice_index, sym, ap, subst, ◌∙◌}
use Rattle.life_limits.specs.declared.TheConstants.{NO_INODE}
use Rattle.agi_buckets.specs.Buckets.{list_at}
use Rattle.agi_buckets.proofs.Steps.{steps}
use Rattle.agi_buckets.proofs.Walked.{walk_of, same_walks, walk_moved, walk_next, walk_smaller, walk_ends, met_more, met_all}
use Rattle.agi_buckets.proofs.buckets.list.Goals as goal

pub loop-at-init : goal.loop-at-init
loop-at-init g c =
    let p = g.N.Nexts.pointers c.args.n.now in
    let given = c.requires.lists in
    let walk = walk_of p given.0 c.args.bucket given.1 c.requires.bucket in (
      list_at given.0 c.args.bucket,
      walk_moved p (slice_index p.heads c.args.bucket) c.head-at.result (list_at given.0 c.args.bucket) (sym c.head-at.ensures) walk,
      λ members whole. same_walks p (slice_index p.heads c.args.bucket) members (list_at given.0 c.args.bucket) whole walk
          ∙ ap (λ (met : List ℕ). met ++ list_at given.0 c.args.bucket) (sym c.new-members.ensures.items),
    )

pub next-at-requires : goal.next-at-requires
next-at-requires g c =
    let p = g.N.Nexts.pointers c.args.n.now in
    let inv = c.loop-at.invariant in
    (walk_next p c.loop-at.at inv.0 inv.1 c.loop-at-test.true).3

pub loop-at-smaller : goal.loop-at-smaller
loop-at-smaller g c =
    let p = g.N.Nexts.pointers c.args.n.now in
    let inv = c.loop-at.invariant in
    let smaller = walk_smaller p c.loop-at.at inv.0 inv.1 c.loop-at-test.true in
    subst (λ (f : ℕ). steps p.next NO_INODE (length p.places) f < steps p.next NO_INODE (length p.places) c.loop-at.at) (sym c.next-at.ensures) smaller

pub loop-at-preserved : goal.loop-at-preserved
loop-at-preserved g c =
    let p = g.N.Nexts.pointers c.args.n.now in
    let inv = c.loop-at.invariant in
    let n = walk_next p c.loop-at.at inv.0 inv.1 c.loop-at-test.true in (
      n.0,
      walk_moved p (p.next c.loop-at.at) c.next-at.result n.0 (sym c.next-at.ensures) n.1,
      λ members whole. met_more members c.loop-at.members.items inv.0 n.0 c.loop-at.at (inv.2 members whole) n.2
          ∙ ap (λ (met : List ℕ). met ++ n.0) (sym c.in_ok-push.ensures.items),
    )

pub returns : goal.returns
returns g c = λ lists are.
    let p = g.N.Nexts.pointers c.args.n.now in
    let inv = c.loop-at.invariant in
    let members = list_at lists c.args.bucket in
    sym (met_all members c.loop-at.members.items inv.0 (inv.2 members (walk_of p lists c.args.bucket are c.requires.bucket)) (walk_ends p c.loop-at.at inv.0 inv.1 c.loop-at-test.false))
