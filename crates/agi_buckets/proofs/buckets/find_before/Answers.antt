use Rattle.std.proofs.Common.{◌<◌, ℕ, length, Contains, sym, subst, ◌∙◌}
use Rattle.life_limits.specs.declared.TheConstants.{NO_INODE}
use Rattle.agi_buckets.proofs.Steps.{steps}
use Rattle.agi_buckets.proofs.Walked.{walk_goes, walk_moved, walk_next, walk_smaller, first_member, next_member, still_ahead}
use Rattle.agi_buckets.proofs.buckets.find_before.Goals as goal

pub loop-first-init : goal.loop-first-init
loop-first-init g c =
    let p = g.N.Nexts.pointers c.args.n.now in
    let given = c.requires.listed in
    let goes = walk_goes p c.args.first c.args.agino given.0 given.1 given.2 in
    record { here = c.requires.behind; ahead = given; listed = λ members walk. first_member p c.args.first members walk goes }

pub next-next-requires : goal.next-next-requires
next-next-requires g c =
    let p = g.N.Nexts.pointers c.args.n.now in
    let ahead = c.loop-first.invariant.ahead in
    (walk_next p c.loop-first.at ahead.0 ahead.1 (walk_goes p c.loop-first.at c.args.agino ahead.0 ahead.1 ahead.2)).3

pub returns-then-next-agino : goal.returns-then-next-agino
returns-then-next-agino g c =
    let p = g.N.Nexts.pointers c.args.n.now in
    let ahead = c.loop-first.invariant.ahead in
    record {
      placed = (walk_next p c.loop-first.at ahead.0 ahead.1 (walk_goes p c.loop-first.at c.args.agino ahead.0 ahead.1 ahead.2)).3;
      listed = c.loop-first.invariant.listed;
      points = sym c.next-next.ensures ∙ c.if-next-agino.true;
    }

pub loop-first-smaller : goal.loop-first-smaller
loop-first-smaller g c =
    let p = g.N.Nexts.pointers c.args.n.now in
    let ahead = c.loop-first.invariant.ahead in
    let smaller = walk_smaller p c.loop-first.at ahead.0 ahead.1 (walk_goes p c.loop-first.at c.args.agino ahead.0 ahead.1 ahead.2) in
    subst (λ (f : ℕ). steps p.next NO_INODE (length p.places) f < steps p.next NO_INODE (length p.places) c.loop-first.at) (sym c.next-next.ensures) smaller

pub loop-first-preserved : goal.loop-first-preserved
loop-first-preserved g c =
    let p = g.N.Nexts.pointers c.args.n.now in
    let inv = c.loop-first.invariant in
    let ahead = inv.ahead in
    let n = walk_next p c.loop-first.at ahead.0 ahead.1 (walk_goes p c.loop-first.at c.args.agino ahead.0 ahead.1 ahead.2) in
    let walk = walk_moved p (p.next c.loop-first.at) c.next-next.result n.0 (sym c.next-next.ensures) n.1 in
    let later : Contains n.0 c.args.agino = still_ahead c.loop-first.at c.args.agino ahead.0 n.0 n.2 inv.here ahead.2 in
    let goes = walk_goes p c.next-next.result c.args.agino n.0 walk later in
    record {
      here = c.if-next-agino.false;
      ahead = (n.0, walk, later);
      listed = λ members whole. next_member p c.args.first c.loop-first.at c.next-next.result members whole (inv.listed members whole) (sym c.next-next.ensures) goes;
    }
