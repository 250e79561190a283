use Rattle.std.proofs.Common.{◌≡◌, ◌≤◌, List, sym, ap, subst, ◌∙◌, arith}
use Rattle.log_record.specs.declared.image.Image.{Image}
use Rattle.log_batch.specs.Put.{put_all}
use Rattle.recovery.specs.Follow.{IsFollowed}
use Rattle.recovery.proofs.Chains.{none_at_tail, zero_at_tail, followed_first, followed_more, followed_none, followed_all, followed_homes, followed_number}
use Rattle.recovery.proofs.chain.follow.Goals as goal

pub returns-in_default-2-clause-log : goal.returns-in_default-2-clause-log
returns-in_default-2-clause-log c =
    none_at_tail c.args.ring.now c.args.anchor c.requires.0 c.args.last.now c.requires.1 (rw c.in_default-2.is at c.in_ok-head.ensures)

pub returns-then-head-eq0-clause-log : goal.returns-then-head-eq0-clause-log
returns-then-head-eq0-clause-log c =
    zero_at_tail c.whole_records.ensures.one c.args.ring.now c.args.anchor c.requires.0 c.args.last.now c.in-Some-2.head c.requires.1
    (rw c.in-Some-2.is at c.in_ok-head.ensures) c.if-head-eq0.true

pub loop-position-init : goal.loop-position-init
loop-position-init c =
    subst (λ (l : List Image). IsFollowed c.args.ring.now c.args.anchor c.args.last.now c.in-Some-2.head.first c.args.last.now.tail c.in-Some-2.head.first l)
    (sym c.new-images.ensures)
    (followed_first c.whole_records.ensures.one c.args.ring.now c.args.anchor c.requires.0 c.args.last.now c.in-Some-2.head c.requires.1
    (rw c.in-Some-2.is at c.in_ok-head.ensures))

pub returns-in_default-3-clause-log : goal.returns-in_default-3-clause-log
returns-in_default-3-clause-log c =
    let end = c.in-Some.ensures in
    followed_none c.args.ring.now c.args.anchor c.args.last.now c.in-Some-2.head.first c.loop-position.position c.loop-position.number
    c.loop-position.images c.loop-position.invariant (omega (arith, end.1, c.loop-position-test.true)) (rw c.in_default-3.is at c.in_ok-next.ensures)

pub loop-position-preserved : goal.loop-position-preserved
loop-position-preserved c =
    let end = c.in-Some.ensures in
    let next = rw c.in-Some-3.is at c.in_ok-next.ensures in
    let item = c.in-Some-3.next.item in
    let done = followed_more c.whole_records.ensures.one c.whole_records.ensures.stamped c.args.ring.now c.args.anchor c.requires.0 c.args.last.now
    c.in-Some-2.head.first c.loop-position.position c.loop-position.number c.loop-position.images item c.requires.1 c.loop-position.invariant
    (omega (arith, end.1, c.loop-position-test.true)) next.is in
    let put : c.put_all.new.self ≡ put_all item.images c.loop-position.images =
    c.in_ok-put_all.ensures ∙ ap (λ (l : List Image). put_all l c.loop-position.images) c.as_slice.ensures in
    rw (next.end, next.commit, put) done

pub returns-clause-log : goal.returns-clause-log
returns-clause-log c =
    let end = c.in-Some.ensures in
    let some : 1 ≤ c.in-Some-2.head.first = omega (arith, c.if-head-eq0.false) in
    let all = followed_all c.args.ring.now c.args.anchor c.args.last.now c.in-Some-2.head.first c.loop-position.position c.loop-position.number
    c.loop-position.images c.loop-position.invariant (omega (arith, end.1, c.loop-position-test.false)) some end.0 in
    rw end.1 all

pub returns-clause-homes : goal.returns-clause-homes
returns-clause-homes c =
    followed_homes c.args.ring.now c.args.anchor c.args.last.now c.in-Some-2.head.first c.loop-position.position c.loop-position.number
    c.loop-position.images c.loop-position.invariant

pub returns-clause-number : goal.returns-clause-number
returns-clause-number c =
    let some : 1 ≤ c.in-Some-2.head.first = omega (arith, c.if-head-eq0.false) in
    followed_number c.args.ring.now c.args.anchor c.args.last.now c.in-Some-2.head.first c.loop-position.position c.loop-position.number
    c.loop-position.images c.loop-position.invariant some
