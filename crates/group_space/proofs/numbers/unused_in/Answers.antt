use Rattle.std.proofs.Common.{◌≡◌, ◌+◌, ◌-◌, get_or, ap, sym, subst, ◌∙◌, arith}
use Rattle.std.proofs.lemmas.List.{get_or_default}
use Rattle.life_bytes.specs.Bits.{is_set}
use Rattle.inobt_leaf.specs.declared.chunk.ChunkRec.{ChunkRec}
use Rattle.group_space.proofs.Records.{held_by, holds}
use Rattle.group_space.proofs.Unused.{NoneFrom, says, least_number, none_more, none_at_all}
use Rattle.group_space.proofs.numbers.unused_in.Goals as goal

abbrev nowhere : ChunkRec
nowhere = record { start = 0; free = 0; mask = 0 }

pub returns-in-Some-clause-unused : goal.returns-in-Some-clause-unused
returns-in-Some-clause-unused c =
    let r : ChunkRec = get_or c.args.records.now c.loop-chunk.chunk-index nowhere in
    let set = c.in-Some.ensures.set in
    let low = set.0 in
    let high = set.1 in
    let from = c.saturating_sub.ensures in
    let place : c.in-Some.place ≡ r.start + c.in-Some.place - r.start = omega arith in (
      omega arith,
      says c.args.records.now (r.start + c.in-Some.place) c.loop-chunk.chunk-index nowhere c.requires c.loop-chunk-test.true
          (holds (r.start + c.in-Some.place) r (omega arith) (omega arith)) (ap (is_set r.mask) (sym place) ∙ set.2),
    )

pub returns-in-Some-clause-least : goal.returns-in-Some-clause-least
returns-in-Some-clause-least c agino above said =
    let r : ChunkRec = get_or c.args.records.now c.loop-chunk.chunk-index nowhere in
    let set = c.in-Some.ensures.set in
    let high = set.1 in
    let from = c.saturating_sub.ensures in
    least_number c.args.records.now c.args.from c.loop-chunk.chunk-index c.in-Some.place agino nowhere c.requires c.loop-chunk-test.true c.loop-chunk.invariant high
    (λ j low small is. c.in-Some.ensures.least j (omega arith) small is) above said

pub loop-chunk-preserved : goal.loop-chunk-preserved
loop-chunk-preserved c =
    let r : ChunkRec = get_or c.args.records.now c.loop-chunk.chunk-index nowhere in
    let from = c.saturating_sub.ensures in
    let here : NoneFrom c.args.from r = λ agino above held is.
    let h = held_by agino r held in
    let low = h.0 in
    let high = h.1 in
    c.in_default.ensures.least (agino - r.start) (omega arith) (omega arith) is in
    none_more c.args.records.now c.args.from c.loop-chunk.chunk-index nowhere c.loop-chunk.invariant c.loop-chunk-test.true
    (λ e. subst (NoneFrom c.args.from) (get_or_default c.args.records.now c.loop-chunk.chunk-index nowhere e c.loop-chunk-test.true) here)

pub returns-clause-least : goal.returns-clause-least
returns-clause-least c agino above said = none_at_all c.args.records.now c.args.from c.loop-chunk.chunk-index agino c.loop-chunk.invariant c.loop-chunk-test.false above said
