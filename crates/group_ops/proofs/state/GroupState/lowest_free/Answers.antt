use Rattle.std.proofs.Common.{◌≡◌, ℕ, Some, None, ap, subst, ◌∙◌, arith}
use Rattle.geometry.specs.Places.{number_in}
use Rattle.group_space.specs.Space.{Space}
use Rattle.life_table.specs.declared.key.Key.{Key}
use Rattle.group_ops.proofs.Numbers.{IsLeastUnused, IsNextUnused, found_small, has_core, lowest_found, lowest_none, none_more}
use Rattle.group_ops.proofs.state.GroupState.lowest_free.Goals as goal

pub core_at-requires : goal.core_at-requires
core_at-requires c =
    let s = c.args.self.now in
    let w = c.requires in
    found_small c.places_have_their_metadata.ensures.place s w.0 w.1 c.loop-agino.from c.in-Some.agino c.hold.ensures.shape c.hold.ensures.inside w.2
    (subst (λ (x : Space). IsNextUnused x c.loop-agino.from (Some c.in-Some.agino)) c.space.ensures c.in-Some.ensures.unused)

pub unreachable-requires : goal.unreachable-requires
unreachable-requires c =
    let s = c.args.self.now in
    let w = c.requires in
    has_core s w.0 w.1 c.loop-agino.from c.in-Some.agino w.2 (subst (λ (x : Space). IsNextUnused x c.loop-agino.from (Some c.in-Some.agino)) c.space.ensures c.in-Some.ensures.unused)
    (c.in_default-core_at.ensures.told w.0 w.1 w.2)

pub number-requires-clause-agino_small : goal.number-requires-clause-agino_small
number-requires-clause-agino_small c =
    let s = c.args.self.now in
    let w = c.requires in
    found_small c.places_have_their_metadata.ensures.place s w.0 w.1 c.loop-agino.from c.in-Some.agino c.hold.ensures.shape c.hold.ensures.inside w.2
    (subst (λ (x : Space). IsNextUnused x c.loop-agino.from (Some c.in-Some.agino)) c.space.ensures c.in-Some.ensures.unused)

pub returns-then-has_life_left : goal.returns-then-has_life_left
returns-then-has_life_left c t layouts is =
    let s = c.args.self.now in
    let next = subst (λ (x : Space). IsNextUnused x c.loop-agino.from (Some c.in-Some.agino)) c.space.ensures c.in-Some.ensures.unused in
    let least = subst (λ (x : Space). IsLeastUnused x c.loop-agino.from (Some c.in-Some.agino)) c.space.ensures c.in-Some.ensures.least in
    let number : c.number.result ≡ number_in s.group c.in-Some.agino = c.number.ensures ∙ ap (λ (g : ℕ). number_in g c.in-Some.agino) c.group.ensures.own in
    ap (λ (n : ℕ). Some (let k : Key = record { number = n; generation = c.in-Some-core_at.core.generation } in k)) number
    ∙ lowest_found c.lowest_keys_by_number.ensures.lowest s t layouts c.loop-agino.from c.in-Some.agino c.in-Some-core_at.core c.hold.ensures.inside is c.loop-agino.invariant next least
    (c.in-Some-core_at.ensures.told t layouts is) c.if-has_life_left.true

pub overflow_add-from : goal.overflow_add-from
overflow_add-from c =
    let s = c.args.self.now in
    let w = c.requires in
    let small = found_small c.places_have_their_metadata.ensures.place s w.0 w.1 c.loop-agino.from c.in-Some.agino c.hold.ensures.shape c.hold.ensures.inside w.2
    (subst (λ (x : Space). IsNextUnused x c.loop-agino.from (Some c.in-Some.agino)) c.space.ensures c.in-Some.ensures.unused) in
    omega (arith, small)

pub loop-agino-smaller : goal.loop-agino-smaller
loop-agino-smaller c =
    let s = c.args.self.now in
    let w = c.requires in
    let next = subst (λ (x : Space). IsNextUnused x c.loop-agino.from (Some c.in-Some.agino)) c.space.ensures c.in-Some.ensures.unused in
    let small = found_small c.places_have_their_metadata.ensures.place s w.0 w.1 c.loop-agino.from c.in-Some.agino c.hold.ensures.shape c.hold.ensures.inside w.2 next in
    let past = (next s.geometry.blocks _ w.2.space).0 in
    omega (arith, small, past)

pub loop-agino-preserved : goal.loop-agino-preserved
loop-agino-preserved c =
    let s = c.args.self.now in
    let next = subst (λ (x : Space). IsNextUnused x c.loop-agino.from (Some c.in-Some.agino)) c.space.ensures c.in-Some.ensures.unused in
    let least = subst (λ (x : Space). IsLeastUnused x c.loop-agino.from (Some c.in-Some.agino)) c.space.ensures c.in-Some.ensures.least in
    none_more s c.loop-agino.from c.in-Some.agino c.in-Some-core_at.core c.loop-agino.invariant next least c.in-Some-core_at.ensures.told (λ low. omega (arith, low, c.if-has_life_left.false))

pub returns : goal.returns
returns c t layouts is =
    let s = c.args.self.now in
    lowest_none c.lowest_keys_by_number.ensures.none s t layouts c.loop-agino.from c.hold.ensures.inside is c.loop-agino.invariant
    (subst (λ (x : Space). IsLeastUnused x c.loop-agino.from None) c.space.ensures c.in_default.ensures.least)
