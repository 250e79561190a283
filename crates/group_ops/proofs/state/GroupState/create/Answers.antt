use Rattle.std.proofs.Common.{◌*◌, ℕ, Some, None, ap, sym, ◌∙◌, arith}
use Rattle.life_limits.specs.declared.TheConstants.{BLOCK_SECTORS}
use Rattle.geometry.specs.Places.{number_in}
use Rattle.life_table.specs.declared.key.Key.{Key}
use Rattle.group_ops.proofs.Making.{new_spot, no_inodes, place_told}
use Rattle.group_ops.proofs.state.GroupState.create.Goals as goal

pub make_in_chunk-requires-clause-lowest : goal.make_in_chunk-requires-clause-lowest
make_in_chunk-requires-clause-lowest c = let w = c.requires.group in (w.0, w.1, w.2, sym (c.in-Some.ensures w.0 w.1 w.2))

pub returns-in-Some : goal.returns-in-Some
returns-in-Some c t layouts is = c.in_ok-change.ensures t layouts is (sym (c.in-Some.ensures t layouts is))

pub returns-in_default-chunk_block : goal.returns-in_default-chunk_block
returns-in_default-chunk_block c t layouts is =
    let s = c.args.self.now in
    no_inodes t s.group c.args.links (sym (c.in_default.ensures t layouts is)) (place_told s t layouts c.space.result.now None is c.space.ensures c.in_default-chunk_block.ensures)

pub overflow_mul-block : goal.overflow_mul-block
overflow_mul-block c =
    let s = c.args.self.now in
    let w = c.requires.group in
    let block : ℕ = c.in-Some-chunk_block.block in
    let spot = new_spot c.chunks_have_the_lowest_place.ensures.place w.0 s.group block (place_told s w.0 w.1 c.space.result.now (Some block) w.2 c.space.ensures c.in-Some-chunk_block.ensures) in
    omega (arith, spot.fits, w.2.table.most)

pub number-requires-clause-agino_small : goal.number-requires-clause-agino_small
number-requires-clause-agino_small c =
    let s = c.args.self.now in
    let w = c.requires.group in
    let block : ℕ = c.in-Some-chunk_block.block in
    let spot = new_spot c.chunks_have_the_lowest_place.ensures.place w.0 s.group block (place_told s w.0 w.1 c.space.result.now (Some block) w.2 c.space.ensures c.in-Some-chunk_block.ensures) in
    omega (arith, spot.fits, w.2.table.most)

pub make_in_new_chunk-requires-clause-place : goal.make_in_new_chunk-requires-clause-place
make_in_new_chunk-requires-clause-place c =
    let s = c.args.self.now in
    let w = c.requires.group in
    (w.0, w.1, w.2, sym (c.in_default.ensures w.0 w.1 w.2), place_told s w.0 w.1 c.space.result.now (Some c.in-Some-chunk_block.block) w.2 c.space.ensures c.in-Some-chunk_block.ensures)

pub make_in_new_chunk-requires-clause-first : goal.make_in_new_chunk-requires-clause-first
make_in_new_chunk-requires-clause-first c =
    let s = c.args.self.now in
    ap (λ (n : ℕ). let k : Key = record { number = n; generation = 1 } in k)
    (c.number.ensures ∙ ap (λ (g : ℕ). number_in g (BLOCK_SECTORS * c.in-Some-chunk_block.block)) c.group.ensures.own)

pub returns : goal.returns
returns c t layouts is =
    let s = c.args.self.now in
    c.in_ok-change-2.ensures t layouts is (sym (c.in_default.ensures t layouts is))
    (place_told s t layouts c.space.result.now (Some c.in-Some-chunk_block.block) is c.space.ensures c.in-Some-chunk_block.ensures)
