use Rattle.std.proofs.Common.{◌≡◌, ◌-◌, ℕ, true, get_or, set, refl, ap, sym, ◌∙◌, subst}
use Rattle.inobt_leaf.specs.declared.chunk.ChunkRec.{ChunkRec}
use Rattle.inobt_leaf.specs.Chunks.{IsChunkRecord, IsLeaf, after_take}
use Rattle.std.proofs.lemmas.List.Elements.{All-get_or}
use Rattle.life_bytes.specs.Bits.{is_set}
use Rattle.inobt_leaf.proofs.Places.{found_at, map-where_held, leaf-set}
use Rattle.inobt_leaf.proofs.Changes.{some_free, IsChunk-after_take, no_place}
use Rattle.inobt_leaf.proofs.records.take_in.Goals as goal

abbrev blank : ChunkRec
blank = record { start = 0; free = 0; mask = 0 }

pub overflow_sub-chunks : goal.overflow_sub-chunks
overflow_sub-chunks c =
    let chunks = c.args.chunks.now in
    let h = c.in-Some.ensures.some in
    let bit = found_at chunks c.args.agino c.in-Some.place blank (λ chunk. is_set chunk.mask (c.args.agino - chunk.start) ≡ true) c.requires.leaf h.0 (h.1 blank) c.requires.free in
    some_free c.args.agino (get_or chunks c.in-Some.place blank) (All-get_or IsChunkRecord chunks c.in-Some.place blank h.0 c.requires.leaf.each) (h.1 blank) bit

pub returns-clause-changed : goal.returns-clause-changed
returns-clause-changed c =
    let chunks = c.args.chunks.now in
    let h = c.in-Some.ensures.some in
    let chunk = get_or chunks c.in-Some.place blank in
    ap (λ (m : ℕ). set chunks c.in-Some.place (record (after_take c.args.agino chunk) { mask = m })) c.cleared.ensures
    ∙ map-where_held chunks c.args.agino c.in-Some.place blank (after_take c.args.agino) c.requires.leaf h.0 (h.1 blank)

pub returns-clause-leaf : goal.returns-clause-leaf
returns-clause-leaf c =
    let chunks = c.args.chunks.now in
    let h = c.in-Some.ensures.some in
    let chunk = get_or chunks c.in-Some.place blank in
    let bit = found_at chunks c.args.agino c.in-Some.place blank (λ chunk. is_set chunk.mask (c.args.agino - chunk.start) ≡ true) c.requires.leaf h.0 (h.1 blank) c.requires.free in
    let is = IsChunk-after_take c.args.agino chunk (All-get_or IsChunkRecord chunks c.in-Some.place blank h.0 c.requires.leaf.each) (h.1 blank) bit in
    subst (λ (m : ℕ). IsLeaf (set chunks c.in-Some.place (record (after_take c.args.agino chunk) { mask = m }))) (sym c.cleared.ensures)
    (leaf-set chunks c.in-Some.place blank (after_take c.args.agino chunk) c.requires.leaf h.0 is refl)

pub unreachable-requires : goal.unreachable-requires
unreachable-requires c = no_place c.args.chunks.now c.args.agino (λ chunk. is_set chunk.mask (c.args.agino - chunk.start) ≡ true) c.in_default.ensures.none c.requires.free
