-- A group that a create prepares.
use Rattle.std.proofs.Common.{◌≡◌, ◌<◌, ◌≤◌, ◌+◌, ◌*◌, ◌/◌, ◌%◌, ℕ, Bool, true, false, cond, List, [], ◌∷◌, Option, None, Some, length, eqb, leb, ltb, inl, inr, refl, subst, ◌∙◌, arith}
use Rattle.std.specs.Prelude.{◌&&◌, is_some, slice_get}
use Rattle.std.specs.List.{find, list_all, range_with_len}
use Rattle.std.proofs.lemmas.Bool.{and_parts, cases_eq, cond-false, eqb-true, ne_eqb}
use Rattle.std.proofs.lemmas.Option.{none-some, same_Some}
use Rattle.life_limits.specs.declared.TheConstants.{BLOCK_SECTORS, CHUNK_INODES, FIRST_DATA_BLOCK, MAX_CHUNKS}
use Rattle.life_table.specs.declared.table.Chunk.{Chunk}
use Rattle.life_table.specs.declared.table.Table.{Table}
use Rattle.life_table.specs.Table.{Group, group_at, inode_in, start_of, with_group}
use Rattle.life_table.specs.Space.{times, chunk_blocks, used, chunk_place, begins_run, is_free_block, lowest_key, new_chunk, prepared, with_chunk}
use Rattle.life_table.specs.Legal.{prepare}
use Rattle.sound_image.specs.Encoding.{Layouts, AreLayouts}
use Rattle.encoded_changes.proofs.Buckets.{times-here}
use Rattle.encoded_changes.proofs.Inodes.{used_first}
use Rattle.encoded_changes.proofs.Follow.{kept_before, layouts_chunk, replaced}

-- the block of a new chunk is free
pub find-passes : (p : ℕ → Bool) (xs : List ℕ) (x : ℕ) → find p xs ≡ Some x → p x ≡ true
find-passes p [] x at = absurd (none-some x at)
find-passes p (y ∷ xs) x at =
    elim (p y) as (λ c. p y ≡ c → cond c (Some y) (find p xs) ≡ Some x → p x ≡ true) [
      | true ↦ λ is here. subst (λ z. p z ≡ true) (same_Some y x here) is
      | false ↦ λ is here. find-passes p xs x here
    ] refl at

free_is : (blocks : ℕ) (chunks : Group) (block : ℕ) → is_free_block blocks chunks block ≡ true → times block (used chunks) ≡ 0
unfolding is_free_block
free_is blocks chunks block e =
    let outer = and_parts (leb FIRST_DATA_BLOCK block) (ltb block blocks && eqb (times block (used chunks)) 0) e in
    let inner = and_parts (ltb block blocks) (eqb (times block (used chunks)) 0) outer.1 in
    eqb-true (times block (used chunks)) 0 inner.1

begins_free : (blocks : ℕ) (chunks : Group) (block : ℕ) → begins_run blocks chunks block ≡ true → times block (used chunks) ≡ 0
unfolding begins_run
begins_free blocks chunks block e =
    let outer = and_parts (eqb (block % 8) 0) (list_all (is_free_block blocks chunks) (range_with_len block 8)) e in
    let inner = and_parts (is_free_block blocks chunks block) (list_all (is_free_block blocks chunks) (range_with_len (block + 1) 7)) outer.1 in
    free_is blocks chunks block inner.0

pub place_free : (blocks : ℕ) (chunks : Group) (block : ℕ) → chunk_place blocks chunks ≡ Some block → times block (used chunks) ≡ 0
unfolding chunk_place
place_free blocks chunks block e =
    elim (ltb (length chunks) MAX_CHUNKS) as (λ c. cond c (find (begins_run blocks chunks) (range_with_len 0 blocks)) None ≡ Some block → times block (used chunks) ≡ 0) [
      | true ↦ λ found. begins_free blocks chunks block (find-passes (begins_run blocks chunks) (range_with_len 0 blocks) block found)
      | false ↦ λ found. absurd (none-some block found)
    ] e

-- so no chunk starts there
own_block : (block : ℕ) (chunk : Chunk) → chunk.start ≡ block * BLOCK_SECTORS → 1 ≤ times block (chunk_blocks chunk)
unfolding chunk_blocks
own_block block chunk e =
    let here = times-here block (chunk.start / BLOCK_SECTORS) (range_with_len (chunk.start / BLOCK_SECTORS + 1) 7) (omega (arith, e)) in
    omega (arith, here)

no_inode : (block agino : ℕ) (chunks : Group) → times block (used chunks) ≡ 0 → start_of agino ≡ block * BLOCK_SECTORS → inode_in chunks agino ≡ None
unfolding inode_in
no_inode block agino [] free e = refl
no_inode block agino (chunk ∷ chunks) free e =
    elim (cases_eq chunk.start (start_of agino)) [
      | inl here ↦ absurd (omega (arith, used_first block chunk chunks, own_block block chunk (here ∙ e), free))
      | inr other ↦
          cond-false (eqb chunk.start (start_of agino)) (slice_get chunk.inodes (agino % CHUNK_INODES)) (inode_in chunks agino) (ne_eqb chunk.start (start_of agino) other)
          ∙ no_inode block agino chunks (omega (arith, used_first block chunk chunks, free)) e
    ]

new_start : (block : ℕ) → (new_chunk block).start ≡ block * BLOCK_SECTORS
unfolding new_chunk
new_start block = refl

unchanged : (t : Table) (layouts : Layouts) (group : ℕ) → AreLayouts t layouts → group < length t.groups → AreLayouts (with_group t group (group_at t group)) layouts
unchanged t layouts group are lt = replaced t layouts layouts group (group_at t group) are lt refl (are.lists group lt) refl (λ other apart. refl) (kept_before t layouts group are lt)

with_place : (t : Table) (layouts : Layouts) (group : ℕ) (place : Option ℕ) → AreLayouts t layouts → group < length t.groups → chunk_place t.blocks (group_at t group) ≡ place
    → AreLayouts (with_group t group (with_chunk (group_at t group) place)) layouts
with_place t layouts group None are lt e = unchanged t layouts group are lt
with_place t layouts group (Some block) are lt e =
    layouts_chunk t layouts group block are lt
    (λ agino at. no_inode block agino (group_at t group) (place_free t.blocks (group_at t group) block e) (at ∙ new_start block))

pub layouts_prepared : (t : Table) (layouts : Layouts) (group : ℕ) → AreLayouts t layouts → group < length t.groups → AreLayouts (prepare t group) layouts
unfolding prepared
layouts_prepared t layouts group are lt =
    elim (is_some (lowest_key group (group_at t group))) as (λ c. AreLayouts (with_group t group (cond c (group_at t group) (with_chunk (group_at t group) (chunk_place t.blocks (group_at t group))))) layouts) [
      | true ↦ unchanged t layouts group are lt
      | false ↦ with_place t layouts group (chunk_place t.blocks (group_at t group)) are lt refl
    ]
