-- The places that a create touches.
use Rattle.std.proofs.Common.{◌≡◌, ◌%◌, ℕ, Bool, true, false, cond, [], Option, None, Some, inl, inr, refl, ap, sym, subst, ◌∙◌}
use Rattle.std.specs.Prelude.{◌≢◌, is_some}
use Rattle.std.proofs.lemmas.Bool.{false≢true}
use Rattle.life_limits.specs.declared.TheConstants.{GROUP_NUMBERS}
use Rattle.geometry.specs.declared.shape.Geometry.{Geometry}
use Rattle.life_table.specs.declared.key.Key.{Key}
use Rattle.life_table.specs.declared.table.Inode.{Inode}
use Rattle.life_table.specs.declared.table.Table.{Table}
use Rattle.life_table.specs.Table.{Group, group_at, set_inode, inode_in}
use Rattle.life_table.specs.Space.{times, chunk_place, lowest_key, new_chunk, prepared, row_blocks, with_chunk}
use Rattle.life_table.specs.Legal.{IsNextKey}
use Rattle.life_table.specs.WellFormed.{IsTable}
use Rattle.sound_image.specs.Places.{header_place}
use Rattle.sound_image.specs.Encoding.{Layouts, is_unlinked_row}
use Rattle.encoded_changes.specs.Carry.{Stays}
use Rattle.encoded_changes.specs.Changes.{HaveSameBlocks, IsOfBitmap, IsChunkPlace, IsOfNoNewChunk, IsOfPage, Relists, unused_inode}
use Rattle.encoded_changes.proofs.Chunks.{chunk_touches}
use Rattle.encoded_changes.proofs.Inodes.{inode_touches}
use Rattle.encoded_changes.proofs.Listed.{first_put}
use Rattle.encoded_changes.proofs.Rows.{row_put}
use Rattle.encoded_changes.proofs.Created.{created_at}

-- the chunk that is added
with_touches : (g : Geometry) (layouts : Layouts) (group : ℕ) (chunks : Group) (added : Option ℕ) (place : ℕ)
    → place ≢ header_place → ¬ IsOfPage layouts group place → ¬ IsOfBitmap place → ((block : ℕ) → added ≡ Some block → ¬ IsChunkPlace (new_chunk block).start place)
    → Stays g group layouts chunks layouts (with_chunk chunks added) place
with_touches g layouts group chunks None place no_header no_page no_bitmap out = refl
with_touches g layouts group chunks (Some block) place no_header no_page no_bitmap out =
    chunk_touches g layouts group chunks (new_chunk block) place no_header no_bitmap no_page (out block refl)

prepare_touches : (g : Geometry) (t : Table) (layouts : Layouts) (group place : ℕ) → place ≢ header_place → ¬ IsOfPage layouts group place → IsOfNoNewChunk t group place
    → Stays g group layouts (group_at t group) layouts (prepared t.blocks group (group_at t group)) place
unfolding prepared
prepare_touches g t layouts group place no_header no_page out =
    elim (is_some (lowest_key group (group_at t group))) as (λ c. is_some (lowest_key group (group_at t group)) ≡ c
    → Stays g group layouts (group_at t group) layouts (cond c (group_at t group) (with_chunk (group_at t group) (chunk_place t.blocks (group_at t group)))) place) [
      | true ↦ λ is. refl
      | false ↦ λ is. elim out [
        | inl has ↦ absurd (false≢true (sym is ∙ has))
        | inr apart ↦ with_touches g layouts group (group_at t group) (chunk_place t.blocks (group_at t group)) place no_header no_page apart.0 apart.1
      ]
    ] refl

-- the inode, with its list as it follows
relisted_touches : (g : Geometry) (layouts others : Layouts) (group : ℕ) (chunks : Group) (agino : ℕ) (old new : Inode) (place : ℕ) (is : Bool)
    → Relists layouts group agino false is others → inode_in chunks agino ≡ Some old → HaveSameBlocks old new
    → place ≢ header_place → ¬ IsOfPage layouts group place → place ≢ agino → Stays g group layouts chunks others (set_inode chunks agino new) place
relisted_touches g layouts others group chunks agino old new place true puts at blocks no_header no_page apart =
    row_put g layouts others group chunks agino old new place (first_put layouts others group agino puts) at apart no_header (inr no_page) (inl blocks)
relisted_touches g layouts others group chunks agino old new place false same at blocks no_header no_page apart =
    subst (λ (l : Layouts). Stays g group layouts chunks l (set_inode chunks agino new) place) (sym same)
    (inode_touches g layouts group chunks agino old new place at apart (inr (no_header, no_page)) (inl blocks))

pub create_touches : (g : Geometry) (t : Table) (layouts others : Layouts) (group : ℕ) (key : Key) (new : Inode) (place : ℕ) → IsTable t → IsNextKey t group key
    → Relists layouts group (key.number % GROUP_NUMBERS) false (is_unlinked_row new.row) others → row_blocks new.row ≡ []
    → place ≢ header_place → ¬ IsOfPage layouts group place → place ≢ key.number % GROUP_NUMBERS → IsOfNoNewChunk t group place
    → Stays g group layouts (group_at t group) others (set_inode (prepared t.blocks group (group_at t group)) (key.number % GROUP_NUMBERS) new) place
create_touches g t layouts others group key new place table next follow empty no_header no_page apart out =
    relisted_touches g layouts others group (prepared t.blocks group (group_at t group)) (key.number % GROUP_NUMBERS) (unused_inode key) new place (is_unlinked_row new.row)
    follow (created_at t group key table next) (λ b. ap (times b) empty) no_header no_page apart
    ∙ prepare_touches g t layouts group place no_header no_page out
