-- One chunk more in a group.
use Rattle.std.proofs.Common.{◌≡◌, ◌%◌, ℕ, true, false, cond, [], ◌∷◌, eqb, ltb, refl, ap, arith}
use Rattle.std.specs.Prelude.{◌≢◌, slice_get}
use Rattle.std.specs.Option.{option_map}
use Rattle.std.proofs.lemmas.Bool.{ne_eqb, cond-false}
use Rattle.life_limits.specs.declared.TheConstants.{CHUNK_INODES}
use Rattle.geometry.specs.declared.shape.Geometry.{Geometry}
use Rattle.life_table.specs.declared.table.Chunk.{Chunk}
use Rattle.life_table.specs.Table.{Group, inode_in, start_of}
use Rattle.life_table.specs.Space.{insert_chunk}
use Rattle.sound_image.specs.Encoding.{Layouts, inode_sector, page_place}
use Rattle.encoded_changes.specs.Carry.{Stays}
use Rattle.encoded_changes.specs.Changes.{IsOfBitmap, IsChunkPlace, IsOfPage}
use Rattle.encoded_changes.proofs.Places.{same_metadata}
use Rattle.encoded_changes.proofs.Groups.{of_bitmap, of_page}

pub inode_in-insert_other : (new : Chunk) (group : Group) (place : ℕ) → new.start ≢ start_of place → inode_in (insert_chunk new group) place ≡ inode_in group place
unfolding inode_in insert_chunk
inode_in-insert_other new [] place apart = cond-false (eqb new.start (start_of place)) (slice_get new.inodes (place % CHUNK_INODES)) (inode_in [] place) (ne_eqb new.start (start_of place) apart)
inode_in-insert_other new (chunk ∷ chunks) place apart =
    elim (ltb new.start chunk.start) as (λ c. inode_in (cond c (new ∷ chunk ∷ chunks) (chunk ∷ insert_chunk new chunks)) place ≡ inode_in (chunk ∷ chunks) place) [
      | true ↦ cond-false (eqb new.start (start_of place)) (slice_get new.inodes (place % CHUNK_INODES)) (inode_in (chunk ∷ chunks) place) (ne_eqb new.start (start_of place) apart)
      | false ↦ ap (λ o. cond (eqb chunk.start (start_of place)) (slice_get chunk.inodes (place % CHUNK_INODES)) o) (inode_in-insert_other new chunks place apart)
    ]

outside : (start place : ℕ) → ¬ IsChunkPlace start place → start ≢ start_of place
outside start place out e = out (omega arith, omega arith)

pub chunk_touches : (g : Geometry) (layouts : Layouts) (group : ℕ) (chunks : Group) (new : Chunk) (place : ℕ)
    → place ≢ 2 → ¬ IsOfBitmap place → ¬ IsOfPage layouts group place → ¬ IsChunkPlace new.start place
    → Stays g group layouts chunks layouts (insert_chunk new chunks) place
chunk_touches g layouts group chunks new place no_header no_bitmap no_page out =
    same_metadata g layouts layouts group chunks (insert_chunk new chunks) place refl
    (λ e. absurd (no_header e))
    (λ e. absurd (no_bitmap (of_bitmap place e)))
    (λ e. absurd (no_page (of_page (page_place layouts group) place e)))
    (ap (option_map (inode_sector g layouts group place)) (inode_in-insert_other new chunks place (outside new.start place out)))
