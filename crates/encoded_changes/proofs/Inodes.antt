-- Another inode at a number of a group.
use Rattle.std.proofs.Common.{◌≡◌, ◌+◌, ◌-◌, ◌%◌, ◌⊎◌, ℕ, zero, suc, Bool, true, false, cond, List, [], ◌∷◌, ◌++◌, Some, map, eqb, inl, inr, refl, ap, sym, ◌∙◌, arith}
use Rattle.std.specs.Prelude.{◌≢◌, is_none, slice_get, slice_set, count_by}
use Rattle.std.specs.Option.{option_map}
use Rattle.std.proofs.lemmas.Bool.{eqb-true}
use Rattle.std.proofs.lemmas.Option.{none-some, same_Some}
use Rattle.std.proofs.lemmas.List.Sums.{sum_by-cons}
use Rattle.life_limits.specs.declared.TheConstants.{CHUNK_INODES}
use Rattle.geometry.specs.declared.shape.Geometry.{Geometry}
use Rattle.free_map.specs.Bitmap.{bitmap, number_of_bits}
use Rattle.inobt_leaf.specs.declared.chunk.ChunkRec.{ChunkRec}
use Rattle.life_table.specs.declared.table.Inode.{Inode}
use Rattle.life_table.specs.declared.table.Chunk.{Chunk}
use Rattle.life_table.specs.Table.{Group, inode_in, set_inode, start_of}
use Rattle.life_table.specs.Space.{times, chunk_blocks, row_blocks, inode_blocks, used}
use Rattle.sound_image.specs.Places.{part}
use Rattle.sound_image.specs.Encoding.{Layouts, inode_sector, page_place, free_count, mask_of, chunk_record}
use Rattle.encoded_changes.specs.Carry.{Stays}
use Rattle.encoded_changes.specs.Changes.{HaveSameBlocks, IsOfBitmap, IsOfPage}
use Rattle.encoded_changes.proofs.Places.{same_metadata}
use Rattle.encoded_changes.proofs.Groups.{same_header, same_page, same_free, of_bitmap, of_page}

-- ---- the inodes of other numbers

slice_get-set_other : {X : Type 0} (xs : List X) (i j : ℕ) (new : X) → i ≢ j → slice_get (slice_set xs i new) j ≡ slice_get xs j
slice_get-set_other [] i j new apart = refl
slice_get-set_other (x ∷ xs) zero zero new apart = absurd (apart refl)
slice_get-set_other (x ∷ xs) zero (suc j) new apart = refl
slice_get-set_other (x ∷ xs) (suc i) zero new apart = refl
slice_get-set_other (x ∷ xs) (suc i) (suc j) new apart = slice_get-set_other xs i j new (λ e. apart (ap suc e))

same_agino : (a b : ℕ) → start_of a ≡ start_of b → a % CHUNK_INODES ≡ b % CHUNK_INODES → a ≡ b
same_agino a b starts places = omega arith

pub inode_in-set_other : (group : Group) (agino other : ℕ) (new : Inode) → agino ≢ other → inode_in (set_inode group agino new) other ≡ inode_in group other
unfolding inode_in set_inode
inode_in-set_other [] agino other new apart = refl
inode_in-set_other (chunk ∷ chunks) agino other new apart =
    elim (eqb chunk.start (start_of agino)) as (λ c. eqb chunk.start (start_of agino) ≡ c
    → inode_in (cond c (record { start = chunk.start; inodes = slice_set chunk.inodes (agino % CHUNK_INODES) new } ∷ chunks) (chunk ∷ set_inode chunks agino new)) other
    ≡ cond (eqb chunk.start (start_of other)) (slice_get chunk.inodes (other % CHUNK_INODES)) (inode_in chunks other)) [
      | true ↦ λ is.
          elim (eqb chunk.start (start_of other)) as (λ d. eqb chunk.start (start_of other) ≡ d
          → cond d (slice_get (slice_set chunk.inodes (agino % CHUNK_INODES) new) (other % CHUNK_INODES)) (inode_in chunks other)
          ≡ cond d (slice_get chunk.inodes (other % CHUNK_INODES)) (inode_in chunks other)) [
            | true ↦ λ also. slice_get-set_other chunk.inodes (agino % CHUNK_INODES) (other % CHUNK_INODES) new
                (λ places. apart (same_agino agino other (sym (eqb-true chunk.start (start_of agino) is) ∙ eqb-true chunk.start (start_of other) also) places))
            | false ↦ λ also. refl
          ] refl
      | false ↦ λ is. ap (λ o. cond (eqb chunk.start (start_of other)) (slice_get chunk.inodes (other % CHUNK_INODES)) o) (inode_in-set_other chunks agino other new apart)
    ] refl

slice_get-set_same : {X : Type 0} (xs : List X) (i : ℕ) (old new : X) → slice_get xs i ≡ Some old → slice_get (slice_set xs i new) i ≡ Some new
slice_get-set_same [] i old new at = absurd (none-some old at)
slice_get-set_same (x ∷ xs) zero old new at = refl
slice_get-set_same (x ∷ xs) (suc i) old new at = slice_get-set_same xs i old new at

pub inode_in-set_same : (group : Group) (agino : ℕ) (old new : Inode) → inode_in group agino ≡ Some old → inode_in (set_inode group agino new) agino ≡ Some new
unfolding inode_in set_inode
inode_in-set_same [] agino old new at = absurd (none-some old at)
inode_in-set_same (chunk ∷ chunks) agino old new at =
    elim (eqb chunk.start (start_of agino)) as (λ c. eqb chunk.start (start_of agino) ≡ c
    → cond c (slice_get chunk.inodes (agino % CHUNK_INODES)) (inode_in chunks agino) ≡ Some old
    → inode_in (cond c (record { start = chunk.start; inodes = slice_set chunk.inodes (agino % CHUNK_INODES) new } ∷ chunks) (chunk ∷ set_inode chunks agino new)) agino ≡ Some new) [
      | true ↦ λ is here. rw is (slice_get-set_same chunk.inodes (agino % CHUNK_INODES) old new here)
      | false ↦ λ is here. rw is (inode_in-set_same chunks agino old new here)
    ] refl at

-- ---- the records

abbrev unused : Inode → Bool
unused inode = is_none inode.row

unused_same : (xs : List Inode) (i : ℕ) (old new : Inode) → slice_get xs i ≡ Some old → unused new ≡ unused old → map unused (slice_set xs i new) ≡ map unused xs
unused_same [] i old new at same = absurd (none-some old at)
unused_same (x ∷ xs) zero old new at same = ap (λ (b : Bool). b ∷ map unused xs) (same ∙ ap unused (sym (same_Some x old at)))
unused_same (x ∷ xs) (suc i) old new at same = ap (λ (bs : List Bool). unused x ∷ bs) (unused_same xs i old new at same)

count_true : (xs : List Inode) → free_count xs ≡ count_by (λ (b : Bool). b) (map unused xs)
unfolding free_count
count_true [] = refl
count_true (x ∷ xs) =
    sum_by-cons (λ (y : Inode). cond {A = ℕ} (unused y) 1 0) x xs ∙ ap (λ (n : ℕ). cond (unused x) 1 0 + n) (count_true xs) ∙ sym (sum_by-cons (λ (b : Bool). cond {A = ℕ} b 1 0) (unused x) (map unused xs))

abbrev record_made : ℕ → List Bool → ChunkRec
record_made start bits = record { start = start; free = count_by (λ (b : Bool). b) bits; mask = number_of_bits bits }

record_by : (chunk : Chunk) → chunk_record chunk ≡ record_made chunk.start (map unused chunk.inodes)
unfolding chunk_record mask_of
record_by chunk = ap (λ (n : ℕ). record { start = chunk.start; free = n; mask = number_of_bits (map unused chunk.inodes) }) (count_true chunk.inodes)

record_same : (chunk : Chunk) (i : ℕ) (old new : Inode) → slice_get chunk.inodes i ≡ Some old → unused new ≡ unused old
    → chunk_record (record { start = chunk.start; inodes = slice_set chunk.inodes i new }) ≡ chunk_record chunk
record_same chunk i old new at same =
    record_by (record { start = chunk.start; inodes = slice_set chunk.inodes i new })
    ∙ ap (record_made chunk.start) (unused_same chunk.inodes i old new at same)
    ∙ sym (record_by chunk)

records_same : (group : Group) (agino : ℕ) (old new : Inode) → inode_in group agino ≡ Some old → unused new ≡ unused old → map chunk_record (set_inode group agino new) ≡ map chunk_record group
unfolding inode_in set_inode
records_same [] agino old new at same = refl
records_same (chunk ∷ chunks) agino old new at same =
    elim (eqb chunk.start (start_of agino)) as (λ c. cond c (slice_get chunk.inodes (agino % CHUNK_INODES)) (inode_in chunks agino) ≡ Some old
    → map chunk_record (cond c (record { start = chunk.start; inodes = slice_set chunk.inodes (agino % CHUNK_INODES) new } ∷ chunks) (chunk ∷ set_inode chunks agino new)) ≡ map chunk_record (chunk ∷ chunks)) [
      | true ↦ λ here. ap (λ (r : ChunkRec). r ∷ map chunk_record chunks) (record_same chunk (agino % CHUNK_INODES) old new here same)
      | false ↦ λ here. ap (λ (rs : List ChunkRec). chunk_record chunk ∷ rs) (records_same chunks agino old new here same)
    ] at

-- ---- the blocks

times-append : (b : ℕ) (xs ys : List ℕ) → times b (xs ++ ys) ≡ times b xs + times b ys
unfolding times
times-append b [] ys = omega arith
times-append b (x ∷ xs) ys = let rest = times-append b xs ys in omega arith

inode_first : (b : ℕ) (x : Inode) (xs : List Inode) → times b (inode_blocks (x ∷ xs)) ≡ times b (row_blocks x.row) + times b (inode_blocks xs)
unfolding inode_blocks
inode_first b x xs = times-append b (row_blocks x.row) (inode_blocks xs)

pub used_first : (b : ℕ) (c : Chunk) (cs : Group) → times b (used (c ∷ cs)) ≡ (times b (chunk_blocks c) + times b (inode_blocks c.inodes)) + times b (used cs)
unfolding used
used_first b c cs =
    times-append b (chunk_blocks c ++ inode_blocks c.inodes) (used cs)
    ∙ ap (λ (n : ℕ). n + times b (used cs)) (times-append b (chunk_blocks c) (inode_blocks c.inodes))

inodes_same : (b : ℕ) (xs : List Inode) (i : ℕ) (old new : Inode) → slice_get xs i ≡ Some old → times b (row_blocks new.row) ≡ times b (row_blocks old.row)
    → times b (inode_blocks (slice_set xs i new)) ≡ times b (inode_blocks xs)
inodes_same b [] i old new at same = absurd (none-some old at)
inodes_same b (x ∷ xs) zero old new at same =
    inode_first b new xs ∙ ap (λ (n : ℕ). n + times b (inode_blocks xs)) (same ∙ ap (λ (y : Inode). times b (row_blocks y.row)) (sym (same_Some x old at))) ∙ sym (inode_first b x xs)
inodes_same b (x ∷ xs) (suc i) old new at same =
    inode_first b x (slice_set xs i new) ∙ ap (λ (n : ℕ). times b (row_blocks x.row) + n) (inodes_same b xs i old new at same) ∙ sym (inode_first b x xs)

same_place : (b start : ℕ) (xs ys : List Inode) → times b (chunk_blocks (record { start = start; inodes = xs })) ≡ times b (chunk_blocks (record { start = start; inodes = ys }))
unfolding chunk_blocks
same_place b start xs ys = refl

used_same : (b : ℕ) (group : Group) (agino : ℕ) (old new : Inode) → inode_in group agino ≡ Some old → times b (row_blocks new.row) ≡ times b (row_blocks old.row)
    → times b (used (set_inode group agino new)) ≡ times b (used group)
unfolding inode_in set_inode
used_same b [] agino old new at same = refl
used_same b (chunk ∷ chunks) agino old new at same =
    elim (eqb chunk.start (start_of agino)) as (λ c. cond c (slice_get chunk.inodes (agino % CHUNK_INODES)) (inode_in chunks agino) ≡ Some old
    → times b (used (cond c (record { start = chunk.start; inodes = slice_set chunk.inodes (agino % CHUNK_INODES) new } ∷ chunks) (chunk ∷ set_inode chunks agino new))) ≡ times b (used (chunk ∷ chunks))) [
      | true ↦ λ here.
          let changed : Chunk = record { start = chunk.start; inodes = slice_set chunk.inodes (agino % CHUNK_INODES) new } in
          let three = same_place b chunk.start (slice_set chunk.inodes (agino % CHUNK_INODES) new) chunk.inodes in
          omega (arith, used_first b changed chunks, used_first b chunk chunks, inodes_same b chunk.inodes (agino % CHUNK_INODES) old new here same, three)
      | false ↦ λ here. omega (arith, used_first b chunk (set_inode chunks agino new), used_first b chunk chunks, used_same b chunks agino old new here same)
    ] at

-- ---- each place

pub inode_touches : (g : Geometry) (layouts : Layouts) (group : ℕ) (chunks : Group) (agino : ℕ) (old new : Inode) (place : ℕ)
    → inode_in chunks agino ≡ Some old → place ≢ agino
    → (is_none new.row ≡ is_none old.row) ⊎ ((place ≢ 2) × ¬ IsOfPage layouts group place)
    → HaveSameBlocks old new ⊎ ¬ IsOfBitmap place
    → Stays g group layouts chunks layouts (set_inode chunks agino new) place
inode_touches g layouts group chunks agino old new place at apart uses blocks =
    same_metadata g layouts layouts group chunks (set_inode chunks agino new) place refl
    (λ e. elim uses [
      | inl same ↦ same_header g layouts group chunks (set_inode chunks agino new) (records_same chunks agino old new at same)
      | inr other ↦ absurd (other.0 e)
    ])
    (λ e. elim blocks [
      | inl same ↦ ap (λ (bits : List Bool). part (place - 8) (bitmap bits)) (same_free g.blocks chunks (set_inode chunks agino new) (λ b. used_same b chunks agino old new at (same b)))
      | inr other ↦ absurd (other (of_bitmap place e))
    ])
    (λ e. elim uses [
      | inl same ↦ same_page g layouts group chunks (set_inode chunks agino new) (records_same chunks agino old new at same)
      | inr other ↦ absurd (other.1 (of_page (page_place layouts group) place e))
    ])
    (ap (option_map (inode_sector g layouts group place)) (inode_in-set_other chunks agino place new (λ e. apart (sym e))))
