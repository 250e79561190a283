-- A leaf as a page of 4,096 bytes: a block of an inode btree at level 0.
use Rattle.std.specs.Prelude.{◌+◌, ◌*◌, ◌<◌, ℕ, Option, None, Some, IfSome, List, [], ◌∷◌, ◌++◌, length, replicate, map}
use Rattle.std.specs.List.{range_with_len}
use Rattle.life_limits.specs.declared.TheConstants.{BLOCK_BYTES}
use Rattle.life_bytes.specs.Fields.{field}
use Rattle.life_bytes.specs.Pieces.{Field, number, piece, placed, sealed}
use Rattle.inobt_leaf.specs.declared.writing.TheConstants.{LEAF_CRC_AT, LEAF_RECORDS_AT}
use Rattle.inobt_leaf.specs.declared.chunk.ChunkRec.{ChunkRec}
use Rattle.inobt_leaf.specs.declared.siblings.Siblings.{Siblings}

-- `IAB3` in ASCII
abbrev pub page_magic : ℕ
page_magic = 0x4941_4233

-- what stands in place of a sibling's block where there is none
abbrev pub no_sibling : ℕ
no_sibling = 0xFFFF_FFFF

abbrev pub sibling_number : Option ℕ → ℕ
sibling_number None = no_sibling
sibling_number (Some block) = block

-- no block is the number that stands where there is none
pub record AreSiblings (siblings : Siblings) : Type 0 where
  pub left : IfSome siblings.left (λ block. block < no_sibling)
  pub right : IfSome siblings.right (λ block. block < no_sibling)

-- the only leaf of a tree has no siblings
abbrev pub no_siblings : Siblings
no_siblings = record { left = None; right = None }

-- the header of a leaf between its siblings, of so many records, of a group, whose first sector has this place in the
-- image; the level and the lsn are zero
abbrev pub page_header : Siblings → ℕ → ℕ → ℕ → List ℕ → List Field
page_header siblings count group at uuid =
    number 0 4 page_magic
    ∷ number 6 2 count
    ∷ number 8 4 (sibling_number siblings.left)
    ∷ number 12 4 (sibling_number siblings.right)
    ∷ number 16 8 at
    ∷ piece 32 16 uuid
    ∷ number 48 4 group
    ∷ []

-- a chunk's record of 16 bytes
abbrev pub chunk_rows : ℕ → ChunkRec → List Field
chunk_rows place chunk =
    number place 4 chunk.start
    ∷ number (place + 4) 4 chunk.free
    ∷ number (place + 8) 8 chunk.mask
    ∷ []

-- the records from a place on
abbrev pub chunk_records : ℕ → List ChunkRec → List Field
chunk_records place [] = []
chunk_records place (chunk ∷ chunks) = chunk_rows place chunk ++ chunk_records (place + 16) chunks

-- a page of zero bytes
unfoldable pub blank_page : List ℕ
blank_page = replicate BLOCK_BYTES 0

-- the page of a leaf between its siblings: its fields over zeros, and the checksum in its place
unfoldable pub leaf_encoding : Siblings → List ChunkRec → ℕ → ℕ → List ℕ → List ℕ
leaf_encoding siblings chunks group at uuid =
    sealed LEAF_CRC_AT (placed (page_header siblings (length chunks) group at uuid ++ chunk_records LEAF_RECORDS_AT chunks) blank_page)

-- the page of the only leaf of a tree
abbrev pub page_encoding : List ChunkRec → ℕ → ℕ → List ℕ → List ℕ
page_encoding chunks group at uuid = leaf_encoding no_siblings chunks group at uuid

-- the record that stands at a place
abbrev pub chunk_at : List ℕ → ℕ → ChunkRec
chunk_at bytes place = record { start = field 4 place bytes; free = field 4 (place + 4) bytes; mask = field 8 (place + 8) bytes }

-- the chunks that a page's records give, whatever else the page holds
abbrev pub chunks_in : List ℕ → List ChunkRec
chunks_in bytes = map (λ i. chunk_at bytes (LEAF_RECORDS_AT + 16 * i)) (range_with_len 0 (field 2 6 bytes))
