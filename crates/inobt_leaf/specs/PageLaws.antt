-- What a leaf's page tells.
use Rattle.std.specs.Prelude.{◌≡◌, ℕ, List, length}
use Rattle.life_limits.specs.declared.TheConstants.{BLOCK_BYTES}
use Rattle.inobt_leaf.specs.declared.chunk.ChunkRec.{ChunkRec}
use Rattle.inobt_leaf.specs.declared.siblings.Siblings.{Siblings}
use Rattle.inobt_leaf.specs.Chunks.{IsLeaf}
use Rattle.inobt_leaf.specs.Pages.{AreSiblings, leaf_encoding, chunks_in}

-- The page of a leaf's chunks has 4,096 bytes, whatever its siblings, and its records give those chunks.
pub record PagesAreRead : Type 0 where
  pub read : (siblings : Siblings) (chunks : List ChunkRec) (group at : ℕ) (uuid : List ℕ) → IsLeaf chunks → length uuid ≡ 16
      → chunks_in (leaf_encoding siblings chunks group at uuid) ≡ chunks
  pub long : (siblings : Siblings) (chunks : List ChunkRec) (group at : ℕ) (uuid : List ℕ) → IsLeaf chunks → length uuid ≡ 16
      → length (leaf_encoding siblings chunks group at uuid) ≡ BLOCK_BYTES

-- No page is that of two leaves, or of one leaf between two pairs of siblings.
pub record PagesTellLeaves : Type 0 where
  pub chunks : (s r : Siblings) (a b : List ChunkRec) (group at : ℕ) (uuid : List ℕ) → IsLeaf a → IsLeaf b → length uuid ≡ 16
      → leaf_encoding s a group at uuid ≡ leaf_encoding r b group at uuid → a ≡ b
  pub siblings : (s r : Siblings) (a b : List ChunkRec) (group at : ℕ) (uuid : List ℕ) → AreSiblings s → AreSiblings r → IsLeaf a → IsLeaf b
      → length uuid ≡ 16 → leaf_encoding s a group at uuid ≡ leaf_encoding r b group at uuid → s ≡ r
