-- What is read of an image.
use Rattle.std.specs.Prelude.{◌≡◌, ◌+◌, ◌*◌, ◌<◌, ℕ, List, length, sum_by}
use Rattle.life_limits.specs.declared.TheConstants.{CHUNK_INODES}
use Rattle.life_bytes.specs.declared.sector.Sector.{Sector}
use Rattle.ag_header.specs.declared.agi.Agi.{Agi}
use Rattle.inobt_leaf.specs.declared.chunk.ChunkRec.{ChunkRec}
use Rattle.sound_image.specs.Places.{bytes_at}

-- the image has these sectors from one on
pub record Shows (image : List Sector) (s : ℕ) (sectors : List Sector) : Type 0 where
  pub each : (k : ℕ) → k < length sectors → bytes_at image (s + k) ≡ bytes_at sectors k

-- the header counts the inodes of these chunks, and the free ones among them
pub record Counts (header : Agi) (chunks : List ChunkRec) : Type 0 where
  pub count : header.count ≡ CHUNK_INODES * length chunks
  pub free : header.free ≡ sum_by (λ (chunk : ChunkRec). chunk.free) chunks
