-- What records say of a number.
use Rattle.std.specs.Prelude.{◌≡◌, ◌-◌, ℕ, true, List, IsSomeAnd, find}
use Rattle.life_bytes.specs.Bits.{is_set}
use Rattle.inobt_leaf.specs.declared.chunk.ChunkRec.{ChunkRec}
use Rattle.inobt_leaf.specs.Chunks.{chunk_holds}

-- a record holds the number, and its bit is set
abbrev pub SaysUnused : List ChunkRec → ℕ → Type 0
SaysUnused records agino =
    IsSomeAnd (find (chunk_holds agino) records) (λ chunk. is_set chunk.mask (agino - chunk.start) ≡ true)
