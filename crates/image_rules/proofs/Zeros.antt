-- A bitmap of zeros has no free block.
use Rattle.std.proofs.Common.{◌≡◌, ◌/◌, ◌%◌, ◌^◌, ℕ, false, List, [], ◌∷◌, All, length, get_or, eqb, inl, inr, refl, ap, ◌∙◌, arith}
use Rattle.std.proofs.lemmas.Bool.{cases_lt}
use Rattle.std.proofs.Math.Nat.{zero-div}
use Rattle.std.proofs.lemmas.List.{get_or_past}
use Rattle.std.proofs.lemmas.List.Elements.{All-nil, All-head, All-tail, All-append, All-replicate, All-same}
use Rattle.std.proofs.lemmas.List.FromFn.{length-map-range_with_len, get_or-map-range_with_len}
use Rattle.life_bytes.specs.declared.sector.Sector.{Sector}
use Rattle.life_bytes.specs.Sectors.{zero_sector}
use Rattle.life_bytes.specs.SectorBytes.{bytes_of}
use Rattle.life_bytes.specs.TableLaws.{bytes_of_zero_sector}
use Rattle.life_bytes.specs.Pieces.{zeros}
use Rattle.free_map.specs.Blocks.{is_block_free}
use Rattle.free_map.specs.Bitmap.{says_free, read_blocks}

all_zero : (sectors : List Sector) → All (λ (s : Sector). s ≡ zero_sector) sectors → All (λ (x : ℕ). x ≡ 0) (bytes_of sectors)
unfolding zeros
all_zero [] all = All-nil (λ (x : ℕ). x ≡ 0)
all_zero (s ∷ ss) all =
    All-append (λ (x : ℕ). x ≡ 0) s.bytes (bytes_of ss)
    (All-same (λ (x : ℕ). x ≡ 0) s.bytes (zeros 512) (bytes_of_zero_sector s (All-head (λ (s : Sector). s ≡ zero_sector) s ss all)) (All-replicate (λ (x : ℕ). x ≡ 0) 512 0 refl))
    (all_zero ss (All-tail (λ (s : Sector). s ≡ zero_sector) s ss all))

zero_at : (bytes : List ℕ) (i : ℕ) → All (λ (x : ℕ). x ≡ 0) bytes → get_or bytes i 0 ≡ 0
zero_at bytes i all = elim (cases_lt i (length bytes)) [ inl lt ↦ all i 0 lt | inr past ↦ get_or_past bytes i 0 past ]

no_bit : (k : ℕ) → eqb (0 / 2 ^ k % 2) 1 ≡ false
no_bit k = ap (λ (x : ℕ). eqb (x % 2) 1) (zero-div (2 ^ k))

pub zero_map : (sectors : List Sector) (n b : ℕ) → All (λ (s : Sector). s ≡ zero_sector) sectors → is_block_free (read_blocks (bytes_of sectors) n) b ≡ false
zero_map sectors n b all =
    let bytes : List ℕ = bytes_of sectors in
    elim (cases_lt b n) [
      | inl lt ↦
          get_or-map-range_with_len (says_free bytes) 0 n b b false lt (omega arith)
          ∙ ap (λ (x : ℕ). eqb (x / 2 ^ (b % 8) % 2) 1) (zero_at bytes (b / 8) (all_zero sectors all))
          ∙ no_bit (b % 8)
      | inr past ↦ get_or_past (read_blocks bytes n) b false (omega (arith, length-map-range_with_len (says_free bytes) 0 n))
    ]
