-- The free blocks of a group without a chunk.
use Rattle.std.proofs.Common.{◌≡◌, ◌<◌, ◌/◌, ◌%◌, ℕ, zero, suc, Bool, false, List, [], ◌∷◌, ◌++◌, length, get_or, eqb, leb, ltb, map, refl, sym, ap, subst, ◌∙◌, inl, inr, arith}
use Rattle.std.specs.Prelude.{◌&&◌, replicate}
use Rattle.std.specs.Int.{bit_at}
use Rattle.std.proofs.Math.Bool.{and-true}
use Rattle.std.proofs.lemmas.Bool.{cases_lt, le-ltb, lt-leb, and_left, and_right}
use Rattle.std.proofs.lemmas.List.{same_lists, get_or_past, get_or_default}
use Rattle.std.proofs.lemmas.List.FromFn.{length-map-range_with_len, get_or-map-range_with_len}
use Rattle.std.proofs.lemmas.Nat.Bits.{bit_at-zero}
use Rattle.life_bytes.specs.declared.sector.Sector.{Sector}
use Rattle.life_bytes.specs.Sectors.{zero_sector}
use Rattle.free_map.specs.Bitmap.{read_blocks, says_free}
use Rattle.life_table.specs.Space.{is_free_block, used, times}
use Rattle.sound_image.specs.Rules.{free_set}

-- bytes that are all zero
abbrev AllZero : List ℕ → Type 0
AllZero bytes = (k : ℕ) → let byte : ℕ = get_or bytes k 0 in byte ≡ 0

zeros : (n : ℕ) → AllZero (replicate n 0)
zeros zero k = refl
zeros (suc n) zero = refl
zeros (suc n) (suc k) = zeros n k

zeros_both : (a b : List ℕ) → AllZero a → AllZero b → AllZero (a ++ b)
zeros_both [] b x y k = y k
zeros_both (byte ∷ a) b x y zero = x 0
zeros_both (byte ∷ a) b x y (suc k) = zeros_both a b (λ j. x (suc j)) y k

none : AllZero []
none k = refl

zeros_four : (a : List ℕ) → AllZero a → AllZero (a ++ (a ++ (a ++ (a ++ []))))
zeros_four a x = zeros_both a (a ++ (a ++ (a ++ []))) x (zeros_both a (a ++ (a ++ [])) x (zeros_both a (a ++ []) x (zeros_both a [] x none)))

-- bytes that are zero say of no block that it is free
none_said : (bytes : List ℕ) (b : ℕ) → AllZero bytes → says_free bytes b ≡ false
none_said bytes b x = ap (λ (n : ℕ). eqb n 1) (ap (λ (n : ℕ). bit_at n (b % 8)) (x (b / 8)) ∙ bit_at-zero (b % 8))

none_free : (bytes : List ℕ) (n b : ℕ) → AllZero bytes → get_or (read_blocks bytes n) b false ≡ false
none_free bytes n b x = elim (cases_lt b n) [
  | inl lt ↦ get_or-map-range_with_len (says_free bytes) 0 n b b false lt (omega arith) ∙ none_said bytes b x
  | inr le ↦ get_or_past (read_blocks bytes n) b false (omega (arith, length-map-range_with_len (says_free bytes) 0 n))
]

-- the map of four zero sectors
pub read_blank : (blocks : ℕ) (blank : Sector) (map : List Bool) → blank ≡ zero_sector → map ≡ read_blocks (blank.bytes ++ (blank.bytes ++ (blank.bytes ++ (blank.bytes ++ [])))) blocks
    → (length map ≡ blocks) × ((b : ℕ) → get_or map b false ≡ false)
read_blank blocks blank map is read =
    let x : AllZero blank.bytes = subst (λ (s : Sector). AllZero s.bytes) (sym is) (zeros 512) in
    let bytes = blank.bytes ++ (blank.bytes ++ (blank.bytes ++ (blank.bytes ++ []))) in (
      ap length read ∙ length-map-range_with_len (says_free bytes) 0 blocks,
      λ b. ap (λ (m : List Bool). get_or m b false) read ∙ none_free bytes blocks b (zeros_four blank.bytes x),
    )

-- each data block of such a group is free
same_block : (blocks b : ℕ) → b < blocks → (leb 24 b && ltb b blocks) ≡ is_free_block blocks [] b
unfolding is_free_block used times
same_block blocks b lt = ap (λ (x : Bool). leb 24 b && x) (sym (and-true (ltb b blocks)))

pub free_set_of : (blocks : ℕ) (map : List Bool) → length map ≡ blocks → ((b : ℕ) → get_or map b false ≡ (leb 24 b && ltb b blocks)) → map ≡ free_set blocks []
unfolding free_set
free_set_of blocks map long each =
    let size = length-map-range_with_len (is_free_block blocks []) 0 blocks in
    same_lists map (free_set blocks []) (long ∙ sym size) (λ k d lt.
    let low : k < blocks = omega arith in
    get_or_default map k d false lt ∙ each k ∙ same_block blocks k low ∙ sym (get_or-map-range_with_len (is_free_block blocks []) 0 blocks k k d low (omega arith)))

-- up to the first data block none is
pub none_below : (b : ℕ) → false ≡ (leb 24 b && ltb b 24)
none_below b = elim (cases_lt b 24) [
  | inl lt ↦ sym (and_left (leb 24 b) (ltb b 24) (lt-leb 24 b lt))
  | inr le ↦ sym (and_right (leb 24 b) (ltb b 24) (le-ltb b 24 le))
]
