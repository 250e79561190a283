-- The bytes of a bitmap: what they say, and what is written.
use Rattle.std.proofs.Common.{◌≡◌, ◌<◌, ◌≤◌, ◌+◌, ◌*◌, ◌/◌, ◌%◌, ◌^◌, ℕ, zero, suc, Bool, true, false, cond, eqb, ltb, List, [], ◌∷◌, length, get_or, take, drop, inl, inr, refl, ap, sym, ◌∙◌, arith}
use Rattle.std.specs.Prelude.{◌&&◌}
use Rattle.std.specs.Int.{bit_at, byte_at, bytes_low_first}
use Rattle.std.specs.List.{range_with_len, flat_map, filter}
use Rattle.std.proofs.lemmas.Bool.{cases_eq, cases_lt, lt-ltb, le-ltb, and_left}
use Rattle.std.proofs.lemmas.List.{same_lists, get_or-take, get_or-drop, get_or_past, get_or_default, length-take, length-take-le, length-append}
use Rattle.std.proofs.lemmas.List.Concat.{get_or-flat_map}
use Rattle.std.proofs.lemmas.List.FromFn.{length-map-range_with_len, get_or-map-range_with_len}
use Rattle.std.proofs.lemmas.Nat.{pow-add, pow_pos, and_mask, mod_below}
use Rattle.std.proofs.lemmas.Nat.Bits.{bit_at-lt, bit_at_lowest, bit_at-suc, bit_at-zero, same_from_bits_below}
use Rattle.std.proofs.Math.Nat.{pow-suc, div-one}
use Rattle.byteorder.specs.Endian.{little_bytes}
use Rattle.byteorder.specs.Numbers.{length-bytes_low_first}
use Rattle.free_map.specs.Blocks.{is_block_free}
use Rattle.free_map.specs.Bitmap.{says_free, read_blocks, number_of_bits, bitmap, BitsAreHeld, IsBitmap}
use Rattle.free_map.specs.Words.{block_bit, map_blocks, AreMapWords}
use Rattle.free_map.proofs.Bits.{low_byte}
use Rattle.free_map.proofs.Maps.{is_free_kept, free_blocks_where, length-free_blocks}

-- a bit as a test and a test as a bit
bit_from_test : (n : ℕ) → n < 2 → n ≡ cond (eqb n 1) 1 0
bit_from_test n small =
    elim (cases_eq n 1) [
      | inl one ↦ rw one refl
      | inr other ↦ let nil : n ≡ 0 = omega (arith, other) in rw nil refl
    ]

test_of_bit : (b : Bool) → eqb (cond b 1 0) 1 ≡ b
test_of_bit true = refl
test_of_bit false = refl

cond_small : (b : Bool) → cond b 1 0 < 2
cond_small true = omega arith
cond_small false = omega arith

-- a bit of the number with these bits
bit_at-number : (bits : List Bool) (i : ℕ) → bit_at (number_of_bits bits) i ≡ cond (get_or bits i false) 1 0
bit_at-number [] i = bit_at-zero i
bit_at-number (b ∷ bits) zero =
    let small = cond_small b in
    bit_at_lowest (number_of_bits (b ∷ bits)) ∙ omega (arith, small)
bit_at-number (b ∷ bits) (suc i) =
    let small = cond_small b in
    let half : number_of_bits (b ∷ bits) / 2 ≡ number_of_bits bits = omega (arith, small) in
    bit_at-suc (number_of_bits (b ∷ bits)) i ∙ ap (λ (n : ℕ). bit_at n i) half ∙ bit_at-number bits i

number_below : (bits : List Bool) (k : ℕ) → length bits ≤ k → number_of_bits bits < 2 ^ k
number_below [] k h = pow_pos k
number_below (b ∷ bits) zero h = absurd (omega arith)
number_below (b ∷ bits) (suc k) h =
    omega (arith, cond_small b, number_below bits k (omega arith), pow-suc 2 k)

-- a bit of byte k of a bitmap
bitmap_bit : (blocks : List Bool) (k i : ℕ) → i < 8 → bit_at (number_of_bits (take 8 (drop (8 * k) blocks))) i ≡ cond (is_block_free blocks (8 * k + i)) 1 0
bitmap_bit blocks k i h =
    bit_at-number (take 8 (drop (8 * k) blocks)) i
    ∙ ap (λ (b : Bool). cond b 1 0) (get_or-take 8 (drop (8 * k) blocks) i false h ∙ get_or-drop (8 * k) blocks i false)

-- a byte with the bits that the blocks have is that byte of the bitmap
same_byte : (blocks : List Bool) (k byte : ℕ) → byte < 256 → ((i : ℕ) → i < 8 → eqb (bit_at byte i) 1 ≡ is_block_free blocks (8 * k + i))
    → byte ≡ number_of_bits (take 8 (drop (8 * k) blocks))
same_byte blocks k byte small same =
    same_from_bits_below 8 byte (number_of_bits (take 8 (drop (8 * k) blocks))) (omega arith)
    (number_below (take 8 (drop (8 * k) blocks)) 8 (omega (arith, length-take 8 (drop (8 * k) blocks))))
    (λ i h.
    bit_from_test (bit_at byte i) (bit_at-lt byte i)
    ∙ ap (λ (b : Bool). cond b 1 0) (same i h)
    ∙ sym (bitmap_bit blocks k i h))

length-bitmap : (blocks : List Bool) → length (bitmap blocks) ≡ 2048
length-bitmap blocks = length-map-range_with_len (λ k. number_of_bits (take 8 (drop (8 * k) blocks))) 0 2048

get_or-bitmap : (blocks : List Bool) (k d : ℕ) → k < 2048 → get_or (bitmap blocks) k d ≡ number_of_bits (take 8 (drop (8 * k) blocks))
get_or-bitmap blocks k d h = get_or-map-range_with_len (λ k. number_of_bits (take 8 (drop (8 * k) blocks))) 0 2048 k k d h (omega arith)

-- what is written is read
pub read_blocks-bitmap : (blocks : List Bool) → length blocks ≤ 16384 → read_blocks (bitmap blocks) (length blocks) ≡ blocks
read_blocks-bitmap blocks few =
    same_lists (read_blocks (bitmap blocks) (length blocks)) blocks (length-map-range_with_len (says_free (bitmap blocks)) 0 (length blocks))
    (λ b d l.
    let below : b < length blocks = omega (arith, l, length-map-range_with_len (says_free (bitmap blocks)) 0 (length blocks)) in
    let place : 8 * (b / 8) + b % 8 ≡ b = omega arith in
    get_or-map-range_with_len (says_free (bitmap blocks)) 0 (length blocks) b b d below (omega arith)
    ∙ ap (λ (n : ℕ). eqb n 1) (
    ap (λ (n : ℕ). bit_at n (b % 8)) (get_or-bitmap blocks (b / 8) 0 (omega arith))
    ∙ bitmap_bit blocks (b / 8) (b % 8) (omega arith))
    ∙ test_of_bit (is_block_free blocks (8 * (b / 8) + b % 8))
    ∙ ap (is_block_free blocks) place
    ∙ get_or_default blocks b false d below)

-- what the bytes say of a block, where those from the number of blocks on are clear
is_free-read : (bytes : List ℕ) (n b : ℕ) → IsBitmap bytes n → is_block_free (read_blocks bytes n) b ≡ says_free bytes b
is_free-read bytes n b is =
    elim (cases_lt b n) [
      | inl below ↦ get_or-map-range_with_len (says_free bytes) 0 n b b false below (omega arith)
      | inr past ↦ get_or_past (read_blocks bytes n) b false (omega (arith, past, length-map-range_with_len (says_free bytes) 0 n)) ∙ sym (is.clear b past)
    ]

-- no set has two bitmaps
pub bitmap-read_blocks : (bytes : List ℕ) (n : ℕ) → IsBitmap bytes n → bitmap (read_blocks bytes n) ≡ bytes
bitmap-read_blocks bytes n is =
    same_lists (bitmap (read_blocks bytes n)) bytes (length-bitmap (read_blocks bytes n) ∙ sym is.long)
    (λ k d l.
    let below : k < 2048 = omega (arith, l, length-bitmap (read_blocks bytes n)) in
    get_or-bitmap (read_blocks bytes n) k d below
    ∙ sym (same_byte (read_blocks bytes n) k (get_or bytes k 0) (is.small k) (λ i h.
    let place : (8 * k + i) / 8 ≡ k = omega arith in
    let at : (8 * k + i) % 8 ≡ i = omega arith in
    sym (is_free-read bytes n (8 * k + i) is ∙ rw (place, at) refl)))
    ∙ get_or_default bytes k 0 d (omega (arith, below, is.long)))

pow256 : (j : ℕ) → 256 ^ j ≡ 2 ^ (8 * j)
pow256 zero = refl
pow256 (suc j) =
    let e : 8 * suc j ≡ 8 * j + 8 = omega arith in
    pow-suc 256 j ∙ ap (λ (n : ℕ). n * 256) (pow256 j) ∙ sym (pow-add 2 (8 * j) 8) ∙ ap (λ (n : ℕ). 2 ^ n) (sym e)

byte_at-is : (j x : ℕ) → byte_at j x ≡ x / 2 ^ (8 * j) % 256
byte_at-is zero x = ap (λ (n : ℕ). n % 256) (sym (div-one x))
byte_at-is (suc j) x = ap (λ (n : ℕ). x / n % 256) (pow256 (suc j))

get_or-bytes_low_first : (a n x j : ℕ) → j < n → get_or (bytes_low_first a n x) j 0 ≡ byte_at (a + j) x
get_or-bytes_low_first a zero x j h = absurd (omega arith)
get_or-bytes_low_first a (suc n) x zero h = let e : a + 0 ≡ a = omega arith in rw e refl
get_or-bytes_low_first a (suc n) x (suc j) h =
    let e : suc a + j ≡ a + suc j = omega arith in
    get_or-bytes_low_first (suc a) n x j (omega arith) ∙ ap (λ (k : ℕ). byte_at k x) e

-- a bit of byte j of a word
byte_bit : (x j i : ℕ) → j < 8 → i < 8 → bit_at (get_or (little_bytes 8 x) j 0) i ≡ bit_at x (8 * j + i)
byte_bit x j i h k =
    let e : 0 + j ≡ j = omega arith in
    ap (λ (n : ℕ). bit_at n i) (get_or-bytes_low_first 0 8 x j h ∙ ap (λ (m : ℕ). byte_at m x) e ∙ byte_at-is j x ∙ sym (and_mask (x / 2 ^ (8 * j)) 8))
    ∙ low_byte x (8 * j) i k

length-words : (words : List ℕ) → length (flat_map (little_bytes 8) words) ≡ 8 * length words
length-words [] = refl
length-words (w ∷ words) = omega (arith, length-append (little_bytes 8 w) (flat_map (little_bytes 8) words), length-bytes_low_first 0 8 w, length-words words)

-- byte k of words
get_or-words : (words : List ℕ) (k : ℕ) → k < 8 * length words → get_or (flat_map (little_bytes 8) words) k 0 ≡ get_or (little_bytes 8 (get_or words (k / 8) 0)) (k % 8) 0
get_or-words words k h =
    let place : length (flat_map (little_bytes 8) (take (k / 8) words)) + k % 8 ≡ k =
    omega (arith, length-words (take (k / 8) words), length-take-le (k / 8) words (omega arith)) in
    ap (λ (n : ℕ). get_or (flat_map (little_bytes 8) words) n 0) (sym place)
    ∙ get_or-flat_map (little_bytes 8) words (k / 8) (k % 8) 0 0 (omega arith) (omega (arith, length-bytes_low_first 0 8 (get_or words (k / 8) 0)))

-- the bytes of a map's words are its bitmap
pub bitmap_of_words : (words : List ℕ) (n free : ℕ) → AreMapWords words n free → flat_map (little_bytes 8) words ≡ bitmap (map_blocks words n)
bitmap_of_words words n free kept =
    same_lists (flat_map (little_bytes 8) words) (bitmap (map_blocks words n)) (omega (arith, length-words words, kept.whole, length-bitmap (map_blocks words n)))
    (λ k d l.
    let many : length (flat_map (little_bytes 8) words) ≡ 2048 = omega (arith, length-words words, kept.whole) in
    let below : k < 2048 = omega arith in
    let word : ℕ = get_or words (k / 8) 0 in
    let byte : ℕ = get_or (flat_map (little_bytes 8) words) k 0 in
    let bits : (i : ℕ) → i < 8 → bit_at byte i ≡ bit_at word (8 * (k % 8) + i) = λ i h.
    ap (λ (x : ℕ). bit_at x i) (get_or-words words k (omega (arith, below, kept.whole))) ∙ byte_bit word (k % 8) i (omega arith) h in
    let small : byte < 256 =
    rw (get_or-words words k (omega (arith, below, kept.whole)), byte_of word (k % 8) (omega arith)) (mod_below (word / 2 ^ (8 * (k % 8))) 256 (omega arith)) in
    get_or_default (flat_map (little_bytes 8) words) k d 0 l
    ∙ same_byte (map_blocks words n) k byte small (λ i h.
    let place : (8 * k + i) / 64 ≡ k / 8 = omega arith in
    let at : (8 * k + i) % 64 ≡ 8 * (k % 8) + i = omega arith in
    ap (λ (x : ℕ). eqb x 1) (bits i h)
    ∙ sym (is_free_kept words n free (8 * k + i) kept ∙ rw (place, at) refl))
    ∙ sym (get_or-bitmap (map_blocks words n) k d below))
  where
    byte_of : (x j : ℕ) → j < 8 → get_or (little_bytes 8 x) j 0 ≡ x / 2 ^ (8 * j) % 256
    byte_of x j h = let e : 0 + j ≡ j = omega arith in get_or-bytes_low_first 0 8 x j h ∙ ap (λ (m : ℕ). byte_at m x) e ∙ byte_at-is j x

-- words of 256 whose bits below the number of blocks say what the bytes say, the others cleared
pub kept_read : (words old bytes : List ℕ) (n free : ℕ) → length words ≡ 256 → n ≤ 16384
    → ((b : ℕ) → block_bit words b ≡ (ltb b n && block_bit old b))
    → free ≡ length (filter (block_bit words) (range_with_len 0 (64 * length words))) → AreMapWords words n free
kept_read words old bytes n free whole few cleared counted =
    let clear : (b : ℕ) → n ≤ b → block_bit words b ≡ false = λ b h. cleared b ∙ and_left (ltb b n) (block_bit old b) (le-ltb b n h) in
    record {
      whole = whole;
      few = few;
      clear = clear;
      count = counted ∙ ap length (sym (free_blocks_where words n (64 * length words) clear (omega (arith, whole, few)))) ∙ length-free_blocks (map_blocks words n);
    }

pub blocks_read : (words old bytes : List ℕ) (n : ℕ) → n ≤ 16384
    → ((b : ℕ) → block_bit words b ≡ (ltb b n && block_bit old b)) → ((b : ℕ) → b < 16384 → block_bit old b ≡ says_free bytes b)
    → map_blocks words n ≡ read_blocks bytes n
blocks_read words old bytes n few cleared loaded =
    same_lists (map_blocks words n) (read_blocks bytes n) (length-map-range_with_len (block_bit words) 0 n ∙ sym (length-map-range_with_len (says_free bytes) 0 n))
    (λ b d l.
    let below : b < n = omega (arith, l, length-map-range_with_len (block_bit words) 0 n) in
    get_or-map-range_with_len (block_bit words) 0 n b b d below (omega arith)
    ∙ cleared b
    ∙ ap (λ (t : Bool). t && block_bit old b) (lt-ltb b n below)
    ∙ loaded b (omega arith)
    ∙ sym (get_or-map-range_with_len (says_free bytes) 0 n b b d below (omega arith)))

pub bits_are_held : BitsAreHeld
bits_are_held = record {
  bit = λ bits i. ap (λ (n : ℕ). eqb n 1) (bit_at-number bits i) ∙ test_of_bit (get_or bits i false);
  small = number_below;
  long = length-bitmap;
}
