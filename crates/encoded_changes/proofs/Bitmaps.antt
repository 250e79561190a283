-- A sector of the bitmap carries of the blocks of its part alone.
use Rattle.std.proofs.Common.{◌≡◌, ◌<◌, ◌+◌, ◌-◌, ◌*◌, ◌/◌, ℕ, Bool, List, Some, length, take, drop, get_or, eqb, inl, inr, ap, sym, ◌∙◌, arith}
use Rattle.std.proofs.lemmas.Bool.{cases_lt, cond-false, cond-true, ne_eqb, and_from, le-leb, lt-ltb}
use Rattle.std.proofs.lemmas.List.{get_or-drop, get_or-take, get_or_past, length-drop, length-take, same_lists}
use Rattle.std.proofs.lemmas.List.FromFn.{length-map-range_with_len, get_or-map-range_with_len}
use Rattle.life_limits.specs.declared.TheConstants.{SECTOR_BYTES}
use Rattle.geometry.specs.declared.shape.Geometry.{Geometry}
use Rattle.free_map.specs.Bitmap.{bitmap, number_of_bits}
use Rattle.life_table.specs.Table.{Group}
use Rattle.life_table.specs.Space.{is_free_block}
use Rattle.sound_image.specs.Places.{part}
use Rattle.sound_image.specs.Rules.{free_set}
use Rattle.sound_image.specs.Encoding.{Layouts, metadata}
use Rattle.encoded_changes.specs.Carry.{Stays}
use Rattle.encoded_changes.proofs.Places.{by_tests, is_bitmap}

-- lists that are the same at some places
same_part : {X : Type 0} (xs ys : List X) (s n : ℕ) → length xs ≡ length ys → ((i : ℕ) (d : X) → i < n → get_or xs (s + i) d ≡ get_or ys (s + i) d)
    → take n (drop s xs) ≡ take n (drop s ys)
same_part xs ys s n long each =
    let a = length-take n (drop s xs) in
    let b = length-take n (drop s ys) in
    let c = length-drop s xs in
    let e = length-drop s ys in
    same_lists (take n (drop s xs)) (take n (drop s ys)) (omega (arith, a, b, c, e, long))
    (λ i d lt.
    let low : i < n = omega (arith, a, lt) in
    get_or-take n (drop s xs) i d low ∙ get_or-drop s xs i d ∙ each i d low ∙ sym (get_or-drop s ys i d) ∙ sym (get_or-take n (drop s ys) i d low))

length-free : (blocks : ℕ) (chunks : Group) → length (free_set blocks chunks) ≡ blocks
unfolding free_set
length-free blocks chunks = length-map-range_with_len (is_free_block blocks chunks) 0 blocks

bit_at_block : (blocks : ℕ) (chunks : Group) (block : ℕ) (d : Bool) → block < blocks → get_or (free_set blocks chunks) block d ≡ is_free_block blocks chunks block
unfolding free_set
bit_at_block blocks chunks block d lt = get_or-map-range_with_len (is_free_block blocks chunks) 0 blocks block block d lt (omega arith)

same_bit : (blocks : ℕ) (chunks next : Group) (block : ℕ) (d : Bool) → is_free_block blocks next block ≡ is_free_block blocks chunks block
    → get_or (free_set blocks next) block d ≡ get_or (free_set blocks chunks) block d
same_bit blocks chunks next block d same =
    elim (cases_lt block blocks) [
      | inl lt ↦ bit_at_block blocks next block d lt ∙ same ∙ sym (bit_at_block blocks chunks block d lt)
      | inr past ↦
          get_or_past (free_set blocks next) block d (omega (arith, past, length-free blocks next))
          ∙ sym (get_or_past (free_set blocks chunks) block d (omega (arith, past, length-free blocks chunks)))
    ]

abbrev byte_of : List Bool → ℕ → ℕ
byte_of bits k = number_of_bits (take 8 (drop (8 * k) bits))

same_byte : (blocks : ℕ) (chunks next : Group) (k j : ℕ) → j / SECTOR_BYTES ≡ k
    → ((block : ℕ) → block / (8 * SECTOR_BYTES) ≡ k → is_free_block blocks next block ≡ is_free_block blocks chunks block)
    → byte_of (free_set blocks next) j ≡ byte_of (free_set blocks chunks) j
same_byte blocks chunks next k j own same =
    ap number_of_bits (same_part (free_set blocks next) (free_set blocks chunks) (8 * j) 8 (length-free blocks next ∙ sym (length-free blocks chunks))
    (λ i d low. same_bit blocks chunks next (8 * j + i) d (same (8 * j + i) (omega (arith, own, low)))))

same_sector : (blocks : ℕ) (chunks next : Group) (k : ℕ) → k < 4
    → ((block : ℕ) → block / (8 * SECTOR_BYTES) ≡ k → is_free_block blocks next block ≡ is_free_block blocks chunks block)
    → part k (bitmap (free_set blocks next)) ≡ part k (bitmap (free_set blocks chunks))
unfolding part
same_sector blocks chunks next k low same =
    let a : List Bool = free_set blocks next in
    let b : List Bool = free_set blocks chunks in
    same_part (bitmap a) (bitmap b) (SECTOR_BYTES * k) SECTOR_BYTES (length-map-range_with_len (byte_of a) 0 2048 ∙ sym (length-map-range_with_len (byte_of b) 0 2048))
    (λ i d lt.
    get_or-map-range_with_len (byte_of a) 0 2048 (SECTOR_BYTES * k + i) (SECTOR_BYTES * k + i) d (omega arith) (omega arith)
    ∙ same_byte blocks chunks next k (SECTOR_BYTES * k + i) (omega arith) same
    ∙ sym (get_or-map-range_with_len (byte_of b) 0 2048 (SECTOR_BYTES * k + i) (SECTOR_BYTES * k + i) d (omega arith) (omega arith)))

pub at_bitmap : (g : Geometry) (layouts : Layouts) (group : ℕ) (chunks : Group) (k : ℕ) → k < 4 → metadata g layouts group chunks (8 + k) ≡ Some (part k (bitmap (free_set g.blocks chunks)))
at_bitmap g layouts group chunks k lt =
    let back : 8 + k - 8 ≡ k = omega arith in
    by_tests g layouts group chunks (8 + k)
    ∙ cond-false (eqb (8 + k) 2) _ _ (ne_eqb (8 + k) 2 (λ e. omega arith))
    ∙ cond-true (is_bitmap (8 + k)) _ _ (and_from _ _ (le-leb 8 (8 + k) (omega arith)) (lt-ltb (8 + k) 12 (omega arith)))
    ∙ ap (λ (n : ℕ). Some (part n (bitmap (free_set g.blocks chunks)))) back

pub bitmap_touches : (g : Geometry) (layouts others : Layouts) (group : ℕ) (chunks next : Group) (k : ℕ) → k < 4
    → ((block : ℕ) → block / (8 * SECTOR_BYTES) ≡ k → is_free_block g.blocks next block ≡ is_free_block g.blocks chunks block)
    → Stays g group layouts chunks others next (8 + k)
bitmap_touches g layouts others group chunks next k low same =
    at_bitmap g others group next k low
    ∙ ap (λ (bytes : List ℕ). Some bytes) (same_sector g.blocks chunks next k low same)
    ∙ sym (at_bitmap g layouts group chunks k low)
