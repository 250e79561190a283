-- The places that are enough for a create.
use Rattle.std.proofs.Common.{◌≡◌, ◌+◌, ◌*◌, ◌/◌, ◌%◌, ◌<◌, ◌≤◌, ◌⊎◌, ℕ, Bool, true, false, List, [], ◌∷◌, ◌++◌, Option, None, Some, length, get_or, eqb, leb, ltb, inl, inr, refl, ap, sym, subst, ◌∙◌, get_or-set_same, arith}
use Rattle.std.specs.Prelude.{◌≢◌, ◌&&◌, Contains, is_none, is_some, slice_get}
use Rattle.std.specs.List.{AllByRecursion}
use Rattle.std.proofs.lemmas.Bool.{and_parts, cases_eq, cases_lt, cond-false, cond-true, leb-true, ltb-true}
use Rattle.std.proofs.lemmas.Option.{none-some, same_Some}
use Rattle.std.proofs.lemmas.List.FromFn.{length-range_with_len}
use Rattle.life_limits.specs.declared.TheConstants.{BLOCK_SECTORS, BUCKETS, CHUNK_INODES, FIRST_DATA_BLOCK, FIRST_PAGE_BLOCK, GROUP_NUMBERS, LAST_PAGE_BLOCK, MAX_IMAGES}
use Rattle.life_bytes.specs.declared.sector.Sector.{Sector}
use Rattle.geometry.specs.declared.shape.Geometry.{Geometry}
use Rattle.geometry.specs.Places.{group_sectors}
use Rattle.life_table.specs.declared.key.Key.{Key}
use Rattle.life_table.specs.declared.table.Inode.{Inode}
use Rattle.life_table.specs.declared.table.Table.{Table}
use Rattle.life_table.specs.Legal.{IsNextKey, prepare}
use Rattle.life_table.specs.Table.{Group, group_at, inode_in, inode_of, set_inode}
use Rattle.life_table.specs.Space.{chunk_place, free_keys, insert_chunk, is_free_block, lowest_key, new_chunk, prepared, row_blocks, times, used, with_chunk}
use Rattle.sound_image.specs.Places.{bitmap_place, bitmap_sectors, header_place}
use Rattle.sound_image.specs.Encoding.{Layouts, CanEncode, is_unlinked_row, page_of, page_place}
use Rattle.encoded_changes.specs.Carry.{Stays}
use Rattle.encoded_changes.specs.Changes.{IsChunkPlace, IsOfBitmap, IsOfNoNewChunk, IsOfPage, Relists, unused_inode}
use Rattle.change_images.specs.Enough.{AreEnough, IsInodeOf, bitmap_places, chunk_places, page_places, bitmap_part}
use Rattle.change_images.proofs.Blocks.{free_inserted, free_same, lowest_of_new}
use Rattle.change_images.proofs.Lists.{In, Up, from_range, in_left, in_range, in_right, length-joined, to_range, up-range, weaker}
use Rattle.change_images.proofs.Lower.{BitmapsTouch, ChunkPlace, CreatedInGroup, CreatedInode, CreatesTouch, HasPlace}
use Rattle.change_images.proofs.Covered.{Within, between, bits_or_not, by_kinds, enough, page_or_not, pages}
use Rattle.change_images.proofs.Touching.{Known, known}
use Rattle.change_images.proofs.Events.{big_of, free_list, free_within, from_eight, in_bits, in_inodes, in_page, own_place, with_header, with_page}

-- ---- the group as a create finds it

abbrev next_of : Table → ℕ → Key → Inode → Group
next_of t group key new = set_inode (prepared t.blocks group (group_at t group)) (key.number % GROUP_NUMBERS) new

prepared_some : (blocks g : ℕ) (chunks : Group) → is_some (lowest_key g chunks) ≡ true → prepared blocks g chunks ≡ chunks
unfolding prepared
prepared_some blocks g chunks is = cond-true (is_some (lowest_key g chunks)) chunks (with_chunk chunks (chunk_place blocks chunks)) is

prepared_new : (blocks g block : ℕ) (chunks : Group) → lowest_key g chunks ≡ None → chunk_place blocks chunks ≡ Some block → prepared blocks g chunks ≡ insert_chunk (new_chunk block) chunks
unfolding prepared
prepared_new blocks g block chunks none place =
    cond-false (is_some (lowest_key g chunks)) chunks (with_chunk chunks (chunk_place blocks chunks)) (ap (λ (o : Option Key). is_some o) none) ∙ ap (with_chunk chunks) place

own : (t : Table) (group : ℕ) (key : Key) → group < length t.groups → key.number / GROUP_NUMBERS ≡ group → inode_of (prepare t group) key.number ≡ Some (unused_inode key)
    → inode_in (prepared t.blocks group (group_at t group)) (key.number % GROUP_NUMBERS) ≡ Some (unused_inode key)
unfolding inode_of
own t group key lt in_group found =
    let new : Group = prepared t.blocks group (group_at t group) in
    let at : group_at (prepare t group) group ≡ new = get_or-set_same t.groups group new [] lt in
    ap (λ (x : Group). inode_in x (key.number % GROUP_NUMBERS)) (sym at)
    ∙ ap (λ (n : ℕ). inode_in (group_at (prepare t group) n) (key.number % GROUP_NUMBERS)) (sym in_group)
    ∙ found

-- ---- in a chunk that there is

pub in_chunk : (g : Geometry) (t : Table) (layouts others : Layouts) (image : List Sector) (group : ℕ) (key : Key) (new : Inode) → HasPlace → CreatesTouch → CreatedInGroup → CreatedInode
    → CanEncode g t layouts image → group < g.groups → IsNextKey t group key → Relists layouts group (key.number % GROUP_NUMBERS) false (is_unlinked_row new.row) others
    → row_blocks new.row ≡ [] → is_some (lowest_key group (group_at t group)) ≡ true
    → AreEnough g group layouts (group_at t group) others (next_of t group key new) (header_place ∷ (page_places layouts group ++ key.number % GROUP_NUMBERS ∷ []))
in_chunk g t layouts others image group key new has_place touch in_group created can lt is_next relists none some =
    let agino : ℕ = key.number % GROUP_NUMBERS in
    let places : List ℕ = header_place ∷ (page_places layouts group ++ agino ∷ []) in
    let found : inode_in (group_at t group) agino ≡ Some (unused_inode key) =
    ap (λ (x : Group). inode_in x agino) (sym (prepared_some t.blocks group (group_at t group) some))
    ∙ own t group key is_next.0 (in_group t group key can.table is_next) (created t group key can.table is_next) in
    let k = known g t layouts image group agino (unused_inode key) has_place (record { encodes = can; within = lt; found = found }) in
    let big = big_of g layouts group agino k in
    let last : Within 16 (group_sectors g) (page_places layouts group ++ agino ∷ []) = with_page g layouts group agino (agino ∷ []) k (own_place g layouts group agino k) in
    let is : Within 0 (group_sectors g) places = with_header g (page_places layouts group ++ agino ∷ []) big (lower g (page_places layouts group ++ agino ∷ []) last) in
    enough g group layouts others (group_at t group) (next_of t group key new) places is.up is.to
    (omega (arith, length-joined (page_places layouts group) (agino ∷ []), length-range_with_len (page_place layouts group) BLOCK_SECTORS))
    (λ place low.
    by_kinds (Stays g group layouts (group_at t group) others (next_of t group key new)) places (λ p. p ≢ header_place) (λ p. ¬ IsOfPage layouts group p) (λ p. IsOfNoNewChunk t group p) agino place
    (inr (in_right agino (page_places layouts group) (agino ∷ []) (inl refl)))
    (elim (cases_eq place header_place) [ inl same ↦ inl (inl (sym same)) | inr apart ↦ inr apart ])
    (elim (page_or_not layouts group place) [ inl has ↦ inl (inr (in_left place (page_places layouts group) (agino ∷ []) has)) | inr out ↦ inr out ])
    (inr (inr (inl some)))
    (λ apart no_header no_page no_chunk. touch g t layouts others group key new place can.table is_next relists none no_header no_page apart no_chunk))
  where
    lower : (g : Geometry) (places : List ℕ) → Within 16 (group_sectors g) places → Within 8 (group_sectors g) places
    lower g places is = record { up = is.up; from = weaker (λ p. 16 ≤ p) (λ p. 8 ≤ p) places (λ p more. omega (arith, more)) is.from; to = is.to }

-- ---- in a new chunk

free_bounds : (blocks : ℕ) (chunks : Group) (block : ℕ) → is_free_block blocks chunks block ≡ true → (FIRST_DATA_BLOCK ≤ block) × (block < blocks)
unfolding is_free_block
free_bounds blocks chunks block e =
    let outer = and_parts (leb FIRST_DATA_BLOCK block) (ltb block blocks && eqb (times block (used chunks)) 0) e in
    (leb-true FIRST_DATA_BLOCK block outer.0, ltb-true block blocks (and_parts (ltb block blocks) (eqb (times block (used chunks)) 0) outer.1).0)

start_is : (block : ℕ) → (new_chunk block).start ≡ block * BLOCK_SECTORS
unfolding new_chunk
start_is block = refl

-- where a new chunk is, and that the key is of its first inode
record NewPlace (g : Geometry) (block agino : ℕ) : Type 0 where
  aligned : block % 8 ≡ 0
  low : 24 ≤ block
  high : block + 7 < g.blocks
  first : agino ≡ block * 8

new_place : (g : Geometry) (t : Table) (layouts : Layouts) (image : List Sector) (group block : ℕ) (key : Key) → ChunkPlace → CanEncode g t layouts image → IsNextKey t group key
    → lowest_key group (group_at t group) ≡ None → chunk_place t.blocks (group_at t group) ≡ Some block → NewPlace g block (key.number % GROUP_NUMBERS)
new_place g t layouts image group block key chunk can is_next none place =
    let says = chunk t.blocks (group_at t group) block place in
    let run = says.2 in
    let low = (free_bounds t.blocks (group_at t group) block (run.1 block (omega arith) (omega arith))).0 in
    let high = (free_bounds t.blocks (group_at t group) (block + 7) (run.1 (block + 7) (omega arith) (omega arith))).1 in
    let chosen : Some (record { number = group * GROUP_NUMBERS + block * BLOCK_SECTORS; generation = 1 }) ≡ Some key =
    sym (lowest_of_new group block (group_at t group) none)
    ∙ ap (λ (x : Group). slice_get (free_keys group x) 0) (sym (prepared_new t.blocks group block (group_at t group) none place))
    ∙ is_next.1 in
    let number : group * GROUP_NUMBERS + block * BLOCK_SECTORS ≡ key.number = ap (λ (k : Key). k.number) (same_Some (record { number = group * GROUP_NUMBERS + block * BLOCK_SECTORS; generation = 1 }) key chosen) in
    let most = can.table.most in
    record {
      aligned = run.0;
      low = low;
      high = omega (arith, high, can.blocks);
      first = omega (arith, number, high, most);
    }

-- a block of another part of the bitmap is none of the new chunk's
apart_of : (block b : ℕ) → block % 8 ≡ 0 → bitmap_part b ≢ bitmap_part block → (b < block) ⊎ (block + 8 ≤ b)
apart_of block b aligned apart =
    elim (cases_lt b block) [
      | inl low ↦ inl low
      | inr from ↦ elim (cases_lt b (block + 8)) [
        | inl under ↦ absurd (apart (omega (arith, aligned, from, under)))
        | inr past ↦ inr past
      ]
    ]

same_free : (blocks : ℕ) (t : Table) (group block : ℕ) (key : Key) (new : Inode) (b : ℕ) → inode_in (prepared t.blocks group (group_at t group)) (key.number % GROUP_NUMBERS) ≡ Some (unused_inode key)
    → row_blocks new.row ≡ [] → prepared t.blocks group (group_at t group) ≡ insert_chunk (new_chunk block) (group_at t group) → (b < block) ⊎ (block + 8 ≤ b)
    → is_free_block blocks (next_of t group key new) b ≡ is_free_block blocks (group_at t group) b
same_free blocks t group block key new b found none is out =
    free_same blocks (prepared t.blocks group (group_at t group)) (key.number % GROUP_NUMBERS) (unused_inode key) new b found (ap (times b) none)
    ∙ ap (λ (x : Group). is_free_block blocks x b) is
    ∙ free_inserted blocks block (group_at t group) b out

chunk_within : (g : Geometry) (block agino : ℕ) → NewPlace g block agino → Within 192 (group_sectors g) (chunk_places (block * 8))
chunk_within g block agino is =
    let low : 192 ≤ block * 8 = omega (arith, is.low) in
    record {
      up = up-range (block * 8) CHUNK_INODES;
      from = weaker (λ p. block * 8 ≤ p) (λ p. 192 ≤ p) (chunk_places (block * 8)) (λ p more. omega (arith, low, more)) (from_range (block * 8) CHUNK_INODES);
      to = to_range (block * 8) CHUNK_INODES (group_sectors g) (omega (arith, is.high));
    }

pub in_new_chunk : (g : Geometry) (t : Table) (layouts others : Layouts) (image : List Sector) (group block : ℕ) (key : Key) (new : Inode) → CreatesTouch → BitmapsTouch → ChunkPlace → CreatedInGroup → CreatedInode
    → CanEncode g t layouts image → group < g.groups → IsNextKey t group key → Relists layouts group (key.number % GROUP_NUMBERS) false (is_unlinked_row new.row) others
    → row_blocks new.row ≡ [] → lowest_key group (group_at t group) ≡ None → chunk_place t.blocks (group_at t group) ≡ Some block
    → AreEnough g group layouts (group_at t group) others (next_of t group key new) (header_place ∷ (bitmap_place + bitmap_part block) ∷ (page_places layouts group ++ chunk_places (block * BLOCK_SECTORS)))
in_new_chunk g t layouts others image group block key new touch bitmaps chunk in_group created can lt is_next relists none lowest place_of =
    let agino : ℕ = key.number % GROUP_NUMBERS in
    let spot = new_place g t layouts image group block key chunk can is_next lowest place_of in
    let first : agino ≡ block * 8 = spot.first in
    let inodes : List ℕ = chunk_places (block * 8) in
    let parts : List ℕ = bitmap_part block ∷ [] in
    let places : List ℕ = free_list layouts group parts inodes in
    let found = own t group key is_next.0 (in_group t group key can.table is_next) (created t group key can.table is_next) in
    let new_group = prepared_new t.blocks group block (group_at t group) lowest place_of in
    let k : Known g layouts group agino = record {
      low = omega (arith, spot.low, first);
      high = omega (arith, spot.high, first);
      pages = can.layouts_of.pages group (omega (arith, lt, can.groups));
    } in
    let most = can.table.most in
    let small : bitmap_part block < bitmap_sectors = omega (arith, spot.high, can.blocks, most) in
    let is : Within 0 (group_sectors g) places = free_within g layouts group agino parts inodes k (tt, tt) (small, tt) (chunk_within g block agino spot) in
    enough g group layouts others (group_at t group) (next_of t group key new) places is.up is.to
    (omega (arith, length-joined (page_places layouts group) inodes, length-range_with_len (page_place layouts group) BLOCK_SECTORS, length-range_with_len (block * 8) CHUNK_INODES))
    (λ place low.
    by_kinds (Stays g group layouts (group_at t group) others (next_of t group key new)) places (λ p. p ≢ header_place) (λ p. ¬ IsOfPage layouts group p) (λ p. IsOfNoNewChunk t group p) agino place
    (in_inodes layouts group agino parts inodes (in_range (block * 8) CHUNK_INODES agino (omega (arith, first)) (omega (arith, first))))
    (elim (cases_eq place header_place) [ inl same ↦ inl (inl (sym same)) | inr apart ↦ inr apart ])
    (elim (page_or_not layouts group place) [ inl has ↦ inl (in_page layouts group parts inodes place has) | inr out ↦ inr out ])
    (elim (bits_or_not g layouts others group (group_at t group) (next_of t group key new) parts place bitmaps (λ b. elim (cases_eq (bitmap_part block) (bitmap_part b)) [
      | inl same ↦ inr (0, omega arith, same)
      | inr apart ↦ inl (same_free g.blocks t group block key new b found none new_group (apart_of block b spot.aligned (λ e. apart (sym e))))
    ])) [
      | inl stays ↦ inl stays
      | inr rest ↦ elim rest [
        | inl has ↦ inr (inl (in_bits layouts group parts inodes place has))
        | inr no_bits ↦ elim (between (block * 8) (block * 8 + CHUNK_INODES) place) [
          | inl both ↦ inr (inl (in_inodes layouts group place parts inodes (in_range (block * 8) CHUNK_INODES place both.0 both.1)))
          | inr out ↦ inr (inr (inr (no_bits, λ b e here. out (placed block b place (same_Some block b (sym place_of ∙ e)) here))))
        ]
      ]
    ])
    (λ apart no_header no_page no_chunk. touch g t layouts others group key new place can.table is_next relists none no_header no_page apart no_chunk))
  where
    placed : (block b place : ℕ) → block ≡ b → IsChunkPlace (new_chunk b).start place → (block * 8 ≤ place) × (place < block * 8 + CHUNK_INODES)
    placed block b place same here =
        let is = start_is b in
        (omega (arith, same, is, here.0), omega (arith, same, is, here.1))
