-- The places that are enough for a link or unlink, a grow or cut, and a free.
use Rattle.std.proofs.Common.{◌≡◌, ◌+◌, ◌*◌, ◌/◌, ◌%◌, ◌<◌, ◌≤◌, ◌⊎◌, ℕ, List, [], ◌∷◌, ◌++◌, Some, length, inl, inr, refl, ap, sym, subst, ◌∙◌, arith}
use Rattle.std.specs.Prelude.{◌≢◌, is_none}
use Rattle.std.specs.List.{AllByRecursion}
use Rattle.std.proofs.lemmas.List.Elements.{recursion_from_All}
use Rattle.std.proofs.lemmas.List.FromFn.{length-range_with_len}
use Rattle.life_limits.specs.declared.TheConstants.{BLOCK_SECTORS, BUCKETS, MAX_IMAGES}
use Rattle.life_bytes.specs.declared.sector.Sector.{Sector}
use Rattle.geometry.specs.declared.shape.Geometry.{Geometry}
use Rattle.geometry.specs.Places.{group_sectors}
use Rattle.life_table.specs.declared.table.Inode.{Inode}
use Rattle.life_table.specs.declared.table.Table.{Table}
use Rattle.life_table.specs.Table.{Group, group_at, inode_in, set_inode}
use Rattle.sound_image.specs.Places.{bitmap_place, bitmap_sectors, header_place}
use Rattle.sound_image.specs.Encoding.{Layouts, CanEncode, bucket_list, head_of, next_in, page_place}
use Rattle.encoded_changes.specs.Changes.{HaveSameBlocks, PutsFirst, TakesOut}
use Rattle.change_images.specs.Enough.{AreEnoughFor, AreParts, IsInodeOf, bitmap_places, in_order, page_places}
use Rattle.change_images.proofs.Lists.{In, Up, in_left, in_right, length-joined, length-plus, up-few, up_from}
use Rattle.change_images.proofs.Lower.{BitmapsTouch, HasPlace, InodesTouch, NoneBefore, OneBefore, PutsTouch, TakesTouch}
use Rattle.change_images.proofs.Covered.{Within, bits, enough, join, one, pages, two, within_of}
use Rattle.change_images.proofs.Touching.{Known, WholeFor, before, bit_pointer, head_pointer, in_first, in_second, known, later_pointer, length-in_order, page_pointer, put_whole, same_whole, taken_whole}

-- ---- lists of places

-- one inode, and two
pub own_place : (g : Geometry) (layouts : Layouts) (group agino : ℕ) → Known g layouts group agino → Within 192 (group_sectors g) (agino ∷ [])
own_place g layouts group agino k = one 192 (group_sectors g) agino k.low k.high

both_places : (g : Geometry) (layouts : Layouts) (group agino prior : ℕ) → agino ≢ prior → Known g layouts group agino → Known g layouts group prior → Within 192 (group_sectors g) (in_order prior agino)
both_places g layouts group agino prior apart k j = two 192 (group_sectors g) prior agino (λ e. apart (sym e)) (j.low, j.high) (k.low, k.high)

-- the header in front of the rest
pub with_header : (g : Geometry) (places : List ℕ) → 192 < group_sectors g → Within 8 (group_sectors g) places → Within 0 (group_sectors g) (header_place ∷ places)
with_header g places big rest = join 0 8 (group_sectors g) (header_place ∷ []) places (omega arith) (omega (arith, big)) (one 0 8 header_place (omega arith) (omega arith)) rest

pub from_eight : (g : Geometry) (places : List ℕ) → 192 < group_sectors g → Within 192 (group_sectors g) places → Within 8 (group_sectors g) places
from_eight g places big rest = join 8 192 (group_sectors g) [] places (omega arith) (omega (arith, big)) (record { up = tt; from = tt; to = tt }) rest

-- sectors of the bitmap in front of inodes
with_bits : (g : Geometry) (parts places : List ℕ) → 192 < group_sectors g → Up parts → AllByRecursion (λ k. k < bitmap_sectors) parts → Within 16 (group_sectors g) places
    → Within 8 (group_sectors g) (bitmap_places parts ++ places)
with_bits g parts places big up small rest =
    join 8 12 (group_sectors g) (bitmap_places parts) places (omega arith) (omega (arith, big)) (bits parts up small)
    (join 12 16 (group_sectors g) [] places (omega arith) (omega (arith, big)) (record { up = tt; from = tt; to = tt }) rest)

pub with_page : (g : Geometry) (layouts : Layouts) (group agino : ℕ) (places : List ℕ) → Known g layouts group agino → Within 192 (group_sectors g) places
    → Within 16 (group_sectors g) (page_places layouts group ++ places)
with_page g layouts group agino places k rest =
    let low : 192 ≤ agino = k.low in
    let high : agino < group_sectors g = k.high in
    join 16 144 (group_sectors g) (page_places layouts group) places (omega arith) (omega (arith, low, high)) (pages layouts group k.pages)
    (join 144 192 (group_sectors g) [] places (omega arith) (omega (arith, low, high)) (record { up = tt; from = tt; to = tt }) rest)

pub big_of : (g : Geometry) (layouts : Layouts) (group agino : ℕ) → Known g layouts group agino → 192 < group_sectors g
big_of g layouts group agino k = let low : 192 ≤ agino = k.low in let high : agino < group_sectors g = k.high in omega (arith, low, high)

few_parts : (parts : List ℕ) → Up parts → AllByRecursion (λ k. k < bitmap_sectors) parts → length parts ≤ 4
few_parts parts up small = let most = up-few parts 0 4 (omega arith) up (all_from parts) small in omega (arith, most)
  where
    all_from : (xs : List ℕ) → AllByRecursion (λ x. 0 ≤ x) xs
    all_from [] = tt
    all_from (x ∷ xs) = (omega arith, all_from xs)

-- the places are enough, where they are in order and have all that is touched
all_told : (g : Geometry) (t : Table) (layouts others : Layouts) (group agino : ℕ) (new : Inode) (low : ℕ) (places : List ℕ) → Within low (group_sectors g) places → length places ≤ 15
    → WholeFor g t layouts others group agino new places → AreEnoughFor g t layouts others group agino new places
all_told g t layouts others group agino new low places is few whole =
    enough g group layouts others (group_at t group) (set_inode (group_at t group) agino new) places is.up is.to (omega (arith, few)) whole

-- ---- links

pub alone : (g : Geometry) (t : Table) (layouts : Layouts) (image : List Sector) (group agino : ℕ) (old new : Inode) → HasPlace → InodesTouch → IsInodeOf g t layouts image group agino old
    → is_none new.row ≡ is_none old.row → HaveSameBlocks old new → AreEnoughFor g t layouts layouts group agino new (agino ∷ [])
alone g t layouts image group agino old new has_place touch of same blocks =
    all_told g t layouts layouts group agino new 192 (agino ∷ []) (own_place g layouts group agino (known g t layouts image group agino old has_place of)) (omega arith)
    (same_whole g t layouts group agino old new (agino ∷ []) touch of.found (inl refl) (λ place. inr (inl same)) (λ place. inr (inr (inl blocks))))

pub put : (g : Geometry) (t : Table) (layouts others : Layouts) (image : List Sector) (group agino : ℕ) (old new : Inode) → HasPlace → PutsTouch → IsInodeOf g t layouts image group agino old
    → is_none new.row ≡ is_none old.row → HaveSameBlocks old new → PutsFirst layouts others group agino → AreEnoughFor g t layouts others group agino new (header_place ∷ agino ∷ [])
put g t layouts others image group agino old new has_place touch of same blocks puts =
    let k = known g t layouts image group agino old has_place of in
    let big = big_of g layouts group agino k in
    all_told g t layouts others group agino new 0 (header_place ∷ agino ∷ []) (with_header g (agino ∷ []) big (from_eight g (agino ∷ []) big (own_place g layouts group agino k))) (omega arith)
    (put_whole g t layouts others group agino old new (header_place ∷ agino ∷ []) touch puts of.found same blocks (inr (inl refl)) (inl refl))

pub taken_first : (g : Geometry) (t : Table) (layouts others : Layouts) (image : List Sector) (group agino : ℕ) (old new : Inode) → HasPlace → TakesTouch → NoneBefore
    → IsInodeOf g t layouts image group agino old → is_none new.row ≡ is_none old.row → HaveSameBlocks old new → TakesOut layouts others group agino
    → head_of (bucket_list layouts group (agino % BUCKETS)) ≡ agino → AreEnoughFor g t layouts others group agino new (header_place ∷ agino ∷ [])
taken_first g t layouts others image group agino old new has_place touch none of same blocks takes head =
    let k = known g t layouts image group agino old has_place of in
    let big = big_of g layouts group agino k in
    let places : List ℕ = header_place ∷ agino ∷ [] in
    all_told g t layouts others group agino new 0 places (with_header g (agino ∷ []) big (from_eight g (agino ∷ []) big (own_place g layouts group agino k))) (omega arith)
    (taken_whole g t layouts others group agino old new places touch takes of.found (inr (inl refl))
    (head_pointer g t layouts image group agino old places has_place none of head (inl refl)) (λ place. inr (inl same)) (λ place. inr (inr (inl blocks))))

pub taken_later : (g : Geometry) (t : Table) (layouts others : Layouts) (image : List Sector) (group agino prior : ℕ) (old new other : Inode) → HasPlace → TakesTouch → OneBefore → NoneBefore
    → IsInodeOf g t layouts image group agino old → is_none new.row ≡ is_none old.row → HaveSameBlocks old new → TakesOut layouts others group agino
    → inode_in (group_at t group) prior ≡ Some other → next_in (bucket_list layouts group (agino % BUCKETS)) prior ≡ agino
    → AreEnoughFor g t layouts others group agino new (in_order prior agino)
taken_later g t layouts others image group agino prior old new other has_place touch once none of same blocks takes there points =
    let k = known g t layouts image group agino old has_place of in
    let j = known g t layouts image group prior other has_place (record { encodes = of.encodes; within = of.within; found = there }) in
    let is = before g t layouts image group agino prior old has_place once none of points in
    let places : List ℕ = in_order prior agino in
    all_told g t layouts others group agino new 192 places (both_places g layouts group agino prior is.apart k j) (omega (arith, length-in_order prior agino))
    (taken_whole g t layouts others group agino old new places touch takes of.found (in_second prior agino)
    (later_pointer layouts group agino prior places is (in_first prior agino)) (λ place. inr (inl same)) (λ place. inr (inr (inl blocks))))

-- ---- blocks

pub with_blocks : (g : Geometry) (t : Table) (layouts : Layouts) (image : List Sector) (group agino : ℕ) (old new : Inode) (parts : List ℕ) → HasPlace → InodesTouch → BitmapsTouch
    → IsInodeOf g t layouts image group agino old → is_none new.row ≡ is_none old.row → AreParts old new parts
    → AreEnoughFor g t layouts layouts group agino new (bitmap_places parts ++ agino ∷ [])
with_blocks g t layouts image group agino old new parts has_place touch bitmaps of same are =
    let k = known g t layouts image group agino old has_place of in
    let big = big_of g layouts group agino k in
    let up : Up parts = up_from parts are.ascend in
    let small = recursion_from_All (λ (p : ℕ). p < bitmap_sectors) parts are.within in
    let places : List ℕ = bitmap_places parts ++ agino ∷ [] in
    let behind : Within 16 (group_sectors g) (agino ∷ []) =
    join 16 192 (group_sectors g) [] (agino ∷ []) (omega arith) (omega (arith, big)) (record { up = tt; from = tt; to = tt }) (own_place g layouts group agino k) in
    all_told g t layouts layouts group agino new 8 places (with_bits g parts (agino ∷ []) big up small behind)
    (omega (arith, length-joined (bitmap_places parts) (agino ∷ []), length-plus bitmap_place parts, few_parts parts up small))
    (same_whole g t layouts group agino old new places touch of.found (in_right agino (bitmap_places parts) (agino ∷ []) (inl refl)) (λ place. inr (inl same))
    (bit_pointer g t layouts layouts group agino old new parts places bitmaps of.found are (λ place has. in_left place (bitmap_places parts) (agino ∷ []) has)))

-- ---- frees

abbrev pub free_list : Layouts → ℕ → List ℕ → List ℕ → List ℕ
free_list layouts group parts inodes = header_place ∷ (bitmap_places parts ++ (page_places layouts group ++ inodes))

pub free_within : (g : Geometry) (layouts : Layouts) (group agino : ℕ) (parts inodes : List ℕ) → Known g layouts group agino → Up parts → AllByRecursion (λ k. k < bitmap_sectors) parts
    → Within 192 (group_sectors g) inodes → Within 0 (group_sectors g) (free_list layouts group parts inodes)
free_within g layouts group agino parts inodes k up small last =
    let big = big_of g layouts group agino k in
    with_header g (bitmap_places parts ++ (page_places layouts group ++ inodes)) big
    (with_bits g parts (page_places layouts group ++ inodes) big up small (with_page g layouts group agino inodes k last))

free_few : (layouts : Layouts) (group : ℕ) (parts inodes : List ℕ) → Up parts → AllByRecursion (λ k. k < bitmap_sectors) parts → length inodes ≤ 2
    → length (free_list layouts group parts inodes) ≤ 15
free_few layouts group parts inodes up small few =
    omega (
      arith,
      length-joined (bitmap_places parts) (page_places layouts group ++ inodes),
      length-joined (page_places layouts group) inodes,
      length-plus bitmap_place parts,
      length-range_with_len (page_place layouts group) BLOCK_SECTORS,
      few_parts parts up small,
      few,
    )

pub in_inodes : (layouts : Layouts) (group place : ℕ) (parts inodes : List ℕ) → In place inodes → In place (free_list layouts group parts inodes)
in_inodes layouts group place parts inodes has =
    inr (in_right place (bitmap_places parts) (page_places layouts group ++ inodes) (in_right place (page_places layouts group) inodes has))

pub in_page : (layouts : Layouts) (group : ℕ) (parts inodes : List ℕ) (place : ℕ) → In place (page_places layouts group) → In place (free_list layouts group parts inodes)
in_page layouts group parts inodes place has =
    inr (in_right place (bitmap_places parts) (page_places layouts group ++ inodes) (in_left place (page_places layouts group) inodes has))

pub in_bits : (layouts : Layouts) (group : ℕ) (parts inodes : List ℕ) (place : ℕ) → In place (bitmap_places parts) → In place (free_list layouts group parts inodes)
in_bits layouts group parts inodes place has = inr (in_left place (bitmap_places parts) (page_places layouts group ++ inodes) has)

pub freed_first : (g : Geometry) (t : Table) (layouts others : Layouts) (image : List Sector) (group agino : ℕ) (old new : Inode) (parts : List ℕ) → HasPlace → TakesTouch → BitmapsTouch → NoneBefore
    → IsInodeOf g t layouts image group agino old → AreParts old new parts → TakesOut layouts others group agino → head_of (bucket_list layouts group (agino % BUCKETS)) ≡ agino
    → AreEnoughFor g t layouts others group agino new (free_list layouts group parts (agino ∷ []))
freed_first g t layouts others image group agino old new parts has_place touch bitmaps none of are takes head =
    let k = known g t layouts image group agino old has_place of in
    let up : Up parts = up_from parts are.ascend in
    let small = recursion_from_All (λ (p : ℕ). p < bitmap_sectors) parts are.within in
    let inodes : List ℕ = agino ∷ [] in
    let places : List ℕ = free_list layouts group parts inodes in
    all_told g t layouts others group agino new 0 places (free_within g layouts group agino parts inodes k up small (own_place g layouts group agino k))
    (free_few layouts group parts inodes up small (omega arith))
    (taken_whole g t layouts others group agino old new places touch takes of.found (in_inodes layouts group agino parts inodes (inl refl))
    (head_pointer g t layouts image group agino old places has_place none of head (inl refl))
    (page_pointer g layouts group old new places (inl refl) (in_page layouts group parts inodes))
    (bit_pointer g t layouts others group agino old new parts places bitmaps of.found are (in_bits layouts group parts inodes)))

pub freed_later : (g : Geometry) (t : Table) (layouts others : Layouts) (image : List Sector) (group agino prior : ℕ) (old new other : Inode) (parts : List ℕ) → HasPlace → TakesTouch → BitmapsTouch
    → OneBefore → NoneBefore → IsInodeOf g t layouts image group agino old → AreParts old new parts → TakesOut layouts others group agino
    → inode_in (group_at t group) prior ≡ Some other → next_in (bucket_list layouts group (agino % BUCKETS)) prior ≡ agino
    → AreEnoughFor g t layouts others group agino new (free_list layouts group parts (in_order prior agino))
freed_later g t layouts others image group agino prior old new other parts has_place touch bitmaps once none of are takes there points =
    let k = known g t layouts image group agino old has_place of in
    let j = known g t layouts image group prior other has_place (record { encodes = of.encodes; within = of.within; found = there }) in
    let is = before g t layouts image group agino prior old has_place once none of points in
    let up : Up parts = up_from parts are.ascend in
    let small = recursion_from_All (λ (p : ℕ). p < bitmap_sectors) parts are.within in
    let inodes : List ℕ = in_order prior agino in
    let places : List ℕ = free_list layouts group parts inodes in
    all_told g t layouts others group agino new 0 places (free_within g layouts group agino parts inodes k up small (both_places g layouts group agino prior is.apart k j))
    (free_few layouts group parts inodes up small (omega (arith, length-in_order prior agino)))
    (taken_whole g t layouts others group agino old new places touch takes of.found (in_inodes layouts group agino parts inodes (in_second prior agino))
    (later_pointer layouts group agino prior places is (in_inodes layouts group prior parts inodes (in_first prior agino)))
    (page_pointer g layouts group old new places (inl refl) (in_page layouts group parts inodes))
    (bit_pointer g t layouts others group agino old new parts places bitmaps of.found are (in_bits layouts group parts inodes)))
