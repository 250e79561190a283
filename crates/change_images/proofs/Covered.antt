-- The kinds of places of a group, and lists that have those that a change touches.
use Rattle.std.proofs.Common.{◌≡◌, ◌+◌, ◌-◌, ◌*◌, ◌/◌, ◌%◌, ◌<◌, ◌≤◌, ◌⊎◌, ℕ, Bool, true, false, cond, List, [], ◌∷◌, ◌++◌, Some, length, map, eqb, ltb, inl, inr, refl, ap, sym, subst, ◌∙◌, arith}
use Rattle.std.specs.Prelude.{◌≢◌, ◌&&◌, Contains}
use Rattle.std.specs.List.{All, AllByRecursion, range_with_len}
use Rattle.std.proofs.lemmas.Bool.{cases_eq, cases_lt, cond-true, cond-false, ltb-true, ltb-false}
use Rattle.std.proofs.lemmas.List.Elements.{All-from_recursion, recursion_from_All}
use Rattle.std.proofs.lemmas.List.FromFn.{length-range_with_len}
use Rattle.life_limits.specs.declared.TheConstants.{BLOCK_SECTORS, BUCKETS, CHUNK_INODES, FIRST_DATA_BLOCK, FIRST_PAGE_BLOCK, LAST_PAGE_BLOCK, MAX_IMAGES, NO_INODE, SECTOR_BYTES}
use Rattle.life_bytes.specs.declared.sector.Sector.{Sector}
use Rattle.geometry.specs.declared.shape.Geometry.{Geometry}
use Rattle.geometry.specs.Places.{group_sectors}
use Rattle.life_table.specs.declared.table.Inode.{Inode}
use Rattle.life_table.specs.declared.table.Table.{Table}
use Rattle.life_table.specs.Table.{Group, group_at, inode_in, set_inode}
use Rattle.life_table.specs.Space.{is_free_block, row_blocks, times}
use Rattle.sound_image.specs.Places.{bitmap_place, bitmap_sectors, header_place}
use Rattle.sound_image.specs.Encoding.{Layouts, CanEncode, bucket_list, is_unlinked, page_of, page_place}
use Rattle.encoded_changes.specs.Carry.{Stays}
use Rattle.encoded_changes.specs.Changes.{IsOfBitmap, IsOfPage}
use Rattle.change_images.specs.Enough.{AreEnough, AreParts, bitmap_places, in_order, page_places, bitmap_part}
use Rattle.change_images.proofs.Blocks.{free_same}
use Rattle.change_images.proofs.Lists.{In, Up, all-append, all-plus, contains_from, from_range, in_from, in_left, in_or_out, in_plus, in_range, in_right, increasing, length-joined, length-plus, to_range, up-append, up-few, up-plus, up-range, up_from, weaker}
use Rattle.change_images.proofs.Lower.{BitmapsTouch}

-- a place is in the list, or it is none of the kinds that the change touches
pub by_kinds : (S : ℕ → Type 0) (places : List ℕ) (Pointer Page Bits : ℕ → Type 0) (agino place : ℕ) → In agino places → In place places ⊎ Pointer place
    → In place places ⊎ Page place → S place ⊎ (In place places ⊎ Bits place) → (place ≢ agino → Pointer place → Page place → Bits place → S place)
    → S place ⊎ In place places
by_kinds S places Pointer Page Bits agino place own pointer page bits law =
    elim (cases_eq place agino) [
      | inl same ↦ inr (subst (λ (x : ℕ). In x places) (sym same) own)
      | inr apart ↦ elim pointer [
        | inl has ↦ inr has
        | inr no_pointer ↦ elim page [
          | inl has ↦ inr has
          | inr no_page ↦ elim bits [
            | inl stays ↦ inl stays
            | inr rest ↦ elim rest [ inl has ↦ inr has | inr no_bits ↦ inl (law apart no_pointer no_page no_bits) ]
          ]
        ]
      ]
    ]

pub between : (low high place : ℕ) → ((low ≤ place) × (place < high)) ⊎ (¬ ((low ≤ place) × (place < high)))
between low high place =
    elim (cases_lt place low) [
      | inl under ↦ inr (λ both. omega (arith, under, both.0))
      | inr from ↦ elim (cases_lt place high) [
        | inl under ↦ inl (from, under)
        | inr past ↦ inr (λ both. omega (arith, past, both.1))
      ]
    ]

pub page_is : (layouts : Layouts) (group : ℕ) → page_place layouts group ≡ BLOCK_SECTORS * page_of layouts group
unfolding page_place
page_is layouts group = refl

-- a place is of the page, and then one of its sectors, or it is not
pub page_or_not : (layouts : Layouts) (group place : ℕ) → In place (page_places layouts group) ⊎ (¬ IsOfPage layouts group place)
page_or_not layouts group place =
    elim (between (page_place layouts group) (page_place layouts group + BLOCK_SECTORS) place) [
      | inl both ↦ inl (in_range (page_place layouts group) BLOCK_SECTORS place both.0 both.1)
      | inr out ↦ inr out
    ]

-- a place is of the bitmap and stays, or it is one of these sectors of it, or it is not of the bitmap
pub bits_or_not : (g : Geometry) (layouts others : Layouts) (group : ℕ) (chunks next : Group) (parts : List ℕ) (place : ℕ) → BitmapsTouch
    → ((block : ℕ) → (is_free_block g.blocks next block ≡ is_free_block g.blocks chunks block) ⊎ Contains parts (bitmap_part block))
    → Stays g group layouts chunks others next place ⊎ (In place (bitmap_places parts) ⊎ (¬ IsOfBitmap place))
bits_or_not g layouts others group chunks next parts place touch whole =
    elim (between bitmap_place (bitmap_place + bitmap_sectors) place) [
      | inl both ↦
          let k : ℕ = place - bitmap_place in
          let low : bitmap_place ≤ place = both.0 in
          let high : place < bitmap_place + bitmap_sectors = both.1 in
          let back : bitmap_place + k ≡ place = omega (arith, low) in
          elim (in_or_out k parts) [
            | inl has ↦ inr (inl (subst (λ (x : ℕ). In x (bitmap_places parts)) back (in_plus bitmap_place k parts has)))
            | inr out ↦ inl (subst (Stays g group layouts chunks others next) back (touch g layouts others group chunks next k (omega (arith, high, low))
                (λ block own. elim (whole block) [
                  | inl same ↦ same
                  | inr has ↦ absurd (out (subst (λ (x : ℕ). In x parts) own (in_from (bitmap_part block) parts has)))
                ])))
          ]
      | inr out ↦ inr (inr out)
    ]

-- the blocks of one of two inodes alone are in these parts
pub free_or_part : (blocks : ℕ) (chunks : Group) (agino : ℕ) (old new : Inode) (parts : List ℕ) → inode_in chunks agino ≡ Some old → AreParts old new parts → (block : ℕ)
    → (is_free_block blocks (set_inode chunks agino new) block ≡ is_free_block blocks chunks block) ⊎ Contains parts (bitmap_part block)
free_or_part blocks chunks agino old new parts at are block =
    elim (are.whole block) [
      | inl same ↦ inl (free_same blocks chunks agino old new block at same)
      | inr has ↦ inr has
    ]

-- ---- the lists ascend

pub enough : (g : Geometry) (group : ℕ) (layouts others : Layouts) (chunks next : Group) (places : List ℕ) → Up places → AllByRecursion (λ place. place < group_sectors g) places
    → length places ≤ MAX_IMAGES → ((place : ℕ) → place < group_sectors g → Stays g group layouts chunks others next place ⊎ In place places)
    → AreEnough g group layouts chunks others next places
enough g group layouts others chunks next places up within few whole =
    record {
      ascend = increasing places up;
      within = All-from_recursion (λ place. place < group_sectors g) places within;
      few = few;
      whole = λ place low. elim (whole place low) [ inl stays ↦ inl stays | inr has ↦ inr (contains_from place places has) ];
    }

-- an ascending list within bounds
pub record Within (low high : ℕ) (places : List ℕ) : Type 0 where
  pub up : Up places
  pub from : AllByRecursion (λ place. low ≤ place) places
  pub to : AllByRecursion (λ place. place < high) places

pub join : (low middle high : ℕ) (xs ys : List ℕ) → low ≤ middle → middle ≤ high → Within low middle xs → Within middle high ys → Within low high (xs ++ ys)
join low middle high xs ys a b first second = record {
  up = up-append xs ys middle first.up second.up first.to second.from;
  from = all-append (λ place. low ≤ place) xs ys first.from (weaker (λ place. middle ≤ place) (λ place. low ≤ place) ys (λ place more. omega (arith, a, more)) second.from);
  to = all-append (λ place. place < high) xs ys (weaker (λ place. place < middle) (λ place. place < high) xs (λ place less. omega (arith, b, less)) first.to) second.to;
}

pub one : (low high place : ℕ) → low ≤ place → place < high → Within low high (place ∷ [])
one low high place a b = record { up = (tt, tt); from = (a, tt); to = (b, tt) }

pub two : (low high a b : ℕ) → a ≢ b → (low ≤ a) × (a < high) → (low ≤ b) × (b < high) → Within low high (in_order a b)
two low high a b apart x y =
    elim (ltb a b) as (λ c. ltb a b ≡ c → Within low high (cond c (a ∷ b ∷ []) (b ∷ a ∷ []))) [
      | true ↦ λ is. record { up = ((ltb-true a b is, tt), (tt, tt)); from = (x.0, (y.0, tt)); to = (x.1, (y.1, tt)) }
      | false ↦ λ is. record { up = ((below a b apart (ltb-false a b is), tt), (tt, tt)); from = (y.0, (x.0, tt)); to = (y.1, (x.1, tt)) }
    ] refl
  where
    below : (a b : ℕ) → a ≢ b → b ≤ a → b < a
    below a b apart le = omega (arith, apart, le)

pub pages : (layouts : Layouts) (group : ℕ) → (FIRST_PAGE_BLOCK ≤ page_of layouts group) × (page_of layouts group ≤ LAST_PAGE_BLOCK) → Within 16 144 (page_places layouts group)
pages layouts group (first, last) =
    let p : ℕ = page_place layouts group in
    let is = page_is layouts group in
    let low : 16 ≤ p = omega (arith, is, first) in
    record {
      up = up-range p BLOCK_SECTORS;
      from = weaker (λ place. p ≤ place) (λ place. 16 ≤ place) (page_places layouts group) (λ place more. omega (arith, low, more)) (from_range p BLOCK_SECTORS);
      to = to_range p BLOCK_SECTORS 144 (omega (arith, is, last));
    }

pub bits : (parts : List ℕ) → Up parts → AllByRecursion (λ k. k < bitmap_sectors) parts → Within 8 12 (bitmap_places parts)
bits parts up small =
    let plus = all-plus bitmap_place 8 bitmap_sectors parts small (omega arith) in
    record { up = up-plus bitmap_place parts up; from = plus.0; to = plus.1 }

pub within_of : (low high : ℕ) (places : List ℕ) (g : Geometry) → high ≤ group_sectors g → Within low high places → AllByRecursion (λ place. place < group_sectors g) places
within_of low high places g le is = weaker (λ place. place < high) (λ place. place < group_sectors g) places (λ place less. omega (arith, le, less)) is.to

-- no more than there are between the bounds
pub few_of : (low high : ℕ) (places : List ℕ) → low ≤ high → Within low high places → low + length places ≤ high
few_of low high places le is = up-few places low high le is.up is.from is.to

-- ---- an inode stands once in its list

at_most_one : (b c : Bool) → cond {A = ℕ} (b && c) 1 0 ≤ 1
at_most_one true true = omega arith
at_most_one true false = omega arith
at_most_one false c = omega arith

pub stands_once : (g : Geometry) (t : Table) (layouts : Layouts) (image : List Sector) (group agino : ℕ) → CanEncode g t layouts image → group < g.groups
    → times agino (bucket_list layouts group (agino % BUCKETS)) ≤ 1
stands_once g t layouts image group agino can lt =
    subst (λ (n : ℕ). n ≤ 1) (sym (can.layouts_of.buckets group (agino % BUCKETS) agino (omega (arith, lt, can.groups)) (omega arith)))
    (at_most_one (eqb (agino % BUCKETS) (agino % BUCKETS)) (is_unlinked (inode_in (group_at t group) agino)))
