-- Which places are enough where an inode comes to be another one.
use Rattle.std.proofs.Common.{◌≡◌, ◌+◌, ◌*◌, ◌/◌, ◌%◌, ◌<◌, ◌≤◌, ◌⊎◌, ℕ, Bool, true, false, cond, List, [], ◌∷◌, ◌++◌, Some, length, map, eqb, ltb, inl, inr, refl, ap, sym, subst, ◌∙◌, arith}
use Rattle.std.specs.Prelude.{◌≢◌, ⊤, is_none}
use Rattle.std.specs.List.{AllByRecursion}
use Rattle.std.proofs.lemmas.Bool.{cases_eq, cond-false, cond-true, eq-eqb, ne_eqb}
use Rattle.std.proofs.lemmas.List.Elements.{recursion_from_All}
use Rattle.std.proofs.lemmas.List.FromFn.{length-range_with_len}
use Rattle.life_limits.specs.declared.TheConstants.{BLOCK_SECTORS, BUCKETS, FIRST_DATA_BLOCK, FIRST_PAGE_BLOCK, LAST_PAGE_BLOCK, MAX_IMAGES, NO_INODE}
use Rattle.life_bytes.specs.declared.sector.Sector.{Sector}
use Rattle.geometry.specs.declared.shape.Geometry.{Geometry}
use Rattle.geometry.specs.Places.{group_sectors}
use Rattle.life_table.specs.declared.table.Inode.{Inode}
use Rattle.life_table.specs.declared.table.Table.{Table}
use Rattle.life_table.specs.Table.{Group, group_at, inode_in, set_inode}
use Rattle.life_table.specs.Space.{times}
use Rattle.sound_image.specs.Places.{bitmap_place, bitmap_sectors, header_place}
use Rattle.sound_image.specs.Encoding.{Layouts, CanEncode, bucket_list, head_of, next_in, page_of, page_place}
use Rattle.encoded_changes.specs.Carry.{Stays}
use Rattle.encoded_changes.specs.Changes.{HaveSameBlocks, IsOfBitmap, IsOfPage, PutsFirst, TakesOut}
use Rattle.change_images.specs.Enough.{AreEnoughFor, AreParts, IsInodeOf, bitmap_places, in_order, page_places}
use Rattle.change_images.proofs.Lists.{In, Up, in_left, in_right, in_from, length-joined, length-plus, up-few, up_from}
use Rattle.change_images.proofs.Lower.{BitmapsTouch, HasPlace, InodesTouch, NoneBefore, OneBefore, PutsTouch, TakesTouch}
use Rattle.change_images.proofs.Covered.{Within, bits, bits_or_not, by_kinds, enough, few_of, free_or_part, join, one, page_or_not, pages, stands_once, two, within_of}

-- ---- what is known of an inode of a group

-- its place is behind all pages, and those of the group are known
pub record Known (g : Geometry) (layouts : Layouts) (group agino : ℕ) : Type 0 where
  pub low : 192 ≤ agino
  pub high : agino < group_sectors g
  pub pages : (FIRST_PAGE_BLOCK ≤ page_of layouts group) × (page_of layouts group ≤ LAST_PAGE_BLOCK)

pub known : (g : Geometry) (t : Table) (layouts : Layouts) (image : List Sector) (group agino : ℕ) (inode : Inode) → HasPlace → IsInodeOf g t layouts image group agino inode → Known g layouts group agino
known g t layouts image group agino inode has_place of =
    let spot = has_place g t layouts image group agino inode of.encodes of.within of.found in
    let low = spot.0 in
    let own : group < g.groups = of.within in
    record { low = omega (arith, low); high = spot.1; pages = of.encodes.layouts_of.pages group (omega (arith, own, of.encodes.groups)) }

pub some_inode : (g : Geometry) (t : Table) (layouts : Layouts) (image : List Sector) (group agino : ℕ) (inode : Inode) → HasPlace → IsInodeOf g t layouts image group agino inode → agino ≢ NO_INODE
some_inode g t layouts image group agino inode has_place of e =
    let spot = has_place g t layouts image group agino inode of.encodes of.within of.found in
    let most = of.encodes.table.most in
    omega (arith, spot.1, of.encodes.blocks, most, e)

-- the inode before another in its list: it points at it, so it is another place, and the list has another head
pub record IsBefore (layouts : Layouts) (group agino before : ℕ) : Type 0 where
  pub apart : agino ≢ before
  pub no_head : head_of (bucket_list layouts group (agino % BUCKETS)) ≢ agino
  pub only : (place : ℕ) → place ≢ before → next_in (bucket_list layouts group (agino % BUCKETS)) place ≢ agino

times_here : (agino member : ℕ) (members : List ℕ) → member ≡ agino → times agino (member ∷ members) ≡ 1 + times agino members
unfolding times
times_here agino member members e = ap (λ (n : ℕ). n + times agino members) (cond-true (eqb agino member) 1 0 (eq-eqb agino member (sym e)))

times_later : (agino member : ℕ) (members : List ℕ) → times agino members ≤ times agino (member ∷ members)
unfolding times
times_later agino member members = omega arith

head_times : (members : List ℕ) (agino : ℕ) → agino ≢ NO_INODE → head_of members ≡ agino → 1 ≤ times agino members
unfolding head_of
head_times [] agino some e = absurd (some (sym e))
head_times (member ∷ members) agino some e = omega (arith, times_here agino member members e)

not_itself : (members : List ℕ) (agino : ℕ) → times agino members ≤ 1 → agino ≢ NO_INODE → next_in members agino ≢ agino
unfolding next_in
not_itself [] agino few some e = some (sym e)
not_itself (member ∷ members) agino few some e =
    elim (cases_eq member agino) [
      | inl here ↦
          let next : head_of members ≡ agino = sym (cond-true (eqb member agino) (head_of members) (next_in members agino) (eq-eqb member agino here)) ∙ e in
          let behind = head_times members agino some next in
          omega (arith, times_here agino member members here, few)
      | inr past ↦
          not_itself members agino (omega (arith, few, times_later agino member members)) some
          (sym (cond-false (eqb member agino) (head_of members) (next_in members agino) (ne_eqb member agino past)) ∙ e)
    ]

pub before : (g : Geometry) (t : Table) (layouts : Layouts) (image : List Sector) (group agino place : ℕ) (inode : Inode) → HasPlace → OneBefore → NoneBefore
    → IsInodeOf g t layouts image group agino inode → next_in (bucket_list layouts group (agino % BUCKETS)) place ≡ agino → IsBefore layouts group agino place
before g t layouts image group agino place inode has_place one none of points =
    let members : List ℕ = bucket_list layouts group (agino % BUCKETS) in
    let once = stands_once g t layouts image group agino of.encodes of.within in
    let some = some_inode g t layouts image group agino inode has_place of in
    record {
      apart = λ e. not_itself members agino once some (ap (next_in members) e ∙ points);
      no_head = λ head. none members agino place once some head points;
      only = λ other apart next. apart (one members agino other place once some next points);
    }

-- ---- what a list has to have

-- the header and the page where the inode comes to be in use or ceases to be; the bitmap's sectors where the blocks differ
abbrev pub PageOr : Geometry → Layouts → ℕ → Inode → Inode → List ℕ → ℕ → Type 0
PageOr g layouts group old new places place = In place places ⊎ ((is_none new.row ≡ is_none old.row) ⊎ ((place ≢ header_place) × ¬ IsOfPage layouts group place))

abbrev pub BitsOr : Geometry → Table → Layouts → Layouts → ℕ → ℕ → Inode → Inode → List ℕ → ℕ → Type 0
BitsOr g t layouts others group agino old new places place =
    Stays g group layouts (group_at t group) others (set_inode (group_at t group) agino new) place ⊎ (In place places ⊎ (HaveSameBlocks old new ⊎ ¬ IsOfBitmap place))

abbrev pub WholeFor : Geometry → Table → Layouts → Layouts → ℕ → ℕ → Inode → List ℕ → Type 0
WholeFor g t layouts others group agino new places =
    (place : ℕ) → place < group_sectors g → Stays g group layouts (group_at t group) others (set_inode (group_at t group) agino new) place ⊎ In place places

pub same_whole : (g : Geometry) (t : Table) (layouts : Layouts) (group agino : ℕ) (old new : Inode) (places : List ℕ) → InodesTouch
    → inode_in (group_at t group) agino ≡ Some old → In agino places → ((place : ℕ) → PageOr g layouts group old new places place)
    → ((place : ℕ) → BitsOr g t layouts layouts group agino old new places place) → WholeFor g t layouts layouts group agino new places
same_whole g t layouts group agino old new places touch at own page bit place low =
    by_kinds (Stays g group layouts (group_at t group) layouts (set_inode (group_at t group) agino new)) places (λ p. ⊤)
    (λ p. (is_none new.row ≡ is_none old.row) ⊎ ((p ≢ header_place) × ¬ IsOfPage layouts group p)) (λ p. HaveSameBlocks old new ⊎ ¬ IsOfBitmap p) agino place own (inr tt) (page place) (bit place)
    (λ apart any no_page no_bits. touch g layouts group (group_at t group) agino old new place at apart no_page no_bits)

pub put_whole : (g : Geometry) (t : Table) (layouts others : Layouts) (group agino : ℕ) (old new : Inode) (places : List ℕ) → PutsTouch → PutsFirst layouts others group agino
    → inode_in (group_at t group) agino ≡ Some old → is_none new.row ≡ is_none old.row → HaveSameBlocks old new → In agino places → In header_place places
    → WholeFor g t layouts others group agino new places
put_whole g t layouts others group agino old new places touch puts at same blocks own head place low =
    by_kinds (Stays g group layouts (group_at t group) others (set_inode (group_at t group) agino new)) places (λ p. p ≢ header_place) (λ p. ⊤) (λ p. ⊤) agino place own
    (elim (cases_eq place header_place) [ inl is ↦ inl (subst (λ (x : ℕ). In x places) (sym is) head) | inr apart ↦ inr apart ]) (inr tt) (inr (inr tt))
    (λ apart no_header any none. touch g layouts others group (group_at t group) agino old new place puts at apart no_header (inl same) (inl blocks))

-- the header where the inode is the head of its list, and else the inode before it
abbrev pub PointerOr : Layouts → ℕ → ℕ → List ℕ → ℕ → Type 0
PointerOr layouts group agino places place =
    In place places ⊎ (((place ≢ header_place) ⊎ (head_of (bucket_list layouts group (agino % BUCKETS)) ≢ agino)) × (next_in (bucket_list layouts group (agino % BUCKETS)) place ≢ agino))

pub taken_whole : (g : Geometry) (t : Table) (layouts others : Layouts) (group agino : ℕ) (old new : Inode) (places : List ℕ) → TakesTouch → TakesOut layouts others group agino
    → inode_in (group_at t group) agino ≡ Some old → In agino places → ((place : ℕ) → PointerOr layouts group agino places place) → ((place : ℕ) → PageOr g layouts group old new places place)
    → ((place : ℕ) → BitsOr g t layouts others group agino old new places place) → WholeFor g t layouts others group agino new places
taken_whole g t layouts others group agino old new places touch takes at own pointer page bit place low =
    by_kinds (Stays g group layouts (group_at t group) others (set_inode (group_at t group) agino new)) places
    (λ p. ((p ≢ header_place) ⊎ (head_of (bucket_list layouts group (agino % BUCKETS)) ≢ agino)) × (next_in (bucket_list layouts group (agino % BUCKETS)) p ≢ agino))
    (λ p. (is_none new.row ≡ is_none old.row) ⊎ ((p ≢ header_place) × ¬ IsOfPage layouts group p)) (λ p. HaveSameBlocks old new ⊎ ¬ IsOfBitmap p) agino place own (pointer place) (page place) (bit place)
    (λ apart point no_page no_bits. touch g layouts others group (group_at t group) agino old new place takes at apart point.0 point.1 no_page no_bits)

pub head_pointer : (g : Geometry) (t : Table) (layouts : Layouts) (image : List Sector) (group agino : ℕ) (inode : Inode) (places : List ℕ) → HasPlace → NoneBefore
    → IsInodeOf g t layouts image group agino inode → head_of (bucket_list layouts group (agino % BUCKETS)) ≡ agino → In header_place places → (place : ℕ) → PointerOr layouts group agino places place
head_pointer g t layouts image group agino inode places has_place none of head has place =
    elim (cases_eq place header_place) [
      | inl is ↦ inl (subst (λ (x : ℕ). In x places) (sym is) has)
      | inr apart ↦ inr (
        inl apart,
        none (bucket_list layouts group (agino % BUCKETS)) agino place (stands_once g t layouts image group agino of.encodes of.within)
            (some_inode g t layouts image group agino inode has_place of) head,
      )
    ]

pub later_pointer : (layouts : Layouts) (group agino prior : ℕ) (places : List ℕ) → IsBefore layouts group agino prior → In prior places → (place : ℕ) → PointerOr layouts group agino places place
later_pointer layouts group agino prior places is has place =
    elim (cases_eq place prior) [
      | inl same ↦ inl (subst (λ (x : ℕ). In x places) (sym same) has)
      | inr apart ↦ inr (inr is.no_head, is.only place apart)
    ]

pub page_pointer : (g : Geometry) (layouts : Layouts) (group : ℕ) (old new : Inode) (places : List ℕ) → In header_place places → ((place : ℕ) → In place (page_places layouts group) → In place places)
    → (place : ℕ) → PageOr g layouts group old new places place
page_pointer g layouts group old new places has all place =
    elim (cases_eq place header_place) [
      | inl is ↦ inl (subst (λ (x : ℕ). In x places) (sym is) has)
      | inr apart ↦ elim (page_or_not layouts group place) [
        | inl there ↦ inl (all place there)
        | inr out ↦ inr (inr (apart, out))
      ]
    ]

pub bit_pointer : (g : Geometry) (t : Table) (layouts others : Layouts) (group agino : ℕ) (old new : Inode) (parts places : List ℕ) → BitmapsTouch → inode_in (group_at t group) agino ≡ Some old
    → AreParts old new parts → ((place : ℕ) → In place (bitmap_places parts) → In place places) → (place : ℕ) → BitsOr g t layouts others group agino old new places place
bit_pointer g t layouts others group agino old new parts places touch at are all place =
    elim (bits_or_not g layouts others group (group_at t group) (set_inode (group_at t group) agino new) parts place touch (free_or_part g.blocks (group_at t group) agino old new parts at are)) [
      | inl stays ↦ inl stays
      | inr rest ↦ elim rest [ inl has ↦ inr (inl (all place has)) | inr out ↦ inr (inr (inr out)) ]
    ]

-- ---- two places

pub in_first : (a b : ℕ) → In a (in_order a b)
in_first a b = elim (ltb a b) as (λ c. In a (cond c (a ∷ b ∷ []) (b ∷ a ∷ []))) [ true ↦ inl refl | false ↦ inr (inl refl) ]

pub in_second : (a b : ℕ) → In b (in_order a b)
in_second a b = elim (ltb a b) as (λ c. In b (cond c (a ∷ b ∷ []) (b ∷ a ∷ []))) [ true ↦ inr (inl refl) | false ↦ inl refl ]

pub length-in_order : (a b : ℕ) → length (in_order a b) ≡ 2
length-in_order a b = elim (ltb a b) as (λ c. length (cond c (a ∷ b ∷ []) (b ∷ a ∷ [])) ≡ 2) [ true ↦ refl | false ↦ refl ]
