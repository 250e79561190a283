-- An image without a file represents the table without a chunk.
use Rattle.std.proofs.Common.{◌≡◌, ◌<◌, ◌≤◌, ◌+◌, ◌*◌, ◌/◌, ◌%◌, ℕ, zero, suc, Bool, cond, List, [], ◌∷◌, Option, None, Some, length, drop, get_or, map, eqb, ltb, refl, sym, ap, subst, ◌∙◌, inl, inr, arith}
use Rattle.std.specs.Prelude.{◌&&◌, unwrap_or, replicate}
use Rattle.std.proofs.Math.Nat.{div-add-mod, mul-le-mul_left, mul_comm, mod-lt}
use Rattle.std.proofs.lemmas.Bool.{cases_lt, lt-ltb, cond-true, cond-false, and_right}
use Rattle.std.proofs.lemmas.List.{same_lists, get_or-take, get_or-drop, length-take-le, length-drop, get_or_default}
use Rattle.std.proofs.lemmas.List.FromFn.{length-map-range_with_len, get_or-map-range_with_len}
use Rattle.std.proofs.lemmas.Option.{slice_get-get_or}
use Rattle.life_limits.specs.declared.TheConstants.{VERSION, MAX_BLOCKS, MAX_GROUPS, MIN_BLOCKS, BUCKETS}
use Rattle.life_bytes.specs.declared.sector.Sector.{Sector}
use Rattle.life_bytes.specs.Sectors.{zero_sector}
use Rattle.life_bytes.specs.Fields.{field}
use Rattle.geometry.specs.declared.shape.Geometry.{Geometry}
use Rattle.geometry.specs.Places.{group_sectors, anchor_of}
use Rattle.geometry.specs.Shape.{IsGeometry}
use Rattle.life_table.specs.declared.table.Table.{Table}
use Rattle.life_table.specs.Table.{Group, empty_table, group_at, inode_in, map_group}
use Rattle.life_table.specs.Space.{times}
use Rattle.life_table.specs.History.{closed, closed_inode}
use Rattle.life_table.specs.declared.table.Inode.{Inode}
use Rattle.life_table.specs.WellFormed.{IsTable}
use Rattle.sound_image.specs.Places.{bytes_at, sector_in}
use Rattle.sound_image.specs.Encoding.{Layouts, AreLayouts, CanEncode, HasSameLayouts, metadata, encoded, encoded_bytes, is_unlinked}
use Rattle.sound_image.specs.Superblocks.{HasSuperblock, IsLongEnough}
use Rattle.log_image.specs.Anchor.{HasAnchor}
use Rattle.log_image.specs.Log.{AreBelow, groups_part}
use Rattle.whole_image.specs.Front.{ring_of}
use Rattle.whole_image.specs.Represents.{Represents}
use Rattle.image_make.specs.Empty.{IsFinished, empty_sector, sector_or_zero}
use Rattle.image_make.specs.Outcome.{IsEmptyImage}
use Rattle.image_make.proofs.Blank.{as_none, blank_layouts, list_is, lists_each, one_each, page_is}
use Rattle.image_make.proofs.Places.{at_none}

-- ---- the table

abbrev empty_of : Geometry → Table
empty_of g = empty_table g.version g.groups g.blocks

no_chunks : (n k : ℕ) → let group : Group = get_or (replicate n []) k [] in group ≡ []
no_chunks zero k = refl
no_chunks (suc n) zero = refl
no_chunks (suc n) (suc k) = no_chunks n k

many_groups : (n : ℕ) → let groups : List Group = replicate n [] in length groups ≡ n
many_groups zero = refl
many_groups (suc n) = ap suc (many_groups n)

well_formed : ((groups blocks : ℕ) → 1 ≤ groups → groups ≤ MAX_GROUPS → MIN_BLOCKS ≤ blocks → blocks ≤ MAX_BLOCKS → IsTable (empty_table VERSION groups blocks))
    → (g : Geometry) → IsGeometry g → IsTable (empty_of g)
well_formed empty g shape =
    subst (λ (v : ℕ). IsTable (empty_table v g.groups g.blocks)) (sym shape.version) (empty g.groups g.blocks shape.groups.0 shape.groups.1 shape.blocks.0 shape.blocks.1)

-- nobody holds an inode of it
same_groups : (change : Inode → Inode) (n : ℕ) → let groups : List Group = replicate n [] in map (map_group change) groups ≡ groups
same_groups change zero = refl
same_groups change (suc n) = ap (λ (l : List Group). [] ∷ l) (same_groups change n)

closed_empty : (g : Geometry) → closed (empty_of g) ≡ empty_of g
closed_empty g = ap (λ (l : List Group). let t : Table = record { version = g.version; blocks = g.blocks; groups = l } in t) (same_groups closed_inode g.groups)

no_inode : (g : Geometry) (group agino : ℕ) → inode_in (group_at (empty_of g) group) agino ≡ None
unfolding inode_in
no_inode g group agino = ap (λ (l : Group). inode_in l agino) (no_chunks g.groups group)

in_no_list : (b : Bool) (inode : Option Inode) → inode ≡ None → let count : ℕ = 0 in count ≡ cond (b && is_unlinked inode) 1 0
in_no_list b inode none = sym (cond-false (b && is_unlinked inode) 1 0 (and_right b (is_unlinked inode) (ap is_unlinked none)))

not_listed : (agino : ℕ) → times agino [] ≡ 0
unfolding times
not_listed agino = refl

layouts : (g : Geometry) → AreLayouts (empty_of g) (blank_layouts g)
layouts g = record {
  groups = one_each g ∙ sym (many_groups g.groups);
  lists = λ group lt. lists_each g group (omega (arith, lt, many_groups g.groups));
  pages = λ group lt. let is = page_is g group (omega (arith, lt, many_groups g.groups)) in (omega (arith, is), omega (arith, is));
  buckets = λ group bucket agino lt low.
      ap (times agino) (list_is g group bucket (omega (arith, lt, many_groups g.groups)) low) ∙ not_listed agino
      ∙ in_no_list (eqb (agino % BUCKETS) bucket) (inode_in (group_at (empty_of g) group) agino) (no_inode g group agino);
}

can_encode : (g : Geometry) (base : List Sector) → IsGeometry g → IsTable (empty_of g) → anchor_of g ≤ length base → CanEncode g (empty_of g) (blank_layouts g) base
can_encode g base shape table enough =
    record { shape = shape; table = table; groups = many_groups g.groups; blocks = refl; layouts_of = layouts g; size = enough }

-- ---- the groups

-- the first sector of the image is a place of which the format says nothing
first_place : (g : Geometry) (group place : ℕ) → sector_in g group place ≤ 0 → place ≡ 0
unfolding sector_in
first_place g group place low = omega arith

again : (o : Option (List ℕ)) (d : List ℕ) → unwrap_or o (unwrap_or o d) ≡ unwrap_or o d
again None d = refl
again (Some bytes) d = refl

-- what the format says of a place stands there
place_holds : (g : Geometry) (image : List Sector) (group place : ℕ) → IsFinished g image → group < g.groups → place < group_sectors g
    → unwrap_or (metadata g [] group [] place) (sector_or_zero image (sector_in g group place)).bytes ≡ (sector_or_zero image (sector_in g group place)).bytes
place_holds g image group place finished lt low = elim (cases_lt 0 (sector_in g group place)) [
  | inl behind ↦
      let o = metadata g [] group [] place in
      let e : sector_or_zero image (sector_in g group place) ≡ empty_sector g group place = finished.groups group place lt low behind in
      ap (λ (s : Sector). unwrap_or o s.bytes) e ∙ again o zero_sector.bytes ∙ sym (ap (λ (s : Sector). s.bytes) e)
  | inr first ↦
      let none : place ≡ 0 = first_place g group place first in
      ap (λ (o : Option (List ℕ)). unwrap_or o (sector_or_zero image (sector_in g group place)).bytes) (at_none g group place (inl (omega arith)))
]

abbrev base_of : Geometry → List Sector → List Sector
base_of g image = groups_part (anchor_of g) image

-- a sector of the groups is its place in its group
by_place : (groups size s : ℕ) → s < groups * size → (s / size < groups) × (s % size < size) × (s / size * size + s % size ≡ s)
by_place groups size s lt =
    let whole : size * (s / size) + s % size ≡ s = div-add-mod s size in
    elim (cases_lt 0 size) [
      | inl some ↦
          let low : s / size < groups = elim (cases_lt (s / size) groups) [
            | inl less ↦ less
            | inr more ↦ let all : size * groups ≤ size * (s / size) = mul-le-mul_left size more in let turned : size * groups ≡ groups * size = mul_comm size groups in absurd (omega arith)
          ] in
          (low, mod-lt s some, ap (λ (n : ℕ). n + s % size) (mul_comm (s / size) size) ∙ whole)
      | inr none ↦
          let zero_size : size ≡ 0 = omega arith in
          let less : s < groups * 0 = subst (λ (n : ℕ). s < groups * n) zero_size lt in
          absurd (omega arith)
    ]

encoded_at : (g : Geometry) (image : List Sector) (s : ℕ) → IsFinished g image → s < anchor_of g → encoded_bytes g (empty_of g) [] (base_of g image) s ≡ bytes_at (base_of g image) s
unfolding encoded_bytes bytes_at sector_in
encoded_at g image s finished lt =
    let size : ℕ = group_sectors g in
    let at = by_place g.groups size s lt in
    let old : List ℕ = (get_or (base_of g image) s zero_sector).bytes in
    let is : get_or (base_of g image) s zero_sector ≡ sector_or_zero image s = get_or-take (anchor_of g) image s zero_sector lt in
    cond-true (ltb s (anchor_of g)) _ _ (lt-ltb s (anchor_of g) lt)
    ∙ ap (λ (l : Group). unwrap_or (metadata g [] (s / size) l (s % size)) old) (no_chunks g.groups (s / size))
    ∙ ap (λ (x : Sector). unwrap_or (metadata g [] (s / size) [] (s % size)) x.bytes) (is ∙ ap (sector_or_zero image) (sym at.2))
    ∙ place_holds g image (s / size) (s % size) finished at.0 at.1
    ∙ ap (λ (x : Sector). x.bytes) (ap (sector_or_zero image) at.2 ∙ sym is)

abbrev sector_of : List ℕ → Sector
sector_of bytes = record { bytes = bytes }

groups_encoded : (g : Geometry) (image : List Sector) → IsFinished g image → base_of g image ≡ encoded g (empty_of g) [] (base_of g image)
unfolding encoded bytes_at
groups_encoded g image finished =
    let base : List Sector = base_of g image in
    let long : length base ≡ anchor_of g = length-take-le (anchor_of g) image (omega (arith, finished.size)) in
    let same = length-map-range_with_len (λ s. sector_of (encoded_bytes g (empty_of g) [] base s)) 0 (length base) in
    same_lists base (encoded g (empty_of g) [] base) (sym same)
    (λ k d lt.
    get_or_default base k d zero_sector lt
    ∙ ap sector_of (sym (encoded_at g image k finished (omega arith)))
    ∙ sym (get_or-map-range_with_len (λ s. sector_of (encoded_bytes g (empty_of g) [] base s)) 0 (length base) k k d lt (omega arith)))

-- ---- the anchor and the ring

anchor_there : (g : Geometry) (image : List Sector) → IsGeometry g → IsFinished g image → HasAnchor image (anchor_of g) g.ring g.ring 1
anchor_there g image shape finished = record {
  sector = slice_get-get_or image (anchor_of g) zero_sector (omega (arith, finished.size)) ∙ ap (λ (s : Sector). Some s) finished.anchor;
  start = (omega arith, omega (arith, shape.ring));
  number = (omega arith, omega arith);
}

zero_field : field 8 0 zero_sector.bytes ≡ 0
zero_field = refl

ring_below : (g : Geometry) (image : List Sector) → IsGeometry g → IsFinished g image → AreBelow (ring_of g image) g.ring
ring_below g image shape finished = record {
  each = λ place d lt.
      let behind : List Sector = drop (anchor_of g + 1) image in
      let long = length-take-le g.ring behind (omega (arith, finished.size, length-drop (anchor_of g + 1) image)) in
      let low : place < g.ring = omega arith in
      let is : get_or (ring_of g image) place d ≡ zero_sector =
      get_or_default (ring_of g image) place d zero_sector lt
      ∙ get_or-take g.ring behind place zero_sector low ∙ get_or-drop (anchor_of g + 1) image place zero_sector
      ∙ finished.ring (anchor_of g + 1 + place) (omega arith) in
      let none : field 8 0 (get_or (ring_of g image) place d).bytes ≡ 0 = ap (λ (s : Sector). field 8 0 s.bytes) is ∙ zero_field in
      omega (arith, shape.ring);
}

-- ---- the image

pub stands : ((groups blocks : ℕ) → 1 ≤ groups → groups ≤ MAX_GROUPS → MIN_BLOCKS ≤ blocks → blocks ≤ MAX_BLOCKS → IsTable (empty_table VERSION groups blocks))
    → ((g : Geometry) (t : Table) (layouts : Layouts) (base image : List Sector) (position next : ℕ) → HasSuperblock g image → IsLongEnough g image
    → HasAnchor image (anchor_of g) g.ring position next → AreBelow (ring_of g image) position → CanEncode g t layouts base
    → groups_part (anchor_of g) image ≡ encoded g t layouts base → Represents image (closed t) next)
    → ((g : Geometry) (t : Table) (layouts others : Layouts) (image : List Sector) → HasSameLayouts g layouts others → encoded g t others image ≡ encoded g t layouts image)
    → (g : Geometry) (image : List Sector) → IsGeometry g → IsFinished g image → IsEmptyImage g image
unfolding bytes_at
stands empty encodes alike g image shape finished =
    let base : List Sector = base_of g image in
    let long : length base ≡ anchor_of g = length-take-le (anchor_of g) image (omega (arith, finished.size)) in
    let has : HasSuperblock g image = record { shape = shape; encoded = finished.first } in (
      has,
      subst (λ (t : Table). Represents image t 1) (closed_empty g)
          (encodes g (empty_of g) (blank_layouts g) base image g.ring 1 has finished.size (anchor_there g image shape finished) (ring_below g image shape finished)
          (can_encode g base shape (well_formed empty g shape) (omega arith)) (groups_encoded g image finished ∙ sym (alike g (empty_of g) [] (blank_layouts g) base (as_none g)))),
      finished,
    )
