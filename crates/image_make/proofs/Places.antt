-- What the format says of each place of a group without a chunk.
use Rattle.std.proofs.Common.{◌≡◌, ◌<◌, ◌≤◌, ◌+◌, ◌-◌, ◌⊎◌, ℕ, Bool, true, false, cond, List, [], ◌∷◌, Option, None, Some, length, eqb, leb, ltb, refl, sym, ap, subst, ◌∙◌, inl, inr, arith}
use Rattle.std.specs.Prelude.{◌&&◌, unwrap_or, replicate}
use Rattle.std.proofs.lemmas.Bool.{lt-leb, lt-ltb, le-ltb, ne_eqb, cond-true, cond-false, and_left, and_right, and_from, le-leb, cases_lt}
use Rattle.life_bytes.specs.declared.sector.Sector.{Sector}
use Rattle.life_bytes.specs.Sectors.{zero_sector}
use Rattle.geometry.specs.declared.shape.Geometry.{Geometry}
use Rattle.ag_header.specs.Headers.{header_encoding}
use Rattle.free_map.specs.Bitmap.{bitmap}
use Rattle.life_table.specs.Table.{inode_in}
use Rattle.sound_image.specs.Places.{part}
use Rattle.sound_image.specs.Rules.{free_set}
use Rattle.sound_image.specs.Encoding.{header_for, layout_of, page_of, page_place, page_bytes, metadata}
use Rattle.image_make.specs.Empty.{empty_sector, sector_or_zero}
use Rattle.image_make.proofs.Putting.{with_at, length-with_at, put_inside, put_before, put_behind, all_zero}

abbrev is_bitmap : ℕ → Bool
is_bitmap place = leb 8 place && ltb place 12

abbrev is_page : ℕ → Bool
is_page place = leb 16 place && ltb place 24

by_tests : (g : Geometry) (group place : ℕ) → metadata g [] group [] place
    ≡ cond (eqb place 2) (Some (header_encoding (header_for g group [] []))) (cond (is_bitmap place) (Some (part (place - 8) (bitmap (free_set g.blocks []))))
    (cond (is_page place) (Some (part (place - 16) (page_bytes g [] group []))) None))
unfolding metadata page_place page_of layout_of inode_in
by_tests g group place = refl

pub at_header : (g : Geometry) (group : ℕ) → metadata g [] group [] 2 ≡ Some (header_encoding (header_for g group [] []))
at_header g group = by_tests g group 2

within : (low high place : ℕ) → low ≤ place → place < high → (leb low place && ltb place high) ≡ true
within low high place a b = and_from (leb low place) (ltb place high) (le-leb low place a) (lt-ltb place high b)

past : (low high place : ℕ) → high ≤ place → (leb low place && ltb place high) ≡ false
past low high place a = and_right (leb low place) (ltb place high) (le-ltb place high a)

below : (low high place : ℕ) → place < low → (leb low place && ltb place high) ≡ false
below low high place a = and_left (leb low place) (ltb place high) (lt-leb low place a)

pub at_bitmap : (g : Geometry) (group k : ℕ) → k < 4 → metadata g [] group [] (8 + k) ≡ Some (part k (bitmap (free_set g.blocks [])))
at_bitmap g group k lt =
    let back : 8 + k - 8 ≡ k = omega arith in
    by_tests g group (8 + k)
    ∙ cond-false (eqb (8 + k) 2) _ _ (ne_eqb (8 + k) 2 (λ e. omega arith))
    ∙ cond-true (is_bitmap (8 + k)) _ _ (within 8 12 (8 + k) (omega arith) (omega arith))
    ∙ ap (λ (n : ℕ). Some (part n (bitmap (free_set g.blocks [])))) back

pub at_page : (g : Geometry) (group k : ℕ) → k < 8 → metadata g [] group [] (16 + k) ≡ Some (part k (page_bytes g [] group []))
at_page g group k lt =
    let back : 16 + k - 16 ≡ k = omega arith in
    by_tests g group (16 + k)
    ∙ cond-false (eqb (16 + k) 2) _ _ (ne_eqb (16 + k) 2 (λ e. omega arith))
    ∙ cond-false (is_bitmap (16 + k)) _ _ (past 8 12 (16 + k) (omega arith))
    ∙ cond-true (is_page (16 + k)) _ _ (within 16 24 (16 + k) (omega arith) (omega arith))
    ∙ ap (λ (n : ℕ). Some (part n (page_bytes g [] group []))) back

-- of the other places it says nothing
pub at_none : (g : Geometry) (group place : ℕ) → (place < 2) ⊎ (((2 < place) × (place < 8)) ⊎ (((12 ≤ place) × (place < 16)) ⊎ (24 ≤ place))) → metadata g [] group [] place ≡ None
at_none g group place (inl low) =
    by_tests g group place
    ∙ cond-false (eqb place 2) _ _ (ne_eqb place 2 (λ e. omega arith))
    ∙ cond-false (is_bitmap place) _ _ (below 8 12 place (omega arith))
    ∙ cond-false (is_page place) _ _ (below 16 24 place (omega arith))
at_none g group place (inr (inl (more, low))) =
    by_tests g group place
    ∙ cond-false (eqb place 2) _ _ (ne_eqb place 2 (λ e. omega arith))
    ∙ cond-false (is_bitmap place) _ _ (below 8 12 place (omega arith))
    ∙ cond-false (is_page place) _ _ (below 16 24 place (omega arith))
at_none g group place (inr (inr (inl (more, low)))) =
    by_tests g group place
    ∙ cond-false (eqb place 2) _ _ (ne_eqb place 2 (λ e. omega arith))
    ∙ cond-false (is_bitmap place) _ _ (past 8 12 place more)
    ∙ cond-false (is_page place) _ _ (below 16 24 place (omega arith))
at_none g group place (inr (inr (inr more))) =
    by_tests g group place
    ∙ cond-false (eqb place 2) _ _ (ne_eqb place 2 (λ e. omega arith))
    ∙ cond-false (is_bitmap place) _ _ (past 8 12 place (omega arith))
    ∙ cond-false (is_page place) _ _ (past 16 24 place more)

abbrev sector_of : List ℕ → Sector
sector_of bytes = record { bytes = bytes }

some_sector : (g : Geometry) (group place : ℕ) (sector : Sector) (bytes : List ℕ) → metadata g [] group [] place ≡ Some bytes → sector.bytes ≡ bytes → sector ≡ empty_sector g group place
some_sector g group place sector bytes is same =
    ap sector_of same ∙ sym (ap (λ (o : Option (List ℕ)). sector_of (unwrap_or o zero_sector.bytes)) is)

pub no_sector : (g : Geometry) (group place : ℕ) → metadata g [] group [] place ≡ None → empty_sector g group place ≡ zero_sector
no_sector g group place is = ap (λ (o : Option (List ℕ)). sector_of (unwrap_or o zero_sector.bytes)) is

-- the head of a group, as it is put together
pub record Head (g : Geometry) (group : ℕ) (header : Sector) (map page head : List Sector) : Type 0 where
  pub header_is : header.bytes ≡ header_encoding (header_for g group [] [])
  pub map_long : length map ≡ 4
  pub map_is : (k : ℕ) → k < 4 → (sector_or_zero map k).bytes ≡ part k (bitmap (free_set g.blocks []))
  pub page_long : length page ≡ 8
  pub page_is : (k : ℕ) → k < 8 → (sector_or_zero page k).bytes ≡ part k (page_bytes g [] group [])
  pub is : head ≡ with_at 14 page (with_at 6 map (with_at 0 (header ∷ []) (replicate 22 zero_sector)))

abbrev first_of : Sector → List Sector
first_of header = with_at 0 (header ∷ []) (replicate 22 zero_sector)

first_long : (header : Sector) → length (first_of header) ≡ 22
first_long header = refl

second_long : (header : Sector) (map : List Sector) → length map ≡ 4 → length (with_at 6 map (first_of header)) ≡ 22
second_long header map long = length-with_at 6 map (first_of header) (omega (arith, first_long header)) ∙ first_long header

pub head_long : (g : Geometry) (group : ℕ) (header : Sector) (map page head : List Sector) → Head g group header map page head → length head ≡ 22
head_long g group header map page head h =
    let long = second_long header map h.map_long in
    let long_page = h.page_long in
    ap length h.is ∙ length-with_at 14 page (with_at 6 map (first_of header)) (omega arith) ∙ long

-- a place that is neither of the bitmap nor of the page
aside : (g : Geometry) (group : ℕ) (header : Sector) (map page head : List Sector) (k : ℕ) → Head g group header map page head → k < 22 → (k < 6) ⊎ ((10 ≤ k) × (k < 14))
    → sector_or_zero head k ≡ sector_or_zero (first_of header) k
aside g group header map page head k h lt (inl low) =
    let long = second_long header map h.map_long in
    let long_page = h.page_long in
    let long_map = h.map_long in
    ap (λ (l : List Sector). sector_or_zero l k) h.is
    ∙ put_before 14 k page (with_at 6 map (first_of header)) (omega arith) (omega arith)
    ∙ put_before 6 k map (first_of header) (omega (arith, first_long header)) low
aside g group header map page head k h lt (inr (more, low)) =
    let long = second_long header map h.map_long in
    let long_page = h.page_long in
    let long_map = h.map_long in
    ap (λ (l : List Sector). sector_or_zero l k) h.is
    ∙ put_before 14 k page (with_at 6 map (first_of header)) (omega arith) low
    ∙ put_behind 6 k map (first_of header) (omega (arith, first_long header)) (omega arith)

blank_at : (header : Sector) (k : ℕ) → 1 ≤ k → sector_or_zero (first_of header) k ≡ zero_sector
blank_at header k some = put_behind 0 k (header ∷ []) (replicate 22 zero_sector) (omega arith) (omega arith) ∙ all_zero 22 k

in_map : (g : Geometry) (group : ℕ) (header : Sector) (map page head : List Sector) (j : ℕ) → Head g group header map page head → j < 4 → sector_or_zero head (6 + j) ≡ sector_or_zero map j
in_map g group header map page head j h lt =
    let long = second_long header map h.map_long in
    let long_page = h.page_long in
    let long_map = h.map_long in
    ap (λ (l : List Sector). sector_or_zero l (6 + j)) h.is
    ∙ put_before 14 (6 + j) page (with_at 6 map (first_of header)) (omega arith) (omega arith)
    ∙ put_inside 6 j map (first_of header) (omega (arith, first_long header)) (omega arith)

in_page : (g : Geometry) (group : ℕ) (header : Sector) (map page head : List Sector) (j : ℕ) → Head g group header map page head → j < 8 → sector_or_zero head (14 + j) ≡ sector_or_zero page j
in_page g group header map page head j h lt =
    let long = second_long header map h.map_long in
    let long_page = h.page_long in
    ap (λ (l : List Sector). sector_or_zero l (14 + j)) h.is
    ∙ put_inside 14 j page (with_at 6 map (first_of header)) (omega arith) (omega arith)

abbrev Right : Geometry → ℕ → List Sector → ℕ → Type 0
Right g group head k = sector_or_zero head k ≡ empty_sector g group (2 + k)

at_zero : (g : Geometry) (group : ℕ) (header : Sector) (map page head : List Sector) → Head g group header map page head → Right g group head 0
at_zero g group header map page head h =
    aside g group header map page head 0 h (omega arith) (inl (omega arith))
    ∙ some_sector g group 2 header (header_encoding (header_for g group [] [])) (at_header g group) h.header_is

at_map : (g : Geometry) (group : ℕ) (header : Sector) (map page head : List Sector) (j : ℕ) → Head g group header map page head → j < 4 → Right g group head (6 + j)
at_map g group header map page head j h lt =
    let place : 8 + j ≡ 2 + (6 + j) = omega arith in
    in_map g group header map page head j h lt
    ∙ some_sector g group (8 + j) (sector_or_zero map j) (part j (bitmap (free_set g.blocks []))) (at_bitmap g group j lt) (h.map_is j lt)
    ∙ ap (empty_sector g group) place

at_pages : (g : Geometry) (group : ℕ) (header : Sector) (map page head : List Sector) (j : ℕ) → Head g group header map page head → j < 8 → Right g group head (14 + j)
at_pages g group header map page head j h lt =
    let place : 16 + j ≡ 2 + (14 + j) = omega arith in
    in_page g group header map page head j h lt
    ∙ some_sector g group (16 + j) (sector_or_zero page j) (part j (page_bytes g [] group [])) (at_page g group j lt) (h.page_is j lt)
    ∙ ap (empty_sector g group) place

-- a place that is left zero
at_blank : (g : Geometry) (group : ℕ) (header : Sector) (map page head : List Sector) (k : ℕ) → Head g group header map page head → k < 22 → 1 ≤ k → (k < 6) ⊎ ((10 ≤ k) × (k < 14))
    → metadata g [] group [] (2 + k) ≡ None → Right g group head k
at_blank g group header map page head k h lt some where_is none =
    aside g group header map page head k h lt where_is ∙ blank_at header k some ∙ sym (no_sector g group (2 + k) none)

pub head_holds : (g : Geometry) (group : ℕ) (header : Sector) (map page head : List Sector) (k : ℕ) → Head g group header map page head → k < 22 → Right g group head k
head_holds g group header map page head k h lt = elim (cases_lt k 1) [
  | inl none ↦ let e : 0 ≡ k = omega arith in subst (Right g group head) e (at_zero g group header map page head h)
  | inr some ↦ elim (cases_lt k 6) [
    | inl low ↦ at_blank g group header map page head k h lt some (inl low) (at_none g group (2 + k) (inr (inl (omega arith, omega arith))))
    | inr more ↦ elim (cases_lt k 10) [
      | inl low ↦ let e : 6 + (k - 6) ≡ k = omega arith in subst (Right g group head) e (at_map g group header map page head (k - 6) h (omega arith))
      | inr above ↦ elim (cases_lt k 14) [
        | inl low ↦ at_blank g group header map page head k h lt some (inr (above, low)) (at_none g group (2 + k) (inr (inr (inl (omega arith, omega arith)))))
        | inr high ↦ let e : 14 + (k - 14) ≡ k = omega arith in subst (Right g group head) e (at_pages g group header map page head (k - 14) h (omega arith))
      ]
    ]
  ]
]
