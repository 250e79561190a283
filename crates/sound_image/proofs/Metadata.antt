-- What stands at each place of a group.
use Rattle.std.proofs.Common.{◌≡◌, ◌<◌, ◌≤◌, ◌+◌, ◌-◌, ℕ, Bool, true, false, cond, List, Option, Some, eqb, leb, ltb, refl, ap, ◌∙◌, arith}
use Rattle.std.specs.Prelude.{◌&&◌}
use Rattle.std.specs.Option.{option_map}
use Rattle.std.proofs.lemmas.Bool.{and_left, lt-leb, lt-ltb, le-ltb, ne_eqb, cond-true, cond-false, and_right, and_from, le-leb}
use Rattle.geometry.specs.declared.shape.Geometry.{Geometry}
use Rattle.ag_header.specs.Headers.{header_encoding}
use Rattle.free_map.specs.Bitmap.{bitmap}
use Rattle.life_table.specs.Table.{Group, inode_in}
use Rattle.sound_image.specs.Places.{part}
use Rattle.sound_image.specs.Rules.{free_set}
use Rattle.sound_image.specs.Encoding.{Layouts, header_for, inode_sector, page_place, page_bytes, metadata}

abbrev pub is_bitmap : ℕ → Bool
is_bitmap place = leb 8 place && ltb place 12

abbrev pub is_page : ℕ → ℕ → Bool
is_page p place = leb p place && ltb place (p + 8)

-- the four cases, by the tests
abbrev pub chosen : Bool → Bool → Bool → Option (List ℕ) → Option (List ℕ) → Option (List ℕ) → Option (List ℕ) → Option (List ℕ)
chosen a b c header map_part page inode = cond a header (cond b map_part (cond c page inode))

pub by_tests : (g : Geometry) (layouts : Layouts) (group : ℕ) (chunks : Group) (place : ℕ) → metadata g layouts group chunks place
    ≡ chosen (eqb place 2) (is_bitmap place) (is_page (page_place layouts group) place) (Some (header_encoding (header_for g group chunks layouts)))
    (Some (part (place - 8) (bitmap (free_set g.blocks chunks)))) (Some (part (place - page_place layouts group) (page_bytes g layouts group chunks)))
    (option_map (inode_sector g layouts group place) (inode_in chunks place))
unfolding metadata
by_tests g layouts group chunks place = refl

pub at_header : (g : Geometry) (layouts : Layouts) (group : ℕ) (chunks : Group) → metadata g layouts group chunks 2 ≡ Some (header_encoding (header_for g group chunks layouts))
at_header g layouts group chunks = by_tests g layouts group chunks 2

within : (low high place : ℕ) → low ≤ place → place < high → (leb low place && ltb place high) ≡ true
within low high place a b = and_from (leb low place) (ltb place high) (le-leb low place a) (lt-ltb place high b)

past : (low high place : ℕ) → high ≤ place → (leb low place && ltb place high) ≡ false
past low high place a = and_right (leb low place) (ltb place high) (le-ltb place high a)

pub at_bitmap : (g : Geometry) (layouts : Layouts) (group : ℕ) (chunks : Group) (k : ℕ) → k < 4 → metadata g layouts group chunks (8 + k) ≡ Some (part k (bitmap (free_set g.blocks chunks)))
at_bitmap g layouts group chunks k lt =
    let back : 8 + k - 8 ≡ k = omega arith in
    by_tests g layouts group chunks (8 + k)
    ∙ cond-false (eqb (8 + k) 2) _ _ (ne_eqb (8 + k) 2 (λ e. omega arith))
    ∙ cond-true (is_bitmap (8 + k)) _ _ (within 8 12 (8 + k) (omega arith) (omega arith))
    ∙ ap (λ (n : ℕ). Some (part n (bitmap (free_set g.blocks chunks)))) back

pub at_page : (g : Geometry) (layouts : Layouts) (group : ℕ) (chunks : Group) (k : ℕ) → 16 ≤ page_place layouts group → k < 8
    → metadata g layouts group chunks (page_place layouts group + k) ≡ Some (part k (page_bytes g layouts group chunks))
at_page g layouts group chunks k low lt =
    let p : ℕ = page_place layouts group in
    let back : p + k - p ≡ k = omega arith in
    by_tests g layouts group chunks (p + k)
    ∙ cond-false (eqb (p + k) 2) _ _ (ne_eqb (p + k) 2 (λ e. omega arith))
    ∙ cond-false (is_bitmap (p + k)) _ _ (past 8 12 (p + k) (omega arith))
    ∙ cond-true (is_page p (p + k)) _ _ (within p (p + 8) (p + k) (omega arith) (omega arith))
    ∙ ap (λ (n : ℕ). Some (part n (page_bytes g layouts group chunks))) back

pub at_inode : (g : Geometry) (layouts : Layouts) (group : ℕ) (chunks : Group) (place : ℕ) → 16 ≤ page_place layouts group → page_place layouts group + 8 ≤ place
    → metadata g layouts group chunks place ≡ option_map (inode_sector g layouts group place) (inode_in chunks place)
at_inode g layouts group chunks place low high =
    by_tests g layouts group chunks place
    ∙ cond-false (eqb place 2) _ _ (ne_eqb place 2 (λ e. omega arith))
    ∙ cond-false (is_bitmap place) _ _ (past 8 12 place (omega arith))
    ∙ cond-false (is_page (page_place layouts group) place) _ _ (past (page_place layouts group) (page_place layouts group + 8) place high)

-- the superblock's place
pub at_first : (g : Geometry) (layouts : Layouts) (group : ℕ) (chunks : Group) → 16 ≤ page_place layouts group
    → metadata g layouts group chunks 0 ≡ option_map (inode_sector g layouts group 0) (inode_in chunks 0)
at_first g layouts group chunks low =
    by_tests g layouts group chunks 0
    ∙ cond-false (is_page (page_place layouts group) 0) _ _ (and_left (leb (page_place layouts group) 0) (ltb 0 (page_place layouts group + 8)) (lt-leb (page_place layouts group) 0 (omega arith)))
