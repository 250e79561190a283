-- What stands at the places of a group, and where the inodes of a table have theirs.
use Rattle.std.proofs.Common.{◌≡◌, ◌<◌, ◌≤◌, ◌+◌, ◌-◌, ◌*◌, ◌/◌, ◌%◌, ℕ, true, false, List, [], ◌∷◌, Some, eqb, leb, ltb, inl, inr, refl, ap, sym, ◌∙◌, arith}
use Rattle.std.specs.Prelude.{◌&&◌, slice_get}
use Rattle.std.specs.List.{AllByRecursion}
use Rattle.std.specs.Option.{option_map}
use Rattle.std.proofs.lemmas.Bool.{and_from, and_right, cases_eq, cond-false, cond-true, le-leb, le-ltb, lt-ltb, ne_eqb}
use Rattle.std.proofs.lemmas.List.Elements.{All-from_recursion}
use Rattle.std.proofs.lemmas.Option.{none-some}
use Rattle.life_limits.specs.declared.TheConstants.{BLOCK_SECTORS, CHUNK_INODES, FIRST_DATA_BLOCK, FIRST_PAGE_BLOCK, LAST_PAGE_BLOCK}
use Rattle.life_bytes.specs.declared.sector.Sector.{Sector}
use Rattle.geometry.specs.declared.shape.Geometry.{Geometry}
use Rattle.geometry.specs.Places.{group_sectors}
use Rattle.ag_header.specs.Headers.{header_encoding}
use Rattle.life_table.specs.declared.table.Inode.{Inode}
use Rattle.life_table.specs.declared.table.Table.{Table}
use Rattle.life_table.specs.Table.{Group, group_at, inode_in, start_of}
use Rattle.life_table.specs.Space.{times, used}
use Rattle.life_table.specs.WellFormed.{IsChunk, IsDataBlock, IsGroup}
use Rattle.sound_image.specs.Places.{part}
use Rattle.sound_image.specs.Encoding.{Layouts, CanEncode, header_for, inode_sector, metadata, page_bytes, page_of, page_place}
use Rattle.encoded_changes.proofs.Places.{by_tests, is_bitmap, is_page}
use Rattle.encoded_changes.proofs.Inodes.{used_first}
use Rattle.encoded_changes.proofs.Created.{first_block, last_block}

pub at_header : (g : Geometry) (layouts : Layouts) (group : ℕ) (chunks : Group) → metadata g layouts group chunks 2 ≡ Some (header_encoding (header_for g group chunks layouts))
at_header g layouts group chunks = by_tests g layouts group chunks 2

within : (low high place : ℕ) → low ≤ place → place < high → (leb low place && ltb place high) ≡ true
within low high place a b = and_from (leb low place) (ltb place high) (le-leb low place a) (lt-ltb place high b)

past : (low high place : ℕ) → high ≤ place → (leb low place && ltb place high) ≡ false
past low high place a = and_right (leb low place) (ltb place high) (le-ltb place high a)

page_is : (layouts : Layouts) (group : ℕ) → page_place layouts group ≡ BLOCK_SECTORS * page_of layouts group
unfolding page_place
page_is layouts group = refl

pub at_page : (g : Geometry) (layouts : Layouts) (group : ℕ) (chunks : Group) (k : ℕ) → FIRST_PAGE_BLOCK ≤ page_of layouts group → k < BLOCK_SECTORS
    → metadata g layouts group chunks (page_place layouts group + k) ≡ Some (part k (page_bytes g layouts group chunks))
at_page g layouts group chunks k first lt =
    let p : ℕ = page_place layouts group in
    let low : 16 ≤ p = omega (arith, first, page_is layouts group) in
    let back : p + k - p ≡ k = omega arith in
    by_tests g layouts group chunks (p + k)
    ∙ cond-false (eqb (p + k) 2) _ _ (ne_eqb (p + k) 2 (λ e. omega arith))
    ∙ cond-false (is_bitmap (p + k)) _ _ (past 8 12 (p + k) (omega arith))
    ∙ cond-true (is_page p (p + k)) _ _ (within p (p + 8) (p + k) (omega arith) (omega arith))
    ∙ ap (λ (n : ℕ). Some (part n (page_bytes g layouts group chunks))) back

pub at_inode : (g : Geometry) (layouts : Layouts) (group : ℕ) (chunks : Group) (agino : ℕ) (inode : Inode) → page_of layouts group ≤ LAST_PAGE_BLOCK
    → FIRST_DATA_BLOCK * BLOCK_SECTORS ≤ agino → inode_in chunks agino ≡ Some inode → metadata g layouts group chunks agino ≡ Some (inode_sector g layouts group agino inode)
at_inode g layouts group chunks agino inode last low found =
    let p : ℕ = page_place layouts group in
    let high : p + 8 ≤ agino = omega (arith, last, low, page_is layouts group) in
    by_tests g layouts group chunks agino
    ∙ cond-false (eqb agino 2) _ _ (ne_eqb agino 2 (λ e. omega (arith, low, e)))
    ∙ cond-false (is_bitmap agino) _ _ (past 8 12 agino (omega (arith, low)))
    ∙ cond-false (is_page p agino) _ _ (past p (p + 8) agino high)
    ∙ ap (option_map (inode_sector g layouts group agino)) found

-- ---- the numbers of a well-formed group

in_range : (blocks : ℕ) (group : Group) (agino : ℕ) (inode : Inode) → AllByRecursion IsChunk group → ((b : ℕ) → 1 ≤ times b (used group) → IsDataBlock blocks b)
    → inode_in group agino ≡ Some inode → (FIRST_DATA_BLOCK * BLOCK_SECTORS ≤ agino) × (agino < blocks * BLOCK_SECTORS)
unfolding inode_in
in_range blocks [] agino inode is data_blocks e = absurd (none-some inode e)
in_range blocks (c ∷ cs) agino inode is data_blocks e =
    elim (cases_eq c.start (start_of agino)) [
      | inl here ↦
          let start : c.start % CHUNK_INODES ≡ 0 = is.0.start in
          let first = data_blocks (c.start / BLOCK_SECTORS) (omega (arith, first_block c (c.start / BLOCK_SECTORS) (omega (arith, start)), used_first (c.start / BLOCK_SECTORS) c cs)) in
          let last = data_blocks (c.start / BLOCK_SECTORS + 7) (omega (arith, last_block c, used_first (c.start / BLOCK_SECTORS + 7) c cs)) in
          let low = first.0 in
          let high = last.1 in
          (omega (arith, low, start, here), omega (arith, high, start, here))
      | inr other ↦
          in_range blocks cs agino inode is.1 (λ b h. data_blocks b (omega (arith, h, used_first b c cs)))
          (sym (cond-false (eqb c.start (start_of agino)) (slice_get c.inodes (agino % CHUNK_INODES)) (inode_in cs agino) (ne_eqb c.start (start_of agino) other)) ∙ e)
    ]

pub has_place : (g : Geometry) (t : Table) (layouts : Layouts) (image : List Sector) (group agino : ℕ) (inode : Inode) → CanEncode g t layouts image → group < g.groups
    → inode_in (group_at t group) agino ≡ Some inode → (FIRST_DATA_BLOCK * BLOCK_SECTORS ≤ agino) × (agino < group_sectors g)
has_place g t layouts image group agino inode can lt found =
    let is : IsGroup t.blocks (group_at t group) = All-from_recursion (IsGroup t.blocks) t.groups can.table.groups group [] (omega (arith, lt, can.groups)) in
    let range = in_range t.blocks (group_at t group) agino inode is.chunks is.data_blocks found in
    (range.0, omega (arith, range.1, can.blocks))
