-- What the fields of a leaf's page say.
use Rattle.std.proofs.Common.{◌≡◌, ◌<◌, ◌≤◌, ◌+◌, ◌-◌, ◌*◌, ◌^◌, ℕ, true, List, [], ◌∷◌, ◌++◌, Some, length, take, drop, get_or, map, Option, None, IfSome, inl, inr, refl, ap, sym, ◌∙◌, arith, subst, lit≤, leb}
use Rattle.std.specs.List.{slice_get, range_with_len}
use Rattle.std.proofs.lemmas.List.{append_assoc, length-take-le, length-drop, length-replicate, take-append-drop, drop_more, same_lists}
use Rattle.std.proofs.lemmas.List.Elements.{All-get_or}
use Rattle.std.proofs.lemmas.List.FromFn.{length-map-range_with_len, get_or-map-range_with_len}
use Rattle.std.proofs.lemmas.Nat.{ones-le}
use Rattle.std.proofs.lemmas.Bool.{and_from, or_right, le-leb}
use Rattle.life_bytes.specs.Fields.{field}
use Rattle.life_bytes.specs.Pieces.{Field, number, placed, sealed}
use Rattle.life_bytes.specs.PieceLaws.{Apart}
use Rattle.life_bytes.specs.TableLaws.{AreFields, IsAside, is_aside, number_at, length-placed, length-sealed, sealed_other}
use Rattle.inobt_leaf.specs.declared.writing.TheConstants.{LEAF_CRC_AT, LEAF_RECORDS_AT}
use Rattle.inobt_leaf.specs.declared.chunk.ChunkRec.{ChunkRec}
use Rattle.inobt_leaf.specs.declared.siblings.Siblings.{Siblings}
use Rattle.inobt_leaf.specs.Chunks.{IsChunkRecord, IsLeaf}
use Rattle.inobt_leaf.specs.Pages.{AreSiblings, sibling_number, no_sibling, page_header, chunk_rows, chunk_records, blank_page, leaf_encoding, chunk_at, chunks_in}
use Rattle.inobt_leaf.specs.PageLaws.{PagesAreRead, PagesTellLeaves}
use Rattle.inobt_leaf.proofs.Tables.{row_among, AreRows-chunk, AreRows-records, IsAside-records, records-append}

length-blank_page : length blank_page ≡ 4096
unfolding blank_page
length-blank_page = length-replicate {A = ℕ} 4096 0

AreRows-header : (s : Siblings) (count group at : ℕ) (uuid : List ℕ) → length uuid ≡ 16 → AreFields 4096 (page_header s count group at uuid)
AreRows-header s count group at uuid is =
    ((lit≤ tt, refl), ((lit≤ tt, refl), ((lit≤ tt, refl), ((lit≤ tt, refl), ((lit≤ tt, refl), ((lit≤ tt, is), ((lit≤ tt, refl), tt)))))))

in_page : (rows : List Field) → AreFields 4096 rows → AreFields (length blank_page) rows
in_page rows h = subst (λ (n : ℕ). AreFields n rows) (sym length-blank_page) h

AreRows-append : (size : ℕ) (xs ys : List Field) → AreFields size xs → AreFields size ys → AreFields size (xs ++ ys)
AreRows-append size [] ys a b = b
AreRows-append size (x ∷ xs) ys a b = (a.0, AreRows-append size xs ys a.1 b)

-- a number of a table among others, in a page whose checksum stands in its place
number_among : (before mid after : List Field) (k at n v : ℕ) → AreFields 4096 before → AreFields 4096 mid → AreFields 4096 after
    → slice_get mid k ≡ Some (number at n v) → is_aside at n (drop (k + 1) mid) ≡ true → IsAside at n after → Apart LEAF_CRC_AT 4 at n → v < 256 ^ n
    → field n at (sealed LEAF_CRC_AT (placed (before ++ (mid ++ after)) blank_page)) ≡ v
number_among before mid after k at n v a b c found aside apart beside small =
    let bytes : List ℕ = placed (before ++ (mid ++ after)) blank_page in
    let rows : AreFields 4096 (before ++ (mid ++ after)) = AreRows-append 4096 before (mid ++ after) a (AreRows-append 4096 mid after b c) in
    let long : length bytes ≡ 4096 = length-placed (before ++ (mid ++ after)) blank_page (in_page (before ++ (mid ++ after)) rows) ∙ length-blank_page in
    number_at n at v (sealed LEAF_CRC_AT bytes) small (
    sealed_other LEAF_CRC_AT bytes n at (omega (arith, long)) beside
    ∙ row_among before mid after k (number at n v) blank_page (in_page before a) (in_page mid b) (in_page after c) found aside apart)

-- the count in the header
pub count_says : (s : Siblings) (chunks : List ChunkRec) (group at : ℕ) (uuid : List ℕ) → length uuid ≡ 16 → length chunks ≤ 252
    → field 2 6 (leaf_encoding s chunks group at uuid) ≡ length chunks
unfolding leaf_encoding
count_says s chunks group at uuid is few =
    number_among [] (page_header s (length chunks) group at uuid) (chunk_records LEAF_RECORDS_AT chunks) 1 6 2 (length chunks) tt
    (AreRows-header s (length chunks) group at uuid is) (AreRows-records 4096 LEAF_RECORDS_AT chunks (omega arith)) refl refl
    (IsAside-records 6 2 LEAF_RECORDS_AT chunks (omega arith)) (inr (omega arith)) (omega arith)

-- the table of a page as what stands before a record, the record, and what stands behind
parts : (s : Siblings) (chunks : List ChunkRec) (group at : ℕ) (uuid : List ℕ) (i : ℕ) (d : ChunkRec) → i < length chunks
    → page_header s (length chunks) group at uuid ++ chunk_records LEAF_RECORDS_AT chunks
    ≡ (page_header s (length chunks) group at uuid ++ chunk_records LEAF_RECORDS_AT (take i chunks))
    ++ (chunk_rows (LEAF_RECORDS_AT + 16 * i) (get_or chunks i d) ++ chunk_records (LEAF_RECORDS_AT + 16 * i + 16) (drop (i + 1) chunks))
parts s chunks group at uuid i d h =
    let h' : List Field = page_header s (length chunks) group at uuid in
    let front : List Field = chunk_records LEAF_RECORDS_AT (take i chunks) in
    let count : length (take i chunks) ≡ i = length-take-le i chunks (omega arith) in
    let split : chunk_records LEAF_RECORDS_AT chunks ≡ front ++ chunk_records (LEAF_RECORDS_AT + 16 * i) (get_or chunks i d ∷ drop (i + 1) chunks) =
    ap (chunk_records LEAF_RECORDS_AT) (sym (take-append-drop i chunks))
    ∙ records-append LEAF_RECORDS_AT (take i chunks) (drop i chunks)
    ∙ ap (λ (n : ℕ). front ++ chunk_records (LEAF_RECORDS_AT + 16 * n) (drop i chunks)) count
    ∙ ap (λ (cs : List ChunkRec). front ++ chunk_records (LEAF_RECORDS_AT + 16 * i) cs) (drop_more chunks i d h) in
    ap (λ (rows : List Field). h' ++ rows) split ∙ sym (append_assoc h' front (chunk_records (LEAF_RECORDS_AT + 16 * i) (get_or chunks i d ∷ drop (i + 1) chunks)))

-- a number of record i
field_says : (s : Siblings) (chunks : List ChunkRec) (group at : ℕ) (uuid : List ℕ) (i : ℕ) (d : ChunkRec) (k place n v : ℕ) → length uuid ≡ 16 → length chunks ≤ 252 → i < length chunks
    → slice_get (chunk_rows (LEAF_RECORDS_AT + 16 * i) (get_or chunks i d)) k ≡ Some (number place n v)
    → is_aside place n (drop (k + 1) (chunk_rows (LEAF_RECORDS_AT + 16 * i) (get_or chunks i d))) ≡ true
    → LEAF_RECORDS_AT ≤ place → place + n ≤ LEAF_RECORDS_AT + 16 * i + 16 → v < 256 ^ n → field n place (leaf_encoding s chunks group at uuid) ≡ v
unfolding leaf_encoding
field_says s chunks group at uuid i d k place n v is few h found aside low high small =
    let front : List Field = page_header s (length chunks) group at uuid ++ chunk_records LEAF_RECORDS_AT (take i chunks) in
    let count : length (take i chunks) ≡ i = length-take-le i chunks (omega arith) in
    let left : length (drop (i + 1) chunks) ≡ length chunks - (i + 1) = length-drop (i + 1) chunks in
    ap (λ (rows : List Field). field n place (sealed LEAF_CRC_AT (placed rows blank_page))) (parts s chunks group at uuid i d h)
    ∙ number_among front (chunk_rows (LEAF_RECORDS_AT + 16 * i) (get_or chunks i d)) (chunk_records (LEAF_RECORDS_AT + 16 * i + 16) (drop (i + 1) chunks)) k place n v
    (AreRows-append 4096 (page_header s (length chunks) group at uuid) (chunk_records LEAF_RECORDS_AT (take i chunks)) (AreRows-header s (length chunks) group at uuid is) (AreRows-records 4096 LEAF_RECORDS_AT (take i chunks) (omega (arith, count))))
    (AreRows-chunk 4096 (LEAF_RECORDS_AT + 16 * i) (get_or chunks i d) (omega arith))
    (AreRows-records 4096 (LEAF_RECORDS_AT + 16 * i + 16) (drop (i + 1) chunks) (omega (arith, left)))
    found aside (IsAside-records place n (LEAF_RECORDS_AT + 16 * i + 16) (drop (i + 1) chunks) high) (inl (omega arith)) small

abbrev chunk_of : ℕ → ℕ → ℕ → ChunkRec
chunk_of a b c = record { start = a; free = b; mask = c }

-- record i
pub chunk_says : (s : Siblings) (chunks : List ChunkRec) (group at : ℕ) (uuid : List ℕ) (i : ℕ) (d : ChunkRec) → IsLeaf chunks → length uuid ≡ 16 → i < length chunks
    → chunk_at (leaf_encoding s chunks group at uuid) (LEAF_RECORDS_AT + 16 * i) ≡ get_or chunks i d
chunk_says s chunks group at uuid i d leaf is h =
    let chunk : ChunkRec = get_or chunks i d in
    let fits : IsChunkRecord chunk = All-get_or IsChunkRecord chunks i d h leaf.each in
    let p : ℕ = LEAF_RECORDS_AT + 16 * i in
    let start : field 4 p (leaf_encoding s chunks group at uuid) ≡ chunk.start =
    field_says s chunks group at uuid i d 0 p 4 chunk.start is leaf.few h refl (two_aside p) (omega arith) (omega arith) (omega (arith, fits.start)) in
    let free : field 4 (p + 4) (leaf_encoding s chunks group at uuid) ≡ chunk.free =
    field_says s chunks group at uuid i d 1 (p + 4) 4 chunk.free is leaf.few h refl (one_aside p) (omega arith) (omega arith) (omega (arith, fits.free, ones-le 64 chunk.mask fits.mask)) in
    let mask : field 8 (p + 8) (leaf_encoding s chunks group at uuid) ≡ chunk.mask =
    field_says s chunks group at uuid i d 2 (p + 8) 8 chunk.mask is leaf.few h refl refl (omega arith) (omega arith) (omega (arith, fits.mask)) in
    made start free mask
  where
    two_aside : (p : ℕ) → is_aside p 4 (number (p + 4) 4 0 ∷ number (p + 8) 8 0 ∷ []) ≡ true
    two_aside p =
        and_from _ _ (or_right (leb (p + 4 + 4) p) (leb (p + 4) (p + 4)) (le-leb (p + 4) (p + 4) (omega arith)))
        (and_from _ _ (or_right (leb (p + 8 + 8) p) (leb (p + 4) (p + 8)) (le-leb (p + 4) (p + 8) (omega arith))) refl)

    one_aside : (p : ℕ) → is_aside (p + 4) 4 (number (p + 8) 8 0 ∷ []) ≡ true
    one_aside p = and_from _ _ (or_right (leb (p + 8 + 8) (p + 4)) (leb (p + 4 + 4) (p + 8)) (le-leb (p + 4 + 4) (p + 8) (omega arith))) refl

    made : {a b c a' b' c' : ℕ} → a ≡ a' → b ≡ b' → c ≡ c' → chunk_of a b c ≡ chunk_of a' b' c'
    made e f g = cc

-- the chunks that a page says are those that it encodes
pub page_says : (s : Siblings) (chunks : List ChunkRec) (group at : ℕ) (uuid : List ℕ) → IsLeaf chunks → length uuid ≡ 16
    → map (λ i. chunk_at (leaf_encoding s chunks group at uuid) (LEAF_RECORDS_AT + 16 * i)) (range_with_len 0 (length chunks)) ≡ chunks
page_says s chunks group at uuid leaf is =
    let f : ℕ → ChunkRec = λ i. chunk_at (leaf_encoding s chunks group at uuid) (LEAF_RECORDS_AT + 16 * i) in
    same_lists (map f (range_with_len 0 (length chunks))) chunks (length-map-range_with_len f 0 (length chunks))
    (λ k d l.
    let below : k < length chunks = omega (arith, l, length-map-range_with_len f 0 (length chunks)) in
    get_or-map-range_with_len f 0 (length chunks) k k d below (omega arith) ∙ chunk_says s chunks group at uuid k d leaf is below)

-- what is read of a page is what it encodes
pub read_again : (s : Siblings) (chunks read : List ChunkRec) (bytes : List ℕ) (count group at : ℕ) (uuid : List ℕ) → IsLeaf chunks → length uuid ≡ 16
    → bytes ≡ leaf_encoding s chunks group at uuid → count ≡ field 2 6 bytes → read ≡ map (λ i. chunk_at bytes (LEAF_RECORDS_AT + 16 * i)) (range_with_len 0 count) → read ≡ chunks
read_again s chunks read bytes count group at uuid leaf is encoded counted got =
    let many : count ≡ length chunks = counted ∙ ap (field 2 6) encoded ∙ count_says s chunks group at uuid is leaf.few in
    got
    ∙ ap (λ (n : ℕ). map (λ i. chunk_at bytes (LEAF_RECORDS_AT + 16 * i)) (range_with_len 0 n)) many
    ∙ ap (λ (b : List ℕ). map (λ i. chunk_at b (LEAF_RECORDS_AT + 16 * i)) (range_with_len 0 (length chunks))) encoded
    ∙ page_says s chunks group at uuid leaf is

-- a page's length
pub length-encoding : (s : Siblings) (chunks : List ChunkRec) (group at : ℕ) (uuid : List ℕ) → IsLeaf chunks → length uuid ≡ 16 → length (leaf_encoding s chunks group at uuid) ≡ 4096
unfolding leaf_encoding
length-encoding s chunks group at uuid leaf is =
    let table : List Field = page_header s (length chunks) group at uuid ++ chunk_records LEAF_RECORDS_AT chunks in
    let rows : AreFields 4096 table =
    AreRows-append 4096 (page_header s (length chunks) group at uuid) (chunk_records LEAF_RECORDS_AT chunks) (AreRows-header s (length chunks) group at uuid is) (AreRows-records 4096 LEAF_RECORDS_AT chunks (omega (arith, leaf.few))) in
    let long : length (placed table blank_page) ≡ 4096 = length-placed table blank_page (in_page table rows) ∙ length-blank_page in
    length-sealed LEAF_CRC_AT (placed table blank_page) (omega (arith, long)) ∙ long

-- one page, one leaf
encoding-injective : (s r : Siblings) (a b : List ChunkRec) (group at : ℕ) (uuid : List ℕ) → IsLeaf a → IsLeaf b → length uuid ≡ 16
    → leaf_encoding s a group at uuid ≡ leaf_encoding r b group at uuid → a ≡ b
encoding-injective s r a b group at uuid leaf_a leaf_b is same =
    sym (read_again s a _ (leaf_encoding s a group at uuid) (field 2 6 (leaf_encoding s a group at uuid)) group at uuid leaf_a is refl refl refl)
    ∙ read_again r b _ (leaf_encoding s a group at uuid) (field 2 6 (leaf_encoding s a group at uuid)) group at uuid leaf_b is same refl refl

-- a sibling's number fits its four bytes
small_number : (o : Option ℕ) → IfSome o (λ block. block < no_sibling) → sibling_number o < 2 ^ 32
small_number None h = omega arith
small_number (Some block) h = omega (arith, h)

-- and tells the sibling
one_sibling : (o p : Option ℕ) → IfSome o (λ block. block < no_sibling) → IfSome p (λ block. block < no_sibling) → sibling_number o ≡ sibling_number p → o ≡ p
one_sibling None None h g e = refl
one_sibling None (Some block) h g e = absurd (omega (arith, g, e))
one_sibling (Some block) None h g e = absurd (omega (arith, h, e))
one_sibling (Some block) (Some other) h g e = ap (λ (n : ℕ). Some n) e

-- the siblings in the header
left_says : (s : Siblings) (chunks : List ChunkRec) (group at : ℕ) (uuid : List ℕ) → AreSiblings s → length uuid ≡ 16 → length chunks ≤ 252
    → field 4 8 (leaf_encoding s chunks group at uuid) ≡ sibling_number s.left
unfolding leaf_encoding
left_says s chunks group at uuid beside is few =
    number_among [] (page_header s (length chunks) group at uuid) (chunk_records LEAF_RECORDS_AT chunks) 2 8 4 (sibling_number s.left) tt
    (AreRows-header s (length chunks) group at uuid is) (AreRows-records 4096 LEAF_RECORDS_AT chunks (omega arith)) refl refl
    (IsAside-records 8 4 LEAF_RECORDS_AT chunks (omega arith)) (inr (omega arith)) (omega (arith, small_number s.left beside.left))

right_says : (s : Siblings) (chunks : List ChunkRec) (group at : ℕ) (uuid : List ℕ) → AreSiblings s → length uuid ≡ 16 → length chunks ≤ 252
    → field 4 12 (leaf_encoding s chunks group at uuid) ≡ sibling_number s.right
unfolding leaf_encoding
right_says s chunks group at uuid beside is few =
    number_among [] (page_header s (length chunks) group at uuid) (chunk_records LEAF_RECORDS_AT chunks) 3 12 4 (sibling_number s.right) tt
    (AreRows-header s (length chunks) group at uuid is) (AreRows-records 4096 LEAF_RECORDS_AT chunks (omega arith)) refl refl
    (IsAside-records 12 4 LEAF_RECORDS_AT chunks (omega arith)) (inr (omega arith)) (omega (arith, small_number s.right beside.right))

abbrev beside_of : Option ℕ → Option ℕ → Siblings
beside_of left right = record { left = left; right = right }

made_siblings : {l r m n : Option ℕ} → l ≡ m → r ≡ n → beside_of l r ≡ beside_of m n
made_siblings e f = cc

siblings-injective : (s r : Siblings) (a b : List ChunkRec) (group at : ℕ) (uuid : List ℕ) → AreSiblings s → AreSiblings r → IsLeaf a → IsLeaf b → length uuid ≡ 16
    → leaf_encoding s a group at uuid ≡ leaf_encoding r b group at uuid → s ≡ r
siblings-injective s r a b group at uuid beside_s beside_r leaf_a leaf_b is same =
    made_siblings
    (one_sibling s.left r.left beside_s.left beside_r.left (sym (left_says s a group at uuid beside_s is leaf_a.few) ∙ ap (field 4 8) same ∙ left_says r b group at uuid beside_r is leaf_b.few))
    (one_sibling s.right r.right beside_s.right beside_r.right (sym (right_says s a group at uuid beside_s is leaf_a.few) ∙ ap (field 4 12) same ∙ right_says r b group at uuid beside_r is leaf_b.few))

pub pages_tell_leaves : PagesTellLeaves
pages_tell_leaves = record { chunks = encoding-injective; siblings = siblings-injective }

pub pages_are_read : PagesAreRead
pages_are_read = record {
  read = λ s chunks group at uuid leaf is.
      let page : List ℕ = leaf_encoding s chunks group at uuid in
      read_again s chunks (chunks_in page) page (field 2 6 page) group at uuid leaf is refl refl refl;
  long = length-encoding;
}
