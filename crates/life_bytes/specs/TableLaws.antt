-- Laws of tables and checksums.
use Rattle.std.specs.Prelude.{◌≡◌, ◌<◌, ◌≤◌, ◌+◌, ◌-◌, ◌%◌, ◌^◌, ℕ, zero, suc, Bool, true, false, List, [], ◌∷◌, ◌++◌, ◌||◌, ◌&&◌, nat_le, length, take, drop, replicate, Some, ◌⊎◌}
use Rattle.std.proofs.Common.{append_assoc, arith, sym, ap, refl, subst, ◌∙◌, inl, inr, set, add-one}
use Rattle.std.proofs.lemmas.Bool.{leb-true}
use Rattle.std.proofs.lemmas.List.{length-replicate, drop-replicate, take_at, drop_at, drop-drop, take-append-drop, set_split}
use Rattle.std.specs.List.{slice_get, AllByRecursion}
use Rattle.byteorder.specs.Endian.{big_bytes, big_from, little_bytes}
use Rattle.byteorder.specs.Numbers.{big_number-reads_back}
use Rattle.life_bytes.specs.Fields.{field, with_piece, with_field}
use Rattle.life_bytes.specs.declared.sector.Sector.{Sector}
use Rattle.life_bytes.specs.Sectors.{zero_sector}
use Rattle.life_bytes.specs.Crc.{crc32c, holed}
use Rattle.life_bytes.specs.Pieces.{Field, number, placed, zeros, blank, sealed}
use Rattle.life_bytes.specs.PieceLaws.{Apart, length-with_piece, piece_same, piece_other, piece_comm, piece_over, piece_within}

-- ---- zeros

pub length-zeros : (n : ℕ) → length (zeros n) ≡ n
unfolding zeros
length-zeros n = length-replicate {A = ℕ} n 0

pub length-blank : length blank ≡ 512
length-blank = length-zeros 512

pub zeros_is : (n : ℕ) → zeros n ≡ replicate n 0
unfolding zeros
zeros_is n = refl

pub bytes_of_zero_sector : (s : Sector) → s ≡ zero_sector → s.bytes ≡ blank
bytes_of_zero_sector s e = ap (λ (t : Sector). t.bytes) e ∙ sym (zeros_is 512)

pub drop-zeros : (m n : ℕ) → drop m (zeros n) ≡ zeros (n - m)
unfolding zeros
drop-zeros m n = drop-replicate m n 0

-- ---- numbers

-- the number whose bytes stand at a place
pub number_at : (n at v : ℕ) (bytes : List ℕ) → v < 256 ^ n → take n (drop at bytes) ≡ big_bytes n v → field n at bytes ≡ v
number_at n at v bytes small e =
    let rest = drop n (drop at bytes) in
    let parts : drop at bytes ≡ big_bytes n v ++ rest = sym (take-append-drop n (drop at bytes)) ∙ ap (λ (front : List ℕ). front ++ rest) e in
    ap (big_from 0 n) parts ∙ big_number-reads_back n v rest small

-- ---- tables

-- the row lies within so many bytes, and has as many as its width says
abbrev pub IsField : ℕ → Field → Type 0
IsField size row = (row.at + row.width ≤ size) × (length row.bytes ≡ row.width)

abbrev pub AreFields : ℕ → List Field → Type 0
AreFields size rows = AllByRecursion (IsField size) rows

-- no row has a byte of the n from a place on: the test
abbrev pub is_aside : ℕ → ℕ → List Field → Bool
is_aside at n [] = true
is_aside at n (row ∷ rows) = (nat_le (row.at + row.width) at || nat_le (at + n) row.at) && is_aside at n rows

-- the same as a fact
abbrev pub IsAside : ℕ → ℕ → List Field → Type 0
IsAside at n rows = AllByRecursion (λ row. Apart row.at row.width at n) rows

one_aside : (a b c d : ℕ) (rest : Bool) → ((nat_le a b || nat_le c d) && rest) ≡ true → ((a ≤ b) ⊎ (c ≤ d)) × (rest ≡ true)
one_aside a b c d rest e = split (nat_le a b) refl (nat_le c d) refl e
  where
    split : (x : Bool) → nat_le a b ≡ x → (y : Bool) → nat_le c d ≡ y → ((x || y) && rest) ≡ true → ((a ≤ b) ⊎ (c ≤ d)) × (rest ≡ true)
    split true p y q h = (inl (leb-true a b p), h)
    split false p true q h = (inr (leb-true c d q), h)
    split false p false q h = absurd cc

pub aside_from_test : (at n : ℕ) (rows : List Field) → is_aside at n rows ≡ true → IsAside at n rows
aside_from_test at n [] e = tt
aside_from_test at n (row ∷ rows) e =
    let both = one_aside (row.at + row.width) at (at + n) row.at (is_aside at n rows) e in
    (both.0, aside_from_test at n rows both.1)

aside_part : (at n i m : ℕ) (rows : List Field) → i + m ≤ n → IsAside at n rows → IsAside (at + i) m rows
aside_part at n i m [] within h = tt
aside_part at n i m (row ∷ rows) within h =
    let one : Apart row.at row.width (at + i) m = elim (h.0) [ inl le ↦ inl (omega arith) | inr le ↦ inr (omega arith) ] in
    (one, aside_part at n i m rows within h.1)

rows_again : (row : Field) (rows : List Field) (base : List ℕ) → IsField (length base) row → AreFields (length base) rows → AreFields (length (with_piece row.width row.at row.bytes base)) rows
rows_again row rows base one others = subst (λ (size : ℕ). AreFields size rows) (sym (length-with_piece row.width row.at row.bytes base one.0 one.1)) others

pub length-placed : (rows : List Field) (base : List ℕ) → AreFields (length base) rows → length (placed rows base) ≡ length base
unfolding placed
length-placed [] base h = refl
length-placed (row ∷ rows) base h =
    length-placed rows (with_piece row.width row.at row.bytes base) (rows_again row rows base h.0 h.1) ∙ length-with_piece row.width row.at row.bytes base h.0.0 h.0.1

-- what no row covers
pub placed_other : (rows : List Field) (base : List ℕ) (at n : ℕ) → AreFields (length base) rows → IsAside at n rows → take n (drop at (placed rows base)) ≡ take n (drop at base)
unfolding placed
placed_other [] base at n h aside = refl
placed_other (row ∷ rows) base at n h aside =
    placed_other rows (with_piece row.width row.at row.bytes base) at n (rows_again row rows base h.0 h.1) aside.1
    ∙ piece_other row.width row.at row.bytes base n at h.0.0 h.0.1 aside.0

some_is : {X : Type 0} (x y : X) → Some x ≡ Some y → x ≡ y
some_is x y e = cc

-- what a row holds, where no later row covers it
pub field_at : (rows : List Field) (k : ℕ) (row : Field) (base : List ℕ) → AreFields (length base) rows → slice_get rows k ≡ Some row
    → is_aside row.at row.width (drop (k + 1) rows) ≡ true → take row.width (drop row.at (placed rows base)) ≡ row.bytes
unfolding placed
field_at [] k row base h found aside = absurd cc
field_at (first ∷ rows) zero row base h found aside =
    let same : first ≡ row = some_is first row found in
    let free : IsAside first.at first.width rows = aside_from_test first.at first.width rows (subst (λ (r : Field). is_aside r.at r.width rows ≡ true) (sym same) aside) in
    let bytes : take first.width (drop first.at (placed rows (with_piece first.width first.at first.bytes base))) ≡ first.bytes =
    placed_other rows (with_piece first.width first.at first.bytes base) first.at first.width (rows_again first rows base h.0 h.1) free
    ∙ piece_same first.width first.at first.bytes base h.0.0 h.0.1 in
    subst (λ (r : Field). take r.width (drop r.at (placed rows (with_piece first.width first.at first.bytes base))) ≡ r.bytes) same bytes
field_at (first ∷ rows) (suc k) row base h found aside =
    let e : suc k + 1 ≡ suc (k + 1) = omega arith in
    field_at rows k row (with_piece first.width first.at first.bytes base) (rows_again first rows base h.0 h.1) found
    (subst (λ (j : ℕ). is_aside row.at row.width (drop j (first ∷ rows)) ≡ true) e aside)

placed_comm : (rows : List Field) (base : List ℕ) (n at : ℕ) (p : List ℕ) → AreFields (length base) rows → IsAside at n rows → at + n ≤ length base → length p ≡ n
    → with_piece n at p (placed rows base) ≡ placed rows (with_piece n at p base)
unfolding placed
placed_comm [] base n at p h aside fits len = refl
placed_comm (row ∷ rows) base n at p h aside fits len =
    let next = with_piece row.width row.at row.bytes base in
    let same = length-with_piece row.width row.at row.bytes base h.0.0 h.0.1 in
    placed_comm rows next n at p (rows_again row rows base h.0 h.1) aside.1 (omega (arith, same)) len
    ∙ ap (placed rows) (sym (piece_comm row.width row.at row.bytes n at p base h.0.0 h.0.1 fits len aside.0))

-- a row with a piece put into its bytes
abbrev pub with_part : ℕ → ℕ → List ℕ → Field → Field
with_part n i p row = record { at = row.at; width = row.width; bytes = with_piece n i p row.bytes }

-- a piece put into what a row holds, where no later row covers it
pub row_changes : (rows : List Field) (k : ℕ) (row : Field) (n i : ℕ) (p base : List ℕ) → AreFields (length base) rows → slice_get rows k ≡ Some row
    → is_aside row.at row.width (drop (k + 1) rows) ≡ true → i + n ≤ row.width → length p ≡ n
    → with_piece n (row.at + i) p (placed rows base) ≡ placed (set rows k (with_part n i p row)) base
unfolding placed
row_changes [] k row n i p base h found aside within len = absurd cc
row_changes (first ∷ rows) zero row n i p base h found aside within len =
    let same : first ≡ row = some_is first row found in
    let next = with_piece first.width first.at first.bytes base in
    let free : IsAside first.at first.width rows = aside_from_test first.at first.width rows (subst (λ (r : Field). is_aside r.at r.width rows ≡ true) (sym same) aside) in
    let inner : i + n ≤ first.width = subst (λ (r : Field). i + n ≤ r.width) (sym same) within in
    let long = length-with_piece first.width first.at first.bytes base h.0.0 h.0.1 in
    let moved : with_piece n (first.at + i) p (placed rows next) ≡ placed rows (with_piece n (first.at + i) p next) =
    placed_comm rows next n (first.at + i) p (rows_again first rows base h.0 h.1) (aside_part first.at first.width i n rows inner free) (omega (arith, long, h.0.0)) len in
    let put : with_piece n (first.at + i) p next ≡ with_piece first.width first.at (with_piece n i p first.bytes) base =
    piece_within n i p first.width first.at first.bytes base h.0.0 h.0.1 inner len in
    subst (λ (r : Field). with_piece n (r.at + i) p (placed rows next) ≡ placed (with_part n i p r ∷ rows) base) same (moved ∙ ap (placed rows) put)
row_changes (first ∷ rows) (suc k) row n i p base h found aside within len =
    let e : suc k + 1 ≡ suc (k + 1) = omega arith in
    row_changes rows k row n i p (with_piece first.width first.at first.bytes base) (rows_again first rows base h.0 h.1) found
    (subst (λ (j : ℕ). is_aside row.at row.width (drop j (first ∷ rows)) ≡ true) e aside) within len

-- ---- checksums

pub length-sealed : (at : ℕ) (bytes : List ℕ) → at + 4 ≤ length bytes → length (sealed at bytes) ≡ length bytes
unfolding sealed
length-sealed at bytes fits = length-with_piece 4 at (little_bytes 4 (crc32c (holed at bytes))) bytes fits refl

pub sealed_other : (at : ℕ) (bytes : List ℕ) (n other : ℕ) → at + 4 ≤ length bytes → Apart at 4 other n → take n (drop other (sealed at bytes)) ≡ take n (drop other bytes)
unfolding sealed
sealed_other at bytes n other fits apart = piece_other 4 at (little_bytes 4 (crc32c (holed at bytes))) bytes n other fits refl apart

-- the checksum does not depend on what stood in its place
pub sealed_over : (at : ℕ) (p bytes : List ℕ) → at + 4 ≤ length bytes → length p ≡ 4 → sealed at (with_piece 4 at p bytes) ≡ sealed at bytes
unfolding sealed holed
sealed_over at p bytes fits len =
    let hole : holed at (with_piece 4 at p bytes) ≡ holed at bytes = piece_over 4 at (replicate 4 0) p bytes fits refl len in
    piece_over 4 at (little_bytes 4 (crc32c (holed at (with_piece 4 at p bytes)))) p bytes fits refl len
    ∙ ap (λ (held : List ℕ). with_piece 4 at (little_bytes 4 (crc32c held)) bytes) hole

-- a change beside the checksum of sealed bytes, sealed again
pub sealed_again : (at : ℕ) (n other : ℕ) (p bytes : List ℕ) → at + 4 ≤ length bytes → other + n ≤ length bytes → length p ≡ n → Apart at 4 other n
    → sealed at (with_piece n other p (sealed at bytes)) ≡ sealed at (with_piece n other p bytes)
unfolding sealed
sealed_again at n other p bytes fits fits_p len apart =
    let crc = little_bytes 4 (crc32c (holed at bytes)) in
    let turned : Apart other n at 4 = elim apart [ inl le ↦ inr le | inr le ↦ inl le ] in
    let same = length-with_piece n other p bytes fits_p len in
    ap (sealed at) (piece_comm n other p 4 at crc bytes fits_p len fits refl turned) ∙ sealed_over at crc (with_piece n other p bytes) (omega (arith, same)) refl

-- the same of two changes
pub sealed_again_twice : (at : ℕ) (n other : ℕ) (p : List ℕ) (m third : ℕ) (q bytes : List ℕ) → at + 4 ≤ length bytes → other + n ≤ length bytes → length p ≡ n → Apart at 4 other n
    → third + m ≤ length bytes → length q ≡ m → Apart at 4 third m
    → sealed at (with_piece m third q (with_piece n other p (sealed at bytes))) ≡ sealed at (with_piece m third q (with_piece n other p bytes))
unfolding sealed
sealed_again_twice at n other p m third q bytes fits fits_p len apart fits_q len_q apart_q =
    let crc = little_bytes 4 (crc32c (holed at bytes)) in
    let once = with_piece n other p bytes in
    let turned : Apart other n at 4 = elim apart [ inl le ↦ inr le | inr le ↦ inl le ] in
    let turned_q : Apart third m at 4 = elim apart_q [ inl le ↦ inr le | inr le ↦ inl le ] in
    let same = length-with_piece n other p bytes fits_p len in
    let same_q = length-with_piece m third q once (omega (arith, same)) len_q in
    ap (λ (l : List ℕ). sealed at (with_piece m third q l)) (piece_comm n other p 4 at crc bytes fits_p len fits refl turned)
    ∙ ap (sealed at) (piece_comm m third q 4 at crc once (omega (arith, same)) len_q (omega (arith, same)) refl turned_q)
    ∙ sealed_over at crc (with_piece m third q once) (omega (arith, same, same_q)) refl

-- ---- a sector as a table with its checksum

pub in_blank : (rows : List Field) → AreFields 512 rows → AreFields (length blank) rows
in_blank rows h = subst (λ (size : ℕ). AreFields size rows) (sym length-blank) h

pub length-table : (rows : List Field) → AreFields 512 rows → length (placed rows blank) ≡ 512
length-table rows h = length-placed rows blank (in_blank rows h) ∙ length-blank

pub length-sealed_table : (at : ℕ) (rows : List Field) → AreFields 512 rows → at + 4 ≤ 512 → length (sealed at (placed rows blank)) ≡ 512
length-sealed_table at rows h fits =
    let long = length-table rows h in
    length-sealed at (placed rows blank) (omega (arith, long)) ∙ long

-- what a row holds, where neither a later row nor the checksum covers it
pub sealed_row : (at : ℕ) (rows : List Field) (k : ℕ) (row : Field) → AreFields 512 rows → at + 4 ≤ 512 → slice_get rows k ≡ Some row
    → is_aside row.at row.width (record { at = at; width = 4; bytes = [] } ∷ drop (k + 1) rows) ≡ true
    → take row.width (drop row.at (sealed at (placed rows blank))) ≡ row.bytes
sealed_row at rows k row h fits found aside =
    let long = length-table rows h in
    let both = one_aside (at + 4) row.at (row.at + row.width) at (is_aside row.at row.width (drop (k + 1) rows)) aside in
    sealed_other at (placed rows blank) row.width row.at (omega (arith, long)) both.0 ∙ field_at rows k row blank (in_blank rows h) found both.1

-- the number in such a row
pub sealed_number : (at : ℕ) (rows : List Field) (k place width value : ℕ) → AreFields 512 rows → at + 4 ≤ 512 → slice_get rows k ≡ Some (number place width value)
    → is_aside place width (record { at = at; width = 4; bytes = [] } ∷ drop (k + 1) rows) ≡ true → value < 256 ^ width
    → field width place (sealed at (placed rows blank)) ≡ value
sealed_number at rows k place width value h fits found aside small =
    number_at width place value (sealed at (placed rows blank)) small (sealed_row at rows k (number place width value) h fits found aside)

-- a byte written alone
pub with_number_as_byte : (at v : ℕ) (bytes : List ℕ) → at < length bytes → v < 256 → set bytes at v ≡ with_field 1 at v bytes
with_number_as_byte at v bytes fits small =
    let e : v % 256 ≡ v = omega arith in
    rw (e, add-one, ← set_split bytes at v fits) refl

-- a piece put right behind a front, over zeros
pub put_at_end : (front p : List ℕ) (n at m : ℕ) → length front ≡ at → n ≤ m → with_piece n at p (front ++ zeros m) ≡ (front ++ p) ++ zeros (m - n)
put_at_end front p n at m long fits =
    let rest : drop (at + n) (front ++ zeros m) ≡ zeros (m - n) =
    sym (drop-drop n at (front ++ zeros m)) ∙ ap (drop n) (drop_at front (zeros m) at long) ∙ drop-zeros n m in
    rw (take_at front (zeros m) at long, rest) (sym (append_assoc front p (zeros (m - n))))
