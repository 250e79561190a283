-- The fields of a sector that encodes a header are the header's.
use Rattle.std.proofs.Common.{◌≡◌, ◌<◌, ◌+◌, ◌-◌, ◌*◌, ◌^◌, ℕ, true, Some, List, length, take, drop, get_or, set, refl, sym, ap, subst, ◌∙◌, arith, lit≤, inl, inr, length-set, get_or-set_same, get_or-set_other}
use Rattle.std.proofs.lemmas.List.FromFn.{length-map-range_with_len, get_or-map-range_with_len}
use Rattle.std.proofs.lemmas.List.{take-take, drop-take, drop-drop, same_lists, get_or_default, set_past}
use Rattle.std.proofs.lemmas.Bool.{cases_eq, cases_lt}
use Rattle.byteorder.specs.Endian.{big_bytes}
use Rattle.life_limits.specs.declared.TheConstants.{NO_INODE}
use Rattle.life_bytes.specs.Fields.{field, with_field, with_piece}
use Rattle.life_bytes.specs.Pieces.{placed, blank, sealed, number, piece}
use Rattle.life_bytes.specs.TableLaws.{AreFields, length-sealed_table, sealed_row, sealed_number, number_at, in_blank, length-table, sealed_again, sealed_again_twice, row_changes, is_aside}
use Rattle.std.specs.List.{slice_get}
use Rattle.ag_header.specs.declared.agi.TheConstants.{AGI_CRC_AT, AGI_UNLINKED_AT}
use Rattle.ag_header.specs.declared.agi.Agi.{Agi}
use Rattle.ag_header.specs.Headers.{IsAgi, FieldsFit, header_fields, header_encoding, EncodesHeader, with_head, with_counts, with_root}
use Rattle.ag_header.specs.Reading.{agi_in, HeadersAreRead}
use Rattle.ag_header.proofs.HeadBytes.{bytes_of, length-bytes_of, head_at, head_put}

rows : (agi : Agi) → FieldsFit agi → AreFields 512 (header_fields agi)
rows agi fits =
    let long : length (bytes_of agi.heads) ≡ 256 = omega (arith, length-bytes_of agi.heads, fits.heads) in (
      (lit≤ tt, refl),
      (
        (lit≤ tt, refl),
        (
          (lit≤ tt, refl),
          (
            (lit≤ tt, refl),
            (
              (lit≤ tt, refl),
              (
                (lit≤ tt, refl),
                ((lit≤ tt, refl), ((lit≤ tt, refl), ((lit≤ tt, refl), ((lit≤ tt, refl), ((lit≤ tt, long), ((lit≤ tt, fits.uuid), tt)))))),
              ),
            ),
          ),
        ),
      ),
    )

-- what the fields of an encoded header say
pub record Says (agi : Agi) (bytes : List ℕ) : Type 0 where
  pub group : field 4 8 bytes ≡ agi.group
  pub blocks : field 4 12 bytes ≡ agi.blocks
  pub count : field 4 16 bytes ≡ agi.count
  pub root : field 4 20 bytes ≡ agi.root
  pub level : field 4 24 bytes ≡ agi.level
  pub free : field 4 28 bytes ≡ agi.free
  pub heads : (k : ℕ) → k < 64 → field 4 (AGI_UNLINKED_AT + 4 * k) bytes ≡ get_or agi.heads k 0
  pub uuid : take 16 (drop 296 bytes) ≡ agi.uuid

-- four bytes of the 256 of the heads
four_of : (bytes : List ℕ) (k : ℕ) → k < 64 → take 4 (drop (AGI_UNLINKED_AT + 4 * k) bytes) ≡ take 4 (drop (4 * k) (take 256 (drop AGI_UNLINKED_AT bytes)))
four_of bytes k lt =
    let part = drop AGI_UNLINKED_AT bytes in
    let split : 256 ≡ 4 * k + (256 - 4 * k) = omega arith in
    let cut : drop (4 * k) (take 256 part) ≡ take (256 - 4 * k) (drop (4 * k) part) = ap (λ (n : ℕ). drop (4 * k) (take n part)) split ∙ drop-take (4 * k) (256 - 4 * k) part in
    ap (take 4) (sym (drop-drop (4 * k) AGI_UNLINKED_AT bytes)) ∙ sym (take-take 4 (256 - 4 * k) (drop (4 * k) part) (omega arith)) ∙ ap (take 4) (sym cut)

pub says : (agi : Agi) → IsAgi agi → FieldsFit agi → Says agi (header_encoding agi)
unfolding header_encoding
says agi is fits =
    let ok = rows agi fits in
    let t = header_fields agi in
    let all : take 256 (drop AGI_UNLINKED_AT (sealed AGI_CRC_AT (placed t blank))) ≡ bytes_of agi.heads = sealed_row AGI_CRC_AT t 10 (piece AGI_UNLINKED_AT 256 (bytes_of agi.heads)) ok (lit≤ tt) refl refl in
    record {
      group = sealed_number AGI_CRC_AT t 2 8 4 agi.group ok (lit≤ tt) refl refl fits.group;
      blocks = sealed_number AGI_CRC_AT t 3 12 4 agi.blocks ok (lit≤ tt) refl refl fits.blocks;
      count = sealed_number AGI_CRC_AT t 4 16 4 agi.count ok (lit≤ tt) refl refl fits.count;
      root = sealed_number AGI_CRC_AT t 5 20 4 agi.root ok (lit≤ tt) refl refl (omega (arith, is.root));
      level = sealed_number AGI_CRC_AT t 6 24 4 agi.level ok (lit≤ tt) refl refl (omega (arith, is.level));
      free = sealed_number AGI_CRC_AT t 7 28 4 agi.free ok (lit≤ tt) refl refl fits.free;
      heads = λ k lt. number_at 4 (AGI_UNLINKED_AT + 4 * k) (get_or agi.heads k 0) (sealed AGI_CRC_AT (placed t blank)) (fits.each_head k)
          (four_of (sealed AGI_CRC_AT (placed t blank)) k lt ∙ ap (λ (l : List ℕ). take 4 (drop (4 * k) l)) all ∙ head_at agi.heads k 0 (omega (arith, fits.heads)));
      uuid = sealed_row AGI_CRC_AT t 11 (piece 296 16 agi.uuid) ok (lit≤ tt) refl refl;
    }

-- the fields put in one after the other
pub put_in_turn : (agi : Agi) (z heads b0 b1 b2 b3 b4 b5 b6 b7 b8 b9 b10 b11 : List ℕ) → length heads ≡ 256 → length agi.uuid ≡ 16 → z ≡ blank
    → b0 ≡ with_field 4 0 0x58414749 z
    → b1 ≡ with_field 4 4 1 b0
    → b2 ≡ with_field 4 8 agi.group b1
    → b3 ≡ with_field 4 12 agi.blocks b2
    → b4 ≡ with_field 4 16 agi.count b3
    → b5 ≡ with_field 4 20 agi.root b4
    → b6 ≡ with_field 4 24 agi.level b5
    → b7 ≡ with_field 4 28 agi.free b6
    → b8 ≡ with_field 4 32 NO_INODE b7
    → b9 ≡ with_field 4 36 NO_INODE b8
    → heads ≡ bytes_of agi.heads → b10 ≡ with_piece (length heads) AGI_UNLINKED_AT heads b9 → b11 ≡ with_piece (length agi.uuid) 296 agi.uuid b10 → b11 ≡ placed (header_fields agi) blank
unfolding placed
put_in_turn agi z heads b0 b1 b2 b3 b4 b5 b6 b7 b8 b9 b10 b11 long wide zero e0 e1 e2 e3 e4 e5 e6 e7 e8 e9 same e10 e11 =
    rw (e11, e10, e9, e8, e7, e6, e5, e4, e3, e2, e1, e0, zero, wide, long, same) refl

-- ---- reading

abbrev made : ℕ → ℕ → ℕ → ℕ → ℕ → ℕ → List ℕ → List ℕ → Agi
made group blocks count root level free heads uuid =
    record { group = group; blocks = blocks; count = count; root = root; level = level; free = free; heads = heads; uuid = uuid }

same : (a b : Agi) → a.group ≡ b.group → a.blocks ≡ b.blocks → a.count ≡ b.count → a.root ≡ b.root → a.level ≡ b.level → a.free ≡ b.free → a.heads ≡ b.heads → a.uuid ≡ b.uuid → a ≡ b
same a b group blocks count root level free heads uuid =
    ap (λ (x : ℕ). made x a.blocks a.count a.root a.level a.free a.heads a.uuid) group
    ∙ ap (λ (x : ℕ). made b.group x a.count a.root a.level a.free a.heads a.uuid) blocks
    ∙ ap (λ (x : ℕ). made b.group b.blocks x a.root a.level a.free a.heads a.uuid) count
    ∙ ap (λ (x : ℕ). made b.group b.blocks b.count x a.level a.free a.heads a.uuid) root
    ∙ ap (λ (x : ℕ). made b.group b.blocks b.count b.root x a.free a.heads a.uuid) level
    ∙ ap (λ (x : ℕ). made b.group b.blocks b.count b.root b.level x a.heads a.uuid) free
    ∙ ap (λ (x : List ℕ). made b.group b.blocks b.count b.root b.level b.free x a.uuid) heads
    ∙ ap (λ (x : List ℕ). made b.group b.blocks b.count b.root b.level b.free b.heads x) uuid

-- what the fields of these bytes give is what the bytes encode
pub is_read : (read agi : Agi) (bytes : List ℕ) → read.group ≡ field 4 8 bytes → read.blocks ≡ field 4 12 bytes → read.count ≡ field 4 16 bytes → read.root ≡ field 4 20 bytes
    → read.level ≡ field 4 24 bytes → read.free ≡ field 4 28 bytes → length read.heads ≡ 64 → ((k : ℕ) → k < 64 → get_or read.heads k 0 ≡ field 4 (AGI_UNLINKED_AT + 4 * k) bytes)
    → read.uuid ≡ take 16 (drop 296 bytes) → EncodesHeader bytes agi → read ≡ agi
is_read read agi bytes group blocks count root level free many heads uuid s =
    let say = says agi s.allowed s.fits in
    let at : (at : ℕ) → field 4 at bytes ≡ field 4 at (header_encoding agi) = λ at. ap (field 4 at) s.sector in
    let all : read.heads ≡ agi.heads = same_lists read.heads agi.heads (many ∙ sym s.fits.heads)
    (λ k d lt. get_or_default read.heads k d 0 lt ∙ heads k (omega (arith, many)) ∙ at (AGI_UNLINKED_AT + 4 * k) ∙ say.heads k (omega (arith, many)) ∙ get_or_default agi.heads k 0 d (omega (arith, many, s.fits.heads))) in
    same read agi (group ∙ at 8 ∙ say.group) (blocks ∙ at 12 ∙ say.blocks) (count ∙ at 16 ∙ say.count) (root ∙ at 20 ∙ say.root) (level ∙ at 24 ∙ say.level) (free ∙ at 28 ∙ say.free)
    all (uuid ∙ ap (λ (b : List ℕ). take 16 (drop 296 b)) s.sector ∙ say.uuid)

-- ---- changes

plain : Agi → List ℕ
plain agi = placed (header_fields agi) blank

length-plain : (agi : Agi) → FieldsFit agi → length (plain agi) ≡ 512
unfolding plain
length-plain agi fits = length-table (header_fields agi) (rows agi fits)

-- another number in a row
number_set : (agi : Agi) (k at old new : ℕ) → FieldsFit agi → slice_get (header_fields agi) k ≡ Some (number at 4 old) → is_aside at 4 (drop (k + 1) (header_fields agi)) ≡ true
    → with_field 4 at new (plain agi) ≡ placed (set (header_fields agi) k (number at 4 new)) blank
unfolding plain
number_set agi k at old new fits found aside =
    let e : at ≡ at + 0 = omega arith in
    ap (λ (n : ℕ). with_field 4 n new (placed (header_fields agi) blank)) e
    ∙ row_changes (header_fields agi) k (number at 4 old) 4 0 (big_bytes 4 new) blank (in_blank (header_fields agi) (rows agi fits)) found aside (omega arith) refl

head_set : (agi : Agi) (bucket agino : ℕ) → FieldsFit agi → bucket < 64 → with_field 4 (AGI_UNLINKED_AT + 4 * bucket) agino (plain agi) ≡ plain (with_head agi bucket agino)
unfolding plain
head_set agi bucket agino fits lt =
    row_changes (header_fields agi) 10 (piece AGI_UNLINKED_AT 256 (bytes_of agi.heads)) 4 (4 * bucket) (big_bytes 4 agino) blank (in_blank (header_fields agi) (rows agi fits)) refl refl (omega arith) refl
    ∙ ap (λ (l : List ℕ). placed (set (header_fields agi) 10 (piece AGI_UNLINKED_AT 256 l)) blank) (head_put agi.heads bucket agino (omega (arith, fits.heads)))

heads_fit : (heads : List ℕ) (bucket agino : ℕ) → ((k : ℕ) → get_or heads k 0 < 2 ^ 32) → agino < 2 ^ 32 → (k : ℕ) → get_or (set heads bucket agino) k 0 < 2 ^ 32
heads_fit heads bucket agino all small k =
    elim (cases_lt bucket (length heads)) [
      | inr past ↦ subst (λ (l : List ℕ). get_or l k 0 < 2 ^ 32) (sym (set_past heads bucket agino past)) (all k)
      | inl lt ↦ elim (cases_eq k bucket) [
        | inl e ↦ subst (λ (n : ℕ). n < 2 ^ 32) (sym (ap (λ (n : ℕ). get_or (set heads bucket agino) n 0) e ∙ get_or-set_same heads bucket agino 0 lt)) small
        | inr ne ↦ subst (λ (n : ℕ). n < 2 ^ 32) (sym (get_or-set_other heads bucket k agino 0 ne)) (all k)
      ]
    ]

pub set_head : (agi : Agi) (bucket agino : ℕ) (bytes put new : List ℕ) → bucket < 64 → agino < 2 ^ 32 → EncodesHeader bytes agi → put ≡ with_field 4 (AGI_UNLINKED_AT + 4 * bucket) agino bytes → new ≡ sealed AGI_CRC_AT put
    → EncodesHeader new (with_head agi bucket agino)
unfolding header_encoding plain
set_head agi bucket agino bytes put new low small s p q =
    let long = length-plain agi s.fits in
    record {
      allowed = record { root = s.allowed.root; level = s.allowed.level };
      fits = record {
        group = s.fits.group;
        blocks = s.fits.blocks;
        count = s.fits.count;
        free = s.fits.free;
        uuid = s.fits.uuid;
        heads = length-set agi.heads bucket agino ∙ s.fits.heads;
        each_head = heads_fit agi.heads bucket agino s.fits.each_head small;
      };
      sector = q ∙ ap (sealed AGI_CRC_AT) (p ∙ ap (with_field 4 (AGI_UNLINKED_AT + 4 * bucket) agino) s.sector)
          ∙ sealed_again AGI_CRC_AT 4 (AGI_UNLINKED_AT + 4 * bucket) (big_bytes 4 agino) (plain agi) (omega (arith, long)) (omega (arith, long)) refl (inr (omega arith)) ∙ ap (sealed AGI_CRC_AT) (head_set agi bucket agino s.fits low);
    }

pub set_counts : (agi : Agi) (count free : ℕ) (bytes first second new : List ℕ) → count < 2 ^ 32 → free < 2 ^ 32 → EncodesHeader bytes agi → first ≡ with_field 4 16 count bytes
    → second ≡ with_field 4 28 free first → new ≡ sealed AGI_CRC_AT second → EncodesHeader new (with_counts agi count free)
unfolding header_encoding plain
set_counts agi count free bytes first second new small small_free s p q r =
    let long = length-plain agi s.fits in
    let half = record agi { count = count } in
    let half_fits : FieldsFit half = record { group = s.fits.group; blocks = s.fits.blocks; count = small; free = s.fits.free; uuid = s.fits.uuid; heads = s.fits.heads; each_head = s.fits.each_head } in
    record {
      allowed = record { root = s.allowed.root; level = s.allowed.level };
      fits = record { group = s.fits.group; blocks = s.fits.blocks; count = small; free = small_free; uuid = s.fits.uuid; heads = s.fits.heads; each_head = s.fits.each_head };
      sector = r ∙ ap (sealed AGI_CRC_AT) (q ∙ ap (with_field 4 28 free) (p ∙ ap (with_field 4 16 count) s.sector))
          ∙ sealed_again_twice AGI_CRC_AT 4 16 (big_bytes 4 count) 4 28 (big_bytes 4 free) (plain agi) (omega (arith, long)) (omega (arith, long)) refl (inr (lit≤ tt)) (omega (arith, long)) refl (inr (lit≤ tt))
          ∙ ap (λ (l : List ℕ). sealed AGI_CRC_AT (with_field 4 28 free l)) (number_set agi 4 16 agi.count count s.fits refl refl) ∙ ap (sealed AGI_CRC_AT) (number_set half 7 28 half.free free half_fits refl refl);
    }

pub set_root : (agi : Agi) (root level : ℕ) (bytes first second new : List ℕ) → IsAgi (with_root agi root level) → EncodesHeader bytes agi → first ≡ with_field 4 20 root bytes
    → second ≡ with_field 4 24 level first → new ≡ sealed AGI_CRC_AT second → EncodesHeader new (with_root agi root level)
unfolding header_encoding plain
set_root agi root level bytes first second new is s p q r =
    let long = length-plain agi s.fits in
    let half = record agi { root = root } in
    let half_fits : FieldsFit half = record { group = s.fits.group; blocks = s.fits.blocks; count = s.fits.count; free = s.fits.free; uuid = s.fits.uuid; heads = s.fits.heads; each_head = s.fits.each_head } in
    record {
      allowed = is;
      fits = record { group = s.fits.group; blocks = s.fits.blocks; count = s.fits.count; free = s.fits.free; uuid = s.fits.uuid; heads = s.fits.heads; each_head = s.fits.each_head };
      sector = r ∙ ap (sealed AGI_CRC_AT) (q ∙ ap (with_field 4 24 level) (p ∙ ap (with_field 4 20 root) s.sector))
          ∙ sealed_again_twice AGI_CRC_AT 4 20 (big_bytes 4 root) 4 24 (big_bytes 4 level) (plain agi) (omega (arith, long)) (omega (arith, long)) refl (inr (lit≤ tt)) (omega (arith, long)) refl (inr (lit≤ tt))
          ∙ ap (λ (l : List ℕ). sealed AGI_CRC_AT (with_field 4 24 level l)) (number_set agi 5 20 agi.root root s.fits refl refl) ∙ ap (sealed AGI_CRC_AT) (number_set half 6 24 half.level level half_fits refl refl);
    }

-- ---- the law

pub headers_are_read : HeadersAreRead
unfolding header_encoding
headers_are_read = record {
  read = λ bytes agi s.
      let f : ℕ → ℕ = λ k. field 4 (AGI_UNLINKED_AT + 4 * k) bytes in
      is_read (agi_in bytes) agi bytes refl refl refl refl refl refl (length-map-range_with_len f 0 64) (λ k lt. get_or-map-range_with_len f 0 64 k k 0 lt (omega arith)) refl s;
  encoded = λ agi is fits. record { allowed = is; fits = fits; sector = refl };
  long = λ agi is fits. length-sealed_table AGI_CRC_AT (header_fields agi) (rows agi fits) (lit≤ tt);
}
