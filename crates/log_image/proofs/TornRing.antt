-- A ring over which some of a record's sectors were written.
use Rattle.std.proofs.Common.{◌≡◌, ℕ, ◌+◌, ◌-◌, ◌%◌, ◌<◌, ◌≤◌, ◌⊎◌, List, [], length, get_or, refl, sym, ap, subst, inl, inr, ◌∙◌, arith}
use Rattle.std.proofs.lemmas.Bool.{cases_lt}
use Rattle.std.proofs.lemmas.Nat.{mod_below}
use Rattle.life_bytes.specs.Fields.{field}
use Rattle.life_bytes.specs.declared.sector.Sector.{Sector}
use Rattle.log_record.specs.declared.record.LogRecord.{LogRecord}
use Rattle.log_record.specs.Encoding.{IsRecord, FitsFields, record_sector, sector_count}
use Rattle.log_record.specs.Whole.{IsWholeAt, at_place}
use Rattle.log_image.specs.Log.{AreBelow, record_end}
use Rattle.log_image.proofs.Places.{count_of, some_sector, turn_apart, own_position, first_position}

-- what is known of whole records
pub record WholeLaws : Type 0 where
  pub one : (ring : List Sector) (position : ℕ) (a b : LogRecord) → IsWholeAt ring position a → IsWholeAt ring position b → a ≡ b
  pub places : (ring other : List Sector) (position : ℕ) (item : LogRecord) → length other ≡ length ring
      → ((i : ℕ) (d : Sector) → i < sector_count (length item.images) → at_place other (position + i) d ≡ at_place ring (position + i) d)
      → IsWholeAt ring position item → IsWholeAt other position item
  pub stamped : (ring : List Sector) (position i : ℕ) (d : Sector) (item : LogRecord) → IsWholeAt ring position item
      → i < sector_count (length item.images)
      → (field 8 0 (at_place ring (position + i) d).bytes ≡ position + i) × (field 8 8 (at_place ring (position + i) d).bytes ≡ position)
  pub counted : (ring : List Sector) (position : ℕ) (a b : LogRecord) → IsRecord a → FitsFields a
      → ((d : Sector) → at_place ring position d ≡ record_sector a 0) → IsWholeAt ring position b → length a.images ≡ length b.images

-- a sector that is one of a record's, at its place
abbrev pub IsOfRecord : ℕ → ℕ → LogRecord → Sector → Type 0
IsOfRecord ring place item sector =
    (i : ℕ) × (i < count_of item) × (place ≡ (item.position + i) % ring) × (sector ≡ record_sector item i)

-- Each sector of a ring is the one of another ring, or a record's at its place. No sector of that other ring has reached
-- the record.
pub record IsTornRing (old new : List Sector) (item : LogRecord) : Type 0 where
  pub form : IsRecord item
  pub fits : FitsFields item
  pub some : 0 < length old
  pub size : length new ≡ length old
  pub below : AreBelow old item.position
  pub each : (place : ℕ) (d : Sector) → place < length old → (get_or new place d ≡ get_or old place d) ⊎ IsOfRecord (length old) place item (get_or new place d)

none : Sector
none = record { bytes = [] }

-- the same at a position
pub at_position : (old new : List Sector) (item : LogRecord) (p : ℕ) (d : Sector) → IsTornRing old new item
    → (at_place new p d ≡ at_place old p d) ⊎ IsOfRecord (length old) (p % length old) item (at_place new p d)
at_position old new item p d torn =
    let within : p % length old < length old = mod_below p (length old) torn.some in
    let P : ℕ → Type 0 = λ n. (get_or new (p % n) d ≡ at_place old p d) ⊎ IsOfRecord (length old) (p % length old) item (get_or new (p % n) d) in
    subst P (sym torn.size) (torn.each (p % length old) d within)

old_below : (old new : List Sector) (item : LogRecord) (p : ℕ) (d : Sector) → IsTornRing old new item → field 8 0 (at_place old p d).bytes < item.position
old_below old new item p d torn = torn.below.each (p % length old) d (mod_below p (length old) torn.some)

-- a sector that has not reached the record is an old one
pub is_old : (old new : List Sector) (item : LogRecord) (p : ℕ) (d : Sector) → IsTornRing old new item
    → field 8 0 (at_place new p d).bytes < item.position → at_place new p d ≡ at_place old p d
is_old old new item p d torn low = elim (at_position old new item p d torn) [
  | inl same ↦ same
  | inr of ↦
      let own : field 8 0 (at_place new p d).bytes ≡ item.position + of.0 = ap (λ (s : Sector). field 8 0 s.bytes) of.3 ∙ own_position item of.0 torn.form of.1 in
      absurd (omega arith)
]

-- a sector that has reached the record is one of the record's
pub is_new : (old new : List Sector) (item : LogRecord) (p q : ℕ) (d : Sector) → IsTornRing old new item
    → field 8 0 (at_place new p d).bytes ≡ q → item.position ≤ q
    → (i : ℕ) × (i < count_of item) × (item.position + i ≡ q) × (at_place new p d ≡ record_sector item i)
is_new old new item p q d torn has high = elim (at_position old new item p d torn) [
  | inl same ↦
      let low = old_below old new item p d torn in
      let is : field 8 0 (at_place old p d).bytes ≡ q = ap (λ (s : Sector). field 8 0 s.bytes) (sym same) ∙ has in
      absurd (omega arith)
  | inr of ↦
      let own : field 8 0 (at_place new p d).bytes ≡ item.position + of.0 = ap (λ (s : Sector). field 8 0 s.bytes) of.3 ∙ own_position item of.0 torn.form of.1 in
      (of.0, of.1, sym own ∙ has, of.3)
]

-- ---- whole records in such a ring

-- a whole record that does not begin at the record begins before it
pub begins_before : (laws : WholeLaws) (old new : List Sector) (item : LogRecord) (q : ℕ) (other : LogRecord) → IsTornRing old new item
    → IsWholeAt new q other → (q ≡ item.position) ⊎ (q < item.position)
begins_before laws old new item q other torn whole = elim (cases_lt q item.position) [
  | inl lt ↦ inr lt
  | inr le ↦
      let stamp = laws.stamped new q 0 none other whole (some_sector other) in
      let of = is_new old new item (q + 0) (q + 0) none torn stamp.0 (omega arith) in
      let first : q ≡ item.position = sym stamp.1 ∙ ap (λ (s : Sector). field 8 8 s.bytes) of.3 ∙ first_position item of.0 torn.form in
      inl first
]

-- each of its sectors, too
pub lies_before : (laws : WholeLaws) (old new : List Sector) (item : LogRecord) (q : ℕ) (other : LogRecord) → IsTornRing old new item
    → IsWholeAt new q other → q < item.position → (i : ℕ) → i < count_of other → q + i < item.position
lies_before laws old new item q other torn whole lt i within = elim (cases_lt (q + i) item.position) [
  | inl below ↦ below
  | inr above ↦
      let stamp = laws.stamped new q i none other whole within in
      let of = is_new old new item (q + i) (q + i) none torn stamp.0 above in
      let first : q ≡ item.position = sym stamp.1 ∙ ap (λ (s : Sector). field 8 8 s.bytes) of.3 ∙ first_position item of.0 torn.form in
      absurd (omega arith)
]

-- so it is whole in the old ring
pub whole_before : (laws : WholeLaws) (old new : List Sector) (item : LogRecord) (q : ℕ) (other : LogRecord) → IsTornRing old new item
    → IsWholeAt new q other → q < item.position → IsWholeAt old q other
whole_before laws old new item q other torn whole lt =
    laws.places new old q other (sym torn.size)
    (λ i d within.
    let stamp = laws.stamped new q i d other whole within in
    let below = lies_before laws old new item q other torn whole lt i within in
    sym (is_old old new item (q + i) d torn (omega (arith, stamp.0))))
    whole

-- where a record is whole at the position, all of the record's sectors were written
pub all_written : (laws : WholeLaws) (old new : List Sector) (item other : LogRecord) → IsTornRing old new item
    → IsWholeAt new item.position other → (i : ℕ) (d : Sector) → i < count_of item → at_place new (item.position + i) d ≡ record_sector item i
all_written laws old new item other torn whole i d within =
    let own : (j : ℕ) (e : Sector) → j < count_of other → at_place new (item.position + j) e ≡ record_sector item j =
    λ j e inside.
    let stamp = laws.stamped new item.position j e other whole inside in
    let of = is_new old new item (item.position + j) (item.position + j) e torn stamp.0 (omega arith) in
    let same : of.0 ≡ j = omega (arith, of.2) in
    of.3 ∙ ap (λ (k : ℕ). record_sector item k) same in
    let zero_is : item.position + 0 ≡ item.position = omega arith in
    let first : (e : Sector) → at_place new item.position e ≡ record_sector item 0 =
    λ e. ap (λ (p : ℕ). at_place new p e) (sym zero_is) ∙ own 0 e (some_sector other) in
    let count : length item.images ≡ length other.images = laws.counted new item.position item other torn.form torn.fits first whole in
    let counts : count_of item ≡ count_of other = ap (λ (m : ℕ). sector_count m) count in
    own i d (omega arith)

-- a record that was written whole is whole
pub item_whole : (old new : List Sector) (item : LogRecord) → IsTornRing old new item → record_end item - item.tail ≤ length old
    → ((i : ℕ) (d : Sector) → i < count_of item → at_place new (item.position + i) d ≡ record_sector item i) → IsWholeAt new item.position item
item_whole old new item torn room all = record {
  begins = refl;
  form = torn.form;
  fits = torn.fits;
  room = omega (arith, torn.size);
  sectors = all;
}

-- an old record from the tail on, before the record, stays whole
pub kept : (laws : WholeLaws) (old new : List Sector) (item : LogRecord) (tail q : ℕ) (other : LogRecord) → IsTornRing old new item
    → record_end item - tail ≤ length old → tail ≤ q → record_end other ≤ item.position → IsWholeAt old q other → IsWholeAt new q other
kept laws old new item tail q other torn room from to whole =
    let begins : other.position ≡ q = whole.begins in
    laws.places old new q other torn.size
    (λ i d within. elim (at_position old new item (q + i) d torn) [
      | inl same ↦ same
      | inr of ↦
          let lt : q + i < item.position + of.0 = omega arith in
          let apart = turn_apart (q + i) (item.position + of.0) (length old) of.2 lt in
          absurd (omega (arith, of.1))
    ])
    whole
