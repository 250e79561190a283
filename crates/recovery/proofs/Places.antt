-- Whole records by the places at which they begin.
use Rattle.std.proofs.Common.{◌≡◌, ℕ, ◌+◌, ◌%◌, ◌<◌, ◌≤◌, List, length, get_or, refl, sym, ap, subst, inl, inr, ◌∙◌, add-zero, arith}
use Rattle.std.specs.Prelude.{Option, None, Some, Result, Ok, Err, IfOk, MatchOption}
use Rattle.std.proofs.lemmas.Bool.{cases_eq}
use Rattle.life_bytes.specs.Fields.{field}
use Rattle.life_bytes.specs.declared.sector.Sector.{Sector}
use Rattle.log_record.specs.declared.record.LogRecord.{LogRecord}
use Rattle.log_record.specs.Encoding.{sector_count}
use Rattle.log_record.specs.Whole.{IsWholeAt, NoneWholeAt, at_place}
use Rattle.log_image.specs.Log.{HasNoLast, IsLast}
use Rattle.recovery.specs.Last.{BeginsAt, IsFrom, IsSeen, NoneFrom}

-- the law of what a whole record's sectors begin with
abbrev pub Stamped : Type 0
Stamped = (ring : List Sector) (position i : ℕ) (d : Sector) (item : LogRecord) → IsWholeAt ring position item
    → i < sector_count (length item.images)
    → (field 8 0 (at_place ring (position + i) d).bytes ≡ position + i) × (field 8 8 (at_place ring (position + i) d).bytes ≡ position)

pub some_sector : (item : LogRecord) → 0 < sector_count (length item.images)
some_sector item = omega arith

-- the first sector of a whole record has its position twice
pub first_sector : Stamped → (ring : List Sector) (place : ℕ) (item : LogRecord) (d : Sector) → BeginsAt ring place item
    → (field 8 0 (get_or ring place d).bytes ≡ item.position) × (field 8 8 (get_or ring place d).bytes ≡ item.position)
first_sector stamped ring place item d begins =
    let both = stamped ring item.position 0 d item begins.whole (some_sector item) in
    let here : (item.position + 0) % length ring ≡ place = ap (λ (n : ℕ). n % length ring) (add-zero item.position) ∙ begins.at in (
      ap (λ (k : ℕ). field 8 0 (get_or ring k d).bytes) (sym here) ∙ both.0 ∙ add-zero item.position,
      ap (λ (k : ℕ). field 8 8 (get_or ring k d).bytes) (sym here) ∙ both.1,
    )

-- what is read at the position with which a sector begins
pub from_read : {E : Type 0} (stamped : Stamped) (ring : List Sector) (place position own : ℕ) (d : Sector) (r : Result (Option LogRecord) E)
    → own ≡ field 8 0 (get_or ring place d).bytes → position ≤ own → own % length ring ≡ place
    → IfOk r (λ found. MatchOption found (NoneWholeAt ring own) (IsWholeAt ring own))
    → IfOk r (λ found. MatchOption found (NoneFrom ring place position) (IsFrom ring place position))
from_read stamped ring place position own d (Err e) is above at read = tt
from_read stamped ring place position own d (Ok None) is above at read = λ item begins.
    let same : item.position ≡ own = sym (first_sector stamped ring place item d begins).0 ∙ sym is in
    absurd (read item (subst (λ (p : ℕ). IsWholeAt ring p item) same begins.whole))
from_read stamped ring place position own d (Ok (Some item)) is above at read =
    let same : own ≡ item.position = sym read.begins in record {
      begins = record { whole = subst (λ (p : ℕ). IsWholeAt ring p item) same read; at = ap (λ (n : ℕ). n % length ring) (sym same) ∙ at };
      counts = omega arith;
      only = λ other begins. sym (first_sector stamped ring place other d begins).0 ∙ sym is ∙ same;
    }

-- nothing is seen at first
pub seen_first : (ring : List Sector) (position : ℕ) → IsSeen ring position 0 position None
seen_first ring position = (refl, λ place below. absurd (omega arith))

-- a place at which no greater record begins
pub seen_none : (ring : List Sector) (position count least : ℕ) (last : Option LogRecord) → IsSeen ring position count least last
    → NoneFrom ring count least → IsSeen ring position (count + 1) least last
seen_none ring position count least None seen none = (
  seen.0,
  λ place below item begins. elim (cases_eq place count) [
    | inl here ↦ let less = none item (subst (λ (k : ℕ). BeginsAt ring k item) here begins) in omega (arith, seen.0, less)
    | inr other ↦ seen.1 place (omega arith) item begins
  ],
)
seen_none ring position count least (Some last) seen none = (
  seen.0,
  record {
    whole = seen.1.whole;
    counts = seen.1.counts;
    greatest = λ place other below begins. elim (cases_eq place count) [
      | inl here ↦ let less = none other (subst (λ (k : ℕ). BeginsAt ring k other) here begins) in omega (arith, seen.0, less)
      | inr apart ↦ seen.1.greatest place other (omega arith) begins
    ];
  },
)

-- a place at which one begins
pub seen_some : (ring : List Sector) (position count least : ℕ) (last : Option LogRecord) (item : LogRecord) → IsSeen ring position count least last
    → IsFrom ring count least item → IsSeen ring position (count + 1) item.position (Some item)
seen_some ring position count least None item seen from = (
  refl,
  record {
    whole = from.begins.whole;
    counts = omega (arith, seen.0, from.counts);
    greatest = λ place other below begins. elim (cases_eq place count) [
      | inl here ↦ let same = from.only other (subst (λ (k : ℕ). BeginsAt ring k other) here begins) in omega (arith, same)
      | inr apart ↦ let less = seen.1 place (omega arith) other begins in omega (arith, less, seen.0, from.counts)
    ];
  },
)
seen_some ring position count least (Some last) item seen from = (
  refl,
  record {
    whole = from.begins.whole;
    counts = omega (arith, seen.0, seen.1.counts, from.counts);
    greatest = λ place other below begins. elim (cases_eq place count) [
      | inl here ↦ let same = from.only other (subst (λ (k : ℕ). BeginsAt ring k other) here begins) in omega (arith, same)
      | inr apart ↦ let le = seen.1.greatest place other (omega arith) begins in omega (arith, le, seen.0, from.counts)
    ];
  },
)

-- a record that is whole begins at a place of the ring
begins_somewhere : (ring : List Sector) (item : LogRecord) → IsWholeAt ring item.position item
    → (item.position % length ring < length ring) × BeginsAt ring (item.position % length ring) item
begins_somewhere ring item whole =
    let some = some_sector item in
    let size : 0 < length ring = omega (arith, whole.room, whole.form.tail) in
    (omega arith, record { whole = whole; at = refl })

-- all places are seen
pub seen_all : (ring : List Sector) (position least : ℕ) (last : Option LogRecord) → IsSeen ring position (length ring) least last
    → MatchOption last (HasNoLast ring position) (IsLast ring position)
seen_all ring position least None seen = λ item whole.
    let begins = begins_somewhere ring item whole in
    seen.1 (item.position % length ring) begins.0 item begins.1
seen_all ring position least (Some last) seen = record {
  whole = seen.1.whole;
  counts = seen.1.counts;
  greatest = λ other whole.
      let begins = begins_somewhere ring other whole in
      seen.1.greatest (other.position % length ring) other begins.0 begins.1;
}
