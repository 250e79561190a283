-- What breaks the log of a ring.
use Rattle.std.proofs.Common.{◌≡◌, ℕ, ◌+◌, ◌<◌, ◌≤◌, ◌^◌, List, [], length, min, refl, sym, ap, subst, inl, inr, ◌∙◌, arith}
use Rattle.std.specs.Prelude.{Option, None, Some, Result, Ok, Err, IfOk, IfErr, IfSome}
use Rattle.std.proofs.lemmas.Bool.{cases_lt}
use Rattle.life_limits.specs.declared.TheConstants.{MAX_IMAGES}
use Rattle.life_bytes.specs.declared.sector.Sector.{Sector}
use Rattle.log_record.specs.declared.record.LogRecord.{LogRecord}
use Rattle.log_record.specs.Whole.{IsWholeAt}
use Rattle.log_image.specs.Damage.{ChainBreaks, EndsAt, LogBreaksFirst, PositionBreaks}
use Rattle.log_image.specs.Log.{AreBelow, HasLog, HasNoLast, IsLast, IsLogTo, Log, empty_log, record_end}
use Rattle.log_image.specs.Step.{sector_of_position}
use Rattle.log_batch.specs.NewestLaws.{put_all_is_newest}
use Rattle.recovery.specs.Broken.{BreaksChain, BreaksLog, HasRecords, IsEndOf, IsLastOf, IsLeastHigh, lowered}
use Rattle.recovery.specs.Found.{Says}
use Rattle.recovery.specs.declared.fault.ScanFault.{ScanFault}
use Rattle.recovery.specs.declared.fault.ScanFault.TheVariants.{Damaged, ReadFault, NoMemory}
use Rattle.recovery.specs.declared.found.Found.{Found}
use Rattle.recovery.proofs.Chains.{One}

none : Sector
none = record { bytes = [] }

-- ---- the last record

last_one : One → (ring : List Sector) (position : ℕ) (a b : LogRecord) → IsLast ring position a → IsLast ring position b → a ≡ b
last_one one ring position a b isa isb =
    let up = isa.greatest b isb.whole in
    let down = isb.greatest a isa.whole in
    let same : b.position ≡ a.position = omega arith in
    one ring a.position a b isa.whole (subst (λ (p : ℕ). IsWholeAt ring p b) same isb.whole)

last_or_none : (ring : List Sector) (position : ℕ) (item : LogRecord) → IsLast ring position item → HasNoLast ring position → ⊥
last_or_none ring position item is absent = omega (arith, is.counts, absent item is.whole)

-- the end of a log is one
pub end_one : One → (ring : List Sector) (position : ℕ) (last : Option LogRecord) (end other : ℕ) → IsLastOf ring position last → IsEndOf position last end
    → EndsAt ring position other → other ≡ end
end_one one ring position None end other is at (inl ends) = absurd (last_or_none ring position ends.0 ends.1 is)
end_one one ring position None end other is at (inr ends) = ends.1 ∙ sym at
end_one one ring position (Some item) end other is at (inl ends) =
    ends.2 ∙ ap (λ (r : LogRecord). record_end r) (last_one one ring position ends.0 item ends.1 is) ∙ sym at
end_one one ring position (Some item) end other is at (inr ends) = absurd (last_or_none ring position item is ends.0)

end_is : (ring : List Sector) (position : ℕ) (last : Option LogRecord) (end : ℕ) → IsLastOf ring position last → IsEndOf position last end
    → EndsAt ring position end
end_is ring position None end is at = inr (is, at)
end_is ring position (Some item) end is at = inl (item, is, at)

-- a last record has no more images than a record may have, and its end is at most 2^64
pub last_few : (ring : List Sector) (position : ℕ) (last : Option LogRecord) → IsLastOf ring position last
    → IfSome last (λ item. length item.images ≤ MAX_IMAGES)
last_few ring position None is = tt
last_few ring position (Some item) is = is.whole.form.few

pub end_fits : (ring : List Sector) (position : ℕ) (last : Option LogRecord) (end : ℕ) → position < 2 ^ 64 → IsLastOf ring position last
    → IsEndOf position last end → end ≤ 2 ^ 64
end_fits ring position None end fits is at = omega arith
end_fits ring position (Some item) end fits is at = omega (arith, is.whole.form.positions, at)

-- a ring with a last record is not empty
pub last_size : (ring : List Sector) (position : ℕ) (item : LogRecord) → IsLast ring position item → 0 < length ring
last_size ring position item is = omega (arith, is.whole.room, is.whole.form.tail)

-- ---- what breaks

chain_one : One → (ring : List Sector) (anchor position a b : ℕ) → ChainBreaks ring anchor position a → ChainBreaks ring anchor position b → a ≡ b
chain_one one ring anchor position a b (item, isa, na, ata) (other, isb, nb, atb) =
    ata ∙ ap (λ (r : LogRecord). sector_of_position anchor (length ring) r.position) (last_one one ring position item other isa isb) ∙ sym atb

chain_not : One → (ring : List Sector) (anchor position next : ℕ) (log : Log) (s : ℕ) → HasRecords ring anchor position next log
    → ChainBreaks ring anchor position s → ⊥
chain_not one ring anchor position next log s (inl (last, is, to)) (item, isa, denied, at) =
    denied log (subst (λ (r : LogRecord). IsLogTo ring anchor r log) (last_one one ring position last item is isa) to)
chain_not one ring anchor position next log s (inr (absent, empty)) (item, isa, denied, at) = last_or_none ring position item isa absent

high_not : One → (ring : List Sector) (anchor position : ℕ) (last : Option LogRecord) (end s : ℕ) → IsLastOf ring position last → IsEndOf position last end
    → AreBelow ring (end + length ring) → PositionBreaks ring anchor position s → ⊥
high_not one ring anchor position last end s is at below (other, place, ends, within, named, reaches) =
    let same = end_one one ring position last end other is at ends in
    omega (arith, same, reaches none, below.each place none within)

high_is : (ring : List Sector) (anchor position : ℕ) (last : Option LogRecord) (end s : ℕ) → IsLastOf ring position last → IsEndOf position last end
    → IsLeastHigh ring anchor end s → PositionBreaks ring anchor position s
high_is ring anchor position last end s is at high =
    (end, high.place, end_is ring position last end is at, high.first.within, high.at, high.first.reaches)

high_least : One → (ring : List Sector) (anchor position : ℕ) (last : Option LogRecord) (end s t : ℕ) → IsLastOf ring position last → IsEndOf position last end
    → IsLeastHigh ring anchor end s → PositionBreaks ring anchor position t → s ≤ t
high_least one ring anchor position last end s t is at high (other, place, ends, within, named, reaches) =
    let same = end_one one ring position last end other is at ends in
    elim (cases_lt place high.place) [
      | inl before ↦ absurd (omega (arith, same, reaches none, high.first.first place none before))
      | inr behind ↦ omega (arith, named, high.at)
    ]

-- ---- the outcome

-- no sector is from beyond: the log as its records tell
pub found_below : (ring : List Sector) (anchor position next : ℕ) (last : Option LogRecord) (end : ℕ) (r : Result Found ScanFault)
    → One → IsLastOf ring position last → IsEndOf position last end → AreBelow ring (end + length ring)
    → IfOk r (λ found. (log : Log) × HasRecords ring anchor position next log × Says log found)
    → IfOk r (λ found. (log : Log) × HasLog ring anchor position next log × Says log found)
found_below ring anchor position next last end (Err fault) one is at below found = tt
found_below ring anchor position next last end (Ok f) one is at below (log, inl (item, isa, to), says) =
    let same = end_one one ring position last end log.end is at (inl (item, isa, to.end.0)) in (
      log,
      record { records = inl (item, isa, to); below = subst (λ (e : ℕ). AreBelow ring (e + length ring)) (sym same) below },
      says,
    )
found_below ring anchor position next last end (Ok f) one is at below (log, inr (absent, empty), says) =
    let ends : log.end ≡ position = ap (λ (l : Log). l.end) empty in
    let same = end_one one ring position last end log.end is at (inr (absent, ends)) in (
      log,
      record { records = inr (absent, empty); below = subst (λ (e : ℕ). AreBelow ring (e + length ring)) (sym same) below },
      says,
    )

pub broken_below : (ring : List Sector) (anchor position : ℕ) (last : Option LogRecord) (end : ℕ) (r : Result Found ScanFault)
    → One → IsLastOf ring position last → IsEndOf position last end → AreBelow ring (end + length ring)
    → IfErr r (BreaksChain ring anchor position) → IfErr r (BreaksLog ring anchor position)
broken_below ring anchor position last end (Ok f) one is at below broken = tt
broken_below ring anchor position last end (Err (Damaged rule s)) one is at below broken = (
  broken.0,
  (
    inl broken.1,
    λ other breaks. elim breaks [
      | inl chain ↦ let same = chain_one one ring anchor position s other broken.1 chain in omega arith
      | inr high ↦ absurd (high_not one ring anchor position last end other is at below high)
    ],
  ),
)
broken_below ring anchor position last end (Err ReadFault) one is at below broken = broken
broken_below ring anchor position last end (Err NoMemory) one is at below broken = tt

-- a sector is from beyond, and the records are right
pub broken_high : (ring : List Sector) (anchor position next : ℕ) (last : Option LogRecord) (end s : ℕ) (log : Log)
    → One → IsLastOf ring position last → IsEndOf position last end → IsLeastHigh ring anchor end s
    → HasRecords ring anchor position next log → LogBreaksFirst ring anchor position s
broken_high ring anchor position next last end s log one is at high records = (
  inr (high_is ring anchor position last end s is at high),
  λ other breaks. elim breaks [
    | inl chain ↦ absurd (chain_not one ring anchor position next log other records chain)
    | inr more ↦ high_least one ring anchor position last end s other is at high more
  ],
)

-- or they are not
pub broken_both : (ring : List Sector) (anchor position : ℕ) (last : Option LogRecord) (end s : ℕ) (fault : ScanFault)
    → One → IsLastOf ring position last → IsEndOf position last end → IsLeastHigh ring anchor end s
    → BreaksChain ring anchor position fault → BreaksLog ring anchor position (lowered s fault)
broken_both ring anchor position last end s (Damaged rule t) one is at high broken = (
  broken.0,
  (
    elim (cases_lt t s) [
      | inl less ↦ let same : min t s ≡ t = omega arith in inl (subst (λ (x : ℕ). ChainBreaks ring anchor position x) (sym same) broken.1)
      | inr le ↦ let same : min t s ≡ s = omega arith in
          inr (subst (λ (x : ℕ). PositionBreaks ring anchor position x) (sym same) (high_is ring anchor position last end s is at high))
    ],
    λ other breaks. elim breaks [
      | inl chain ↦ let same = chain_one one ring anchor position t other broken.1 chain in omega arith
      | inr more ↦ let le = high_least one ring anchor position last end s other is at high more in omega arith
    ],
  ),
)
broken_both ring anchor position last end s ReadFault one is at high broken = broken
broken_both ring anchor position last end s NoMemory one is at high broken = tt

-- where there is no last record, the log is empty
pub found_empty : (ring : List Sector) (anchor position next : ℕ) → HasNoLast ring position
    → (log : Log) × HasRecords ring anchor position next log
    × Says log (record { tail = position; end = position; next_commit = next; images = [] })
found_empty ring anchor position next absent =
    (empty_log position next, inr (absent, refl), record { tail = refl; end = refl; next = refl; images = put_all_is_newest [] })
