-- The log of a ring, before and after a record was written.
use Rattle.std.proofs.Common.{◌∷◌, ◌++◌, ◌≡◌, ℕ, ◌+◌, ◌-◌, ◌^◌, ◌<◌, ◌≤◌, List, [], length, get_or, refl, sym, ap, subst, inl, inr, ◌∙◌, arith}
use Rattle.std.specs.List.{All}
use Rattle.std.proofs.lemmas.List.Elements.{All-push}
use Rattle.life_bytes.specs.Fields.{field}
use Rattle.life_bytes.specs.declared.sector.Sector.{Sector}
use Rattle.log_record.specs.declared.record.LogRecord.{LogRecord}
use Rattle.log_record.specs.Encoding.{record_sector}
use Rattle.log_record.specs.Whole.{IsWholeAt, at_place}
use Rattle.log_image.specs.Log.{AreBelow, HasLog, IsRecordChain, IsGroupImage, IsLast, IsLogTo, Log, empty_log, record_end, next_of}
use Rattle.log_image.specs.Step.{cover_of, covered, with_record}
use Rattle.log_image.proofs.Places.{count_of, some_sector, own_position}
use Rattle.log_image.proofs.TornRing.{WholeLaws, IsTornRing, begins_before, whole_before, item_whole}
use Rattle.log_image.proofs.Chains.{chain-bounds, chain-kept, chain-push, chain-unique, chain-last}

-- where a log lies
pub record Bounds (ring : List Sector) (position : ℕ) (log : Log) : Type 0 where
  pub ordered : log.tail ≤ log.end
  pub turn : log.end - log.tail ≤ length ring
  pub from : position ≤ log.end
  pub end : log.end < 2 ^ 64
  pub some : 1 ≤ log.next
  pub next : log.next < 2 ^ 64

pub bounds_to : (ring : List Sector) (anchor position next : ℕ) (last : LogRecord) (log : Log) → IsLast ring position last → IsLogTo ring anchor last log
    → Bounds ring position log
bounds_to ring anchor position next last log is to =
    let end : log.end ≡ record_end last = to.end.0 in
    let chain = chain-bounds ring log.tail to.chain.0 log.records log.end log.next to.chain.2 in
    record {
      ordered = chain.0;
      turn = omega (arith, is.whole.room, to.tail);
      from = omega (arith, is.counts);
      end = to.end.1;
      some = omega (arith, to.chain.1, chain.1);
      next = to.next.1;
    }

pub bounds_empty : (ring : List Sector) (position next : ℕ) (log : Log) → position < 2 ^ 64 → 1 ≤ next → next < 2 ^ 64
    → log ≡ empty_log position next → Bounds ring position log
bounds_empty ring position next log low some high same =
    let tail : log.tail ≡ position = ap (λ (l : Log). l.tail) same in
    let end : log.end ≡ position = ap (λ (l : Log). l.end) same in
    let number : log.next ≡ next = ap (λ (l : Log). l.next) same in
    record {
      ordered = omega arith;
      turn = omega arith;
      from = omega arith;
      end = omega arith;
      some = omega arith;
      next = omega arith;
    }

pub bounds : (ring : List Sector) (anchor position next : ℕ) (log : Log) → position < 2 ^ 64 → 1 ≤ next → next < 2 ^ 64
    → HasLog ring anchor position next log → Bounds ring position log
bounds ring anchor position next log low some high has = elim (has.records) [
  | inl last ↦ bounds_to ring anchor position next last.0 log last.1 last.2
  | inr empty ↦ bounds_empty ring position next log low some high empty.1
]

-- no sector reaches a record's end
reaches_less : (old new : List Sector) (item : LogRecord) (place : ℕ) (d : Sector) → IsTornRing old new item → place < length new
    → field 8 0 (get_or new place d).bytes < record_end item
reaches_less old new item place d torn within =
    let inside : place < length old = omega (arith, torn.size) in
    let some = some_sector item in
    elim (torn.each place d inside) [
      | inl same ↦
          let low = torn.below.each place d inside in
          let is : field 8 0 (get_or new place d).bytes ≡ field 8 0 (get_or old place d).bytes = ap (λ (s : Sector). field 8 0 s.bytes) same in
          omega arith
      | inr of ↦
          let own : field 8 0 (get_or new place d).bytes ≡ item.position + of.0 = ap (λ (s : Sector). field 8 0 s.bytes) of.3 ∙ own_position item of.0 torn.form of.1 in
          omega (arith, of.1)
    ]

pub torn_below : (old new : List Sector) (item : LogRecord) → IsTornRing old new item → AreBelow new (record_end item)
torn_below old new item torn = record { each = λ place d within. reaches_less old new item place d torn within }

below_more : (ring : List Sector) (low high : ℕ) → low ≤ high → AreBelow ring low → AreBelow ring high
below_more ring low high le below = record { each = λ place d within. omega (arith, below.each place d within) }

-- the record is the last, once it is whole
pub item_last : (laws : WholeLaws) (old new : List Sector) (item : LogRecord) (position : ℕ) → IsTornRing old new item → position ≤ item.position
    → IsWholeAt new item.position item → IsLast new position item
item_last laws old new item position torn from whole = record {
  whole = whole;
  counts = from;
  greatest = λ other is. elim (begins_before laws old new item other.position other torn is) [
    | inl same ↦ omega arith
    | inr lt ↦ omega arith
  ];
}

-- ---- the log is the old one

abbrev NotWhole : List Sector → LogRecord → Type 0
NotWhole ring item = (other : LogRecord) → IsWholeAt ring item.position other → ⊥

before_item : (laws : WholeLaws) (old new : List Sector) (item : LogRecord) (other : LogRecord) → IsTornRing old new item → NotWhole new item
    → IsWholeAt new other.position other → IsWholeAt old other.position other
before_item laws old new item other torn not_whole is = elim (begins_before laws old new item other.position other torn is) [
  | inl same ↦ absurd (not_whole other (subst (λ (p : ℕ). IsWholeAt new p other) same is))
  | inr lt ↦ whole_before laws old new item other.position other torn is lt
]

same_to : (laws : WholeLaws) (old new : List Sector) (item : LogRecord) (anchor : ℕ) (last : LogRecord) (log : Log)
    → IsTornRing old new item → item.position ≡ log.end → record_end item - log.tail ≤ length old → IsLogTo old anchor last log → IsLogTo new anchor last log
same_to laws old new item anchor last log torn at room to = record {
  tail = to.tail;
  end = to.end;
  next = to.next;
  chain = (to.chain.0, to.chain.1, chain-kept laws old new item log.tail log.tail to.chain.0 log.records log.end log.next torn room (omega arith) (omega arith) to.chain.2);
  homes = to.homes;
}

same_last : (laws : WholeLaws) (old new : List Sector) (item : LogRecord) (anchor position : ℕ) (last : LogRecord) (log : Log)
    → IsTornRing old new item → item.position ≡ log.end → record_end item - log.tail ≤ length old → NotWhole new item
    → IsLast old position last → IsLogTo old anchor last log → IsLast new position last
same_last laws old new item anchor position last log torn at room not_whole is to =
    let tail : log.tail ≡ last.tail = to.tail in
    let end : log.end ≡ record_end last = to.end.0 in
    let low : last.tail ≤ last.position = is.whole.form.tail in
    record {
      whole = Rattle.log_image.proofs.TornRing.kept laws old new item log.tail last.position last torn room (omega arith) (omega arith) is.whole;
      counts = is.counts;
      greatest = λ other whole. is.greatest other (before_item laws old new item other torn not_whole whole);
    }

pub log_same : (laws : WholeLaws) (old new : List Sector) (item : LogRecord) (anchor position next : ℕ) (log : Log) → Bounds old position log
    → IsTornRing old new item → item.position ≡ log.end → record_end item - log.tail ≤ length old → NotWhole new item
    → HasLog old anchor position next log → HasLog new anchor position next log
log_same laws old new item anchor position next log within torn at room not_whole has = record {
  records = elim (has.records) [
    | inl last ↦ inl (
      last.0,
      same_last laws old new item anchor position last.0 log torn at room not_whole last.1 last.2,
      same_to laws old new item anchor last.0 log torn at room last.2,
    )
    | inr empty ↦ inr (λ other whole. empty.0 other (before_item laws old new item other torn not_whole whole), empty.1)
  ];
  below = below_more new (record_end item) (log.end + length new) (omega (arith, torn.size, within.ordered)) (torn_below old new item torn);
}

-- ---- the log has the record

abbrev AllWritten : List Sector → LogRecord → Type 0
AllWritten ring item = (i : ℕ) (d : Sector) → i < count_of item → at_place ring (item.position + i) d ≡ record_sector item i

-- the chain up to a log's end, and the homes of its images
record Chained (ring : List Sector) (anchor : ℕ) (log : Log) : Type 0 where
  chain : (first : ℕ) × (1 ≤ first) × IsRecordChain ring log.tail first log.records log.end log.next
  homes : All (λ item. All (IsGroupImage anchor) item.images) log.records

chained_empty : (ring : List Sector) (anchor position next : ℕ) → 1 ≤ next → Chained ring anchor (empty_log position next)
chained_empty ring anchor position next some = record {
  chain = (next, some, (refl, refl));
  homes = λ k d within. absurd (omega arith);
}

chained : (ring : List Sector) (anchor position next : ℕ) (log : Log) → 1 ≤ next → HasLog ring anchor position next log → Chained ring anchor log
chained ring anchor position next log some has = elim (has.records) [
  | inl last ↦ record { chain = last.2.chain; homes = last.2.homes }
  | inr empty ↦ subst (λ (l : Log). Chained ring anchor l) (sym empty.1) (chained_empty ring anchor position next some)
]

-- what a record has to be, to go on
pub record FitsLog (ring : ℕ) (anchor : ℕ) (log : Log) (item : LogRecord) : Type 0 where
  pub position : item.position ≡ log.end
  pub first : item.first ≡ log.next
  pub tail : item.tail ≡ log.tail
  pub room : record_end item - log.tail ≤ ring
  pub homes : All (IsGroupImage anchor) item.images
  pub end : record_end item < 2 ^ 64
  pub next : next_of item < 2 ^ 64

with_to : (laws : WholeLaws) (old new : List Sector) (item : LogRecord) (anchor : ℕ) (log : Log) → IsTornRing old new item
    → FitsLog (length old) anchor log item → IsWholeAt new item.position item → Chained old anchor log → IsLogTo new anchor item (with_record log item)
with_to laws old new item anchor log torn fits whole has =
    let at : item.position ≡ log.end = fits.position in
    let before = chain-kept laws old new item log.tail log.tail has.chain.0 log.records log.end log.next torn fits.room (omega arith) (omega arith) has.chain.2 in
    let here : IsWholeAt new log.end item = subst (λ (p : ℕ). IsWholeAt new p item) at whole in
    record {
      tail = sym fits.tail;
      end = (refl, fits.end);
      next = (refl, fits.next);
      chain = (has.chain.0, has.chain.1, chain-push new log.tail has.chain.0 log.records log.end log.next item before here fits.first);
      homes = All-push (λ (r : LogRecord). All (IsGroupImage anchor) r.images) log.records item has.homes fits.homes;
    }

pub log_more : (laws : WholeLaws) (old new : List Sector) (item : LogRecord) (anchor position next : ℕ) (log : Log) → Bounds old position log → 1 ≤ next
    → IsTornRing old new item → FitsLog (length old) anchor log item → AllWritten new item
    → HasLog old anchor position next log → HasLog new anchor position next (with_record log item)
log_more laws old new item anchor position next log within some torn fits all has =
    let at : item.position ≡ log.end = fits.position in
    let room : record_end item - item.tail ≤ length old = omega (arith, fits.room, fits.tail) in
    let whole = item_whole old new item torn room all in
    record {
      records = inl (
        item,
        item_last laws old new item position torn (omega (arith, within.from)) whole,
        with_to laws old new item anchor log torn fits whole (chained old anchor position next log some has),
      );
      below = below_more new (record_end item) (record_end item + length new) (omega arith) (torn_below old new item torn);
    }

-- ---- the log is the cover alone

cover_to : (new : List Sector) (anchor : ℕ) (log : Log) → log.end + 1 < 2 ^ 64 → 1 ≤ log.next → log.next < 2 ^ 64
    → IsWholeAt new log.end (cover_of log) → IsLogTo new anchor (cover_of log) (covered log)
cover_to new anchor log small some low whole =
    let end : log.end + 1 ≡ record_end (cover_of log) = refl in
    let next : log.next ≡ next_of (cover_of log) = omega arith in
    record {
      tail = refl;
      end = (end, small);
      next = (next, low);
      chain = (log.next, some, (whole, refl, (sym end, sym next)));
      homes = All-push (λ (r : LogRecord). All (IsGroupImage anchor) r.images) [] (cover_of log) (λ k d within. absurd (omega arith)) (λ k d within. absurd (omega arith));
    }

pub log_covered : (laws : WholeLaws) (old new : List Sector) (anchor position next : ℕ) (log : Log) → Bounds old position log
    → IsTornRing old new (cover_of log) → log.end + 1 < 2 ^ 64 → AllWritten new (cover_of log)
    → HasLog old anchor position next log → HasLog new anchor position next (covered log)
log_covered laws old new anchor position next log within torn small all has =
    let item = cover_of log in
    let room : record_end item - item.tail ≤ length old = omega (arith, torn.some) in
    let whole = item_whole old new item torn room all in
    record {
      records = inl (item, item_last laws old new item position torn within.from whole, cover_to new anchor log small within.some within.next whole);
      below = below_more new (record_end item) (log.end + 1 + length new) (omega arith) (torn_below old new item torn);
    }

-- ---- at most one log

last-unique : (laws : WholeLaws) (ring : List Sector) (position : ℕ) (a b : LogRecord) → IsLast ring position a → IsLast ring position b → a ≡ b
last-unique laws ring position a b isa isb =
    let above : b.position ≤ a.position = isa.greatest b isb.whole in
    let below : a.position ≤ b.position = isb.greatest a isa.whole in
    let same : b.position ≡ a.position = omega arith in
    laws.one ring a.position a b isa.whole (subst (λ (p : ℕ). IsWholeAt ring p b) same isb.whole)

log_from_parts : (a b : Log) → a.tail ≡ b.tail → a.end ≡ b.end → a.next ≡ b.next → a.records ≡ b.records → a ≡ b
log_from_parts a b tail end next records =
    let of : ℕ → ℕ → ℕ → List LogRecord → Log = λ t e n r. record { tail = t; end = e; next = n; records = r } in
    ap (λ (t : ℕ). of t a.end a.next a.records) tail ∙ ap (λ (e : ℕ). of b.tail e a.next a.records) end
    ∙ ap (λ (n : ℕ). of b.tail b.end n a.records) next ∙ ap (λ (r : List LogRecord). of b.tail b.end b.next r) records

to-unique : (laws : WholeLaws) (ring : List Sector) (anchor position : ℕ) (last other : LogRecord) (a b : Log) → IsLast ring position last → IsLast ring position other
    → IsLogTo ring anchor last a → IsLogTo ring anchor other b → a ≡ b
to-unique laws ring anchor position last other a b is_last is_other isa isb =
    let same : last ≡ other = last-unique laws ring position last other is_last is_other in
    let tail : a.tail ≡ b.tail = isa.tail ∙ ap (λ (r : LogRecord). r.tail) same ∙ sym isb.tail in
    let end : a.end ≡ b.end = isa.end.0 ∙ ap (λ (r : LogRecord). record_end r) same ∙ sym isb.end.0 in
    let next : a.next ≡ b.next = isa.next.0 ∙ ap (λ (r : LogRecord). next_of r) same ∙ sym isb.next.0 in
    let from : IsRecordChain ring a.tail isb.chain.0 b.records b.end b.next = subst (λ (t : ℕ). IsRecordChain ring t isb.chain.0 b.records b.end b.next) (sym tail) isb.chain.2 in
    let chain : IsRecordChain ring a.tail isb.chain.0 b.records a.end b.next = subst (λ (e : ℕ). IsRecordChain ring a.tail isb.chain.0 b.records e b.next) (sym end) from in
    let records = chain-unique laws ring a.tail isa.chain.0 isb.chain.0 a.records b.records a.end a.next b.next isa.chain.2 chain in
    log_from_parts a b tail end next records

pub log-unique : (laws : WholeLaws) (ring : List Sector) (anchor position next : ℕ) (a b : Log) → HasLog ring anchor position next a → HasLog ring anchor position next b → a ≡ b
log-unique laws ring anchor position next a b has_a has_b = elim (has_a.records) [
  | inl last ↦ elim (has_b.records) [
    | inl other ↦ to-unique laws ring anchor position last.0 other.0 a b last.1 other.1 last.2 other.2
    | inr none ↦ absurd (omega (arith, none.0 last.0 last.1.whole, last.1.counts))
  ]
  | inr empty ↦ elim (has_b.records) [
    | inl other ↦ absurd (omega (arith, empty.0 other.0 other.1.whole, other.1.counts))
    | inr none ↦ empty.1 ∙ sym none.1
  ]
]

-- a log's records end with the last one
pub ends_with : (laws : WholeLaws) (ring : List Sector) (anchor position : ℕ) (last : LogRecord) (log : Log) → IsLast ring position last → IsLogTo ring anchor last log
    → (before : List LogRecord) × (log.records ≡ before ++ last ∷ [])
ends_with laws ring anchor position last log is to =
    let low : last.tail ≤ last.position = is.whole.form.tail in
    chain-last laws ring log.tail to.chain.0 log.records log.end log.next last to.chain.2 is.whole to.end.0 is.greatest (omega (arith, to.tail))
