-- Chains of whole records, and what follows them.
use Rattle.std.proofs.Common.{◌≡◌, ℕ, ◌+◌, ◌-◌, ◌<◌, ◌≤◌, ◌^◌, List, [], ◌∷◌, ◌⊎◌, ◌++◌, length, refl, sym, ap, subst, inl, inr, ◌∙◌, arith}
use Rattle.std.specs.List.{All}
use Rattle.std.proofs.lemmas.Bool.{cases_lt}
use Rattle.std.proofs.lemmas.Grind.{flat_map-append}
use Rattle.std.proofs.lemmas.List.{append-nil}
use Rattle.std.proofs.lemmas.List.Elements.{All-nil, All-cons, All-head, All-tail, All-push}
use Rattle.life_bytes.specs.Fields.{field}
use Rattle.life_bytes.specs.declared.sector.Sector.{Sector}
use Rattle.log_record.specs.declared.image.Image.{Image}
use Rattle.log_record.specs.declared.record.LogRecord.{LogRecord}
use Rattle.log_record.specs.Encoding.{sector_count}
use Rattle.log_record.specs.Whole.{IsWholeAt, NoneWholeAt, at_place}
use Rattle.log_image.specs.Log.{IsRecordChain, IsGroupImage, IsLast, IsLogTo, Log, record_end, next_of}
use Rattle.log_image.specs.Overlay.{images_of}
use Rattle.log_batch.specs.Put.{put_all}
use Rattle.log_batch.specs.PutLaws.{All-put}
use Rattle.log_batch.specs.NewestLaws.{put_all-append, put_all_is_newest}
use Rattle.recovery.specs.Follow.{IsFollowed, IsNextInChain, NoLogTo, NoneNext}
use Rattle.recovery.specs.Found.{Says}
use Rattle.recovery.proofs.Places.{Stamped, some_sector}

-- the law that at most one record is whole at a position
abbrev pub One : Type 0
One = (ring : List Sector) (position : ℕ) (a b : LogRecord) → IsWholeAt ring position a → IsWholeAt ring position b → a ≡ b

none : Sector
none = record { bytes = [] }

-- ---- chains

-- neither positions nor commit numbers fall
chain-bounds : (ring : List Sector) (position number : ℕ) (records : List LogRecord) (end next : ℕ) → IsRecordChain ring position number records end next
    → (position ≤ end) × (number ≤ next)
chain-bounds ring position number [] end next h = (omega (arith, h.0), omega (arith, h.1))
chain-bounds ring position number (item ∷ records) end next h =
    let rest = chain-bounds ring (record_end item) (next_of item) records end next h.2 in
    let begins : item.position ≡ position = h.0.begins in
    let first : item.first ≡ number = h.1 in
    (omega (arith, rest.0), omega (arith, rest.1))

-- one record more
chain-push : (ring : List Sector) (position number : ℕ) (records : List LogRecord) (end next : ℕ) (item : LogRecord)
    → IsRecordChain ring position number records end next → IsWholeAt ring end item → item.first ≡ next
    → IsRecordChain ring position number (records ++ item ∷ []) (record_end item) (next_of item)
chain-push ring position number [] end next item h whole first =
    (subst (λ (p : ℕ). IsWholeAt ring p item) (sym h.0) whole, first ∙ sym h.1, (refl, refl))
chain-push ring position number (other ∷ records) end next item h whole first =
    (h.0, h.1, chain-push ring (record_end other) (next_of other) records end next item h.2 whole first)

-- two whole records do not share a sector
apart : Stamped → (ring : List Sector) (p q : ℕ) (a b : LogRecord) → IsWholeAt ring p a → IsWholeAt ring q b → p < q
    → q < p + sector_count (length a.images) → ⊥
apart stamped ring p q a b isa isb lt within =
    let i = q - p in
    let at : p + i ≡ q + 0 = omega arith in
    let first = stamped ring p i none a isa (omega arith) in
    let second = stamped ring q 0 none b isb (some_sector b) in
    let same : field 8 8 (at_place ring (p + i) none).bytes ≡ q = ap (λ (k : ℕ). field 8 8 (at_place ring k none).bytes) at ∙ second.1 in
    let clash : p ≡ q = sym first.1 ∙ same in
    omega arith

-- a chain with a record begins with the one that is whole there
chain_from : One → (ring : List Sector) (position number : ℕ) (records : List LogRecord) (end next : ℕ) (head : LogRecord)
    → IsRecordChain ring position number records end next → position < end → IsWholeAt ring position head
    → (number ≡ head.first) × IsRecordChain ring position head.first records end next
chain_from one ring position number [] end next head h below whole = absurd (omega (arith, h.0))
chain_from one ring position number (item ∷ records) end next head h below whole =
    let same : item.first ≡ head.first = ap (λ (r : LogRecord). r.first) (one ring position item head h.0 whole) in
    (sym h.1 ∙ same, (h.0, same, h.2))

chain_some : (ring : List Sector) (position number : ℕ) (records : List LogRecord) (end next : ℕ)
    → IsRecordChain ring position number records end next → position < end → NoneWholeAt ring position → ⊥
chain_some ring position number [] end next h below absent = omega (arith, h.0)
chain_some ring position number (item ∷ records) end next h below absent = absent item h.0

-- ---- logs

-- a log that leads up to a record has a chain from that record's tail on
to_chain : (ring : List Sector) (anchor : ℕ) (last : LogRecord) (log : Log) → IsLogTo ring anchor last log
    → (first : ℕ) × (1 ≤ first) × IsRecordChain ring last.tail first log.records log.end log.next
to_chain ring anchor last log to = (
  to.chain.0,
  to.chain.1,
  subst (λ (p : ℕ). IsRecordChain ring p to.chain.0 log.records log.end log.next) to.tail to.chain.2,
)

tail_below : (ring : List Sector) (position : ℕ) (last : LogRecord) → IsLast ring position last → last.tail < record_end last
tail_below ring position last is = let some = some_sector last in omega (arith, is.whole.form.tail)

-- where there is no record at the tail, or its commits begin with the number 0, there is no log
pub none_at_tail : (ring : List Sector) (anchor position : ℕ) (last : LogRecord) → IsLast ring position last → NoneWholeAt ring last.tail
    → NoLogTo ring anchor last
none_at_tail ring anchor position last is absent log to =
    let chain = to_chain ring anchor last log to in
    let below = tail_below ring position last is in
    chain_some ring last.tail chain.0 log.records log.end log.next chain.2 (omega (arith, below, to.end.0)) absent

pub zero_at_tail : One → (ring : List Sector) (anchor position : ℕ) (last head : LogRecord) → IsLast ring position last
    → IsWholeAt ring last.tail head → head.first ≡ 0 → NoLogTo ring anchor last
zero_at_tail one ring anchor position last head is whole zero log to =
    let chain = to_chain ring anchor last log to in
    let below = tail_below ring position last is in
    let from = chain_from one ring last.tail chain.0 log.records log.end log.next head chain.2 (omega (arith, below, to.end.0)) whole in
    omega (arith, from.0, chain.1)

-- where the last record's end is no number of 64 bits, there is no log
pub none_past_end : (ring : List Sector) (anchor : ℕ) (last : LogRecord) → (record_end last < 2 ^ 64 → ⊥) → NoLogTo ring anchor last
none_past_end ring anchor last past log to = past (omega (arith, to.end.0, to.end.1))

-- at first no record is followed
pub followed_first : One → (ring : List Sector) (anchor position : ℕ) (last head : LogRecord) → IsLast ring position last
    → IsWholeAt ring last.tail head → IsFollowed ring anchor last head.first last.tail head.first []
followed_first one ring anchor position last head is whole = record {
  records = [];
  chain = (refl, refl);
  fits = whole.fits.first;
  homes = All-nil (λ (item : LogRecord). All (IsGroupImage anchor) item.images);
  newest = refl;
  stands = inl is.whole.form.tail;
  rest = λ log to.
      let chain = to_chain ring anchor last log to in
      let below = tail_below ring position last is in
      let from = chain_from one ring last.tail chain.0 log.records log.end log.next head chain.2 (omega (arith, below, to.end.0)) whole in
      (log.records, from.1, to.homes);
}

-- a log that goes on goes on with the record that is whole there
rest_more : One → (ring : List Sector) (anchor position number : ℕ) (rest : List LogRecord) (end next : ℕ) (item : LogRecord)
    → IsRecordChain ring position number rest end next → All (λ r. All (IsGroupImage anchor) r.images) rest → position < end → IsWholeAt ring position item
    → (more : List LogRecord) × IsRecordChain ring (record_end item) (next_of item) more end next × All (λ r. All (IsGroupImage anchor) r.images) more
rest_more one ring anchor position number [] end next item h homes below whole = absurd (omega (arith, h.0))
rest_more one ring anchor position number (other ∷ rest) end next item h homes below whole = (
  rest,
  subst (λ (r : LogRecord). IsRecordChain ring (record_end r) (next_of r) rest end next) (one ring position other item h.0 whole) h.2,
  All-tail (λ (r : LogRecord). All (IsGroupImage anchor) r.images) other rest homes,
)

-- and with one that can be next
rest_next : (ring : List Sector) (anchor position number : ℕ) (rest : List LogRecord) (end next : ℕ) → IsRecordChain ring position number rest end next
    → All (λ r. All (IsGroupImage anchor) r.images) rest → position < end → end < 2 ^ 64 → next < 2 ^ 64
    → (item : LogRecord) × IsNextInChain ring anchor position number item
rest_next ring anchor position number [] end next h homes below end_fits next_fits = absurd (omega (arith, h.0))
rest_next ring anchor position number (item ∷ rest) end next h homes below end_fits next_fits =
    let bounds = chain-bounds ring (record_end item) (next_of item) rest end next h.2 in (
      item,
      record {
        whole = h.0;
        first = h.1;
        homes = All-head (λ (r : LogRecord). All (IsGroupImage anchor) r.images) item rest homes;
        end = omega (arith, bounds.0);
        next = omega (arith, bounds.1);
      },
    )

-- where a next record stands with respect to the last one
next_stands : One → Stamped → (ring : List Sector) (position p : ℕ) (last item : LogRecord) → IsLast ring position last → IsWholeAt ring p item
    → p ≤ last.position → (record_end item ≤ last.position) ⊎ ((record_end item ≡ record_end last) × (next_of item ≡ next_of last))
next_stands one stamped ring position p last item is whole le =
    let begins : item.position ≡ p = whole.begins in
    elim (cases_lt p last.position) [
      | inl lt ↦ elim (cases_lt last.position (record_end item)) [
        | inl over ↦ absurd (apart stamped ring p last.position item last whole is.whole lt (omega arith))
        | inr under ↦ inl under
      ]
      | inr ge ↦
          let here : p ≡ last.position = omega arith in
          let same : item ≡ last = one ring last.position item last (subst (λ (q : ℕ). IsWholeAt ring q item) here whole) is.whole in
          inr (ap (λ (r : LogRecord). record_end r) same, ap (λ (r : LogRecord). next_of r) same)
    ]

images_more : (records : List LogRecord) (item : LogRecord) → images_of (records ++ item ∷ []) ≡ images_of records ++ item.images
images_more records item =
    flat_map-append (λ (r : LogRecord). r.images) records (item ∷ [])
    ∙ ap (λ (l : List Image). images_of records ++ l) (append-nil item.images)

-- one record more is followed
pub followed_more : One → Stamped → (ring : List Sector) (anchor position : ℕ) (last : LogRecord) (first p number : ℕ) (images : List Image) (item : LogRecord)
    → IsLast ring position last → IsFollowed ring anchor last first p number images → p < record_end last → IsNextInChain ring anchor p number item
    → IsFollowed ring anchor last first (record_end item) (next_of item) (put_all item.images images)
followed_more one stamped ring anchor position last first p number images item is done below next =
    let low : p ≤ last.position = elim done.stands [ inl le ↦ le | inr at ↦ absurd (omega (arith, at.0)) ] in record {
      records = done.records ++ item ∷ [];
      chain = chain-push ring last.tail first done.records p number item done.chain next.whole next.first;
      fits = next.next;
      homes = All-push (λ (r : LogRecord). All (IsGroupImage anchor) r.images) done.records item done.homes next.homes;
      newest = ap (put_all item.images) done.newest ∙ sym (put_all-append (images_of done.records) item.images [])
          ∙ ap (λ (l : List Image). put_all l []) (sym (images_more done.records item));
      stands = next_stands one stamped ring position p last item is next.whole low;
      rest = λ log to.
          let rest = done.rest log to in
          rest_more one ring anchor p number rest.0 log.end log.next item rest.1 rest.2 (omega (arith, to.end.0)) next.whole;
    }

-- where no record can be next, there is no log
pub followed_none : (ring : List Sector) (anchor : ℕ) (last : LogRecord) (first p number : ℕ) (images : List Image)
    → IsFollowed ring anchor last first p number images → p < record_end last → NoneNext ring anchor p number → NoLogTo ring anchor last
followed_none ring anchor last first p number images done below absent log to =
    let rest = done.rest log to in
    let next = rest_next ring anchor p number rest.0 log.end log.next rest.1 rest.2 (omega (arith, to.end.0)) to.end.1 to.next.1 in
    absent next.0 next.1

-- ---- what was found

-- up to the end all records of the log are followed
pub followed_all : (ring : List Sector) (anchor : ℕ) (last : LogRecord) (first p number : ℕ) (images : List Image)
    → IsFollowed ring anchor last first p number images → record_end last ≤ p → 1 ≤ first → record_end last < 2 ^ 64
    → (log : Log) × IsLogTo ring anchor last log
    × Says log (record { tail = last.tail; end = record_end last; next_commit = number; images = images })
followed_all ring anchor last first p number images done past from end_fits =
    let some = some_sector last in
    let at : (p ≡ record_end last) × (number ≡ next_of last) = elim done.stands [ inl le ↦ absurd (omega arith) | inr both ↦ both ] in (
      record { tail = last.tail; end = p; next = number; records = done.records },
      record {
        tail = refl;
        end = (at.0, omega (arith, at.0));
        next = (at.1, done.fits);
        chain = (first, from, done.chain);
        homes = done.homes;
      },
      record { tail = refl; end = sym at.0; next = refl; images = rw done.newest (put_all_is_newest (images_of done.records)) },
    )

All-put_all : (P : Image → Type 0) (images into : List Image) → All P images → All P into → All P (put_all images into)
All-put_all P [] into all rest = rest
All-put_all P (image ∷ images) into all rest =
    All-put_all P images _ (All-tail P image images all)
    (All-put P (λ (i : Image). i.home) image into (All-head P image images all) rest)

All-append : (P : Image → Type 0) (xs ys : List Image) → All P xs → All P ys → All P (xs ++ ys)
All-append P [] ys all rest = rest
All-append P (x ∷ xs) ys all rest = All-cons P x (xs ++ ys) (All-head P x xs all) (All-append P xs ys (All-tail P x xs all) rest)

All-images_of : (P : Image → Type 0) (records : List LogRecord) → All (λ r. All P r.images) records → All P (images_of records)
All-images_of P [] all = All-nil P
All-images_of P (item ∷ records) all =
    All-append P item.images (images_of records) (All-head (λ (r : LogRecord). All P r.images) item records all)
    (All-images_of P records (All-tail (λ (r : LogRecord). All P r.images) item records all))

-- the images are of the groups' sectors
pub followed_homes : (ring : List Sector) (anchor : ℕ) (last : LogRecord) (first p number : ℕ) (images : List Image)
    → IsFollowed ring anchor last first p number images → All (IsGroupImage anchor) images
followed_homes ring anchor last first p number images done =
    subst (λ (l : List Image). All (IsGroupImage anchor) l) (sym done.newest)
    (All-put_all (IsGroupImage anchor) (images_of done.records) [] (All-images_of (IsGroupImage anchor) done.records done.homes) (All-nil (IsGroupImage anchor)))

-- and the next commit number is not 0
pub followed_number : (ring : List Sector) (anchor : ℕ) (last : LogRecord) (first p number : ℕ) (images : List Image)
    → IsFollowed ring anchor last first p number images → 1 ≤ first → 1 ≤ number
followed_number ring anchor last first p number images done from =
    let bounds = chain-bounds ring last.tail first done.records p number done.chain in
    omega (arith, bounds.1)
