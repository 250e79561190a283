-- Places of positions, and the numbers in a record's sectors.
use Rattle.std.proofs.Common.{◌≡◌, ℕ, zero, suc, ◌+◌, ◌*◌, ◌/◌, ◌%◌, ◌^◌, ◌<◌, ◌≤◌, ◌⊎◌, List, ◌++◌, length, take, drop, refl, ap, inl, inr, ◌∙◌, arith, append_assoc}
use Rattle.std.proofs.Math.Nat.{div-add-mod, mul-le-mul_left, mul-add, mul-one}
use Rattle.std.proofs.lemmas.Bool.{cases_lt, cases_eq}
use Rattle.std.proofs.lemmas.List.{take_at, drop_at}
use Rattle.byteorder.specs.Endian.{big_bytes}
use Rattle.life_bytes.specs.Fields.{field}
use Rattle.life_bytes.specs.TableLaws.{number_at}
use Rattle.log_record.specs.declared.record.LogRecord.{LogRecord}
use Rattle.log_record.specs.Encoding.{IsRecord, payload, record_sector, sector_count, stamps}

-- the sectors of a record
abbrev pub count_of : LogRecord → ℕ
count_of item = sector_count (length item.images)

-- a record has a sector
pub some_sector : (item : LogRecord) → 0 < count_of item
some_sector item = omega arith

-- two positions at one place are at least a turn apart
pub turn_apart : (p q n : ℕ) → p % n ≡ q % n → p < q → p + n ≤ q
turn_apart p q n same lt =
    let p_is : n * (p / n) + p % n ≡ p = div-add-mod p n in
    let q_is : n * (q / n) + q % n ≡ q = div-add-mod q n in
    elim (cases_lt (p / n) (q / n)) [
      | inl below ↦
          let le : p / n + 1 ≤ q / n = omega arith in
          let times : n * (p / n + 1) ≤ n * (q / n) = mul-le-mul_left n le in
          let more : n * (p / n + 1) ≡ n * (p / n) + n * 1 = mul-add n (p / n) 1 in
          let one : n * 1 ≡ n = mul-one n in
          omega arith
      | inr above ↦
          let times : n * (q / n) ≤ n * (p / n) = mul-le-mul_left n above in
          absurd (omega arith)
    ]

-- among positions from one on, fewer than a turn, the first k have a given place, or not
pub find_place : (position n x k : ℕ) → ((i : ℕ) × (i < k) × (x ≡ (position + i) % n)) ⊎ ((i : ℕ) → i < k → x ≡ (position + i) % n → ⊥)
find_place position n x zero = inr (λ i within same. omega arith)
find_place position n x (suc k) = elim (find_place position n x k) [
  | inl found ↦ inl (found.0, omega (arith, found.1), found.2)
  | inr none ↦ elim (cases_eq x ((position + k) % n)) [
    | inl here ↦ inl (k, omega arith, here)
    | inr away ↦ inr (λ i within same. elim (cases_lt i k) [
      | inl lt ↦ none i lt same
      | inr le ↦ let last : i ≡ k = omega arith in away (same ∙ ap (λ (j : ℕ). (position + j) % n) last)
    ])
  ]
]

-- the first bytes of a record's sector
sector_bytes : (item : LogRecord) (i : ℕ) → (record_sector item i).bytes
    ≡ big_bytes 8 (item.position + i) ++ (big_bytes 8 item.position ++ take 496 (drop (496 * i) (payload item)))
unfolding record_sector stamps
sector_bytes item i = append_assoc (big_bytes 8 (item.position + i)) (big_bytes 8 item.position) (take 496 (drop (496 * i) (payload item)))

-- a record's sector begins with its own position
pub own_position : (item : LogRecord) (i : ℕ) → IsRecord item → i < count_of item → field 8 0 (record_sector item i).bytes ≡ item.position + i
own_position item i form within =
    let small : item.position + i < 2 ^ 64 = omega (arith, form.positions) in
    let rest = big_bytes 8 item.position ++ take 496 (drop (496 * i) (payload item)) in
    number_at 8 0 (item.position + i) (record_sector item i).bytes small
    (ap (λ (l : List ℕ). take 8 l) (sector_bytes item i) ∙ take_at (big_bytes 8 (item.position + i)) rest 8 refl)

-- and then has the record's
pub first_position : (item : LogRecord) (i : ℕ) → IsRecord item → field 8 8 (record_sector item i).bytes ≡ item.position
first_position item i form =
    let some = some_sector item in
    let small : item.position < 2 ^ 64 = omega (arith, form.positions) in
    let rest = take 496 (drop (496 * i) (payload item)) in
    let behind = big_bytes 8 item.position ++ rest in
    number_at 8 8 item.position (record_sector item i).bytes small
    (ap (λ (l : List ℕ). take 8 (drop 8 l)) (sector_bytes item i)
    ∙ ap (λ (l : List ℕ). take 8 l) (drop_at (big_bytes 8 (item.position + i)) behind 8 refl) ∙ take_at (big_bytes 8 item.position) rest 8 refl)
