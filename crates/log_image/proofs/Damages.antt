-- Damage of an image's anchor and log.
use Rattle.std.proofs.Common.{◌≡◌, ℕ, List, [], sym, ap, subst, inl, inr, ◌∙◌, arith}
use Rattle.life_bytes.specs.declared.sector.Sector.{Sector}
use Rattle.log_record.specs.declared.record.LogRecord.{LogRecord}
use Rattle.log_record.specs.Whole.{IsWholeAt}
use Rattle.log_image.specs.Damage.{IsLogDamage, LogBreaks, LogBreaksFirst}
use Rattle.log_image.specs.Log.{HasLog, HasNoLast, IsLast, IsLog, IsLogTo, Log, record_end, ring_part}
use Rattle.log_image.proofs.Parts.{anchor-unique}
use Rattle.log_image.proofs.TornRing.{WholeLaws}

none : Sector
none = record { bytes = [] }

last_one : (laws : WholeLaws) (ring : List Sector) (position : ℕ) (a b : LogRecord) → IsLast ring position a → IsLast ring position b → a ≡ b
last_one laws ring position a b isa isb =
    let up = isa.greatest b isb.whole in
    let down = isb.greatest a isa.whole in
    let same : b.position ≡ a.position = omega arith in
    laws.one ring a.position a b isa.whole (subst (λ (p : ℕ). IsWholeAt ring p b) same isb.whole)

last_or_none : (ring : List Sector) (position : ℕ) (item : LogRecord) → IsLast ring position item → HasNoLast ring position → ⊥
last_or_none ring position item is absent = omega (arith, is.counts, absent item is.whole)

-- a right log breaks nowhere
log_whole : (laws : WholeLaws) (ring : List Sector) (anchor position next : ℕ) (log : Log) (s : ℕ) → HasLog ring anchor position next log
    → LogBreaks ring anchor position s → ⊥
log_whole laws ring anchor position next log s has (inl (item, is, denied, at)) = elim has.records [
  | inl right ↦ denied log (subst (λ (r : LogRecord). IsLogTo ring anchor r log) (last_one laws ring position right.0 item right.1 is) right.2)
  | inr empty ↦ last_or_none ring position item is empty.0
]
log_whole laws ring anchor position next log s has (inr (end, place, ends, within, named, reaches)) =
    let same : end ≡ log.end = elim ends [
      | inl last ↦ elim has.records [
        | inl right ↦ last.2 ∙ ap (λ (r : LogRecord). record_end r) (last_one laws ring position last.0 right.0 last.1 right.1) ∙ sym right.2.end.0
        | inr empty ↦ absurd (last_or_none ring position last.0 last.1 empty.0)
      ]
      | inr absent ↦ elim has.records [
        | inl right ↦ absurd (last_or_none ring position right.0 right.1 absent.0)
        | inr empty ↦ absent.1 ∙ sym (ap (λ (l : Log). l.end) empty.1)
      ]
    ] in
    omega (arith, same, reaches none, has.below.each place none within)

pub right_log : (laws : WholeLaws) (image : List Sector) (anchor ring rule s : ℕ) (log : Log) → IsLog image anchor ring log
    → IsLogDamage image anchor ring rule s → ⊥
right_log laws image anchor ring rule s log is (inl (numbered, (at, denied))) = denied is.says.0 is.says.1 is.says.2
right_log laws image anchor ring rule s log is (inr (numbered, (position, next, has, first))) =
    let same = anchor-unique image anchor ring position next is.says.0 is.says.1 has is.says.2 in
    log_whole laws (ring_part anchor ring image) anchor is.says.0 is.says.1 log s is.says.3
    (subst (λ (p : ℕ). LogBreaks (ring_part anchor ring image) anchor p s) same.0 first.0)

pub one_damage : (image : List Sector) (anchor ring a b s t : ℕ) → IsLogDamage image anchor ring a s → IsLogDamage image anchor ring b t
    → (a ≡ b) × (s ≡ t)
one_damage image anchor ring a b s t (inl (na, (ata, da))) (inl (nb, (atb, db))) = (na ∙ sym nb, ata ∙ sym atb)
one_damage image anchor ring a b s t (inl (na, (ata, da))) (inr (nb, (position, next, has, first))) = absurd (da position next has)
one_damage image anchor ring a b s t (inr (na, (position, next, has, first))) (inl (nb, (atb, db))) = absurd (db position next has)
one_damage image anchor ring a b s t (inr (na, (p, n, hasa, firsta))) (inr (nb, (q, m, hasb, firstb))) =
    let same = anchor-unique image anchor ring p n q m hasa hasb in
    let other : LogBreaksFirst (ring_part anchor ring image) anchor p t =
    subst (λ (x : ℕ). LogBreaksFirst (ring_part anchor ring image) anchor x t) (sym same.0) firstb in
    let up = firsta.1 t other.0 in
    let down = other.1 s firsta.0 in
    (na ∙ sym nb, omega arith)
