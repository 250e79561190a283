use Rattle.std.proofs.Common.{◌≡◌, [], ap, ◌%◌, length, ℕ, arith, sym, ◌∙◌}
use Rattle.life_bytes.specs.declared.sector.Sector.{Sector}
use Rattle.recovery.proofs.Places.{first_sector, from_read}
use Rattle.recovery.proofs.last.record_from.Goals as goal
use Rattle.recovery.proofs.last.record_from.Goals.{then-own-first-via-then-own-first, then-own-first-via-else-own-first+then-own-position, then-own-first-via-else-own-first+else-own-position+then-own-ring}

pub returns-then-own-first : goal.returns-then-own-first
returns-then-own-first c = λ item begins.
    let none : Sector = record { bytes = [] } in
    let both = first_sector c.whole_records.ensures.stamped c.args.ring.now c.args.place item none begins in
    let own : c.field_u64-own.result ≡ item.position = c.field_u64-own.ensures ∙ both.0 in
    let first : c.field_u64-first.result ≡ item.position = c.field_u64-first.ensures ∙ both.1 in
    elim c.then-own-first.branch [
      | then-own-first-via-then-own-first w ↦ absurd (w.if-own-first.true (own ∙ sym first))
      | then-own-first-via-else-own-first+then-own-position w ↦ omega (arith, own, w.if-own-position.true)
      | then-own-first-via-else-own-first+else-own-position+then-own-ring w ↦ absurd (w.if-own-ring.true (ap (λ (n : ℕ). n % length c.args.ring.now) own ∙ begins.at))
    ]

pub returns : goal.returns
returns c =
    let none : Sector = record { bytes = [] } in
    from_read c.whole_records.ensures.stamped c.args.ring.now c.args.place c.args.position c.field_u64-own.result none c.read_record.result
    c.field_u64-own.ensures c.if-own-position.false c.if-own-ring.false c.read_record.ensures
