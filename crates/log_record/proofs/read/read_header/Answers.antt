use Rattle.std.proofs.Common.{◌≡◌, ℕ, length, sym, subst, ◌∙◌, rules}
use Rattle.std.proofs.lemmas.Bool.{false≢true}
use Rattle.log_record.specs.Outline.{IsStamped}
use Rattle.log_record.proofs.Whole.{header_from, header_from-is, whole_header, whole_numbers, whole_room, whole_stamped}
use Rattle.log_record.proofs.read.read_header.Goals as goal
use Rattle.log_record.proofs.read.read_header.Goals.{then-not-has_room-via-then-not-has_room, then-not-has_room-via-else-not-has_room+then-not-is_stamped, then-not-has_room-via-else-not-has_room+else-not-is_stamped+then-not-is_filled}

pub returns-in_err-header-clause-none : goal.returns-in_err-header-clause-none
returns-in_err-header-clause-none c =
    let size : length c.copy_payload.new.into ≡ 32 = search rules in
    rw c.from_residual.ensures
    (λ item is. c.in_err-header.ensures.none (header_from item) (header_from-is item is.form is.fits)
    (sym (whole_header c.args.ring.now c.args.position item c.copy_payload.new.into is c.copy_payload.ensures.held size)))

pub returns-then-not-has_room-clause-none : goal.returns-then-not-has_room-clause-none
returns-then-not-has_room-clause-none c = λ item is.
    let ring = c.args.ring.now in
    let position = c.args.position in
    let h = c.in_ok-header.header in
    let size : length c.copy_payload.new.into ≡ 32 = search rules in
    let has = whole_numbers ring position item c.copy_payload.new.into h is c.copy_payload.ensures.held size
    c.in_ok-header.ensures.some c.in_ok-header.ensures.form in
    elim c.then-not-has_room.branch [
      | then-not-has_room-via-then-not-has_room w ↦
          false≢true (sym w.if-not-has_room.true ∙ c.has_room.ensures.1 (whole_room ring position item h is has))
      | then-not-has_room-via-else-not-has_room+then-not-is_stamped w ↦
          let Stamped : ℕ → Type 0 = λ k. IsStamped ring position k in
          false≢true (sym w.if-not-is_stamped.true
          ∙ w.is_stamped.ensures.stamped.1 (subst Stamped (sym w.record_sectors.ensures) (whole_stamped ring position item h.images is has.images)))
      | then-not-has_room-via-else-not-has_room+else-not-is_stamped+then-not-is_filled w ↦ w.is_filled.ensures.no w.if-not-is_filled.true item is has.images
    ]
