use Rattle.std.proofs.Common.{◌≡◌, ◌≤◌, ◌+◌, ◌-◌, ◌%◌, ◌/◌, ℕ, length, take, drop, ap, ◌∙◌, arith}
use Rattle.std.proofs.lemmas.List.{length-drop, length-take-le}
use Rattle.life_bytes.specs.declared.sector.Sector.{Sector}
use Rattle.log_record.specs.Whole.{at_place}
use Rattle.log_record.proofs.Window.{none, copied_more, length-put_mid}
use Rattle.log_record.proofs.read.copy_payload.Goals as goal

pub loop-done-preserved : goal.loop-done-preserved
loop-done-preserved c =
    let done = c.loop-done.done in
    let into = c.loop-done.into in
    let n = c.min-count.result in
    let piece = c.copy_from_slice.new.self in
    let from = c.args.at + done in
    let place = at_place c.args.ring.now (c.args.position + from / 496) none in
    let within : done + n ≤ length into = omega arith in
    let width : done + n - done ≡ n = omega arith in
    let size : length piece ≡ n =
    c.copy_from_slice.ensures.len ∙ omega (arith, length-take-le (done + n - done) (drop done into) (omega (arith, length-drop done into))) in
    let is : piece ≡ take n (drop (16 + from % 496) place.bytes) =
    c.copy_from_slice.ensures.after
    ∙ ap (λ (k : ℕ). take k (drop (16 + from % 496) c.sector_at-sector.result.now.bytes)) (omega arith)
    ∙ ap (λ (s : Sector). take n (drop (16 + from % 496) s.bytes)) (c.sector_at-sector.ensures none) in
    let same = length-put_mid done (done + n - done) into piece (omega arith) (omega arith) in
    record {
      within = omega arith;
      bytes = λ i. omega (arith, c.type_inv.into i);
      held = λ count whole fits. copied_more c.args.ring.now c.args.position count c.args.at done n (done + n - done) into piece whole
          (omega arith) within (omega arith) (omega arith) width (c.loop-done.invariant.held count whole (omega arith)) is size;
    }
