use Rattle.std.proofs.Common.{◌≡◌, ◌+◌, ◌-◌, ℕ, [], inl, inr, get_or, ap, arith}
use Rattle.std.proofs.lemmas.Bool.{cases_lt}
use Rattle.std.proofs.lemmas.List.{get_or-map}
use Rattle.log_image.specs.Overlay.{homes}
use Rattle.log_record.specs.declared.image.Image.{Image}
use Rattle.tests_log.proofs.stores.ascends.Goals as goal

pub loop-i-preserved : goal.loop-i-preserved
loop-i-preserved c = λ k h.
    let none : Image = record { home = 0; sector = record { bytes = [] } } in
    let images = c.args.images.now in
    let i = c.loop-i.i in
    let before = get_or-map (λ (image : Image). image.home) images (i - 1) none 0 (omega arith) in
    let here = get_or-map (λ (image : Image). image.home) images i none 0 c.loop-i-test.true in
    elim (cases_lt (k + 1) i) [
      | inl below ↦ c.loop-i.invariant k below
      | inr last ↦
          let e : k ≡ i - 1 = omega arith in
          let next : k + 1 ≡ i = omega arith in
          let low : get_or (homes images) k 0 ≡ get_or (homes images) (i - 1) 0 = ap (λ (j : ℕ). get_or (homes images) j 0) e in
          let high : get_or (homes images) (k + 1) 0 ≡ get_or (homes images) i 0 = ap (λ (j : ℕ). get_or (homes images) j 0) next in
          omega arith
    ]
