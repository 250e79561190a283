use Rattle.std.proofs.Common.{◌≡◌, ◌+◌, ◌-◌, ℕ, [], inl, inr, get_or, map, ap, arith}
use Rattle.std.proofs.lemmas.Bool.{cases_lt, false≢true}
use Rattle.std.proofs.lemmas.List.{get_or-map, length-map}
use Rattle.log_record.specs.declared.image.Image.{Image}
use Rattle.log_record.proofs.read.ascends.Goals as goal

pub returns-then-images-i : goal.returns-then-images-i
returns-then-images-i c =
    let none : Image = record { home = 0; sector = record { bytes = [] } } in
    let images = c.args.images.now in
    let i = c.loop-i.i in
    let homes = map (λ (image : Image). image.home) images in
    let before = get_or-map (λ (image : Image). image.home) images (i - 1) none 0 (omega arith) in
    let here = get_or-map (λ (image : Image). image.home) images i none 0 c.loop-i-test.true in
    let next : i - 1 + 1 ≡ i = omega arith in
    let same : get_or homes (i - 1 + 1) 0 ≡ get_or homes i 0 = ap (λ (j : ℕ). get_or homes j 0) next in (
      λ no. absurd (false≢true no),
      λ rising. absurd (omega (arith, rising (i - 1) (omega (arith, length-map images (λ (image : Image). image.home))))),
    )

pub loop-i-preserved : goal.loop-i-preserved
loop-i-preserved c = λ k h.
    let none : Image = record { home = 0; sector = record { bytes = [] } } in
    let images = c.args.images.now in
    let i = c.loop-i.i in
    let homes = map (λ (image : Image). image.home) images in
    let before = get_or-map (λ (image : Image). image.home) images (i - 1) none 0 (omega arith) in
    let here = get_or-map (λ (image : Image). image.home) images i none 0 c.loop-i-test.true in
    elim (cases_lt (k + 1) i) [
      | inl below ↦ c.loop-i.invariant k below
      | inr last ↦
          let e : k ≡ i - 1 = omega arith in
          let next : k + 1 ≡ i = omega arith in
          let low : get_or homes k 0 ≡ get_or homes (i - 1) 0 = ap (λ (j : ℕ). get_or homes j 0) e in
          let high : get_or homes (k + 1) 0 ≡ get_or homes i 0 = ap (λ (j : ℕ). get_or homes j 0) next in
          omega arith
    ]
