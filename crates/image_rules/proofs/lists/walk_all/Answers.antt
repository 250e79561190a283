use Rattle.std.proofs.Common.{◌≡◌, ℕ, List, ap, subst, ◌∙◌, slice_index, arith}
use Rattle.image_rules.specs.Listing.{WalkedBelow}
use Rattle.image_rules.proofs.Strolls.{unmet_still, walked_more}
use Rattle.image_rules.proofs.lists.walk_all.Goals as goal

pub loop-bucket-preserved : goal.loop-bucket-preserved
loop-bucket-preserved c =
    let l = c.loop-bucket in
    let fn = c.args.unmet.now.entries in
    let old = l.unmet.entries in
    let new = c.walk-place.new.unmet.entries in
    let ensures = c.walk-place.ensures in
    record {
      walked = λ g image group same all.
          let head = ap (λ (heads : List ℕ). slice_index heads l.bucket) same in
          let unmet = unmet_still g image group l.bucket fn old (λ agino mine. l.invariant.ahead agino (omega arith)) (all l.bucket) in
          walked_more g image group l.bucket old new l.wrong c.walk-place.result c.least-wrong.result c.least-wrong.ensures (l.invariant.walked g image group same all) ensures.others
          (ensures.ends g image group head unmet) (ensures.wrong g image group head unmet);
      ahead = λ agino le. ensures.others agino (λ e. absurd (omega arith)) ∙ l.invariant.ahead agino (omega arith);
    }

pub returns : goal.returns
returns c g image group same all =
    let l = c.loop-bucket in
    let e : l.bucket ≡ 64 = omega (arith, l.auto.bucket-end) in
    subst (λ (n : ℕ). WalkedBelow g image group n l.unmet.entries l.wrong) e (l.invariant.walked g image group same all)
