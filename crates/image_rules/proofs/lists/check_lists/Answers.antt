use Rattle.std.proofs.Common.{ap, sym, subst}
use Rattle.life_limits.specs.declared.TheConstants.{BUCKETS}
use Rattle.sound_image.specs.Damage.{Rule, HoldsIn}
use Rattle.image_rules.specs.Faults.{FaultIn}
use Rattle.image_rules.specs.Listing.{IsLesser, WalkedBelow}
use Rattle.image_rules.proofs.Strolls.{unmet_all, pointers_first, pointers_hold, lists_first, lists_hold, all_rules}
use Rattle.image_rules.proofs.lists.check_lists.Goals as goal

pub returns-in-Some-clause-fault : goal.returns-in-Some-clause-fault
returns-in-Some-clause-fault c image space same all =
    let a = c.args in
    let k = a.g.now in
    let old = a.links.now.orphans.entries in
    let walked = c.walk_all.ensures k image a.group (ap (λ agi. agi.heads) same) (λ bucket. unmet_all k image a.group bucket old a.links.now.pointing all) in
    subst (FaultIn k image a.group) (sym c.damage.ensures)
    (pointers_first k image a.group c.in-Some.place space (subst (WalkedBelow k image a.group BUCKETS c.walk_all.new.unmet.entries) c.in-Some.is walked))

pub returns-in-Some-least-clause-fault : goal.returns-in-Some-least-clause-fault
returns-in-Some-least-clause-fault c image space same all =
    let a = c.args in
    let k = a.g.now in
    let old = a.links.now.orphans.entries in
    let new = c.walk_all.new.unmet.entries in
    let first = c.first-unmet.result in
    let walked = c.walk_all.ensures k image a.group (ap (λ agi. agi.heads) same) (λ bucket. unmet_all k image a.group bucket old a.links.now.pointing all) in
    let whole = subst (WalkedBelow k image a.group BUCKETS new) c.in_default.is walked in
    let least = subst (IsLesser first a.links.now.pointing) c.in-Some-least.is c.least.ensures in
    subst (FaultIn k image a.group) (sym c.damage-in-Some-least.ensures)
    (lists_first k image a.group c.in-Some-least.place old new first a.links.now.pointing space whole all (c.first-unmet.ensures.some, c.first-unmet.ensures.none) least)

pub returns-in-None-clause-right : goal.returns-in-None-clause-right
returns-in-None-clause-right c image space same all =
    let a = c.args in
    let k = a.g.now in
    let old = a.links.now.orphans.entries in
    let new = c.walk_all.new.unmet.entries in
    let first = c.first-unmet.result in
    let walked = c.walk_all.ensures k image a.group (ap (λ agi. agi.heads) same) (λ bucket. unmet_all k image a.group bucket old a.links.now.pointing all) in
    let whole = subst (WalkedBelow k image a.group BUCKETS new) c.in_default.is walked in
    let least = subst (IsLesser first a.links.now.pointing) c.in-None.is c.least.ensures in
    all_rules (λ (rule : Rule). HoldsIn k image rule a.group) space (pointers_hold k image a.group new whole)
    (lists_hold k image a.group old new first a.links.now.pointing whole all (c.first-unmet.ensures.some, c.first-unmet.ensures.none) least)
