use Rattle.std.proofs.Common.{List, refl, ap, subst, ◌∙◌, arith}
use Rattle.life_bytes.specs.declared.sector.Sector.{Sector}
use Rattle.geometry.specs.Places.{anchor_of}
use Rattle.sound_image.specs.Damage.{AreGroupsSound}
use Rattle.sound_image.specs.Reading.{rows_of}
use Rattle.commit_history.specs.Carried.{IsEncoding}
use Rattle.image_rules.specs.Faults.{IsDamage}
use Rattle.image_rules.specs.declared.fault.CheckFault.TheVariants.{Damaged}
use Rattle.mount.specs.Kept.{kept_image, shown_by}
use Rattle.mount.specs.KeptLaws.{length-kept_image}
use Rattle.mount.proofs.Outcomes.{IfOk-more}
use Rattle.mount.proofs.loading.load_checked.Goals as goal

pub returns-in-Ok-clause-groups : goal.returns-in-Ok-clause-groups
returns-in-Ok-clause-groups c =
    let a = c.args in
    let image : List Sector = kept_image a.kept.now (anchor_of a.g.now) in
    let sound : AreGroupsSound a.g.now image = subst (AreGroupsSound a.g.now) (c.new-view.ensures.shown ∙ ap (kept_image a.kept.now) c.sectors_of.ensures) (c.in-Ok.ensures.sound refl) in
    let one = c.sound_images_are_encoded.ensures a.g.now image c.requires.shape sound (omega (arith, length-kept_image a.kept.now (anchor_of a.g.now))) in
    let is : IsEncoding a.g.now (rows_of a.g.now image) one.0 image = record { can = one.1; same = one.2 } in
    IfOk-more c.load_all.result (c.load_all.ensures.groups (rows_of a.g.now image) one.0 is)
    (λ states all. (rows_of a.g.now image, one.0, image, all, one.1, c.sound_tables_are_well_formed.ensures.no_opens a.g.now image))

pub returns-in-Err-Damaged-clause-no_damage : goal.returns-in-Err-Damaged-clause-no_damage
returns-in-Err-Damaged-clause-no_damage c t layouts is =
    let a = c.args in
    let image : List Sector = kept_image a.kept.now (anchor_of a.g.now) in
    let sound : AreGroupsSound a.g.now image = subst (AreGroupsSound a.g.now) is.same (c.encoded_images_are_sound.ensures.sound a.g.now t layouts image is.can) in
    let shown = c.new-view.ensures.shown ∙ ap (kept_image a.kept.now) c.sectors_of.ensures in
    let damage : IsDamage a.g.now image (Damaged c.in-Err-Damaged.rule c.in-Err-Damaged.sector) =
    subst (λ (l : List Sector). IsDamage a.g.now l (Damaged c.in-Err-Damaged.rule c.in-Err-Damaged.sector)) shown
    (subst (IsDamage a.g.now (shown_by c.new-view.result)) c.in-Err-Damaged.field-0-is (c.in-Err-Damaged.ensures.damaged refl)) in
    absurd (c.one_first_damage.ensures.none a.g.now image damage.0 c.in-Err-Damaged.sector sound damage.2)
