use Rattle.std.proofs.Common.{◌≡◌, ◌∙◌, List, OnOk, IfOk, IfErr, ap, subst}
use Rattle.geometry.specs.Places.{anchor_of}
use Rattle.life_bytes.specs.declared.sector.Sector.{Sector}
use Rattle.disk_model.specs.Disk.{as_read}
use Rattle.sound_image.specs.Damage.{AreGroupsSound}
use Rattle.log_image.specs.Log.{groups_part}
use Rattle.log_image.specs.Overlay.{overlaid}
use Rattle.image_rules.specs.Counted.{HasTables}
use Rattle.image_rules.specs.Faults.{IsDamage}
use Rattle.recovery.specs.Replay.{groups_found}
use Rattle.recovery.specs.declared.found.Found.{Found}
use Rattle.inspect.proofs.replayed.check_replayed.Goals as goal

pub returns-clause-sound : goal.returns-clause-sound
returns-clause-sound g c known =
    let d = g.D.Disk in
    let anchor = anchor_of c.args.g.now in
    let view = c.overlay-view.result in
    let shown : groups_part anchor (overlaid (as_read (d.cells view.disk.now)) view.found.now.images) ≡ groups_found anchor (as_read (d.cells c.args.disk.now)) c.args.found.now =
    c.overlays.ensures.front anchor (as_read (d.cells view.disk.now)) view.found.now.images
    ∙ ap (λ (f : Found). groups_found anchor (as_read (d.cells view.disk.now)) f) c.overlay-view.ensures.found
    ∙ ap (λ m. groups_found anchor (as_read (d.cells m.now)) c.args.found.now) c.overlay-view.ensures.disk in
    subst (λ (groups : List Sector). OnOk c.check_front.result (AreGroupsSound c.args.g.now groups)) shown (c.check_front.ensures.sound known)

pub returns-clause-counted : goal.returns-clause-counted
returns-clause-counted g c known =
    let d = g.D.Disk in
    let anchor = anchor_of c.args.g.now in
    let view = c.overlay-view.result in
    let shown : groups_part anchor (overlaid (as_read (d.cells view.disk.now)) view.found.now.images) ≡ groups_found anchor (as_read (d.cells c.args.disk.now)) c.args.found.now =
    c.overlays.ensures.front anchor (as_read (d.cells view.disk.now)) view.found.now.images
    ∙ ap (λ (f : Found). groups_found anchor (as_read (d.cells view.disk.now)) f) c.overlay-view.ensures.found
    ∙ ap (λ m. groups_found anchor (as_read (d.cells m.now)) c.args.found.now) c.overlay-view.ensures.disk in
    subst (λ (groups : List Sector). IfOk c.check_front.result (HasTables c.args.g.now groups)) shown (c.check_front.ensures.counted known)

pub returns-clause-damaged : goal.returns-clause-damaged
returns-clause-damaged g c known =
    let d = g.D.Disk in
    let anchor = anchor_of c.args.g.now in
    let view = c.overlay-view.result in
    let shown : groups_part anchor (overlaid (as_read (d.cells view.disk.now)) view.found.now.images) ≡ groups_found anchor (as_read (d.cells c.args.disk.now)) c.args.found.now =
    c.overlays.ensures.front anchor (as_read (d.cells view.disk.now)) view.found.now.images
    ∙ ap (λ (f : Found). groups_found anchor (as_read (d.cells view.disk.now)) f) c.overlay-view.ensures.found
    ∙ ap (λ m. groups_found anchor (as_read (d.cells m.now)) c.args.found.now) c.overlay-view.ensures.disk in
    subst (λ (groups : List Sector). IfErr c.check_front.result (IsDamage c.args.g.now groups)) shown (c.check_front.ensures.damaged known)
