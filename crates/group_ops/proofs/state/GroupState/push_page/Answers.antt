use Rattle.std.proofs.Common.{◌≡◌, ◌*◌, length, ap, sym, subst, arith, ◌∙◌}
use Rattle.std.specs.Prelude.{is_some}
use Rattle.std.specs.List.{range_with_len}
use Rattle.group_ops.specs.Represents.{IsGroupOf}
use Rattle.group_ops.specs.Staging.{IsStagingOf, PushesPart}
use Rattle.group_ops.specs.Values.{StateValue}
use Rattle.group_ops.proofs.Parted.{page_pushes}
use Rattle.group_ops.proofs.Parts.{page_low}
use Rattle.group_ops.proofs.Pushing.{part_skipped, part_taken, taken_long}
use Rattle.group_ops.proofs.state.GroupState.push_page.Goals as goal

pub write_page-requires-clause-low : goal.write_page-requires-clause-low
write_page-requires-clause-low c =
    let w = c.requires.leads in
    let is = subst (λ (v : StateValue). IsGroupOf v w.0 w.1) (sym c.self.view_is) w.4.before in
    omega (arith, (page_low _ w.0 w.1 c.self.invariant.inside is).1, is.page)

pub write_changed_page-requires-clause-low : goal.write_changed_page-requires-clause-low
write_changed_page-requires-clause-low c =
    let w = c.requires.leads in
    let is = subst (λ (v : StateValue). IsGroupOf v w.0 w.1) (sym c.self.view_is) w.4.before in
    omega (arith, (page_low _ w.0 w.1 c.self.invariant.inside is).1, is.page)

pub push_sectors-requires-clause-place : goal.push_sectors-requires-clause-place
push_sectors-requires-clause-place c =
    let w = c.requires.leads in
    let is = subst (λ (v : StateValue). IsGroupOf v w.0 w.1) (sym c.self.view_is) w.4.before in
    let blocks = ap (λ g. g.blocks) c.requires.own.geometry in
    omega (arith, blocks, c.hold.ensures.shape.blocks.0, c.write_page.auto.page, (page_low _ w.0 w.1 c.self.invariant.inside is).1, is.page)

pub push_sectors-requires-clause-room : goal.push_sectors-requires-clause-room
push_sectors-requires-clause-room c =
    let d = c.args.delta.now in
    omega (
      arith,
      c.requires.room,
      c.write_page.auto.page,
      taken_long (is_some d.space.records) (range_with_len (8 * c.args.self.now.page) 8) (sym c.has_records.ensures ∙ c.if-not-has_records.false),
    )

pub returns-then-not-has_records : goal.returns-then-not-has_records
returns-then-not-has_records c =
    let d = c.args.delta.now in
    part_skipped c.args.self.now d (is_some d.space.records) (range_with_len (8 * c.args.self.now.page) 8) c.args.staging.now (sym c.has_records.ensures ∙ c.if-not-has_records.true) c.requires.own

pub returns : goal.returns
returns c =
    let d = c.args.delta.now in
    let own = subst (λ (v : StateValue). IsStagingOf v c.args.staging.now) (sym c.self.view_is) c.requires.own in
    let long : length c.write_page.new.page ≡ 8 = omega (arith, c.write_page.auto.page) in
    let same : length c.write_changed_page.new.page ≡ 8 = omega (arith, c.write_changed_page.auto.page) in
    part_taken c.args.self.now d (is_some d.space.records) (range_with_len (8 * c.args.self.now.page) 8) c.args.staging.now c.push_sectors.new.staging
    (sym c.has_records.ensures ∙ c.if-not-has_records.false)
    (subst (λ (v : StateValue). PushesPart v d (range_with_len (8 * v.page) 8) c.args.staging.now c.push_sectors.new.staging) c.self.view_is
    (page_pushes c.candidates_give_the_images.ensures.few c.places_have_their_metadata.ensures.page _ d c.args.staging.now c.push_sectors.new.staging c.write_page.new.page c.write_changed_page.new.page
    c.self.invariant.inside own long same c.push_sectors.ensures c.sectors_hold_parts.ensures c.sectors_hold_parts-2.ensures c.write_page.ensures c.write_changed_page.ensures))
