use Rattle.std.proofs.Common.{◌≡◌, ◌||◌, [], ◌∷◌, ap, sym, subst, arith, ◌∙◌}
use Rattle.std.specs.Prelude.{is_some}
use Rattle.ag_header.specs.Headers.{header_encoding}
use Rattle.group_ops.specs.Staging.{IsStagingOf, PushesPart}
use Rattle.group_ops.specs.Values.{StateValue}
use Rattle.group_ops.proofs.Parted.{header_pushes}
use Rattle.group_ops.proofs.Parts.{agi_of}
use Rattle.group_ops.proofs.Pushing.{part_skipped, part_taken, taken_long}
use Rattle.group_ops.proofs.state.GroupState.push_header.Goals as goal

pub header-before-requires : goal.header-before-requires
header-before-requires c = let w = c.requires.leads in (w.0, w.1, w.4.before)

pub header-after-requires : goal.header-after-requires
header-after-requires c = let w = c.requires.leads in (w.0, w.1, w.4.before)

pub push_sectors-requires-clause-place : goal.push_sectors-requires-clause-place
push_sectors-requires-clause-place c =
    let blocks = ap (λ g. g.blocks) c.requires.own.geometry in
    omega (arith, blocks, c.hold.ensures.shape.blocks.0)

pub push_sectors-requires-clause-room : goal.push_sectors-requires-clause-room
push_sectors-requires-clause-room c =
    let d = c.args.delta.now in
    omega (arith, c.requires.room, taken_long (is_some d.head || is_some d.space.records) (2 ∷ []) (sym c.changes_header.ensures ∙ c.if-not-changes_header.false))

pub returns-then-not-changes_header : goal.returns-then-not-changes_header
returns-then-not-changes_header c =
    let d = c.args.delta.now in
    part_skipped c.args.self.now d (is_some d.head || is_some d.space.records) (2 ∷ []) c.args.staging.now (sym c.changes_header.ensures ∙ c.if-not-changes_header.true) c.requires.own

pub returns : goal.returns
returns c =
    let d = c.args.delta.now in
    let own = subst (λ (v : StateValue). IsStagingOf v c.args.staging.now) (sym c.self.view_is) c.requires.own in
    let before =
    subst (λ (v : StateValue). c.header-before.result.bytes ≡ header_encoding (agi_of v.group v.geometry.blocks c.counts.result.inodes v.page c.counts.result.free c.self.inside.heads v.geometry.uuid))
    (sym c.self.view_is) c.header-before.ensures in
    let after =
    subst
    (λ (v : StateValue). c.header-after.result.bytes ≡ header_encoding (agi_of v.group v.geometry.blocks c.changed_counts.result.inodes v.page c.changed_counts.result.free c.heads_with-heads.result v.geometry.uuid))
    (sym c.self.view_is) c.header-after.ensures in
    part_taken c.args.self.now d (is_some d.head || is_some d.space.records) (2 ∷ []) c.args.staging.now c.push_sectors.new.staging (sym c.changes_header.ensures ∙ c.if-not-changes_header.false)
    (subst (λ (v : StateValue). PushesPart v d (2 ∷ []) c.args.staging.now c.push_sectors.new.staging) c.self.view_is
    (header_pushes c.candidates_give_the_images.ensures.few c.places_have_their_metadata.ensures.header _ d c.args.staging.now c.push_sectors.new.staging c.header-before.result c.header-after.result
    c.counts.result.inodes c.counts.result.free c.changed_counts.result.inodes c.changed_counts.result.free c.heads_with-heads.result c.self.invariant.inside own c.push_sectors.ensures
    c.counts.ensures.inodes c.counts.ensures.free c.changed_counts.ensures.inodes c.changed_counts.ensures.free c.heads_with-heads.ensures before after))
