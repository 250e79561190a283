use Rattle.std.proofs.Common.{◌≡◌, ◌+◌, ℕ, length, map, ap, sym, subst, arith, ◌∙◌}
use Rattle.std.specs.Prelude.{is_some}
use Rattle.std.specs.List.{range_with_len}
use Rattle.group_ops.specs.Staging.{IsStagingOf, PushesPart}
use Rattle.group_ops.specs.Values.{StateValue}
use Rattle.group_ops.proofs.Parted.{bitmap_pushes}
use Rattle.group_ops.proofs.Pushing.{part_skipped, part_taken, taken_long}
use Rattle.group_ops.proofs.state.GroupState.push_bitmap.Goals as goal

pub push_sectors-requires-clause-place : goal.push_sectors-requires-clause-place
push_sectors-requires-clause-place c =
    let blocks = ap (λ g. g.blocks) c.requires.own.geometry in
    omega (arith, blocks, c.hold.ensures.shape.blocks.0, c.write_map.auto.into)

pub push_sectors-requires-clause-room : goal.push_sectors-requires-clause-room
push_sectors-requires-clause-room c =
    let d = c.args.delta.now in
    omega (
      arith,
      c.requires.room,
      c.write_map.auto.into,
      taken_long (is_some d.space.free) (map (λ (k : ℕ). 8 + k) (range_with_len 0 4)) (sym c.has_blocks.ensures ∙ c.if-not-has_blocks.false),
    )

pub returns-then-not-has_blocks : goal.returns-then-not-has_blocks
returns-then-not-has_blocks c =
    let d = c.args.delta.now in
    part_skipped c.args.self.now d (is_some d.space.free) (map (λ (k : ℕ). 8 + k) (range_with_len 0 4)) c.args.staging.now (sym c.has_blocks.ensures ∙ c.if-not-has_blocks.true) c.requires.own

pub returns : goal.returns
returns c =
    let d = c.args.delta.now in
    let own = subst (λ (v : StateValue). IsStagingOf v c.args.staging.now) (sym c.self.view_is) c.requires.own in
    let long : length c.write_map.new.into ≡ 4 = omega (arith, c.write_map.auto.into) in
    let same : length c.write_changed_map.new.into ≡ 4 = omega (arith, c.write_changed_map.auto.into) in
    part_taken c.args.self.now d (is_some d.space.free) (map (λ (k : ℕ). 8 + k) (range_with_len 0 4)) c.args.staging.now c.push_sectors.new.staging (sym c.has_blocks.ensures ∙ c.if-not-has_blocks.false)
    (subst (λ (v : StateValue). PushesPart v d (map (λ (k : ℕ). 8 + k) (range_with_len 0 4)) c.args.staging.now c.push_sectors.new.staging) c.self.view_is
    (bitmap_pushes c.candidates_give_the_images.ensures.few c.places_have_their_metadata.ensures.bitmap _ d c.args.staging.now c.push_sectors.new.staging c.write_map.new.into c.write_changed_map.new.into
    c.self.invariant.inside own long same c.push_sectors.ensures c.sectors_hold_parts.ensures c.sectors_hold_parts-2.ensures c.write_map.ensures c.write_changed_map.ensures))
