use Rattle.std.proofs.Common.{◌≡◌, ◌<◌, ◌+◌, ℕ, List, None, refl, ap, sym, subst, arith, ◌∙◌}
use Rattle.std.specs.List.{range_with_len}
use Rattle.std.proofs.lemmas.List.FromFn.{length-range_with_len}
use Rattle.geometry.specs.declared.shape.Geometry.{Geometry}
use Rattle.geometry.specs.Places.{group_sectors}
use Rattle.sound_image.specs.Encoding.{inode_sector}
use Rattle.group_ops.specs.Staging.{IsAfter, PushesPart}
use Rattle.group_ops.proofs.Parted.{added_candidate}
use Rattle.group_ops.proofs.Parts.{place_after}
use Rattle.group_ops.proofs.Pushing.{part_more, part_none}
use Rattle.group_ops.proofs.state.GroupState.push_chunk.Goals as goal

pub loop-index-init : goal.loop-index-init
loop-index-init c = part_none c.args.self.now c.args.delta.now c.args.staging.now c.requires.own

pub loop-index-preserved : goal.loop-index-preserved
loop-index-preserved c =
    let s = c.args.self.now in
    let d = c.args.delta.now in
    let laws = c.places_have_their_metadata.ensures in
    part_more c.candidates_give_the_images.ensures.joined c.candidates_give_the_images.ensures.few s d c.start-start.result c.loop-index.index
    (record { place = c.start-start.result + c.loop-index.index; before = None; after = c.added.result.bytes }) c.args.staging.now c.loop-index.staging c.push_new.new.self c.loop-index.invariant refl
    c.push_new.ensures (λ t layouts u others leads.
    added_candidate laws.inode laws.place s d t layouts u others c.args.chunk.now c.start-start.result c.loop-index.index c.added.result.bytes c.hold.ensures.shape c.hold.ensures.inside leads
    c.requires.chunk c.start-start.ensures.own c.start-start.ensures.aligned c.loop-index-test.true c.added.ensures)

pub push_new-requires-clause-place : goal.push_new-requires-clause-place
push_new-requires-clause-place c =
    let w = c.requires.leads in
    let s = c.args.self.now in
    let d = c.args.delta.now in
    let place : ℕ = c.start-start.result + c.loop-index.index in
    let here : IsAfter s d place c.added.result.bytes = subst (λ (n : ℕ). IsAfter s d (n + c.loop-index.index) c.added.result.bytes) (sym c.start-start.ensures.own) c.added.ensures in
    let at =
    place_after c.places_have_their_metadata.ensures.place s d w.2 w.3 place (λ inode. c.added.result.bytes ≡ inode_sector s.geometry w.3 s.group place inode) c.hold.ensures.shape c.hold.ensures.inside
    w.4.after (here w.0 w.1 w.2 w.3 w.4) in
    subst (λ (g : Geometry). place < group_sectors g) (sym c.loop-index.invariant.own.geometry) at.1

pub push_new-requires-clause-room : goal.push_new-requires-clause-room
push_new-requires-clause-room c =
    omega (arith, c.requires.room, c.loop-index.invariant.room, length-range_with_len c.start-start.result c.loop-index.index, c.loop-index-test.true)

pub returns : goal.returns
returns c =
    let whole : c.loop-index.index ≡ 64 = omega (arith, c.loop-index-test.false, c.loop-index.auto.index-end) in
    let places = ap (λ (n : ℕ). range_with_len c.start-start.result n) whole ∙ ap (λ (n : ℕ). range_with_len n 64) c.start-start.ensures.own in
    subst (λ (l : List ℕ). PushesPart c.args.self.now c.args.delta.now l c.args.staging.now c.loop-index.staging) places c.loop-index.invariant
