use Rattle.std.proofs.Common.{◌≡◌, ◌<◌, sym, subst}
use Rattle.geometry.specs.declared.shape.Geometry.{Geometry}
use Rattle.geometry.specs.Places.{group_sectors}
use Rattle.sound_image.specs.Encoding.{inode_sector}
use Rattle.group_ops.proofs.Parts.{had_some, inode_after, inode_before, place_after}
use Rattle.group_ops.proofs.Pushing.{part_one}
use Rattle.group_ops.proofs.state.GroupState.push_inode.Goals as goal

pub sector_at-requires : goal.sector_at-requires
sector_at-requires c =
    let w = c.requires.leads in (
      w.0,
      w.1,
      w.4.before,
      had_some c.args.self.now c.args.delta.now w.0 w.1 w.2 w.3 c.args.agino c.args.after.now.bytes c.hold.ensures.inside w.4 c.requires.after c.requires.no_chunk,
    )

pub push-requires-clause-place : goal.push-requires-clause-place
push-requires-clause-place c =
    let w = c.requires.leads in
    let s = c.args.self.now in
    let place =
    place_after c.places_have_their_metadata.ensures.place s c.args.delta.now w.2 w.3 c.args.agino (λ inode. c.args.after.now.bytes ≡ inode_sector s.geometry w.3 s.group c.args.agino inode)
    c.hold.ensures.shape c.hold.ensures.inside w.4.after (c.requires.after w.0 w.1 w.2 w.3 w.4) in
    subst (λ (g : Geometry). c.args.agino < group_sectors g) (sym c.requires.own.geometry) place.1

pub returns : goal.returns
returns c =
    let laws = c.places_have_their_metadata.ensures in
    let s = c.args.self.now in
    let d = c.args.delta.now in
    part_one c.candidates_give_the_images.ensures.few s d _ c.args.staging.now c.push.new.self c.requires.own c.push.ensures (λ t layouts u others leads. record {
      before =
          inode_before laws.inode laws.place s d t layouts u others c.args.agino c.sector_at.result.bytes c.args.after.now.bytes c.hold.ensures.shape c.hold.ensures.inside leads c.requires.after
          c.requires.no_chunk (λ inode there. c.sector_at.ensures t layouts inode leads.before there);
      after = inode_after laws.inode laws.place s d t layouts u others c.args.agino c.args.after.now.bytes c.hold.ensures.shape c.hold.ensures.inside leads c.requires.after;
    })
