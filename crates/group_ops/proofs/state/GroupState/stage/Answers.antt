use Rattle.std.proofs.Common.{◌≡◌, ◌≤◌, ◌++◌, List, length, ap, sym, subst, arith, ◌∙◌}
use Rattle.life_limits.specs.declared.TheConstants.{MAX_IMAGES}
use Rattle.log_record.specs.declared.image.Image.{Image}
use Rattle.life_table.specs.Table.{group_at}
use Rattle.encoded_changes.specs.Carry.{AreImagesOf}
use Rattle.change_images.specs.Candidates.{changed_images}
use Rattle.group_ops.specs.Staging.{PushesPart, bitmap_touched, header_touched, inodes_touched, page_touched, touched}
use Rattle.group_ops.proofs.Pushing.{part_both, touched_long}
use Rattle.group_ops.proofs.state.GroupState.stage.Goals as goal

pub push_header-requires-clause-room : goal.push_header-requires-clause-room
push_header-requires-clause-room c =
    let page = c.args.self.now.page in
    omega (arith, c.touched_count.ensures page, touched_long page c.args.delta.now, c.in_ok-staging.ensures.room)

pub push_bitmap-requires-clause-room : goal.push_bitmap-requires-clause-room
push_bitmap-requires-clause-room c =
    let page = c.args.self.now.page in
    omega (arith, c.touched_count.ensures page, touched_long page c.args.delta.now, c.in_ok-staging.ensures.room, c.push_header.ensures.room)

pub push_page-requires-clause-room : goal.push_page-requires-clause-room
push_page-requires-clause-room c =
    let page = c.args.self.now.page in
    omega (arith, c.touched_count.ensures page, touched_long page c.args.delta.now, c.in_ok-staging.ensures.room, c.push_header.ensures.room, c.push_bitmap.ensures.room)

pub push_inodes-requires-clause-room : goal.push_inodes-requires-clause-room
push_inodes-requires-clause-room c =
    let page = c.args.self.now.page in
    omega (arith, c.touched_count.ensures page, touched_long page c.args.delta.now, c.in_ok-staging.ensures.room, c.push_header.ensures.room, c.push_bitmap.ensures.room, c.push_page.ensures.room)

pub returns : goal.returns
returns c t layouts u others leads =
    let s = c.args.self.now in
    let d = c.args.delta.now in
    let law = c.candidates_give_the_images.ensures in
    let begun = c.in_ok-staging.ensures.begun in
    let first : PushesPart s d (header_touched d) c.in_ok-staging.staging c.push_header.new.staging = c.push_header.ensures in
    let rest =
    part_both law.joined s d (bitmap_touched d) (page_touched s.page d ++ inodes_touched d d.chunk) c.push_header.new.staging c.push_bitmap.new.staging c.push_inodes.new.staging c.push_bitmap.ensures
    (part_both law.joined s d (page_touched s.page d) (inodes_touched d d.chunk) c.push_bitmap.new.staging c.push_page.new.staging c.push_inodes.new.staging c.push_page.ensures c.push_inodes.ensures) in
    let whole =
    part_both law.joined s d (header_touched d) (bitmap_touched d ++ (page_touched s.page d ++ inodes_touched d d.chunk)) c.in_ok-staging.staging c.push_header.new.staging c.push_inodes.new.staging first
    rest in
    let p = whole.pushes t layouts u others leads in
    let images : c.finish.result.images ≡ changed_images s.geometry s.group p.candidates =
    c.finish.ensures.images ∙ p.images ∙ ap (λ (l : List Image). l ++ changed_images s.geometry s.group p.candidates) begun.2 in
    let right = law.images s.geometry s.group layouts others (group_at t s.group) (group_at u s.group) (touched s.page d) p.candidates leads.enough p.at p.each in
    record {
      group = c.finish.ensures.group ∙ whole.own.group;
      images = subst (AreImagesOf s.geometry s.group layouts (group_at t s.group) others (group_at u s.group)) (sym images) right.0;
      few = subst (λ (l : List Image). length l ≤ MAX_IMAGES) (sym images) right.1;
    }
