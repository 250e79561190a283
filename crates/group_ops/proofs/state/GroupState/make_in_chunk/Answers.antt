use Rattle.std.proofs.Common.{◌≡◌, ◌<◌, ◌%◌, Option, None, length, refl, ap, sym, subst, ◌∙◌, arith}
use Rattle.std.specs.Prelude.{IsSomeAnd, is_some}
use Rattle.life_limits.specs.declared.TheConstants.{GROUP_NUMBERS}
use Rattle.life_table.specs.declared.table.Inode.{Inode}
use Rattle.life_table.specs.Table.{Group, group_at}
use Rattle.sound_image.specs.Encoding.{is_unlinked}
use Rattle.encoded_changes.specs.Changes.{unused_inode}
use Rattle.group_space.specs.Space.{Changed, IsSpaceOf, Space}
use Rattle.group_ops.specs.Creating.{made_inode}
use Rattle.group_ops.proofs.Making.{CreateLaws, in_chunk_leads, made_reply, moved_space, next_in_chunk, unused_there}
use Rattle.group_ops.proofs.Outcomes.{IfOk-weaker}
use Rattle.group_ops.proofs.state.GroupState.make_in_chunk.Goals as goal

pub with_number_taken-requires : goal.with_number_taken-requires
with_number_taken-requires c =
    let s = c.args.self.now in
    let w = c.requires.lowest in
    let laws : CreateLaws = record {
      encodes = c.encodings_follow_the_table.ensures.made;
      in_group = c.created_keys_are_free.ensures.group;
      made_unused = c.created_keys_are_free.ensures.inode;
      in_chunk = c.creates_touch_their_places.ensures.in_chunk;
      in_new_chunk = c.creates_touch_their_places.ensures.in_new_chunk;
      own_group = c.groups_change_alone.ensures.own;
      only_group = c.groups_change_alone.ensures.only;
      stay = c.tables_stay_well_formed.ensures.call;
    } in
    let low : s.group < length w.0.groups = omega (arith, c.hold.ensures.inside, w.2.groups) in
    let found = unused_there laws w.0 s.group c.args.key c.agino_of.result w.2.table low w.3 c.agino_of.ensures.own in
    record {
      blocks = s.geometry.blocks;
      chunks = group_at w.0 s.group;
      space_of = subst (λ (x : Space). IsSpaceOf s.geometry.blocks (group_at w.0 s.group) x) (sym c.space.ensures) w.2.space;
      unused = subst (λ (o : Option Inode). IsSomeAnd o (λ inode. inode.row ≡ None)) (sym found) refl;
    }

pub made-delta-requires : goal.made-delta-requires
made-delta-requires c =
    let s = c.args.self.now in
    let w = c.requires.lowest in
    let laws : CreateLaws = record {
      encodes = c.encodings_follow_the_table.ensures.made;
      in_group = c.created_keys_are_free.ensures.group;
      made_unused = c.created_keys_are_free.ensures.inode;
      in_chunk = c.creates_touch_their_places.ensures.in_chunk;
      in_new_chunk = c.creates_touch_their_places.ensures.in_new_chunk;
      own_group = c.groups_change_alone.ensures.own;
      only_group = c.groups_change_alone.ensures.only;
      stay = c.tables_stay_well_formed.ensures.call;
    } in
    let low : s.group < length w.0.groups = omega (arith, c.hold.ensures.inside, w.2.groups) in
    let found = unused_there laws w.0 s.group c.args.key (c.args.key.number % GROUP_NUMBERS) w.2.table low w.3 refl in
    record { elsewhere = (w.0, w.1, w.2, ap is_unlinked found) }

pub with_commit-requires : goal.with_commit-requires
with_commit-requires c =
    let s = c.args.self.now in
    let w = c.requires.lowest in
    let key = c.args.key in
    let d = c.made-delta.result in
    let laws : CreateLaws = record {
      encodes = c.encodings_follow_the_table.ensures.made;
      in_group = c.created_keys_are_free.ensures.group;
      made_unused = c.created_keys_are_free.ensures.inode;
      in_chunk = c.creates_touch_their_places.ensures.in_chunk;
      in_new_chunk = c.creates_touch_their_places.ensures.in_new_chunk;
      own_group = c.groups_change_alone.ensures.own;
      only_group = c.groups_change_alone.ensures.only;
      stay = c.tables_stay_well_formed.ensures.call;
    } in
    let chunks : Group = group_at w.0 s.group in
    let low : s.group < length w.0.groups = omega (arith, c.hold.ensures.inside, w.2.groups) in
    let found = unused_there laws w.0 s.group key (key.number % GROUP_NUMBERS) w.2.table low w.3 refl in
    let taken = unused_there laws w.0 s.group key c.agino_of.result w.2.table low w.3 c.agino_of.ensures.own in
    let space_of = subst (λ (x : Space). IsSpaceOf s.geometry.blocks chunks x) (sym c.space.ensures) w.2.space in
    let space = moved_space s.geometry.blocks chunks c.agino_of.result d.agino (made_inode key.generation c.args.links) c.space.result.now s.space c.in_ok-space.space d.space
    (c.agino_of.ensures.own ∙ sym c.made-delta.ensures.agino) c.space.ensures (sym c.made-delta.ensures.space)
    (c.in_ok-space.ensures.space s.geometry.blocks chunks (unused_inode key) (made_inode key.generation c.args.links) space_of taken refl refl) in
    let leads = in_chunk_leads laws s d w.0 w.1 key c.args.links c.hold.ensures.shape c.hold.ensures.inside w.2 w.3 c.requires.few c.made-delta.ensures.agino
    (c.made-delta.ensures.makes w.0 w.1 w.2 (ap is_unlinked found)) space
    (ap (λ (x : Changed). is_some x.records) c.made-delta.ensures.space ∙ c.in_ok-space.ensures.anew.0)
    (ap (λ (x : Changed). x.free) c.made-delta.ensures.space ∙ c.in_ok-space.ensures.anew.1) c.made-delta.ensures.chunk in
    (w.0, w.1, _, _, leads)

pub returns : goal.returns
returns c t layouts is lowest =
    let s = c.args.self.now in
    let key = c.args.key in
    let d = c.made-delta.result in
    let laws : CreateLaws = record {
      encodes = c.encodings_follow_the_table.ensures.made;
      in_group = c.created_keys_are_free.ensures.group;
      made_unused = c.created_keys_are_free.ensures.inode;
      in_chunk = c.creates_touch_their_places.ensures.in_chunk;
      in_new_chunk = c.creates_touch_their_places.ensures.in_new_chunk;
      own_group = c.groups_change_alone.ensures.own;
      only_group = c.groups_change_alone.ensures.only;
      stay = c.tables_stay_well_formed.ensures.call;
    } in
    let chunks : Group = group_at t s.group in
    let low : s.group < length t.groups = omega (arith, c.hold.ensures.inside, is.groups) in
    let found = unused_there laws t s.group key (key.number % GROUP_NUMBERS) is.table low lowest refl in
    let taken = unused_there laws t s.group key c.agino_of.result is.table low lowest c.agino_of.ensures.own in
    let space_of = subst (λ (x : Space). IsSpaceOf s.geometry.blocks chunks x) (sym c.space.ensures) is.space in
    let space = moved_space s.geometry.blocks chunks c.agino_of.result d.agino (made_inode key.generation c.args.links) c.space.result.now s.space c.in_ok-space.space d.space
    (c.agino_of.ensures.own ∙ sym c.made-delta.ensures.agino) c.space.ensures (sym c.made-delta.ensures.space)
    (c.in_ok-space.ensures.space s.geometry.blocks chunks (unused_inode key) (made_inode key.generation c.args.links) space_of taken refl refl) in
    let leads = in_chunk_leads laws s d t layouts key c.args.links c.hold.ensures.shape c.hold.ensures.inside is lowest c.requires.few c.made-delta.ensures.agino
    (c.made-delta.ensures.makes t layouts is (ap is_unlinked found)) space
    (ap (λ (x : Changed). is_some x.records) c.made-delta.ensures.space ∙ c.in_ok-space.ensures.anew.0)
    (ap (λ (x : Changed). x.free) c.made-delta.ensures.space ∙ c.in_ok-space.ensures.anew.1) c.made-delta.ensures.chunk in
    IfOk-weaker c.with_commit.result (c.with_commit.ensures t layouts _ _ leads)
    (λ change tells. record { replies = made_reply t s.group c.args.links key (next_in_chunk t s.group key low lowest); tells = tells })
