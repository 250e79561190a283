use Rattle.std.proofs.Common.{◌<◌, ◌*◌, ◌%◌, ℕ, length, refl, ap, sym, subst, ◌∙◌, arith}
use Rattle.std.specs.Prelude.{is_some}
use Rattle.life_limits.specs.declared.TheConstants.{BLOCK_SECTORS, GROUP_NUMBERS}
use Rattle.life_table.specs.Space.{chunk_place, insert_chunk, new_chunk}
use Rattle.life_table.specs.Table.{Group, group_at}
use Rattle.group_space.specs.Space.{Changed, IsSpaceOf, Space}
use Rattle.group_ops.specs.Creating.{made_inode}
use Rattle.group_ops.proofs.Making.{CreateLaws, first_number, in_new_chunk_leads, made_reply, moved_space, new_spot, next_in_new_chunk, not_listed}
use Rattle.group_ops.proofs.Outcomes.{IfOk-weaker}
use Rattle.group_ops.proofs.state.GroupState.make_in_new_chunk.Goals as goal

pub with_chunk_added-requires : goal.with_chunk_added-requires
with_chunk_added-requires c =
    let s = c.args.self.now in
    let w = c.requires.place in
    record {
      blocks = s.geometry.blocks;
      chunks = group_at w.0 s.group;
      space_of = subst (λ (x : Space). IsSpaceOf s.geometry.blocks (group_at w.0 s.group) x) (sym c.space.ensures) w.2.space;
      few = c.hold.ensures.shape.blocks.1;
      place = ap (λ (n : ℕ). chunk_place n (group_at w.0 s.group)) (sym w.2.blocks) ∙ w.4;
    }

pub overflow_mul-block : goal.overflow_mul-block
overflow_mul-block c =
    let w = c.requires.place in
    let spot = new_spot c.chunks_have_the_lowest_place.ensures.place w.0 c.args.self.now.group c.args.block w.4 in
    omega (arith, spot.fits, w.2.table.most)

pub unused_chunk-requires-clause-aligned : goal.unused_chunk-requires-clause-aligned
unused_chunk-requires-clause-aligned c =
    let w = c.requires.place in
    let spot = new_spot c.chunks_have_the_lowest_place.ensures.place w.0 c.args.self.now.group c.args.block w.4 in
    omega (arith, spot.aligned)

pub unused_chunk-requires-clause-low : goal.unused_chunk-requires-clause-low
unused_chunk-requires-clause-low c =
    let w = c.requires.place in
    let spot = new_spot c.chunks_have_the_lowest_place.ensures.place w.0 c.args.self.now.group c.args.block w.4 in
    omega (arith, spot.fits, w.2.table.most)

pub made-delta-requires : goal.made-delta-requires
made-delta-requires c =
    let s = c.args.self.now in
    let w = c.requires.place in
    let spot = new_spot c.chunks_have_the_lowest_place.ensures.place w.0 s.group c.args.block w.4 in
    let small : c.args.block < 16384 = omega (arith, spot.fits, w.2.table.most) in
    record { elsewhere = (w.0, w.1, w.2, not_listed w.0 s.group c.args.block (c.args.key.number % GROUP_NUMBERS) spot (first_number s.group c.args.block c.args.key small c.requires.first)) }

pub with_commit-requires : goal.with_commit-requires
with_commit-requires c =
    let s = c.args.self.now in
    let w = c.requires.place in
    let key = c.args.key in
    let block : ℕ = c.args.block in
    let d = c.made-delta.result in
    let laws : CreateLaws = record {
      encodes = c.encodings_follow_the_table.ensures.made;
      in_group = c.created_keys_are_free.ensures.group;
      made_unused = c.created_keys_are_free.ensures.inode;
      in_chunk = c.creates_touch_their_places.ensures.in_chunk;
      in_new_chunk = c.creates_touch_their_places.ensures.in_new_chunk;
      own_group = c.groups_change_alone.ensures.own;
      only_group = c.groups_change_alone.ensures.only;
      stay = c.tables_stay_well_formed.ensures.call;
    } in
    let spot = new_spot c.chunks_have_the_lowest_place.ensures.place w.0 s.group block w.4 in
    let small : block < 16384 = omega (arith, spot.fits, w.2.table.most) in
    let chunks : Group = group_at w.0 s.group in
    let space_of = subst (λ (x : Space). IsSpaceOf s.geometry.blocks chunks x) (sym c.space.ensures) w.2.space in
    let space = moved_space s.geometry.blocks (insert_chunk (new_chunk block) chunks) (BLOCK_SECTORS * block) (BLOCK_SECTORS * block) (made_inode key.generation c.args.links)
    c.space.result.now s.space c.in_ok-space.space d.space refl c.space.ensures (sym c.made-delta.ensures.space)
    (c.in_ok-space.ensures.space s.geometry.blocks chunks (made_inode key.generation c.args.links) space_of refl refl) in
    let leads = in_new_chunk_leads laws c.lowest_keys_by_number.ensures.added c.chunks_have_the_lowest_place.ensures.place s d w.0 w.1 key block c.args.links c.in_ok-chunk.chunk
    c.hold.ensures.shape c.hold.ensures.inside w.2 w.3 w.4 c.requires.first c.requires.few c.made-delta.ensures.agino
    (c.made-delta.ensures.makes w.0 w.1 w.2 (not_listed w.0 s.group block (key.number % GROUP_NUMBERS) spot (first_number s.group block key small c.requires.first))) space
    (ap (λ (x : Changed). is_some x.records) c.made-delta.ensures.space ∙ c.in_ok-space.ensures.anew.0)
    (ap (λ (x : Changed). is_some x.free) c.made-delta.ensures.space ∙ c.in_ok-space.ensures.anew.1) c.made-delta.ensures.chunk c.in_ok-chunk.ensures in
    (w.0, w.1, _, _, leads)

pub returns : goal.returns
returns c t layouts is lowest place =
    let s = c.args.self.now in
    let key = c.args.key in
    let block : ℕ = c.args.block in
    let d = c.made-delta.result in
    let laws : CreateLaws = record {
      encodes = c.encodings_follow_the_table.ensures.made;
      in_group = c.created_keys_are_free.ensures.group;
      made_unused = c.created_keys_are_free.ensures.inode;
      in_chunk = c.creates_touch_their_places.ensures.in_chunk;
      in_new_chunk = c.creates_touch_their_places.ensures.in_new_chunk;
      own_group = c.groups_change_alone.ensures.own;
      only_group = c.groups_change_alone.ensures.only;
      stay = c.tables_stay_well_formed.ensures.call;
    } in
    let spot = new_spot c.chunks_have_the_lowest_place.ensures.place t s.group block place in
    let small : block < 16384 = omega (arith, spot.fits, is.table.most) in
    let low : s.group < length t.groups = omega (arith, c.hold.ensures.inside, is.groups) in
    let chunks : Group = group_at t s.group in
    let space_of = subst (λ (x : Space). IsSpaceOf s.geometry.blocks chunks x) (sym c.space.ensures) is.space in
    let space = moved_space s.geometry.blocks (insert_chunk (new_chunk block) chunks) (BLOCK_SECTORS * block) (BLOCK_SECTORS * block) (made_inode key.generation c.args.links)
    c.space.result.now s.space c.in_ok-space.space d.space refl c.space.ensures (sym c.made-delta.ensures.space)
    (c.in_ok-space.ensures.space s.geometry.blocks chunks (made_inode key.generation c.args.links) space_of refl refl) in
    let leads = in_new_chunk_leads laws c.lowest_keys_by_number.ensures.added c.chunks_have_the_lowest_place.ensures.place s d t layouts key block c.args.links c.in_ok-chunk.chunk
    c.hold.ensures.shape c.hold.ensures.inside is lowest place c.requires.first c.requires.few c.made-delta.ensures.agino
    (c.made-delta.ensures.makes t layouts is (not_listed t s.group block (key.number % GROUP_NUMBERS) spot (first_number s.group block key small c.requires.first))) space
    (ap (λ (x : Changed). is_some x.records) c.made-delta.ensures.space ∙ c.in_ok-space.ensures.anew.0)
    (ap (λ (x : Changed). is_some x.free) c.made-delta.ensures.space ∙ c.in_ok-space.ensures.anew.1) c.made-delta.ensures.chunk c.in_ok-chunk.ensures in
    IfOk-weaker c.with_commit.result (c.with_commit.ensures t layouts _ _ leads)
    (λ change tells. record {
      replies = made_reply t s.group c.args.links key (next_in_new_chunk c.lowest_keys_by_number.ensures.added t s.group block key low lowest place c.requires.first);
      tells = tells;
    })
