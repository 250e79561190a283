use Rattle.std.proofs.Common.{◌≡◌, ◌≤◌, ◌-◌, ℕ, List, length, sym, ◌∙◌, ap, subst, arith}
use Rattle.std.specs.Prelude.{min, vec_capacity, vec_len}
use Rattle.std.specs.FinMap as finmap
use Rattle.inode_cache.specs.Caches.{Cache, dirty}
use Rattle.group_ops.specs.Buffers.{Buffers, BuffersAscend}
use Rattle.group_ops.specs.Changes.{changed_state, with_chunk, with_prior, with_prior_buffer, with_room}
use Rattle.group_ops.specs.Staging.{ChangeValue}
use Rattle.group_ops.specs.Values.{StateValue}
use Rattle.group_ops.proofs.Applying.{chunk_long, chunk_whole, prior_ascends, prior_long, prior_whole}
use Rattle.group_ops.proofs.Incores.{Laws}
use Rattle.group_ops.proofs.Leading.{changed_ascend, changed_parts, lead_on, own_right, own_small, prior_fits}
use Rattle.group_ops.proofs.Setting.{AreWhole}
use Rattle.group_ops.proofs.state.GroupState.make_change.Goals as goal

pub put_prior-requires-clause-fits : goal.put_prior-requires-clause-fits
put_prior-requires-clause-fits c =
    let laws : Laws = record { cores = c.encoded_places.ensures.core; forks = c.encoded_places.ensures.fork; read = c.encoded_forks_are_read.ensures; places = c.places_have_their_metadata.ensures.place } in
    let w = c.requires.leads in
    let own = lead_on c.args.self.now _ c.args.change _ w.0 w.1 w.2 w.3 c.self.view_is c.change.view_is w.4 in
    prior_fits laws _ _ w.0 w.1 w.2 w.3 c.self.invariant.shape c.self.invariant.inside own

pub add_any-requires-clause-ascend : goal.add_any-requires-clause-ascend
add_any-requires-clause-ascend c =
    subst BuffersAscend (sym c.put_prior.ensures.buffers)
    (prior_ascends c.self.inside.cache.inodes c.self.inside.chunks.items c.change.inside.delta.prior c.self.invariant.ascends)

pub add_any-requires-clause-room : goal.add_any-requires-clause-room
add_any-requires-clause-room c =
    let room = subst (λ (v : StateValue). 1 ≤ v.room) (sym c.self.view_is) c.requires.room in
    let long : length c.put_prior.new.chunks.items ≡ length c.self.inside.chunks.items =
    ap (λ (l : List Buffers). length l) c.put_prior.ensures.buffers ∙ prior_long c.self.inside.cache.inodes c.self.inside.chunks.items c.change.inside.delta.prior in
    omega (arith, room, long, c.put_prior.ensures.capacity)

pub put_dirty-requires-clause-small : goal.put_dirty-requires-clause-small
put_dirty-requires-clause-small c =
    let laws : Laws = record { cores = c.encoded_places.ensures.core; forks = c.encoded_places.ensures.fork; read = c.encoded_forks_are_read.ensures; places = c.places_have_their_metadata.ensures.place } in
    let w = c.requires.leads in
    let own = lead_on c.args.self.now _ c.args.change _ w.0 w.1 w.2 w.3 c.self.view_is c.change.view_is w.4 in
    own_small laws _ _ w.0 w.1 w.2 w.3 c.self.invariant.shape c.self.invariant.inside own

pub put_dirty-requires-clause-inode : goal.put_dirty-requires-clause-inode
put_dirty-requires-clause-inode c =
    let laws : Laws = record { cores = c.encoded_places.ensures.core; forks = c.encoded_places.ensures.fork; read = c.encoded_forks_are_read.ensures; places = c.places_have_their_metadata.ensures.place } in
    let w = c.requires.leads in
    let own = lead_on c.args.self.now _ c.args.change _ w.0 w.1 w.2 w.3 c.self.view_is c.change.view_is w.4 in
    own_right laws _ _ w.0 w.1 w.2 w.3 c.self.invariant.shape c.self.invariant.inside own

pub put_dirty-requires-clause-room : goal.put_dirty-requires-clause-room
put_dirty-requires-clause-room c =
    let room = subst (λ (v : StateValue). 1 ≤ v.room) (sym c.self.view_is) c.requires.room in
    let spare = ap (λ (v : Cache). v.spare) c.put_prior.ensures.in_core in
    omega (arith, room, spare)

pub invariant_of-self : goal.invariant_of-self
invariant_of-self c =
    let w = c.requires.leads in
    let own = lead_on c.args.self.now _ c.args.change _ w.0 w.1 w.2 w.3 c.self.view_is c.change.view_is w.4 in
    let d = c.change.inside.delta in
    let before : List Buffers = with_prior_buffer c.self.inside.cache.inodes c.self.inside.chunks.items d.prior in
    let buffers : c.add_any.new.chunks.items ≡ with_chunk before d.chunk =
    c.add_any.ensures.added ∙ ap (λ (l : List Buffers). with_chunk l d.chunk) c.put_prior.ensures.buffers in
    record {
      shape = c.self.invariant.shape;
      inside = c.self.invariant.inside;
      ascends = subst BuffersAscend (sym buffers) (changed_ascend _ _ w.0 w.1 w.2 w.3 own);
      whole =
          subst AreWhole (sym buffers)
          (chunk_whole before d.chunk c.add_any.ensures.whole (prior_whole c.self.inside.cache.inodes c.self.inside.chunks.items d.prior c.self.invariant.whole));
      own = ap (λ (v : Cache). v.group) c.put_dirty.ensures.put ∙ ap (λ (v : Cache). v.group) c.put_prior.ensures.in_core ∙ c.self.invariant.own;
      uuid = ap (λ (v : Cache). v.uuid) c.put_dirty.ensures.put ∙ ap (λ (v : Cache). v.uuid) c.put_prior.ensures.in_core ∙ c.self.invariant.uuid;
    }

pub returns-clause-changed : goal.returns-clause-changed
returns-clause-changed c =
    let d = c.change.inside.delta in
    let room : ℕ = min c.put_dirty.new.cache.spare (vec_capacity c.add_any.new.chunks - vec_len c.add_any.new.chunks) in
    let buffers : c.add_any.new.chunks.items ≡ with_chunk (with_prior_buffer c.self.inside.cache.inodes c.self.inside.chunks.items d.prior) d.chunk =
    c.add_any.ensures.added ∙ ap (λ (l : List Buffers). with_chunk l d.chunk) c.put_prior.ensures.buffers in
    let in_core : c.put_dirty.new.cache.inodes ≡ finmap.insert (with_prior c.self.inside.cache.inodes d.prior) d.agino (dirty d.inode) =
    ap (λ (v : Cache). v.inodes) c.put_dirty.ensures.put ∙ ap (λ (v : Cache). finmap.insert v.inodes d.agino (dirty d.inode)) c.put_prior.ensures.in_core in
    changed_parts _ d c.heads_with-self-inside.result c.apply.new.self c.add_any.new.chunks.items c.put_dirty.new.cache.inodes room c.heads_with-self-inside.ensures c.apply.ensures buffers in_core
    ∙ ap (λ (v : StateValue). with_room (changed_state v d) room) c.self.view_is
    ∙ ap (λ (x : ChangeValue). with_room (changed_state c.args.self.now x.delta) room) c.change.view_is

pub returns-clause-room : goal.returns-clause-room
returns-clause-room c =
    let d = c.change.inside.delta in
    let room = ap (λ (v : StateValue). v.room) c.self.view_is in
    let spare = ap (λ (v : Cache). v.spare) c.put_prior.ensures.in_core in
    let long : length c.put_prior.new.chunks.items ≡ length c.self.inside.chunks.items =
    ap (λ (l : List Buffers). length l) c.put_prior.ensures.buffers ∙ prior_long c.self.inside.cache.inodes c.self.inside.chunks.items d.prior in
    let more : length c.add_any.new.chunks.items ≡ length (with_chunk c.put_prior.new.chunks.items d.chunk) = ap (λ (l : List Buffers). length l) c.add_any.ensures.added in
    omega (arith, room, spare, long, more, chunk_long c.put_prior.new.chunks.items d.chunk, c.put_dirty.ensures.spare, c.put_prior.ensures.capacity, c.add_any.ensures.capacity)
