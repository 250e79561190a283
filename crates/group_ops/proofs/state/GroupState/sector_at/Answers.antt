use Rattle.std.proofs.Common.{◌≡◌, Some, None, sym, subst, ◌∙◌}
use Rattle.inode_cache.specs.Caches.{incore_at}
use Rattle.inode_cache.specs.Inodes.{incore_encoding}
use Rattle.life_table.specs.Table.{group_at, inode_in}
use Rattle.sound_image.specs.Encoding.{inode_sector}
use Rattle.group_ops.specs.Buffers.{buffer_in}
use Rattle.group_ops.specs.Represents.{IsGroupOf}
use Rattle.group_ops.specs.Telling.{HasInodeAt}
use Rattle.group_ops.specs.Values.{StateValue}
use Rattle.group_ops.proofs.Standing.{buffer_sector, core_sector, not_gone, number_small}
use Rattle.group_ops.proofs.Told.{none_is}
use Rattle.group_ops.proofs.state.GroupState.sector_at.Goals as goal

pub encoded-requires-clause-small : goal.encoded-requires-clause-small
encoded-requires-clause-small c =
    let own = subst (λ (v : StateValue). HasInodeAt v c.args.agino) (sym c.self.view_is) c.requires in
    number_small c.places_have_their_metadata.ensures.place _ c.args.agino c.self.invariant.shape c.self.invariant.inside own

pub returns-then-has : goal.returns-then-has
returns-then-has c t layouts inode is there =
    let own = subst (λ (v : StateValue). IsGroupOf v t layouts) (sym c.self.view_is) is in
    let here = subst (λ (v : StateValue). inode_in (group_at t v.group) c.args.agino ≡ Some inode) (sym c.self.view_is) there in
    let written = subst (λ (v : StateValue). c.encoded.result.bytes ≡ incore_encoding v.group v.geometry.uuid c.args.agino c.get.result.now) (sym c.self.view_is) c.encoded.ensures in
    subst (λ (v : StateValue). c.encoded.result.bytes ≡ inode_sector v.geometry layouts v.group c.args.agino inode) c.self.view_is
    (core_sector _ t layouts c.args.agino inode c.get.result.now c.encoded.result.bytes own here c.get.ensures.found written)

pub unreachable-requires : goal.unreachable-requires
unreachable-requires c =
    let gone : buffer_in c.self.inside.chunks.items c.args.agino ≡ None = cc (c.find_buffer.ensures, c.as_slice.ensures.value) in
    let own = subst (λ (v : StateValue). HasInodeAt v c.args.agino) (sym c.self.view_is) c.requires in
    not_gone _ c.args.agino own gone

pub returns : goal.returns
returns c t layouts inode is there =
    let at : buffer_in c.self.inside.chunks.items c.args.agino ≡ Some c.in-Some.sector = cc (c.find_buffer.ensures, c.as_slice.ensures.value) in
    let own = subst (λ (v : StateValue). IsGroupOf v t layouts) (sym c.self.view_is) is in
    let here = subst (λ (v : StateValue). inode_in (group_at t v.group) c.args.agino ≡ Some inode) (sym c.self.view_is) there in
    subst (λ (v : StateValue). c.in-Some.sector.bytes ≡ inode_sector v.geometry layouts v.group c.args.agino inode) c.self.view_is
    (buffer_sector _ t layouts c.args.agino inode c.in-Some.sector own here (none_is (incore_at c.self.inside.cache c.args.agino) (sym c.has.ensures ∙ c.if-has.false)) at)
