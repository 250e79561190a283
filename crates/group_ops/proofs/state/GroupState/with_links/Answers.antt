use Rattle.std.proofs.Common.{◌≡◌, ◌<◌, ℕ, Bool, List, Some, None, Option, length, eqb, refl, ap, sym, subst, ◌∙◌, arith}
use Rattle.std.specs.Prelude.{is_none}
use Rattle.inode_cache.specs.declared.inode.Incore.{Incore}
use Rattle.inode_core.specs.declared.shape.Core.{Core}
use Rattle.life_table.specs.declared.types.Row.{Row}
use Rattle.life_table.specs.declared.table.Inode.{Inode}
use Rattle.life_table.specs.Space.{row_blocks, times}
use Rattle.life_table.specs.Table.{group_at, set_inode}
use Rattle.sound_image.specs.Encoding.{Layouts, core_for, is_unlinked_row}
use Rattle.group_space.specs.Space.{Changed, IsSpaceOf, changed_space}
use Rattle.group_ops.specs.declared.delta.Delta.{Delta}
use Rattle.group_ops.specs.Calls.{relisted}
use Rattle.group_ops.specs.Relinks.{next_of}
use Rattle.group_ops.specs.Represents.{incore_for}
use Rattle.group_ops.specs.Telling.{with_links}
use Rattle.group_ops.proofs.RowChanges.{leads, links_enough, relinked_core}
use Rattle.group_ops.proofs.Told.{can_encode}
use Rattle.group_ops.proofs.state.GroupState.with_links.Goals as goal

pub returns : goal.returns
returns c t layouts inode row has table =
    let a = c.args in
    let s = a.self.now in
    let copy = c.in_ok-core.field-0 in
    let relink = c.relink-relink.result in
    let new : Inode = with_links inode row a.links in
    let was : Bool = eqb row.links 0 in
    let unlinked : Bool = eqb a.links 0 in
    let others : Layouts = relisted layouts s.group a.agino was unlinked in
    let d : Delta = record {
      agino = a.agino;
      inode = record {
        core = record { live = copy.core.live; links = a.links; size = copy.core.size; blocks = copy.core.blocks; extents = copy.core.extents; generation = copy.core.generation; next = relink.next };
        blocks = copy.blocks;
      };
      head = relink.head;
      prior = relink.prior;
      space = c.none.result;
      chunk = None;
    } in
    let shape = c.hold.ensures.shape in
    let inside = c.hold.ensures.inside in
    let low : s.group < length t.groups = omega (arith, inside, has.group.groups) in
    let is : copy ≡ incore_for layouts s.group a.agino inode = c.in_ok-core.ensures t layouts inode has.group has.inode_there in
    let core : copy.core ≡ core_for inode.generation (Some row) (next_of layouts s.group a.agino) =
    ap (λ (i : Incore). i.core) is ∙ ap (λ (o : Option Row). core_for inode.generation o (next_of layouts s.group a.agino)) has.used in
    let blocks : copy.blocks ≡ row.blocks = ap (λ (i : Incore). i.blocks) is ∙ ap row_blocks has.used in
    let own : d.inode ≡ incore_for others s.group a.agino new =
    ap (λ (k : Core). let i : Incore = record { core = k; blocks = copy.blocks } in i)
    (relinked_core inode.generation row a.links (next_of layouts s.group a.agino) relink.next (next_of others s.group a.agino) copy.core core
    (c.relink-relink.ensures.next t layouts inode row has))
    ∙ ap (λ (b : List ℕ). let i : Incore = record { core = (incore_for others s.group a.agino new).core; blocks = b } in i) blocks in
    let relinks = c.relink-relink.ensures.pointers t layouts inode row has in
    let used : is_none new.row ≡ is_none inode.row = ap is_none (sym has.used) in
    let same_blocks : (block : ℕ) → times block (row_blocks new.row) ≡ times block (row_blocks inode.row) = λ block. ap (λ (o : Option Row). times block (row_blocks o)) (sym has.used) in
    let space : IsSpaceOf s.geometry.blocks (set_inode (group_at t s.group) a.agino new) (changed_space s.space c.none.result) =
    subst (λ (k : Changed). IsSpaceOf s.geometry.blocks (set_inode (group_at t s.group) a.agino new) (changed_space s.space k)) (sym c.none.ensures)
    (c.rows_leave_the_space.ensures s.geometry.blocks (group_at t s.group) a.agino inode new s.space has.group.space has.inode_there used same_blocks) in
    let enough = links_enough c.links_touch_two_places.ensures.alone c.links_touch_two_places.ensures.put c.links_touch_two_places.ensures.taken_first c.links_touch_two_places.ensures.taken_later
    s d t layouts inode new was unlinked
    (record { encodes = can_encode s t layouts shape has.group; within = inside; found = has.inode_there })
    has.group.layouts_of low c.requires.low used same_blocks c.none.ensures refl (c.relink-relink.ensures.stands t layouts inode row has) relinks.before in
    leads c.encodings_follow_the_table.ensures.inode c.groups_change_alone.ensures.own c.groups_change_alone.ensures.only s d t layouts inode new was unlinked shape inside
    has.group c.requires.low has.inode_there (ap is_unlinked_row has.used) refl table own relinks space refl enough
