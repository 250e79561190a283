use Rattle.std.proofs.Common.{◌≡◌, ◌<◌, ℕ, true, eqb, List, length, refl, ap, sym, subst, ◌∙◌, arith}
use Rattle.std.specs.Prelude.{is_some}
use Rattle.inode_cache.specs.declared.inode.Incore.{Incore}
use Rattle.life_limits.specs.declared.TheConstants.{MAX_GENERATION}
use Rattle.life_table.specs.declared.table.Inode.{Inode}
use Rattle.life_table.specs.Table.{group_at, in_use, row_of, set_inode}
use Rattle.life_table.specs.WellFormed.{IsGroup}
use Rattle.encoded_changes.specs.Changes.{taken_from}
use Rattle.group_space.specs.Space.{IsSpaceOf, changed_space}
use Rattle.group_ops.specs.Represents.{incore_for}
use Rattle.group_ops.specs.Telling.{HasRowAt}
use Rattle.group_ops.specs.Values.{StateValue}
use Rattle.group_ops.proofs.Freeing.{awaiting, free_inode, free_leads, freed_inode, generation_of}
use Rattle.group_ops.proofs.Inodes.{group_of}
use Rattle.group_ops.proofs.Keyed.{holds_row}
use Rattle.group_ops.proofs.Relisting.{unlinked_by}
use Rattle.group_ops.proofs.state.GroupState.free.Goals as goal

pub inode_at-requires : goal.inode_at-requires
inode_at-requires c =
    let a = c.args in
    let s = a.self.now in
    let w = c.requires.awaits in
    let found = awaiting (row_of w.0 a.key) w.3 in
    let row = found.0 in
    let old = in_use a.key row in
    let at = holds_row c.encodings_follow_the_table.ensures.row s w.0 w.1 a.key row c.agino_of-agino.result c.requires.own c.agino_of-agino.ensures.own w.2 found.1 in
    (w.0, w.1, w.2, ap is_some at.inode_there)

pub with_number_given-requires : goal.with_number_given-requires
with_number_given-requires c =
    let a = c.args in
    let s = a.self.now in
    let w = c.requires.awaits in
    let found = awaiting (row_of w.0 a.key) w.3 in
    let row = found.0 in
    let old = in_use a.key row in
    let at = holds_row c.encodings_follow_the_table.ensures.row s w.0 w.1 a.key row c.agino_of-agino.result c.requires.own c.agino_of-agino.ensures.own w.2 found.1 in
    let held = subst (λ (v : StateValue). HasRowAt v c.agino_of-agino.result w.0 w.1 old row) (sym c.self.view_is) at in
    let copy : c.in_ok-core.field-0 ≡ incore_for w.1 s.group c.agino_of-agino.result old = c.in_ok-core.ensures w.0 w.1 old w.2 at.inode_there in
    let blocks : row.blocks ≡ c.as_slice.result.now = sym (c.as_slice.ensures ∙ ap (λ (i : Incore). i.blocks) copy) in
    let well_formed : IsGroup c.self.inside.geometry.blocks (group_at w.0 c.self.inside.group) =
    subst (λ (n : ℕ). IsGroup n (group_at w.0 c.self.inside.group)) held.group.blocks
    (group_of w.0.blocks w.0.groups c.self.inside.group held.group.table.groups (omega (arith, held.group.groups, c.self.invariant.inside))) in
    record {
      blocks = c.self.inside.geometry.blocks;
      chunks = group_at w.0 c.self.inside.group;
      inode = old;
      space_of = held.group.space;
      well_formed = well_formed;
      held = held.inode_there;
      used = refl;
      own = blocks;
    }

pub take_out-relink-requires : goal.take_out-relink-requires
take_out-relink-requires c =
    let a = c.args in
    let s = a.self.now in
    let w = c.requires.awaits in
    let found = awaiting (row_of w.0 a.key) w.3 in
    let row = found.0 in
    let old = in_use a.key row in
    let at = holds_row c.encodings_follow_the_table.ensures.row s w.0 w.1 a.key row c.agino_of-agino.result c.requires.own c.agino_of-agino.ensures.own w.2 found.1 in
    record { unlinked = (w.0, w.1, w.2, unlinked_by s w.0 w.1 c.agino_of-agino.result old row true at (ap (λ (n : ℕ). eqb n 0) found.2)) }

pub freed_core-requires : goal.freed_core-requires
freed_core-requires c =
    let a = c.args in
    let s = a.self.now in
    let w = c.requires.awaits in
    let found = awaiting (row_of w.0 a.key) w.3 in
    let row = found.0 in
    let old = in_use a.key row in
    let at = holds_row c.encodings_follow_the_table.ensures.row s w.0 w.1 a.key row c.agino_of-agino.result c.requires.own c.agino_of-agino.ensures.own w.2 found.1 in
    let copy : c.in_ok-core.field-0 ≡ incore_for w.1 s.group c.agino_of-agino.result old = c.in_ok-core.ensures w.0 w.1 old w.2 at.inode_there in
    subst (λ (n : ℕ). n < MAX_GENERATION) (sym (generation_of w.1 s.group c.agino_of-agino.result a.key row c.in_ok-core.field-0 copy))
    (c.rows_are_within_limits.ensures.limits w.0 a.key row w.2.table found.1).life

pub with_commit-requires : goal.with_commit-requires
with_commit-requires c =
    let a = c.args in
    let s = a.self.now in
    let w = c.requires.awaits in
    let found = awaiting (row_of w.0 a.key) w.3 in
    let row = found.0 in
    let old = in_use a.key row in
    let at = holds_row c.encodings_follow_the_table.ensures.row s w.0 w.1 a.key row c.agino_of-agino.result c.requires.own c.agino_of-agino.ensures.own w.2 found.1 in
    let held = subst (λ (v : StateValue). HasRowAt v c.agino_of-agino.result w.0 w.1 old row) (sym c.self.view_is) at in
    let copy : c.in_ok-core.field-0 ≡ incore_for w.1 s.group c.agino_of-agino.result old = c.in_ok-core.ensures w.0 w.1 old w.2 at.inode_there in
    let blocks : row.blocks ≡ c.as_slice.result.now = sym (c.as_slice.ensures ∙ ap (λ (i : Incore). i.blocks) copy) in
    let well_formed : IsGroup c.self.inside.geometry.blocks (group_at w.0 c.self.inside.group) =
    subst (λ (n : ℕ). IsGroup n (group_at w.0 c.self.inside.group)) held.group.blocks
    (group_of w.0.blocks w.0.groups c.self.inside.group held.group.table.groups (omega (arith, held.group.groups, c.self.invariant.inside))) in
    let unlinked = unlinked_by s w.0 w.1 c.agino_of-agino.result old row true at (ap (λ (n : ℕ). eqb n 0) found.2) in
    let new : Inode = free_inode a.key in
    let inode = freed_inode (taken_from w.1 s.group c.agino_of-agino.result) s.group c.agino_of-agino.result a.key c.freed_core.result c.new.result c.in_ok-core.field-0.core.generation
    c.freed_core.ensures c.new.ensures (generation_of w.1 s.group c.agino_of-agino.result a.key row c.in_ok-core.field-0 copy) in
    let space : IsSpaceOf s.geometry.blocks (set_inode (group_at w.0 s.group) c.agino_of-agino.result new) (changed_space s.space c.in_ok-space.space) =
    subst (λ (v : StateValue). IsSpaceOf v.geometry.blocks (set_inode (group_at w.0 v.group) c.agino_of-agino.result new) (changed_space v.space c.in_ok-space.space)) c.self.view_is
    (c.in_ok-space.ensures.space c.self.inside.geometry.blocks (group_at w.0 c.self.inside.group) old new held.group.space well_formed held.inode_there blocks refl) in
    let leads = free_leads c.encodings_follow_the_table.ensures.inode c.groups_change_alone.ensures.own c.groups_change_alone.ensures.only c.frees_touch_their_places.ensures.first
    c.frees_touch_their_places.ensures.later c.rows_are_within_limits.ensures.blocks c.tables_stay_well_formed.ensures.free s _ w.0 w.1 a.key row c.hold.ensures.shape c.hold.ensures.inside
    c.requires.own c.agino_of-agino.ensures.own at found.1 found.2 w.3 inode (c.take_out-relink.ensures.pointers w.0 w.1 w.2 unlinked)
    (c.take_out-relink.ensures.place w.0 w.1 w.2 unlinked) space refl c.in_ok-space.ensures.anew.0
    (c.in_ok-space.ensures.anew.1 ∙ ap (λ (l : List ℕ). eqb (length l) 0) (sym blocks)) in
    (w.0, w.1, _, _, leads)

pub returns : goal.returns
returns c t layouts is awaits =
    let a = c.args in
    let s = a.self.now in
    let found = awaiting (row_of t a.key) awaits in
    let row = found.0 in
    let old = in_use a.key row in
    let at = holds_row c.encodings_follow_the_table.ensures.row s t layouts a.key row c.agino_of-agino.result c.requires.own c.agino_of-agino.ensures.own is found.1 in
    let held = subst (λ (v : StateValue). HasRowAt v c.agino_of-agino.result t layouts old row) (sym c.self.view_is) at in
    let copy : c.in_ok-core.field-0 ≡ incore_for layouts s.group c.agino_of-agino.result old = c.in_ok-core.ensures t layouts old is at.inode_there in
    let blocks : row.blocks ≡ c.as_slice.result.now = sym (c.as_slice.ensures ∙ ap (λ (i : Incore). i.blocks) copy) in
    let well_formed : IsGroup c.self.inside.geometry.blocks (group_at t c.self.inside.group) =
    subst (λ (n : ℕ). IsGroup n (group_at t c.self.inside.group)) held.group.blocks
    (group_of t.blocks t.groups c.self.inside.group held.group.table.groups (omega (arith, held.group.groups, c.self.invariant.inside))) in
    let unlinked = unlinked_by s t layouts c.agino_of-agino.result old row true at (ap (λ (n : ℕ). eqb n 0) found.2) in
    let new : Inode = free_inode a.key in
    let inode = freed_inode (taken_from layouts s.group c.agino_of-agino.result) s.group c.agino_of-agino.result a.key c.freed_core.result c.new.result c.in_ok-core.field-0.core.generation
    c.freed_core.ensures c.new.ensures (generation_of layouts s.group c.agino_of-agino.result a.key row c.in_ok-core.field-0 copy) in
    let space : IsSpaceOf s.geometry.blocks (set_inode (group_at t s.group) c.agino_of-agino.result new) (changed_space s.space c.in_ok-space.space) =
    subst (λ (v : StateValue). IsSpaceOf v.geometry.blocks (set_inode (group_at t v.group) c.agino_of-agino.result new) (changed_space v.space c.in_ok-space.space)) c.self.view_is
    (c.in_ok-space.ensures.space c.self.inside.geometry.blocks (group_at t c.self.inside.group) old new held.group.space well_formed held.inode_there blocks refl) in
    let leads = free_leads c.encodings_follow_the_table.ensures.inode c.groups_change_alone.ensures.own c.groups_change_alone.ensures.only c.frees_touch_their_places.ensures.first
    c.frees_touch_their_places.ensures.later c.rows_are_within_limits.ensures.blocks c.tables_stay_well_formed.ensures.free s _ t layouts a.key row c.hold.ensures.shape c.hold.ensures.inside
    c.requires.own c.agino_of-agino.ensures.own at found.1 found.2 awaits inode (c.take_out-relink.ensures.pointers t layouts is unlinked)
    (c.take_out-relink.ensures.place t layouts is unlinked) space refl c.in_ok-space.ensures.anew.0
    (c.in_ok-space.ensures.anew.1 ∙ ap (λ (l : List ℕ). eqb (length l) 0) (sym blocks)) in
    c.with_commit.ensures t layouts _ _ leads
