use Rattle.std.proofs.Common.{◌≡◌, ◌<◌, ◌≤◌, ◌-◌, ◌*◌, ◌++◌, ℕ, List, length, refl, ap, sym, subst, ◌∙◌, arith}
use Rattle.std.specs.Prelude.{All, drop, is_some, take}
use Rattle.std.proofs.lemmas.Bool.{false≢true}
use Rattle.extent_fork.specs.Runs.{runs}
use Rattle.life_limits.specs.declared.TheConstants.{MAX_BLOCKS, MAX_EXTENTS}
use Rattle.inode_cache.specs.declared.inode.Incore.{Incore}
use Rattle.life_table.specs.declared.table.Inode.{Inode}
use Rattle.life_table.specs.Legal.{cut_blocks}
use Rattle.life_table.specs.Table.{group_at, in_use, set_inode}
use Rattle.life_table.specs.WellFormed.{IsGroup}
use Rattle.group_space.specs.Space.{IsSpaceOf, changed_space}
use Rattle.group_ops.specs.Telling.{HasRowAt, with_blocks}
use Rattle.group_ops.specs.Values.{StateValue}
use Rattle.group_ops.proofs.Holding.{cut_are_blocks, cut_done, cut_is_few, cut_is_short, cut_leads, cut_too_far, first_and_last}
use Rattle.group_ops.proofs.Inodes.{group_of}
use Rattle.group_ops.proofs.Keyed.{seen_key}
use Rattle.group_ops.proofs.Told.{no_row_seen}
use Rattle.group_ops.proofs.state.GroupState.cut.Goals as goal

pub unreachable-requires : goal.unreachable-requires
unreachable-requires c =
    let w = c.requires.row in
    let a = c.args in
    false≢true (no_row_seen w.0 w.1 a.key a.self.now.group c.agino_of-agino.result c.requires.own c.agino_of-agino.ensures.own (c.in_default.ensures.told w.0 w.1 w.2) ∙ w.3)

pub returns-then-core-from : goal.returns-then-core-from
returns-then-core-from c t layouts is =
    let a = c.args in
    let s = a.self.now in
    let seen = seen_key c.encodings_follow_the_table.ensures.row s a.key c.agino_of-agino.result c.in-Some.core c.requires.own c.agino_of-agino.ensures.own c.in-Some.ensures.told c.requires.row t layouts is in
    cut_too_far t a.key seen.row a.count seen.has (omega (arith, seen.blocks, c.if-core-from.true))

pub inode_at-requires : goal.inode_at-requires
inode_at-requires c =
    let a = c.args in
    let w = c.requires.row in
    let seen = seen_key c.encodings_follow_the_table.ensures.row a.self.now a.key c.agino_of-agino.result c.in-Some.core c.requires.own c.agino_of-agino.ensures.own c.in-Some.ensures.told w w.0 w.1 w.2 in
    (w.0, w.1, w.2, ap is_some seen.at.inode_there)

pub overflow_sub-kept : goal.overflow_sub-kept
overflow_sub-kept c =
    let a = c.args in
    let s = a.self.now in
    let w = c.requires.row in
    let seen = seen_key c.encodings_follow_the_table.ensures.row s a.key c.agino_of-agino.result c.in-Some.core c.requires.own c.agino_of-agino.ensures.own c.in-Some.ensures.told c.requires.row w.0 w.1 w.2 in
    let old = in_use a.key seen.row in
    let copied = ap (λ (i : Incore). i.blocks) (c.in_ok-inode_at.ensures w.0 w.1 old w.2 seen.at.inode_there) in
    let own : c.into_vec-blocks.result.items ≡ seen.row.blocks = c.into_vec-blocks.ensures ∙ copied in
    let few : a.count ≤ length seen.row.blocks = omega (arith, seen.blocks, c.if-core-from.false, c.from.ensures) in
    omega (arith, few, c.len.ensures, ap (λ (l : List ℕ). length l) own)

pub with_blocks_given-space-requires : goal.with_blocks_given-space-requires
with_blocks_given-space-requires c =
    let a = c.args in
    let s = a.self.now in
    let w = c.requires.row in
    let seen = seen_key c.encodings_follow_the_table.ensures.row s a.key c.agino_of-agino.result c.in-Some.core c.requires.own c.agino_of-agino.ensures.own c.in-Some.ensures.told c.requires.row w.0 w.1 w.2 in
    let old = in_use a.key seen.row in
    let held = subst (λ (v : StateValue). HasRowAt v c.agino_of-agino.result w.0 w.1 old seen.row) (sym c.self.view_is) seen.at in
    let copied = ap (λ (i : Incore). i.blocks) (c.in_ok-inode_at.ensures w.0 w.1 old w.2 seen.at.inode_there) in
    let own : c.into_vec-blocks.result.items ≡ seen.row.blocks = c.into_vec-blocks.ensures ∙ copied in
    let well_formed : IsGroup c.self.inside.geometry.blocks (group_at w.0 c.self.inside.group) =
    subst (λ (n : ℕ). IsGroup n (group_at w.0 c.self.inside.group)) held.group.blocks
    (group_of w.0.blocks w.0.groups c.self.inside.group held.group.table.groups (omega (arith, held.group.groups, c.self.invariant.inside))) in
    record {
      blocks = c.self.inside.geometry.blocks;
      chunks = group_at w.0 c.self.inside.group;
      agino = c.agino_of-agino.result;
      inode = old;
      first = take (c.len.result - a.count) seen.row.blocks;
      space_of = held.group.space;
      well_formed = well_formed;
      held = held.inode_there;
      last = first_and_last seen.row.blocks c.deref.result.now (c.len.result - a.count) (c.deref.ensures.value ∙ own);
    }

pub holding-requires-clause-blocks : goal.holding-requires-clause-blocks
holding-requires-clause-blocks c =
    let a = c.args in
    let s = a.self.now in
    let w = c.requires.row in
    let seen = seen_key c.encodings_follow_the_table.ensures.row s a.key c.agino_of-agino.result c.in-Some.core c.requires.own c.agino_of-agino.ensures.own c.in-Some.ensures.told c.requires.row w.0 w.1 w.2 in
    let old = in_use a.key seen.row in
    let held = subst (λ (v : StateValue). HasRowAt v c.agino_of-agino.result w.0 w.1 old seen.row) (sym c.self.view_is) seen.at in
    let copied = ap (λ (i : Incore). i.blocks) (c.in_ok-inode_at.ensures w.0 w.1 old w.2 seen.at.inode_there) in
    let own : c.into_vec-blocks.result.items ≡ seen.row.blocks = c.into_vec-blocks.ensures ∙ copied in
    subst (All (λ block. block < MAX_BLOCKS)) (sym (c.truncate.ensures.items ∙ ap (λ (l : List ℕ). take (c.len.result - a.count) l) own))
    (cut_are_blocks c.rows_are_within_limits.ensures.blocks w.0 a.key seen.row (c.len.result - a.count) w.2.table seen.has)

pub holding-requires-clause-few : goal.holding-requires-clause-few
holding-requires-clause-few c =
    let a = c.args in
    let s = a.self.now in
    let w = c.requires.row in
    let seen = seen_key c.encodings_follow_the_table.ensures.row s a.key c.agino_of-agino.result c.in-Some.core c.requires.own c.agino_of-agino.ensures.own c.in-Some.ensures.told c.requires.row w.0 w.1 w.2 in
    let old = in_use a.key seen.row in
    let held = subst (λ (v : StateValue). HasRowAt v c.agino_of-agino.result w.0 w.1 old seen.row) (sym c.self.view_is) seen.at in
    let copied = ap (λ (i : Incore). i.blocks) (c.in_ok-inode_at.ensures w.0 w.1 old w.2 seen.at.inode_there) in
    let own : c.into_vec-blocks.result.items ≡ seen.row.blocks = c.into_vec-blocks.ensures ∙ copied in
    subst (λ (l : List ℕ). length l ≤ 2 * MAX_BLOCKS) (sym (c.truncate.ensures.items ∙ ap (λ (l : List ℕ). take (c.len.result - a.count) l) own))
    (cut_is_few c.rows_are_within_limits.ensures.few w.0 a.key seen.row (c.len.result - a.count) w.2.table seen.has)

pub unreachable-requires-in_default-holding : goal.unreachable-requires-in_default-holding
unreachable-requires-in_default-holding c =
    let a = c.args in
    let s = a.self.now in
    let w = c.requires.row in
    let seen = seen_key c.encodings_follow_the_table.ensures.row s a.key c.agino_of-agino.result c.in-Some.core c.requires.own c.agino_of-agino.ensures.own c.in-Some.ensures.told c.requires.row w.0 w.1 w.2 in
    let old = in_use a.key seen.row in
    let held = subst (λ (v : StateValue). HasRowAt v c.agino_of-agino.result w.0 w.1 old seen.row) (sym c.self.view_is) seen.at in
    let copied = ap (λ (i : Incore). i.blocks) (c.in_ok-inode_at.ensures w.0 w.1 old w.2 seen.at.inode_there) in
    let own : c.into_vec-blocks.result.items ≡ seen.row.blocks = c.into_vec-blocks.ensures ∙ copied in
    let few : a.count ≤ length seen.row.blocks = omega (arith, seen.blocks, c.if-core-from.false, c.from.ensures) in
    let kept : c.len.result - a.count ≡ length seen.row.blocks - a.count = omega (arith, c.len.ensures, ap (λ (l : List ℕ). length l) own) in
    let blocks : List ℕ = c.truncate.new.self.items in
    let cut : blocks ≡ cut_blocks a.count seen.row =
    c.truncate.ensures.items ∙ ap (λ (l : List ℕ). take (c.len.result - a.count) l) own ∙ ap (λ (n : ℕ). take n seen.row.blocks) kept in
    let short = cut_is_short c.groups_change_alone.ensures.own c.encodings_follow_the_table.ensures.row c.tables_stay_well_formed.ensures.call c.rows_are_within_limits.ensures.limits s w.0 w.1 a.key
    c.agino_of-agino.result seen.row a.count c.requires.own c.agino_of-agino.ensures.own w.2 c.hold.ensures.inside seen.has few in
    let long : MAX_EXTENTS < length (runs (cut_blocks a.count seen.row)) = subst (λ (b : List ℕ). MAX_EXTENTS < length (runs b)) cut c.in_default-holding.ensures in
    omega (arith, short, long)

pub with_commit-requires : goal.with_commit-requires
with_commit-requires c =
    let a = c.args in
    let s = a.self.now in
    let w = c.requires.row in
    let seen = seen_key c.encodings_follow_the_table.ensures.row s a.key c.agino_of-agino.result c.in-Some.core c.requires.own c.agino_of-agino.ensures.own c.in-Some.ensures.told c.requires.row w.0 w.1 w.2 in
    let old = in_use a.key seen.row in
    let held = subst (λ (v : StateValue). HasRowAt v c.agino_of-agino.result w.0 w.1 old seen.row) (sym c.self.view_is) seen.at in
    let copied = ap (λ (i : Incore). i.blocks) (c.in_ok-inode_at.ensures w.0 w.1 old w.2 seen.at.inode_there) in
    let own : c.into_vec-blocks.result.items ≡ seen.row.blocks = c.into_vec-blocks.ensures ∙ copied in
    let few : a.count ≤ length seen.row.blocks = omega (arith, seen.blocks, c.if-core-from.false, c.from.ensures) in
    let kept : c.len.result - a.count ≡ length seen.row.blocks - a.count = omega (arith, c.len.ensures, ap (λ (l : List ℕ). length l) own) in
    let blocks : List ℕ = c.truncate.new.self.items in
    let cut : blocks ≡ cut_blocks a.count seen.row =
    c.truncate.ensures.items ∙ ap (λ (l : List ℕ). take (c.len.result - a.count) l) own ∙ ap (λ (n : ℕ). take n seen.row.blocks) kept in
    let new : Inode = with_blocks old seen.row blocks in
    let given : seen.row.blocks ≡ blocks ++ take (length c.deref.result.now - (c.len.result - a.count)) (drop (c.len.result - a.count) c.deref.result.now) =
    first_and_last seen.row.blocks c.deref.result.now (c.len.result - a.count) (c.deref.ensures.value ∙ own)
    ∙ ap (λ (l : List ℕ). l ++ take (length c.deref.result.now - (c.len.result - a.count)) (drop (c.len.result - a.count) c.deref.result.now))
    (sym (c.truncate.ensures.items ∙ ap (λ (l : List ℕ). take (c.len.result - a.count) l) own)) in
    let well_formed : IsGroup c.self.inside.geometry.blocks (group_at w.0 c.self.inside.group) =
    subst (λ (n : ℕ). IsGroup n (group_at w.0 c.self.inside.group)) held.group.blocks
    (group_of w.0.blocks w.0.groups c.self.inside.group held.group.table.groups (omega (arith, held.group.groups, c.self.invariant.inside))) in
    let space : IsSpaceOf s.geometry.blocks (set_inode (group_at w.0 s.group) c.agino_of-agino.result new) (changed_space s.space c.with_blocks_given-space.result) =
    subst (λ (v : StateValue). IsSpaceOf v.geometry.blocks (set_inode (group_at w.0 v.group) c.agino_of-agino.result new) (changed_space v.space c.with_blocks_given-space.result)) c.self.view_is
    (c.with_blocks_given-space.ensures.space c.self.inside.geometry.blocks (group_at w.0 c.self.inside.group) c.agino_of-agino.result old new held.group.space well_formed held.inode_there refl given) in
    let leads = cut_leads c.groups_change_alone.ensures.own c.encodings_follow_the_table.ensures.row c.tables_stay_well_formed.ensures.call s c.with_blocks-delta.result w.0 w.1 a.key
    c.agino_of-agino.result seen.row a.count blocks c.requires.own c.agino_of-agino.ensures.own w.2 c.hold.ensures.inside seen.has cut few
    (λ table. c.with_blocks-delta.ensures w.0 w.1 old seen.row c.in-Some.core blocks seen.at seen.core_is c.in-Some-holding.ensures.0 table space) in
    (w.0, w.1, _, _, leads)

pub returns : goal.returns
returns c t layouts is =
    let a = c.args in
    let s = a.self.now in
    let seen = seen_key c.encodings_follow_the_table.ensures.row s a.key c.agino_of-agino.result c.in-Some.core c.requires.own c.agino_of-agino.ensures.own c.in-Some.ensures.told c.requires.row t layouts is in
    let old = in_use a.key seen.row in
    let held = subst (λ (v : StateValue). HasRowAt v c.agino_of-agino.result t layouts old seen.row) (sym c.self.view_is) seen.at in
    let copied = ap (λ (i : Incore). i.blocks) (c.in_ok-inode_at.ensures t layouts old is seen.at.inode_there) in
    let own : c.into_vec-blocks.result.items ≡ seen.row.blocks = c.into_vec-blocks.ensures ∙ copied in
    let few : a.count ≤ length seen.row.blocks = omega (arith, seen.blocks, c.if-core-from.false, c.from.ensures) in
    let kept : c.len.result - a.count ≡ length seen.row.blocks - a.count = omega (arith, c.len.ensures, ap (λ (l : List ℕ). length l) own) in
    let blocks : List ℕ = c.truncate.new.self.items in
    let cut : blocks ≡ cut_blocks a.count seen.row =
    c.truncate.ensures.items ∙ ap (λ (l : List ℕ). take (c.len.result - a.count) l) own ∙ ap (λ (n : ℕ). take n seen.row.blocks) kept in
    let new : Inode = with_blocks old seen.row blocks in
    let given : seen.row.blocks ≡ blocks ++ take (length c.deref.result.now - (c.len.result - a.count)) (drop (c.len.result - a.count) c.deref.result.now) =
    first_and_last seen.row.blocks c.deref.result.now (c.len.result - a.count) (c.deref.ensures.value ∙ own)
    ∙ ap (λ (l : List ℕ). l ++ take (length c.deref.result.now - (c.len.result - a.count)) (drop (c.len.result - a.count) c.deref.result.now))
    (sym (c.truncate.ensures.items ∙ ap (λ (l : List ℕ). take (c.len.result - a.count) l) own)) in
    let well_formed : IsGroup c.self.inside.geometry.blocks (group_at t c.self.inside.group) =
    subst (λ (n : ℕ). IsGroup n (group_at t c.self.inside.group)) held.group.blocks
    (group_of t.blocks t.groups c.self.inside.group held.group.table.groups (omega (arith, held.group.groups, c.self.invariant.inside))) in
    let space : IsSpaceOf s.geometry.blocks (set_inode (group_at t s.group) c.agino_of-agino.result new) (changed_space s.space c.with_blocks_given-space.result) =
    subst (λ (v : StateValue). IsSpaceOf v.geometry.blocks (set_inode (group_at t v.group) c.agino_of-agino.result new) (changed_space v.space c.with_blocks_given-space.result)) c.self.view_is
    (c.with_blocks_given-space.ensures.space c.self.inside.geometry.blocks (group_at t c.self.inside.group) c.agino_of-agino.result old new held.group.space well_formed held.inode_there refl given) in
    let leads = cut_leads c.groups_change_alone.ensures.own c.encodings_follow_the_table.ensures.row c.tables_stay_well_formed.ensures.call s c.with_blocks-delta.result t layouts a.key
    c.agino_of-agino.result seen.row a.count blocks c.requires.own c.agino_of-agino.ensures.own is c.hold.ensures.inside seen.has cut few
    (λ table. c.with_blocks-delta.ensures t layouts old seen.row c.in-Some.core blocks seen.at seen.core_is c.in-Some-holding.ensures.0 table space) in
    record { replies = cut_done t a.key seen.row a.count seen.has few; tells = c.in_ok-with_commit.ensures t layouts _ _ leads }
