use Rattle.std.proofs.Common.{◌≡◌, ◌<◌, ◌≤◌, ◌*◌, ◌++◌, ℕ, List, length, refl, ap, sym, arith, subst, ◌∙◌}
use Rattle.std.specs.Prelude.{All, is_some, take}
use Rattle.std.proofs.lemmas.Bool.{false≢true}
use Rattle.extent_fork.specs.Runs.{runs}
use Rattle.life_limits.specs.declared.TheConstants.{MAX_BLOCKS, MAX_EXTENTS}
use Rattle.inode_cache.specs.declared.inode.Incore.{Incore}
use Rattle.life_table.specs.declared.table.Inode.{Inode}
use Rattle.life_table.specs.Legal.{free_of, grown_blocks}
use Rattle.life_table.specs.Space.{free_blocks}
use Rattle.life_table.specs.Table.{group_at, in_use, set_inode}
use Rattle.group_space.specs.Space.{IsSpaceOf, changed_space}
use Rattle.group_ops.specs.Represents.{IsGroupOf}
use Rattle.group_ops.specs.Telling.{HasRowAt, with_blocks}
use Rattle.group_ops.specs.Values.{StateValue}
use Rattle.group_ops.proofs.Holding.{free_is, grow_done, grow_leads, grown_are_blocks, grown_is_short, no_space, too_many_extents}
use Rattle.group_ops.proofs.Keyed.{seen_key}
use Rattle.group_ops.proofs.Told.{no_row_seen}
use Rattle.group_ops.proofs.state.GroupState.grow.Goals as goal

pub unreachable-requires : goal.unreachable-requires
unreachable-requires c =
    let w = c.requires.row in
    let a = c.args in
    false≢true (no_row_seen w.0 w.1 a.key a.self.now.group c.agino_of-agino.result c.requires.own c.agino_of-agino.ensures.own (c.in_default.ensures.told w.0 w.1 w.2) ∙ w.3)

pub returns-then-free_count-count : goal.returns-then-free_count-count
returns-then-free_count-count c t layouts is =
    let a = c.args in
    let s = a.self.now in
    let seen = seen_key c.encodings_follow_the_table.ensures.row s a.key c.agino_of-agino.result c.in-Some.core c.requires.own c.agino_of-agino.ensures.own c.in-Some.ensures.told c.requires.row t layouts is in
    let held = subst (λ (v : StateValue). IsGroupOf v t layouts) (sym c.self.view_is) is in
    let counted : c.free_count.result ≡ length (free_of t a.key) =
    c.free_count.ensures c.self.inside.geometry.blocks (group_at t c.self.inside.group) held.space
    ∙ ap (λ (v : StateValue). length (free_blocks v.geometry.blocks (group_at t v.group))) c.self.view_is
    ∙ ap (λ (l : List ℕ). length l) (sym (free_is s t layouts a.key c.requires.own is)) in
    no_space t a.key seen.row a.count seen.has (subst (λ (n : ℕ). n < a.count) counted c.if-free_count-count.true)

pub inode_at-requires : goal.inode_at-requires
inode_at-requires c =
    let a = c.args in
    let w = c.requires.row in
    let seen = seen_key c.encodings_follow_the_table.ensures.row a.self.now a.key c.agino_of-agino.result c.in-Some.core c.requires.own c.agino_of-agino.ensures.own c.in-Some.ensures.told w w.0 w.1 w.2 in
    (w.0, w.1, w.2, ap is_some seen.at.inode_there)

pub holding-requires-clause-blocks : goal.holding-requires-clause-blocks
holding-requires-clause-blocks c =
    let a = c.args in
    let s = a.self.now in
    let w = c.requires.row in
    let seen = seen_key c.encodings_follow_the_table.ensures.row s a.key c.agino_of-agino.result c.in-Some.core c.requires.own c.agino_of-agino.ensures.own c.in-Some.ensures.told w w.0 w.1 w.2 in
    let held = subst (λ (v : StateValue). IsGroupOf v w.0 w.1) (sym c.self.view_is) w.2 in
    let copied = ap (λ (i : Incore). i.blocks) (c.in_ok-inode_at.ensures w.0 w.1 (in_use a.key seen.row) w.2 seen.at.inode_there) in
    let taken = c.in_ok-taken.ensures.lowest c.self.inside.geometry.blocks (group_at w.0 c.self.inside.group) held.space in
    let blocks : w.0.blocks ≡ c.self.inside.geometry.blocks = held.blocks in
    let grown : c.in_ok-appended.field-0.items ≡ seen.row.blocks ++ take a.count (free_blocks w.0.blocks (group_at w.0 c.self.inside.group)) =
    c.in_ok-appended.ensures
    ∙ ap (λ (l : List ℕ). l ++ c.deref.result.now) (c.into_vec-blocks.ensures ∙ copied)
    ∙ ap (λ (l : List ℕ). seen.row.blocks ++ l) (c.deref.ensures.value ∙ taken)
    ∙ ap (λ (n : ℕ). seen.row.blocks ++ take a.count (free_blocks n (group_at w.0 c.self.inside.group))) (sym blocks) in
    subst (All (λ block. block < MAX_BLOCKS)) (sym grown) (grown_are_blocks c.rows_are_within_limits.ensures.blocks w.0 a.key seen.row (group_at w.0 c.self.inside.group) a.count w.2.table seen.has)

pub holding-requires-clause-few : goal.holding-requires-clause-few
holding-requires-clause-few c =
    let a = c.args in
    let s = a.self.now in
    let w = c.requires.row in
    let seen = seen_key c.encodings_follow_the_table.ensures.row s a.key c.agino_of-agino.result c.in-Some.core c.requires.own c.agino_of-agino.ensures.own c.in-Some.ensures.told w w.0 w.1 w.2 in
    let held = subst (λ (v : StateValue). IsGroupOf v w.0 w.1) (sym c.self.view_is) w.2 in
    let copied = ap (λ (i : Incore). i.blocks) (c.in_ok-inode_at.ensures w.0 w.1 (in_use a.key seen.row) w.2 seen.at.inode_there) in
    let taken = c.in_ok-taken.ensures.lowest c.self.inside.geometry.blocks (group_at w.0 c.self.inside.group) held.space in
    let blocks : w.0.blocks ≡ c.self.inside.geometry.blocks = held.blocks in
    let grown : c.in_ok-appended.field-0.items ≡ seen.row.blocks ++ take a.count (free_blocks w.0.blocks (group_at w.0 c.self.inside.group)) =
    c.in_ok-appended.ensures
    ∙ ap (λ (l : List ℕ). l ++ c.deref.result.now) (c.into_vec-blocks.ensures ∙ copied)
    ∙ ap (λ (l : List ℕ). seen.row.blocks ++ l) (c.deref.ensures.value ∙ taken)
    ∙ ap (λ (n : ℕ). seen.row.blocks ++ take a.count (free_blocks n (group_at w.0 c.self.inside.group))) (sym blocks) in
    subst (λ (l : List ℕ). length l ≤ 2 * MAX_BLOCKS) (sym grown) (grown_is_short c.rows_are_within_limits.ensures.few w.0 a.key seen.row (group_at w.0 c.self.inside.group) a.count w.2.table seen.has)

pub returns-in_default-holding : goal.returns-in_default-holding
returns-in_default-holding c t layouts is =
    let a = c.args in
    let s = a.self.now in
    let seen = seen_key c.encodings_follow_the_table.ensures.row s a.key c.agino_of-agino.result c.in-Some.core c.requires.own c.agino_of-agino.ensures.own c.in-Some.ensures.told c.requires.row t layouts is in
    let held = subst (λ (v : StateValue). IsGroupOf v t layouts) (sym c.self.view_is) is in
    let free = free_is s t layouts a.key c.requires.own is in
    let counted : c.free_count.result ≡ length (free_of t a.key) =
    c.free_count.ensures c.self.inside.geometry.blocks (group_at t c.self.inside.group) held.space
    ∙ ap (λ (v : StateValue). length (free_blocks v.geometry.blocks (group_at t v.group))) c.self.view_is
    ∙ ap (λ (l : List ℕ). length l) (sym free) in
    let copied = ap (λ (i : Incore). i.blocks) (c.in_ok-inode_at.ensures t layouts (in_use a.key seen.row) is seen.at.inode_there) in
    let taken = c.in_ok-taken.ensures.lowest c.self.inside.geometry.blocks (group_at t c.self.inside.group) held.space
    ∙ ap (λ (v : StateValue). take a.count (free_blocks v.geometry.blocks (group_at t v.group))) c.self.view_is
    ∙ ap (take a.count) (sym free) in
    let grown : c.in_ok-appended.field-0.items ≡ grown_blocks t a.key a.count seen.row =
    c.in_ok-appended.ensures
    ∙ ap (λ (l : List ℕ). l ++ c.deref.result.now) (c.into_vec-blocks.ensures ∙ copied)
    ∙ ap (λ (l : List ℕ). seen.row.blocks ++ l) (c.deref.ensures.value ∙ taken) in
    too_many_extents t a.key seen.row a.count seen.has (λ short. omega (arith, short, counted, c.if-free_count-count.false))
    (subst (λ (b : List ℕ). MAX_EXTENTS < length (runs b)) grown c.in_default-holding.ensures)

pub with_commit-requires : goal.with_commit-requires
with_commit-requires c =
    let a = c.args in
    let s = a.self.now in
    let w = c.requires.row in
    let seen = seen_key c.encodings_follow_the_table.ensures.row s a.key c.agino_of-agino.result c.in-Some.core c.requires.own c.agino_of-agino.ensures.own c.in-Some.ensures.told c.requires.row w.0 w.1 w.2 in
    let old = in_use a.key seen.row in
    let held = subst (λ (v : StateValue). HasRowAt v c.agino_of-agino.result w.0 w.1 old seen.row) (sym c.self.view_is) seen.at in
    let free = free_is s w.0 w.1 a.key c.requires.own w.2 in
    let counted : c.free_count.result ≡ length (free_of w.0 a.key) =
    c.free_count.ensures c.self.inside.geometry.blocks (group_at w.0 c.self.inside.group) held.group.space
    ∙ ap (λ (v : StateValue). length (free_blocks v.geometry.blocks (group_at w.0 v.group))) c.self.view_is
    ∙ ap (λ (l : List ℕ). length l) (sym free) in
    let copied = ap (λ (i : Incore). i.blocks) (c.in_ok-inode_at.ensures w.0 w.1 old w.2 seen.at.inode_there) in
    let taken = c.in_ok-taken.ensures.lowest c.self.inside.geometry.blocks (group_at w.0 c.self.inside.group) held.group.space
    ∙ ap (λ (v : StateValue). take a.count (free_blocks v.geometry.blocks (group_at w.0 v.group))) c.self.view_is
    ∙ ap (take a.count) (sym free) in
    let blocks : List ℕ = c.in_ok-appended.field-0.items in
    let joined : blocks ≡ seen.row.blocks ++ c.in_ok-taken.taken.items =
    c.in_ok-appended.ensures
    ∙ ap (λ (l : List ℕ). l ++ c.deref.result.now) (c.into_vec-blocks.ensures ∙ copied)
    ∙ ap (λ (l : List ℕ). seen.row.blocks ++ l) c.deref.ensures.value in
    let grown : blocks ≡ grown_blocks w.0 a.key a.count seen.row = joined ∙ ap (λ (l : List ℕ). seen.row.blocks ++ l) taken in
    let new : Inode = with_blocks old seen.row blocks in
    let space : IsSpaceOf s.geometry.blocks (set_inode (group_at w.0 s.group) c.agino_of-agino.result new) (changed_space s.space c.with_blocks_taken-space.result) =
    subst (λ (v : StateValue). IsSpaceOf v.geometry.blocks (set_inode (group_at w.0 v.group) c.agino_of-agino.result new) (changed_space v.space c.with_blocks_taken-space.result)) c.self.view_is
    (c.with_blocks_taken-space.ensures.space c.self.inside.geometry.blocks (group_at w.0 c.self.inside.group) c.agino_of-agino.result old new held.group.space held.inode_there refl
    (joined ∙ ap (λ (l : List ℕ). seen.row.blocks ++ l) (sym c.deref-2.ensures.value))) in
    let leads = grow_leads c.groups_change_alone.ensures.own c.encodings_follow_the_table.ensures.row c.tables_stay_well_formed.ensures.call s c.with_blocks-delta.result w.0 w.1 a.key
    c.agino_of-agino.result seen.row a.count blocks c.requires.own c.agino_of-agino.ensures.own w.2 c.hold.ensures.inside seen.has grown
    (λ short. omega (arith, short, counted, c.if-free_count-count.false)) c.in-Some-holding.ensures.1
    (λ table. c.with_blocks-delta.ensures w.0 w.1 old seen.row c.in-Some.core blocks seen.at seen.core_is c.in-Some-holding.ensures.0 table space) in
    (w.0, w.1, _, _, leads)

pub returns : goal.returns
returns c t layouts is =
    let a = c.args in
    let s = a.self.now in
    let seen = seen_key c.encodings_follow_the_table.ensures.row s a.key c.agino_of-agino.result c.in-Some.core c.requires.own c.agino_of-agino.ensures.own c.in-Some.ensures.told c.requires.row t layouts is in
    let old = in_use a.key seen.row in
    let held = subst (λ (v : StateValue). HasRowAt v c.agino_of-agino.result t layouts old seen.row) (sym c.self.view_is) seen.at in
    let free = free_is s t layouts a.key c.requires.own is in
    let counted : c.free_count.result ≡ length (free_of t a.key) =
    c.free_count.ensures c.self.inside.geometry.blocks (group_at t c.self.inside.group) held.group.space
    ∙ ap (λ (v : StateValue). length (free_blocks v.geometry.blocks (group_at t v.group))) c.self.view_is
    ∙ ap (λ (l : List ℕ). length l) (sym free) in
    let copied = ap (λ (i : Incore). i.blocks) (c.in_ok-inode_at.ensures t layouts old is seen.at.inode_there) in
    let taken = c.in_ok-taken.ensures.lowest c.self.inside.geometry.blocks (group_at t c.self.inside.group) held.group.space
    ∙ ap (λ (v : StateValue). take a.count (free_blocks v.geometry.blocks (group_at t v.group))) c.self.view_is
    ∙ ap (take a.count) (sym free) in
    let blocks : List ℕ = c.in_ok-appended.field-0.items in
    let joined : blocks ≡ seen.row.blocks ++ c.in_ok-taken.taken.items =
    c.in_ok-appended.ensures
    ∙ ap (λ (l : List ℕ). l ++ c.deref.result.now) (c.into_vec-blocks.ensures ∙ copied)
    ∙ ap (λ (l : List ℕ). seen.row.blocks ++ l) c.deref.ensures.value in
    let grown : blocks ≡ grown_blocks t a.key a.count seen.row = joined ∙ ap (λ (l : List ℕ). seen.row.blocks ++ l) taken in
    let new : Inode = with_blocks old seen.row blocks in
    let space : IsSpaceOf s.geometry.blocks (set_inode (group_at t s.group) c.agino_of-agino.result new) (changed_space s.space c.with_blocks_taken-space.result) =
    subst (λ (v : StateValue). IsSpaceOf v.geometry.blocks (set_inode (group_at t v.group) c.agino_of-agino.result new) (changed_space v.space c.with_blocks_taken-space.result)) c.self.view_is
    (c.with_blocks_taken-space.ensures.space c.self.inside.geometry.blocks (group_at t c.self.inside.group) c.agino_of-agino.result old new held.group.space held.inode_there refl
    (joined ∙ ap (λ (l : List ℕ). seen.row.blocks ++ l) (sym c.deref-2.ensures.value))) in
    let leads = grow_leads c.groups_change_alone.ensures.own c.encodings_follow_the_table.ensures.row c.tables_stay_well_formed.ensures.call s c.with_blocks-delta.result t layouts a.key
    c.agino_of-agino.result seen.row a.count blocks c.requires.own c.agino_of-agino.ensures.own is c.hold.ensures.inside seen.has grown
    (λ short. omega (arith, short, counted, c.if-free_count-count.false)) c.in-Some-holding.ensures.1
    (λ table. c.with_blocks-delta.ensures t layouts old seen.row c.in-Some.core blocks seen.at seen.core_is c.in-Some-holding.ensures.0 table space) in
    record {
      replies = grow_done t a.key seen.row a.count seen.has (λ short. omega (arith, short, counted, c.if-free_count-count.false))
          (subst (λ (b : List ℕ). length (runs b) ≤ MAX_EXTENTS) grown c.in-Some-holding.ensures.1);
      tells = c.in_ok-with_commit.ensures t layouts _ _ leads;
    }
