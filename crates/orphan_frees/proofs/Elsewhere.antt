-- What frees leave of the groups that their keys are not of.
use Rattle.std.proofs.Common.{◌≡◌, ◌≢◌, ◌/◌, ◌%◌, ℕ, zero, suc, List, [], ◌∷◌, length, map, refl, ap, sym, subst, ◌∙◌}
use Rattle.std.specs.Prelude.{slice_index_or, slice_set}
use Rattle.std.specs.List.{flat_map, range_with_len}
use Rattle.life_limits.specs.declared.TheConstants.{BUCKETS, FIRST_PAGE_BLOCK, GROUP_NUMBERS}
use Rattle.life_table.specs.declared.key.Key.{Key}
use Rattle.life_table.specs.declared.table.Inode.{Inode}
use Rattle.life_table.specs.declared.table.Chunk.{Chunk}
use Rattle.life_table.specs.declared.table.Table.{Table}
use Rattle.life_table.specs.Table.{Group, group_at, inode_in}
use Rattle.life_table.specs.WellFormed.{IsTable}
use Rattle.sound_image.specs.Encoding.{AreLayouts, Layout, Layouts, bucket_list, core_for, head_of, layout_of, next_in, page_of}
use Rattle.life_table.specs.Space.{row_blocks}
use Rattle.inode_cache.specs.declared.inode.Incore.{Incore}
use Rattle.encoded_changes.specs.Changes.{taken_from}
use Rattle.group_space.specs.Space.{IsSpaceOf}
use Rattle.group_ops.specs.Changes.{with_room}
use Rattle.group_ops.specs.Orphans.{key_in, orphan_keys}
use Rattle.group_ops.specs.Represents.{HasInode, IsGroupOf, incore_for}
use Rattle.group_ops.specs.Values.{StateValue}
use Rattle.orphan_frees.specs.Order.{freed_all, keys_of_group, unlisted_all}
use Rattle.orphan_frees.proofs.Due.{NotOf, groups_stay}

-- ---- layouts

index_other : (layouts : Layouts) (i j : ℕ) (new d : Layout) → i ≢ j → slice_index_or (slice_set layouts i new) j d ≡ slice_index_or layouts j d
index_other [] i j new d apart = refl
index_other (x ∷ xs) zero zero new d apart = absurd (apart refl)
index_other (x ∷ xs) zero (suc j) new d apart = refl
index_other (x ∷ xs) (suc i) zero new d apart = refl
index_other (x ∷ xs) (suc i) (suc j) new d apart = index_other xs i j new d (λ e. apart (ap suc e))

layout_stays : (layouts : Layouts) (group agino other : ℕ) → group ≢ other → layout_of (taken_from layouts group agino) other ≡ layout_of layouts other
unfolding layout_of
layout_stays layouts group agino other apart = index_other layouts group other _ (record { page = FIRST_PAGE_BLOCK; buckets = [] }) apart

pub layouts_stay : (layouts : Layouts) (group : ℕ) (keys : List Key) → NotOf group keys → layout_of (unlisted_all layouts keys) group ≡ layout_of layouts group
unfolding unlisted_all
layouts_stay layouts group [] apart = refl
layouts_stay layouts group (key ∷ keys) apart =
    layouts_stay (taken_from layouts (key.number / GROUP_NUMBERS) (key.number % GROUP_NUMBERS)) group keys apart.1
    ∙ layout_stays layouts (key.number / GROUP_NUMBERS) (key.number % GROUP_NUMBERS) group apart.0

-- ---- the keys of a group

orphans_of_layout : ℕ → Group → Layout → List Key
orphans_of_layout group chunks layout = flat_map (λ bucket. map (key_in group chunks) (slice_index_or layout.buckets bucket [])) (range_with_len 0 BUCKETS)

keys_by_layout : (layouts : Layouts) (group : ℕ) (chunks : Group) → orphan_keys layouts group chunks ≡ orphans_of_layout group chunks (layout_of layouts group)
unfolding orphan_keys bucket_list orphans_of_layout
keys_by_layout layouts group chunks = refl

same_keys : (t u : Table) (layouts others : Layouts) (group : ℕ) → group_at u group ≡ group_at t group → layout_of others group ≡ layout_of layouts group
    → keys_of_group u others group ≡ keys_of_group t layouts group
same_keys t u layouts others group chunks layout =
    keys_by_layout others group (group_at u group)
    ∙ ap (λ (cs : Group). orphans_of_layout group cs (layout_of others group)) chunks
    ∙ ap (λ (l : Layout). orphans_of_layout group (group_at t group) l) layout
    ∙ sym (keys_by_layout layouts group (group_at t group))

pub keys_stay : (t : Table) (layouts : Layouts) (group : ℕ) (keys : List Key) → NotOf group keys
    → keys_of_group (freed_all t keys) (unlisted_all layouts keys) group ≡ keys_of_group t layouts group
keys_stay t layouts group keys apart =
    same_keys t (freed_all t keys) layouts (unlisted_all layouts keys) group (groups_stay t group keys apart) (layouts_stay layouts group keys apart)

-- ---- a state

same_lists : (layouts others : Layouts) (group : ℕ) → layout_of others group ≡ layout_of layouts group → (bucket : ℕ) → bucket_list others group bucket ≡ bucket_list layouts group bucket
unfolding bucket_list
same_lists layouts others group same bucket = ap (λ (l : Layout). slice_index_or l.buckets bucket []) same

same_page : (layouts others : Layouts) (group : ℕ) → layout_of others group ≡ layout_of layouts group → page_of others group ≡ page_of layouts group
unfolding page_of
same_page layouts others group same = ap (λ (l : Layout). l.page) same

same_heads : (layouts others : Layouts) (group : ℕ) (buckets : List ℕ) → ((bucket : ℕ) → bucket_list others group bucket ≡ bucket_list layouts group bucket)
    → map (λ bucket. head_of (bucket_list others group bucket)) buckets ≡ map (λ bucket. head_of (bucket_list layouts group bucket)) buckets
same_heads layouts others group [] same = refl
same_heads layouts others group (bucket ∷ buckets) same =
    ap (λ (members : List ℕ). head_of members ∷ map (λ b. head_of (bucket_list others group b)) buckets) (same bucket)
    ∙ ap (λ (l : List ℕ). head_of (bucket_list layouts group bucket) ∷ l) (same_heads layouts others group buckets same)

same_incore : (layouts others : Layouts) (group agino : ℕ) (inode : Inode) → ((bucket : ℕ) → bucket_list others group bucket ≡ bucket_list layouts group bucket)
    → incore_for others group agino inode ≡ incore_for layouts group agino inode
same_incore layouts others group agino inode same =
    ap (λ (members : List ℕ). let x : Incore = record { core = core_for inode.generation inode.row (next_in members agino); blocks = row_blocks inode.row } in x) (same (agino % BUCKETS))

-- a state that is its group of one table is that of another which has the same group with the same layout
pub stands : (s : StateValue) (t u : Table) (layouts others : Layouts) → IsGroupOf s t layouts → IsTable u → AreLayouts u others → length u.groups ≡ length t.groups → u.blocks ≡ t.blocks
    → group_at u s.group ≡ group_at t s.group → layout_of others s.group ≡ layout_of layouts s.group → IsGroupOf s u others
stands s t u layouts others is table layouts_of groups blocks chunks layout =
    let lists = same_lists layouts others s.group layout in
    record {
      table = table;
      layouts_of = layouts_of;
      groups = groups ∙ is.groups;
      blocks = blocks ∙ is.blocks;
      page = is.page ∙ sym (same_page layouts others s.group layout);
      heads = is.heads ∙ sym (same_heads layouts others s.group (range_with_len 0 BUCKETS) lists);
      space = subst (λ (cs : Group). IsSpaceOf s.geometry.blocks cs s.space) (sym chunks) is.space;
      starts = is.starts ∙ ap (λ (cs : Group). map (λ (chunk : Chunk). chunk.start) cs) (sym chunks);
      inodes = λ agino inode at.
          subst (HasInode s agino) (sym (same_incore layouts others s.group agino inode lists)) (is.inodes agino inode (ap (λ (cs : Group). inode_in cs agino) (sym chunks) ∙ at));
      only = λ agino none. is.only agino (ap (λ (cs : Group). inode_in cs agino) (sym chunks) ∙ none);
    }

-- how much room a state has is not seen
pub rest_of_room : (s : StateValue) (t : Table) (layouts : Layouts) (room : ℕ) → IsGroupOf s t layouts → IsGroupOf (with_room s room) t layouts
rest_of_room s t layouts room is =
    record {
      table = is.table;
      layouts_of = is.layouts_of;
      groups = is.groups;
      blocks = is.blocks;
      page = is.page;
      heads = is.heads;
      space = is.space;
      starts = is.starts;
      inodes = λ agino inode at. record { in_core = (is.inodes agino inode at).in_core; buffer = (is.inodes agino inode at).buffer };
      only = is.only;
    }
