-- A state is the group of a table also where nobody holds a row of it.
use Rattle.std.proofs.Common.{◌≡◌, ◌%◌, ℕ, [], ◌∷◌, Option, None, Some, option_map, map, refl, ap, sym, ◌∙◌, subst}
use Rattle.std.proofs.lemmas.List.{length-map}
use Rattle.std.proofs.lemmas.Option.{none-some, same_Some}
use Rattle.life_limits.specs.declared.TheConstants.{BUCKETS}
use Rattle.inode_cache.specs.declared.inode.Incore.{Incore}
use Rattle.life_table.specs.declared.types.Row.{Row}
use Rattle.life_table.specs.declared.table.Inode.{Inode}
use Rattle.life_table.specs.declared.table.Chunk.{Chunk}
use Rattle.life_table.specs.declared.table.Table.{Table}
use Rattle.life_table.specs.History.{closed, closed_inode, closed_row}
use Rattle.life_table.specs.Space.{row_blocks}
use Rattle.life_table.specs.Table.{Group, group_at, inode_in, map_group}
use Rattle.life_table.specs.WellFormed.{IsTable}
use Rattle.sound_image.specs.Encoding.{AreLayouts, Layouts, bucket_list, chunk_record, core_for, next_in}
use Rattle.sound_image.specs.Rules.{free_set}
use Rattle.group_ops.specs.Represents.{HasInode, IsGroupOf, incore_for}
use Rattle.group_ops.specs.Values.{StateValue}

-- the laws that this rests on
pub record HoldLaws : Type 0 where
  pub table : (t : Table) → IsTable t → IsTable (closed t)
  pub layouts : (t : Table) (layouts : Layouts) → AreLayouts t layouts → AreLayouts (closed t) layouts
  pub groups : (t : Table) (g : ℕ) → group_at (closed t) g ≡ map_group closed_inode (group_at t g)
  pub inodes : (chunks : Group) (agino : ℕ) → inode_in (map_group closed_inode chunks) agino ≡ option_map closed_inode (inode_in chunks agino)
  pub records : (chunks : Group) → map chunk_record (map_group closed_inode chunks) ≡ map chunk_record chunks
  pub free : (blocks : ℕ) (chunks : Group) → free_set blocks (map_group closed_inode chunks) ≡ free_set blocks chunks

starts_closed : (chunks : Group) → map (λ (chunk : Chunk). chunk.start) (map_group closed_inode chunks) ≡ map (λ (chunk : Chunk). chunk.start) chunks
starts_closed [] = refl
starts_closed (chunk ∷ chunks) = λ i. chunk.start ∷ starts_closed chunks i

core_closed : (generation next : ℕ) (o : Option Row) → core_for generation (closed_row o) next ≡ core_for generation o next
unfolding core_for
core_closed generation next None = refl
core_closed generation next (Some row) = refl

blocks_closed : (o : Option Row) → row_blocks (closed_row o) ≡ row_blocks o
blocks_closed None = refl
blocks_closed (Some row) = refl

-- in core an inode does not show who holds it
incore_closed : (layouts : Layouts) (group agino : ℕ) (inode : Inode) → incore_for layouts group agino (closed_inode inode) ≡ incore_for layouts group agino inode
incore_closed layouts group agino inode = λ i.
    let now : Incore =
    record { core = core_closed inode.generation (next_in (bucket_list layouts group (agino % BUCKETS)) agino) inode.row i; blocks = blocks_closed inode.row i } in
    now

has_closed : (s : StateValue) (layouts : Layouts) (agino : ℕ) (inode : Inode) (o : Option Inode) → option_map closed_inode o ≡ Some inode
    → ((x : Inode) → o ≡ Some x → HasInode s agino (incore_for layouts s.group agino x)) → HasInode s agino (incore_for layouts s.group agino inode)
has_closed s layouts agino inode None e has = absurd (none-some inode e)
has_closed s layouts agino inode (Some x) e has =
    subst (λ (y : Inode). HasInode s agino (incore_for layouts s.group agino y)) (same_Some (closed_inode x) inode e)
    (subst (λ (y : Incore). HasInode s agino y) (sym (incore_closed layouts s.group agino x)) (has x refl))

none_closed : (o : Option Inode) → option_map closed_inode o ≡ None → o ≡ None
none_closed None e = refl
none_closed (Some x) e = absurd (none-some (closed_inode x) (sym e))

pub group_of_closed : HoldLaws → (s : StateValue) (t : Table) (layouts : Layouts) → IsGroupOf s t layouts → IsGroupOf s (closed t) layouts
group_of_closed l s t layouts is =
    let chunks : Group = group_at t s.group in
    let same : group_at (closed t) s.group ≡ map_group closed_inode chunks = l.groups t s.group in
    record {
      table = l.table t is.table;
      layouts_of = l.layouts t layouts is.layouts_of;
      groups = length-map t.groups (map_group closed_inode) ∙ is.groups;
      blocks = is.blocks;
      page = is.page;
      heads = is.heads;
      space = record {
        records = is.space.records ∙ sym (ap (λ (c : Group). map chunk_record c) same ∙ l.records chunks);
        free = is.space.free ∙ sym (ap (λ (c : Group). free_set s.geometry.blocks c) same ∙ l.free s.geometry.blocks chunks);
      };
      starts = is.starts ∙ sym (ap (λ (c : Group). map (λ (chunk : Chunk). chunk.start) c) same ∙ starts_closed chunks);
      inodes = λ agino inode there.
          has_closed s layouts agino inode (inode_in chunks agino) (sym (ap (λ (c : Group). inode_in c agino) same ∙ l.inodes chunks agino) ∙ there)
          (λ x at. is.inodes agino x at);
      only = λ agino none. is.only agino (none_closed (inode_in chunks agino) (sym (ap (λ (c : Group). inode_in c agino) same ∙ l.inodes chunks agino) ∙ none));
    }
