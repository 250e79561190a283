-- The groups of a mount, once one of them has changed.
use Rattle.std.proofs.Common.{◌≡◌, ◌≢◌, ◌%◌, ◌<◌, ◌≤◌, inl, inr, ℕ, zero, suc, Bool, true, false, List, [], ◌∷◌, ◌++◌, Option, None, Some, option_map, if◌then◌else◌, drop, filter, get_or, length, map, slice_get, slice_set, slice_index_or, refl, ap, sym, subst, ◌∙◌}
use Rattle.std.proofs.lemmas.Bool.{cases_eq, eq-eqb, ne_eqb}
use Rattle.std.specs.Prelude.{Err, Ok, OnOk, Result}
use Rattle.std.proofs.lemmas.List.{append-nil, drop-append-le, length-map, length-set, map-set}
use Rattle.std.proofs.Math.Seq.{map-set_same}
use Rattle.std.proofs.lemmas.List.Elements.{filter-append}
use Rattle.std.proofs.lemmas.Option.{none-some, same_Some, slice_get-map, slice_get_read}
use Rattle.std.specs.List.{range_with_len}
use Rattle.life_limits.specs.declared.TheConstants.{BUCKETS}
use Rattle.geometry.specs.declared.shape.Geometry.{Geometry}
use Rattle.life_table.specs.declared.types.Call.{Call}
use Rattle.life_table.specs.declared.types.Reply.{Reply}
use Rattle.life_table.specs.declared.types.Entry.{Entry}
use Rattle.life_table.specs.declared.types.MountRecord.{MountRecord}
use Rattle.life_table.specs.declared.table.Inode.{Inode}
use Rattle.life_table.specs.declared.table.Chunk.{Chunk}
use Rattle.life_table.specs.declared.table.Table.{Table}
use Rattle.life_table.specs.Table.{Group, group_at, inode_in}
use Rattle.life_table.specs.Space.{row_blocks}
use Rattle.life_table.specs.WellFormed.{IsTable}
use Rattle.inode_cache.specs.declared.inode.Incore.{Incore}
use Rattle.sound_image.specs.Encoding.{AreLayouts, Layout, Layouts, bucket_list, core_for, head_of, layout_of, next_in, page_of}
use Rattle.group_space.specs.Space.{IsSpaceOf}
use Rattle.group_core.specs.GroupHistory.{call_group}
use Rattle.group_core.specs.Value.{GroupValue}
use Rattle.group_ops.specs.Changes.{changed_state, with_room}
use Rattle.group_ops.specs.Represents.{HasInode, IsGroupOf, incore_for}
use Rattle.group_ops.specs.Values.{StateValue}
use Rattle.orphan_frees.specs.Loaded.{IsGroupAt}
use Rattle.life_ports.specs.declared.errors.NoMemory.{NoMemory}
use Rattle.group_ops.specs.declared.delta.Delta.{Delta}
use Rattle.mounted_calls.specs.Decisions.{GroupHasRoom, changing, noting}
use Rattle.mounted_calls.specs.Calls.{entry_of, roomless, roomless_one, with_call}
use Rattle.mounted_calls.specs.Running.{HasGroupsOf, entries_in, is_group, is_in_group}

-- ---- lists

pub get_set_same : {X : Type 0} (xs : List X) (i : ℕ) (new x : X) → slice_get (slice_set xs i new) i ≡ Some x → x ≡ new
get_set_same [] i new x at = absurd (none-some x at)
get_set_same (y ∷ xs) zero new x at = sym (same_Some new x at)
get_set_same (y ∷ xs) (suc i) new x at = get_set_same xs i new x at

pub get_set_other : {X : Type 0} (xs : List X) (i j : ℕ) (new : X) → i ≢ j → slice_get (slice_set xs i new) j ≡ slice_get xs j
get_set_other [] i j new apart = refl
get_set_other (x ∷ xs) zero zero new apart = absurd (apart refl)
get_set_other (x ∷ xs) zero (suc j) new apart = refl
get_set_other (x ∷ xs) (suc i) zero new apart = refl
get_set_other (x ∷ xs) (suc i) (suc j) new apart = get_set_other xs i j new (λ e. apart (ap suc e))

-- ---- one state

pub roomed : (s : StateValue) (n : ℕ) (t : Table) (layouts : Layouts) → IsGroupOf s t layouts → IsGroupOf (with_room s n) t layouts
roomed s n t layouts is = record {
  table = is.table;
  layouts_of = is.layouts_of;
  groups = is.groups;
  blocks = is.blocks;
  page = is.page;
  heads = is.heads;
  space = is.space;
  starts = is.starts;
  inodes = λ agino inode at. let has = is.inodes agino inode at in record { in_core = has.in_core; buffer = has.buffer };
  only = is.only;
}

pub roomed_at : (g : Geometry) (s : StateValue) (n k : ℕ) (t : Table) (layouts : Layouts) → IsGroupAt g t layouts k s → IsGroupAt g t layouts k (with_room s n)
roomed_at g s n k t layouts is = record { geometry = is.geometry; group_is = is.group_is; represents = roomed s n t layouts is.represents }

-- what is seen of layouts at a group
same_page : (layouts others : Layouts) (group : ℕ) → layout_of others group ≡ layout_of layouts group → page_of others group ≡ page_of layouts group
unfolding page_of
same_page layouts others group same = ap (λ (l : Layout). l.page) same

same_list : (layouts others : Layouts) (group bucket : ℕ) → layout_of others group ≡ layout_of layouts group → bucket_list others group bucket ≡ bucket_list layouts group bucket
unfolding bucket_list
same_list layouts others group bucket same = ap (λ (l : Layout). slice_index_or l.buckets bucket []) same

mapped_same : {X Y : Type 0} (f h : X → Y) (xs : List X) → ((x : X) → f x ≡ h x) → map f xs ≡ map h xs
mapped_same f h [] same = refl
mapped_same f h (x ∷ xs) same = λ i. same x i ∷ mapped_same f h xs same i

incore_same : (layouts others : Layouts) (group agino : ℕ) (inode : Inode) → bucket_list others group (agino % BUCKETS) ≡ bucket_list layouts group (agino % BUCKETS)
    → incore_for others group agino inode ≡ incore_for layouts group agino inode
incore_same layouts others group agino inode same =
    let whole : List ℕ → Incore = λ members. record { core = core_for inode.generation inode.row (next_in members agino); blocks = row_blocks inode.row } in
    ap whole same

-- a table that is another one, with its layouts, in other groups alone
pub record IsApart (s : StateValue) (t u : Table) (layouts others : Layouts) : Type 0 where
  pub table : IsTable u
  pub layouts_of : AreLayouts u others
  pub groups : length u.groups ≡ s.geometry.groups
  pub blocks : u.blocks ≡ s.geometry.blocks
  pub chunks : group_at u s.group ≡ group_at t s.group
  pub layout : layout_of others s.group ≡ layout_of layouts s.group

pub of_other : (s : StateValue) (t u : Table) (layouts others : Layouts) → IsApart s t u layouts others → IsGroupOf s t layouts → IsGroupOf s u others
of_other s t u layouts others apart is =
    let lists : (bucket : ℕ) → bucket_list others s.group bucket ≡ bucket_list layouts s.group bucket = λ bucket. same_list layouts others s.group bucket apart.layout in
    record {
      table = apart.table;
      layouts_of = apart.layouts_of;
      groups = apart.groups;
      blocks = apart.blocks;
      page = is.page ∙ sym (same_page layouts others s.group apart.layout);
      heads = is.heads ∙ mapped_same (λ bucket. head_of (bucket_list layouts s.group bucket)) (λ bucket. head_of (bucket_list others s.group bucket)) (range_with_len 0 BUCKETS)
          (λ bucket. ap head_of (sym (lists bucket)));
      space = subst (λ (chunks : Group). IsSpaceOf s.geometry.blocks chunks s.space) (sym apart.chunks) is.space;
      starts = is.starts ∙ ap (λ (chunks : Group). map (λ (chunk : Chunk). chunk.start) chunks) (sym apart.chunks);
      inodes = λ agino inode at.
          subst (λ (i : Incore). HasInode s agino i) (sym (incore_same layouts others s.group agino inode (lists (agino % BUCKETS))))
          (is.inodes agino inode (ap (λ (chunks : Group). inode_in chunks agino) (sym apart.chunks) ∙ at));
      only = λ agino none. is.only agino (ap (λ (chunks : Group). inode_in chunks agino) (sym apart.chunks) ∙ none);
    }

-- ---- all of them

-- what is read of groups apart from their room is that of a group
record Read (groups : List (GroupValue StateValue)) (k : ℕ) (seen : GroupValue StateValue) : Type 0 where
  pub group : GroupValue StateValue
  pub at : slice_get groups k ≡ Some group
  pub is : seen ≡ roomless_one group

read_roomless : (groups : List (GroupValue StateValue)) (k : ℕ) (seen : GroupValue StateValue) → slice_get (roomless groups) k ≡ Some seen → Read groups k seen
read_roomless groups k seen at =
    elim (slice_get groups k) as (λ (o : Option (GroupValue StateValue)). slice_get groups k ≡ o → option_map roomless_one o ≡ Some seen → Read groups k seen) [
      | None ↦ λ past found. absurd (none-some seen found)
      | Some group ↦ λ here found. record { group = group; at = here; is = sym (same_Some (roomless_one group) seen found) }
    ] refl (sym (slice_get-map roomless_one groups k) ∙ at)

roomless_length : (groups : List (GroupValue StateValue)) → length (roomless groups) ≡ length groups
roomless_length groups = length-map groups roomless_one

pub to_roomless : (g : Geometry) (t : Table) (layouts : Layouts) (story : MountRecord) (groups : List (GroupValue StateValue)) → HasGroupsOf g t layouts story groups
    → HasGroupsOf g t layouts story (roomless groups)
to_roomless g t layouts story groups has = record {
  shape = has.shape;
  count = roomless_length groups ∙ has.count;
  each = λ k seen at.
      let read = read_roomless groups k seen at in
      subst (λ (x : GroupValue StateValue). IsGroupAt g t layouts k x.state) (sym read.is) (roomed_at g read.group.state 0 k t layouts (has.each k read.group read.at));
  histories = λ k seen at.
      let read = read_roomless groups k seen at in
      ap (λ (x : GroupValue StateValue). x.history) read.is ∙ has.histories k read.group read.at;
}

pub from_roomless : (g : Geometry) (t : Table) (layouts : Layouts) (story : MountRecord) (groups : List (GroupValue StateValue)) → HasGroupsOf g t layouts story (roomless groups)
    → HasGroupsOf g t layouts story groups
from_roomless g t layouts story groups has =
    let seen : (k : ℕ) (group : GroupValue StateValue) → slice_get groups k ≡ Some group → slice_get (roomless groups) k ≡ Some (roomless_one group) =
    λ k group at. slice_get-map roomless_one groups k ∙ ap (option_map roomless_one) at in
    record {
      shape = has.shape;
      count = sym (roomless_length groups) ∙ has.count;
      each = λ k group at. roomed_at g (with_room group.state 0) group.state.room k t layouts (has.each k (roomless_one group) (seen k group at));
      histories = λ k group at. has.histories k (roomless_one group) (seen k group at);
    }

pub same_roomless : (g : Geometry) (t : Table) (layouts : Layouts) (story : MountRecord) (old new : List (GroupValue StateValue)) → roomless new ≡ roomless old
    → HasGroupsOf g t layouts story old → HasGroupsOf g t layouts story new
same_roomless g t layouts story old new same has =
    from_roomless g t layouts story new (subst (λ (xs : List (GroupValue StateValue)). HasGroupsOf g t layouts story xs) (sym same) (to_roomless g t layouts story old has))

-- ---- an entry more

entries_more : (k : ℕ) (story : MountRecord) (actor : ℕ) (made : Call) (answer : Reply) (b : Bool) → story.freed ≤ length story.entries → is_group (call_group made) k ≡ b
    → entries_in k (with_call story actor made answer) ≡ entries_in k story ++ (if b then entry_of actor made answer ∷ [] else [])
entries_more k story actor made answer b begun test =
    let entry : Entry = entry_of actor made answer in
    let own : Entry → Bool = λ e. is_in_group k e.event in
    ap (filter own) (drop-append-le story.freed story.entries (entry ∷ []) begun)
    ∙ filter-append own (drop story.freed story.entries) (entry ∷ [])
    ∙ ap (λ (c : Bool). entries_in k story ++ (if c then entry ∷ [] else [])) test

pub own_entry : (k : ℕ) (story : MountRecord) (actor : ℕ) (made : Call) (answer : Reply) → story.freed ≤ length story.entries → call_group made ≡ Some k
    → entries_in k (with_call story actor made answer) ≡ entries_in k story ++ entry_of actor made answer ∷ []
own_entry k story actor made answer begun own = entries_more k story actor made answer true begun (ap (λ (o : Option ℕ). is_group o k) own ∙ eq-eqb k k refl)

pub other_entry : (k other : ℕ) (story : MountRecord) (actor : ℕ) (made : Call) (answer : Reply) → story.freed ≤ length story.entries → call_group made ≡ Some k → k ≢ other
    → entries_in other (with_call story actor made answer) ≡ entries_in other story
other_entry k other story actor made answer begun own apart =
    entries_more other story actor made answer false begun (ap (λ (o : Option ℕ). is_group o other) own ∙ ne_eqb k other apart) ∙ append-nil (entries_in other story)

pub no_entry : (k : ℕ) (story : MountRecord) (actor : ℕ) (made : Call) (answer : Reply) → story.freed ≤ length story.entries → call_group made ≡ None
    → entries_in k (with_call story actor made answer) ≡ entries_in k story
no_entry k story actor made answer begun none =
    entries_more k story actor made answer false begun (ap (λ (o : Option ℕ). is_group o k) none) ∙ append-nil (entries_in k story)

-- ---- one group put

-- one group came to be another, and the others are groups of the next table too
pub put_group : (g : Geometry) (t u : Table) (layouts others : Layouts) (story next : MountRecord) (k : ℕ) (groups : List (GroupValue StateValue)) (new : GroupValue StateValue)
    → HasGroupsOf g t layouts story groups → IsGroupAt g u others k new.state → new.history ≡ entries_in k next
    → ((other : ℕ) → k ≢ other → entries_in other next ≡ entries_in other story)
    → ((other : ℕ) (s : StateValue) → k ≢ other → IsGroupAt g t layouts other s → IsGroupAt g u others other s)
    → HasGroupsOf g u others next (slice_set groups k new)
put_group g t u layouts others story next k groups new has is history apart_entries apart_groups = record {
  shape = has.shape;
  count = length-set groups k new ∙ has.count;
  each = λ other group at.
      elim (cases_eq k other) [
        | inl same ↦
            let here : group ≡ new = get_set_same groups k new group (ap (λ (j : ℕ). slice_get (slice_set groups k new) j) same ∙ at) in
            subst (λ (j : ℕ). IsGroupAt g u others j group.state) same (subst (λ (x : GroupValue StateValue). IsGroupAt g u others k x.state) (sym here) is)
        | inr apart ↦ apart_groups other group.state apart (has.each other group (sym (get_set_other groups k other new apart) ∙ at))
      ];
  histories = λ other group at.
      elim (cases_eq k other) [
        | inl same ↦
            let here : group ≡ new = get_set_same groups k new group (ap (λ (j : ℕ). slice_get (slice_set groups k new) j) same ∙ at) in
            ap (λ (x : GroupValue StateValue). x.history) here ∙ history ∙ ap (λ (j : ℕ). entries_in j next) same
        | inr apart ↦ has.histories other group (sym (get_set_other groups k other new apart) ∙ at) ∙ sym (apart_entries other apart)
      ];
}

-- ---- one group of a list, as code changes it

pub roomier_same : (old new : GroupValue StateValue) (n : ℕ) → new.state ≡ with_room old.state n → new.history ≡ old.history → roomless_one new ≡ roomless_one old
roomier_same old new n state history = λ i. record { state = with_room (state i) 0; history = history i; spare = 0 }

pub noted_is : (old new : GroupValue StateValue) (entry : Entry) → new.state ≡ old.state → new.history ≡ old.history ++ entry ∷ [] → roomless_one new ≡ noting old entry
noted_is old new entry state history = λ i. record { state = with_room (state i) 0; history = history i; spare = 0 }

pub changed_is : (old new : GroupValue StateValue) (entry : Entry) (d : Delta) (n : ℕ) → new.state ≡ with_room (changed_state old.state d) n → new.history ≡ old.history ++ entry ∷ []
    → roomless_one new ≡ changing old entry d
changed_is old new entry d n state history = λ i. record { state = with_room (state i) 0; history = history i; spare = 0 }

pub roomless_same : (groups : List (GroupValue StateValue)) (k : ℕ) (old new : GroupValue StateValue) → old ≡ get_or groups k old → roomless_one new ≡ roomless_one old
    → roomless (slice_set groups k new) ≡ roomless groups
roomless_same groups k old new at same = map-set_same roomless_one groups k new old (same ∙ ap roomless_one at)

pub roomless_put : (groups : List (GroupValue StateValue)) (k : ℕ) (new seen : GroupValue StateValue) → roomless_one new ≡ seen → roomless (slice_set groups k new) ≡ slice_set (roomless groups) k seen
roomless_put groups k new seen same = map-set roomless_one groups k new ∙ ap (λ (x : GroupValue StateValue). slice_set (roomless groups) k x) same

pub at_index : (groups : List (GroupValue StateValue)) (k : ℕ) (x : GroupValue StateValue) → k < length groups → x ≡ get_or groups k x → slice_get groups k ≡ Some x
at_index groups k x inside at = slice_get_read groups (length groups) k x refl inside at

pub has_room : (groups : List (GroupValue StateValue)) (k : ℕ) (new : GroupValue StateValue) → (1 ≤ new.spare) × (1 ≤ new.state.room) → GroupHasRoom (slice_set groups k new) k
has_room groups k new room = λ group at.
    let same = get_set_same groups k new group at in
    subst (λ (x : GroupValue StateValue). (1 ≤ x.spare) × (1 ≤ x.state.room)) (sym same) room

pub on_ok_so : (P Q : Type 0) (r : Result (Unit {0}) NoMemory) → (P → Q) → OnOk r P → OnOk r Q
on_ok_so P Q (Ok value) so p = so p
on_ok_so P Q (Err fault) so p = p
