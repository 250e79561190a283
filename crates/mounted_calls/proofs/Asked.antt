-- The group that a call asks, and what is there.
use Rattle.std.proofs.Common.{◌≡◌, ◌≤◌, ◌<◌, ◌/◌, ◌%◌, ℕ, zero, suc, Bool, List, [], ◌∷◌, Option, None, Some, IsSome, length, replicate, slice_get, slice_index_or, refl, ap, sym, subst, ◌∙◌, inl, inr, arith}
use Rattle.std.proofs.lemmas.Bool.{cases_lt}
use Rattle.std.proofs.lemmas.List.{length-replicate}
use Rattle.std.proofs.lemmas.Option.{same_Some}
use Rattle.life_limits.specs.declared.TheConstants.{GROUP_NUMBERS}
use Rattle.life_bytes.specs.Sectors.{zero_sector}
use Rattle.disk_model.specs.Disk.{Cell}
use Rattle.geometry.specs.declared.shape.Geometry.{Geometry}
use Rattle.geometry.specs.Places.{anchor_of}
use Rattle.geometry.specs.Shape.{IsGeometry}
use Rattle.log_store.specs.State.{State}
use Rattle.life_table.specs.declared.key.Key.{Key}
use Rattle.life_table.specs.declared.types.Row.{Row}
use Rattle.life_table.specs.declared.types.Call.{Call}
use Rattle.life_table.specs.declared.types.Call.TheVariants as call
use Rattle.life_table.specs.declared.types.Entry.{Entry}
use Rattle.life_table.specs.declared.types.MountRecord.{MountRecord}
use Rattle.life_table.specs.declared.table.Table.{Table}
use Rattle.life_table.specs.Table.{Group, group_number, inode_in, inode_of, row_in_life, row_of}
use Rattle.life_table.specs.WellFormed.{IsTable}
use Rattle.life_table.specs.Legal.{IsOpen}
use Rattle.life_table.specs.History.{IsHeld, LegalHistory, holds, key_of}
use Rattle.sound_image.specs.Encoding.{AreLayouts, CanEncode, Layouts}
use Rattle.group_core.specs.GroupHistory.{call_group}
use Rattle.group_core.specs.Value.{GroupValue}
use Rattle.group_ops.specs.Represents.{IsGroupOf}
use Rattle.group_ops.specs.Values.{StateValue}
use Rattle.orphan_frees.specs.Loaded.{IsGroupAt}
use Rattle.mounted_calls.specs.Calls.{IsOnGroup, NamesGroup}
use Rattle.mounted_calls.specs.Decisions.{CanDecide, IsCallIn}
use Rattle.mounted_calls.specs.Running.{AreRunning, HasGroupsOf, IsRecordOf}

-- ---- the shape of the table

pub some_at : {X : Type 0} (xs : List X) (i : ℕ) → i < length xs → (x : X) × (slice_get xs i ≡ Some x)
some_at [] i low = absurd (omega (arith, low))
some_at (x ∷ xs) zero low = (x, refl)
some_at (x ∷ xs) (suc i) low = some_at xs i (omega (arith, low))

pub record IsShaped (g : Geometry) (t : Table) (layouts : Layouts) : Type 0 where
  pub table : IsTable t
  pub layouts_of : AreLayouts t layouts
  pub groups : length t.groups ≡ g.groups
  pub blocks : t.blocks ≡ g.blocks

shaped_at : (g : Geometry) (t : Table) (layouts : Layouts) (k : ℕ) (s : StateValue) → IsGroupAt g t layouts k s → IsShaped g t layouts
shaped_at g t layouts k s is = record {
  table = is.represents.table;
  layouts_of = is.represents.layouts_of;
  groups = is.represents.groups ∙ ap (λ (h : Geometry). h.groups) is.geometry;
  blocks = is.represents.blocks ∙ ap (λ (h : Geometry). h.blocks) is.geometry;
}

pub shape_of : (g : Geometry) (t : Table) (layouts : Layouts) (story : MountRecord) (groups : List (GroupValue StateValue)) → HasGroupsOf g t layouts story groups → IsShaped g t layouts
shape_of g t layouts story groups has =
    let first = some_at groups 0 (omega (arith, has.count, has.shape.groups.0)) in
    shaped_at g t layouts 0 first.0.state (has.each 0 first.0 first.1)

pub can_encode : (g : Geometry) (t : Table) (layouts : Layouts) → IsGeometry g → IsShaped g t layouts → CanEncode g t layouts (replicate (anchor_of g) zero_sector)
can_encode g t layouts shape is = record {
  shape = shape;
  table = is.table;
  groups = is.groups;
  blocks = is.blocks;
  layouts_of = is.layouts_of;
  size = omega (arith, length-replicate (anchor_of g) zero_sector);
}

-- ---- the key of a call

no_group : (xs : List Group) (i : ℕ) → length xs ≤ i → slice_index_or xs i [] ≡ []
no_group [] i past = refl
no_group (x ∷ xs) zero past = absurd (omega (arith, past))
no_group (x ∷ xs) (suc i) past = no_group xs i (omega (arith, past))

no_inode : (t : Table) (number : ℕ) → length t.groups ≤ number / GROUP_NUMBERS → inode_of t number ≡ None
unfolding inode_of inode_in
no_inode t number past = ap (λ (group : Group). inode_in group (number % GROUP_NUMBERS)) (no_group t.groups (number / GROUP_NUMBERS) past)

open_inside : (t : Table) (key : Key) → IsOpen (row_of t key) → group_number key < length t.groups
open_inside t key opened =
    elim (cases_lt (group_number key) (length t.groups)) [
      | inl low ↦ low
      | inr past ↦ absurd (subst IsOpen (ap (row_in_life key.generation) (no_inode t key.number past)) opened)
    ]

some_open : (o : Option Row) → IsOpen o → IsSome o
some_open None opened = absurd opened
some_open (Some row) opened = refl

-- whoever holds a key has a row there
abbrev pub Holders : Type 0
Holders = (t u : Table) (entries : List Entry) (actor : ℕ) (key : Key) → IsTable t → LegalHistory t entries u → 0 < holds entries actor key → IsOpen (row_of u key)

pub open_key : Holders → (start t : Table) (story : MountRecord) (groups k actor : ℕ) (made : Call) → IsRecordOf start t story → IsCallIn groups k story.entries actor made
    → (key : Key) → key_of made ≡ Some key → IsOpen (row_of t key)
open_key holders start t story groups k actor made is asks key own =
    holders start t story.entries actor key is.table is.legal (subst (IsHeld story.entries actor) own asks.held)

names_group : (groups k : ℕ) (made : Call) → IsOnGroup made → call_group made ≡ Some k → NamesGroup groups made → ((key : Key) → key_of made ≡ Some key → group_number key < groups) → k < groups
names_group groups k (call.Create group) on own names inside = subst (λ (n : ℕ). n < groups) (same_Some group k own) names
names_group groups k (call.Tmpfile group) on own names inside = subst (λ (n : ℕ). n < groups) (same_Some group k own) names
names_group groups k (call.Link key) on own names inside = subst (λ (n : ℕ). n < groups) (same_Some (group_number key) k own) (inside key refl)
names_group groups k (call.Unlink key) on own names inside = subst (λ (n : ℕ). n < groups) (same_Some (group_number key) k own) (inside key refl)
names_group groups k (call.Grow key count) on own names inside = subst (λ (n : ℕ). n < groups) (same_Some (group_number key) k own) (inside key refl)
names_group groups k (call.Cut key count) on own names inside = subst (λ (n : ℕ). n < groups) (same_Some (group_number key) k own) (inside key refl)
names_group groups k (call.Stat key) on own names inside = subst (λ (n : ℕ). n < groups) (same_Some (group_number key) k own) (inside key refl)
names_group groups k (call.OpenKey key) on own names inside = absurd on
names_group groups k (call.CloseKey key) on own names inside = absurd on
names_group groups k (call.FlushInodes group) on own names inside = absurd on
names_group groups k (call.Reclaim group) on own names inside = absurd on
names_group groups k call.Sync on own names inside = absurd on
names_group groups k call.Home on own names inside = absurd on
names_group groups k call.Gc on own names inside = absurd on

can_decide : (s : StateValue) (t : Table) (layouts : Layouts) (made : Call) → IsGroupOf s t layouts → ((key : Key) → key_of made ≡ Some key → IsSome (row_of t key)) → CanDecide s made
can_decide s t layouts (call.Link key) is row = (t, layouts, is, row key refl)
can_decide s t layouts (call.Unlink key) is row = (t, layouts, is, row key refl)
can_decide s t layouts (call.Grow key count) is row = (t, layouts, is, row key refl)
can_decide s t layouts (call.Cut key count) is row = (t, layouts, is, row key refl)
can_decide s t layouts (call.Stat key) is row = (t, layouts, is, row key refl)
can_decide s t layouts made is row = (t, layouts, is)

-- ---- the group of a call

pub inside_of : Holders → (known : Bool) (g : Geometry) (start t : Table) (layouts : Layouts) (story : MountRecord) (groups : List (GroupValue StateValue)) (s : State) (cells : List Cell) (k actor : ℕ) (made : Call)
    → AreRunning known g start t layouts story groups s cells → IsCallIn g.groups k story.entries actor made → k < g.groups
inside_of holders known g start t layouts story groups s cells k actor made are asks =
    let shape = shape_of g t layouts story groups are.groups_of in
    names_group g.groups k made asks.kind asks.own asks.names (λ key own.
    subst (λ (n : ℕ). group_number key < n) shape.groups (open_inside t key (open_key holders start t story g.groups k actor made are.told asks key own)))

pub found_group : Holders → (known : Bool) (g : Geometry) (start t : Table) (layouts : Layouts) (story : MountRecord) (groups : List (GroupValue StateValue)) (s : State) (cells : List Cell) (k actor : ℕ) (made : Call)
    → AreRunning known g start t layouts story groups s cells → IsCallIn g.groups k story.entries actor made
    → (k < length groups) × ((group : GroupValue StateValue) → slice_get groups k ≡ Some group → (call_group made ≡ Some group.state.group) × CanDecide group.state made)
found_group holders known g start t layouts story groups s cells k actor made are asks =
    let inside = inside_of holders known g start t layouts story groups s cells k actor made are asks in (
      omega (arith, inside, are.groups_of.count),
      λ group at.
          let is = are.groups_of.each k group at in (
            asks.own ∙ ap (λ (n : ℕ). Some n) (sym is.group_is),
            can_decide group.state t layouts made is.represents (λ key own. some_open (row_of t key) (open_key holders start t story g.groups k actor made are.told asks key own)),
          ),
    )
