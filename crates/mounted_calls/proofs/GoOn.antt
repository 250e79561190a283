-- A mount once a call in a group is made.
use Rattle.std.proofs.Common.{◌≡◌, ◌≢◌, ◌<◌, ℕ, Bool, true, List, [], ◌∷◌, ◌++◌, Option, None, Some, length, slice_get, slice_set, refl, ap, sym, subst, ◌∙◌, arith}
use Rattle.std.specs.Prelude.{IsSomeAnd}
use Rattle.std.proofs.lemmas.Option.{same_Some}
use Rattle.disk_model.specs.Disk.{Cell}
use Rattle.geometry.specs.declared.shape.Geometry.{Geometry}
use Rattle.log_record.specs.declared.image.Commit.{Commit}
use Rattle.log_store.specs.State.{State}
use Rattle.life_table.specs.declared.types.Call.{Call}
use Rattle.life_table.specs.declared.types.Call.TheVariants as call
use Rattle.life_table.specs.declared.types.Reply.{Reply}
use Rattle.life_table.specs.declared.types.Reply.TheVariants as reply
use Rattle.life_table.specs.declared.types.Event.TheVariants.{Called}
use Rattle.life_table.specs.declared.types.Entry.{Entry}
use Rattle.life_table.specs.declared.types.MountRecord.{MountRecord}
use Rattle.life_table.specs.declared.table.Table.{Table}
use Rattle.life_table.specs.declared.types.Row.{Row}
use Rattle.life_table.specs.Table.{row_of}
use Rattle.life_table.specs.WellFormed.{IsTable}
use Rattle.life_table.specs.Legal.{KeyReplies, Permits, after_call}
use Rattle.life_table.specs.Replies.{reply_of}
use Rattle.life_table.specs.History.{After, Leads, changes, closed, is_change}
use Rattle.sound_image.specs.Encoding.{AreLayouts, Layouts}
use Rattle.encoded_changes.specs.Carry.{ChangesOnly}
use Rattle.commit_history.specs.Carried.{CommitCarries}
use Rattle.group_core.specs.Value.{GroupValue}
use Rattle.group_ops.specs.declared.delta.Delta.{Delta}
use Rattle.group_ops.specs.Changes.{changed_state, with_room}
use Rattle.group_ops.specs.Represents.{IsGroupOf}
use Rattle.group_ops.specs.Staging.{ChangeValue, IsCommitOf, Leads as LeadsTo}
use Rattle.group_ops.specs.Values.{StateValue}
use Rattle.orphan_frees.specs.Loaded.{IsGroupAt}
use Rattle.run_history.specs.Mounts.{covered}
use Rattle.mounted_calls.specs.Calls.{IsOnGroup, entry_of, roomless, with_call}
use Rattle.mounted_calls.specs.Decisions.{CallComesTo, IsCallIn, IsSettled, changing, noting, with_change, with_commit}
use Rattle.mounted_calls.specs.Running.{AreRunning, HasGroupsOf, IsLogOf, IsRecordOf}
use Rattle.mounted_calls.proofs.Allowed.{Computed, permitted, unchanged}
use Rattle.mounted_calls.proofs.Asked.{Holders, inside_of, open_key}
use Rattle.mounted_calls.proofs.Closing.{Holdless, carries_closed}
use Rattle.mounted_calls.proofs.Groups.{from_roomless, of_other, other_entry, own_entry, put_group, roomed, roomed_at, to_roomless}
use Rattle.mounted_calls.proofs.Growing.{log_grows, log_stays, record_more}
use Rattle.mounted_calls.proofs.Rows.{awaits_after}

-- no call of a group acknowledges a change
no_covered : (t : Table) (o : Option Row) (made : Call) (count : ℕ) → KeyReplies t o made (reply.Covered count) → ⊥
no_covered t None (call.Create group) count permits = permits
no_covered t None made count permits = permits
no_covered t (Some row) (call.Create group) count permits = permits
no_covered t (Some row) made count permits = permits

covers_none : (made : Call) (t : Table) (answer : Reply) → IsOnGroup made → Permits t made answer → covered (Called made answer) ≡ 0
covers_none (call.Create group) t (reply.Covered count) on permits = absurd permits
covers_none (call.Tmpfile group) t (reply.Covered count) on permits = absurd permits
covers_none (call.Link key) t (reply.Covered count) on permits = absurd (no_covered t (row_of t key) (call.Link key) count permits)
covers_none (call.Unlink key) t (reply.Covered count) on permits = absurd (no_covered t (row_of t key) (call.Unlink key) count permits)
covers_none (call.Grow key more) t (reply.Covered count) on permits = absurd (no_covered t (row_of t key) (call.Grow key more) count permits)
covers_none (call.Cut key more) t (reply.Covered count) on permits = absurd (no_covered t (row_of t key) (call.Cut key more) count permits)
covers_none (call.Stat key) t (reply.Covered count) on permits = absurd (no_covered t (row_of t key) (call.Stat key) count permits)
covers_none call.Sync t (reply.Covered count) on permits = absurd on
covers_none call.Home t (reply.Covered count) on permits = absurd on
covers_none call.Gc t (reply.Covered count) on permits = absurd on
covers_none (call.OpenKey key) t (reply.Covered count) on permits = absurd on
covers_none (call.CloseKey key) t (reply.Covered count) on permits = absurd on
covers_none (call.FlushInodes group) t (reply.Covered count) on permits = absurd on
covers_none (call.Reclaim group) t (reply.Covered count) on permits = absurd on
covers_none made t answer on permits = refl

-- the law of histories that is used
abbrev pub AllChanges : Type 0
AllChanges = (u v : Table) (entries : List Entry) → Leads u entries v → After u entries (length (changes entries)) ≡ closed v

-- a group that a change of another one leaves
left_alone : (g : Geometry) (t u : Table) (layouts others : Layouts) (of k other : ℕ) (s : StateValue) → of ≡ k → k ≢ other → IsTable u → AreLayouts u others → length u.groups ≡ g.groups → u.blocks ≡ g.blocks
    → ChangesOnly of t layouts u others → IsGroupAt g t layouts other s → IsGroupAt g u others other s
left_alone g t u layouts others of k other s same apart table layouts_of groups blocks only is =
    let differ : s.group ≢ of = λ e. apart (sym same ∙ sym e ∙ is.group_is) in
    record {
      geometry = is.geometry;
      group_is = is.group_is;
      represents = of_other s t u layouts others (record {
        table = table;
        layouts_of = layouts_of;
        groups = groups ∙ ap (λ (h : Geometry). h.groups) (sym is.geometry);
        blocks = blocks ∙ ap (λ (h : Geometry). h.blocks) (sym is.geometry);
        chunks = only.chunks s.group differ;
        layout = only.layouts_of s.group differ;
      }) is.represents;
    }

-- the group that was changed
group_changed : (g : Geometry) (t u : Table) (layouts others : Layouts) (k : ℕ) (s : StateValue) (d : Delta) → IsGroupAt g t layouts k s → IsGroupOf (changed_state s d) u others
    → IsGroupAt g u others k (with_room (changed_state s d) 0)
unfolding changed_state
group_changed g t u layouts others k s d is after = record { geometry = is.geometry; group_is = is.group_is; represents = roomed (changed_state s d) 0 u others after }

-- what the state after a change says of the whole table
record IsWhole (g : Geometry) (u : Table) (others : Layouts) : Type 0 where
  pub table : IsTable u
  pub layouts_of : AreLayouts u others
  pub groups : length u.groups ≡ g.groups
  pub blocks : u.blocks ≡ g.blocks

whole_after : (g : Geometry) (s : StateValue) (d : Delta) (u : Table) (others : Layouts) → s.geometry ≡ g → IsGroupOf (changed_state s d) u others → IsWhole g u others
unfolding changed_state
whole_after g s d u others same after = record {
  table = after.table;
  layouts_of = after.layouts_of;
  groups = after.groups ∙ ap (λ (h : Geometry). h.groups) same;
  blocks = after.blocks ∙ ap (λ (h : Geometry). h.blocks) same;
}

-- the log with the commit of a change, whichever commit the change has
log_with : (known : Bool) (g : Geometry) (start t : Table) (layouts others : Layouts) (story : MountRecord) (actor : ℕ) (made : Call) (answer : Reply) (s : State) (cells : List Cell) (state : StateValue) (d : Delta)
    → AllChanges → Holdless → IsRecordOf start t story → IsRecordOf start (after_call t made answer) (with_call story actor made answer) → IsLogOf known g start layouts story s cells
    → is_change (Called made answer) ≡ true → covered (Called made answer) ≡ 0 → state.geometry ≡ g → state.group < state.geometry.groups → LeadsTo state d t layouts (after_call t made answer) others
    → (o : Option Commit) → IsSomeAnd o (IsCommitOf state t layouts (after_call t made answer) others)
    → IsLogOf known g start others (with_call story actor made answer) (record s { list = with_commit s.list o }) cells
log_with known g start t layouts others story actor made answer s cells state d all laws of next is change covers geometry inside leads None commit = absurd commit
log_with known g start t layouts others story actor made answer s cells state d all laws of next is change covers geometry inside leads (Some commit) commits =
    log_grows known g start t layouts others story actor made answer s cells commit all of next is change covers
    (subst (λ (h : Geometry). CommitCarries h (closed t) layouts (closed (after_call t made answer)) others commit) geometry
    (carries_closed laws state d t (after_call t made answer) layouts others commit inside leads commits))

pub made_on : Holders → Computed → AllChanges → Holdless → (known : Bool) (g : Geometry) (start t : Table) (layouts : Layouts) (story : MountRecord) (groups new : List (GroupValue StateValue)) (s : State) (cells : List Cell) (k actor : ℕ) (made : Call)
    (group : GroupValue StateValue) (answer : Reply) (change : Option ChangeValue) → AreRunning known g start t layouts story groups s cells → IsCallIn g.groups k story.entries actor made
    → slice_get groups k ≡ Some group → answer ≡ reply_of t made → CallComesTo group.state t layouts made answer change → IsSettled k (entry_of actor made answer) change groups new
    → (others : Layouts) × AreRunning known g start (after_call t made answer) others (with_call story actor made answer) new (record s { list = with_change s.list change }) cells
made_on holders computed all laws known g start t layouts story groups new s cells k actor made group answer None are asks at told none noted =
    let permits : Permits t made answer = subst (Permits t made) (sym told) (permitted holders computed known g start t layouts story groups s cells k actor made are asks) in
    let stays : after_call t made answer ≡ t = unchanged t made answer asks.kind none in
    let awaits = awaits_after t made answer asks.kind are.told.awaits (open_key holders start t story g.groups k actor made are.told asks) in
    let next = record_more start t story actor made answer are.told permits asks.held awaits in
    let entry : Entry = entry_of actor made answer in
    let same : noted.group ≡ group = same_Some noted.group group (sym noted.found ∙ at) in
    let put : HasGroupsOf g t layouts (with_call story actor made answer) (slice_set (roomless groups) k (noting noted.group entry)) =
    put_group g t t layouts layouts story (with_call story actor made answer) k (roomless groups) (noting noted.group entry) (to_roomless g t layouts story groups are.groups_of)
    (roomed_at g noted.group.state 0 k t layouts (are.groups_of.each k noted.group noted.found))
    (ap (λ (es : List Entry). es ++ entry ∷ []) (are.groups_of.histories k noted.group noted.found) ∙ sym (own_entry k story actor made answer are.told.begun asks.own))
    (λ other apart. other_entry k other story actor made answer are.told.begun asks.own apart)
    (λ other of apart is. is) in
    let groups_then = from_roomless g t layouts (with_call story actor made answer) new (subst (HasGroupsOf g t layouts (with_call story actor made answer)) (sym noted.put) put) in (
      layouts,
      record {
        told = next;
        groups_of = subst (λ (u : Table). HasGroupsOf g u layouts (with_call story actor made answer) new) (sym stays) groups_then;
        log = log_stays known g start t layouts story actor made answer s cells are.told are.log none (omega (arith, covers_none made t answer asks.kind permits));
      },
    )
made_on holders computed all laws known g start t layouts story groups new s cells k actor made group answer (Some change) are asks at told (changes_it, (others, tells)) done =
    let permits : Permits t made answer = subst (Permits t made) (sym told) (permitted holders computed known g start t layouts story groups s cells k actor made are asks) in
    let low = inside_of holders known g start t layouts story groups s cells k actor made are asks in
    let awaits = awaits_after t made answer asks.kind are.told.awaits (open_key holders start t story g.groups k actor made are.told asks) in
    let next = record_more start t story actor made answer are.told permits asks.held awaits in
    let u : Table = after_call t made answer in
    let entry : Entry = entry_of actor made answer in
    let is = are.groups_of.each k group at in
    let same : done.group ≡ group = same_Some done.group group (sym done.found ∙ at) in
    let whole = whole_after g group.state change.delta u others is.geometry tells.leads.after in
    let groups_are : group.state.geometry.groups ≡ g.groups = ap (λ (h : Geometry). h.groups) is.geometry in
    let put : HasGroupsOf g u others (with_call story actor made answer) (slice_set (roomless groups) k (changing group entry change.delta)) =
    put_group g t u layouts others story (with_call story actor made answer) k (roomless groups) (changing group entry change.delta) (to_roomless g t layouts story groups are.groups_of)
    (group_changed g t u layouts others k group.state change.delta is tells.leads.after)
    (ap (λ (es : List Entry). es ++ entry ∷ []) (are.groups_of.histories k group at) ∙ sym (own_entry k story actor made answer are.told.begun asks.own))
    (λ other apart. other_entry k other story actor made answer are.told.begun asks.own apart)
    (λ other of apart there. left_alone g t u layouts others group.state.group k other of is.group_is apart whole.table whole.layouts_of whole.groups whole.blocks tells.leads.only there) in
    let seen : roomless new ≡ slice_set (roomless groups) k (changing group entry change.delta) = done.put ∙ ap (λ (x : GroupValue StateValue). slice_set (roomless groups) k (changing x entry change.delta)) same in (
      others,
      record {
        told = next;
        groups_of = from_roomless g u others (with_call story actor made answer) new (subst (HasGroupsOf g u others (with_call story actor made answer)) (sym seen) put);
        log = log_with known g start t layouts others story actor made answer s cells group.state change.delta all laws are.told next are.log changes_it (covers_none made t answer asks.kind permits) is.geometry
            (omega (arith, low, groups_are, is.group_is)) tells.leads change.commit tells.commit;
      },
    )
