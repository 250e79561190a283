-- What a call in a group comes to may be made.
use Rattle.std.proofs.Common.{◌≡◌, ◌<◌, ℕ, Bool, false, List, Option, None, Some, length, replicate, slice_get, refl, ap, sym, subst, ◌∙◌, arith}
use Rattle.std.specs.Prelude.{IsSomeAnd}
use Rattle.std.specs.List.{All}
use Rattle.std.proofs.lemmas.Bool.{true≢false}
use Rattle.life_bytes.specs.declared.sector.Sector.{Sector}
use Rattle.life_bytes.specs.Sectors.{zero_sector}
use Rattle.disk_model.specs.Disk.{Cell}
use Rattle.geometry.specs.declared.shape.Geometry.{Geometry}
use Rattle.geometry.specs.Places.{anchor_of}
use Rattle.geometry.specs.Shape.{IsGeometry}
use Rattle.log_record.specs.declared.image.Commit.{Commit}
use Rattle.log_image.specs.Log.{IsGroupImage}
use Rattle.log_batch.specs.Newest.{IsCommit}
use Rattle.log_store.specs.State.{State}
use Rattle.life_table.specs.declared.key.Key.{Key}
use Rattle.life_table.specs.declared.types.Call.{Call}
use Rattle.life_table.specs.declared.types.Call.TheVariants as call
use Rattle.life_table.specs.declared.types.Reply.{Reply}
use Rattle.life_table.specs.declared.types.Reply.TheVariants as reply
use Rattle.life_table.specs.declared.types.Event.TheVariants.{Called}
use Rattle.life_table.specs.declared.types.MountRecord.{MountRecord}
use Rattle.life_table.specs.declared.table.Table.{Table}
use Rattle.life_table.specs.Table.{row_of}
use Rattle.life_table.specs.Legal.{CanMake, IsNoHold, IsOfTable, IsOpen, Legal, Permits, after_call}
use Rattle.life_table.specs.Replies.{reply_of}
use Rattle.life_table.specs.History.{closed, is_change, key_of}
use Rattle.sound_image.specs.Encoding.{CanEncode, Layouts}
use Rattle.commit_history.specs.Carried.{CommitCarries}
use Rattle.group_core.specs.GroupHistory.{HappensUnheld, call_group}
use Rattle.group_core.specs.Value.{GroupValue}
use Rattle.group_frame.specs.Frames.{AgreesAt, alone}
use Rattle.group_ops.specs.declared.delta.Delta.{Delta}
use Rattle.group_ops.specs.OwnTable.{TakesTo, own_table}
use Rattle.group_ops.specs.Represents.{IsGroupOf}
use Rattle.group_ops.specs.Staging.{ChangeValue, IsCommitOf, Leads}
use Rattle.group_ops.specs.Values.{StateValue}
use Rattle.mounted_calls.specs.Calls.{IsOnGroup, NamesGroup, entry_of}
use Rattle.mounted_calls.specs.Decisions.{CallComesTo, FitsLog, IsCallIn, MaySettle, MayTake}
use Rattle.mounted_calls.specs.Running.{AreRunning}
use Rattle.mounted_calls.proofs.Asked.{Holders, can_encode, inside_of, open_key, shape_of}
use Rattle.mounted_calls.proofs.Closing.{Holdless, carries_closed}

-- ---- the kinds of calls

pub no_hold : (made : Call) → IsOnGroup made → IsNoHold made
no_hold (call.OpenKey key) on = absurd on
no_hold (call.CloseKey key) on = absurd on
no_hold made on = tt

of_table : (made : Call) → IsOnGroup made → IsOfTable made
of_table call.Sync on = absurd on
of_table call.Home on = absurd on
of_table made on = tt

can_make : (t : Table) (groups : ℕ) (made : Call) → length t.groups ≡ groups → IsOnGroup made → NamesGroup groups made → ((key : Key) → key_of made ≡ Some key → IsOpen (row_of t key)) → CanMake t made
can_make t groups (call.Create group) same on names opened = omega (arith, same, names)
can_make t groups (call.Tmpfile group) same on names opened = omega (arith, same, names)
can_make t groups (call.Link key) same on names opened = opened key refl
can_make t groups (call.Unlink key) same on names opened = opened key refl
can_make t groups (call.Grow key count) same on names opened = opened key refl
can_make t groups (call.Cut key count) same on names opened = opened key refl
can_make t groups (call.Stat key) same on names opened = opened key refl
can_make t groups (call.CloseKey key) same on names opened = absurd on
can_make t groups made same on names opened = tt

-- a call of a group that is no change leaves every table
pub unchanged : (t : Table) (made : Call) (answer : Reply) → IsOnGroup made → is_change (Called made answer) ≡ false → after_call t made answer ≡ t
unchanged t (call.Create group) (reply.Made key) on none = absurd (true≢false none)
unchanged t (call.Tmpfile group) (reply.Made key) on none = absurd (true≢false none)
unchanged t (call.Link key) reply.Done on none = absurd (true≢false none)
unchanged t (call.Unlink key) reply.Done on none = absurd (true≢false none)
unchanged t (call.Grow key count) reply.Done on none = absurd (true≢false none)
unchanged t (call.Cut key count) reply.Done on none = absurd (true≢false none)
unchanged t (call.OpenKey key) answer on none = absurd on
unchanged t (call.CloseKey key) answer on none = absurd on
unchanged t made answer on none = refl

-- ---- what the law of calls gives

abbrev pub Computed : Type 0
Computed = (t : Table) (made : Call) → IsOfTable made → CanMake t made → Permits t made (reply_of t made)

pub permitted : Holders → Computed → (known : Bool) (g : Geometry) (start t : Table) (layouts : Layouts) (story : MountRecord) (groups : List (GroupValue StateValue)) (s : State) (cells : List Cell) (k actor : ℕ) (made : Call)
    → AreRunning known g start t layouts story groups s cells → IsCallIn g.groups k story.entries actor made → Permits t made (reply_of t made)
permitted holders computed known g start t layouts story groups s cells k actor made are asks =
    let shape = shape_of g t layouts story groups are.groups_of in
    computed t made (of_table made asks.kind) (can_make t g.groups made shape.groups asks.kind asks.names (open_key holders start t story g.groups k actor made are.told asks))

-- ---- what may be made

-- the laws of groups that are used
pub record Making : Type 0 where
  pub own : (s : StateValue) (t : Table) (layouts : Layouts) → IsGeometry s.geometry → s.group < s.geometry.groups → IsGroupOf s t layouts → own_table s ≡ closed (alone t s.group)
  pub events : (s : StateValue) (d : Delta) (t : Table) (layouts others : Layouts) (called : Call) (answer : Reply) → IsGeometry s.geometry
      → s.group < s.geometry.groups → Leads s d t layouts (after_call t called answer) others → Permits t called answer → IsNoHold called → call_group called ≡ Some s.group
      → TakesTo s d (closed (alone (after_call t called answer) s.group))
      × HappensUnheld (own_table s) (Called called answer) (closed (alone (after_call t called answer) s.group))
  pub agrees : (t : Table) (g : ℕ) → g < length t.groups → AgreesAt g t (alone t g)
  pub permits : (g : ℕ) (t u : Table) (called : Call) (answer : Reply) → call_group called ≡ Some g → AgreesAt g t u → Permits t called answer → Permits u called answer
  pub unheld : (t u : Table) (called : Call) (answer : Reply) → IsNoHold called → Legal t called answer u → HappensUnheld (closed t) (Called called answer) (closed u)
  pub holdless : Holdless
  pub fits : (g : Geometry) (t u : Table) (layouts others : Layouts) (sectors : List Sector) (commit : Commit) → CanEncode g t layouts sectors → CommitCarries g t layouts u others commit
      → IsCommit commit × All (IsGroupImage (anchor_of g)) commit.images
  pub encodes : (g : Geometry) (t : Table) (layouts : Layouts) (image : List Sector) → CanEncode g t layouts image → CanEncode g (closed t) layouts image

-- a reply that is no change may be noted
may_note : Making → (s : StateValue) (t : Table) (layouts : Layouts) (made : Call) (answer : Reply) → IsGeometry s.geometry → s.group < s.geometry.groups → s.group < length t.groups → IsGroupOf s t layouts
    → IsOnGroup made → call_group made ≡ Some s.group → Permits t made answer → is_change (Called made answer) ≡ false → HappensUnheld (own_table s) (Called made answer) (own_table s)
may_note laws s t layouts made answer shape inside low is on own permits none =
    let k : ℕ = s.group in
    let here : Permits (alone t k) made answer = laws.permits k t (alone t k) made answer own (laws.agrees t k low) permits in
    let stays : alone t k ≡ after_call (alone t k) made answer = sym (unchanged (alone t k) made answer on none) in
    let happens : HappensUnheld (closed (alone t k)) (Called made answer) (closed (alone t k)) = laws.unheld (alone t k) (alone t k) made answer (no_hold made on) (here, stays) in
    subst (λ (u : Table). HappensUnheld u (Called made answer) u) (sym (laws.own s t layouts shape inside is)) happens

commit_fits : Making → (s : StateValue) (d : Delta) (t u : Table) (layouts others : Layouts) (g : Geometry) → s.geometry ≡ g → IsGeometry g → s.group < s.geometry.groups → CanEncode g t layouts (replicate (anchor_of g) zero_sector)
    → Leads s d t layouts u others → (o : Option Commit) → IsSomeAnd o (IsCommitOf s t layouts u others) → IsSomeAnd o (FitsLog (anchor_of g))
commit_fits laws s d t u layouts others g geometry shape inside can leads None of = absurd of
commit_fits laws s d t u layouts others g geometry shape inside can leads (Some commit) of =
    let carries : CommitCarries g (closed t) layouts (closed u) others commit =
    subst (λ (h : Geometry). CommitCarries h (closed t) layouts (closed u) others commit) geometry (carries_closed laws.holdless s d t u layouts others commit inside leads of) in
    laws.fits g (closed t) (closed u) layouts others (replicate (anchor_of g) zero_sector) commit (laws.encodes g t layouts (replicate (anchor_of g) zero_sector) can) carries

pub may_be_made : Holders → Computed → Making → (known : Bool) (g : Geometry) (start t : Table) (layouts : Layouts) (story : MountRecord) (groups : List (GroupValue StateValue)) (s : State) (cells : List Cell) (k actor : ℕ) (made : Call)
    (group : GroupValue StateValue) (answer : Reply) (change : Option ChangeValue) → AreRunning known g start t layouts story groups s cells → IsCallIn g.groups k story.entries actor made
    → slice_get groups k ≡ Some group → answer ≡ reply_of t made → CallComesTo group.state t layouts made answer change
    → MaySettle (entry_of actor made answer) change group.state × MayTake (anchor_of g) change
may_be_made holders computed laws known g start t layouts story groups s cells k actor made group answer None are asks at told none =
    let is = are.groups_of.each k group at in
    let shape = shape_of g t layouts story groups are.groups_of in
    let low = inside_of holders known g start t layouts story groups s cells k actor made are asks in
    let right : IsGeometry group.state.geometry = subst IsGeometry (sym is.geometry) are.groups_of.shape in
    let groups_are : group.state.geometry.groups ≡ g.groups = ap (λ (h : Geometry). h.groups) is.geometry in
    let own : call_group made ≡ Some group.state.group = asks.own ∙ ap (λ (n : ℕ). Some n) (sym is.group_is) in
    let permits : Permits t made answer = subst (Permits t made) (sym told) (permitted holders computed known g start t layouts story groups s cells k actor made are asks) in
    ((may_note laws group.state t layouts made answer right (omega (arith, low, groups_are, is.group_is)) (omega (arith, low, shape.groups, is.group_is)) is.represents asks.kind own permits none, own), tt)
may_be_made holders computed laws known g start t layouts story groups s cells k actor made group answer (Some change) are asks at told (changes, (others, tells)) =
    let is = are.groups_of.each k group at in
    let shape = shape_of g t layouts story groups are.groups_of in
    let low = inside_of holders known g start t layouts story groups s cells k actor made are asks in
    let right : IsGeometry group.state.geometry = subst IsGeometry (sym is.geometry) are.groups_of.shape in
    let groups_are : group.state.geometry.groups ≡ g.groups = ap (λ (h : Geometry). h.groups) is.geometry in
    let own : call_group made ≡ Some group.state.group = asks.own ∙ ap (λ (n : ℕ). Some n) (sym is.group_is) in
    let permits : Permits t made answer = subst (Permits t made) (sym told) (permitted holders computed known g start t layouts story groups s cells k actor made are asks) in
    let inside : group.state.group < group.state.geometry.groups = omega (arith, low, groups_are, is.group_is) in
    let event = laws.events group.state change.delta t layouts others made answer right inside tells.leads permits (no_hold made asks.kind) own in (
      ((closed (alone (after_call t made answer) group.state.group), event.0, event.1), own),
      commit_fits laws group.state change.delta t (after_call t made answer) layouts others g is.geometry are.groups_of.shape inside (can_encode g t layouts are.groups_of.shape shape) tells.leads change.commit tells.commit,
    )
