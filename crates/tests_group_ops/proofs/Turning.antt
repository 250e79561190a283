-- Changes whose events happen to a group.
use Rattle.std.proofs.Common.{◌≡◌, ◌==◌, ◌<◌, ℕ, true, List, Option, None, Some, length, get_or, refl, sym, ap, subst, ◌∙◌, arith}
use Rattle.std.specs.Prelude.{IsSomeAnd, false, is_none}
use Rattle.std.proofs.lemmas.Bool.{eqb-true, true≢false}
use Rattle.std.proofs.lemmas.List.Elements.{All-get_or}
use Rattle.geometry.specs.Shape.{IsGeometry}
use Rattle.log_record.specs.declared.image.Commit.{Commit}
use Rattle.life_table.specs.declared.key.Key.{Key}
use Rattle.life_table.specs.declared.types.Row.{Row}
use Rattle.life_table.specs.declared.types.Call.{Call}
use Rattle.life_table.specs.declared.types.Reply.{Reply}
use Rattle.life_table.specs.declared.types.Reply.TheVariants as reply
use Rattle.life_table.specs.declared.types.Event.{Event}
use Rattle.life_table.specs.declared.types.Event.TheVariants.{Called, Freed}
use Rattle.life_table.specs.declared.table.Table.{Table}
use Rattle.life_table.specs.History.{closed, closed_row}
use Rattle.life_table.specs.Legal.{Awaits, IsNoHold, Permits, after_call, freed}
use Rattle.life_table.specs.Table.{group_number, row_of}
use Rattle.sound_image.specs.Encoding.{Layouts, is_unlinked_row}
use Rattle.group_core.specs.GroupHistory.{HappensUnheld, IsInGroup, call_group}
use Rattle.group_frame.specs.Frames.{alone}
use Rattle.group_ops.specs.declared.delta.Delta.{Delta}
use Rattle.group_ops.specs.Calls.{FreesKey, Makes, relisted_by}
use Rattle.group_ops.specs.Creating.{Creates, creation}
use Rattle.group_ops.specs.Orphans.{AreOrphansOf}
use Rattle.group_ops.specs.OwnTable.{TakesTo, own_table}
use Rattle.group_ops.specs.Represents.{IsGroupOf}
use Rattle.group_ops.specs.Staging.{ChangeValue, IsCommitOf, Leads, Tells, handed_over}
use Rattle.group_ops.specs.Values.{StateValue}
use Rattle.tests_group_ops.specs.Standing.{IsFirst, MayMake}
use Rattle.tests_group_ops.proofs.Permitting.{IsOnRow, makes, making_group, making_holds_none, no_hold, permits}
use Rattle.tests_group_ops.proofs.Standing.{inside}

-- what the law of calls and of frees gives
abbrev pub CallHappens : Type 0
CallHappens = (s : StateValue) (d : Delta) (t : Table) (layouts others : Layouts) (called : Call) (answer : Reply) → IsGeometry s.geometry
    → s.group < s.geometry.groups → Leads s d t layouts (after_call t called answer) others → Permits t called answer → IsNoHold called → call_group called ≡ Some s.group
    → TakesTo s d (closed (alone (after_call t called answer) s.group))
    × HappensUnheld (own_table s) (Called called answer) (closed (alone (after_call t called answer) s.group))

abbrev pub FreeHappens : Type 0
FreeHappens = (s : StateValue) (d : Delta) (t : Table) (layouts others : Layouts) (key : Key) → IsGeometry s.geometry → s.group < s.geometry.groups
    → Leads s d t layouts (freed t key) others → IsSomeAnd (row_of t key) Awaits → group_number key ≡ s.group
    → TakesTo s d (closed (alone (freed t key) s.group)) × HappensUnheld (own_table s) (Freed key) (closed (alone (freed t key) s.group))

has_commit : (s : StateValue) (t u : Table) (layouts others : Layouts) (commit : Option Commit) → IsSomeAnd commit (IsCommitOf s t layouts u others) → is_none commit ≡ false
has_commit s t u layouts others None is = absurd is
has_commit s t u layouts others (Some commit) is = refl

-- the change to the table after an event that may happen
may_make : (s : StateValue) (change : ChangeValue) (event : Event) (t u : Table) (layouts others : Layouts) → Tells s change t layouts u others
    → TakesTo s change.delta (closed (alone u s.group)) × HappensUnheld (own_table s) event (closed (alone u s.group)) → IsInGroup s.group event → MayMake event s change
may_make s change event t u layouts others tells is own =
    record { after = closed (alone u s.group); takes = is.0; happens = is.1; own = own; commit = has_commit s t u layouts others change.commit tells.commit }

-- that of a call on a key
made_on : CallHappens → (s : StateValue) (change : ChangeValue) (key : Key) (called : Call) → IsFirst s → IsOnRow called → call_group called ≡ Some s.group
    → ((t : Table) (layouts : Layouts) → IsGroupOf s t layouts → Makes s change t layouts key called) → MayMake (Called called reply.Done) s change
made_on happens s change key called stands on own so =
    let r = stands.represents in
    let t : Table = r.0 in
    let u : Table = after_call t called reply.Done in
    let is = so t r.1 r.2 in
    let event = happens s change.delta t r.1 (relisted_by r.1 key (row_of t key) (row_of u key)) called reply.Done stands.shape (inside s stands) is.tells.leads (permits t called on is.replies) (no_hold called on) own in
    may_make s change (Called called reply.Done) t u r.1 (relisted_by r.1 key (row_of t key) (row_of u key)) is.tells event own

-- the state that was seen is the group's
pub made : CallHappens → (s seen : StateValue) (change : ChangeValue) (key : Key) (called : Call) → seen ≡ s → IsFirst s → IsOnRow called → call_group called ≡ Some s.group
    → ((t : Table) (layouts : Layouts) → IsGroupOf seen t layouts → Makes seen change t layouts key called) → MayMake (Called called reply.Done) s change
made happens s seen change key called same stands on own so =
    made_on happens s change key called stands on own (subst (λ (x : StateValue). (t : Table) (layouts : Layouts) → IsGroupOf x t layouts → Makes x change t layouts key called) same so)

-- that of a create
created_on : CallHappens → (s : StateValue) (change : ChangeValue) (key : Key) (links : ℕ) → IsFirst s
    → ((t : Table) (layouts : Layouts) → IsGroupOf s t layouts → Creates s change t layouts key (creation s.group links)) → MayMake (Called (creation s.group links) (reply.Made key)) s change
created_on happens s change key links stands so =
    let r = stands.represents in
    let t : Table = r.0 in
    let called : Call = creation s.group links in
    let u : Table = after_call t called (reply.Made key) in
    let is = so t r.1 r.2 in
    let own : call_group called ≡ Some s.group = making_group s.group (links == 0) in
    let low : s.group < length t.groups = omega (arith, r.2.groups, inside s stands) in
    let event = happens s change.delta t r.1 (relisted_by r.1 key (row_of t key) (row_of u key)) called (reply.Made key) stands.shape (inside s stands) is.tells.leads (makes t s.group key (links == 0) low is.replies) (making_holds_none s.group (links == 0)) own in
    may_make s change (Called called (reply.Made key)) t u r.1 (relisted_by r.1 key (row_of t key) (row_of u key)) is.tells event own

pub created : CallHappens → (s seen : StateValue) (change : ChangeValue) (key : Key) (links : ℕ) → seen ≡ s → IsFirst s
    → ((t : Table) (layouts : Layouts) → IsGroupOf seen t layouts → Creates seen change t layouts key (creation seen.group links)) → MayMake (Called (creation 0 links) (reply.Made key)) s change
created happens s seen change key links same stands so =
    subst (λ (g : ℕ). MayMake (Called (creation g links) (reply.Made key)) s change) stands.first (
    created_on happens s change key links stands (
    subst (λ (x : StateValue). (t : Table) (layouts : Layouts) → IsGroupOf x t layouts → Creates x change t layouts key (creation x.group links)) same so
    )
    )

-- that of a free
freed_so : FreeHappens → (s : StateValue) (change : ChangeValue) (key : Key) (t : Table) (layouts : Layouts) → IsFirst s → group_number key ≡ s.group
    → IsSomeAnd (row_of t key) Awaits → FreesKey s change t layouts key → MayMake (Freed key) s change
freed_so happens s change key t layouts stands own awaits frees =
    let u : Table = freed t key in
    let event = happens s change.delta t layouts (relisted_by layouts key (row_of t key) (row_of u key)) key stands.shape (inside s stands) frees.leads awaits own in
    may_make s change (Freed key) t u layouts (relisted_by layouts key (row_of t key) (row_of u key)) frees event own

pub freed_seen : FreeHappens → (s seen : StateValue) (change : ChangeValue) (key : Key) (t : Table) (layouts : Layouts) → seen ≡ s → IsFirst s → group_number key ≡ s.group
    → IsSomeAnd (row_of t key) Awaits → FreesKey seen change t layouts key → MayMake (Freed key) s change
freed_seen happens s seen change key t layouts same stands own awaits frees =
    freed_so happens s change key t layouts stands own awaits (subst (λ (x : StateValue). FreesKey x change t layouts key) same frees)

-- once there is room for it and its commit is handed out, it still happens by the change
pub still_happens : (s roomy : StateValue) (change after : ChangeValue) (event : Event) → own_table roomy ≡ own_table s
    → ((next : ChangeValue) (u : Table) → TakesTo s next.delta u → TakesTo roomy next.delta u) → after ≡ handed_over change → MayMake event s change
    → (u : Table) × TakesTo roomy after.delta u × HappensUnheld (own_table roomy) event u
still_happens s roomy change after event table takes same may = (
  may.after,
  subst (λ (x : ChangeValue). TakesTo roomy x.delta may.after) (sym same) (takes change may.after may.takes),
  subst (λ (t : Table). HappensUnheld t event may.after) (sym table) may.happens,
)

-- a row without links that nobody holds awaits being freed
awaits_closed : (row : Option Row) → is_unlinked_row row ≡ true → IsSomeAnd (closed_row row) Awaits
awaits_closed None e = absurd (true≢false (sym e))
awaits_closed (Some row) e = (eqb-true row.links 0 e, refl)

pub listed_awaits : (t : Table) (group : ℕ) (keys : List Key) (place : ℕ) (key : Key) → AreOrphansOf t group keys → place < length keys
    → key ≡ get_or keys place key → row_of (closed t) key ≡ closed_row (row_of t key) → IsSomeAnd (row_of (closed t) key) Awaits
listed_awaits t group keys place key are low is rows =
    let unlinked : is_unlinked_row (row_of t key) ≡ true =
    subst (λ (k : Key). is_unlinked_row (row_of t k) ≡ true) (sym is) (All-get_or (λ (k : Key). is_unlinked_row (row_of t k) ≡ true) keys place key low are.rows) in
    subst (λ (row : Option Row). IsSomeAnd row Awaits) (sym rows) (awaits_closed (row_of t key) unlinked)
