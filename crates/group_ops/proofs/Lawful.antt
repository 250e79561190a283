-- What a change makes of the state's own table.
use Rattle.std.proofs.Common.{◌≡◌, ◌<◌, ℕ, zero, suc, Bool, true, false, List, [], ◌∷◌, Option, None, Some, length, refl, ap, sym, ◌∙◌, subst, arith, inl, inr}
use Rattle.std.specs.Prelude.{IfSome, IsSomeAnd, replicate, slice_set}
use Rattle.std.specs.Ordering.{nat_cmp}
use Rattle.std.specs.FinMap as finmap
use Rattle.std.specs.FinMap.{FinMap}
use Rattle.std.proofs.lemmas.Bool.{cases_eq}
use Rattle.std.proofs.lemmas.List.{length-set, length-replicate}
use Rattle.geometry.specs.Shape.{IsGeometry}
use Rattle.inode_cache.specs.declared.inode.Kept.{Kept}
use Rattle.inode_cache.specs.Caches.{dirty}
use Rattle.life_table.specs.declared.key.Key.{Key}
use Rattle.life_table.specs.declared.types.Call.{Call}
use Rattle.life_table.specs.declared.types.Reply.{Reply}
use Rattle.life_table.specs.declared.types.Event.TheVariants.{Called, Freed}
use Rattle.life_table.specs.declared.table.Table.{Table}
use Rattle.life_table.specs.History.{closed}
use Rattle.life_table.specs.Legal.{Awaits, Frees, IsNoHold, Legal, Permits, after_call, freed}
use Rattle.life_table.specs.Table.{Group, empty_table, group_at, group_number, row_of, with_group}
use Rattle.life_table.specs.WellFormed.{IsTable}
use Rattle.group_core.specs.GroupHistory.{HappensUnheld, call_group}
use Rattle.group_core.specs.InCore.{StaysInCore, changed}
use Rattle.group_frame.specs.Frames.{AgreesAt, alone}
use Rattle.sound_image.specs.Encoding.{Layouts}
use Rattle.group_ops.specs.declared.delta.Delta.{Delta}
use Rattle.group_ops.specs.declared.delta.Prior.{Prior}
use Rattle.group_ops.specs.Changes.{changed_state, core_of_prior, with_prior, with_room}
use Rattle.group_ops.specs.OwnTable.{TakesTo, by_dirt, own_table, told_cached}
use Rattle.group_ops.specs.Relinks.{IsPrior}
use Rattle.group_ops.specs.Represents.{IsGroupOf}
use Rattle.group_ops.specs.Staging.{ChangeValue, Leads, handed_over}
use Rattle.group_ops.specs.Values.{StateValue, kept_at}
use Rattle.group_ops.proofs.Keepings.{roomed}
use Rattle.group_ops.proofs.Kept.{put_other, put_same}
use Rattle.group_ops.proofs.Leading.{changed_geometry, changed_group, other_kept, own_kept}

-- ---- the group put into the table that has it alone

set_twice : (groups : List Group) (g : ℕ) (x y : Group) → slice_set (slice_set groups g x) g y ≡ slice_set groups g y
set_twice [] g x y = refl
set_twice (c ∷ cs) zero x y = refl
set_twice (c ∷ cs) (suc g) x y = ap (λ (l : List Group). c ∷ l) (set_twice cs g x y)

many_alone : (t : Table) (g : ℕ) → length (alone t g).groups ≡ length t.groups
many_alone t g =
    let none : Group = [] in
    length-set (replicate (length t.groups) none) g (group_at t g) ∙ length-replicate (length t.groups) none

-- a table of the same shape has the same chunks alone
pub alone_put : (t u : Table) (g : ℕ) → u.version ≡ t.version → u.blocks ≡ t.blocks → length u.groups ≡ length t.groups → alone u g ≡ with_group (alone t g) g (group_at u g)
alone_put t u g version blocks many =
    let none : Group = [] in
    ap (λ (v : ℕ). with_group (empty_table v (length u.groups) u.blocks) g (group_at u g)) version
    ∙ ap (λ (n : ℕ). with_group (empty_table t.version n u.blocks) g (group_at u g)) many
    ∙ ap (λ (b : ℕ). with_group (empty_table t.version (length t.groups) b) g (group_at u g)) blocks
    ∙ ap (λ (l : List Group). let x : Table = record { version = t.version; blocks = t.blocks; groups = l } in x) (sym (set_twice (replicate (length t.groups) none) g (group_at t g) (group_at u g)))

-- a table before a change and after it have one shape
pub record SameShape (t u : Table) : Type 0 where
  pub version : u.version ≡ t.version
  pub blocks : u.blocks ≡ t.blocks
  pub many : length u.groups ≡ length t.groups

pub leads_shape : (s : StateValue) (d : Delta) (t : Table) (layouts : Layouts) (u : Table) (others : Layouts) → Leads s d t layouts u others → SameShape t u
leads_shape s d t layouts u others leads =
    let geometry = changed_geometry s d in
    record {
      version = leads.after.table.version ∙ sym leads.before.table.version;
      blocks = leads.after.blocks ∙ ap (λ g. g.blocks) geometry ∙ sym leads.before.blocks;
      many = leads.after.groups ∙ ap (λ g. g.groups) geometry ∙ sym leads.before.groups;
    }

-- ---- events

pub record FrameLaws : Type 0 where
  pub agrees : (t : Table) (g : ℕ) → g < length t.groups → AgreesAt g t (alone t g)
  pub well_formed : (t : Table) (g : ℕ) → IsTable t → IsTable (alone t g)
  pub back : (g : ℕ) (t u : Table) → AgreesAt g t u → AgreesAt g u t
  pub permits : (g : ℕ) (t u : Table) (called : Call) (answer : Reply) → call_group called ≡ Some g → AgreesAt g t u → Permits t called answer → Permits u called answer
  pub put_call : (g : ℕ) (t u : Table) (called : Call) (answer : Reply) → IsTable t → call_group called ≡ Some g → g < length t.groups → AgreesAt g t u
      → Permits t called answer → after_call t called answer ≡ with_group t g (group_at (after_call u called answer) g)
  pub awaits : (g : ℕ) (t u v : Table) (key : Key) → group_number key ≡ g → AgreesAt g t u → Frees t key v → Frees u key (freed u key)
  pub put_free : (g : ℕ) (t u : Table) (key : Key) → group_number key ≡ g → g < length t.groups → AgreesAt g t u → freed t key ≡ with_group t g (group_at (freed u key) g)
  pub call : (t u : Table) (called : Call) (answer : Reply) → IsNoHold called → Legal t called answer u → HappensUnheld (closed t) (Called called answer) (closed u)
  pub free : (t u : Table) (key : Key) → Frees t key u → HappensUnheld (closed t) (Freed key) (closed u)
  pub table : (s : StateValue) (t : Table) (layouts : Layouts) → IsGeometry s.geometry → s.group < s.geometry.groups → IsGroupOf s t layouts → own_table s ≡ closed (alone t s.group)

call_alone : FrameLaws → (t : Table) (g : ℕ) (called : Call) (answer : Reply) → IsTable t → g < length t.groups → Permits t called answer → call_group called ≡ Some g → SameShape t (after_call t called answer)
    → Legal (alone t g) called answer (alone (after_call t called answer) g)
call_alone l t g called answer table low permitted own shape =
    let agrees = l.agrees t g low in
    let there = l.permits g t (alone t g) called answer own agrees permitted in
    let within : g < length (alone t g).groups = omega (arith, low, many_alone t g) in
    let put = l.put_call g (alone t g) t called answer (l.well_formed t g table) own within (l.back g t (alone t g) agrees) there in
    (there, alone_put t (after_call t called answer) g shape.version shape.blocks shape.many ∙ sym put)

pub call_happens : FrameLaws → (s : StateValue) (d : Delta) (t : Table) (layouts others : Layouts) (called : Call) (answer : Reply) → IsGeometry s.geometry → s.group < s.geometry.groups
    → Leads s d t layouts (after_call t called answer) others → Permits t called answer → IsNoHold called → call_group called ≡ Some s.group
    → TakesTo s d (closed (alone (after_call t called answer) s.group)) × HappensUnheld (own_table s) (Called called answer) (closed (alone (after_call t called answer) s.group))
call_happens l s d t layouts others called answer shape inside leads permitted unheld own =
    let is = leads.before in
    let after : Table = after_call t called answer in
    let low : s.group < length t.groups = omega (arith, inside, is.groups) in
    let legal = call_alone l t s.group called answer is.table low permitted own (leads_shape s d t layouts after others leads) in (
      record { before = t; layouts = layouts; after = after; others = others; leads = leads; table = refl },
      subst (λ (v : Table). HappensUnheld v (Called called answer) (closed (alone after s.group))) (sym (l.table s t layouts shape inside is))
          (l.call (alone t s.group) (alone after s.group) called answer unheld legal),
    )

free_alone : FrameLaws → (t : Table) (g : ℕ) (key : Key) → g < length t.groups → IsSomeAnd (row_of t key) Awaits → group_number key ≡ g → SameShape t (freed t key)
    → Frees (alone t g) key (alone (freed t key) g)
free_alone l t g key low awaits own shape =
    let agrees = l.agrees t g low in
    let there = l.awaits g t (alone t g) (freed t key) key own agrees (awaits, refl) in
    let within : g < length (alone t g).groups = omega (arith, low, many_alone t g) in
    let put = l.put_free g (alone t g) t key own within (l.back g t (alone t g) agrees) in
    (there.0, alone_put t (freed t key) g shape.version shape.blocks shape.many ∙ sym put)

pub free_happens : FrameLaws → (s : StateValue) (d : Delta) (t : Table) (layouts others : Layouts) (key : Key) → IsGeometry s.geometry → s.group < s.geometry.groups
    → Leads s d t layouts (freed t key) others → IsSomeAnd (row_of t key) Awaits → group_number key ≡ s.group
    → TakesTo s d (closed (alone (freed t key) s.group)) × HappensUnheld (own_table s) (Freed key) (closed (alone (freed t key) s.group))
free_happens l s d t layouts others key shape inside leads awaits own =
    let is = leads.before in
    let after : Table = freed t key in
    let low : s.group < length t.groups = omega (arith, inside, is.groups) in
    let legal = free_alone l t s.group key low awaits own (leads_shape s d t layouts after others leads) in (
      record { before = t; layouts = layouts; after = after; others = others; leads = leads; table = refl },
      subst (λ (v : Table). HappensUnheld v (Freed key) (closed (alone after s.group))) (sym (l.table s t layouts shape inside is)) (l.free (alone t s.group) (alone after s.group) key legal),
    )

-- ---- a change with more room, and with its commit handed out

prior_roomed : (s : StateValue) (room : ℕ) (t : Table) (layouts others : Layouts) (agino : ℕ) (prior : Option Prior) → IfSome prior (IsPrior s t layouts others agino)
    → IfSome prior (IsPrior (with_room s room) t layouts others agino)
prior_roomed s room t layouts others agino None is = is
prior_roomed s room t layouts others agino (Some prior) is = record {
  other = is.other;
  points = is.points;
  inode = is.inode;
  found = is.found;
  core = is.core;
  sector = is.sector;
}

changed_roomed : (s : StateValue) (d : Delta) (room : ℕ) → changed_state (with_room s room) d ≡ with_room (changed_state s d) room
unfolding changed_state
changed_roomed s d room = refl

leads_roomed : (s : StateValue) (d : Delta) (room : ℕ) (t : Table) (layouts : Layouts) (u : Table) (others : Layouts) → Leads s d t layouts u others → Leads (with_room s room) d t layouts u others
leads_roomed s d room t layouts u others leads = record {
  before = roomed s room t layouts leads.before;
  after = subst (λ (v : StateValue). IsGroupOf v u others) (sym (changed_roomed s d room)) (roomed (changed_state s d) room u others leads.after);
  only = leads.only;
  prior = prior_roomed s room t layouts others d.agino d.prior leads.prior;
  enough = leads.enough;
}

pub takes_roomed : (s : StateValue) (d : Delta) (room : ℕ) (u : Table) → TakesTo s d u → TakesTo (with_room s room) d u
takes_roomed s d room u takes = record {
  before = takes.before;
  layouts = takes.layouts;
  after = takes.after;
  others = takes.others;
  leads = leads_roomed s d room takes.before takes.layouts takes.after takes.others takes.leads;
  table = takes.table;
}

pub still_takes : (s : StateValue) (before after : ChangeValue) (u : Table) → after ≡ handed_over before → TakesTo s before.delta u → TakesTo s after.delta u
still_takes s before after u same takes = subst (λ (d : Delta). TakesTo s d u) (ap (λ (c : ChangeValue). c.delta) (sym same)) takes

-- ---- what the change leaves

-- the table that the state then has
pub table_after : ((s : StateValue) (t : Table) (layouts : Layouts) → IsGeometry s.geometry → s.group < s.geometry.groups → IsGroupOf s t layouts → own_table s ≡ closed (alone t s.group))
    → (s new : StateValue) (d : Delta) (room : ℕ) (u : Table) → IsGeometry s.geometry → s.group < s.geometry.groups → new ≡ with_room (changed_state s d) room → TakesTo s d u → own_table new ≡ u
table_after law s new d room u shape inside same takes =
    let after : StateValue = with_room (changed_state s d) room in
    let own : own_table after ≡ closed (alone takes.after after.group) =
    law after takes.after takes.others
    (subst IsGeometry (sym (changed_geometry s d)) shape)
    (omega (arith, inside, ap (λ g. g.groups) (changed_geometry s d), changed_group s d))
    (roomed (changed_state s d) room takes.after takes.others takes.leads.after) in
    ap own_table same ∙ own ∙ ap (λ (g : ℕ). closed (alone takes.after g)) (changed_group s d) ∙ sym takes.table

-- what is in core stays there, and what is dirty stays dirty
stays_same : (k : Option Kept) → StaysInCore (told_cached k) (told_cached k)
stays_same None = tt
stays_same (Some kept) = elim kept.dirty as (λ b. StaysInCore (by_dirt b) (by_dirt b)) [ true ↦ tt | false ↦ tt ]

stays_dirty : (k : Option Kept) (kept : Kept) → kept.dirty ≡ true → StaysInCore (told_cached k) (told_cached (Some kept))
stays_dirty None kept e = tt
stays_dirty (Some old) kept e =
    subst (λ (b : Bool). StaysInCore (by_dirt old.dirty) (by_dirt b)) (sym e) (elim old.dirty as (λ b. StaysInCore (by_dirt b) changed) [ true ↦ tt | false ↦ tt ])

prior_kept : (in_core : FinMap nat_cmp Kept) (prior : Prior) (agino : ℕ) (o : Option Kept) → finmap.get in_core prior.agino ≡ o
    → StaysInCore (told_cached (finmap.get in_core agino)) (told_cached (finmap.get (core_of_prior in_core prior o) agino))
prior_kept in_core prior agino None at = stays_same (finmap.get in_core agino)
prior_kept in_core prior agino (Some kept) at =
    let new : Kept = dirty (record { core = prior.core; blocks = kept.inode.blocks }) in
    elim (cases_eq agino prior.agino) [
      | inl same ↦
          subst (λ (k : Option Kept). StaysInCore (told_cached (finmap.get in_core agino)) (told_cached k))
          (sym (ap (λ (n : ℕ). finmap.get (finmap.insert in_core prior.agino new) n) same ∙ put_same in_core prior.agino new))
          (stays_dirty (finmap.get in_core agino) new refl)
      | inr apart ↦
          subst (λ (k : Option Kept). StaysInCore (told_cached (finmap.get in_core agino)) (told_cached k)) (sym (put_other in_core prior.agino agino new apart)) (stays_same (finmap.get in_core agino))
    ]

with_prior_kept : (in_core : FinMap nat_cmp Kept) (prior : Option Prior) (agino : ℕ) → StaysInCore (told_cached (finmap.get in_core agino)) (told_cached (finmap.get (with_prior in_core prior) agino))
with_prior_kept in_core None agino = stays_same (finmap.get in_core agino)
with_prior_kept in_core (Some prior) agino = prior_kept in_core prior agino (finmap.get in_core prior.agino) refl

kept_after : (s : StateValue) (d : Delta) (agino : ℕ) → StaysInCore (told_cached (kept_at s agino)) (told_cached (kept_at (changed_state s d) agino))
kept_after s d agino = elim (cases_eq agino d.agino) [
  | inl same ↦
      subst (λ (k : Option Kept). StaysInCore (told_cached (kept_at s agino)) (told_cached k)) (sym (ap (λ (n : ℕ). kept_at (changed_state s d) n) same ∙ own_kept s d))
      (stays_dirty (kept_at s agino) (dirty d.inode) refl)
  | inr apart ↦
      subst (λ (k : Option Kept). StaysInCore (told_cached (kept_at s agino)) (told_cached k)) (sym (other_kept s d agino apart)) (with_prior_kept s.in_core d.prior agino)
]

pub cached_after : (s new : StateValue) (d : Delta) (room agino : ℕ) → new ≡ with_room (changed_state s d) room → StaysInCore (told_cached (kept_at s agino)) (told_cached (kept_at new agino))
cached_after s new d room agino same =
    subst (λ (v : StateValue). StaysInCore (told_cached (kept_at s agino)) (told_cached (kept_at v agino))) (sym same) (kept_after s d agino)
