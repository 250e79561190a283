-- A change of the inode of a key, as a call on the key makes it.
use Rattle.std.proofs.Common.{◌≡◌, ◌≢◌, ◌<◌, ◌/◌, ◌%◌, ◌+◌, ◌-◌, ◌&&◌, ℕ, Bool, true, eqb, Some, None, Option, length, refl, ap, sym, subst, ◌∙◌, arith}
use Rattle.std.proofs.lemmas.Bool.{cond-true, cond-false, eq-eqb, ne_eqb}
use Rattle.life_limits.specs.declared.TheConstants.{GROUP_NUMBERS, MAX_LINKS}
use Rattle.geometry.specs.Places.{number_in}
use Rattle.life_table.specs.declared.key.Key.{Key}
use Rattle.inode_core.specs.declared.shape.Core.{Core}
use Rattle.life_table.specs.declared.types.Row.{Row}
use Rattle.life_table.specs.declared.types.Call.{Call}
use Rattle.life_table.specs.declared.types.Call.TheVariants as call
use Rattle.life_table.specs.declared.types.Reply.{Reply}
use Rattle.life_table.specs.declared.types.Reply.TheVariants as reply
use Rattle.life_table.specs.declared.table.Inode.{Inode}
use Rattle.life_table.specs.declared.table.Table.{Table}
use Rattle.life_table.specs.Legal.{KeyReplies, Legal, Permits, after_call, with_changed}
use Rattle.life_table.specs.Replies.{key_reply, reply_of}
use Rattle.life_table.specs.WellFormed.{IsTable}
use Rattle.life_table.specs.Table.{Group, group_at, in_use, inode_in, inode_of, row_in_life, row_of, set_inode, with_inode, with_row}
use Rattle.sound_image.specs.Encoding.{Layouts, is_unlinked_row}
use Rattle.group_ops.specs.declared.delta.Delta.{Delta}
use Rattle.group_ops.specs.Calls.{relisted, relisted_by}
use Rattle.group_ops.specs.Represents.{IsGroupOf, incore_for}
use Rattle.group_ops.specs.Staging.{Leads}
use Rattle.group_ops.specs.Telling.{HasRowAt, HasRowOf, core_told, with_links}
use Rattle.group_ops.specs.Values.{StateValue}
use Rattle.group_ops.proofs.Relisting.{of_is, with_is}
use Rattle.group_ops.proofs.RowChanges.{OwnGroup}
use Rattle.group_ops.proofs.SetInodes.{inode_same}
use Rattle.group_ops.proofs.Seen.{seen_in}
use Rattle.group_ops.proofs.Told.{own_inode, row_seen}

-- what the law on encodings says of a row
abbrev pub RowsStand : Type 0
RowsStand = (t : Table) (key : Key) (row : Row) → row_of t key ≡ Some row → inode_of t key.number ≡ Some (in_use key row)

pub number_is : (number group agino : ℕ) → number / GROUP_NUMBERS ≡ group → agino ≡ number % GROUP_NUMBERS → number_in group agino ≡ number
number_is number group agino own at = omega (arith, own, at)

pub small_is : (number agino : ℕ) → agino ≡ number % GROUP_NUMBERS → agino < GROUP_NUMBERS
small_is number agino at = omega (arith, at)

-- the row of a key, as that of its number
pub holds_row : RowsStand → (s : StateValue) (t : Table) (layouts : Layouts) (key : Key) (row : Row) (agino : ℕ) → key.number / GROUP_NUMBERS ≡ s.group → agino ≡ key.number % GROUP_NUMBERS
    → IsGroupOf s t layouts → row_of t key ≡ Some row → HasRowAt s agino t layouts (in_use key row) row
holds_row rows s t layouts key row agino own at is has = record {
  group = is;
  inode_there = own_inode t key s.group agino own at ∙ rows t key row has;
  used = refl;
}

-- a row that was set is there
pub row_set : OwnGroup → (t : Table) (key : Key) (old : Inode) (row : Row) (group agino : ℕ) → key.number / GROUP_NUMBERS ≡ group → agino ≡ key.number % GROUP_NUMBERS → group < length t.groups
    → inode_in (group_at t group) agino ≡ Some old → row_of (with_row t key row) key ≡ Some row
row_set own_group t key old row group agino own at low there =
    let number = number_is key.number group agino own at in
    let small = small_is key.number agino at in
    let u : Table = with_inode t (number_in group agino) (in_use key row) in
    let same : with_row t key row ≡ u = ap (λ (n : ℕ). with_inode t n (in_use key row)) (sym number) in
    let chunks : Group = set_inode (group_at t group) agino (in_use key row) in
    let found : inode_of u key.number ≡ Some (in_use key row) =
    ap (λ (n : ℕ). inode_of u n) (sym number)
    ∙ of_is u group agino small
    ∙ ap (λ (v : Table). inode_in (group_at v group) agino) (with_is t group agino (in_use key row) small)
    ∙ ap (λ (cs : Group). inode_in cs agino) (own_group t group chunks low)
    ∙ inode_same (group_at t group) agino old (in_use key row) there in
    ap (λ (v : Table). row_in_life key.generation (inode_of v key.number)) same
    ∙ ap (λ (o : Option Inode). row_in_life key.generation o) found
    ∙ cond-true (eqb key.generation key.generation) (Some row) None (eq-eqb key.generation key.generation refl)

-- a change of the row of a key leads where a call does that leaves this row
pub leads_call : OwnGroup → RowsStand → (s : StateValue) (d : Delta) (t : Table) (layouts : Layouts) (key : Key) (row next : Row) (agino : ℕ) (u : Table) (new : Inode) (was unlinked : Bool)
    → key.number / GROUP_NUMBERS ≡ s.group → agino ≡ key.number % GROUP_NUMBERS → IsGroupOf s t layouts → s.group < s.geometry.groups → row_of t key ≡ Some row
    → u ≡ with_row t key next → new ≡ in_use key next → was ≡ is_unlinked_row (Some row) → unlinked ≡ is_unlinked_row (Some next)
    → Leads s d t layouts (with_inode t (number_in s.group agino) new) (relisted layouts s.group agino was unlinked)
    → Leads s d t layouts u (relisted_by layouts key (row_of t key) (row_of u key))
leads_call own_group rows s d t layouts key row next agino u new was unlinked own at is inside has after now w n leads =
    let number = number_is key.number s.group agino own at in
    let there = own_inode t key s.group agino own at ∙ rows t key row has in
    let low : s.group < length t.groups = omega (arith, inside, is.groups) in
    let set : row_of u key ≡ Some next = ap (λ (v : Table). row_of v key) after ∙ row_set own_group t key (in_use key row) next s.group agino own at low there in
    let table : with_inode t (number_in s.group agino) new ≡ u =
    ap (λ (k : ℕ). with_inode t k new) number ∙ ap (λ (i : Inode). with_inode t key.number i) now ∙ sym after in
    let lists : relisted layouts s.group agino was unlinked ≡ relisted_by layouts key (row_of t key) (row_of u key) =
    ap (λ (g : ℕ). relisted layouts g agino was unlinked) (sym own)
    ∙ ap (λ (k : ℕ). relisted layouts (key.number / GROUP_NUMBERS) k was unlinked) at
    ∙ ap (λ (b : Bool). relisted layouts (key.number / GROUP_NUMBERS) (key.number % GROUP_NUMBERS) b unlinked) (w ∙ ap is_unlinked_row (sym has))
    ∙ ap (λ (b : Bool). relisted layouts (key.number / GROUP_NUMBERS) (key.number % GROUP_NUMBERS) (is_unlinked_row (row_of t key)) b) (n ∙ ap is_unlinked_row (sym set)) in
    subst (λ (l : Layouts). Leads s d t layouts u l) lists
    (subst (λ (v : Table). Leads s d t layouts v (relisted layouts s.group agino was unlinked)) table leads)

-- what the law on tables says of calls
abbrev pub TablesStay : Type 0
TablesStay = (t u : Table) (called : Call) (answer : Reply) → IsTable t → Legal t called answer u → IsTable u

-- a call on a key that is made, by what it leaves of the key's row
pub call_leads : OwnGroup → RowsStand → TablesStay → (s : StateValue) (d : Delta) (t : Table) (layouts : Layouts) (key : Key) (row next : Row) (agino : ℕ) (called : Call) (new : Inode)
    (was unlinked : Bool) → key.number / GROUP_NUMBERS ≡ s.group → agino ≡ key.number % GROUP_NUMBERS → IsGroupOf s t layouts → s.group < s.geometry.groups → row_of t key ≡ Some row
    → after_call t called reply.Done ≡ with_row t key next → new ≡ in_use key next → was ≡ is_unlinked_row (Some row) → unlinked ≡ is_unlinked_row (Some next) → Permits t called reply.Done
    → (IsTable (with_inode t (number_in s.group agino) new) → Leads s d t layouts (with_inode t (number_in s.group agino) new) (relisted layouts s.group agino was unlinked))
    → Leads s d t layouts (after_call t called reply.Done) (relisted_by layouts key (row_of t key) (row_of (after_call t called reply.Done) key))
call_leads own_group rows stay s d t layouts key row next agino called new was unlinked own at is inside has after now w n permits leads =
    let number = number_is key.number s.group agino own at in
    let u : Table = after_call t called reply.Done in
    let table : with_inode t (number_in s.group agino) new ≡ u =
    ap (λ (k : ℕ). with_inode t k new) number ∙ ap (λ (i : Inode). with_inode t key.number i) now ∙ sym after in
    leads_call own_group rows s d t layouts key row next agino u new was unlinked own at is inside has after now w n
    (leads (subst IsTable (sym table) (stay t u called reply.Done is.table (permits, refl))))

-- ---- the row of a key as the code sees it

pub record KeySeen (s : StateValue) (t : Table) (layouts : Layouts) (key : Key) (agino : ℕ) (core : Core) : Type 0 where
  pub row : Row
  pub has : row_of t key ≡ Some row
  pub at : HasRowAt s agino t layouts (in_use key row) row
  pub links : core.links ≡ row.links
  pub blocks : core.blocks ≡ length row.blocks
  pub core_is : core ≡ (incore_for layouts s.group agino (in_use key row)).core

core_told_is : (layouts : Layouts) (group agino : ℕ) (core : Core) (o : Option Inode) (inode : Inode) → Some core ≡ core_told layouts group agino o → o ≡ Some inode
    → core ≡ (incore_for layouts group agino inode).core
core_told_is layouts group agino core o inode told at =
    let both : Some core ≡ Some (incore_for layouts group agino inode).core = told ∙ ap (core_told layouts group agino) at in
    cc

pub seen_key : RowsStand → (s : StateValue) (key : Key) (agino : ℕ) (core : Core) → key.number / GROUP_NUMBERS ≡ s.group → agino ≡ key.number % GROUP_NUMBERS
    → ((t : Table) (layouts : Layouts) → IsGroupOf s t layouts → Some core ≡ core_told layouts s.group agino (inode_in (group_at t s.group) agino))
    → HasRowOf s key → (t : Table) (layouts : Layouts) → IsGroupOf s t layouts → KeySeen s t layouts key agino core
seen_key rows s key agino core own at told w t layouts is =
    let life : (core.live && eqb core.generation key.generation) ≡ true = row_seen w.0 w.1 key s.group agino core own at (told w.0 w.1 w.2) ∙ w.3 in
    let seen = seen_in layouts s.group agino key.generation core (inode_in (group_at t s.group) agino) (told t layouts is) life in
    let has : row_of t key ≡ Some seen.row = ap (λ (o : Option Inode). row_in_life key.generation o) (sym (own_inode t key s.group agino own at)) ∙ seen.of in
    let there = holds_row rows s t layouts key seen.row agino own at is has in
    record {
      row = seen.row;
      has = has;
      at = there;
      links = seen.links;
      blocks = seen.blocks;
      core_is = core_told_is layouts s.group agino core (inode_in (group_at t s.group) agino) (in_use key seen.row) (told t layouts is) there.inode_there;
    }

-- ---- links and unlinks

pub too_many_links : (t : Table) (key : Key) (row : Row) → row_of t key ≡ Some row → row.links ≡ MAX_LINKS → reply_of t (call.Link key) ≡ reply.TooManyLinks
too_many_links t key row has most =
    ap (λ (o : Option Row). key_reply t o (call.Link key)) has ∙ cond-true (eqb row.links MAX_LINKS) reply.TooManyLinks reply.Done (eq-eqb row.links MAX_LINKS most)

pub link_done : (t : Table) (key : Key) (row : Row) → row_of t key ≡ Some row → row.links ≢ MAX_LINKS → reply_of t (call.Link key) ≡ reply.Done
link_done t key row has fewer =
    ap (λ (o : Option Row). key_reply t o (call.Link key)) has ∙ cond-false (eqb row.links MAX_LINKS) reply.TooManyLinks reply.Done (ne_eqb row.links MAX_LINKS fewer)

pub link_permits : (t : Table) (key : Key) (row : Row) → row_of t key ≡ Some row → row.links ≢ MAX_LINKS → Permits t (call.Link key) reply.Done
link_permits t key row has fewer = subst (λ (o : Option Row). KeyReplies t o (call.Link key) reply.Done) (sym has) fewer

pub no_links : (t : Table) (key : Key) (row : Row) → row_of t key ≡ Some row → row.links ≡ 0 → reply_of t (call.Unlink key) ≡ reply.NoLinks
no_links t key row has none =
    ap (λ (o : Option Row). key_reply t o (call.Unlink key)) has ∙ cond-true (eqb row.links 0) reply.NoLinks reply.Done (eq-eqb row.links 0 none)

pub unlink_done : (t : Table) (key : Key) (row : Row) → row_of t key ≡ Some row → row.links ≢ 0 → reply_of t (call.Unlink key) ≡ reply.Done
unlink_done t key row has some =
    ap (λ (o : Option Row). key_reply t o (call.Unlink key)) has ∙ cond-false (eqb row.links 0) reply.NoLinks reply.Done (ne_eqb row.links 0 some)

pub unlink_permits : (t : Table) (key : Key) (row : Row) → row_of t key ≡ Some row → row.links ≢ 0 → Permits t (call.Unlink key) reply.Done
unlink_permits t key row has some = subst (λ (o : Option Row). KeyReplies t o (call.Unlink key) reply.Done) (sym has) some

-- what the change of links says, of each row of the number
abbrev pub LinksLead : StateValue → Delta → Table → Layouts → ℕ → ℕ → Type 0
LinksLead s d t layouts agino links = (inode : Inode) (row : Row) → HasRowAt s agino t layouts inode row → IsTable (with_inode t (number_in s.group agino) (with_links inode row links))
    → Leads s d t layouts (with_inode t (number_in s.group agino) (with_links inode row links)) (relisted layouts s.group agino (eqb row.links 0) (eqb links 0))

pub link_leads : OwnGroup → RowsStand → TablesStay → (s : StateValue) (d : Delta) (t : Table) (layouts : Layouts) (key : Key) (agino : ℕ) (core : Core) → key.number / GROUP_NUMBERS ≡ s.group
    → agino ≡ key.number % GROUP_NUMBERS → IsGroupOf s t layouts → s.group < s.geometry.groups → (seen : KeySeen s t layouts key agino core) → core.links ≢ MAX_LINKS
    → LinksLead s d t layouts agino (core.links + 1)
    → Leads s d t layouts (after_call t (call.Link key) reply.Done) (relisted_by layouts key (row_of t key) (row_of (after_call t (call.Link key) reply.Done) key))
link_leads own_group rows stay s d t layouts key agino core own at is inside seen fewer leads =
    let row = seen.row in
    let links : ℕ = core.links + 1 in
    let next : Row = record { links = links; blocks = row.blocks; opens = row.opens } in
    let after : after_call t (call.Link key) reply.Done ≡ with_row t key next =
    ap (λ (o : Option Row). with_changed t key o (call.Link key)) seen.has
    ∙ ap (λ (n : ℕ). with_row t key (let r : Row = record { links = n + 1; blocks = row.blocks; opens = row.opens } in r)) (sym seen.links) in
    call_leads own_group rows stay s d t layouts key row next agino (call.Link key) (with_links (in_use key row) row links) (eqb row.links 0) (eqb links 0) own at is inside seen.has
    after refl refl refl (link_permits t key row seen.has (λ e. fewer (seen.links ∙ e))) (λ table. leads (in_use key row) row seen.at table)

pub unlink_leads : OwnGroup → RowsStand → TablesStay → (s : StateValue) (d : Delta) (t : Table) (layouts : Layouts) (key : Key) (agino : ℕ) (core : Core) → key.number / GROUP_NUMBERS ≡ s.group
    → agino ≡ key.number % GROUP_NUMBERS → IsGroupOf s t layouts → s.group < s.geometry.groups → (seen : KeySeen s t layouts key agino core) → core.links ≢ 0
    → LinksLead s d t layouts agino (core.links - 1)
    → Leads s d t layouts (after_call t (call.Unlink key) reply.Done) (relisted_by layouts key (row_of t key) (row_of (after_call t (call.Unlink key) reply.Done) key))
unlink_leads own_group rows stay s d t layouts key agino core own at is inside seen some leads =
    let row = seen.row in
    let links : ℕ = core.links - 1 in
    let next : Row = record { links = links; blocks = row.blocks; opens = row.opens } in
    let after : after_call t (call.Unlink key) reply.Done ≡ with_row t key next =
    ap (λ (o : Option Row). with_changed t key o (call.Unlink key)) seen.has
    ∙ ap (λ (n : ℕ). with_row t key (let r : Row = record { links = n - 1; blocks = row.blocks; opens = row.opens } in r)) (sym seen.links) in
    call_leads own_group rows stay s d t layouts key row next agino (call.Unlink key) (with_links (in_use key row) row links) (eqb row.links 0) (eqb links 0) own at is inside seen.has
    after refl refl refl (unlink_permits t key row seen.has (λ e. some (seen.links ∙ e))) (λ table. leads (in_use key row) row seen.at table)
