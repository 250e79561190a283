-- One free: its commit, and the state after it.
use Rattle.std.proofs.Common.{◌≡◌, ◌/◌, ◌%◌, ◌++◌, ℕ, zero, suc, Bool, true, false, eqb, List, [], ◌∷◌, Option, None, Some, Result, Ok, Err, OnErr, OnOk, refl, ap, sym, subst, ◌∙◌, arith}
use Rattle.std.specs.Prelude.{IsSomeAnd, is_none, unwrap_or}
use Rattle.std.proofs.lemmas.Bool.{eq-eqb}
use Rattle.life_limits.specs.declared.TheConstants.{GROUP_NUMBERS, MAX_ACTORS}
use Rattle.life_bytes.specs.declared.sector.Sector.{Sector}
use Rattle.geometry.specs.declared.shape.Geometry.{Geometry}
use Rattle.log_record.specs.declared.image.Commit.{Commit}
use Rattle.life_table.specs.declared.key.Key.{Key}
use Rattle.life_table.specs.declared.types.Row.{Row}
use Rattle.life_table.specs.declared.types.Entry.{Entry}
use Rattle.life_table.specs.declared.types.Event.TheVariants.{Freed}
use Rattle.life_table.specs.declared.table.Table.{Table}
use Rattle.life_table.specs.Legal.{Awaits, freed}
use Rattle.life_table.specs.Table.{group_at, row_of}
use Rattle.sound_image.specs.Encoding.{CanEncode, Layouts}
use Rattle.encoded_changes.specs.Carry.{AreImagesOf, ChangesOnly}
use Rattle.encoded_changes.specs.Changes.{taken_from}
use Rattle.commit_history.specs.Carried.{CommitCarries, CommitsCarry}
use Rattle.group_ops.specs.Calls.{FreesKey, relisted, relisted_by}
use Rattle.group_ops.specs.Changes.{changed_state, with_room}
use Rattle.group_ops.specs.Represents.{IsGroupOf}
use Rattle.group_ops.specs.declared.delta.Delta.{Delta}
use Rattle.group_ops.specs.Staging.{ChangeValue, IsCommitOf, Leads, Tells, handed_over}
use Rattle.group_ops.specs.Values.{StateValue}
use Rattle.orphan_frees.specs.Order.{freed_all, unlisted_all}
use Rattle.orphan_frees.specs.Steps.{CarryEach, FreesInGroup, FreesKeys, IsDue}
use Rattle.orphan_frees.proofs.Elsewhere.{rest_of_room}
use Rattle.orphan_frees.proofs.Rows.{row_freed}

-- the layouts without the inode of a key
abbrev pub unlisted : Layouts → Key → Layouts
unlisted layouts key = taken_from layouts (key.number / GROUP_NUMBERS) (key.number % GROUP_NUMBERS)

row_awaits : (o : Option Row) → IsSomeAnd o Awaits → (row : Row) × (o ≡ Some row) × (row.links ≡ 0)
row_awaits None is = absurd is
row_awaits (Some row) is = (row, refl, is.0)

out_of_bucket : (layouts : Layouts) (group agino : ℕ) (was : Bool) → was ≡ true → relisted layouts group agino was false ≡ taken_from layouts group agino
out_of_bucket layouts group agino was is = ap (λ (b : Bool). relisted layouts group agino b false) is

-- a free takes its inode out of its bucket
pub listed : (t : Table) (layouts : Layouts) (key : Key) → IsSomeAnd (row_of t key) Awaits → relisted_by layouts key (row_of t key) (row_of (freed t key) key) ≡ unlisted layouts key
listed t layouts key awaits =
    let row = row_awaits (row_of t key) awaits in
    ap (λ (o : Option Row). relisted_by layouts key o (row_of (freed t key) key)) row.1
    ∙ ap (λ (o : Option Row). relisted_by layouts key (Some row.0) o) (row_freed t key row.0 row.1)
    ∙ out_of_bucket layouts (key.number / GROUP_NUMBERS) (key.number % GROUP_NUMBERS) (eqb row.0.links 0) (eq-eqb row.0.links 0 row.2)

-- what a change of a free says
pub tells_free : (s : StateValue) (change : ChangeValue) (t : Table) (layouts : Layouts) (key : Key) → IsSomeAnd (row_of t key) Awaits → FreesKey s change t layouts key
    → Tells s change t layouts (freed t key) (unlisted layouts key)
tells_free s change t layouts key awaits frees = subst (λ (o : Layouts). Tells s change t layouts (freed t key) o) (listed t layouts key awaits) frees

-- the change leads there with its commit handed out too
pub leads_too : (s : StateValue) (change handed : ChangeValue) (t : Table) (layouts : Layouts) (key : Key) → handed ≡ handed_over change → FreesKey s change t layouts key
    → Leads s handed.delta t layouts (freed t key) (relisted_by layouts key (row_of t key) (row_of (freed t key) key))
leads_too s change handed t layouts key same frees =
    subst (λ (d : Delta). Leads s d t layouts (freed t key) (relisted_by layouts key (row_of t key) (row_of (freed t key) key))) (sym (ap (λ (x : ChangeValue). x.delta) same)) frees.leads

pub made_too : (s left : StateValue) (change handed : ChangeValue) → handed ≡ handed_over change → left ≡ with_room (changed_state s handed.delta) left.room
    → left ≡ with_room (changed_state s change.delta) left.room
made_too s left change handed same made = made ∙ ap (λ (d : Delta). with_room (changed_state s d) left.room) (ap (λ (x : ChangeValue). x.delta) same)

-- ---- the commit

-- what stands for a commit that is not there
abbrev pub no_commit : Commit
no_commit = record { group = 0; images = [] }

given : (P : Commit → Type 0) (o : Option Commit) (d : Commit) → IsSomeAnd o P → P (unwrap_or o d)
given P None d is = absurd is
given P (Some commit) d is = is

pub some_given : (P : Commit → Type 0) (o : Option Commit) → IsSomeAnd o P → is_none o ≡ false
some_given P None is = absurd is
some_given P (Some commit) is = refl

-- what the law says of a free
abbrev pub FreeEncodes : Type 0
FreeEncodes = (g : Geometry) (t : Table) (layouts : Layouts) (sectors : List Sector) (key : Key) → CanEncode g t layouts sectors → IsSomeAnd (row_of t key) Awaits
    → CanEncode g (freed t key) (taken_from layouts (key.number / GROUP_NUMBERS) (key.number % GROUP_NUMBERS)) sectors

pub commit_of : (s : StateValue) (change : ChangeValue) (t : Table) (layouts : Layouts) (key : Key) (commit d : Commit) → IsSomeAnd (row_of t key) Awaits → FreesKey s change t layouts key
    → commit ≡ unwrap_or change.commit d → IsCommitOf s t layouts (freed t key) (unlisted layouts key) commit
commit_of s change t layouts key commit d awaits frees is =
    subst (IsCommitOf s t layouts (freed t key) (unlisted layouts key)) (sym is)
    (given (IsCommitOf s t layouts (freed t key) (unlisted layouts key)) change.commit d (tells_free s change t layouts key awaits frees).commit)

pub carries : FreeEncodes → (s : StateValue) (change : ChangeValue) (t : Table) (layouts : Layouts) (sectors : List Sector) (key : Key) (commit d : Commit) → IsDue s t layouts sectors key
    → FreesKey s change t layouts key → commit ≡ unwrap_or change.commit d → CommitCarries s.geometry t layouts (freed t key) (unlisted layouts key) commit
carries encodes s change t layouts sectors key commit d due frees is =
    let g : Geometry = s.geometry in
    let others : Layouts = unlisted layouts key in
    let leads = (tells_free s change t layouts key due.awaits frees).leads in
    let of = commit_of s change t layouts key commit d due.awaits frees is in
    let inside = due.group.inside in
    let group : commit.group ≡ s.group = of.group in
    record {
      group = omega (arith, inside, group);
      only = subst (λ (n : ℕ). ChangesOnly n t layouts (freed t key) others) (sym group) leads.only;
      images = subst (λ (n : ℕ). AreImagesOf g n layouts (group_at t n) others (group_at (freed t key) n) commit.images) (sym group) of.images;
      few = of.few;
      next = λ image can. encodes g t layouts image key can due.awaits;
    }

-- ---- the state

same_geometry : (s : StateValue) (change : ChangeValue) (room : ℕ) → (with_room (changed_state s change.delta) room).geometry ≡ s.geometry
unfolding changed_state
same_geometry s change room = refl

same_group : (s : StateValue) (change : ChangeValue) (room : ℕ) → (with_room (changed_state s change.delta) room).group ≡ s.group
unfolding changed_state
same_group s change room = refl

-- ---- both

one_carries : (g : Geometry) (t : Table) (layouts : Layouts) (key : Key) (commit : Commit) → CommitCarries g t layouts (freed t key) (unlisted layouts key) commit
    → CommitsCarry g t layouts (commit ∷ []) (freed_all t (key ∷ [])) (unlisted_all layouts (key ∷ []))
unfolding CommitsCarry freed_all unlisted_all
one_carries g t layouts key commit is = (freed t key, unlisted layouts key, is, (refl, refl))

each_one : (g : Geometry) (t : Table) (layouts : Layouts) (key : Key) (commit : Commit) → CommitsCarry g t layouts (commit ∷ []) (freed_all t (key ∷ [])) (unlisted_all layouts (key ∷ []))
    → CarryEach g t layouts (key ∷ []) (commit ∷ [])
unfolding CommitsCarry freed_all unlisted_all
each_one g t layouts key commit is zero low = (refl, refl)
each_one g t layouts key commit is (suc zero) low = is
each_one g t layouts key commit is (suc (suc n)) low = is

one_represents : (s : StateValue) (t : Table) (layouts : Layouts) (key : Key) → IsGroupOf s (freed t key) (unlisted layouts key) → IsGroupOf s (freed_all t (key ∷ [])) (unlisted_all layouts (key ∷ []))
unfolding freed_all unlisted_all
one_represents s t layouts key is = is

pub one_freed_in : FreeEncodes → (s left : StateValue) (change : ChangeValue) (t : Table) (layouts : Layouts) (sectors : List Sector) (key : Key) (commit d : Commit) (old new : List Commit)
    (before after : List Entry) → IsDue s t layouts sectors key → FreesKey s change t layouts key → commit ≡ unwrap_or change.commit d → left ≡ with_room (changed_state s change.delta) left.room
    → new ≡ old ++ commit ∷ [] → after ≡ before ++ (record { actor = MAX_ACTORS; event = Freed key }) ∷ [] → FreesInGroup s t layouts (key ∷ []) old new before after left
one_freed_in encodes s left change t layouts sectors key commit d old new before after due frees is made list entries =
    let leads = (tells_free s change t layouts key due.awaits frees).leads in
    record {
      frees = record {
        commits = commit ∷ [];
        list = list;
        one_each = refl;
        carry = one_carries s.geometry t layouts key commit (carries encodes s change t layouts sectors key commit d due frees is);
        each = each_one s.geometry t layouts key commit (one_carries s.geometry t layouts key commit (carries encodes s change t layouts sectors key commit d due frees is));
        entries = entries;
      };
      geometry = ap (λ (x : StateValue). x.geometry) made ∙ same_geometry s change left.room;
      group = ap (λ (x : StateValue). x.group) made ∙ same_group s change left.room;
      represents = one_represents left t layouts key
          (subst (λ (x : StateValue). IsGroupOf x (freed t key) (unlisted layouts key)) (sym made)
          (rest_of_room (changed_state s change.delta) (freed t key) (unlisted layouts key) left.room leads.after));
    }

-- ---- with other room

pub same_due : (s left : StateValue) (t : Table) (layouts : Layouts) (sectors : List Sector) (key : Key) → left ≡ with_room s left.room → IsDue s t layouts sectors key → IsDue left t layouts sectors key
same_due s left t layouts sectors key same due =
    let inside = due.group.inside in
    let groups : left.geometry.groups ≡ s.geometry.groups = ap (λ (x : StateValue). x.geometry.groups) same in
    let group : left.group ≡ s.group = ap (λ (x : StateValue). x.group) same in
    let geometry : s.geometry ≡ left.geometry = sym (ap (λ (x : StateValue). x.geometry) same) in
    record {
      group = record {
        represents = subst (λ (x : StateValue). IsGroupOf x t layouts) (sym same) (rest_of_room s t layouts left.room due.group.represents);
        can = subst (λ (g : Geometry). CanEncode g t layouts sectors) geometry due.group.can;
        inside = omega (arith, inside, groups, group);
      };
      own = due.own ∙ sym group;
      awaits = due.awaits;
    }

pub from_room : (s mid left : StateValue) (t : Table) (layouts : Layouts) (keys : List Key) (old list new : List Commit) (before between after : List Entry) → mid ≡ with_room s mid.room → list ≡ old
    → between ≡ before → FreesInGroup mid t layouts keys list new between after left → FreesInGroup s t layouts keys old new before after left
from_room s mid left t layouts keys old list new before between after same lists entries frees =
    let geometry : mid.geometry ≡ s.geometry = ap (λ (x : StateValue). x.geometry) same in
    let at = subst (λ (l : List Commit). FreesInGroup mid t layouts keys l new before after left) lists (subst (λ (l : List Entry). FreesInGroup mid t layouts keys list new l after left) entries frees) in
    record {
      frees = subst (λ (g : Geometry). FreesKeys g t layouts keys old new before after) geometry at.frees;
      geometry = at.geometry ∙ geometry;
      group = at.group ∙ ap (λ (x : StateValue). x.group) same;
      represents = at.represents;
    }

-- ---- results

pub on_err : {A E : Type 0} (P : Type 0) (r : Result A E) → P → OnErr r P
on_err P (Ok x) p = tt
on_err P (Err e) p = p

pub on_ok : {A E : Type 0} (P : Type 0) (r : Result A E) → P → OnOk r P
on_ok P (Ok x) p = p
on_ok P (Err e) p = tt

pub ok_more : {A E P Q : Type 0} (r : Result A E) → OnOk r P → (P → Q) → OnOk r Q
ok_more (Ok x) p f = f p
ok_more (Err e) p f = tt
