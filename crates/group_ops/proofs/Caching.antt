-- What of a number is in core as inodes come into core, are flushed and go, and that the table stays.
use Rattle.std.proofs.Common.{◌≡◌, ◌↔◌, ◌<◌, ℕ, Bool, true, false, Option, None, Some, option_map, Result, Ok, Err, OnOk, OnErr, if◌then◌else◌, length, refl, ap, sym, ◌∙◌, subst, arith, inl, inr, IsTrue}
use Rattle.std.specs.Prelude.{IsSome, IsSomeAnd, is_some}
use Rattle.std.specs.Ordering.{nat_cmp}
use Rattle.std.specs.FinMap as finmap
use Rattle.std.specs.FinMap.{FinMap}
use Rattle.std.proofs.lemmas.Bool.{cases_eq, eq-eqb, ne_eqb}
use Rattle.geometry.specs.Shape.{IsGeometry}
use Rattle.inode_cache.specs.declared.inode.Incore.{Incore}
use Rattle.inode_cache.specs.declared.inode.Kept.{Kept}
use Rattle.inode_cache.specs.Caches.{clean}
use Rattle.inode_cache.specs.Flush.{cleaned}
use Rattle.life_table.specs.declared.table.Inode.{Inode}
use Rattle.life_table.specs.declared.table.Table.{Table}
use Rattle.life_table.specs.History.{closed, closed_inode}
use Rattle.life_table.specs.Table.{Group, group_at, inode_in, map_group}
use Rattle.sound_image.specs.Encoding.{Layouts}
use Rattle.group_core.specs.InCore.{HasNumber, but_at, changed, is_in_core, is_unchanged, once_brought, once_flushed, unchanged, uncached}
use Rattle.group_frame.specs.Frames.{AgreesAt, alone}
use Rattle.group_ops.specs.declared.delta.Delta.{Delta}
use Rattle.group_ops.specs.Changes.{changed_state, with_room}
use Rattle.group_ops.specs.Flushing.{IsFlush}
use Rattle.group_ops.specs.Keeping.{IsBrought, StaysGroup, brought_in, with_in_core}
use Rattle.group_ops.specs.OwnTable.{TakesTo, by_dirt, own_table, told_cached}
use Rattle.group_ops.specs.Represents.{IsGroupOf, RepresentsGroup, incore_for}
use Rattle.group_ops.specs.Telling.{HasInodeAt}
use Rattle.group_ops.specs.Values.{StateValue, kept_at}
use Rattle.group_ops.proofs.Keepings.{here_in, remove_other, remove_same, roomed}
use Rattle.group_ops.proofs.Kept.{put_other, put_same}

-- ---- the table

abbrev pub StatesStand : Type 0
StatesStand = (s : StateValue) (t : Table) (layouts : Layouts) → IsGeometry s.geometry → s.group < s.geometry.groups → IsGroupOf s t layouts → own_table s ≡ closed (alone t s.group)

pub still_represents : (s new : StateValue) → StaysGroup s new → RepresentsGroup s → RepresentsGroup new
still_represents s new stays is = (is.0, is.1, stays is.0 is.1 is.2)

-- a state that is the group which it was has the table which it had
pub same_table : StatesStand → (s new : StateValue) → IsGeometry s.geometry → s.group < s.geometry.groups → new.geometry ≡ s.geometry → new.group ≡ s.group → StaysGroup s new → RepresentsGroup s
    → own_table new ≡ own_table s
same_table law s new shape inside geometry group stays is =
    let t : Table = is.0 in
    let layouts : Layouts = is.1 in
    law new t layouts (subst IsGeometry (sym geometry) shape) (omega (arith, inside, ap (λ g. g.groups) geometry, group)) (stays t layouts is.2)
    ∙ ap (λ (g : ℕ). closed (alone t g)) group
    ∙ sym (law s t layouts shape inside is.2)

pub represents_roomed : (s new : StateValue) (room : ℕ) → new ≡ with_room s room → RepresentsGroup s → RepresentsGroup new
represents_roomed s new room same is = still_represents s new (λ t layouts of. subst (λ (v : StateValue). IsGroupOf v t layouts) (sym same) (roomed s room t layouts of)) is

pub represents_after : (s new : StateValue) (d : Delta) (room : ℕ) (u : Table) → new ≡ with_room (changed_state s d) room → TakesTo s d u → RepresentsGroup new
represents_after s new d room u same takes =
    represents_roomed (changed_state s d) new room same (takes.after, takes.others, takes.leads.after)

-- ---- a number of the state's table

some_closed : (o : Option Inode) → IsSome (option_map closed_inode o) → IsSome o
some_closed None some = some
some_closed (Some x) some = refl

-- the inode of a number in the state's own table
pub own_inode : StatesStand → ((t : Table) (g : ℕ) → g < length t.groups → AgreesAt g t (alone t g)) → ((t : Table) (g : ℕ) → group_at (closed t) g ≡ map_group closed_inode (group_at t g))
    → ((chunks : Group) (agino : ℕ) → inode_in (map_group closed_inode chunks) agino ≡ option_map closed_inode (inode_in chunks agino))
    → (s : StateValue) (t : Table) (layouts : Layouts) (agino : ℕ) → IsGeometry s.geometry → s.group < s.geometry.groups → IsGroupOf s t layouts
    → inode_in (group_at (own_table s) s.group) agino ≡ option_map closed_inode (inode_in (group_at t s.group) agino)
own_inode law agrees groups inodes s t layouts agino shape inside is =
    let low : s.group < length t.groups = omega (arith, inside, is.groups) in
    let chunks : group_at (own_table s) s.group ≡ map_group closed_inode (group_at t s.group) =
    ap (λ (v : Table). group_at v s.group) (law s t layouts shape inside is)
    ∙ groups (alone t s.group) s.group
    ∙ ap (λ (c : Group). map_group closed_inode c) (agrees t s.group low).group in
    ap (λ (c : Group). inode_in c agino) chunks ∙ inodes (group_at t s.group) agino

abbrev pub OwnInodes : Type 0
OwnInodes = (s : StateValue) (t : Table) (layouts : Layouts) (agino : ℕ) → IsGeometry s.geometry → s.group < s.geometry.groups → IsGroupOf s t layouts
    → inode_in (group_at (own_table s) s.group) agino ≡ option_map closed_inode (inode_in (group_at t s.group) agino)

pub number_there : OwnInodes → (s : StateValue) (agino : ℕ) → IsGeometry s.geometry → s.group < s.geometry.groups → RepresentsGroup s → HasNumber (own_table s) s.group agino → HasInodeAt s agino
number_there law s agino shape inside is has =
    let t : Table = is.0 in
    (t, is.1, is.2, some_closed (inode_in (group_at t s.group) agino) (subst (λ (o : Option Inode). IsSome o) (law s t is.1 agino shape inside is.2) has))

-- ---- what is in core

pub told_some : (o : Option Kept) → is_in_core (told_cached o) ≡ is_some o
told_some None = refl
told_some (Some kept) = elim kept.dirty as (λ b. is_in_core (by_dirt b) ≡ true) [ true ↦ refl | false ↦ refl ]

pub some_told : (o : Option Kept) → is_in_core (told_cached o) ≡ true → IsSome o
some_told None there = there
some_told (Some kept) there = refl

pub told_clean : (answer : Bool) (o : Option Kept) → is_in_core (told_cached o) ≡ true → (IsTrue answer ↔ IsSomeAnd o (λ kept. kept.dirty ≡ false)) → answer ≡ is_unchanged (told_cached o)
told_clean answer None there says = let clash : false ≡ true = there in cc
told_clean answer (Some kept) there says = told_dirt answer kept.dirty says
  where
    told_dirt : (answer dirt : Bool) → (IsTrue answer ↔ (dirt ≡ false)) → answer ≡ is_unchanged (by_dirt dirt)
    told_dirt true true says = let clash : true ≡ false = says.0 refl in cc
    told_dirt true false says = refl
    told_dirt false true says = refl
    told_dirt false false says = let clash : false ≡ true = says.1 refl in cc

pub is_clean_kept : (o : Option Kept) → told_cached o ≡ unchanged → IsSomeAnd o (λ kept. kept.dirty ≡ false)
is_clean_kept None e = let clash : uncached ≡ unchanged = e in cc
is_clean_kept (Some kept) e = elim kept.dirty as (λ b. by_dirt b ≡ unchanged → b ≡ false) [ true ↦ λ same. let clash : changed ≡ unchanged = same in cc | false ↦ λ same. refl ] e

-- ---- an inode that is brought in

brought_at : (in_core : FinMap nat_cmp Kept) (agino number : ℕ) (inode : Incore) (o : Option Kept) → finmap.get in_core agino ≡ o
    → told_cached (finmap.get (brought_in in_core agino inode o) number) ≡ but_at (λ n. told_cached (finmap.get in_core n)) agino (once_brought (told_cached (finmap.get in_core agino))) number
brought_at in_core agino number inode None at = elim (cases_eq number agino) [
  | inl same ↦
      ap (λ (n : ℕ). told_cached (finmap.get (finmap.insert in_core agino (clean inode)) n)) same
      ∙ ap told_cached (put_same in_core agino (clean inode))
      ∙ sym (ap (λ (k : Option Kept). once_brought (told_cached k)) at)
      ∙ sym (ap (λ (b : Bool). if b then once_brought (told_cached (finmap.get in_core agino)) else told_cached (finmap.get in_core number)) (eq-eqb number agino same))
  | inr apart ↦
      ap told_cached (put_other in_core agino number (clean inode) apart)
      ∙ sym (ap (λ (b : Bool). if b then once_brought (told_cached (finmap.get in_core agino)) else told_cached (finmap.get in_core number)) (ne_eqb number agino apart))
]
brought_at in_core agino number inode (Some kept) at = elim (cases_eq number agino) [
  | inl same ↦
      ap (λ (n : ℕ). told_cached (finmap.get in_core n)) same
      ∙ sym (ap (λ (k : Option Kept). once_brought (told_cached k)) at ∙ still kept.dirty ∙ ap told_cached (sym at))
      ∙ sym (ap (λ (b : Bool). if b then once_brought (told_cached (finmap.get in_core agino)) else told_cached (finmap.get in_core number)) (eq-eqb number agino same))
  | inr apart ↦
      sym (ap (λ (b : Bool). if b then once_brought (told_cached (finmap.get in_core agino)) else told_cached (finmap.get in_core number)) (ne_eqb number agino apart))
]
  where
    still : (dirt : Bool) → once_brought (by_dirt dirt) ≡ by_dirt dirt
    still true = refl
    still false = refl

pub cached_brought : (s new : StateValue) (agino number : ℕ) → HasInodeAt s agino → IsBrought s agino new
    → told_cached (kept_at new number) ≡ but_at (λ n. told_cached (kept_at s n)) agino (once_brought (told_cached (kept_at s agino))) number
cached_brought s new agino number has is =
    let t : Table = has.0 in
    let layouts : Layouts = has.1 in
    let here = here_in s t layouts agino has has.2 in
    let inode : Incore = incore_for layouts s.group agino here.inode in
    ap (λ (v : StateValue). told_cached (kept_at v number)) (is.in_core t layouts here.inode has.2 here.there)
    ∙ brought_at s.in_core agino number inode (kept_at s agino) refl

-- the same whichever its answer
abbrev pub Brings : {A E : Type 0} → StateValue → ℕ → StateValue → Result A E → Type 0
Brings s agino new r = (t : Table) (layouts : Layouts) (inode : Inode) → IsGroupOf s t layouts → inode_in (group_at t s.group) agino ≡ Some inode
    → OnOk r (new ≡ with_room (with_in_core s (brought_in s.in_core agino (incore_for layouts s.group agino inode) (kept_at s agino))) new.room)

pub is_brought : {A E : Type 0} (s new : StateValue) (agino : ℕ) (r : Result A E) → Brings s agino new r → StaysGroup s new → OnOk r (IsBrought s agino new)
is_brought s new agino (Ok v) brings stays = record { in_core = brings; group = stays }
is_brought s new agino (Err e) brings stays = tt

pub cached_ok : {A E : Type 0} (s new : StateValue) (agino : ℕ) (r : Result A E) → HasInodeAt s agino → OnOk r (IsBrought s agino new)
    → OnOk r ((number : ℕ) → told_cached (kept_at new number) ≡ but_at (λ n. told_cached (kept_at s n)) agino (once_brought (told_cached (kept_at s agino))) number)
cached_ok s new agino (Ok v) has is = λ number. cached_brought s new agino number has is
cached_ok s new agino (Err e) has is = tt

pub cached_err : {A E : Type 0} (s new : StateValue) (room : ℕ) (r : Result A E) → OnErr r (new ≡ with_room s room) → OnErr r ((number : ℕ) → told_cached (kept_at new number) ≡ told_cached (kept_at s number))
cached_err s new room (Ok v) same = tt
cached_err s new room (Err e) same = λ number. ap (λ (v : StateValue). told_cached (kept_at v number)) same

-- its group and its geometry stay
pub record SameFrame (s new : StateValue) : Type 0 where
  pub geometry : new.geometry ≡ s.geometry
  pub group : new.group ≡ s.group

pub brought_frame : {A E : Type 0} (s new : StateValue) (agino room : ℕ) (r : Result A E) → HasInodeAt s agino → OnOk r (IsBrought s agino new) → OnErr r (new ≡ with_room s room) → SameFrame s new
brought_frame s new agino room (Ok v) has is same =
    let here = here_in s has.0 has.1 agino has has.2 in
    let put = is.in_core has.0 has.1 here.inode has.2 here.there in
    record { geometry = ap (λ (v : StateValue). v.geometry) put; group = ap (λ (v : StateValue). v.group) put }
brought_frame s new agino room (Err e) has is same = record { geometry = ap (λ (v : StateValue). v.geometry) same; group = ap (λ (v : StateValue). v.group) same }

pub cached_roomed : (s new : StateValue) (room number : ℕ) → new ≡ with_room s room → told_cached (kept_at new number) ≡ told_cached (kept_at s number)
cached_roomed s new room number same = ap (λ (v : StateValue). told_cached (kept_at v number)) same

-- ---- a flush

cleaned_told : (o : Option Kept) → told_cached (option_map cleaned o) ≡ once_flushed (told_cached o)
cleaned_told None = refl
cleaned_told (Some kept) = elim kept.dirty as (λ b. unchanged ≡ once_flushed (by_dirt b)) [ true ↦ refl | false ↦ refl ]

pub cached_flushed : (s new : StateValue) (number : ℕ) → IsFlush s new → told_cached (kept_at new number) ≡ once_flushed (told_cached (kept_at s number))
cached_flushed s new number is = ap told_cached (is.each number).clean ∙ cleaned_told (kept_at s number)

-- ---- an inode that is let go

pub cached_gone : (s new : StateValue) (agino room number : ℕ) → new ≡ with_room (with_in_core s (finmap.remove s.in_core agino)) room
    → told_cached (kept_at new number) ≡ but_at (λ n. told_cached (kept_at s n)) agino uncached number
cached_gone s new agino room number same = ap (λ (v : StateValue). told_cached (kept_at v number)) same ∙ (elim (cases_eq number agino) [
  | inl one ↦
      ap (λ (n : ℕ). told_cached (finmap.get (finmap.remove s.in_core agino) n)) one
      ∙ ap told_cached (remove_same s.in_core agino)
      ∙ sym (ap (λ (b : Bool). if b then uncached else told_cached (kept_at s number)) (eq-eqb number agino one))
  | inr apart ↦
      ap told_cached (remove_other s.in_core agino number apart)
      ∙ sym (ap (λ (b : Bool). if b then uncached else told_cached (kept_at s number)) (ne_eqb number agino apart))
])
