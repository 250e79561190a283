-- The layouts and the space of a table one of whose inodes comes to be another.
use Rattle.std.proofs.Common.{◌≡◌, ◌≢◌, ◌<◌, ◌≤◌, ◌+◌, ◌*◌, ◌%◌, ◌/◌, ℕ, Bool, true, false, List, [], ◌∷◌, Some, None, Option, length, eqb, cond, refl, ap, sym, subst, ◌∙◌, arith}
use Rattle.std.specs.Prelude.{◌&&◌}
use Rattle.std.proofs.Math.Bool.{beq}
use Rattle.std.proofs.lemmas.List.{get_or-set_same, get_or-set_other}
use Rattle.std.proofs.lemmas.Bool.{eqb-true, eq-eqb}
use Rattle.life_limits.specs.declared.TheConstants.{BUCKETS, FIRST_PAGE_BLOCK, GROUP_NUMBERS, NO_INODE}
use Rattle.geometry.specs.Places.{number_in}
use Rattle.inode_core.specs.declared.shape.Core.{Core}
use Rattle.life_table.specs.declared.types.Row.{Row}
use Rattle.life_table.specs.declared.table.Inode.{Inode}
use Rattle.life_table.specs.declared.table.Table.{Table}
use Rattle.life_table.specs.Space.{times}
use Rattle.life_table.specs.Table.{group_at, inode_in, inode_of, set_inode, with_group, with_inode}
use Rattle.sound_image.specs.Encoding.{AreLayouts, Layout, Layouts, bucket_list, core_for, head_of, is_unlinked, is_unlinked_row, layout_of, next_in, page_of}
use Rattle.encoded_changes.specs.Changes.{HasLists, Relists, put_in, taken_from, with_buckets}
use Rattle.group_ops.specs.Calls.{relisted}
use Rattle.group_ops.specs.declared.delta.Head.{Head}
use Rattle.group_ops.specs.declared.delta.Prior.{Prior}
use Rattle.group_ops.specs.Relinks.{IsFirst, IsTakenFrom, Relinks, StandsFor, next_of}
use Rattle.group_ops.specs.Represents.{IsGroupOf, incore_for}
use Rattle.group_ops.specs.Telling.{HasRowAt}
use Rattle.group_ops.specs.Values.{StateValue}

-- ---- the layouts

abbrev no_layout : Layout
no_layout = record { page = FIRST_PAGE_BLOCK; buckets = [] }

has_lists : (t : Table) (layouts : Layouts) (group : ℕ) → AreLayouts t layouts → group < length t.groups → HasLists layouts group
has_lists t layouts group are low = record { layout = omega (arith, low, are.groups); lists = are.lists group low }

pub relists : (t : Table) (layouts : Layouts) (group agino : ℕ) (was is : Bool) → AreLayouts t layouts → group < length t.groups
    → Relists layouts group agino was is (relisted layouts group agino was is)
relists t layouts group agino false true are low = record { had = has_lists t layouts group are low; made = refl }
relists t layouts group agino true false are low = record { had = has_lists t layouts group are low; made = refl }
relists t layouts group agino false false are low = refl
relists t layouts group agino true true are low = refl

page_own : (layouts : Layouts) (group : ℕ) (buckets : List (List ℕ)) → group < length layouts → page_of (with_buckets layouts group buckets) group ≡ page_of layouts group
unfolding page_of layout_of
page_own layouts group buckets low =
    ap (λ (l : Layout). l.page) (get_or-set_same layouts group (let own : Layout = record { page = page_of layouts group; buckets = buckets } in own) no_layout low)

pub page_stays : (t : Table) (layouts : Layouts) (group agino : ℕ) (was is : Bool) → AreLayouts t layouts → group < length t.groups
    → page_of (relisted layouts group agino was is) group ≡ page_of layouts group
page_stays t layouts group agino false true are low = page_own layouts group _ (omega (arith, low, are.groups))
page_stays t layouts group agino true false are low = page_own layouts group _ (omega (arith, low, are.groups))
page_stays t layouts group agino false false are low = refl
page_stays t layouts group agino true true are low = refl

group_other : (layouts : Layouts) (group other : ℕ) (buckets : List (List ℕ)) → other ≢ group → layout_of (with_buckets layouts group buckets) other ≡ layout_of layouts other
unfolding layout_of
group_other layouts group other buckets apart = get_or-set_other layouts group other (let own : Layout = record { page = page_of layouts group; buckets = buckets } in own) no_layout apart

pub others_stay : (layouts : Layouts) (group agino : ℕ) (was is : Bool) (other : ℕ) → other ≢ group → layout_of (relisted layouts group agino was is) other ≡ layout_of layouts other
others_stay layouts group agino false true other apart = group_other layouts group other _ apart
others_stay layouts group agino true false other apart = group_other layouts group other _ apart
others_stay layouts group agino false false other apart = refl
others_stay layouts group agino true true other apart = refl

-- ---- the inode of a number

pub with_is : (t : Table) (group agino : ℕ) (new : Inode) → agino < GROUP_NUMBERS
    → with_inode t (number_in group agino) new ≡ with_group t group (set_inode (group_at t group) agino new)
unfolding with_inode
with_is t group agino new low =
    let own : (group * GROUP_NUMBERS + agino) / GROUP_NUMBERS ≡ group = omega (arith, low) in
    let place : (group * GROUP_NUMBERS + agino) % GROUP_NUMBERS ≡ agino = omega (arith, low) in
    ap (λ (g : ℕ). with_group t g (set_inode (group_at t g) ((group * GROUP_NUMBERS + agino) % GROUP_NUMBERS) new)) own
    ∙ ap (λ (a : ℕ). with_group t group (set_inode (group_at t group) a new)) place

pub of_is : (t : Table) (group agino : ℕ) → agino < GROUP_NUMBERS → inode_of t (number_in group agino) ≡ inode_in (group_at t group) agino
unfolding inode_of
of_is t group agino low =
    let own : (group * GROUP_NUMBERS + agino) / GROUP_NUMBERS ≡ group = omega (arith, low) in
    let place : (group * GROUP_NUMBERS + agino) % GROUP_NUMBERS ≡ agino = omega (arith, low) in
    ap (λ (g : ℕ). inode_in (group_at t g) ((group * GROUP_NUMBERS + agino) % GROUP_NUMBERS)) own ∙ ap (λ (a : ℕ). inode_in (group_at t group) a) place

-- ---- the inode before another one is in its bucket

next_is_listed : (members : List ℕ) (first second : ℕ) → next_in members first ≡ second → second ≢ NO_INODE → 1 ≤ times second members
unfolding next_in times head_of
next_is_listed [] first second points some = absurd (some (sym points))
next_is_listed (member ∷ []) first second points some =
    elim (eqb member first) as (λ b. cond b NO_INODE NO_INODE ≡ second → 1 ≤ cond (eqb second member) 1 0 + 0) [
      | true ↦ λ e. absurd (some (sym e))
      | false ↦ λ e. absurd (some (sym e))
    ] points
next_is_listed (member ∷ other ∷ members) first second points some =
    elim (eqb member first) as (λ b. cond b other (next_in (other ∷ members) first) ≡ second → 1 ≤ cond (eqb second member) 1 0 + times second (other ∷ members)) [
      | true ↦ λ e. let here : eqb second other ≡ true = eq-eqb second other (sym e) in
          let one : cond {A = ℕ} (eqb second other) 1 0 ≡ 1 = ap (λ (b : Bool). cond {A = ℕ} b 1 0) here in
          omega (arith, one)
      | false ↦ λ e. let rest = next_is_listed (other ∷ members) first second e some in omega (arith, rest)
    ] points

own_bucket : (agino bucket : ℕ) (unlinked : Bool) → 1 ≤ cond ((eqb (agino % BUCKETS) bucket) && unlinked) 1 0 → agino % BUCKETS ≡ bucket
own_bucket agino bucket unlinked some =
    elim (eqb (agino % BUCKETS) bucket) as (λ b. eqb (agino % BUCKETS) bucket ≡ b → 1 ≤ cond (b && unlinked) 1 0 → agino % BUCKETS ≡ bucket) [
      | true ↦ λ is h. eqb-true (agino % BUCKETS) bucket is
      | false ↦ λ is h. absurd (omega (arith, h))
    ] refl some

pub prior_in_bucket : (t : Table) (layouts : Layouts) (group prior agino : ℕ) → AreLayouts t layouts → group < length t.groups → agino < GROUP_NUMBERS
    → next_of layouts group prior ≡ agino → next_in (bucket_list layouts group (agino % BUCKETS)) prior ≡ agino
prior_in_bucket t layouts group prior agino are low small points =
    let listed = next_is_listed (bucket_list layouts group (prior % BUCKETS)) prior agino points (λ e. omega (arith, e, small)) in
    let counted = are.buckets group (prior % BUCKETS) agino low (omega arith) in
    let own = own_bucket agino (prior % BUCKETS) (is_unlinked (inode_in (group_at t group) agino)) (subst (λ (n : ℕ). 1 ≤ n) counted listed) in
    ap (λ (b : ℕ). next_in (bucket_list layouts group b) prior) own ∙ points

-- ---- by whether an inode is in use without links, before and after

pub agree : (a b : Bool) → beq a b ≡ true → a ≡ b
agree true true e = refl
agree true false e = cc
agree false true e = cc
agree false false e = refl

pub was_false : (a b : Bool) → beq a b ≡ false → b ≡ true → a ≡ false
was_false true true e f = cc
was_false true false e f = cc
was_false false b e f = refl

pub was_true : (a b : Bool) → beq a b ≡ false → b ≡ false → a ≡ true
was_true true b e f = refl
was_true false true e f = cc
was_true false false e f = cc

pub listed_again : (layouts : Layouts) (group agino : ℕ) (was unlinked : Bool) → was ≡ unlinked → relisted layouts group agino was unlinked ≡ layouts
listed_again layouts group agino true unlinked e = ap (λ (b : Bool). relisted layouts group agino true b) (sym e)
listed_again layouts group agino false unlinked e = ap (λ (b : Bool). relisted layouts group agino false b) (sym e)

pub listed_first : (layouts : Layouts) (group agino : ℕ) (was unlinked : Bool) → was ≡ false → unlinked ≡ true → relisted layouts group agino was unlinked ≡ put_in layouts group agino
listed_first layouts group agino was unlinked w u = ap (λ (b : Bool). relisted layouts group agino b unlinked) w ∙ ap (λ (b : Bool). relisted layouts group agino false b) u

pub listed_no_more : (layouts : Layouts) (group agino : ℕ) (was unlinked : Bool) → was ≡ true → unlinked ≡ false → relisted layouts group agino was unlinked ≡ taken_from layouts group agino
listed_no_more layouts group agino was unlinked w u = ap (λ (b : Bool). relisted layouts group agino b unlinked) w ∙ ap (λ (b : Bool). relisted layouts group agino true b) u

pub stands_again : (layouts : Layouts) (group agino : ℕ) (was unlinked : Bool) → was ≡ unlinked → StandsFor layouts group agino was unlinked None None
stands_again layouts group agino true true e = (refl, refl)
stands_again layouts group agino true false e = cc
stands_again layouts group agino false true e = cc
stands_again layouts group agino false false e = (refl, refl)

pub stands_first : (layouts : Layouts) (group agino : ℕ) (was unlinked : Bool) (head : Option Head) (prior : Option Prior) → was ≡ false → unlinked ≡ true → IsFirst head prior
    → StandsFor layouts group agino was unlinked head prior
stands_first layouts group agino was unlinked head prior w u is =
    subst (λ (b : Bool). StandsFor layouts group agino b unlinked head prior) (sym w) (subst (λ (b : Bool). StandsFor layouts group agino false b head prior) (sym u) is)

pub stands_no_more : (layouts : Layouts) (group agino : ℕ) (was unlinked : Bool) (head : Option Head) (prior : Option Prior) → was ≡ true → unlinked ≡ false → IsTakenFrom layouts group agino head prior
    → StandsFor layouts group agino was unlinked head prior
stands_no_more layouts group agino was unlinked head prior w u is =
    subst (λ (b : Bool). StandsFor layouts group agino b unlinked head prior) (sym w) (subst (λ (b : Bool). StandsFor layouts group agino true b head prior) (sym u) is)

-- ---- the core of an inode in use

pub links_of : (layouts : Layouts) (group agino : ℕ) (inode : Inode) (row : Row) (core : Core) → inode.row ≡ Some row → core ≡ (incore_for layouts group agino inode).core → core.links ≡ row.links
unfolding core_for
links_of layouts group agino inode row core used is =
    ap (λ (c : Core). c.links) is ∙ ap (λ (o : Option Row). (core_for inode.generation o (next_in (bucket_list layouts group (agino % BUCKETS)) agino)).links) used

pub pointer_of : (layouts : Layouts) (group agino : ℕ) (inode : Inode) (row : Row) (core : Core) → inode.row ≡ Some row → core ≡ (incore_for layouts group agino inode).core
    → core.next ≡ next_of layouts group agino
unfolding core_for
pointer_of layouts group agino inode row core used is =
    ap (λ (c : Core). c.next) is ∙ ap (λ (o : Option Row). (core_for inode.generation o (next_in (bucket_list layouts group (agino % BUCKETS)) agino)).next) used

pub unlinked_by : (s : StateValue) (t : Table) (layouts : Layouts) (agino : ℕ) (inode : Inode) (row : Row) (b : Bool) → HasRowAt s agino t layouts inode row → eqb row.links 0 ≡ b
    → is_unlinked (inode_in (group_at t s.group) agino) ≡ b
unlinked_by s t layouts agino inode row b has e = ap is_unlinked has.inode_there ∙ ap is_unlinked_row has.used ∙ e

-- the heads of a state whose lists stay
pub heads_stay : (s : StateValue) (t : Table) (layouts : Layouts) (agino : ℕ) → IsGroupOf s t layouts → Relinks s t layouts layouts agino None None
heads_stay s t layouts agino is = record { heads = is.heads; apart = λ other apart before. refl; before = tt }
