-- The frees of a recovery: what they leave can be encoded, and all of them lead to the recovered table.
use Rattle.std.proofs.Common.{◌≡◌, ◌<◌, ◌≤◌, ◌/◌, ◌%◌, ℕ, zero, suc, Bool, true, false, eqb, List, [], ◌∷◌, length, get_or, take, Option, None, Some, inl, inr, refl, ap, sym, subst, ◌∙◌, arith}
use Rattle.std.specs.Prelude.{IsSomeAnd}
use Rattle.std.proofs.lemmas.Bool.{cases_lt, eq-eqb}
use Rattle.std.proofs.lemmas.Option.{none-some}
use Rattle.life_limits.specs.declared.TheConstants.{GROUP_NUMBERS, MAX_NUMBERS}
use Rattle.life_bytes.specs.declared.sector.Sector.{Sector}
use Rattle.geometry.specs.declared.shape.Geometry.{Geometry}
use Rattle.geometry.specs.Places.{number_in}
use Rattle.life_table.specs.declared.key.Key.{Key}
use Rattle.life_table.specs.declared.types.Row.{Row}
use Rattle.life_table.specs.declared.table.Inode.{Inode}
use Rattle.life_table.specs.declared.table.Table.{Table}
use Rattle.life_table.specs.Legal.{Awaits, Frees, freed}
use Rattle.life_table.specs.History.{Leads, closed, frees_of, orphans, recovered}
use Rattle.life_table.specs.Table.{Group, group_at, in_use, inode_in, inode_of, row_of, with_inode}
use Rattle.life_table.specs.WellFormed.{IsTable}
use Rattle.sound_image.specs.Encoding.{AreLayouts, CanEncode, Layouts, is_unlinked}
use Rattle.encoded_changes.specs.Changes.{FollowInode, Relists, TakesOut, taken_from}
use Rattle.orphan_frees.specs.Order.{freed_all, keys_to_free, unlisted_all}
use Rattle.orphan_frees.proofs.Counts.{fewer, few_orphans, none_unlinked_at_all}
use Rattle.orphan_frees.proofs.Due.{Apart, AwaitAll, apart_first, await_first, await_stays, gone_or_same, lead}
use Rattle.orphan_frees.proofs.Listed.{HasPlace, RowsClose, all_due, linked_rest, some_low}
use Rattle.orphan_frees.proofs.Rows.{free_inode}

-- what the laws say
abbrev pub FreesStay : Type 0
FreesStay = (t u : Table) (key : Key) → IsTable t → Frees t key u → IsTable u

abbrev pub RowsStand : Type 0
RowsStand = (t : Table) (key : Key) (row : Row) → row_of t key ≡ Some row → inode_of t key.number ≡ Some (in_use key row)

abbrev pub FollowsInode : Type 0
FollowsInode = (g : Geometry) (t : Table) (layouts others : Layouts) (image : List Sector) (number : ℕ) (old new : Inode) → CanEncode g t layouts image
    → inode_of t number ≡ Some old → IsTable (with_inode t number new) → FollowInode layouts number old new others → CanEncode g (with_inode t number new) others image

abbrev pub TakesOutLaw : Type 0
TakesOutLaw = (t : Table) (layouts : Layouts) (group agino : ℕ) → AreLayouts t layouts → group < length t.groups → TakesOut layouts (taken_from layouts group agino) group agino

abbrev pub AnyOrder : Type 0
AnyOrder = (t u : Table) (actor : ℕ) (keys : List Key) → Leads t (frees_of actor keys) u → orphans u ≡ 0 → u ≡ recovered t

pub record Laws : Type 0 where
  pub stay : FreesStay
  pub stand : RowsStand
  pub follow : FollowsInode
  pub take_out : TakesOutLaw
  pub any_order : AnyOrder
  pub close : RowsClose
  pub place : HasPlace

pub of : FreesStay → RowsStand → FollowsInode → TakesOutLaw → AnyOrder → RowsClose → HasPlace → Laws
of stay stand follow take_out any_order close place =
    record { stay = stay; stand = stand; follow = follow; take_out = take_out; any_order = any_order; close = close; place = place }

-- ---- one free

row_awaits : (o : Option Row) → IsSomeAnd o Awaits → (row : Row) × (o ≡ Some row) × (row.links ≡ 0)
row_awaits None is = absurd is
row_awaits (Some row) is = (row, refl, is.0)

nothing : (a : ℕ) (inode : Inode) → inode_in [] a ≡ Some inode → ⊥
unfolding inode_in
nothing a inode e = none-some inode e

-- a group that has an inode is there
inside_of : (groups : List Group) (i agino : ℕ) (inode : Inode) → inode_in (get_or groups i []) agino ≡ Some inode → i < length groups
inside_of [] i agino inode at = absurd (nothing agino inode at)
inside_of (group ∷ groups) zero agino inode at = omega arith
inside_of (group ∷ groups) (suc i) agino inode at = let rest = inside_of groups i agino inode at in omega (arith, rest)

pub group_there : (t : Table) (number : ℕ) (inode : Inode) → inode_of t number ≡ Some inode → number / GROUP_NUMBERS < length t.groups
unfolding inode_of
group_there t number inode at = inside_of t.groups (number / GROUP_NUMBERS) (number % GROUP_NUMBERS) inode at

relists_out : (layouts others : Layouts) (group agino : ℕ) (was : Bool) → was ≡ true → TakesOut layouts others group agino → Relists layouts group agino was false others
relists_out layouts others group agino was is takes = subst (λ (b : Bool). Relists layouts group agino b false others) (sym is) takes

pub one_encodes : Laws → (g : Geometry) (t : Table) (layouts : Layouts) (image : List Sector) (key : Key) → CanEncode g t layouts image → IsSomeAnd (row_of t key) Awaits
    → CanEncode g (freed t key) (taken_from layouts (key.number / GROUP_NUMBERS) (key.number % GROUP_NUMBERS)) image
one_encodes laws g t layouts image key can awaits =
    let row = row_awaits (row_of t key) awaits in
    let at : inode_of t key.number ≡ Some (in_use key row.0) = laws.stand t key row.0 row.1 in
    let table : IsTable (freed t key) = laws.stay t (freed t key) key can.table (awaits, refl) in
    let takes = laws.take_out t layouts (key.number / GROUP_NUMBERS) (key.number % GROUP_NUMBERS) can.layouts_of (group_there t key.number (in_use key row.0) at) in
    laws.follow g t layouts (taken_from layouts (key.number / GROUP_NUMBERS) (key.number % GROUP_NUMBERS)) image key.number (in_use key row.0) (free_inode key) can at table
    (relists_out layouts (taken_from layouts (key.number / GROUP_NUMBERS) (key.number % GROUP_NUMBERS)) (key.number / GROUP_NUMBERS) (key.number % GROUP_NUMBERS) (eqb row.0.links 0)
    (eq-eqb row.0.links 0 row.2) takes)

-- ---- several

pub all_encode : Laws → (g : Geometry) (t : Table) (layouts : Layouts) (image : List Sector) (keys : List Key) → CanEncode g t layouts image → AwaitAll t keys → Apart keys
    → CanEncode g (freed_all t keys) (unlisted_all layouts keys) image
unfolding freed_all unlisted_all
all_encode laws g t layouts image [] can all apart = can
all_encode laws g t layouts image (key ∷ keys) can all apart =
    all_encode laws g (freed t key) (taken_from layouts (key.number / GROUP_NUMBERS) (key.number % GROUP_NUMBERS)) image keys
    (one_encodes laws g t layouts image key can all.0) (await_stays t key keys apart.0 all.1) apart.1

pub first_encode : Laws → (g : Geometry) (t : Table) (layouts : Layouts) (image : List Sector) (count : ℕ) → CanEncode g t layouts image → closed t ≡ t
    → CanEncode g (freed_all t (take count (keys_to_free t layouts))) (unlisted_all layouts (take count (keys_to_free t layouts))) image
first_encode laws g t layouts image count can shut =
    let due = all_due laws.close laws.place g t layouts image can shut in
    all_encode laws g t layouts image (take count (keys_to_free t layouts)) can (await_first t count (keys_to_free t layouts) due.await_all)
    (apart_first count (keys_to_free t layouts) due.are_apart)

-- ---- all of them

whole_encode : Laws → (g : Geometry) (t : Table) (layouts : Layouts) (image : List Sector) → CanEncode g t layouts image → closed t ≡ t
    → CanEncode g (freed_all t (keys_to_free t layouts)) (unlisted_all layouts (keys_to_free t layouts)) image
whole_encode laws g t layouts image can shut =
    let due = all_due laws.close laws.place g t layouts image can shut in
    all_encode laws g t layouts image (keys_to_free t layouts) can due.await_all due.are_apart

at_number : (t : Table) (group agino : ℕ) → agino < GROUP_NUMBERS → inode_of t (number_in group agino) ≡ inode_in (group_at t group) agino
unfolding inode_of
at_number t group agino low =
    let high : number_in group agino / GROUP_NUMBERS ≡ group = omega (arith, low) in
    let part : number_in group agino % GROUP_NUMBERS ≡ agino = omega (arith, low) in
    ap (λ (g : ℕ). inode_in (group_at t g) (number_in group agino % GROUP_NUMBERS)) high
    ∙ ap (λ (n : ℕ). inode_in (group_at t group) n) part

-- an inode of a high number is not there
linked_at : Laws → (g : Geometry) (t : Table) (layouts : Layouts) (image : List Sector) (group agino : ℕ) → CanEncode g t layouts image → closed t ≡ t → group < g.groups
    → agino < GROUP_NUMBERS → is_unlinked (inode_in (group_at (freed_all t (keys_to_free t layouts)) group) agino) ≡ false
linked_at laws g t layouts image group agino can shut inside low =
    let keys : List Key = keys_to_free t layouts in
    let due = all_due laws.close laws.place g t layouts image can shut in
    ap (λ (o : Option Inode). is_unlinked o) (sym (at_number (freed_all t keys) group agino low))
    ∙ elim (gone_or_same t keys (number_in group agino) due.await_all due.are_apart) [
      | inl gone ↦ gone
      | inr same ↦ ap (λ (o : Option Inode). is_unlinked o) (same.1 ∙ at_number t group agino low) ∙ linked_rest g t layouts image group agino can inside same.0
    ]

high_linked : (o : Option Inode) (low : Type 0) → ((inode : Inode) → o ≡ Some inode → low) → (low → ⊥) → is_unlinked o ≡ false
high_linked None low is not_low = refl
high_linked (Some inode) low is not_low = absurd (not_low (is inode refl))

pub none_left_after : Laws → (g : Geometry) (t : Table) (layouts : Layouts) (image : List Sector) → CanEncode g t layouts image → closed t ≡ t → orphans (freed_all t (keys_to_free t layouts)) ≡ 0
none_left_after laws g t layouts image can shut =
    let u : Table = freed_all t (keys_to_free t layouts) in
    let after = whole_encode laws g t layouts image can shut in
    let n = after.groups in
    none_unlinked_at_all u after.table (λ i agino low.
    let inside : i < g.groups = omega (arith, low, n) in
    elim (cases_lt agino GROUP_NUMBERS) [
      | inl small ↦ linked_at laws g t layouts image i agino can shut inside small
      | inr high ↦ high_linked (inode_in (group_at u i) agino) (agino < GROUP_NUMBERS)
          (λ inode at. some_low laws.place g u (unlisted_all layouts (keys_to_free t layouts)) image i agino inode after inside at) (λ small. omega (arith, small, high))
    ])

pub all_recover : Laws → (g : Geometry) (t : Table) (layouts : Layouts) (image : List Sector) → CanEncode g t layouts image → closed t ≡ t → freed_all t (keys_to_free t layouts) ≡ recovered t
all_recover laws g t layouts image can shut =
    let due = all_due laws.close laws.place g t layouts image can shut in
    laws.any_order t (freed_all t (keys_to_free t layouts)) 0 (keys_to_free t layouts) (lead t 0 (keys_to_free t layouts) due.await_all due.are_apart) (none_left_after laws g t layouts image can shut)

pub one_for_each : Laws → (g : Geometry) (t : Table) (layouts : Layouts) (image : List Sector) → CanEncode g t layouts image → closed t ≡ t → length (keys_to_free t layouts) ≡ orphans t
one_for_each laws g t layouts image can shut =
    let due = all_due laws.close laws.place g t layouts image can shut in
    let less = fewer t (keys_to_free t layouts) due.await_all due.are_apart in
    let none = none_left_after laws g t layouts image can shut in
    omega (arith, less, none)

pub few_keys : Laws → (g : Geometry) (t : Table) (layouts : Layouts) (image : List Sector) → CanEncode g t layouts image → closed t ≡ t → length (keys_to_free t layouts) ≤ MAX_NUMBERS
few_keys laws g t layouts image can shut =
    let one = one_for_each laws g t layouts image can shut in
    let few = few_orphans t can.table in
    omega (arith, one, few)

pub no_keys : (keys : List Key) → length keys ≡ 0 → keys ≡ []
no_keys [] none = refl
no_keys (key ∷ keys) none = absurd (omega (arith, none))
