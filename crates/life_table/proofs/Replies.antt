-- Each call that the table answers has one reply.
use Rattle.std.proofs.Common.{◌≡◌, ◌==◌, ◌+◌, ◌*◌, ◌<◌, ◌≤◌, ◌&&◌, ℕ, suc, true, false, List, [], ◌∷◌, Option, None, Some, is_some, if◌then◌else◌, nat_lt, length, slice_get, replicate, refl, sym, ap, ◌∙◌, inl, inr, arith, length-append}
use Rattle.std.proofs.lemmas.Option.{none-some}
use Rattle.std.proofs.lemmas.Bool.{cases_Bool, cases_lt, eqb-true, eqb-false, eq-eqb, ne_eqb, and_from, and_right, and_parts, lt-ltb, le-ltb, ltb-true, ltb-false, true≢false}
use Rattle.life_limits.specs.declared.TheConstants.{GROUP_NUMBERS, MAX_EXTENTS, MAX_LINKS, MAX_PINS}
use Rattle.extent_fork.specs.Runs.{runs}
use Rattle.life_table.specs.declared.key.Key.{Key}
use Rattle.life_table.specs.declared.types.Row.{Row}
use Rattle.life_table.specs.declared.types.Call.{Call}
use Rattle.life_table.specs.declared.types.Call.TheVariants as call
use Rattle.life_table.specs.declared.types.Reply.{Reply}
use Rattle.life_table.specs.declared.types.Reply.TheVariants as reply
use Rattle.life_table.specs.declared.table.Chunk.{Chunk}
use Rattle.life_table.specs.declared.table.Table.{Table}
use Rattle.life_table.specs.Table.{Group, group_at, row_of}
use Rattle.life_table.specs.Space.{keys_from, free_keys, lowest_key, chunk_place, new_chunk, insert_chunk, with_chunk, prepared}
use Rattle.life_table.specs.Replies.{row_reply, key_reply, create_reply, reply_of}
use Rattle.life_table.specs.Legal.{free_of, grown_blocks, RowReplies, KeyReplies, Permits, Legal, after_call, IsOfTable, IsOpen, CanMake}

not_less : (a b : ℕ) → (a < b → ⊥) → nat_lt a b ≡ false
not_less a b not = elim (cases_lt a b) [ inl less ↦ absurd (not less) | inr high ↦ le-ltb a b high ]

row_only : (t : Table) (row : Row) (called : Call) (answer : Reply) → RowReplies t row called answer → answer ≡ row_reply t row called
row_only t row (call.OpenKey key) reply.Stale h =
    let is : (row.links == 0 && row.opens == 0) ≡ true = and_from (row.links == 0) (row.opens == 0) (eq-eqb row.links 0 h.0) (eq-eqb row.opens 0 h.1) in
    rw is
row_only t row (call.OpenKey key) reply.Crowded h =
    let held : (row.opens == 0) ≡ false = ne_eqb row.opens 0 (λ e. omega (arith, e, h)) in
    let is : (row.links == 0 && row.opens == 0) ≡ false = and_right (row.links == 0) (row.opens == 0) held in
    let most : (row.opens == MAX_PINS) ≡ true = eq-eqb row.opens MAX_PINS h in
    rw (is, most)
row_only t row (call.OpenKey key) reply.Done h =
    elim (cases_Bool (row.links == 0 && row.opens == 0)) [
      | inl awaits ↦
          let parts = and_parts (row.links == 0) (row.opens == 0) awaits in
          absurd (h.0 (eqb-true row.links 0 parts.0, eqb-true row.opens 0 parts.1))
      | inr is ↦ let below : (row.opens == MAX_PINS) ≡ false = ne_eqb row.opens MAX_PINS h.1 in rw (is, below)
    ]
row_only t row (call.CloseKey key) reply.Done h = refl
row_only t row (call.Link key) reply.TooManyLinks h = let is : (row.links == MAX_LINKS) ≡ true = eq-eqb row.links MAX_LINKS h in rw is
row_only t row (call.Link key) reply.Done h = let is : (row.links == MAX_LINKS) ≡ false = ne_eqb row.links MAX_LINKS h in rw is
row_only t row (call.Unlink key) reply.NoLinks h = let is : (row.links == 0) ≡ true = eq-eqb row.links 0 h in rw is
row_only t row (call.Unlink key) reply.Done h = let is : (row.links == 0) ≡ false = ne_eqb row.links 0 h in rw is
row_only t row (call.Grow key count) reply.NoSpace h = let is : nat_lt (length (free_of t key)) count ≡ true = lt-ltb (length (free_of t key)) count h in rw is
row_only t row (call.Grow key count) reply.TooManyExtents h =
    let is : nat_lt (length (free_of t key)) count ≡ false = not_less (length (free_of t key)) count h.0 in
    let many : nat_lt MAX_EXTENTS (length (runs (grown_blocks t key count row))) ≡ true = lt-ltb MAX_EXTENTS (length (runs (grown_blocks t key count row))) h.1 in
    rw (is, many)
row_only t row (call.Grow key count) reply.Done h =
    let is : nat_lt (length (free_of t key)) count ≡ false = not_less (length (free_of t key)) count h.0 in
    let few : nat_lt MAX_EXTENTS (length (runs (grown_blocks t key count row))) ≡ false = le-ltb MAX_EXTENTS (length (runs (grown_blocks t key count row))) h.1 in
    rw (is, few)
row_only t row (call.Cut key count) reply.CutTooFar h = let is : nat_lt (length row.blocks) count ≡ true = lt-ltb (length row.blocks) count h in rw is
row_only t row (call.Cut key count) reply.Done h = let is : nat_lt (length row.blocks) count ≡ false = le-ltb (length row.blocks) count h in rw is
row_only t row (call.Stat key) (reply.Shown shown links blocks extents) h = λ i. reply.Shown (h.0 i) (h.1 i) (h.2 i) (h.3 i)
row_only t row _ _ h = absurd h

-- a call on a row that its caller holds
abbrev IsOnKey : Call → Type 0
IsOnKey (call.CloseKey key) = Unit {0}
IsOnKey (call.Link key) = Unit {0}
IsOnKey (call.Unlink key) = Unit {0}
IsOnKey (call.Grow key count) = Unit {0}
IsOnKey (call.Cut key count) = Unit {0}
IsOnKey (call.Stat key) = Unit {0}
IsOnKey _ = ⊥

row_some : (t : Table) (row : Row) (called : Call) → IsOnKey called → 1 ≤ row.opens → RowReplies t row called (row_reply t row called)
row_some t row (call.CloseKey key) on held = held
row_some t row (call.Link key) on held =
    elim (row.links == MAX_LINKS) as (λ c. row.links == MAX_LINKS ≡ c → RowReplies t row (call.Link key) (if c then reply.TooManyLinks else reply.Done)) [
      | true ↦ λ is. eqb-true row.links MAX_LINKS is
      | false ↦ λ is. eqb-false row.links MAX_LINKS is
    ] refl
row_some t row (call.Unlink key) on held =
    elim (row.links == 0) as (λ c. row.links == 0 ≡ c → RowReplies t row (call.Unlink key) (if c then reply.NoLinks else reply.Done)) [
      | true ↦ λ is. eqb-true row.links 0 is
      | false ↦ λ is. eqb-false row.links 0 is
    ] refl
row_some t row (call.Grow key count) on held =
    elim (nat_lt (length (free_of t key)) count) as (λ c. nat_lt (length (free_of t key)) count ≡ c
    → RowReplies t row (call.Grow key count) (if c then reply.NoSpace else (if nat_lt MAX_EXTENTS (length (runs (grown_blocks t key count row))) then reply.TooManyExtents else reply.Done))) [
      | true ↦ λ is. ltb-true (length (free_of t key)) count is
      | false ↦ λ is.
          let enough : count ≤ length (free_of t key) = ltb-false (length (free_of t key)) count is in
          elim (nat_lt MAX_EXTENTS (length (runs (grown_blocks t key count row)))) as (λ d. nat_lt MAX_EXTENTS (length (runs (grown_blocks t key count row))) ≡ d
          → RowReplies t row (call.Grow key count) (if d then reply.TooManyExtents else reply.Done)) [
            | true ↦ λ many. (λ short. omega (arith, short, enough), ltb-true MAX_EXTENTS (length (runs (grown_blocks t key count row))) many)
            | false ↦ λ many. (λ short. omega (arith, short, enough), ltb-false MAX_EXTENTS (length (runs (grown_blocks t key count row))) many)
          ] refl
    ] refl
row_some t row (call.Cut key count) on held =
    elim (nat_lt (length row.blocks) count) as (λ c. nat_lt (length row.blocks) count ≡ c → RowReplies t row (call.Cut key count) (if c then reply.CutTooFar else reply.Done)) [
      | true ↦ λ is. ltb-true (length row.blocks) count is
      | false ↦ λ is. ltb-false (length row.blocks) count is
    ] refl
row_some t row (call.Stat key) on held = (refl, refl, refl, refl)
row_some t row _ on held = absurd on

open_some : (t : Table) (row : Row) (key : Key) → RowReplies t row (call.OpenKey key) (row_reply t row (call.OpenKey key))
open_some t row key =
    elim (row.links == 0 && row.opens == 0) as (λ c. (row.links == 0 && row.opens == 0) ≡ c
    → RowReplies t row (call.OpenKey key) (if c then reply.Stale else (if row.opens == MAX_PINS then reply.Crowded else reply.Done))) [
      | true ↦ λ is.
          let parts = and_parts (row.links == 0) (row.opens == 0) is in
          (eqb-true row.links 0 parts.0, eqb-true row.opens 0 parts.1)
      | false ↦ λ is.
          elim (row.opens == MAX_PINS) as (λ d. row.opens == MAX_PINS ≡ d → RowReplies t row (call.OpenKey key) (if d then reply.Crowded else reply.Done)) [
            | true ↦ λ most. eqb-true row.opens MAX_PINS most
            | false ↦ λ most. (
              λ awaits. true≢false (sym (and_from (row.links == 0) (row.opens == 0) (eq-eqb row.links 0 awaits.0) (eq-eqb row.opens 0 awaits.1)) ∙ is),
              eqb-false row.opens MAX_PINS most,
            )
          ] refl
    ] refl

key_only : (t : Table) (o : Option Row) (called : Call) (answer : Reply) → KeyReplies t o called answer → answer ≡ key_reply t o called
key_only t None (call.OpenKey key) reply.Stale h = refl
key_only t None _ _ h = absurd h
key_only t (Some row) called answer h = row_only t row called answer h

key_some : (t : Table) (o : Option Row) (called : Call) → IsOnKey called → IsOpen o → KeyReplies t o called (key_reply t o called)
key_some t None called on held = absurd held
key_some t (Some row) called on held = row_some t row called on held

open_key_some : (t : Table) (o : Option Row) (key : Key) → KeyReplies t o (call.OpenKey key) (key_reply t o (call.OpenKey key))
open_key_some t None key = tt
open_key_some t (Some row) key = open_some t row key

-- a new chunk has a free number
some_new : (number : ℕ) (n : ℕ) → 1 ≤ length (keys_from number (replicate (suc n) (record { generation = 1; row = None })))
unfolding keys_from
some_new number n = omega arith

some_insert : (g : ℕ) (new : Chunk) (group : Group) → ((number : ℕ) → 1 ≤ length (keys_from number new.inodes)) → 1 ≤ length (free_keys g (insert_chunk new group))
unfolding insert_chunk free_keys
some_insert g new [] some =
    let parts = length-append (keys_from (g * GROUP_NUMBERS + new.start) new.inodes) [] in
    let has = some (g * GROUP_NUMBERS + new.start) in
    omega (arith, parts, has)
some_insert g new (chunk ∷ chunks) some =
    elim (nat_lt new.start chunk.start) as (λ c. 1 ≤ length (free_keys g (if c then new ∷ chunk ∷ chunks else chunk ∷ insert_chunk new chunks))) [
      | true ↦
          let parts = length-append (keys_from (g * GROUP_NUMBERS + new.start) new.inodes) (free_keys g (chunk ∷ chunks)) in
          let has = some (g * GROUP_NUMBERS + new.start) in
          omega (arith, parts, has)
      | false ↦
          let parts = length-append (keys_from (g * GROUP_NUMBERS + chunk.start) chunk.inodes) (free_keys g (insert_chunk new chunks)) in
          let rest = some_insert g new chunks some in
          omega (arith, parts, rest)
    ]

head_none : {X : Type 0} (xs : List X) → slice_get xs 0 ≡ None → length xs ≡ 0
head_none [] none = refl
head_none (x ∷ xs) none = absurd (none-some x (sym none))

new_has : (block number : ℕ) → 1 ≤ length (keys_from number (new_chunk block).inodes)
unfolding new_chunk
new_has block number = some_new number 63

new_not_none : (g block : ℕ) (group : Group) → lowest_key g (insert_chunk (new_chunk block) group) ≡ None → ⊥
new_not_none g block group none =
    let has = some_insert g (new_chunk block) group (new_has block) in
    let empty = head_none (free_keys g (insert_chunk (new_chunk block) group)) none in
    omega (arith, has, empty)

-- what a create finds, by what is free
prepared_some : (blocks g : ℕ) (group : Group) (key : Key) → lowest_key g group ≡ Some key → prepared blocks g group ≡ group
unfolding prepared
prepared_some blocks g group key is = ap (λ o. if is_some o then group else with_chunk group (chunk_place blocks group)) is

prepared_as : (blocks g : ℕ) (group : Group) (place : Option ℕ) → lowest_key g group ≡ None → chunk_place blocks group ≡ place → prepared blocks g group ≡ with_chunk group place
unfolding prepared
prepared_as blocks g group place is at = ap (λ o. if is_some o then group else with_chunk group (chunk_place blocks group)) is ∙ ap (with_chunk group) at

-- a create finds no number exactly where none is free and no chunk can be added
pub finds_none : (blocks g : ℕ) (group : Group) → lowest_key g (prepared blocks g group) ≡ None → (lowest_key g group ≡ None) × (chunk_place blocks group ≡ None)
finds_none blocks g group none =
    elim (lowest_key g group) as (λ (o : Option Key). lowest_key g group ≡ o → (o ≡ None) × (chunk_place blocks group ≡ None)) [
      | Some key ↦ λ is. absurd (none-some key (sym none ∙ ap (lowest_key g) (prepared_some blocks g group key is) ∙ is))
      | None ↦ λ is.
          elim (chunk_place blocks group) as (λ (p : Option ℕ). chunk_place blocks group ≡ p → ◌≡◌ {A = Option Key} None None × (p ≡ None)) [
            | None ↦ λ at. (refl, refl)
            | Some block ↦ λ at. absurd (new_not_none g block group (sym (ap (lowest_key g) (prepared_as blocks g group (Some block) is at)) ∙ none))
          ] refl
    ] refl

pub none_found : (blocks g : ℕ) (group : Group) → lowest_key g group ≡ None → chunk_place blocks group ≡ None → lowest_key g (prepared blocks g group) ≡ None
none_found blocks g group none place = ap (lowest_key g) (prepared_as blocks g group None none place) ∙ none

only : (t : Table) (called : Call) (answer : Reply) → IsOfTable called → Permits t called answer → answer ≡ reply_of t called
only t (call.Create g) (reply.Made key) of h = ap create_reply (sym h.1)
only t (call.Create g) reply.NoInodes of h = ap create_reply (sym (none_found t.blocks g (group_at t g) h.1.0 h.1.1))
only t (call.Create g) _ of h = absurd h
only t (call.Tmpfile g) (reply.Made key) of h = ap create_reply (sym h.1)
only t (call.Tmpfile g) reply.NoInodes of h = ap create_reply (sym (none_found t.blocks g (group_at t g) h.1.0 h.1.1))
only t (call.Tmpfile g) _ of h = absurd h
only t (call.OpenKey key) answer of h = key_only t (row_of t key) (call.OpenKey key) answer h
only t (call.CloseKey key) answer of h = key_only t (row_of t key) (call.CloseKey key) answer h
only t (call.Link key) answer of h = key_only t (row_of t key) (call.Link key) answer h
only t (call.Unlink key) answer of h = key_only t (row_of t key) (call.Unlink key) answer h
only t (call.Grow key count) answer of h = key_only t (row_of t key) (call.Grow key count) answer h
only t (call.Cut key count) answer of h = key_only t (row_of t key) (call.Cut key count) answer h
only t (call.Stat key) answer of h = key_only t (row_of t key) (call.Stat key) answer h
only t call.Gc reply.Done of h = refl
only t call.Gc _ of h = absurd h
only t (call.FlushInodes g) reply.Done of h = refl
only t (call.FlushInodes g) _ of h = absurd h
only t (call.Reclaim g) reply.Done of h = refl
only t (call.Reclaim g) _ of h = absurd h
only t call.Home answer of h = absurd of
only t call.Sync answer of h = absurd of

pub one_reply : (t u v : Table) (called : Call) (first second : Reply) → IsOfTable called → Legal t called first u → Legal t called second v → (first ≡ second) × (u ≡ v)
one_reply t u v called first second of one other =
    let same : first ≡ second = only t called first of one.0 ∙ sym (only t called second of other.0) in
    (same, one.1 ∙ ap (after_call t called) same ∙ sym other.1)

create_some : (t : Table) (g : ℕ) → g < length t.groups → (o : Option Key) → lowest_key g (prepared t.blocks g (group_at t g)) ≡ o → Permits t (call.Create g) (create_reply o)
create_some t g low None is = (low, finds_none t.blocks g (group_at t g) is)
create_some t g low (Some key) is = (low, is)

tmpfile_some : (t : Table) (g : ℕ) → g < length t.groups → (o : Option Key) → lowest_key g (prepared t.blocks g (group_at t g)) ≡ o → Permits t (call.Tmpfile g) (create_reply o)
tmpfile_some t g low None is = (low, finds_none t.blocks g (group_at t g) is)
tmpfile_some t g low (Some key) is = (low, is)

pub permitted : (t : Table) (called : Call) → IsOfTable called → CanMake t called → Permits t called (reply_of t called)
permitted t (call.Create g) of can = create_some t g can (lowest_key g (prepared t.blocks g (group_at t g))) refl
permitted t (call.Tmpfile g) of can = tmpfile_some t g can (lowest_key g (prepared t.blocks g (group_at t g))) refl
permitted t (call.OpenKey key) of can = open_key_some t (row_of t key) key
permitted t (call.CloseKey key) of can = key_some t (row_of t key) (call.CloseKey key) tt can
permitted t (call.Link key) of can = key_some t (row_of t key) (call.Link key) tt can
permitted t (call.Unlink key) of can = key_some t (row_of t key) (call.Unlink key) tt can
permitted t (call.Grow key count) of can = key_some t (row_of t key) (call.Grow key count) tt can
permitted t (call.Cut key count) of can = key_some t (row_of t key) (call.Cut key count) tt can
permitted t (call.Stat key) of can = key_some t (row_of t key) (call.Stat key) tt can
permitted t call.Gc of can = tt
permitted t (call.FlushInodes g) of can = tt
permitted t (call.Reclaim g) of can = tt
permitted t call.Home of can = absurd of
permitted t call.Sync of can = absurd of

pub some_reply : (t : Table) (called : Call) → IsOfTable called → CanMake t called → (answer : Reply) × (u : Table) × Legal t called answer u
some_reply t called of can = (reply_of t called, after_call t called (reply_of t called), (permitted t called of can, refl))
