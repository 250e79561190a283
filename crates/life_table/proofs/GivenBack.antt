-- Which blocks come to be free.
use Rattle.std.proofs.Common.{◌≡◌, ◌≢◌, ◌+◌, ◌-◌, ◌/◌, ◌%◌, ◌<◌, ◌≤◌, ℕ, zero, suc, true, false, List, [], ◌∷◌, Option, None, Some, is_some, if◌then◌else◌, length, take, drop, refl, sym, ap, subst, ◌∙◌, inl, inr, arith}
use Rattle.std.proofs.lemmas.Option.{none-some, same_Some}
use Rattle.std.proofs.lemmas.Bool.{cases_Bool, cases_eq, cases_lt, true≢false}
use Rattle.life_limits.specs.declared.TheConstants.{GROUP_NUMBERS}
use Rattle.life_table.specs.declared.key.Key.{Key}
use Rattle.life_table.specs.declared.types.Row.{Row}
use Rattle.life_table.specs.declared.types.Call.{Call}
use Rattle.life_table.specs.declared.types.Call.TheVariants as call
use Rattle.life_table.specs.declared.types.Reply.{Reply}
use Rattle.life_table.specs.declared.types.Reply.TheVariants as reply
use Rattle.life_table.specs.declared.table.Inode.{Inode}
use Rattle.life_table.specs.declared.table.Table.{Table}
use Rattle.life_table.specs.Table.{Group, group_number, group_at, inode_of, row_of, with_row, in_use, with_inode, set_inode}
use Rattle.life_table.specs.Space.{times, row_blocks, used, is_free_block, free_blocks, lowest_key, chunk_place, new_chunk, with_chunk, prepared}
use Rattle.life_table.specs.Legal.{free_in, free_of, last_blocks, prepare, IsNextKey, Permits, Legal, made_row, row_after, with_changed, after_call, freed, Frees, IsNoCut}
use Rattle.life_table.specs.WellFormed.{IsGroup, IsTable, IsDataBlock}
use Rattle.life_table.proofs.Counts.{times-nil, times-append, times-free, times-not_free, times-set_inode, times-insert_chunk, is_free_block-parts, is_free_block-from}
use Rattle.life_table.proofs.Lookups.{group_of-with_same, group_of-with_other, has_group}
use Rattle.life_table.proofs.Moves.{HasRow-from}
use Rattle.life_table.proofs.Tables.{IsGroup-group_of}
use Rattle.life_table.proofs.WellKept.{IsPrepared-next}

-- how often a block stands among the free ones, by how often it is used
record CountsFree (blocks : ℕ) (group : Group) (b : ℕ) : Type 0 where
  unused : IsDataBlock blocks b → times b (used group) ≡ 0 → times b (free_blocks blocks group) ≡ 1
  some : 1 ≤ times b (used group) → times b (free_blocks blocks group) ≡ 0
  other : (IsDataBlock blocks b → ⊥) → times b (free_blocks blocks group) ≡ 0
  few : times b (free_blocks blocks group) ≤ 1
  back : times b (free_blocks blocks group) ≡ 1 → IsDataBlock blocks b × (times b (used group) ≡ 0)

counts_free : (blocks : ℕ) (group : Group) (b : ℕ) → CountsFree blocks group b
counts_free blocks group b =
    elim (cases_Bool (is_free_block blocks group b)) [
      | inl free ↦
          let one = times-free blocks group b free in
          let parts = is_free_block-parts blocks group b free in
          record {
            unused = λ inside none. one;
            some = λ some. absurd (omega (arith, some, parts.2));
            other = λ outside. absurd (outside (parts.0, parts.1));
            few = omega (arith, one);
            back = λ is. ((parts.0, parts.1), parts.2);
          }
      | inr taken ↦
          let none = times-not_free blocks group b taken in
          record {
            unused = λ inside unused. absurd (true≢false (sym (is_free_block-from blocks group b inside.0 inside.1 unused) ∙ taken));
            some = λ some. none;
            other = λ outside. none;
            few = omega (arith, none);
            back = λ is. absurd (omega (arith, is, none));
          }
    ]

-- blocks that were used once each and are used no longer are free, once each
free_more : (blocks : ℕ) (before after : Group) (b given : ℕ) → IsGroup blocks before → times b (used after) + given ≡ times b (used before)
    → times b (free_blocks blocks after) ≡ times b (free_blocks blocks before) + given
free_more blocks before after b given ok moved =
    let old = counts_free blocks before b in
    let new = counts_free blocks after b in
    let once : times b (used before) ≤ 1 = ok.once b in
    let old_few : times b (free_blocks blocks before) ≤ 1 = old.few in
    let new_few : times b (free_blocks blocks after) ≤ 1 = new.few in
    elim (cases_lt 0 (times b (used before))) [
      | inl has ↦
          let inside : IsDataBlock blocks b = ok.data_blocks b has in
          let taken : times b (free_blocks blocks before) ≡ 0 = old.some has in
          elim (cases_lt 0 given) [
            | inl some ↦
                let free : times b (free_blocks blocks after) ≡ 1 = new.unused inside (omega (arith, moved, once, some)) in
                omega (arith, free, taken, moved, once, some)
            | inr none ↦
                let still : times b (free_blocks blocks after) ≡ 0 = new.some (omega (arith, moved, has, none)) in
                omega (arith, still, taken, none)
          ]
      | inr unused ↦
          let zero_before : times b (used before) ≡ 0 = omega (arith, unused) in
          let zero_after : times b (used after) ≡ 0 = omega (arith, unused, moved) in
          elim (cases_lt 0 (times b (free_blocks blocks before))) [
            | inl free ↦
                let inside = (old.back (omega (arith, free, old_few))).0 in
                let one : times b (free_blocks blocks after) ≡ 1 = new.unused inside zero_after in
                omega (arith, one, free, old_few, moved, zero_before)
            | inr not_free ↦
                elim (cases_lt 0 (times b (free_blocks blocks after))) [
                  | inl also ↦
                      let inside = (new.back (omega (arith, also, new_few))).0 in
                      let one : times b (free_blocks blocks before) ≡ 1 = old.unused inside zero_before in
                      absurd (omega (arith, one, not_free))
                  | inr neither ↦ omega (arith, neither, not_free, moved, zero_before)
                ]
          ]
    ]

-- where no block is used less, none comes to be free
free_fewer : (blocks : ℕ) (before after : Group) (b : ℕ) → times b (used before) ≤ times b (used after) → times b (free_blocks blocks after) ≤ times b (free_blocks blocks before)
free_fewer blocks before after b more =
    let old = counts_free blocks before b in
    let new = counts_free blocks after b in
    let few : times b (free_blocks blocks after) ≤ 1 = new.few in
    elim (cases_lt 0 (times b (free_blocks blocks after))) [
      | inl free ↦
          let back = new.back (omega (arith, free, few)) in
          let one : times b (free_blocks blocks before) ≡ 1 = old.unused back.0 (omega (arith, back.1, more)) in
          omega (arith, one, few)
      | inr none ↦ omega (arith, none)
    ]

-- the group of a number whose inode was changed
group_of-with_inode : (t : Table) (number : ℕ) (old new : Inode) → inode_of t number ≡ Some old
    → group_at (with_inode t number new) (number / GROUP_NUMBERS) ≡ set_inode (group_at t (number / GROUP_NUMBERS)) (number % GROUP_NUMBERS) new
unfolding with_inode
group_of-with_inode t number old new at =
    let g = number / GROUP_NUMBERS in
    group_of-with_same t g (set_inode (group_at t g) (number % GROUP_NUMBERS) new) (has_group t number old at)

pub group_of-with_inode_other : (t : Table) (number g : ℕ) (new : Inode) → g ≢ number / GROUP_NUMBERS → group_at (with_inode t number new) g ≡ group_at t g
unfolding with_inode
group_of-with_inode_other t number g new apart =
    group_of-with_other t (number / GROUP_NUMBERS) g (set_inode (group_at t (number / GROUP_NUMBERS)) (number % GROUP_NUMBERS) new) apart

used-with_inode : (t : Table) (number : ℕ) (old new : Inode) (b : ℕ) → inode_of t number ≡ Some old
    → times b (used (group_at (with_inode t number new) (number / GROUP_NUMBERS))) + times b (row_blocks old.row) ≡ times b (used (group_at t (number / GROUP_NUMBERS))) + times b (row_blocks new.row)
unfolding inode_of
used-with_inode t number old new b at =
    let g = number / GROUP_NUMBERS in
    ap (λ group. times b (used group) + times b (row_blocks old.row)) (group_of-with_inode t number old new at)
    ∙ times-set_inode b (group_at t g) (number % GROUP_NUMBERS) old new at

-- a free gives back the blocks of its row
pub free_gives : (t : Table) (key : Key) (u : Table) (row : Row) (b : ℕ) → IsTable t → Frees t key u → row_of t key ≡ Some row
    → times b (free_of u key) ≡ times b (free_of t key) + times b row.blocks
unfolding with_inode
free_gives t key u row b ok frees at =
    let has = HasRow-from (inode_of t key.number) key.generation row at in
    let gone : Inode = record { generation = key.generation + 1; row = None } in
    let moved = used-with_inode t key.number has.inode gone b has.at in
    let none = times-nil b in
    let same : times b (row_blocks has.inode.row) ≡ times b row.blocks = ap (λ o. times b (row_blocks o)) has.is in
    ap (λ v. times b (free_of v key)) frees.1
    ∙ free_more t.blocks (group_at t (group_number key)) (group_at (freed t key) (group_number key)) b (times b row.blocks) (IsGroup-group_of t (group_number key) ok) (omega (arith, moved, none, same))

pub free_keeps_others : (t : Table) (key : Key) (u : Table) (g : ℕ) → Frees t key u → g ≢ group_number key → group_at u g ≡ group_at t g
free_keeps_others t key u g frees apart =
    ap (λ v. group_at v g) frees.1 ∙ group_of-with_inode_other t key.number g (record { generation = key.generation + 1; row = None }) apart

-- the two parts of a list
times-take-drop : (b k : ℕ) (xs : List ℕ) → times b (take k xs) + times b (drop k xs) ≡ times b xs
unfolding times
times-take-drop b zero xs = omega arith
times-take-drop b (suc k) [] = omega arith
times-take-drop b (suc k) (x ∷ xs) = let rest = times-take-drop b k xs in omega (arith, rest)

-- a cut gives back the blocks that it takes away
cut_row : (t : Table) (key : Key) (count : ℕ) (o : Option Row) (row : Row) (b : ℕ) → IsTable t → row_of t key ≡ o → o ≡ Some row
    → times b (free_of (with_changed t key o (call.Cut key count)) key) ≡ times b (free_of t key) + times b (last_blocks count row)
unfolding with_inode
cut_row t key count None row b ok at is = absurd (none-some row is)
cut_row t key count (Some first) row b ok at is =
    let has = HasRow-from (inode_of t key.number) key.generation first at in
    let new : Inode = in_use key (row_after t first (call.Cut key count)) in
    let moved = used-with_inode t key.number has.inode new b has.at in
    let parts = times-take-drop b (length first.blocks - count) first.blocks in
    let same : times b (row_blocks has.inode.row) ≡ times b first.blocks = ap (λ o. times b (row_blocks o)) has.is in
    let given : times b (last_blocks count first) ≡ times b (last_blocks count row) = ap (λ r. times b (last_blocks count r)) (same_Some first row is) in
    free_more t.blocks (group_at t (group_number key)) (group_at (with_inode t key.number new) (group_number key)) b (times b (last_blocks count row))
    (IsGroup-group_of t (group_number key) ok) (omega (arith, moved, parts, same, given))

pub cut_gives : (t : Table) (key : Key) (count : ℕ) (u : Table) (row : Row) (b : ℕ) → IsTable t → Legal t (call.Cut key count) reply.Done u → row_of t key ≡ Some row
    → times b (free_of u key) ≡ times b (free_of t key) + times b (last_blocks count row)
cut_gives t key count u row b ok legal at =
    ap (λ v. times b (free_of v key)) legal.1 ∙ cut_row t key count (row_of t key) row b ok refl at

cut_others : (t : Table) (key : Key) (count : ℕ) (o : Option Row) (g : ℕ) → g ≢ group_number key → group_at (with_changed t key o (call.Cut key count)) g ≡ group_at t g
cut_others t key count None g apart = refl
cut_others t key count (Some row) g apart = group_of-with_inode_other t key.number g (in_use key (row_after t row (call.Cut key count))) apart

pub cut_keeps_others : (t : Table) (key : Key) (count : ℕ) (u : Table) (g : ℕ) → Legal t (call.Cut key count) reply.Done u → g ≢ group_number key → group_at u g ≡ group_at t g
cut_keeps_others t key count u g legal apart = ap (λ v. group_at v g) legal.1 ∙ cut_others t key count (row_of t key) g apart

-- a change of an inode whose row has no block less
inode_keeps : (t : Table) (number : ℕ) (old new : Inode) → inode_of t number ≡ Some old → ((b : ℕ) → times b (row_blocks old.row) ≤ times b (row_blocks new.row))
    → (g b : ℕ) → times b (free_in (with_inode t number new) g) ≤ times b (free_in t g)
unfolding with_inode
inode_keeps t number old new at more g b =
    elim (cases_eq g (number / GROUP_NUMBERS)) [
      | inl here ↦
          let moved = used-with_inode t number old new b at in
          let less = more b in
          let at_number : times b (free_in (with_inode t number new) (number / GROUP_NUMBERS)) ≤ times b (free_in t (number / GROUP_NUMBERS)) =
          free_fewer t.blocks (group_at t (number / GROUP_NUMBERS)) (group_at (with_inode t number new) (number / GROUP_NUMBERS)) b (omega (arith, moved, less)) in
          subst (λ h. times b (free_in (with_inode t number new) h) ≤ times b (free_in t h)) (sym here) at_number
      | inr apart ↦
          let same : times b (free_in (with_inode t number new) g) ≡ times b (free_in t g) = ap (λ group. times b (free_blocks t.blocks group)) (group_of-with_inode_other t number g new apart) in
          omega (arith, same)
    ]

row_keeps : (t : Table) (key : Key) (called : Call) → ((row : Row) (b : ℕ) → times b row.blocks ≤ times b (row_after t row called).blocks)
    → (o : Option Row) → row_of t key ≡ o → (g b : ℕ) → times b (free_in (with_changed t key o called) g) ≤ times b (free_in t g)
row_keeps t key called more None at g b = omega arith
row_keeps t key called more (Some row) at g b =
    let has = HasRow-from (inode_of t key.number) key.generation row at in
    let same : (c : ℕ) → times c (row_blocks has.inode.row) ≡ times c row.blocks = λ c. ap (λ o. times c (row_blocks o)) has.is in
    inode_keeps t key.number has.inode (in_use key (row_after t row called)) has.at (λ c. omega (arith, same c, more row c)) g b

-- a chunk more takes blocks and gives none
used-prepared : (blocks g : ℕ) (group : Group) (b : ℕ) → times b (used group) ≤ times b (used (prepared blocks g group))
unfolding prepared
used-prepared blocks g group b =
    elim (is_some (lowest_key g group)) as (λ c. times b (used group) ≤ times b (used (if c then group else with_chunk group (chunk_place blocks group)))) [
      | true ↦ omega arith
      | false ↦
          elim (chunk_place blocks group) as (λ (o : Option ℕ). times b (used group) ≤ times b (used (with_chunk group o))) [
            | None ↦ omega arith
            | Some block ↦ let parts = times-insert_chunk b (new_chunk block) group in omega (arith, parts)
          ]
    ]

prepare_keeps : (t : Table) (g h b : ℕ) → g < length t.groups → times b (free_in (prepare t g) h) ≤ times b (free_in t h)
prepare_keeps t g h b there =
    let ready : Group = prepared t.blocks g (group_at t g) in
    elim (cases_eq h g) [
      | inl here ↦
          let at_g : times b (free_in (prepare t g) g) ≤ times b (free_in t g) =
          subst (λ group. times b (free_blocks t.blocks group) ≤ times b (free_in t g)) (sym (group_of-with_same t g ready there))
          (free_fewer t.blocks (group_at t g) ready b (used-prepared t.blocks g (group_at t g) b)) in
          subst (λ k. times b (free_in (prepare t g) k) ≤ times b (free_in t k)) (sym here) at_g
      | inr apart ↦
          let same : times b (free_in (prepare t g) h) ≡ times b (free_in t h) = ap (λ group. times b (free_blocks t.blocks group)) (group_of-with_other t g h ready apart) in
          omega (arith, same)
    ]

make_keeps : (t : Table) (g : ℕ) (key : Key) (links : ℕ) → IsTable t → IsNextKey t g key → (h b : ℕ) → times b (free_in (with_row (prepare t g) key (made_row links)) h) ≤ times b (free_in t h)
make_keeps t g key links ok next h b =
    let found = IsPrepared-next t g key ok next in
    let none = times-nil b in
    let same : (c : ℕ) → times c (row_blocks found.inode.row) ≡ times c [] = λ c. ap (λ o. times c (row_blocks o)) found.row in
    let one = inode_keeps (prepare t g) key.number found.inode (in_use key (made_row links)) found.at (λ c. omega (arith, same c)) h b in
    let two = prepare_keeps t g h b next.0 in
    omega (arith, one, two)

call_gives_none : (t : Table) (called : Call) (answer : Reply) → IsTable t → Permits t called answer → IsNoCut called → (g b : ℕ) → times b (free_in (after_call t called answer) g) ≤ times b (free_in t g)
call_gives_none t (call.Create group) (reply.Made key) ok permits plain g b = make_keeps t group key 1 ok permits g b
call_gives_none t (call.Tmpfile group) (reply.Made key) ok permits plain g b = make_keeps t group key 0 ok permits g b
call_gives_none t (call.OpenKey key) reply.Done ok permits plain g b = row_keeps t key (call.OpenKey key) (λ row c. omega arith) (row_of t key) refl g b
call_gives_none t (call.CloseKey key) reply.Done ok permits plain g b = row_keeps t key (call.CloseKey key) (λ row c. omega arith) (row_of t key) refl g b
call_gives_none t (call.Link key) reply.Done ok permits plain g b = row_keeps t key (call.Link key) (λ row c. omega arith) (row_of t key) refl g b
call_gives_none t (call.Unlink key) reply.Done ok permits plain g b = row_keeps t key (call.Unlink key) (λ row c. omega arith) (row_of t key) refl g b
call_gives_none t (call.Grow key count) reply.Done ok permits plain g b =
    row_keeps t key (call.Grow key count) (λ row c. let parts = times-append c row.blocks (take count (free_of t key)) in omega (arith, parts)) (row_of t key) refl g b
call_gives_none t (call.Cut key count) reply.Done ok permits plain g b = absurd plain
call_gives_none t _ _ ok permits plain g b = omega arith

pub gives_none : (t : Table) (called : Call) (answer : Reply) (u : Table) → IsTable t → Legal t called answer u → IsNoCut called → (g b : ℕ) → times b (free_in u g) ≤ times b (free_in t g)
gives_none t called answer u ok legal plain g b =
    subst (λ v. times b (free_in v g) ≤ times b (free_in t g)) (sym legal.1) (call_gives_none t called answer ok legal.0 plain g b)
