-- What happens to a well formed table leaves a well formed one.
use Rattle.std.proofs.Common.{◌≡◌, ◌+◌, ◌/◌, ◌%◌, ◌<◌, ◌≤◌, ℕ, true, List, [], ◌∷◌, Option, None, Some, IfSome, length, sym, ap, subst, ◌∙◌, inl, inr, arith}
use Rattle.std.specs.List.{AllByRecursion}
use Rattle.std.proofs.lemmas.Bool.{cases_Bool}
use Rattle.life_limits.specs.declared.TheConstants.{GROUP_NUMBERS, MAX_GENERATION}
use Rattle.life_table.specs.declared.key.Key.{Key}
use Rattle.life_table.specs.declared.types.Row.{Row}
use Rattle.life_table.specs.declared.types.Entry.{Entry}
use Rattle.life_table.specs.declared.types.Event.{Event}
use Rattle.life_table.specs.declared.table.Inode.{Inode}
use Rattle.life_table.specs.declared.table.Table.{Table}
use Rattle.life_table.specs.Table.{group_number, group_at, inode_in, inode_of, row_of, in_use}
use Rattle.life_table.specs.Space.{times, used, row_blocks, is_free_block, prepared}
use Rattle.life_table.specs.Legal.{prepare, IsNextKey, made_row}
use Rattle.life_table.specs.History.{Happens, Leads}
use Rattle.life_table.specs.WellFormed.{IsRow, IsTable, IsDataBlock}
use Rattle.life_table.proofs.Counts.{times-free, times-not_free, times-nil, times-set_inode, is_free_block-parts, all-by_times, length-once}
use Rattle.life_table.proofs.Groups.{AllByRecursion-weaker}
use Rattle.life_table.proofs.Keys.{IsFreeAt-lowest, IsGroup-prepared}
use Rattle.life_table.proofs.Lookups.{group_of-with_same}
use Rattle.life_table.proofs.Moves.{Move, Stays, Turns, Makes, Ends, HasRow, HasRow-from, move_event}
use Rattle.life_table.proofs.Tables.{IsTable-with_inode, IsTable-prepare, IsInode-of, IsGroup-group_of}

-- the inode that a create makes live, in the table with its chunk
pub record IsPrepared (t : Table) (g : ℕ) (key : Key) : Type 0 where
  pub inode : Inode
  pub at : inode_of (prepare t g) key.number ≡ Some inode
  pub group : key.number / GROUP_NUMBERS ≡ g
  pub row : inode.row ≡ None
  pub life : inode.generation ≡ key.generation
  pub left : inode.generation < MAX_GENERATION

pub IsPrepared-next : (t : Table) (g : ℕ) (key : Key) → IsTable t → IsNextKey t g key → IsPrepared t g key
unfolding inode_of
IsPrepared-next t g key ok next =
    let found = IsFreeAt-lowest t.blocks g (prepared t.blocks g (group_at t g)) key ok.most (IsGroup-prepared t.blocks g (group_at t g) (IsGroup-group_of t g ok)) next.1 in
    let same : group_at (prepare t g) (key.number / GROUP_NUMBERS) ≡ prepared t.blocks g (group_at t g) =
    ap (λ h. group_at (prepare t g) h) found.group_is ∙ group_of-with_same t g (prepared t.blocks g (group_at t g)) next.0 in
    record {
      inode = found.inode;
      at = ap (λ group. inode_in group (key.number % GROUP_NUMBERS)) same ∙ found.at;
      group = found.group_is;
      row = found.row;
      life = found.life;
      left = found.left;
    }

row_is : (generation : ℕ) (o : Option Row) (row : Row) → o ≡ Some row → IfSome o (IsRow generation) → IsRow generation row
row_is generation o row is ok = let P : Option Row → Type 0 = λ r. IfSome r (IsRow generation) in subst P is ok

-- a free block is in no row
not_used : (t : Table) (key : Key) (row : Row) (b : ℕ) → IsTable t → HasRow (inode_of t key.number) key.generation row
    → is_free_block t.blocks (group_at t (group_number key)) b ≡ true → times b row.blocks ≡ 0
unfolding inode_of
not_used t key row b ok has free =
    let group = group_at t (group_number key) in
    let parts = is_free_block-parts t.blocks group b free in
    let moved = times-set_inode b group (key.number % GROUP_NUMBERS) has.inode (record { generation = 0; row = None }) has.at in
    let none = times-nil b in
    let same : times b (row_blocks has.inode.row) ≡ times b row.blocks = ap (λ o. times b (row_blocks o)) has.is in
    omega (arith, parts.2, moved, none, same)

-- one way of change leaves a well formed table
IsTable-move : (t u : Table) → IsTable t → Move t u → IsTable u
IsTable-move t _ ok Stays = ok
IsTable-move t _ ok (Turns key row new at changes) =
    let has = HasRow-from (inode_of t key.number) key.generation row at in
    let inode = IsInode-of t key.number has.inode ok has.at in
    let first : 1 ≤ has.inode.generation = inode.first in
    let last : has.inode.generation ≤ MAX_GENERATION = inode.last in
    let life : has.inode.generation ≡ key.generation = has.life in
    let old : IsRow has.inode.generation row = row_is has.inode.generation has.inode.row row has.is inode.row in
    let kept : IsRow key.generation new = changes.limits (subst (λ n. IsRow n row) life old) in
    let same : (b : ℕ) → times b (row_blocks has.inode.row) ≡ times b row.blocks = λ b. ap (λ o. times b (row_blocks o)) has.is in
    IsTable-with_inode t key.number has.inode (in_use key new) ok has.at
    (record { first = omega (arith, first, life); last = omega (arith, last, life); row = kept })
    (λ b.
    elim (changes.blocks b) [
      | inl few ↦ inl (omega (arith, same b, few))
      | inr more ↦
          elim (cases_Bool (is_free_block t.blocks (group_at t (group_number key)) b)) [
            | inl free ↦
                let once = times-free t.blocks (group_at t (group_number key)) b free in
                let none = not_used t key row b ok has free in
                inr (free, omega (arith, more, once, none))
            | inr taken ↦
                let none = times-not_free t.blocks (group_at t (group_number key)) b taken in
                inl (omega (arith, same b, more, none))
          ]
    ])
IsTable-move t _ ok (Makes g key links few next) =
    let found = IsPrepared-next t g key ok next in
    let ready = IsTable-prepare t g ok in
    let inode = IsInode-of (prepare t g) key.number found.inode ready found.at in
    let first : 1 ≤ found.inode.generation = inode.first in
    let left : found.inode.generation < MAX_GENERATION = found.left in
    let life : found.inode.generation ≡ key.generation = found.life in
    IsTable-with_inode (prepare t g) key.number found.inode (in_use key (made_row links)) ready found.at
    (record { first = omega (arith, first, life); last = omega (arith, left, life); row = record { life = omega (arith, left, life); links = omega (arith, few); opens = omega arith; runs = omega arith } })
    (λ b. let none = times-nil b in inl (omega (arith, none)))
IsTable-move t _ ok (Ends key row at awaits) =
    let has = HasRow-from (inode_of t key.number) key.generation row at in
    let inode = IsInode-of t key.number has.inode ok has.at in
    let life : has.inode.generation ≡ key.generation = has.life in
    let old : IsRow has.inode.generation row = row_is has.inode.generation has.inode.row row has.is inode.row in
    let below : has.inode.generation < MAX_GENERATION = old.life in
    IsTable-with_inode t key.number has.inode (record { generation = key.generation + 1; row = None }) ok has.at
    (record { first = omega arith; last = omega (arith, below, life); row = tt })
    (λ b. let none = times-nil b in inl (omega (arith, none)))

-- an event leaves a well formed table
pub IsTable-happens : (t : Table) (event : Event) (u : Table) → IsTable t → Happens t event u → IsTable u
IsTable-happens t event u ok happens = IsTable-move t u ok (move_event t event u happens)

-- so does a history
pub IsTable-leads : (t : Table) (entries : List Entry) (u : Table) → IsTable t → Leads t entries u → IsTable u
IsTable-leads t [] u ok leads = subst IsTable (sym leads) ok
IsTable-leads t (entry ∷ entries) u ok (next, first, rest) = IsTable-leads next entries u (IsTable-happens t entry.event next ok first) rest

-- a row of a well formed table is within the limits
pub row_within : (t : Table) (key : Key) (row : Row) → IsTable t → row_of t key ≡ Some row → IsRow key.generation row
row_within t key row ok at =
    let has = HasRow-from (inode_of t key.number) key.generation row at in
    let inode = IsInode-of t key.number has.inode ok has.at in
    let old : IsRow has.inode.generation row = row_is has.inode.generation has.inode.row row has.is inode.row in
    subst (λ n. IsRow n row) has.life old

-- a row has no block oftener than its group
row_times : (t : Table) (key : Key) (row : Row) (b : ℕ) → row_of t key ≡ Some row → times b row.blocks ≤ times b (used (group_at t (group_number key)))
unfolding inode_of
row_times t key row b at =
    let has = HasRow-from (inode_of t key.number) key.generation row at in
    let moved = times-set_inode b (group_at t (group_number key)) (key.number % GROUP_NUMBERS) has.inode (record { generation = 0; row = None }) has.at in
    let none = times-nil b in
    let same : times b (row_blocks has.inode.row) ≡ times b row.blocks = ap (λ o. times b (row_blocks o)) has.is in
    omega (arith, moved, none, same)

-- the blocks of a row are data blocks, and at most as many as the group has
pub row_blocks_within : (t : Table) (key : Key) (row : Row) → IsTable t → row_of t key ≡ Some row → AllByRecursion (IsDataBlock t.blocks) row.blocks
row_blocks_within t key row ok at =
    all-by_times (IsDataBlock t.blocks) row.blocks (λ b some. let few = row_times t key row b at in (IsGroup-group_of t (group_number key) ok).data_blocks b (omega (arith, some, few)))

pub row_blocks_few : (t : Table) (key : Key) (row : Row) → IsTable t → row_of t key ≡ Some row → length row.blocks ≤ t.blocks
row_blocks_few t key row ok at =
    length-once t.blocks row.blocks
    (AllByRecursion-weaker (IsDataBlock t.blocks) (λ b. b < t.blocks) row.blocks (λ b inside. inside.1) (row_blocks_within t key row ok at))
    (λ b. let few = row_times t key row b at in let once = (IsGroup-group_of t (group_number key) ok).once b in omega (arith, few, once))
