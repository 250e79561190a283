-- How many holds the rows of a table have, after one inode was changed, after a chunk was added, and where there are none.
use Rattle.std.proofs.Common.{◌≡◌, ◌==◌, ◌+◌, ◌/◌, ◌%◌, ◌<◌, ℕ, zero, suc, true, false, List, [], ◌∷◌, Option, None, Some, is_some, if◌then◌else◌, map, nat_lt, length, replicate, slice_get, slice_set, slice_index_or, sum_by, refl, sym, ap, ◌∙◌, inl, inr, arith}
use Rattle.std.proofs.lemmas.Option.{none-some, same_Some}
use Rattle.std.proofs.lemmas.Bool.{cases_lt}
use Rattle.std.proofs.lemmas.List.{get_or_past}
use Rattle.std.proofs.lemmas.List.Sums.{sum_by-cons}
use Rattle.life_limits.specs.declared.TheConstants.{CHUNK_INODES, GROUP_NUMBERS}
use Rattle.life_table.specs.declared.types.Row.{Row}
use Rattle.life_table.specs.declared.table.Inode.{Inode}
use Rattle.life_table.specs.declared.table.Chunk.{Chunk}
use Rattle.life_table.specs.declared.table.Table.{Table}
use Rattle.life_table.specs.Table.{Group, group_at, inode_in, inode_of, map_group, set_inode, start_of, with_inode}
use Rattle.life_table.specs.Space.{chunk_place, insert_chunk, lowest_key, new_chunk, prepared, with_chunk}
use Rattle.life_table.specs.Legal.{prepare}
use Rattle.life_table.specs.History.{closed, closed_inode, closed_row}
use Rattle.run_history.specs.Answers.{holds_in, holds_on}

-- ---- the sum, one inode after the other

opens_in : List Inode → ℕ
opens_in [] = 0
opens_in (inode ∷ inodes) = holds_on inode.row + opens_in inodes

opens_among : Group → ℕ
opens_among [] = 0
opens_among (chunk ∷ chunks) = opens_in chunk.inodes + opens_among chunks

opens_all : List Group → ℕ
opens_all [] = 0
opens_all (group ∷ groups) = opens_among group + opens_all groups

abbrev of_chunk : Chunk → ℕ
of_chunk chunk = sum_by (λ (inode : Inode). holds_on inode.row) chunk.inodes

abbrev of_group : Group → ℕ
of_group group = sum_by of_chunk group

sum-inodes : (inodes : List Inode) → sum_by (λ (inode : Inode). holds_on inode.row) inodes ≡ opens_in inodes
unfolding opens_in
sum-inodes [] = refl
sum-inodes (inode ∷ inodes) = sum_by-cons (λ (i : Inode). holds_on i.row) inode inodes ∙ ap (λ n. holds_on inode.row + n) (sum-inodes inodes)

sum-chunks : (group : Group) → of_group group ≡ opens_among group
unfolding opens_among
sum-chunks [] = refl
sum-chunks (chunk ∷ chunks) = sum_by-cons of_chunk chunk chunks ∙ (λ i. sum-inodes chunk.inodes i + sum-chunks chunks i)

sum-groups : (groups : List Group) → sum_by of_group groups ≡ opens_all groups
unfolding opens_all
sum-groups [] = refl
sum-groups (group ∷ groups) = sum_by-cons of_group group groups ∙ (λ i. sum-chunks group i + sum-groups groups i)

-- ---- one inode changed

opens_in-set : (inodes : List Inode) (i : ℕ) (old new : Inode) → slice_get inodes i ≡ Some old
    → opens_in (slice_set inodes i new) + holds_on old.row ≡ opens_in inodes + holds_on new.row
unfolding opens_in
opens_in-set [] i old new at = absurd (none-some old at)
opens_in-set (inode ∷ inodes) zero old new at =
    let same : holds_on inode.row ≡ holds_on old.row = ap (λ (x : Inode). holds_on x.row) (same_Some inode old at) in
    omega (arith, same)
opens_in-set (inode ∷ inodes) (suc i) old new at =
    let rest = opens_in-set inodes i old new at in
    omega (arith, rest)

opens_among-set : (group : Group) (agino : ℕ) (old new : Inode) → inode_in group agino ≡ Some old
    → opens_among (set_inode group agino new) + holds_on old.row ≡ opens_among group + holds_on new.row
unfolding opens_among inode_in set_inode
opens_among-set [] agino old new at = absurd (none-some old at)
opens_among-set (chunk ∷ chunks) agino old new at =
    elim (chunk.start == start_of agino) as (λ c. (if c then slice_get chunk.inodes (agino % CHUNK_INODES) else inode_in chunks agino) ≡ Some old
    → opens_among (if c then record { start = chunk.start; inodes = slice_set chunk.inodes (agino % CHUNK_INODES) new } ∷ chunks else chunk ∷ set_inode chunks agino new) + holds_on old.row
    ≡ opens_in chunk.inodes + opens_among chunks + holds_on new.row) [
      | true ↦ λ here. let moved = opens_in-set chunk.inodes (agino % CHUNK_INODES) old new here in omega (arith, moved)
      | false ↦ λ here. let rest = opens_among-set chunks agino old new here in omega (arith, rest)
    ] at

opens_all-set : (groups : List Group) (g : ℕ) (group : Group) → g < length groups
    → opens_all (slice_set groups g group) + opens_among (slice_index_or groups g []) ≡ opens_all groups + opens_among group
unfolding opens_all
opens_all-set [] g group low = absurd (omega arith)
opens_all-set (first ∷ groups) zero group low = omega arith
opens_all-set (first ∷ groups) (suc g) group low = let rest = opens_all-set groups g group (omega arith) in omega (arith, rest)

-- a number with an inode is in a group of the table
pub has_group : (t : Table) (number : ℕ) (inode : Inode) → inode_of t number ≡ Some inode → number / GROUP_NUMBERS < length t.groups
unfolding inode_of inode_in
has_group t number inode at =
    elim (cases_lt (number / GROUP_NUMBERS) (length t.groups)) [
      | inl low ↦ low
      | inr high ↦ absurd (none-some inode (sym (ap (λ group. inode_in group (number % GROUP_NUMBERS)) (get_or_past t.groups (number / GROUP_NUMBERS) [] high)) ∙ at))
    ]

pub opens-with_inode : (t : Table) (number : ℕ) (old new : Inode) → inode_of t number ≡ Some old
    → holds_in (with_inode t number new) + holds_on old.row ≡ holds_in t + holds_on new.row
unfolding with_inode inode_of
opens-with_inode t number old new at =
    let g = number / GROUP_NUMBERS in
    let group = group_at t g in
    let one = opens_among-set group (number % GROUP_NUMBERS) old new at in
    let all = opens_all-set t.groups g (set_inode group (number % GROUP_NUMBERS) new) (has_group t number old at) in
    let before = sum-groups t.groups in
    let after = sum-groups (slice_set t.groups g (set_inode group (number % GROUP_NUMBERS) new)) in
    omega (arith, one, all, before, after)

-- ---- a chunk added

opens_among-insert : (new : Chunk) (group : Group) → opens_among (insert_chunk new group) ≡ opens_in new.inodes + opens_among group
unfolding opens_among insert_chunk
opens_among-insert new [] = refl
opens_among-insert new (chunk ∷ chunks) =
    elim (nat_lt new.start chunk.start) as (λ c. opens_among (if c then new ∷ chunk ∷ chunks else chunk ∷ insert_chunk new chunks) ≡ opens_in new.inodes + (opens_in chunk.inodes + opens_among chunks)) [
      | true ↦ refl
      | false ↦ let rest = opens_among-insert new chunks in omega (arith, rest)
    ]

opens_in-new : (n : ℕ) → opens_in (replicate n (record { generation = 1; row = None })) ≡ 0
unfolding opens_in
opens_in-new zero = refl
opens_in-new (suc n) = let rest = opens_in-new n in omega (arith, rest)

opens_among-chunk : (group : Group) (place : Option ℕ) → opens_among (with_chunk group place) ≡ opens_among group
unfolding new_chunk
opens_among-chunk group None = refl
opens_among-chunk group (Some block) =
    let more = opens_among-insert (new_chunk block) group in
    let none = opens_in-new CHUNK_INODES in
    omega (arith, more, none)

opens_among-prepared : (blocks g : ℕ) (group : Group) → opens_among (prepared blocks g group) ≡ opens_among group
unfolding prepared
opens_among-prepared blocks g group =
    elim (is_some (lowest_key g group)) as (λ c. opens_among (if c then group else with_chunk group (chunk_place blocks group)) ≡ opens_among group) [
      | true ↦ refl
      | false ↦ opens_among-chunk group (chunk_place blocks group)
    ]

pub opens-prepare : (t : Table) (g : ℕ) → g < length t.groups → holds_in (prepare t g) ≡ holds_in t
opens-prepare t g low =
    let ready = prepared t.blocks g (group_at t g) in
    let one = opens_among-prepared t.blocks g (group_at t g) in
    let all = opens_all-set t.groups g ready low in
    let before = sum-groups t.groups in
    let after = sum-groups (slice_set t.groups g ready) in
    omega (arith, one, all, before, after)

-- ---- no holds

holds_on-closed : (o : Option Row) → holds_on (closed_row o) ≡ 0
holds_on-closed None = refl
holds_on-closed (Some row) = refl

opens_in-closed : (inodes : List Inode) → opens_in (map closed_inode inodes) ≡ 0
unfolding opens_in
opens_in-closed [] = refl
opens_in-closed (inode ∷ inodes) = let one = holds_on-closed inode.row in let rest = opens_in-closed inodes in omega (arith, one, rest)

opens_among-closed : (group : Group) → opens_among (map_group closed_inode group) ≡ 0
unfolding opens_among
opens_among-closed [] = refl
opens_among-closed (chunk ∷ chunks) = let one = opens_in-closed chunk.inodes in let rest = opens_among-closed chunks in omega (arith, one, rest)

opens_all-closed : (groups : List Group) → opens_all (map (map_group closed_inode) groups) ≡ 0
unfolding opens_all
opens_all-closed [] = refl
opens_all-closed (group ∷ groups) = let one = opens_among-closed group in let rest = opens_all-closed groups in omega (arith, one, rest)

pub opens-closed : (t : Table) → holds_in (closed t) ≡ 0
opens-closed t = sum-groups (map (map_group closed_inode) t.groups) ∙ opens_all-closed t.groups
