-- Recovery frees each row without links once.
use Rattle.std.proofs.Common.{◌≡◌, ◌==◌, ◌+◌, ◌*◌, ◌/◌, ◌%◌, ◌<◌, ◌≤◌, ℕ, zero, suc, true, false, List, [], ◌∷◌, Option, None, Some, IfSome, IsSomeAnd, if◌then◌else◌, map, length, slice_get, slice_set, slice_index_or, refl, sym, ap, subst, ◌∙◌, inl, inr, arith}
use Rattle.std.specs.List.{AllByRecursion}
use Rattle.std.proofs.lemmas.Option.{none-some, same_Some, slice_get_within}
use Rattle.std.proofs.lemmas.List.{length-map}
use Rattle.std.proofs.lemmas.Bool.{eqb-true, eq-eqb, cases_lt}
use Rattle.life_limits.specs.declared.TheConstants.{CHUNK_INODES, GROUP_NUMBERS, MAX_CHUNKS, MAX_GENERATION}
use Rattle.life_table.specs.declared.key.Key.{Key}
use Rattle.life_table.specs.declared.types.Row.{Row}
use Rattle.life_table.specs.declared.types.Event.TheVariants.{Freed}
use Rattle.life_table.specs.declared.table.Inode.{Inode}
use Rattle.life_table.specs.declared.table.Chunk.{Chunk}
use Rattle.life_table.specs.declared.table.Table.{Table}
use Rattle.life_table.specs.Table.{Group, start_of, group_at, inode_in, inode_of, row_in_life, row_of, with_inode, set_inode, map_chunk, map_group, map_inodes}
use Rattle.life_table.specs.Space.{times, chunk_blocks, row_blocks, inode_blocks, used}
use Rattle.life_table.specs.Legal.{Awaits, freed, Frees}
use Rattle.life_table.specs.History.{Leads, closed_row, closed_inode, closed, recovered_as, recovered_inode, recovered, orphans_of, orphans_in, orphans_among, orphans_all, orphans, frees_of}
use Rattle.life_table.specs.WellFormed.{IsRow, IsInode, IsChunk, IsGroup, IsTable, ChunksAscend}
use Rattle.life_table.proofs.Counts.{times-append, times-nil, times-used_cons}
use Rattle.life_table.proofs.Closed.{row_of-closed}
use Rattle.life_table.proofs.Groups.{AllByRecursion-get}
use Rattle.life_table.proofs.Keys.{inode_in-at, within_group}
use Rattle.life_table.proofs.Lookups.{has_group}
use Rattle.life_table.proofs.Mapped.{with_inode-map}
use Rattle.life_table.proofs.Moves.{HasRow-from}
use Rattle.life_table.proofs.Recovery.{recovered-frees, by_links}
use Rattle.life_table.proofs.Tables.{IsGroup-group_of}
use Rattle.life_table.proofs.WellKept.{IsTable-happens}

-- one inode changed
orphans_in-set : (inodes : List Inode) (i : ℕ) (old new : Inode) → slice_get inodes i ≡ Some old
    → orphans_in (slice_set inodes i new) + orphans_of old.row ≡ orphans_in inodes + orphans_of new.row
unfolding orphans_in
orphans_in-set [] i old new at = absurd (none-some old at)
orphans_in-set (inode ∷ inodes) zero old new at =
    let same : orphans_of inode.row ≡ orphans_of old.row = ap (λ (x : Inode). orphans_of x.row) (same_Some inode old at) in
    omega (arith, same)
orphans_in-set (inode ∷ inodes) (suc i) old new at =
    let rest = orphans_in-set inodes i old new at in
    omega (arith, rest)

orphans_among-set : (group : Group) (agino : ℕ) (old new : Inode) → inode_in group agino ≡ Some old
    → orphans_among (set_inode group agino new) + orphans_of old.row ≡ orphans_among group + orphans_of new.row
unfolding orphans_among inode_in set_inode
orphans_among-set [] agino old new at = absurd (none-some old at)
orphans_among-set (chunk ∷ chunks) agino old new at =
    elim (chunk.start == start_of agino) as (λ c. (if c then slice_get chunk.inodes (agino % CHUNK_INODES) else inode_in chunks agino) ≡ Some old
    → orphans_among (if c then record { start = chunk.start; inodes = slice_set chunk.inodes (agino % CHUNK_INODES) new } ∷ chunks else chunk ∷ set_inode chunks agino new) + orphans_of old.row
    ≡ orphans_in chunk.inodes + orphans_among chunks + orphans_of new.row) [
      | true ↦ λ here. let moved = orphans_in-set chunk.inodes (agino % CHUNK_INODES) old new here in omega (arith, moved)
      | false ↦ λ here. let rest = orphans_among-set chunks agino old new here in omega (arith, rest)
    ] at

orphans_all-set : (groups : List Group) (g : ℕ) (group : Group) → g < length groups
    → orphans_all (slice_set groups g group) + orphans_among (slice_index_or groups g []) ≡ orphans_all groups + orphans_among group
unfolding orphans_all
orphans_all-set [] g group low = absurd (omega arith)
orphans_all-set (first ∷ groups) zero group low = omega arith
orphans_all-set (first ∷ groups) (suc g) group low = let rest = orphans_all-set groups g group (omega arith) in omega (arith, rest)

orphans-with_inode : (t : Table) (number : ℕ) (old new : Inode) → inode_of t number ≡ Some old
    → orphans (with_inode t number new) + orphans_of old.row ≡ orphans t + orphans_of new.row
unfolding with_inode inode_of
orphans-with_inode t number old new at =
    let g = number / GROUP_NUMBERS in
    let group = group_at t g in
    let one = orphans_among-set group (number % GROUP_NUMBERS) old new at in
    let all = orphans_all-set t.groups g (set_inode group (number % GROUP_NUMBERS) new) (has_group t number old at) in
    omega (arith, one, all)

-- a free leaves one row without links less
orphans-freed : (t : Table) (key : Key) (row : Row) → row_of t key ≡ Some row → row.links ≡ 0 → orphans (freed t key) + 1 ≡ orphans t
orphans-freed t key row at none =
    let has = HasRow-from (inode_of t key.number) key.generation row at in
    let gone : Inode = record { generation = key.generation + 1; row = None } in
    let moved = orphans-with_inode t key.number has.inode gone has.at in
    let test : (row.links == 0) ≡ true = eq-eqb row.links 0 none in
    let one : orphans_of has.inode.row ≡ 1 = ap orphans_of has.is ∙ ap (λ b. if b then 1 else 0) test in
    omega (arith, moved, one)

-- where there are rows without links, one can be found
record FoundIn (inodes : List Inode) : Type 0 where
  place : ℕ
  inode : Inode
  row : Row
  at : slice_get inodes place ≡ Some inode
  is : inode.row ≡ Some row
  none : row.links ≡ 0

orphan_row : (o : Option Row) → 1 ≤ orphans_of o → (row : Row) × (o ≡ Some row) × (row.links ≡ 0)
orphan_row None some = absurd (omega arith)
orphan_row (Some row) some =
    elim (row.links == 0) as (λ c. row.links == 0 ≡ c → 1 ≤ (if c then 1 else 0) → (r : Row) × (Some row ≡ Some r) × (r.links ≡ 0)) [
      | true ↦ λ is _. (row, refl, eqb-true row.links 0 is)
      | false ↦ λ is more. absurd (omega arith)
    ] refl some

found_in : (inodes : List Inode) → 1 ≤ orphans_in inodes → FoundIn inodes
unfolding orphans_in
found_in [] some = absurd (omega arith)
found_in (inode ∷ inodes) some =
    elim (cases_lt 0 (orphans_of inode.row)) [
      | inl here ↦ let row = orphan_row inode.row here in record { place = 0; inode = inode; row = row.0; at = refl; is = row.1; none = row.2 }
      | inr later ↦
          let rest = found_in inodes (omega (arith, some, later)) in
          record { place = suc rest.place; inode = rest.inode; row = rest.row; at = rest.at; is = rest.is; none = rest.none }
    ]

record FoundAmong (group : Group) : Type 0 where
  where_ : ℕ
  chunk : Chunk
  has : slice_get group where_ ≡ Some chunk
  found : FoundIn chunk.inodes

found_among : (group : Group) → 1 ≤ orphans_among group → FoundAmong group
unfolding orphans_among
found_among [] some = absurd (omega arith)
found_among (chunk ∷ chunks) some =
    elim (cases_lt 0 (orphans_in chunk.inodes)) [
      | inl here ↦ record { where_ = 0; chunk = chunk; has = refl; found = found_in chunk.inodes here }
      | inr later ↦
          let rest = found_among chunks (omega (arith, some, later)) in
          record { where_ = suc rest.where_; chunk = rest.chunk; has = rest.has; found = rest.found }
    ]

found_group : (groups : List Group) → 1 ≤ orphans_all groups → (g : ℕ) × (1 ≤ orphans_among (slice_index_or groups g []))
unfolding orphans_all
found_group [] some = absurd (omega arith)
found_group (group ∷ groups) some =
    elim (cases_lt 0 (orphans_among group)) [
      | inl here ↦ (0, here)
      | inr later ↦ let rest = found_group groups (omega (arith, some, later)) in (suc rest.0, rest.1)
    ]

record FoundKey (t : Table) : Type 0 where
  key : Key
  row : Row
  at : row_of t key ≡ Some row
  none : row.links ≡ 0

row_at : (generation : ℕ) (inode : Inode) → inode.generation ≡ generation → row_in_life generation (Some inode) ≡ inode.row
row_at generation inode same = let is : (inode.generation == generation) ≡ true = eq-eqb inode.generation generation same in rw is

found_key : (t : Table) → IsTable t → 1 ≤ orphans t → FoundKey t
unfolding inode_of
found_key t ok some =
    let which = found_group t.groups some in
    let g : ℕ = which.0 in
    let group = group_at t g in
    let well = IsGroup-group_of t g ok in
    let among = found_among group which.1 in
    let found = among.found in
    let chunk = AllByRecursion-get IsChunk group among.where_ among.chunk well.chunks among.has in
    let start : among.chunk.start % CHUNK_INODES ≡ 0 = chunk.start in
    let whole : length among.chunk.inodes ≡ CHUNK_INODES = chunk.whole in
    let inside : found.place < length among.chunk.inodes = slice_get_within among.chunk.inodes found.place found.inode found.at in
    let low : found.place < CHUNK_INODES = omega (arith, inside, whole) in
    let end : among.chunk.start + CHUNK_INODES ≤ GROUP_NUMBERS = within_group t.blocks group among.where_ among.chunk ok.most well among.has in
    let number : ℕ = g * GROUP_NUMBERS + (among.chunk.start + found.place) in
    let in_group : number / GROUP_NUMBERS ≡ g = omega (arith, end, low) in
    let agino : number % GROUP_NUMBERS ≡ among.chunk.start + found.place = omega (arith, end, low) in
    let at : inode_in (group_at t (number / GROUP_NUMBERS)) (number % GROUP_NUMBERS) ≡ Some found.inode =
    (λ i. inode_in (group_at t (in_group i)) (agino i)) ∙ inode_in-at group among.where_ among.chunk found.place well.ascends among.has start low ∙ found.at in
    record {
      key = record { number = number; generation = found.inode.generation };
      row = found.row;
      at = ap (row_in_life found.inode.generation) at ∙ row_at found.inode.generation found.inode refl ∙ found.is;
      none = found.none;
    }

-- where there are none, recovery changes nothing
kept_row : (generation : ℕ) (o : Option Row) → orphans_of o ≡ 0 → recovered_as generation o ≡ record { generation = generation; row = o }
kept_row generation None none = refl
kept_row generation (Some row) none =
    elim (row.links == 0) as (λ c. ◌≡◌ {A = ℕ} (if c then 1 else 0) 0
    → ◌≡◌ {A = Inode} (by_links generation row c) (record { generation = generation; row = Some row })) [
      | true ↦ λ some. absurd (omega arith)
      | false ↦ λ some. refl
    ] none

kept_inodes : (inodes : List Inode) → orphans_in inodes ≡ 0 → map recovered_inode inodes ≡ inodes
unfolding orphans_in
kept_inodes [] none = refl
kept_inodes (inode ∷ inodes) none = λ i. kept_row inode.generation inode.row (omega arith) i ∷ kept_inodes inodes (omega arith) i

kept_group : (group : Group) → orphans_among group ≡ 0 → map_group recovered_inode group ≡ group
unfolding orphans_among
kept_group [] none = refl
kept_group (chunk ∷ chunks) none = λ i. record { start = chunk.start; inodes = kept_inodes chunk.inodes (omega arith) i } ∷ kept_group chunks (omega arith) i

kept_groups : (groups : List Group) → orphans_all groups ≡ 0 → map (map_group recovered_inode) groups ≡ groups
unfolding orphans_all
kept_groups [] none = refl
kept_groups (group ∷ groups) none = λ i. kept_group group (omega arith) i ∷ kept_groups groups (omega arith) i

pub recovered-none : (t : Table) → orphans t ≡ 0 → recovered t ≡ t
recovered-none t none =
    let whole : List Group → Table = λ groups. record { version = t.version; blocks = t.blocks; groups = groups } in
    ap whole (kept_groups t.groups none)

-- frees that leave no row without links lead to the recovered table, whatever their order
pub frees_recover : (t : Table) (actor : ℕ) (keys : List Key) (u : Table) → Leads t (frees_of actor keys) u → orphans u ≡ 0 → u ≡ recovered t
frees_recover t actor [] u leads none = sym (recovered-none u none) ∙ ap recovered leads
frees_recover t actor (key ∷ keys) u (next, first, rest) none = frees_recover next actor keys u rest none ∙ recovered-frees t key next first

-- a row without links that nobody holds can be freed
no_opens : (o : Option Row) (row : Row) → closed_row o ≡ o → o ≡ Some row → row.opens ≡ 0
no_opens None row same is = absurd (none-some row is)
no_opens (Some first) row same is =
    let shut : Row = record { links = first.links; blocks = first.blocks; opens = 0 } in
    ap (λ (r : Row). r.opens) (sym (same_Some first row is)) ∙ ap (λ (r : Row). r.opens) (sym (same_Some shut first same))

some_and : {X : Type 0} (o : Option X) (P : X → Type 0) (x : X) → o ≡ Some x → P x → IsSomeAnd o P
some_and o P x is holds = let Q : Option _ → Type 0 = λ p. IsSomeAnd p P in subst Q (sym is) holds

-- there are frees that lead to it, one for each row without links
record Frees_all (t : Table) (actor n : ℕ) : Type 0 where
  keys : List Key
  long : length keys ≡ n
  leads : Leads t (frees_of actor keys) (recovered t)

frees_all : (n : ℕ) (t : Table) (actor : ℕ) → IsTable t → closed t ≡ t → orphans t ≡ n → Frees_all t actor n
frees_all zero t actor ok shut count = record { keys = []; long = refl; leads = recovered-none t count }
frees_all (suc n) t actor ok shut count =
    let found = found_key t ok (omega arith) in
    let opens : found.row.opens ≡ 0 = no_opens (row_of t found.key) found.row (sym (row_of-closed t found.key) ∙ ap (λ v. row_of v found.key) shut) found.at in
    let next : Table = freed t found.key in
    let frees : Frees t found.key next = (some_and (row_of t found.key) Awaits found.row found.at (found.none, opens), refl) in
    let fewer = orphans-freed t found.key found.row found.at found.none in
    let gone : Inode = record { generation = found.key.generation + 1; row = None } in
    let still : closed next ≡ next = with_inode-map closed_inode t found.key.number gone ∙ ap (λ v. with_inode v found.key.number gone) shut in
    let rest = frees_all n next actor (IsTable-happens t (Freed found.key) next ok frees) still (omega (arith, fewer, count)) in
    let same : recovered next ≡ recovered t = recovered-frees t found.key next frees in
    record {
      keys = found.key ∷ rest.keys;
      long = ap suc rest.long;
      leads = (next, frees, subst (λ u. Leads next (frees_of actor rest.keys) u) same rest.leads);
    }

pub recovery_frees : (t : Table) (actor : ℕ) → IsTable t → closed t ≡ t → (keys : List Key) × (length keys ≡ orphans t) × Leads t (frees_of actor keys) (recovered t)
recovery_frees t actor ok shut = let all = frees_all (orphans t) t actor ok shut refl in (all.keys, all.long, all.leads)

-- a table of which each inode was changed to one that has no block more is well formed
module _ (change : Inode → Inode) (well : (inode : Inode) → IsInode inode → IsInode (change inode)) (fewer : (inode : Inode) (b : ℕ) → times b (row_blocks (change inode).row) ≤ times b (row_blocks inode.row)) where
  inodes_map : (inodes : List Inode) → AllByRecursion IsInode inodes → AllByRecursion IsInode (map change inodes)
  inodes_map [] all = tt
  inodes_map (inode ∷ inodes) all = (well inode all.0, inodes_map inodes all.1)

  chunks_map : (chunks : List Chunk) → AllByRecursion IsChunk chunks → AllByRecursion IsChunk (map_group change chunks)
  chunks_map [] all = tt
  chunks_map (chunk ∷ chunks) all =
      (record { start = all.0.start; whole = length-map chunk.inodes change ∙ all.0.whole; inodes = inodes_map chunk.inodes all.0.inodes }, chunks_map chunks all.1)

  starts_map : (P : ℕ → Type 0) (chunks : List Chunk) → AllByRecursion (λ (c : Chunk). P c.start) chunks → AllByRecursion (λ (c : Chunk). P c.start) (map_group change chunks)
  starts_map P [] all = tt
  starts_map P (chunk ∷ chunks) all = (all.0, starts_map P chunks all.1)

  ascends_map : (chunks : List Chunk) → ChunksAscend chunks → ChunksAscend (map_group change chunks)
  ascends_map [] ascends = tt
  ascends_map (chunk ∷ chunks) ascends = (starts_map (λ (s : ℕ). chunk.start < s) chunks ascends.0, ascends_map chunks ascends.1)

  times_inodes_map : (b : ℕ) (inodes : List Inode) → times b (inode_blocks (map change inodes)) ≤ times b (inode_blocks inodes)
  unfolding inode_blocks
  times_inodes_map b [] = omega arith
  times_inodes_map b (inode ∷ inodes) =
      let rest = times_inodes_map b inodes in
      let one = times-append b (row_blocks (change inode).row) (inode_blocks (map change inodes)) in
      let two = times-append b (row_blocks inode.row) (inode_blocks inodes) in
      let less = fewer inode b in
      omega (arith, rest, one, two, less)

  times_chunk_map : (b : ℕ) (chunk : Chunk) → times b (chunk_blocks (map_chunk change chunk)) ≡ times b (chunk_blocks chunk)
  unfolding chunk_blocks
  times_chunk_map b chunk = refl

  times_map : (b : ℕ) (group : Group) → times b (used (map_group change group)) ≤ times b (used group)
  times_map b [] = omega arith
  times_map b (chunk ∷ chunks) =
      let rest = times_map b chunks in
      let one = times-used_cons b (map_chunk change chunk) (map_group change chunks) in
      let two = times-used_cons b chunk chunks in
      let inner = times_inodes_map b chunk.inodes in
      let same = times_chunk_map b chunk in
      omega (arith, rest, one, two, inner, same)

  group_map : (blocks : ℕ) (group : Group) → IsGroup blocks group → IsGroup blocks (map_group change group)
  group_map blocks group ok = record {
    few = subst (λ n. n ≤ MAX_CHUNKS) (sym (length-map group (map_chunk change))) ok.few;
    ascends = ascends_map group ok.ascends;
    chunks = chunks_map group ok.chunks;
    data_blocks = λ b has. let less = times_map b group in ok.data_blocks b (omega (arith, has, less));
    once = λ b. let less = times_map b group in let before = ok.once b in omega (arith, less, before);
  }

  groups_map : (blocks : ℕ) (groups : List Group) → AllByRecursion (IsGroup blocks) groups → AllByRecursion (IsGroup blocks) (map (map_group change) groups)
  groups_map blocks [] all = tt
  groups_map blocks (group ∷ groups) all = (group_map blocks group all.0, groups_map blocks groups all.1)

  pub IsTable-map : (t : Table) → IsTable t → IsTable (map_inodes change t)
  IsTable-map t ok =
      let same : length (map (map_group change) t.groups) ≡ length t.groups = length-map t.groups (map_group change) in
      record { version = ok.version; least = ok.least; most = ok.most; some = omega (arith, same, ok.some); many = omega (arith, same, ok.many); groups = groups_map t.blocks t.groups ok.groups }

closed_well : (generation : ℕ) (o : Option Row) → IfSome o (IsRow generation) → IfSome (closed_row o) (IsRow generation)
closed_well generation None ok = tt
closed_well generation (Some row) ok = record { life = ok.life; links = ok.links; opens = omega arith; runs = ok.runs }

closed_fewer : (o : Option Row) (b : ℕ) → times b (row_blocks (closed_row o)) ≤ times b (row_blocks o)
closed_fewer None b = omega arith
closed_fewer (Some row) b = omega arith

pub IsTable-closed : (t : Table) → IsTable t → IsTable (closed t)
IsTable-closed t ok =
    IsTable-map closed_inode (λ inode well. record { first = well.first; last = well.last; row = closed_well inode.generation inode.row well.row }) (λ inode b. closed_fewer inode.row b) t ok

recovered_well : (generation : ℕ) (o : Option Row) → 1 ≤ generation → generation ≤ MAX_GENERATION → IfSome o (IsRow generation) → IsInode (recovered_as generation o)
recovered_well generation None low high ok = record { first = low; last = high; row = tt }
recovered_well generation (Some row) low high ok =
    let life : generation < MAX_GENERATION = ok.life in
    elim (row.links == 0) as (λ c. IsInode (if c then record { generation = generation + 1; row = None } else record { generation = generation; row = Some row })) [
      | true ↦ record { first = omega arith; last = omega (arith, life); row = tt }
      | false ↦ record { first = low; last = high; row = ok }
    ]

recovered_fewer : (generation : ℕ) (o : Option Row) (b : ℕ) → times b (row_blocks (recovered_as generation o).row) ≤ times b (row_blocks o)
recovered_fewer generation None b = omega arith
recovered_fewer generation (Some row) b =
    elim (row.links == 0) as (λ c. times b (row_blocks (by_links generation row c).row) ≤ times b row.blocks) [
      | true ↦ let none = times-nil b in omega (arith, none)
      | false ↦ omega arith
    ]

pub IsTable-recovered : (t : Table) → IsTable t → IsTable (recovered t)
IsTable-recovered t ok =
    IsTable-map recovered_inode (λ inode well. recovered_well inode.generation inode.row well.first well.last well.row) (λ inode b. recovered_fewer inode.generation inode.row b) t ok
