-- The inodes of a table that a create or a free changed.
use Rattle.std.proofs.Common.{◌≡◌, ◌==◌, ◌/◌, ◌%◌, ◌<◌, ◌⊎◌, inl, inr, ℕ, zero, suc, true, false, List, [], ◌∷◌, Option, None, Some, is_some, if◌then◌else◌, nat_lt, length, replicate, slice_get, slice_set, refl, sym, ap, subst, ◌∙◌, arith}
use Rattle.std.specs.List.{AllByRecursion}
use Rattle.std.proofs.lemmas.Option.{none-some}
use Rattle.std.proofs.lemmas.Bool.{cases_eq, cases_lt, eq-eqb, eqb-true, ltb-true}
use Rattle.std.proofs.lemmas.List.{set-get_or}
use Rattle.life_limits.specs.declared.TheConstants.{CHUNK_INODES, GROUP_NUMBERS}
use Rattle.life_table.specs.declared.key.Key.{Key}
use Rattle.life_table.specs.declared.table.Inode.{Inode}
use Rattle.life_table.specs.declared.table.Chunk.{Chunk}
use Rattle.life_table.specs.declared.table.Table.{Table}
use Rattle.life_table.specs.Table.{Group, group_at, in_use, inode_in, inode_of, row_in_life, row_of, set_inode, start_of, with_group, with_inode, with_row}
use Rattle.life_table.specs.Space.{IsFreeNumber, chunk_place, insert_chunk, lowest_key, new_chunk, prepared, with_chunk}
use Rattle.life_table.specs.Legal.{IsNextKey, made_row, prepare}
use Rattle.life_table.specs.WellFormed.{ChunksAscend, IsGroup, IsTable}
use Rattle.actor_world.specs.Words.{any_row}
use Rattle.actor_world.proofs.Lists.{all_read, the_some}
use Rattle.actor_world.proofs.Looks.{group_other, group_past, group_same, inode_same}

-- ---- a chunk more

-- an inode that no row is in
abbrev pub IsBare : Option Inode → Type 0
IsBare o = any_row o ≡ None

-- an inode stays, or comes to be without a row where there was none
abbrev pub StaysOrComes : Option Inode → Option Inode → Type 0
StaysOrComes before after = (after ≡ before) ⊎ ((before ≡ None) × IsBare after)

fresh : (n i : ℕ) → IsBare (slice_get (replicate n (record { generation = 1; row = None })) i)
fresh zero i = refl
fresh (suc n) zero = refl
fresh (suc n) (suc i) = fresh n i

pub none_above : (group : Group) (start agino : ℕ) → start ≡ start_of agino → AllByRecursion (λ (later : Chunk). start < later.start) group → inode_in group agino ≡ None
unfolding inode_in
none_above [] start agino is all = refl
none_above (chunk ∷ chunks) start agino is all =
    elim (chunk.start == start_of agino) as (λ c. chunk.start == start_of agino ≡ c → (if c then slice_get chunk.inodes (agino % CHUNK_INODES) else inode_in chunks agino) ≡ None) [
      | true ↦ λ here. let same : chunk.start ≡ start_of agino = eqb-true chunk.start (start_of agino) here in absurd (omega (arith, same, is, all.0))
      | false ↦ λ other. none_above chunks start agino is all.1
    ] refl

above : (chunks : Group) (start low : ℕ) → low < start → AllByRecursion (λ (later : Chunk). start < later.start) chunks → AllByRecursion (λ (later : Chunk). low < later.start) chunks
above [] start low below all = tt
above (chunk ∷ chunks) start low below all = (omega (arith, below, all.0), above chunks start low below all.1)

inserted : (new : Chunk) (group : Group) (agino : ℕ) → ChunksAscend group → IsBare (slice_get new.inodes (agino % CHUNK_INODES))
    → StaysOrComes (inode_in group agino) (inode_in (insert_chunk new group) agino)
unfolding inode_in insert_chunk
inserted new [] agino ascend bare =
    elim (new.start == start_of agino) as (λ c. StaysOrComes None (if c then slice_get new.inodes (agino % CHUNK_INODES) else None)) [
      | true ↦ inr (refl, bare)
      | false ↦ inl refl
    ]
inserted new (chunk ∷ chunks) agino ascend bare =
    elim (nat_lt new.start chunk.start) as (λ b. nat_lt new.start chunk.start ≡ b
    → StaysOrComes (inode_in (chunk ∷ chunks) agino) (inode_in (if b then new ∷ chunk ∷ chunks else chunk ∷ insert_chunk new chunks) agino)) [
      | true ↦ λ low.
          let below : new.start < chunk.start = ltb-true new.start chunk.start low in
          elim (new.start == start_of agino) as (λ c. new.start == start_of agino ≡ c
          → StaysOrComes (inode_in (chunk ∷ chunks) agino) (if c then slice_get new.inodes (agino % CHUNK_INODES) else inode_in (chunk ∷ chunks) agino)) [
            | true ↦ λ here. inr (none_above (chunk ∷ chunks) new.start agino (eqb-true new.start (start_of agino) here) (below, above chunks chunk.start new.start below ascend.0), bare)
            | false ↦ λ other. inl refl
          ] refl
      | false ↦ λ high.
          elim (chunk.start == start_of agino) as (λ c.
          StaysOrComes (if c then slice_get chunk.inodes (agino % CHUNK_INODES) else inode_in chunks agino) (if c then slice_get chunk.inodes (agino % CHUNK_INODES) else inode_in (insert_chunk new chunks) agino)) [
            | true ↦ inl refl
            | false ↦ inserted new chunks agino ascend.1 bare
          ]
    ] refl

chunked : (group : Group) (o : Option ℕ) (agino : ℕ) → ChunksAscend group → StaysOrComes (inode_in group agino) (inode_in (with_chunk group o) agino)
unfolding new_chunk
chunked group None agino ascend = inl refl
chunked group (Some block) agino ascend = inserted (new_chunk block) group agino ascend (fresh CHUNK_INODES (agino % CHUNK_INODES))

prepared_stays : (blocks g : ℕ) (group : Group) (agino : ℕ) → ChunksAscend group → StaysOrComes (inode_in group agino) (inode_in (prepared blocks g group) agino)
unfolding prepared
prepared_stays blocks g group agino ascend =
    elim (is_some (lowest_key g group)) as (λ c. StaysOrComes (inode_in group agino) (inode_in (if c then group else with_chunk group (chunk_place blocks group)) agino)) [
      | true ↦ inl refl
      | false ↦ chunked group (chunk_place blocks group) agino ascend
    ]

group_ascends : (t : Table) (g : ℕ) → IsTable t → ChunksAscend (group_at t g)
group_ascends t g ok =
    elim (cases_lt g (length t.groups)) [
      | inl low ↦ (all_read (IsGroup t.blocks) t.groups g [] ok.groups low).ascends
      | inr high ↦ subst ChunksAscend (sym (group_past t g high)) tt
    ]

pub prepare_stays : (t : Table) (g number : ℕ) → IsTable t → g < length t.groups → StaysOrComes (inode_of t number) (inode_of (prepare t g) number)
unfolding inode_of
prepare_stays t g number ok low =
    let ready : Group = prepared t.blocks g (group_at t g) in
    elim (cases_eq (number / GROUP_NUMBERS) g) [
      | inl same ↦
          subst (λ h. StaysOrComes (inode_in (group_at t h) (number % GROUP_NUMBERS)) (inode_in (group_at (prepare t g) h) (number % GROUP_NUMBERS))) (sym same)
          (subst (λ group. StaysOrComes (inode_in (group_at t g) (number % GROUP_NUMBERS)) (inode_in group (number % GROUP_NUMBERS))) (sym (group_same t g ready low))
          (prepared_stays t.blocks g (group_at t g) (number % GROUP_NUMBERS) (group_ascends t g ok)))
      | inr differ ↦ inl (ap (λ group. inode_in group (number % GROUP_NUMBERS)) (group_other t g (number / GROUP_NUMBERS) ready differ))
    ]

-- ---- the inode that is made

get_set_none : {X : Type 0} (xs : List X) (i : ℕ) (x : X) → slice_get xs i ≡ None → slice_set xs i x ≡ xs
get_set_none [] i x none = refl
get_set_none (y ∷ xs) zero x none = absurd (none-some y (sym none))
get_set_none (y ∷ xs) (suc i) x none = ap (λ ys. y ∷ ys) (get_set_none xs i x none)

set_none : (group : Group) (agino : ℕ) (inode : Inode) → inode_in group agino ≡ None → set_inode group agino inode ≡ group
unfolding inode_in set_inode
set_none [] agino inode none = refl
set_none (chunk ∷ chunks) agino inode none =
    elim (chunk.start == start_of agino) as (λ c. (if c then slice_get chunk.inodes (agino % CHUNK_INODES) else inode_in chunks agino) ≡ None
    → (if c then record { start = chunk.start; inodes = slice_set chunk.inodes (agino % CHUNK_INODES) inode } ∷ chunks else chunk ∷ set_inode chunks agino inode) ≡ chunk ∷ chunks) [
      | true ↦ λ none. ap (λ inodes. record { start = chunk.start; inodes = inodes } ∷ chunks) (get_set_none chunk.inodes (agino % CHUNK_INODES) inode none)
      | false ↦ λ none. ap (λ rest. chunk ∷ rest) (set_none chunks agino inode none)
    ] none

with_none : (t : Table) (number : ℕ) (inode : Inode) → inode_of t number ≡ None → with_inode t number inode ≡ t
unfolding inode_of with_inode
with_none t number inode none =
    ap (λ group. with_group t (number / GROUP_NUMBERS) group) (set_none (group_at t (number / GROUP_NUMBERS)) (number % GROUP_NUMBERS) inode none)
    ∙ ap (λ (groups : List Group). record { version = t.version; blocks = t.blocks; groups = groups }) (set-get_or t.groups (number / GROUP_NUMBERS) [])

-- The law of the model that is used: a lowest key is of a free number of its group.
abbrev pub LowestIsFree : Type 0
LowestIsFree = (t : Table) (g : ℕ) (key : Key) → IsTable t → lowest_key g (group_at t g) ≡ Some key → (key.number / GROUP_NUMBERS ≡ g) × IsFreeNumber t key.number

-- what a create made
pub record MadeRow (t : Table) (g : ℕ) (key : Key) (links : ℕ) : Type 0 where
  pub group : key.number / GROUP_NUMBERS ≡ g
  pub row : row_of (with_row (prepare t g) key (made_row links)) key ≡ Some (made_row links)

module _ (free : LowestIsFree) (t : Table) (g : ℕ) (key : Key) (links : ℕ) (next : IsNextKey t g key) (ok : IsTable (with_row (prepare t g) key (made_row links))) where
  made_group : key.number / GROUP_NUMBERS ≡ g
  unfolding with_inode
  made_group =
      elim (cases_eq (key.number / GROUP_NUMBERS) g) [
        | inl same ↦ same
        | inr differ ↦
            let there : group_at (with_row (prepare t g) key (made_row links)) g ≡ prepared t.blocks g (group_at t g) =
            group_other (prepare t g) (key.number / GROUP_NUMBERS) g _ (λ e. differ (sym e)) ∙ group_same t g (prepared t.blocks g (group_at t g)) next.0 in
            (free (with_row (prepare t g) key (made_row links)) g key ok (ap (lowest_key g) there ∙ next.1)).0
      ]

  made_row_is : row_of (with_row (prepare t g) key (made_row links)) key ≡ Some (made_row links)
  made_row_is =
      elim (inode_of (prepare t g) key.number) as (λ (o : Option Inode). inode_of (prepare t g) key.number ≡ o → row_of (with_row (prepare t g) key (made_row links)) key ≡ Some (made_row links)) [
        | None ↦ λ none.
            let same : with_row (prepare t g) key (made_row links) ≡ prepare t g = with_none (prepare t g) key.number (in_use key (made_row links)) none in
            let found = free (prepare t g) g key (subst IsTable same ok) (ap (lowest_key g) (group_same t g (prepared t.blocks g (group_at t g)) next.0) ∙ next.1) in
            let some = the_some _ (inode_of (prepare t g) key.number) found.1 in
            absurd (none-some some.0 (sym none ∙ some.1))
        | Some old ↦ λ is.
            ap (row_in_life key.generation) (inode_same (prepare t g) key.number old (in_use key (made_row links)) is)
            ∙ ap (λ b. if b then Some (made_row links) else None) (same_as_itself key.generation)
      ] refl
    where
      same_as_itself : (n : ℕ) → (n == n) ≡ true
      same_as_itself n = eq-eqb n n refl

  pub made_is : MadeRow t g key links
  made_is = record { group = made_group; row = made_row_is }
