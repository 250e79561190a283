-- What a call that makes an inode finds at its number, and leaves there.
use Rattle.std.proofs.Common.{◌≡◌, ◌≢◌, ◌==◌, ◌+◌, ◌*◌, ◌/◌, ◌%◌, ◌<◌, ℕ, zero, suc, Bool, true, false, List, [], ◌∷◌, ◌++◌, Option, None, Some, IsSomeAnd, IsTrue, is_none, if◌then◌else◌, nat_lt, length, slice_get, slice_set, refl, sym, ap, subst, ◌∙◌, inl, inr, arith, length-set}
use Rattle.std.proofs.lemmas.Option.{none-some}
use Rattle.std.proofs.lemmas.List.{get_or-set_same, get_or-set_other}
use Rattle.std.proofs.lemmas.Bool.{and_parts, cases_eq, eq-eqb, true≢false, false≢true}
use Rattle.life_limits.specs.declared.TheConstants.{CHUNK_INODES, GROUP_NUMBERS, MAX_GENERATION}
use Rattle.life_table.specs.declared.key.Key.{Key}
use Rattle.life_table.specs.declared.types.Row.{Row}
use Rattle.life_table.specs.declared.table.Inode.{Inode}
use Rattle.life_table.specs.declared.table.Table.{Table}
use Rattle.life_table.specs.Table.{Group, group_at, in_use, inode_in, inode_of, row_in_life, row_of, set_inode, start_of, with_group, with_inode, with_row}
use Rattle.life_table.specs.Space.{IsFreeNumber, free_keys, is_free, keys_from, lowest_key, prepared}
use Rattle.life_table.specs.Legal.{IsNextKey, made_row, prepare}
use Rattle.life_table.specs.WellFormed.{IsTable}
use Rattle.actor_holds.proofs.Opens.{has_group}

-- The law of the model that is used: a lowest key is of a free number of its group.
abbrev pub LowestIsFree : Type 0
LowestIsFree = (t : Table) (g : ℕ) (key : Key) → IsTable t → lowest_key g (group_at t g) ≡ Some key → (key.number / GROUP_NUMBERS ≡ g) × IsFreeNumber t key.number

-- ---- the inode at a number that was changed

get-set : (xs : List Inode) (i : ℕ) (old new : Inode) → slice_get xs i ≡ Some old → slice_get (slice_set xs i new) i ≡ Some new
get-set [] i old new at = absurd (none-some old at)
get-set (x ∷ xs) zero old new at = refl
get-set (x ∷ xs) (suc i) old new at = get-set xs i old new at

inode_in-set : (group : Group) (agino : ℕ) (old new : Inode) → inode_in group agino ≡ Some old → inode_in (set_inode group agino new) agino ≡ Some new
unfolding inode_in set_inode
inode_in-set [] agino old new at = absurd (none-some old at)
inode_in-set (chunk ∷ chunks) agino old new at =
    elim (chunk.start == start_of agino) as (λ c. chunk.start == start_of agino ≡ c
    → (if c then slice_get chunk.inodes (agino % CHUNK_INODES) else inode_in chunks agino) ≡ Some old
    → inode_in (if c then record { start = chunk.start; inodes = slice_set chunk.inodes (agino % CHUNK_INODES) new } ∷ chunks else chunk ∷ set_inode chunks agino new) agino ≡ Some new) [
      | true ↦ λ is here. rw is (get-set chunk.inodes (agino % CHUNK_INODES) old new here)
      | false ↦ λ is here. rw is (inode_in-set chunks agino old new here)
    ] refl at

group_same : (t : Table) (g : ℕ) (group : Group) → g < length t.groups → group_at (with_group t g group) g ≡ group
group_same t g group low = get_or-set_same t.groups g group [] low

group_other : (t : Table) (g h : ℕ) (group : Group) → h ≢ g → group_at (with_group t g group) h ≡ group_at t h
group_other t g h group apart = get_or-set_other t.groups g h group [] apart

pub inode_same : (t : Table) (number : ℕ) (old new : Inode) → inode_of t number ≡ Some old → inode_of (with_inode t number new) number ≡ Some new
unfolding inode_of with_inode
inode_same t number old new at =
    ap (λ group. inode_in group (number % GROUP_NUMBERS)) (group_same t (number / GROUP_NUMBERS) (set_inode (group_at t (number / GROUP_NUMBERS)) (number % GROUP_NUMBERS) new) (has_group t number old at))
    ∙ inode_in-set (group_at t (number / GROUP_NUMBERS)) (number % GROUP_NUMBERS) old new at

-- the row of a key whose row was changed
pub row_same : (t : Table) (key : Key) (old : Inode) (new : Row) → inode_of t key.number ≡ Some old → row_of (with_row t key new) key ≡ Some new
row_same t key old new at =
    ap (row_in_life key.generation) (inode_same t key.number old (in_use key new) at)
    ∙ ap (λ b. if b then Some new else None) (eq-eqb key.generation key.generation refl)

-- ---- an inode that is not free, changed to one that is not free, leaves the free keys

free_at : Option Inode → Bool
free_at None = false
free_at (Some inode) = is_free inode

keys_from-set : (number : ℕ) (inodes : List Inode) (i : ℕ) (new : Inode) → free_at (slice_get inodes i) ≡ false → is_free new ≡ false
    → keys_from number (slice_set inodes i new) ≡ keys_from number inodes
unfolding keys_from free_at
keys_from-set number [] i new old none = refl
keys_from-set number (inode ∷ inodes) zero new old none =
    let keep : Inode → List Key = λ other. record { number = number; generation = other.generation } ∷ keys_from (number + 1) inodes in
    ap (λ b. if b then keep new else keys_from (number + 1) inodes) none
    ∙ ap (λ b. if b then keep inode else keys_from (number + 1) inodes) (sym old)
keys_from-set number (inode ∷ inodes) (suc i) new old none =
    ap (λ keys. if is_free inode then record { number = number; generation = inode.generation } ∷ keys else keys) (keys_from-set (number + 1) inodes i new old none)

free_keys-set : (g : ℕ) (group : Group) (agino : ℕ) (new : Inode) → free_at (inode_in group agino) ≡ false → is_free new ≡ false
    → free_keys g (set_inode group agino new) ≡ free_keys g group
unfolding free_keys inode_in set_inode
free_keys-set g [] agino new old none = refl
free_keys-set g (chunk ∷ chunks) agino new old none =
    elim (chunk.start == start_of agino) as (λ c. free_at (if c then slice_get chunk.inodes (agino % CHUNK_INODES) else inode_in chunks agino) ≡ false
    → free_keys g (if c then record { start = chunk.start; inodes = slice_set chunk.inodes (agino % CHUNK_INODES) new } ∷ chunks else chunk ∷ set_inode chunks agino new) ≡ free_keys g (chunk ∷ chunks)) [
      | true ↦ λ here. ap (λ keys. keys ++ free_keys g chunks) (keys_from-set (g * GROUP_NUMBERS + chunk.start) chunk.inodes (agino % CHUNK_INODES) new here none)
      | false ↦ λ here. ap (λ keys. keys_from (g * GROUP_NUMBERS + chunk.start) chunk.inodes ++ keys) (free_keys-set g chunks agino new here none)
    ] old

-- and no free one at its number
free_at-get : (inodes : List Inode) (i : ℕ) (new : Inode) → is_free new ≡ false → free_at (slice_get (slice_set inodes i new) i) ≡ false
unfolding free_at
free_at-get [] i new none = refl
free_at-get (inode ∷ inodes) zero new none = none
free_at-get (inode ∷ inodes) (suc i) new none = free_at-get inodes i new none

free_at-set : (group : Group) (agino : ℕ) (new : Inode) → is_free new ≡ false → free_at (inode_in (set_inode group agino new) agino) ≡ false
unfolding inode_in set_inode free_at
free_at-set [] agino new none = refl
free_at-set (chunk ∷ chunks) agino new none =
    elim (chunk.start == start_of agino) as (λ c. chunk.start == start_of agino ≡ c
    → free_at (inode_in (if c then record { start = chunk.start; inodes = slice_set chunk.inodes (agino % CHUNK_INODES) new } ∷ chunks else chunk ∷ set_inode chunks agino new) agino) ≡ false) [
      | true ↦ λ is. rw is (free_at-get chunk.inodes (agino % CHUNK_INODES) new none)
      | false ↦ λ is. rw is (free_at-set chunks agino new none)
    ] refl

-- ---- the number of a key that is made

-- an inode without a row is at the number
pub record IsBare (t : Table) (number : ℕ) : Type 0 where
  pub inode : Inode
  pub at : inode_of t number ≡ Some inode
  pub none : inode.row ≡ None

no_row : (o : Option Row) → is_none o ≡ true → o ≡ None
no_row None is = refl
no_row (Some row) is = absurd (false≢true is)

bare_from : (t : Table) (number : ℕ) (o : Option Inode) → inode_of t number ≡ o → free_at o ≡ true → IsBare t number
unfolding free_at
bare_from t number None at free = absurd (false≢true free)
bare_from t number (Some inode) at free =
    record { inode = inode; at = at; none = no_row inode.row (and_parts (is_none inode.row) (nat_lt inode.generation MAX_GENERATION) free).0 }

free_at-from : (o : Option Inode) → IsSomeAnd o (λ inode. IsTrue (is_free inode)) → free_at o ≡ true
unfolding free_at
free_at-from None free = absurd free
free_at-from (Some inode) free = free

module _ (free : LowestIsFree) (t : Table) (g : ℕ) (key : Key) (links : ℕ) (next : IsNextKey t g key) (ok : IsTable (with_row (prepare t g) key (made_row links))) where
  made_group : key.number / GROUP_NUMBERS ≡ g
  unfolding with_inode
  made_group =
      elim (cases_eq (key.number / GROUP_NUMBERS) g) [
        | inl same ↦ same
        | inr apart ↦
            let there : group_at (with_row (prepare t g) key (made_row links)) g ≡ prepared t.blocks g (group_at t g) =
            group_other (prepare t g) (key.number / GROUP_NUMBERS) g _ (λ e. apart (sym e)) ∙ group_same t g (prepared t.blocks g (group_at t g)) next.0 in
            (free (with_row (prepare t g) key (made_row links)) g key ok (ap (lowest_key g) there ∙ next.1)).0
      ]

  taken_not : free_at (inode_of (prepare t g) key.number) ≡ false → ⊥
  unfolding inode_of with_inode
  taken_not old =
      let made = with_row (prepare t g) key (made_row links) in
      let h : ℕ = key.number / GROUP_NUMBERS in
      let agino : ℕ = key.number % GROUP_NUMBERS in
      let group : Group = group_at (prepare t g) h in
      let within : length (prepare t g).groups ≡ length t.groups = length-set t.groups g (prepared t.blocks g (group_at t g)) in
      let low : h < length (prepare t g).groups = omega (arith, within, made_group, next.0) in
      let there : group_at made h ≡ set_inode group agino (in_use key (made_row links)) = group_same (prepare t g) h (set_inode group agino (in_use key (made_row links))) low in
      let before : lowest_key g (group_at (prepare t g) g) ≡ Some key = ap (lowest_key g) (group_same t g (prepared t.blocks g (group_at t g)) next.0) ∙ next.1 in
      let lowest : lowest_key h group ≡ Some key = subst (λ n. lowest_key n (group_at (prepare t g) n) ≡ Some key) (sym made_group) before in
      let still : lowest_key h (group_at made h) ≡ Some key =
      ap (lowest_key h) there ∙ ap (λ keys. slice_get keys 0) (free_keys-set h group agino (in_use key (made_row links)) old refl) ∙ lowest in
      let found = (free made h key ok still).1 in
      let gone : free_at (inode_of made key.number) ≡ false = ap (λ gr. free_at (inode_in gr agino)) there ∙ free_at-set group agino (in_use key (made_row links)) refl in
      true≢false (sym (free_at-from (inode_of made key.number) found) ∙ gone)

  pub made_bare : IsBare (prepare t g) key.number
  made_bare =
      elim (free_at (inode_of (prepare t g) key.number)) as (λ c. free_at (inode_of (prepare t g) key.number) ≡ c → IsBare (prepare t g) key.number) [
        | true ↦ λ is. bare_from (prepare t g) key.number (inode_of (prepare t g) key.number) refl is
        | false ↦ λ is. absurd (taken_not is)
      ] refl
