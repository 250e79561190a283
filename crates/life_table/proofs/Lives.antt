-- The lives of an inode follow each other: its generation never falls, and rises where a row ends.
use Rattle.std.proofs.Common.{◌≡◌, ◌==◌, ◌+◌, ◌/◌, ◌%◌, ◌<◌, ◌⊎◌, ℕ, true, false, List, [], ◌∷◌, Option, None, Some, IsSome, is_some, if◌then◌else◌, length, slice_get, refl, sym, ap, subst, ◌∙◌, inl, inr, arith}
use Rattle.std.proofs.lemmas.Option.{none-some, same_Some}
use Rattle.std.proofs.lemmas.Bool.{cases_eq, eq-eqb, ne_eqb, true≢false, false≢true}
use Rattle.life_limits.specs.declared.TheConstants.{CHUNK_INODES, GROUP_NUMBERS}
use Rattle.life_table.specs.declared.key.Key.{Key}
use Rattle.life_table.specs.declared.types.Entry.{Entry}
use Rattle.life_table.specs.declared.table.Inode.{Inode}
use Rattle.life_table.specs.declared.table.Table.{Table}
use Rattle.life_table.specs.Table.{Group, start_of, group_at, inode_in, inode_of, row_in_life, row_of, in_use, with_inode}
use Rattle.life_table.specs.Space.{lowest_key, chunk_place, new_chunk, with_chunk, prepared}
use Rattle.life_table.specs.Legal.{prepare, made_row}
use Rattle.life_table.specs.History.{Leads}
use Rattle.life_table.specs.WellFormed.{IsTable}
use Rattle.life_table.proofs.Groups.{IsPlace-chunk_place, IsAbsent-place}
use Rattle.life_table.proofs.Lookups.{IsAbsent, inode_in-insert_chunk, inode_of-with_same, inode_of-with_other, group_of-with_same, group_of-with_other, has_group}
use Rattle.life_table.proofs.Moves.{Move, Stays, Turns, Makes, Ends, HasRow-from, move_event}
use Rattle.life_table.proofs.WellKept.{IsPrepared-next, IsTable-happens, IsTable-leads}

-- a number has no inode in a group that has no chunk at its start
none_absent : (group : Group) (agino start : ℕ) → start ≡ start_of agino → IsAbsent start group → inode_in group agino ≡ None
unfolding inode_in
none_absent [] agino start is absent = refl
none_absent (chunk ∷ chunks) agino start is absent =
    let other : (chunk.start == start_of agino) ≡ false = ne_eqb chunk.start (start_of agino) (λ e. absent.0 (e ∙ sym is)) in
    rw other (none_absent chunks agino start is absent.1)

-- a chunk more takes no inode away
pub inode_in-prepared : (blocks g : ℕ) (group : Group) (agino : ℕ) (inode : Inode) → inode_in group agino ≡ Some inode → inode_in (prepared blocks g group) agino ≡ Some inode
unfolding prepared
inode_in-prepared blocks g group agino inode at =
    elim (is_some (lowest_key g group)) as (λ c. inode_in (if c then group else with_chunk group (chunk_place blocks group)) agino ≡ Some inode) [
      | true ↦ at
      | false ↦
          elim (chunk_place blocks group) as (λ (o : Option ℕ). chunk_place blocks group ≡ o → inode_in (with_chunk group o) agino ≡ Some inode) [
            | None ↦ λ is. at
            | Some block ↦ λ is.
                let absent = IsAbsent-place blocks group block (IsPlace-chunk_place blocks group block is) in
                let other : ((new_chunk block).start == start_of agino) ≡ false =
                ne_eqb (new_chunk block).start (start_of agino) (λ e. none-some inode (sym (none_absent group agino (new_chunk block).start e absent) ∙ at)) in
                inode_in-insert_chunk (new_chunk block) group agino absent ∙ ap (λ b. if b then slice_get (new_chunk block).inodes (agino % CHUNK_INODES) else inode_in group agino) other ∙ at
          ] refl
    ]

pub inode_of-prepare : (t : Table) (g number : ℕ) (inode : Inode) → inode_of t number ≡ Some inode → inode_of (prepare t g) number ≡ Some inode
unfolding inode_of
inode_of-prepare t g number inode at =
    let ready : Group = prepared t.blocks g (group_at t g) in
    elim (cases_eq (number / GROUP_NUMBERS) g) [
      | inl same ↦
          let here : g < length t.groups = subst (λ h. h < length t.groups) same (has_group t number inode at) in
          let group : group_at (prepare t g) (number / GROUP_NUMBERS) ≡ ready = ap (λ h. group_at (prepare t g) h) same ∙ group_of-with_same t g ready here in
          let before : inode_in (group_at t g) (number % GROUP_NUMBERS) ≡ Some inode = ap (λ h. inode_in (group_at t h) (number % GROUP_NUMBERS)) (sym same) ∙ at in
          ap (λ gr. inode_in gr (number % GROUP_NUMBERS)) group ∙ inode_in-prepared t.blocks g (group_at t g) (number % GROUP_NUMBERS) inode before
      | inr differ ↦ ap (λ gr. inode_in gr (number % GROUP_NUMBERS)) (group_of-with_other t g (number / GROUP_NUMBERS) ready differ) ∙ at
    ]

-- the second is the first in the same life, where a row did not end, or in a later one
abbrev pub Follows : Inode → Inode → Type 0
Follows i j = (i.generation < j.generation) ⊎ ((i.generation ≡ j.generation) × (is_some i.row ≡ true → is_some j.row ≡ true))

Follows-self : (i : Inode) → Follows i i
Follows-self i = inr (refl, λ h. h)

Follows-both : (i j k : Inode) → Follows i j → Follows j k → Follows i k
Follows-both i j k (inl a) (inl b) = inl (omega arith)
Follows-both i j k (inl a) (inr b) = inl (omega (arith, b.0))
Follows-both i j k (inr a) (inl b) = inl (omega (arith, a.0))
Follows-both i j k (inr a) (inr b) = inr (a.0 ∙ b.0, λ h. b.1 (a.1 h))

-- the inode of a number later on
pub record IsLater (u : Table) (number : ℕ) (i : Inode) : Type 0 where
  pub inode : Inode
  pub at : inode_of u number ≡ Some inode
  pub follows : Follows i inode

-- where one inode is changed to one that follows it, each inode is followed
later_with : (t : Table) (number : ℕ) (old new : Inode) → inode_of t number ≡ Some old → Follows old new
    → (other : ℕ) (i : Inode) → inode_of t other ≡ Some i → IsLater (with_inode t number new) other i
later_with t number old new at follows other i there =
    elim (cases_eq number other) [
      | inl same ↦
          let same_inode : i ≡ old = same_Some i old (sym there ∙ ap (λ n. inode_of t n) (sym same) ∙ at) in
          record {
            inode = new;
            at = ap (λ n. inode_of (with_inode t number new) n) (sym same) ∙ inode_of-with_same t number old new at;
            follows = subst (λ x. Follows x new) (sym same_inode) follows;
          }
      | inr apart ↦ record { inode = i; at = inode_of-with_other t number other new apart ∙ there; follows = Follows-self i }
    ]

later_move : (t u : Table) → IsTable t → Move t u → (number : ℕ) (i : Inode) → inode_of t number ≡ Some i → IsLater u number i
later_move t _ ok Stays number i there = record { inode = i; at = there; follows = Follows-self i }
later_move t _ ok (Turns key row new at changes) number i there =
    let has = HasRow-from (inode_of t key.number) key.generation row at in
    later_with t key.number has.inode (in_use key new) has.at (inr (has.life, λ h. refl)) number i there
later_move t _ ok (Makes g key links few next) number i there =
    let found = IsPrepared-next t g key ok next in
    later_with (prepare t g) key.number found.inode (in_use key (made_row links)) found.at (inr (found.life, λ h. refl)) number i (inode_of-prepare t g number i there)
later_move t _ ok (Ends key row at awaits) number i there =
    let has = HasRow-from (inode_of t key.number) key.generation row at in
    let life : has.inode.generation ≡ key.generation = has.life in
    later_with t key.number has.inode (record { generation = key.generation + 1; row = None }) has.at (inl (omega (arith, life))) number i there

pub later_leads : (t : Table) (entries : List Entry) (u : Table) → IsTable t → Leads t entries u → (number : ℕ) (i : Inode) → inode_of t number ≡ Some i → IsLater u number i
later_leads t [] u ok leads number i there = record { inode = i; at = ap (λ v. inode_of v number) leads ∙ there; follows = Follows-self i }
later_leads t (entry ∷ entries) u ok (next, first, rest) number i there =
    let one = later_move t next ok (move_event t entry.event next first) number i there in
    let more = later_leads next entries u (IsTable-happens t entry.event next ok first) rest number one.inode one.at in
    record { inode = more.inode; at = more.at; follows = Follows-both i one.inode more.inode one.follows more.follows }

-- the row of a key, by the inode of its number
row_at : (generation : ℕ) (inode : Inode) → inode.generation ≡ generation → row_in_life generation (Some inode) ≡ inode.row
row_at generation inode same = let is : (inode.generation == generation) ≡ true = eq-eqb inode.generation generation same in rw is

no_row_past : (generation : ℕ) (inode : Inode) → generation < inode.generation → row_in_life generation (Some inode) ≡ None
no_row_past generation inode later = let is : (inode.generation == generation) ≡ false = ne_eqb inode.generation generation (λ e. omega arith) in rw is

some_none : {X : Type 0} (o : Option X) → is_some o ≡ true → o ≡ None → ⊥
some_none o some none = true≢false (sym some ∙ ap is_some none)

-- a key that had a row and has none has none in any later table
pub never_again : (first gone last : Table) (before after : List Entry) (key : Key) → IsTable first → IsSome (row_of first key) → Leads first before gone
    → row_of gone key ≡ None → Leads gone after last → row_of last key ≡ None
never_again first gone last before after key ok had leads none follows =
    elim (row_of first key) as (λ o. row_of first key ≡ o → IsSome o → row_of last key ≡ None) [
      | None ↦ λ is some. absurd (false≢true some)
      | Some row ↦ λ is some.
          let has = HasRow-from (inode_of first key.number) key.generation row is in
          let middle = later_leads first before gone ok leads key.number has.inode has.at in
          let past : key.generation < middle.inode.generation =
          elim middle.follows [
            | inl later ↦ omega (arith, has.life, later)
            | inr same ↦ absurd (some_none middle.inode.row (same.1 (ap is_some has.is))
                (sym (row_at key.generation middle.inode (sym same.0 ∙ has.life)) ∙ ap (row_in_life key.generation) (sym middle.at) ∙ none))
          ] in
          let now = later_leads gone after last (IsTable-leads first before gone ok leads) follows key.number middle.inode middle.at in
          let still : key.generation < now.inode.generation =
          elim now.follows [
            | inl later ↦ omega (arith, past, later)
            | inr same ↦ omega (arith, past, same.0)
          ] in
          ap (row_in_life key.generation) now.at ∙ no_row_past key.generation now.inode still
    ] refl had
