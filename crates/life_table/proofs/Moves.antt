-- The ways in which a legal event changes a table. Each law goes by these few cases.
use Rattle.std.proofs.Common.{◌≡◌, ◌≢◌, ◌==◌, ◌+◌, ◌-◌, ◌≤◌, ◌⊎◌, ℕ, zero, suc, true, false, List, [], ◌∷◌, Option, None, Some, IsSomeAnd, if◌then◌else◌, length, take, refl, sym, subst, inl, inr, arith}
use Rattle.std.proofs.lemmas.Option.{none-some}
use Rattle.std.proofs.lemmas.Bool.{eqb-true, cases_lt}
use Rattle.life_limits.specs.declared.TheConstants.{MAX_LINKS, MAX_PINS}
use Rattle.extent_fork.specs.declared.extent.Extent.{Extent}
use Rattle.extent_fork.specs.Runs.{runs, runs_from, single, grown, run_end}
use Rattle.life_table.specs.declared.key.Key.{Key}
use Rattle.life_table.specs.declared.types.Row.{Row}
use Rattle.life_table.specs.declared.types.Call.{Call}
use Rattle.life_table.specs.declared.types.Call.TheVariants as call
use Rattle.life_table.specs.declared.types.Reply.{Reply}
use Rattle.life_table.specs.declared.types.Reply.TheVariants as reply
use Rattle.life_table.specs.declared.table.Inode.{Inode}
use Rattle.life_table.specs.declared.table.Table.{Table}
use Rattle.life_table.specs.Table.{row_in_life, row_of, with_row}
use Rattle.life_table.specs.Space.{times}
use Rattle.life_table.specs.Legal.{Awaits, free_of, cut_blocks, prepare, IsNextKey, KeyReplies, made_row, row_after, with_changed, after_call, Permits, Legal, freed, Frees}
use Rattle.life_table.specs.declared.types.Event.{Event}
use Rattle.life_table.specs.declared.types.Event.TheVariants.{Called, Freed}
use Rattle.life_table.specs.History.{Happens}
use Rattle.life_table.specs.WellFormed.{IsRow}
use Rattle.life_table.proofs.Counts.{times-append, times-take}

-- the inode whose row a key has
pub record HasRow (o : Option Inode) (generation : ℕ) (row : Row) : Type 0 where
  pub inode : Inode
  pub at : o ≡ Some inode
  pub life : inode.generation ≡ generation
  pub is : inode.row ≡ Some row

pub HasRow-from : (o : Option Inode) (generation : ℕ) (row : Row) → row_in_life generation o ≡ Some row → HasRow o generation row
HasRow-from None generation row at = absurd (none-some row at)
HasRow-from (Some inode) generation row at =
    elim (inode.generation == generation) as (λ c. inode.generation == generation ≡ c → (if c then inode.row else None) ≡ Some row → HasRow (Some inode) generation row) [
      | true ↦ λ is here. record { inode = inode; at = refl; life = eqb-true inode.generation generation is; is = here }
      | false ↦ λ is here. absurd (none-some row here)
    ] refl at

-- how a row may change: within the limits, and with no block that was neither its own nor free
pub record Changes (t : Table) (key : Key) (row new : Row) : Type 0 where
  pub limits : IsRow key.generation row → IsRow key.generation new
  pub blocks : (b : ℕ) → (times b new.blocks ≤ times b row.blocks) ⊎ (times b new.blocks ≤ times b row.blocks + times b (free_of t key))

-- a legal event leaves the table, changes a row, makes one, or ends one
pub data Move : Table → Table → Type 0 where
  Stays : {t : Table} → Move t t
  Turns : {t : Table} → (key : Key) → (row : Row) → (new : Row) → row_of t key ≡ Some row → Changes t key row new → Move t (with_row t key new)
  Makes : {t : Table} → (g : ℕ) → (key : Key) → (links : ℕ) → links ≤ 1 → IsNextKey t g key → Move t (with_row (prepare t g) key (made_row links))
  Ends : {t : Table} → (key : Key) → (row : Row) → row_of t key ≡ Some row → Awaits row → Move t (freed t key)

-- a number that is not yet at its limit may rise by one, and each may fall
raised : (n limit : ℕ) → n ≤ limit → n ≢ limit → n + 1 ≤ limit
raised n limit low apart = elim (cases_lt n limit) [ inl below ↦ omega arith | inr high ↦ absurd (apart (omega arith)) ]

lowered : (n limit : ℕ) → n ≤ limit → n - 1 ≤ limit
lowered n limit low = omega arith

-- blocks that follow a run make some run
runs_from-some : (run : Extent) (blocks : List ℕ) → 1 ≤ length (runs_from run blocks)
runs_from-some run [] = omega arith
runs_from-some run (block ∷ blocks) =
    elim (block == run_end run) as (λ c. 1 ≤ length (if c then runs_from (grown run) blocks else run ∷ runs_from (single block) blocks)) [
      | true ↦ runs_from-some (grown run) blocks
      | false ↦ omega arith
    ]

-- the runs of a part are no more
runs_from-take : (run : Extent) (k : ℕ) (blocks : List ℕ) → length (runs_from run (take k blocks)) ≤ length (runs_from run blocks)
runs_from-take run zero [] = omega arith
runs_from-take run zero (block ∷ blocks) =
    elim (block == run_end run) as (λ c. 1 ≤ length (if c then runs_from (grown run) blocks else run ∷ runs_from (single block) blocks)) [
      | true ↦ runs_from-some (grown run) blocks
      | false ↦ omega arith
    ]
runs_from-take run (suc k) [] = omega arith
runs_from-take run (suc k) (block ∷ blocks) =
    elim (block == run_end run) as (λ c. length (if c then runs_from (grown run) (take k blocks) else run ∷ runs_from (single block) (take k blocks))
    ≤ length (if c then runs_from (grown run) blocks else run ∷ runs_from (single block) blocks)) [
      | true ↦ runs_from-take (grown run) k blocks
      | false ↦ let rest = runs_from-take (single block) k blocks in omega (arith, rest)
    ]

runs-take : (k : ℕ) (blocks : List ℕ) → length (runs (take k blocks)) ≤ length (runs blocks)
runs-take zero blocks = omega arith
runs-take (suc k) [] = omega arith
runs-take (suc k) (block ∷ blocks) = runs_from-take (single block) k blocks

-- each call that changes a row
turn_open : (t : Table) (key : Key) (o : Option Row) → row_of t key ≡ o → KeyReplies t o (call.OpenKey key) reply.Done → Move t (with_changed t key o (call.OpenKey key))
turn_open t key None at permits = absurd permits
turn_open t key (Some row) at permits =
    let apart : row.opens ≢ MAX_PINS = permits.1 in
    Turns key row (row_after t row (call.OpenKey key)) at record {
      limits = λ ok. record { life = ok.life; links = ok.links; opens = raised row.opens MAX_PINS ok.opens apart; runs = ok.runs };
      blocks = λ b. inl (omega arith);
    }

turn_close : (t : Table) (key : Key) (o : Option Row) → row_of t key ≡ o → KeyReplies t o (call.CloseKey key) reply.Done → Move t (with_changed t key o (call.CloseKey key))
turn_close t key None at permits = absurd permits
turn_close t key (Some row) at permits =
    Turns key row (row_after t row (call.CloseKey key)) at record {
      limits = λ ok. record { life = ok.life; links = ok.links; opens = lowered row.opens MAX_PINS ok.opens; runs = ok.runs };
      blocks = λ b. inl (omega arith);
    }

turn_link : (t : Table) (key : Key) (o : Option Row) → row_of t key ≡ o → KeyReplies t o (call.Link key) reply.Done → Move t (with_changed t key o (call.Link key))
turn_link t key None at permits = absurd permits
turn_link t key (Some row) at permits =
    Turns key row (row_after t row (call.Link key)) at record {
      limits = λ ok. record { life = ok.life; links = raised row.links MAX_LINKS ok.links permits; opens = ok.opens; runs = ok.runs };
      blocks = λ b. inl (omega arith);
    }

turn_unlink : (t : Table) (key : Key) (o : Option Row) → row_of t key ≡ o → KeyReplies t o (call.Unlink key) reply.Done → Move t (with_changed t key o (call.Unlink key))
turn_unlink t key None at permits = absurd permits
turn_unlink t key (Some row) at permits =
    Turns key row (row_after t row (call.Unlink key)) at record {
      limits = λ ok. record { life = ok.life; links = lowered row.links MAX_LINKS ok.links; opens = ok.opens; runs = ok.runs };
      blocks = λ b. inl (omega arith);
    }

turn_grow : (t : Table) (key : Key) (count : ℕ) (o : Option Row) → row_of t key ≡ o → KeyReplies t o (call.Grow key count) reply.Done → Move t (with_changed t key o (call.Grow key count))
turn_grow t key count None at permits = absurd permits
turn_grow t key count (Some row) at permits =
    Turns key row (row_after t row (call.Grow key count)) at record {
      limits = λ ok. record { life = ok.life; links = ok.links; opens = ok.opens; runs = permits.1 };
      blocks = λ b.
          let parts = times-append b row.blocks (take count (free_of t key)) in
          let few = times-take b count (free_of t key) in
          inr (omega (arith, parts, few));
    }

turn_cut : (t : Table) (key : Key) (count : ℕ) (o : Option Row) → row_of t key ≡ o → KeyReplies t o (call.Cut key count) reply.Done → Move t (with_changed t key o (call.Cut key count))
turn_cut t key count None at permits = absurd permits
turn_cut t key count (Some row) at permits =
    Turns key row (row_after t row (call.Cut key count)) at record {
      limits = λ ok.
          let few : length (runs (cut_blocks count row)) ≤ length (runs row.blocks) = runs-take (length row.blocks - count) row.blocks in
          record { life = ok.life; links = ok.links; opens = ok.opens; runs = omega (arith, few, ok.runs) };
      blocks = λ b. inl (times-take b (length row.blocks - count) row.blocks);
    }

move_call : (t : Table) (made : Call) (answer : Reply) → Permits t made answer → Move t (after_call t made answer)
move_call t (call.Create g) (reply.Made key) permits = Makes g key 1 (omega arith) permits
move_call t (call.Create g) _ permits = Stays
move_call t (call.Tmpfile g) (reply.Made key) permits = Makes g key 0 (omega arith) permits
move_call t (call.Tmpfile g) _ permits = Stays
move_call t (call.OpenKey key) reply.Done permits = turn_open t key (row_of t key) refl permits
move_call t (call.OpenKey key) _ permits = Stays
move_call t (call.CloseKey key) reply.Done permits = turn_close t key (row_of t key) refl permits
move_call t (call.CloseKey key) _ permits = Stays
move_call t (call.Link key) reply.Done permits = turn_link t key (row_of t key) refl permits
move_call t (call.Link key) _ permits = Stays
move_call t (call.Unlink key) reply.Done permits = turn_unlink t key (row_of t key) refl permits
move_call t (call.Unlink key) _ permits = Stays
move_call t (call.Grow key count) reply.Done permits = turn_grow t key count (row_of t key) refl permits
move_call t (call.Grow key count) _ permits = Stays
move_call t (call.Cut key count) reply.Done permits = turn_cut t key count (row_of t key) refl permits
move_call t (call.Cut key count) _ permits = Stays
move_call t _ _ permits = Stays

pub move_legal : (t : Table) (made : Call) (answer : Reply) (u : Table) → Legal t made answer u → Move t u
move_legal t made answer u legal = subst (λ v. Move t v) (sym legal.1) (move_call t made answer legal.0)

move_freed : (t : Table) (key : Key) (o : Option Row) → row_of t key ≡ o → IsSomeAnd o Awaits → Move t (freed t key)
move_freed t key None at awaits = absurd awaits
move_freed t key (Some row) at awaits = Ends key row at awaits

pub move_frees : (t : Table) (key : Key) (u : Table) → Frees t key u → Move t u
move_frees t key u frees = subst (λ v. Move t v) (sym frees.1) (move_freed t key (row_of t key) refl frees.0)

pub move_event : (t : Table) (event : Event) (u : Table) → Happens t event u → Move t u
move_event t (Called made answer) u happens = move_legal t made answer u happens
move_event t (Freed key) u happens = move_frees t key u happens
