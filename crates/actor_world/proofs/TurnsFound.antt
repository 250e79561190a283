-- The turns of opens, closes and stats: how each move of theirs goes.
use Rattle.std.proofs.Common.{◌≡◌, ◌<◌, ◌≤◌, ◌==◌, ◌&&◌, inl, inr, ℕ, true, false, not, List, Option, None, Some, IfSome, nat_lt, refl, sym, ap, subst, ◌∙◌, arith}
use Rattle.std.specs.Cmp.Derive.{both_true}
use Rattle.std.proofs.lemmas.Option.{same_Some}
use Rattle.std.proofs.lemmas.Bool.{and_parts, cases_Bool, cases_lt, eq-eqb, eqb-true, true≢false}
use Rattle.life_limits.specs.declared.TheConstants.{MAX_PINS}
use Rattle.life_table.specs.declared.key.Key.{Key}
use Rattle.life_table.specs.declared.types.Row.{Row}
use Rattle.life_table.specs.declared.types.Call.{Call}
use Rattle.life_table.specs.declared.types.Event.{Event}
use Rattle.life_table.specs.declared.types.Entry.{Entry}
use Rattle.life_table.specs.declared.table.Table.{Table}
use Rattle.life_table.specs.Table.{inode_of, row_of}
use Rattle.life_table.specs.Legal.{Awaits, CanMake, IsOfTable, IsOpen, Permits}
use Rattle.life_table.specs.Replies.{reply_of}
use Rattle.life_table.specs.History.{LegalHistory, Leads, holds}
use Rattle.life_table.specs.WellFormed.{IsRow, IsTable}
use Rattle.slot_words.specs.declared.word.Word.{Word}
use Rattle.slot_words.specs.Steps.{can_open, is_awaiting, is_cached, is_crowded}
use Rattle.actor_world.specs.declared.memory.Place.{Place}
use Rattle.actor_world.specs.declared.memory.Memory.{Memory}
use Rattle.actor_world.specs.Caches.{actor_at, cached_word, ended, is_of_geometry, moved_to, with_actor}
use Rattle.actor_world.specs.World.{History}
use Rattle.actor_world.specs.Words.{DeadSays, LiveSays, WordSays, any_row, says}
use Rattle.actor_world.proofs.Geometry.{IsPlaced, is_placed}
use Rattle.actor_world.proofs.Lists.{the_some}
use Rattle.actor_world.proofs.LiveWords.{any_row_is, has_inode, one_life}
use Rattle.actor_world.proofs.Sights.{SeesOther, cached_is, is_cached_as}
use Rattle.actor_world.proofs.Turns.{DeadRow, HasSlot, Turn, Turned}
use Rattle.actor_world.proofs.Within.{Within}

-- The laws of the model that are used.
pub record Laws : Type 0 where
  pub computed : (t : Table) (called : Call) → IsOfTable called → CanMake t called → Permits t called (reply_of t called)
  pub history : (t u : Table) (entries : List Entry) → IsTable t → Leads t entries u → IsTable u
  pub limits : (t : Table) (key : Key) (row : Row) → IsTable t → row_of t key ≡ Some row → IsRow key.generation row
  pub held : (t u : Table) (entries : List Entry) (actor : ℕ) (key : Key) → IsTable t → LegalHistory t entries u → 0 < holds entries actor key → IsOpen (row_of u key)

pub table_now : Laws → (start : Table) (h : History) (m : Memory) → Within start h m → IsTable h.table
table_now laws start h m inv = laws.history start h.table h.entries inv.table inv.legal.leads

-- ---- a move as a turn

-- the call goes on at another place
pub goes : {t : Table} {m : Memory} {a : ℕ} {made : Call} {at : Place} {begin : ℕ} {queue : List Key}
    → (event : Option Event) (next : Place) (memory : Memory) → Turn t m a made at queue event (Some next) queue memory → (actor_at memory a).queue ≡ queue
    → Turned t m a made at begin queue (record { event = event; memory = moved_to a (record { call = made; place = at; «from» = begin }) next memory })
goes {a = a} {made = made} {at = at} {begin = begin} {queue = queue} event next memory turn queue_is = record {
  event = event;
  next = Some next;
  later = queue;
  memory = memory;
  turn = turn;
  event_is = refl;
  memory_is = ap (λ (q : List Key). with_actor a (record { doing = Some (record { call = made; place = next; «from» = begin }); queue = q }) memory) queue_is;
}

-- the call ends
pub ends : {t : Table} {m : Memory} {a : ℕ} {made : Call} {at : Place} {begin : ℕ} {queue : List Key}
    → (event : Option Event) (memory : Memory) → Turn t m a made at queue event None queue memory → (actor_at memory a).queue ≡ queue
    → Turned t m a made at begin queue (record { event = event; memory = ended a memory })
ends {a = a} {queue = queue} event memory turn queue_is = record {
  event = event;
  next = None;
  later = queue;
  memory = memory;
  turn = turn;
  event_is = refl;
  memory_is = ap (λ (q : List Key). with_actor a (record { doing = None; queue = q }) memory) queue_is;
}

-- ---- rows

-- a key whose number is not of the geometry has no row
pub no_row : (t : Table) (key : Key) → IsTable t → is_of_geometry t key.number ≡ false → (o : Option Row) → row_of t key ≡ o → o ≡ None
no_row t key ok outside None is = refl
no_row t key ok outside (Some row) is =
    let has = has_inode (inode_of t key.number) key.generation row is in
    let placed = is_placed t key.number has.inode ok has.at in
    let inside : is_of_geometry t key.number ≡ true = grind (arith, placed.group, placed.sector) in
    absurd (true≢false (sym inside ∙ outside))

pub row_has_slot : (t : Table) (m : Memory) (key : Key) (row : Row) → IsTable t → row_of t key ≡ Some row → (IsPlaced t key.number → HasSlot m key.number) → HasSlot m key.number
row_has_slot t m key row ok is slot =
    let has = has_inode (inode_of t key.number) key.generation row is in
    slot (is_placed t key.number has.inode ok has.at)

-- the row of a key whose word is right and not live
pub dead_row : (t : Table) (m : Memory) (key : Key) (row : Row) → row_of t key ≡ Some row → WordSays t (cached_word m key.number) key.number
    → (cached_word m key.number).live ≡ false → DeadRow t m key
dead_row t m key row is right dead =
    let says_dead : IfSome (any_row (inode_of t key.number)) DeadSays = subst (λ b. says b t (cached_word m key.number) key.number) dead right in
    let of_row : DeadSays row = subst (λ (o : Option Row). IfSome o DeadSays) (any_row_is t key row is) says_dead in
    record { row = row; row_is = is; links = of_row.links; opens = of_row.opens; dead = dead }

-- what a live word of a key with a row says, where it is right
pub live_row : (t : Table) (m : Memory) (key : Key) (row : Row) → row_of t key ≡ Some row → WordSays t (cached_word m key.number) key.number
    → (cached_word m key.number).live ≡ true → ((cached_word m key.number).generation ≡ key.generation) × LiveSays (cached_word m key.number) row
live_row t m key row is right live =
    let some = the_some (LiveSays (cached_word m key.number)) _ (subst (λ b. says b t (cached_word m key.number) key.number) live right) in
    let life = one_life t key.number (cached_word m key.number).generation key.generation some.0 row some.1 is in
    let same : some.0 ≡ row = same_Some some.0 row (sym some.1 ∙ ap (λ g. row_of t (record { number = key.number; generation = g })) life ∙ is) in
    (life, subst (LiveSays (cached_word m key.number)) same some.2)

-- a right word that shows nothing else of a key with a row is not live
pub not_live : Laws → (t : Table) (m : Memory) (key : Key) (row : Row) → IsTable t → row_of t key ≡ Some row → WordSays t (cached_word m key.number) key.number
    → SeesOther key.generation (cached_word m key.number) → (cached_word m key.number).live ≡ false
not_live laws t m key row ok is right other =
    elim (cases_Bool (cached_word m key.number).live) [
      | inr dead ↦ dead
      | inl live ↦
          let says_live = live_row t m key row is right live in
          let word : Word = cached_word m key.number in
          let cached : is_cached key.generation word ≡ true = is_cached_as key.generation word (record { live = live; generation_is = says_live.0 }) in
          let limit : row.opens ≤ MAX_PINS = (laws.limits t key row ok is).opens in
          let pins : word.pins ≡ row.opens = says_live.1.pins in
          elim (cases_lt word.pins MAX_PINS) [
            | inl few ↦
                let test : nat_lt word.pins MAX_PINS ≡ true = grind (arith, few) in
                let can : can_open key.generation word ≡ true = both_true (both_true cached test) (ap not other.awaits) in
                absurd (true≢false (sym can ∙ other.open_))
            | inr many ↦
                let full : (word.pins == MAX_PINS) ≡ true = eq-eqb word.pins MAX_PINS (omega (arith, limit, pins, many)) in
                let is_full : is_crowded key.generation word ≡ true = rw (cached, full) in
                absurd (true≢false (sym is_full ∙ other.crowded))
          ]
    ]

-- a right word that awaits is of a row that does
pub awaits_row : (t : Table) (m : Memory) (key : Key) (row : Row) → row_of t key ≡ Some row → WordSays t (cached_word m key.number) key.number
    → is_awaiting key.generation (cached_word m key.number) ≡ true → Awaits row
awaits_row t m key row is right awaiting =
    let word : Word = cached_word m key.number in
    let outer = and_parts (is_cached key.generation word && word.unlinked) (word.pins == 0) awaiting in
    let inner = and_parts (is_cached key.generation word) word.unlinked outer.0 in
    let says_live = live_row t m key row is right (cached_is key.generation word inner.0).live in
    let unpinned : word.pins ≡ 0 = eqb-true word.pins 0 outer.1 in
    let none : row.links ≡ 0 = eqb-true row.links 0 (sym says_live.1.mark ∙ inner.1) in
    (none, sym says_live.1.pins ∙ unpinned)
