-- What is left of a whole call at each of its places, in terms of whole lines; a turn leaves it.
use Rattle.std.proofs.Common.{◌≡◌, ◌<◌, ◌+◌, ◌++◌, ℕ, true, false, List, [], ◌∷◌, Option, None, Some, is_some, if◌then◌else◌, length, slice_index_or, slice_set, refl, sym, ap, subst, ◌∙◌, arith}
use Rattle.std.proofs.lemmas.List.{set-get_or}
use Rattle.std.proofs.lemmas.Option.{none-some, same_Some}
use Rattle.std.proofs.lemmas.Bool.{true≢false}
use Rattle.life_table.specs.declared.key.Key.{Key}
use Rattle.life_table.specs.declared.types.Row.{Row}
use Rattle.life_table.specs.declared.types.Call.{Call}
use Rattle.life_table.specs.declared.types.Call.TheVariants as call
use Rattle.life_table.specs.declared.types.Reply.{Reply}
use Rattle.life_table.specs.declared.types.Reply.TheVariants as reply
use Rattle.life_table.specs.declared.types.Event.{Event}
use Rattle.life_table.specs.declared.types.Event.TheVariants.{Called}
use Rattle.life_table.specs.declared.table.Table.{Table}
use Rattle.life_table.specs.Table.{row_of}
use Rattle.life_table.specs.Legal.{Awaits, Permits, after_call, freed}
use Rattle.life_table.specs.Replies.{reply_of}
use Rattle.life_table.specs.History.{changed, is_change}
use Rattle.actor_world.specs.declared.memory.Place.{Place}
use Rattle.actor_world.specs.declared.memory.Place.TheVariants as place
use Rattle.actor_world.specs.declared.memory.Memory.{Memory}
use Rattle.actor_world.specs.Caches.{cached_word}
use Rattle.actor_world.specs.Moves.{awaiting_of, is_awaiting_row, is_last_release, is_log_call, is_mark_due, is_short, links_of, rows_to_free, with_inodes, with_rows_to_free}
use Rattle.actor_world.specs.Lines.{LineResult, LinesState, answered_line, by_table, closed_line, free_row, free_rows, gc_line, line, made_room}
use Rattle.actor_world.proofs.EntrySteps.{EndTurn, Gets, Had, end_turn}
use Rattle.actor_world.proofs.LegalSteps.{turn_happens}
use Rattle.actor_world.proofs.Lists.{read_same, set_twice, the_some}
use Rattle.actor_world.proofs.Turns.{HeldWord, Turn, changes, ends_flush, ends_reclaim, finds_none, frees_head, frees_one, goes_on, grow_refuses, grows, installs, is_answered, kills, leaves, load_crowded, load_stale, locked_crowded, locked_stale, locks_reclaim, locks_short, makes, makes_none, next_empty, next_none, passes, passes_last, pins, pins_locked, reads, refuses, retires, retires_none, room_group, unpins}
use Rattle.actor_world.proofs.WordTurns.{table_after}

abbrev pub lines_at : Table → List (List Key) → ℕ → LinesState
lines_at t queues n = record { table = t; queues = queues; changes = n }

abbrev pub tail_of : List Key → List Key
tail_of [] = []
tail_of (key ∷ keys) = keys

-- what is left of a gc that has freed the head of its queue
abbrev pub gc_rest : ℕ → LinesState → LineResult
gc_rest a s = record { reply = reply.Done; state = free_rows (tail_of (slice_index_or s.queues a [])) (record s { queues = slice_set s.queues a [] }) }

abbrev pub answered_rest : Reply → LinesState → LineResult
answered_rest answer s = record { reply = answer; state = s }

-- what is left of a call at a place
abbrev pub rest : ℕ → Call → Place → LinesState → LineResult
rest a made place.Unpin s = line a made s
rest a made place.LockShort s = line a made s
rest a made (place.Free key others) s = by_table made (free_rows (key ∷ others) s)
rest a made (place.Kill key others) s = by_table made (free_rows others s)
rest a made (place.Leave answer) s = answered_rest answer s
rest a made (place.Mark answer) s = answered_rest answer s
rest a made (place.InstallMade key) s = answered_rest (reply.Made key) s
rest a made place.Next s = gc_line a s
rest a made place.FreeHead s = gc_line a s
rest a made place.KillHead s = gc_rest a s
rest a made place.Pass s = gc_rest a s
rest a made _ s = by_table made s

abbrev pub changes_after : ℕ → Option Event → ℕ
changes_after n None = n
changes_after n (Some event) = n + (if is_change event then 1 else 0)

-- the state after a turn
abbrev pub lines_after : Table → List (List Key) → ℕ → ℕ → Option Event → List Key → LinesState
lines_after t queues n a event later = lines_at (table_after t event) (slice_set queues a later) (changes_after n event)

-- What a turn rests on: the queue is the actor's, and what the call is answered is what the table says.
pub record LineFacts (t : Table) (m : Memory) (queues : List (List Key)) (a : ℕ) (made : Call) (q : List Key) : Type 0 where
  pub low : a < length queues
  pub queue : slice_index_or queues a [] ≡ q
  pub group_call : is_log_call made ≡ false
  pub one : (answer : Reply) → Permits t made answer → reply_of t made ≡ answer
  pub last : (key : Key) → made ≡ call.CloseKey key → HeldWord t m key → is_last_release (cached_word m key.number) ≡ is_awaiting_row (row_of (after_call t (call.CloseKey key) reply.Done) key)

rows_rest : (a : ℕ) (made : Call) (keys : List Key) (s : LinesState) → rest a made (with_rows_to_free keys) s ≡ by_table made (free_rows keys s)
rows_rest a made [] s = refl
rows_rest a made (key ∷ keys) s = refl

inodes_rest : (a : ℕ) (made : Call) (numbers : List ℕ) (s : LinesState) → rest a made (with_inodes numbers) s ≡ by_table made s
inodes_rest a made [] s = refl
inodes_rest a made (number ∷ numbers) s = refl

short_line : (a : ℕ) (made : Call) (g : ℕ) (s : LinesState) → room_group made ≡ Some g → line a made s ≡ by_table made (made_room made g s)
short_line a (call.Create h) g s is = ap (λ n. by_table (call.Create h) (made_room (call.Create h) n s)) (same_Some h g is)
short_line a (call.Tmpfile h) g s is = ap (λ n. by_table (call.Tmpfile h) (made_room (call.Tmpfile h) n s)) (same_Some h g is)
short_line a (call.Grow key count) g s is = ap (λ n. by_table (call.Grow key count) (made_room (call.Grow key count) n s)) (same_Some _ g is)
short_line a _ g s is = absurd (none-some g is)

-- a row that is there is freed; one that is not is passed over
freed_is : (key : Key) (s : LinesState) (row : Row) → row_of s.table key ≡ Some row → free_row key s ≡ record s { table = freed s.table key; changes = s.changes + 1 }
freed_is key s row is = ap (λ (o : Option Row). if is_some o then record s { table = freed s.table key; changes = s.changes + 1 } else s) is

passed_is : (key : Key) (s : LinesState) → row_of s.table key ≡ None → free_row key s ≡ s
passed_is key s is = ap (λ (o : Option Row). if is_some o then record s { table = freed s.table key; changes = s.changes + 1 } else s) is

module _ (t : Table) (m : Memory) (queues : List (List Key)) (n a : ℕ) (made : Call) (q : List Key) (facts : LineFacts t m queues a made q) where
  same_queues : slice_set queues a q ≡ queues
  same_queues = ap (λ x. slice_set queues a x) (sym facts.queue) ∙ set-get_or queues a []

  quiet : (f : LinesState → LineResult) → f (lines_at t (slice_set queues a q) n) ≡ f (lines_at t queues n)
  quiet f = ap (λ qs. f (lines_at t qs n)) same_queues

  -- a call that is answered now
  told_line : (answer : Reply) → Permits t made answer → answered_rest answer (lines_after t queues n a (Some (Called made answer)) q) ≡ by_table made (lines_at t queues n)
  told_line answer permits =
      ap (λ qs. answered_rest answer (lines_at (after_call t made answer) qs (n + (if changed made answer then 1 else 0)))) same_queues
      ∙ ap (λ r. answered_rest r (lines_at (after_call t made r) queues (n + (if changed made r then 1 else 0)))) (sym (facts.one answer permits))

  none_more : n + 0 ≡ n
  none_more = omega arith

-- what a turn answers was permitted
pub permits_of : {t : Table} {m : Memory} {a : ℕ} {made : Call} {at : Place} {q later : List Key} {event : Option Event} {next : Option Place} {memory : Memory}
    → Turn t m a made at q event next later memory → (answer : Reply) → event ≡ Some (Called made answer) → Permits t made answer
permits_of {t = t} {m = m} {a = a} {made = made} {at = at} {q = q} {later = later} {next = next} {memory = memory} turn answer is =
    (turn_happens (subst (λ e. Turn t m a made at q e next later memory) is turn)).0

-- at a turn after which the call goes on
pub goes_rest : {t : Table} {m : Memory} {a : ℕ} {made : Call} {at : Place} {q later : List Key} {event : Option Event} {onward : Place} {memory : Memory} (queues : List (List Key)) (n : ℕ)
    → LineFacts t m queues a made q → ((answer : Reply) → event ≡ Some (Called made answer) → Permits t made answer) → Turn t m a made at q event (Some onward) later memory
    → rest a made onward (lines_after t queues n a event later) ≡ rest a made at (lines_at t queues n)
goes_rest {t = t} {m = m} {a = a} {made = made} {q = q} queues n facts permits (finds_none key can is) = told_line t m queues n a made q facts reply.Stale (permits reply.Stale refl)
goes_rest {t = t} {m = m} {a = a} {made = made} {q = q} queues n facts permits (locked_crowded key row is full) = told_line t m queues n a made q facts reply.Crowded (permits reply.Crowded refl)
goes_rest {t = t} {m = m} {a = a} {made = made} {q = q} queues n facts permits (locked_stale key row is awaits) = told_line t m queues n a made q facts reply.Stale (permits reply.Stale refl)
goes_rest {t = t} {m = m} {a = a} {made = made} {q = q} queues n facts permits (pins_locked key seen o) = told_line t m queues n a made q facts reply.Done (permits reply.Done refl)
goes_rest {t = t} {m = m} {a = a} {made = made} {q = q} queues n facts permits (installs key dead has) = told_line t m queues n a made q facts reply.Done (permits reply.Done refl)
goes_rest {t = t} {m = m} {a = a} {made = made} {q = q} queues n facts permits (reads key answer can permitted) = told_line t m queues n a made q facts answer permitted
goes_rest {t = t} {m = m} {a = a} {q = q} queues n facts permits (refuses made key answer is permitted none) = told_line t m queues n a made q facts answer permitted
goes_rest {t = t} {m = m} {a = a} {q = q} {event = event} queues n facts permits (changes made key is permitted) =
    elim (is_mark_due made reply.Done (links_of (row_of t key))) as (λ b. rest a made (if b then place.Mark reply.Done else place.Leave reply.Done) (lines_after t queues n a event q) ≡ by_table made (lines_at t queues n)) [
      | true ↦ told_line t m queues n a made q facts reply.Done permitted
      | false ↦ told_line t m queues n a made q facts reply.Done permitted
    ]
goes_rest {t = t} {m = m} {a = a} {made = made} {q = q} queues n facts permits (grow_refuses key count answer permitted none) = told_line t m queues n a made q facts answer permitted
goes_rest {t = t} {m = m} {a = a} {made = made} {q = q} queues n facts permits (grows key count permitted) = told_line t m queues n a made q facts reply.Done permitted
goes_rest {t = t} {m = m} {a = a} {q = q} queues n facts permits (makes made g key is permitted) = told_line t m queues n a made q facts (reply.Made key) permitted
goes_rest {t = t} {m = m} {a = a} {q = q} queues n facts permits (makes_none made g is permitted) = told_line t m queues n a made q facts reply.NoInodes permitted
goes_rest {t = t} {m = m} {a = a} {q = q} queues n facts permits (locks_short made g is can) =
    let s : LinesState = lines_at t queues n in
    ap (λ qs. rest a made (with_rows_to_free (rows_to_free made g t)) (lines_at t qs n)) (same_queues t m queues n a made q facts)
    ∙ rows_rest a made (rows_to_free made g t) s
    ∙ elim (is_short t made) as (λ b. by_table made (free_rows (if b then awaiting_of t g else []) s) ≡ by_table made (if b then free_rows (awaiting_of t g) s else s)) [ true ↦ refl | false ↦ refl ]
    ∙ sym (short_line a made g s is)
goes_rest {t = t} {m = m} {a = a} {q = q} queues n facts permits (frees_one made g key others is group awaits) =
    let row = the_some Awaits (row_of t key) awaits in
    ap (λ qs. by_table made (free_rows others (lines_at (freed t key) qs (n + 1)))) (same_queues t m queues n a made q facts)
    ∙ ap (λ s. by_table made (free_rows others s)) (sym (freed_is key (lines_at t queues n) row.0 row.1))
goes_rest {t = t} {m = m} {a = a} {q = q} queues n facts permits (kills made g key others is due) =
    rows_rest a made others (lines_at t (slice_set queues a q) n) ∙ quiet t m queues n a made q facts (λ s. by_table made (free_rows others s))
goes_rest {t = t} {m = m} {a = a} {made = made} {q = q} queues n facts permits (next_none key keys can is) =
    quiet t m queues n a made q facts (λ s. gc_rest a s)
    ∙ ap (λ ks. record { reply = reply.Done; state = free_rows (tail_of ks) (lines_at t (slice_set queues a []) n) }) facts.queue
    ∙ ap (λ s. record { reply = reply.Done; state = free_rows keys s }) (sym (passed_is key (lines_at t (slice_set queues a []) n) is))
    ∙ ap (λ ks. record { reply = reply.Done; state = free_rows ks (lines_at t (slice_set queues a []) n) }) (sym facts.queue)
goes_rest {t = t} {m = m} {a = a} {made = made} {q = q} queues n facts permits (frees_head key keys awaits) =
    let row = the_some Awaits (row_of t key) awaits in
    ap (λ qs. gc_rest a (lines_at (freed t key) qs (n + 1))) (same_queues t m queues n a made q facts)
    ∙ ap (λ ks. record { reply = reply.Done; state = free_rows (tail_of ks) (lines_at (freed t key) (slice_set queues a []) (n + 1)) }) facts.queue
    ∙ ap (λ s. record { reply = reply.Done; state = free_rows keys s }) (sym (freed_is key (lines_at t (slice_set queues a []) n) row.0 row.1))
    ∙ ap (λ ks. record { reply = reply.Done; state = free_rows ks (lines_at t (slice_set queues a []) n) }) (sym facts.queue)
goes_rest {t = t} {m = m} {a = a} {made = made} {q = q} queues n facts permits (passes key onward keys) =
    ap (λ ks. record { reply = reply.Done; state = free_rows ks (lines_at t (slice_set (slice_set queues a (onward ∷ keys)) a []) n) }) (read_same queues a (onward ∷ keys) [] facts.low)
    ∙ ap (λ qs. record { reply = reply.Done; state = free_rows (onward ∷ keys) (lines_at t qs n) }) (set_twice queues a (onward ∷ keys) [])
    ∙ ap (λ ks. record { reply = reply.Done; state = free_rows (tail_of ks) (lines_at t (slice_set queues a []) n) }) (sym facts.queue)
goes_rest {t = t} {m = m} {a = a} {made = made} {q = q} queues n facts permits (locks_reclaim g can) =
    inodes_rest a made _ (lines_at t (slice_set queues a q) n) ∙ quiet t m queues n a made q facts (λ s. by_table made s)
goes_rest {t = t} {m = m} {a = a} {made = made} {q = q} queues n facts permits (retires g number others idle) =
    inodes_rest a made others (lines_at t (slice_set queues a q) n) ∙ quiet t m queues n a made q facts (λ s. by_table made s)
goes_rest {t = t} {m = m} {a = a} {made = made} {q = q} queues n facts permits (retires_none g number others busy) =
    inodes_rest a made others (lines_at t (slice_set queues a q) n) ∙ quiet t m queues n a made q facts (λ s. by_table made s)
goes_rest {t = t} {m = m} {a = a} {q = q} queues n facts permits (goes_on made at onward is stands stands_next) = absurd (true≢false (sym is ∙ facts.group_call))
goes_rest {t = t} {m = m} {a = a} {made = made} {at = at} {q = q} queues n facts permits _ = quiet t m queues n a made q facts (λ s. rest a made at s)

-- the reply of a call that ends
abbrev pub reply_in : {made : Call} {was : Option Reply} {event : Option Event} → EndTurn made was event → Reply
reply_in (Had answer is) = answer
reply_in (Gets answer none) = answer

-- at the turn that ends it
pub ends_rest : {t : Table} {m : Memory} {a : ℕ} {made : Call} {at : Place} {q later : List Key} {event : Option Event} {memory : Memory} (queues : List (List Key)) (n : ℕ)
    → LineFacts t m queues a made q → ((answer : Reply) → event ≡ Some (Called made answer) → Permits t made answer) → (turn : Turn t m a made at q event None later memory)
    → answered_rest (reply_in (end_turn turn)) (lines_after t queues n a event later) ≡ rest a made at (lines_at t queues n)
unfolding end_turn
ends_rest {t = t} {m = m} {a = a} {made = made} {q = q} queues n facts permits (load_crowded key row is full) = told_line t m queues n a made q facts reply.Crowded (permits reply.Crowded refl)
ends_rest {t = t} {m = m} {a = a} {made = made} {q = q} queues n facts permits (load_stale key is) = told_line t m queues n a made q facts reply.Stale (permits reply.Stale refl)
ends_rest {t = t} {m = m} {a = a} {made = made} {q = q} queues n facts permits (pins key seen o) = told_line t m queues n a made q facts reply.Done (permits reply.Done refl)
ends_rest {t = t} {m = m} {a = a} {q = q} queues n facts permits (leaves made answer g is) = quiet t m queues n a made q facts (λ s. answered_rest answer s)
ends_rest {t = t} {m = m} {a = a} {made = made} {q = q} queues n facts permits (unpins key held) =
    let u : Table = after_call t (call.CloseKey key) reply.Done in
    let s : LinesState = lines_at t queues n in
    ap (λ b. answered_rest reply.Done (lines_at u (slice_set queues a (if b then q ++ key ∷ [] else q)) (n + 0))) (facts.last key refl held)
    ∙ elim (is_awaiting_row (row_of u key)) as (λ b. answered_rest reply.Done (lines_at u (slice_set queues a (if b then q ++ key ∷ [] else q)) (n + 0))
    ≡ (if b then answered_rest reply.Done (lines_at u (slice_set queues a (slice_index_or queues a [] ++ key ∷ [])) (n + 0)) else answered_rest reply.Done (lines_at u queues (n + 0)))) [
      | true ↦ ap (λ ks. answered_rest reply.Done (lines_at u (slice_set queues a (ks ++ key ∷ [])) (n + 0))) (sym facts.queue)
      | false ↦ ap (λ qs. answered_rest reply.Done (lines_at u qs (n + 0))) (same_queues t m queues n a made q facts)
    ]
    ∙ ap (λ r. closed_line a key (answered_line (call.CloseKey key) r s)) (sym (facts.one reply.Done (permits reply.Done refl)))
ends_rest {t = t} {m = m} {a = a} {made = made} {q = q} queues n facts permits next_empty =
    ap (λ k. answered_rest reply.Done (lines_at t (slice_set queues a []) k)) (none_more t m queues n a made q facts)
    ∙ ap (λ ks. record { reply = reply.Done; state = free_rows ks (lines_at t (slice_set queues a []) n) }) (sym facts.queue)
ends_rest {t = t} {m = m} {a = a} {made = made} {q = q} queues n facts permits (passes_last key) =
    ap (λ k. answered_rest reply.Done (lines_at t (slice_set queues a []) k)) (none_more t m queues n a made q facts)
    ∙ ap (λ ks. record { reply = reply.Done; state = free_rows (tail_of ks) (lines_at t (slice_set queues a []) n) }) (sym facts.queue)
ends_rest {t = t} {m = m} {a = a} {made = made} {q = q} queues n facts permits (ends_flush g) = told_line t m queues n a made q facts reply.Done (permits reply.Done refl)
ends_rest {t = t} {m = m} {a = a} {made = made} {q = q} queues n facts permits (ends_reclaim g) = told_line t m queues n a made q facts reply.Done (permits reply.Done refl)
ends_rest {t = t} {m = m} {a = a} {q = q} queues n facts permits (is_answered made at answer is stands permitted) = absurd (true≢false (sym is ∙ facts.group_call))
