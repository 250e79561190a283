-- After a step the keys that wait for an actor's gc are those that its history left.
use Rattle.std.proofs.Common.{◌≡◌, ◌≢◌, ◌<◌, ◌≤◌, ◌-◌, ◌==◌, ◌&&◌, ◌/◌, ◌++◌, ◌⊎◌, append_assoc, inl, inr, ℕ, zero, suc, Bool, true, false, List, [], ◌∷◌, Option, None, Some, if◌then◌else◌, length, slice_index_or, refl, sym, ap, subst, ◌∙◌, arith}
use Rattle.std.specs.List.{All, AllByRecursion, Contains}
use Rattle.std.proofs.lemmas.List.Elements.{All-append, All-contains_itself, Contains-append_left}
use Rattle.std.proofs.lemmas.Option.{none-some, same_Some}
use Rattle.std.proofs.lemmas.Bool.{cases_eq, eq-eqb, ne_eqb, false≢true, true≢false}
use Rattle.life_limits.specs.declared.TheConstants.{GROUP_NUMBERS}
use Rattle.life_table.specs.declared.key.Key.{Key}
use Rattle.life_table.specs.declared.types.Call.{Call}
use Rattle.life_table.specs.declared.types.Call.TheVariants as call
use Rattle.life_table.specs.declared.types.Reply.{Reply}
use Rattle.life_table.specs.declared.types.Reply.TheVariants as reply
use Rattle.life_table.specs.declared.types.Event.{Event}
use Rattle.life_table.specs.declared.types.Event.TheVariants.{Called}
use Rattle.life_table.specs.declared.types.Entry.{Entry}
use Rattle.life_table.specs.declared.table.Table.{Table}
use Rattle.life_table.specs.Table.{inode_of, row_of}
use Rattle.life_table.specs.History.{IsHeld, after_entries, after_event, holds, key_of}
use Rattle.actor_world.specs.declared.memory.Place.{Place}
use Rattle.actor_world.specs.declared.memory.Place.TheVariants as place
use Rattle.actor_world.specs.declared.memory.Doing.{Doing}
use Rattle.actor_world.specs.declared.memory.Memory.{Memory}
use Rattle.actor_world.specs.Caches.{actor_at, cache_at, cached_word}
use Rattle.actor_world.specs.Moves.{is_awaiting_row, is_last_release, is_log_call, stands_at}
use Rattle.actor_world.specs.World.{History, told_if}
use Rattle.actor_world.specs.Words.{DueHolds, any_row, due_at, due_number}
use Rattle.actor_world.specs.Licence.{queue_after, queue_after_own, queue_at, queue_from}
use Rattle.actor_world.specs.Invariant.{DoingIsRight, HeadIsPassed, PartOfQueue, QueueIsRight, due_of_actor, due_of_doing, due_of_holder, first_key, is_gc, is_gc_call}
use Rattle.actor_world.specs.Settled.{IsPast, IsSettled}
use Rattle.actor_world.proofs.Holding.{two_hold}
use Rattle.actor_world.proofs.LegalSteps.{turn_by, turn_happens}
use Rattle.actor_world.proofs.Lists.{take_all, all_contains}
use Rattle.actor_world.proofs.LiveWords.{any_row_is}
use Rattle.actor_world.proofs.Prepares.{LowestIsFree}
use Rattle.actor_world.proofs.Settles.{by_holder, gone_past, past_gone, past_one}
use Rattle.actor_world.proofs.StepTurns.{TurnOf}
use Rattle.actor_world.proofs.Turns.{HeldWord, Turn, after_turn, changer_key, changes, frees_head, frees_one, is_answered, leaves, maker_group, makes, makes_none, next_empty, passes, passes_last, refuses, room_group, unpins}
use Rattle.actor_world.proofs.TurnsFound.{Laws, live_row, table_now}
use Rattle.actor_world.proofs.Within.{Within}
use Rattle.actor_world.proofs.WordSteps.{changed_row}
use Rattle.actor_world.proofs.WordTurns.{table_after}

-- ---- the queue that a history leaves, with one entry more

queue_push : (t : Table) (entries : List Entry) (entry : Entry) (b : ℕ) (keys : List Key)
    → queue_from t (entries ++ entry ∷ []) b keys ≡ queue_after b (after_event (after_entries t entries) entry.event) entry (queue_from t entries b keys)
queue_push t [] entry b keys = refl
queue_push t (first ∷ entries) entry b keys = queue_push (after_event t first.event) entries entry b (queue_after b (after_event t first.event) first keys)

whole_at : (start : Table) (entries : List Entry) (b : ℕ) → queue_at start entries (length entries) b ≡ queue_from start entries b []
whole_at start entries b = ap (λ es. queue_from start es b []) (take_all entries)

queue_more : (start : Table) (h : History) (a b : ℕ) (event : Event) → after_entries start h.entries ≡ h.table
    → queue_at start (h.entries ++ record { actor = a; event = event } ∷ []) (length (h.entries ++ record { actor = a; event = event } ∷ [])) b
    ≡ queue_after b (after_event h.table event) (record { actor = a; event = event }) (queue_at start h.entries (length h.entries) b)
queue_more start h a b event now =
    let entry : Entry = record { actor = a; event = event } in
    whole_at start (h.entries ++ entry ∷ []) b ∙ queue_push start h.entries entry b []
    ∙ ap (λ t. queue_after b (after_event t event) entry (queue_from start h.entries b [])) now
    ∙ ap (λ keys. queue_after b (after_event h.table event) entry keys) (sym (whole_at start h.entries b))

-- what the actor's own entry makes of its queue
abbrev pub own_after : Table → Option Event → List Key → List Key
own_after u None keys = keys
own_after u (Some event) keys = queue_after_own u event keys

pub own_whole : (start : Table) (h : History) (a begin : ℕ) (event : Option Event) → after_entries start h.entries ≡ h.table
    → queue_at start (told_if a begin event h).entries (length (told_if a begin event h).entries) a ≡ own_after (table_after h.table event) event (queue_at start h.entries (length h.entries) a)
own_whole start h a begin None now = refl
own_whole start h a begin (Some event) now =
    let whole : List Key = queue_at start h.entries (length h.entries) a in
    queue_more start h a a event now ∙ ap (λ (b : Bool). if b then queue_after_own (after_event h.table event) event whole else whole) (eq-eqb a a refl)

pub others_whole : (start : Table) (h : History) (a b begin : ℕ) (event : Option Event) → b ≢ a → after_entries start h.entries ≡ h.table
    → queue_at start (told_if a begin event h).entries (length (told_if a begin event h).entries) b ≡ queue_at start h.entries (length h.entries) b
others_whole start h a b begin None apart now = refl
others_whole start h a b begin (Some event) apart now =
    let whole : List Key = queue_at start h.entries (length h.entries) b in
    queue_more start h a b event now ∙ ap (λ (c : Bool). if c then queue_after_own (after_event h.table event) event whole else whole) (ne_eqb a b (λ e. apart (sym e)))

-- ---- keys that were passed

-- what is past stays so
pub past_on : Laws → LowestIsFree → (start : Table) (h : History) (m : Memory) (a : ℕ) (made : Call) (at : Place) (begin : ℕ) (q later : List Key) (event : Option Event) (next : Option Place) (memory : Memory)
    → TurnOf start h m a made at begin q event next later memory → (key : Key) → IsPast h.table key → IsPast (table_after h.table event) key
past_on laws lowest start h m a made at begin q later None next memory turn key past = past
past_on laws lowest start h m a made at begin q later (Some event) next memory turn key past =
    past_one laws lowest h.table event (table_now laws start h m turn.inv) (turn_happens turn.turn)
    (by_holder laws start h.table h.entries a event turn.inv.table turn.inv.legal (turn_by turn.turn h.entries turn.right.held)) key past

pub part_on : (t u : Table) → ((key : Key) → IsPast t key → IsPast u key) → (q whole : List Key) → AllByRecursion (IsSettled t) whole → PartOfQueue t q whole → PartOfQueue u q whole
part_on t u on q whole settled part = record {
  passed = part.passed;
  parts = part.parts;
  gone = λ k d low.
      let key : Key = slice_index_or part.passed k d in
      let there : Contains whole key = subst (λ ks. Contains ks key) (sym part.parts) (Contains-append_left part.passed q key (All-contains_itself part.passed k d low)) in
      past_gone u key (on key (gone_past t key (all_contains (IsSettled t) whole key settled there) (part.gone k d low)));
}

pub right_on : (b : Bool) (t u : Table) → ((key : Key) → IsPast t key → IsPast u key) → (q whole : List Key) → AllByRecursion (IsSettled t) whole → QueueIsRight b t q whole → QueueIsRight b u q whole
right_on true t u on q whole settled part = part_on t u on q whole settled part
right_on false t u on q whole settled is = is

-- ---- the last release

-- the mark of the word that a close finds tells the links, or others hold the key
same_mark : (t : Table) (m : Memory) (other key : Key) → Some other.number ≡ Some key.number → (cached_word m other.number).generation ≡ other.generation → HeldWord t m key → Some other ≡ Some key
same_mark t m other key is life held =
    let n = same_Some other.number key.number is in
    let g : other.generation ≡ key.generation = sym life ∙ ap (λ k. (cached_word m k).generation) n ∙ held.generation in
    (λ i. Some (record { number = n i; generation = g i }))

mark_of : (made : Call) (t : Table) (m : Memory) (first : Option Key) (at : Place) (key : Key) → due_number (due_at first made at) ≡ Some key.number → DueHolds made t m (due_at first made at)
    → HeldWord t m key → key_of made ≡ Some key
mark_of made t m first (place.InstallMade other) key is due held =
    absurd (true≢false (sym held.live ∙ ap (λ n. (cached_word m n).live) (sym (same_Some other.number key.number is)) ∙ due.1.dead))
mark_of (call.Link other) t m first (place.Mark answer) key is due held = same_mark t m other key is due.1.generation held
mark_of (call.Unlink other) t m first (place.Mark answer) key is due held = same_mark t m other key is due.1.generation held
mark_of made t m first (place.Kill other others) key is due held =
    absurd (none-some held.row (sym due.no_row ∙ ap (λ n. any_row (inode_of t n)) (same_Some other.number key.number is) ∙ any_row_is t key held.row held.row_is))
mark_of made t m (Some other) place.KillHead key is due held =
    absurd (none-some held.row (sym due.no_row ∙ ap (λ n. any_row (inode_of t n)) (same_Some other.number key.number is) ∙ any_row_is t key held.row held.row_is))
mark_of made t m first at key is due held = absurd (none-some key.number is)

module _ (laws : Laws) (start : Table) (h : History) (m : Memory) (inv : Within start h m) (a : ℕ) (key : Key) (held : HeldWord h.table m key) (holds_it : 0 < holds h.entries a key)
    (no_due : due_number (due_of_actor (actor_at m a)) ≡ None) where
  two_doing : (b : ℕ) → b ≢ a → (queue : List Key) (doing : Option Doing) → due_number (due_of_doing queue doing) ≡ Some key.number → DoingIsRight start h m b queue doing → 2 ≤ held.row.opens
  two_doing b apart queue None is right = absurd (none-some key.number is)
  two_doing b apart queue (Some d) is right =
      two_hold laws start h.entries h.table inv.table inv.legal a b key held.row apart holds_it
      (subst (λ (o : Option Key). IsHeld h.entries b o) (mark_of d.call h.table m (first_key queue) d.place key is right.due held) right.held) held.row_is

  two_holder : (holder : Option ℕ) → due_number (due_of_holder m holder) ≡ Some key.number → 2 ≤ held.row.opens
  two_holder None is = absurd (none-some key.number is)
  two_holder (Some b) is =
      elim (cases_eq b a) [
        | inl same ↦ absurd (none-some key.number (sym no_due ∙ ap (λ n. due_number (due_of_actor (actor_at m n))) (sym same) ∙ is))
        | inr apart ↦ two_doing b apart (actor_at m b).queue (actor_at m b).doing is (inv.actors b).doing
      ]

  mark_or_more : ((cached_word m key.number).unlinked ≡ (held.row.links == 0)) ⊎ (2 ≤ held.row.opens)
  mark_or_more =
      elim (inv.words key.number) [
        | inl due ↦ inr (two_holder (cache_at m (key.number / GROUP_NUMBERS)).holder due)
        | inr right ↦ inl (live_row h.table m key held.row held.row_is right held.live).1.mark
      ]

  same_ends : (pins opens : ℕ) (unlinked links : Bool) → pins ≡ opens → 1 ≤ opens → (unlinked ≡ links) ⊎ (2 ≤ opens) → ((pins == 1) && unlinked) ≡ (links && (opens - 1 == 0))
  same_ends pins opens unlinked links pins_is some (inl mark) =
      elim (cases_eq opens 1) [
        | inl one ↦
            ap (λ b. b && unlinked) (eq-eqb pins 1 (pins_is ∙ one)) ∙ mark ∙ sym (and_true links) ∙ ap (λ b. links && b) (sym (eq-eqb (opens - 1) 0 (omega (arith, one))))
        | inr more ↦
            ap (λ b. b && unlinked) (ne_eqb pins 1 (λ e. more (sym pins_is ∙ e))) ∙ sym (and_false links) ∙ ap (λ b. links && b) (sym (ne_eqb (opens - 1) 0 (λ e. omega (arith, e, more, some))))
      ]
    where
      and_true : (b : Bool) → (b && true) ≡ b
      and_true true = refl
      and_true false = refl

      and_false : (b : Bool) → (b && false) ≡ false
      and_false true = refl
      and_false false = refl
  same_ends pins opens unlinked links pins_is some (inr more) =
      ap (λ b. b && unlinked) (ne_eqb pins 1 (λ e. omega (arith, pins_is, more, e))) ∙ sym (and_none links) ∙ ap (λ b. links && b) (sym (ne_eqb (opens - 1) 0 (λ e. omega (arith, e, more))))
    where
      and_none : (b : Bool) → (b && false) ≡ false
      and_none true = refl
      and_none false = refl

  -- a close finds the last pin and the mark exactly where it leaves a row that awaits
  pub last_release : is_last_release (cached_word m key.number) ≡ is_awaiting_row (row_of (after_event h.table (Called (call.CloseKey key) reply.Done)) key)
  last_release =
      same_ends (cached_word m key.number).pins held.row.opens (cached_word m key.number).unlinked (held.row.links == 0) held.pins held.some mark_or_more
      ∙ ap is_awaiting_row (sym (changed_row h.table key held.row (call.CloseKey key) held.row_is))

-- ---- an own turn

is_plain : Call → Bool
is_plain (call.CloseKey key) = false
is_plain call.Gc = false
is_plain _ = true

plain_gc : (made : Call) → is_plain made ≡ true → is_gc_call made ≡ false
unfolding is_plain
plain_gc (call.CloseKey key) plain = refl
plain_gc call.Gc plain = absurd (false≢true plain)
plain_gc _ plain = refl

plain_keeps : (u : Table) (made : Call) (answer : Reply) (keys : List Key) → is_plain made ≡ true → queue_after_own u (Called made answer) keys ≡ keys
unfolding is_plain
plain_keeps u (call.CloseKey key) answer keys plain = absurd (false≢true plain)
plain_keeps u call.Gc answer keys plain = absurd (false≢true plain)
plain_keeps u _ answer keys plain = refl

changer_plain : (made : Call) (key : Key) → changer_key made ≡ Some key → is_plain made ≡ true
unfolding is_plain
changer_plain (call.Link other) key is = refl
changer_plain (call.Unlink other) key is = refl
changer_plain (call.Cut other count) key is = refl
changer_plain _ key is = absurd (none-some key is)

maker_plain : (made : Call) (g : ℕ) → maker_group made ≡ Some g → is_plain made ≡ true
unfolding is_plain
maker_plain (call.Create h) g is = refl
maker_plain (call.Tmpfile h) g is = refl
maker_plain _ g is = absurd (none-some g is)

room_plain : (made : Call) (g : ℕ) → room_group made ≡ Some g → is_plain made ≡ true
unfolding is_plain
room_plain (call.Create h) g is = refl
room_plain (call.Tmpfile h) g is = refl
room_plain (call.Grow key count) g is = refl
room_plain _ g is = absurd (none-some g is)

log_plain : (made : Call) → is_log_call made ≡ true → is_plain made ≡ true
unfolding is_plain
log_plain call.Sync is = refl
log_plain call.Home is = refl
log_plain _ is = absurd (false≢true is)

leave_gc : (made : Call) (answer : Reply) → stands_at made (place.Leave answer) ≡ true → is_gc_call made ≡ false
leave_gc call.Gc answer stands = absurd (false≢true stands)
leave_gc _ answer stands = refl

to_same : (b : Bool) (t : Table) (q whole : List Key) → b ≡ false → QueueIsRight b t q whole → q ≡ whole
to_same b t q whole none right = subst (λ c. QueueIsRight c t q whole) none right

from_same : (b : Bool) (t : Table) (q whole : List Key) → b ≡ false → q ≡ whole → QueueIsRight b t q whole
from_same b t q whole none same = subst (λ c. QueueIsRight c t q whole) (sym none) same

plain_on : (t u : Table) (made : Call) (answer : Reply) (q whole : List Key) → is_plain made ≡ true → QueueIsRight (is_gc_call made) t q whole → q ≡ queue_after_own u (Called made answer) whole
plain_on t u made answer q whole plain right = to_same (is_gc_call made) t q whole (plain_gc made plain) right ∙ sym (plain_keeps u made answer whole plain)

pub own_queue : {t : Table} {m : Memory} {a : ℕ} {made : Call} {at : Place} {q later : List Key} {event : Option Event} {next : Option Place} {memory : Memory} (begin : ℕ) (whole : List Key)
    → stands_at made at ≡ true → (PartOfQueue t q whole → PartOfQueue (table_after t event) q whole) → (at ≡ place.Pass → HeadIsPassed t (first_key q))
    → ((key : Key) → made ≡ call.CloseKey key → at ≡ place.Unpin → HeldWord t m key → is_last_release (cached_word m key.number) ≡ is_awaiting_row (row_of (after_event t (Called (call.CloseKey key) reply.Done)) key))
    → QueueIsRight (is_gc_call made) t q whole → Turn t m a made at q event next later memory
    → QueueIsRight (is_gc (after_turn made begin next later).doing) (table_after t event) later (own_after (table_after t event) event whole)
own_queue {q = q} begin whole stands on passed last right (unpins key held) = λ i. if last key refl refl held i then right i ++ key ∷ [] else right i
own_queue begin whole stands on passed last right next_empty = refl
own_queue begin whole stands on passed last right (passes_last key) = refl
own_queue {t = t} begin whole stands on passed last right (passes key onward keys) = record {
  passed = right.passed ++ key ∷ [];
  parts = right.parts ∙ sym (append_assoc right.passed (key ∷ []) (onward ∷ keys));
  gone = All-append (λ (k : Key). row_of t k ≡ None) right.passed (key ∷ []) right.gone (λ k d low. one_gone t key (passed refl) k d low);
}
  where
    one_gone : (t : Table) (key : Key) → row_of t key ≡ None → All (λ (k : Key). row_of t k ≡ None) (key ∷ [])
    one_gone t key gone zero d low = gone
    one_gone t key gone (suc k) d low = absurd (omega (arith, low))
own_queue begin whole stands on passed last right (frees_head key keys awaits) = on right
own_queue {t = t} {q = q} {event = event} begin whole stands on passed last right (frees_one made g key others is group awaits) =
    let none = plain_gc made (room_plain made g is) in from_same (is_gc_call made) (table_after t event) q whole none (to_same (is_gc_call made) t q whole none right)
own_queue {t = t} {q = q} begin whole stands on passed last right (leaves made answer g is) = to_same (is_gc_call made) t q whole (leave_gc made answer stands) right
own_queue {t = t} {q = q} {event = event} begin whole stands on passed last right (refuses made key answer is permits none) =
    from_same (is_gc_call made) (table_after t event) q _ (plain_gc made (changer_plain made key is)) (plain_on t (table_after t event) made answer q whole (changer_plain made key is) right)
own_queue {t = t} {q = q} {event = event} begin whole stands on passed last right (changes made key is permits) =
    from_same (is_gc_call made) (table_after t event) q _ (plain_gc made (changer_plain made key is)) (plain_on t (table_after t event) made reply.Done q whole (changer_plain made key is) right)
own_queue {t = t} {q = q} {event = event} begin whole stands on passed last right (makes made g key is permits) =
    from_same (is_gc_call made) (table_after t event) q _ (plain_gc made (maker_plain made g is)) (plain_on t (table_after t event) made (reply.Made key) q whole (maker_plain made g is) right)
own_queue {t = t} {q = q} {event = event} begin whole stands on passed last right (makes_none made g is permits) =
    from_same (is_gc_call made) (table_after t event) q _ (plain_gc made (maker_plain made g is)) (plain_on t (table_after t event) made reply.NoInodes q whole (maker_plain made g is) right)
own_queue {t = t} {q = q} {event = event} begin whole stands on passed last right (is_answered made at answer is here permits) = plain_on t (table_after t event) made answer q whole (log_plain made is) right
own_queue begin whole stands on passed last right _ = right
