-- A step leads from a world that meets the invariant to one that does.
use Rattle.std.proofs.Common.{◌≡◌, ◌≢◌, ◌<◌, ◌≤◌, ◌/◌, inl, inr, ℕ, true, List, [], ◌∷◌, ◌++◌, Option, None, Some, length, refl, sym, ap, subst, ◌∙◌}
use Rattle.std.specs.Prelude.{◌↔◌}
use Rattle.std.specs.List.{AllByRecursion}
use Rattle.std.proofs.lemmas.Option.{none-some, same_Some}
use Rattle.std.proofs.lemmas.Bool.{cases_eq}
use Rattle.std.proofs.lemmas.List.{take-append-le}
use Rattle.life_limits.specs.declared.TheConstants.{GROUP_NUMBERS}
use Rattle.life_table.specs.declared.key.Key.{Key}
use Rattle.life_table.specs.declared.types.Call.{Call}
use Rattle.life_table.specs.declared.types.Call.TheVariants as call
use Rattle.life_table.specs.declared.types.Reply.TheVariants as reply
use Rattle.life_table.specs.declared.types.Event.{Event}
use Rattle.life_table.specs.declared.types.Event.TheVariants.{Called}
use Rattle.life_table.specs.declared.types.Entry.{Entry}
use Rattle.life_table.specs.declared.table.Table.{Table}
use Rattle.life_table.specs.Table.{row_of}
use Rattle.life_table.specs.Legal.{Short}
use Rattle.life_table.specs.History.{IsHeld, LegalHistory, after_entries, after_event, key_of}
use Rattle.life_table.specs.WellFormed.{IsTable}
use Rattle.actor_world.specs.declared.memory.Place.{Place}
use Rattle.actor_world.specs.declared.memory.Place.TheVariants as place
use Rattle.actor_world.specs.declared.memory.Doing.{Doing}
use Rattle.actor_world.specs.declared.memory.Actor.{Actor}
use Rattle.actor_world.specs.declared.memory.Memory.{Memory}
use Rattle.actor_world.specs.Caches.{actor_at, cached_word, idle_actor, with_actor}
use Rattle.actor_world.specs.Moves.{group_of_call, is_awaiting_row, is_last_release, lies_in_group}
use Rattle.actor_world.specs.World.{History, World, told_if}
use Rattle.actor_world.specs.Steps.{DiskFace, Step, Telling}
use Rattle.actor_world.specs.Words.{DueHolds, due_at, due_number}
use Rattle.actor_world.specs.Licence.{queue_at, table_at}
use Rattle.actor_world.specs.Invariant.{ActorIsRight, CallIsRight, DoingIsRight, FreesAreRight, GroupIsThere, HeadIsPassed, Invariant, IsShaped, LiesInGroup, PlaceKeeps, QueueIsRight, WordIsRight, due_of_actor, first_key, is_gc, is_gc_call}
use Rattle.actor_world.specs.Settled.{IsPast, IsSettled}
use Rattle.actor_world.proofs.Begins.{due_moved}
use Rattle.actor_world.proofs.CommitSteps.{commits_kept, leads_after}
use Rattle.actor_world.proofs.Effects.{effect_actors, effect_core, effect_of, effect_shape}
use Rattle.actor_world.proofs.EachTurn.{in_call}
use Rattle.actor_world.proofs.EntrySteps.{entries_kept}
use Rattle.actor_world.proofs.Frames.{Framed, LockFacts, framed}
use Rattle.actor_world.proofs.HeldWords.{held_word}
use Rattle.actor_world.proofs.Holding.{two_hold}
use Rattle.actor_world.proofs.JobSteps.{job_kept}
use Rattle.actor_world.proofs.LegalSteps.{legal_kept}
use Rattle.actor_world.proofs.LicenceSteps.{licence_kept, queue_of_gc}
use Rattle.actor_world.proofs.Lists.{read_other, read_same}
use Rattle.actor_world.proofs.LiveWords.{right_under}
use Rattle.actor_world.proofs.Locks.{lies_to, lock_of, lock_turn, locks_kept, room_call_group}
use Rattle.actor_world.proofs.LogLock.{log_lock_kept}
use Rattle.actor_world.proofs.Others.{Apart, OthersHold, dues_on, frees_on, keeps_on}
use Rattle.actor_world.proofs.Own.{DueFacts, OwnFacts, own_dues, own_frees, own_keeps}
use Rattle.actor_world.proofs.Picks.{table_laid}
use Rattle.actor_world.proofs.PlaceSteps.{StandsRight, places_kept}
use Rattle.actor_world.proofs.Prepares.{LowestIsFree}
use Rattle.actor_world.proofs.QueueSteps.{there_kept}
use Rattle.actor_world.proofs.Queues.{last_release, others_whole, own_queue, own_whole, part_on, past_on, right_on}
use Rattle.actor_world.proofs.Settles.{awaited_settled, queue_is_settled}
use Rattle.actor_world.proofs.ShapeSteps.{intervals_kept, shape_kept}
use Rattle.actor_world.proofs.Shorts.{CanBeShort, HoldLaws, never_short, short_on}
use Rattle.actor_world.proofs.StepTurns.{TurnOf, by_turn, call_of}
use Rattle.actor_world.proofs.Turns.{HeldWord, after_turn, changer_key, room_group}
use Rattle.actor_world.proofs.TurnsFound.{Laws, table_now}
use Rattle.actor_world.proofs.Within.{Within, within}
use Rattle.actor_world.proofs.WordTurns.{table_after}
use Rattle.actor_world.proofs.WordsKept.{told_table, word_facts, words_kept}
use Rattle.actor_world.proofs.WordsStill.{WordFacts}

-- The laws of the model that are used.
pub record AllLaws : Type 0 where
  pub laws : Laws
  pub lowest : LowestIsFree
  pub hold_laws : HoldLaws

-- what is so of a call beside where it stands
record Keeping (start : Table) (h : History) (m : Memory) (b : ℕ) (queue : List Key) (d : Doing) : Type 0 where
  frees : FreesAreRight h.entries h.froms h.table b d.«from» d.call d.place
  keeps : PlaceKeeps start h.entries h.table m queue (group_of_call queue d.call) d.«from» d.call d.place
  due : DueHolds d.call h.table m (due_at (first_key queue) d.call d.place)

-- a call that may be short has its group, or its key's row
can_be_short : Laws → (start : Table) (h : History) (m : Memory) (b : ℕ) (queue : List Key) (other : Call) (at : Place) → IsTable start → LegalHistory start h.entries h.table → IsShaped h.table m
    → GroupIsThere m queue other at → IsHeld h.entries b (key_of other) → CanBeShort h.table other
can_be_short laws start h m b queue (call.Create g) at ok legal shaped there held = subst (λ n. g < n) shaped.groups there
can_be_short laws start h m b queue (call.Tmpfile g) at ok legal shaped there held = subst (λ n. g < n) shaped.groups there
can_be_short laws start h m b queue (call.Grow key count) at ok legal shaped there held = laws.held start h.table h.entries b key ok legal held
can_be_short laws start h m b queue _ at ok legal shaped there held = tt

-- the first entries of a history with more at its end
begun_same : (start : Table) (h : History) (a begin n : ℕ) (event : Option Event) → n ≤ length h.entries → table_at start (told_if a begin event h).entries n ≡ table_at start h.entries n
begun_same start h a begin n None low = refl
begun_same start h a begin n (Some event) low = ap (λ (es : List Entry). after_entries start es) (take-append-le n h.entries (record { actor = a; event = event } ∷ []) low)

retire_group : (start : Table) (h : History) (m : Memory) (q : List Key) (made : Call) (at : Place) (begin : ℕ) → PlaceKeeps start h.entries h.table m q (group_of_call q made) begin made at
    → (number : ℕ) (others : List ℕ) → at ≡ place.Retire number others → group_of_call q made ≡ Some (number / GROUP_NUMBERS)
retire_group start h m q made at begin keeps number others is =
    let here : PlaceKeeps start h.entries h.table m q (group_of_call q made) begin made (place.Retire number others) = subst (λ p. PlaceKeeps start h.entries h.table m q (group_of_call q made) begin made p) is keeps in
    sym here.0.0.1

-- what is due is so under the lock alone
due_lies : (first : Option Key) (other : Call) (at : Place) (n : ℕ) → due_number (due_at first other at) ≡ Some n → lies_in_group at ≡ true
due_lies first other (place.InstallMade key) n is = refl
due_lies first other (place.Mark answer) n is = refl
due_lies first other (place.Kill key others) n is = refl
due_lies first other place.KillHead n is = refl
due_lies first other _ n is = absurd (none-some n is)

module _ (all : AllLaws) (start : Table) (h : History) (m : Memory) (a : ℕ) (made : Call) (at : Place) (begin : ℕ) (q later : List Key) (event : Option Event) (next : Option Place) (memory : Memory)
    (turn : TurnOf start h m a made at begin q event next later memory) where
  abbrev x : Actor
  x = after_turn made begin next later

  actors : memory.actors ≡ m.actors
  actors = effect_actors (effect_of turn.inv.cached turn.turn)

  own : actor_at (with_actor a x memory) a ≡ x
  own = read_same memory.actors a x idle_actor (subst (λ (xs : List Actor). a < length xs) (sym actors) turn.low)

  other_is : (b : ℕ) → b ≢ a → actor_at (with_actor a x memory) b ≡ actor_at m b
  other_is b apart = read_other memory.actors a b x idle_actor apart ∙ ap (λ (xs : List Actor). actor_at (record { actors = xs; groups = m.groups }) b) actors

  ok : IsTable h.table
  ok = table_now all.laws start h m turn.inv

  facts : WordFacts h.table m
  facts = word_facts all.laws all.lowest start h m turn.inv

  now : after_entries start h.entries ≡ h.table
  now = sym (leads_after start h.table h.entries turn.inv.legal.leads)

  -- the lock of another actor is not this one's
  apart_lock : (b g : ℕ) → b ≢ a → LiesInGroup g (actor_at m b) → lock_of (Some at) made q ≡ Some g → ⊥
  apart_lock b g apart lies is =
      let own_lies : LiesInGroup g (actor_at m a) = subst (LiesInGroup g) (sym turn.actor_is) (lies_to g (Some at) made begin q is) in
      apart (same_Some b a (sym ((turn.inv.group_locks g b).1 lies) ∙ (turn.inv.group_locks g a).1 own_lies))

  lies_as : (b g : ℕ) (d : Doing) → (actor_at m b).doing ≡ Some d → lies_in_group d.place ≡ true → group_of_call (actor_at m b).queue d.call ≡ Some g → LiesInGroup g (actor_at m b)
  lies_as b g d inside lies group = subst (λ (o : Option Doing). LiesInGroup g (record { doing = o; queue = (actor_at m b).queue })) (sym inside) (lies, group)

  locks : LockFacts made at q
  locks = record { due_here = turn.right.due_here; retire = retire_group start h m q made at begin turn.right.keeps }

  legal : LegalHistory start (told_if a begin event h).entries (told_if a begin event h).table
  legal = legal_kept start h m a made at begin q later event next memory turn.inv turn.right.held turn.turn

  shaped : IsShaped (told_if a begin event h).table (with_actor a x memory)
  shaped = shape_kept h m a begin event x memory actors turn.inv.shaped (effect_shape (effect_of turn.inv.cached turn.turn))

  stands : (b : ℕ) (d : Doing) → (actor_at (with_actor a x memory) b).doing ≡ Some d → StandsRight (told_if a begin event h) (with_actor a x memory) b (actor_at (with_actor a x memory) b).queue d
  stands b d inside = places_kept start h m a made at begin q later event next memory facts turn b d inside

  -- ---- another actor

  module _ (b : ℕ) (apart : b ≢ a) (d : Doing) (inside : (actor_at m b).doing ≡ Some d) where
    right : CallIsRight start h m b (actor_at m b).queue d
    right = call_of start h m turn.inv b d inside

    inside_now : (actor_at (with_actor a x memory) b).doing ≡ Some d
    inside_now = ap (λ (y : Actor). y.doing) (other_is b apart) ∙ inside

    now_stands : StandsRight (told_if a begin event h) (with_actor a x memory) b (actor_at m b).queue d
    now_stands = subst (λ (y : Actor). StandsRight (told_if a begin event h) (with_actor a x memory) b y.queue d) (other_is b apart) (stands b d inside_now)

    short : lies_in_group d.place ≡ true → Short (told_if a begin event h).table d.call ↔ Short h.table d.call
    short lies = by_group (room_group d.call) refl
      where
        by_group : (o : Option ℕ) → room_group d.call ≡ o → Short (told_if a begin event h).table d.call ↔ Short h.table d.call
        by_group None none = (λ short. absurd (never_short (told_if a begin event h).table d.call none short), λ short. absurd (never_short h.table d.call none short))
        by_group (Some g) is =
            let lock = apart_lock b g apart (lies_as b g d inside lies (room_call_group d.call g (actor_at m b).queue is)) in
            let before = can_be_short all.laws start h m b (actor_at m b).queue d.call d.place turn.inv.table turn.inv.legal turn.inv.shaped right.group right.held in
            let after = can_be_short all.laws start (told_if a begin event h) (with_actor a x memory) b (actor_at m b).queue d.call d.place turn.inv.table legal shaped now_stands.group now_stands.held in
            subst (λ u. Short u d.call ↔ Short h.table d.call) (told_table h a begin event)
            (short_on all.hold_laws facts turn.turn d.call g lock is before (subst (λ u. CanBeShort u d.call) (sym (told_table h a begin event)) after))

    frame_is : lies_in_group d.place ≡ true → Apart start h.entries (told_if a begin event h).entries h.table (told_if a begin event h).table m memory made (group_of_call (actor_at m b).queue d.call) d.«from» d.call
    frame_is lies = record {
      frame = λ n group.
          subst (λ u. Framed h.table u m memory made n) (told_table h a begin event)
          (framed facts locks turn.turn n (apart_lock b (n / GROUP_NUMBERS) apart (lies_as b (n / GROUP_NUMBERS) d inside lies group)));
      short = short lies;
    }

    others_hold : (key : Key) → key_of d.call ≡ Some key → OthersHold h.table made key
    others_hold key is row close row_is =
        two_hold all.laws start h.entries h.table turn.inv.table turn.inv.legal a b key row apart
        (subst (λ c. IsHeld h.entries a (key_of c)) close turn.right.held) (subst (λ (o : Option Key). IsHeld h.entries b o) is right.held) row_is

    other_keeping : Keeping start (told_if a begin event h) (with_actor a x memory) b (actor_at m b).queue d
    other_keeping = record {
      frees = frees_on h a begin b d.«from» event (told_if a begin event h).table d.call d.place short right.frees;
      keeps =
          keeps_on start h.entries (told_if a begin event h).entries h.table (told_if a begin event h).table m memory made (group_of_call (actor_at m b).queue d.call) d.«from» d.call
          (begun_same start h a begin d.«from» event right.begun) (actor_at m b).queue refl d.place right.stands frame_is right.keeps;
      due = due_moved d.call (told_if a begin event h).table memory _ (due_at (first_key (actor_at m b).queue) d.call d.place)
          (dues_on (first_key (actor_at m b).queue) d.call d.place (λ n is. (frame_is (due_lies (first_key (actor_at m b).queue) d.call d.place n is)).frame n (right.due_here n is)) others_hold right.due);
    }

-- ---- the actor itself

changer_of : (made : Call) (key : Key) → changer_key made ≡ Some key → key_of made ≡ Some key
changer_of (call.Link other) key is = is
changer_of (call.Unlink other) key is = is
changer_of (call.Cut other count) key is = is
changer_of _ key is = absurd (none-some key is)

all_right : {X : Type 0} (P : X → Type 0) (xs ys : List X) → AllByRecursion P (xs ++ ys) → AllByRecursion P ys
all_right P [] ys all = all
all_right P (x ∷ xs) ys all = all_right P xs ys all.1

module _ (all : AllLaws) (start : Table) (h : History) (m : Memory) (a : ℕ) (made : Call) (at : Place) (begin : ℕ) (q : List Key) (inv : Within start h m)
    (actor_is : actor_at m a ≡ in_call made at begin q) (right : CallIsRight start h m a q (record { call = made; place = at; «from» = begin })) where
  pub own_waits : QueueIsRight (is_gc_call made) h.table q (queue_at start h.entries (length h.entries) a)
  own_waits = subst (λ (x : Actor). QueueIsRight (is_gc x.doing) h.table x.queue (queue_at start h.entries (length h.entries) a)) actor_is (inv.actors a).queue

  pub own_facts : OwnFacts start h m begin q made
  own_facts =
      let ok = table_now all.laws start h m inv in
      record {
        ok = ok;
        shaped = inv.shaped;
        laid = λ g. table_laid h.table g ok;
        awaited = λ key awaits. awaited_settled all.laws all.lowest start inv.table h.entries h.table begin key inv.legal awaits;
        waiting = λ is.
            let part = queue_of_gc h.table q (queue_at start h.entries (length h.entries) a) made is own_waits in
            all_right (IsSettled h.table) part.passed q (subst (AllByRecursion (IsSettled h.table)) part.parts (queue_is_settled all.laws all.lowest start inv.table h.entries h.table a inv.legal));
      }

  pub due_facts : DueFacts h.table m q made at
  due_facts = record {
    lowest = all.lowest;
    words = word_facts all.laws all.lowest start h m inv;
    shaped = inv.shaped;
    held = λ here key is.
        held_word all.laws start h m inv a key (subst (λ (o : Option Key). IsHeld h.entries a o) (changer_of made key is) right.held)
        (ap due_of_actor actor_is ∙ ap (λ p. due_at (first_key q) made p) here);
    right = λ lies none n group. right_under start h m inv a (n / GROUP_NUMBERS) (subst (LiesInGroup (n / GROUP_NUMBERS)) (sym actor_is) (lies, group)) (ap due_of_actor actor_is ∙ none) n refl;
  }

own_keeping : AllLaws → (start : Table) (h : History) (m : Memory) (a : ℕ) (made : Call) (at : Place) (begin : ℕ) (q later : List Key) (event : Option Event) (onward : Place) (memory : Memory)
    → TurnOf start h m a made at begin q event (Some onward) later memory
    → Keeping start (told_if a begin event h) (with_actor a (after_turn made begin (Some onward) later) memory) a later (record { call = made; place = onward; «from» = begin })
own_keeping all start h m a made at begin q later event onward memory turn =
    let u : Table = (told_if a begin event h).table in
    record {
      frees = subst (λ v. FreesAreRight (told_if a begin event h).entries (told_if a begin event h).froms v a begin made onward) (told_table h a begin event)
          (own_frees h begin turn.inv.intervals.length_is turn.right.frees turn.turn);
      keeps = subst (λ v. PlaceKeeps start (told_if a begin event h).entries v memory later (group_of_call later made) begin made onward) (told_table h a begin event)
          (own_keeps start h begin (own_facts all start h m a made at begin q turn.inv turn.actor_is turn.right) (begun_same start h a begin begin event turn.right.begun) turn.right.keeps turn.turn);
      due = due_moved made u memory _ (due_at (first_key later) made onward)
          (subst (λ v. DueHolds made v memory (due_at (first_key later) made onward)) (told_table h a begin event)
          (own_dues (due_facts all start h m a made at begin q turn.inv turn.actor_is turn.right) turn.turn));
    }

own_doing : AllLaws → (start : Table) (h : History) (m : Memory) (a : ℕ) (made : Call) (at : Place) (begin : ℕ) (q later : List Key) (event : Option Event) (next : Option Place) (memory : Memory)
    → TurnOf start h m a made at begin q event next later memory → (d : Doing) → (after_turn made begin next later).doing ≡ Some d
    → Keeping start (told_if a begin event h) (with_actor a (after_turn made begin next later) memory) a (after_turn made begin next later).queue d
own_doing all start h m a made at begin q later event None memory turn d inside = absurd (none-some d inside)
own_doing all start h m a made at begin q later event (Some onward) memory turn d inside =
    subst (λ (y : Doing). Keeping start (told_if a begin event h) (with_actor a (after_turn made begin (Some onward) later) memory) a later y) (same_Some _ d inside)
    (own_keeping all start h m a made at begin q later event onward memory turn)

pub own_line : (made : Call) (begin : ℕ) (next : Option Place) (later : List Key) → (after_turn made begin next later).queue ≡ later
own_line made begin None later = refl
own_line made begin (Some onward) later = refl

-- ---- all actors

doing_from : (start : Table) (h : History) (m : Memory) (b : ℕ) (queue : List Key) (o : Option Doing) → ((d : Doing) → o ≡ Some d → CallIsRight start h m b queue d) → DoingIsRight start h m b queue o
doing_from start h m b queue None f = tt
doing_from start h m b queue (Some d) f = f d refl

module _ (all : AllLaws) (start : Table) (h : History) (m : Memory) (a : ℕ) (made : Call) (at : Place) (begin : ℕ) (q later : List Key) (event : Option Event) (next : Option Place) (memory : Memory)
    (turn : TurnOf start h m a made at begin q event next later memory) where
  abbrev h2 : History
  h2 = told_if a begin event h

  abbrev m2 : Memory
  m2 = with_actor a (after_turn made begin next later) memory

  own_at : actor_at m2 a ≡ after_turn made begin next later
  own_at = own all start h m a made at begin q later event next memory turn

  other_at : (b : ℕ) → b ≢ a → actor_at m2 b ≡ actor_at m b
  other_at b apart = other_is all start h m a made at begin q later event next memory turn b apart

  keeping : (b : ℕ) (d : Doing) → (actor_at m2 b).doing ≡ Some d → Keeping start h2 m2 b (actor_at m2 b).queue d
  keeping b d inside =
      elim (cases_eq b a) [
        | inl same ↦
            let there : actor_at m2 b ≡ after_turn made begin next later = ap (λ n. actor_at m2 n) same ∙ own_at in
            subst (λ (y : Actor). Keeping start h2 m2 b y.queue d) (sym there)
            (subst (λ n. Keeping start h2 m2 n (after_turn made begin next later).queue d) (sym same)
            (own_doing all start h m a made at begin q later event next memory turn d (ap (λ (y : Actor). y.doing) (sym there) ∙ inside)))
        | inr apart ↦
            subst (λ (y : Actor). Keeping start h2 m2 b y.queue d) (sym (other_at b apart))
            (other_keeping all start h m a made at begin q later event next memory turn b apart d (ap (λ (y : Actor). y.doing) (sym (other_at b apart)) ∙ inside))
      ]

  call_kept : (b : ℕ) (d : Doing) → (actor_at m2 b).doing ≡ Some d → CallIsRight start h2 m2 b (actor_at m2 b).queue d
  call_kept b d inside =
      let stands = places_kept start h m a made at begin q later event next memory (word_facts all.laws all.lowest start h m turn.inv) turn b d inside in
      let keep = keeping b d inside in
      record {
        begun = stands.begun;
        stands = stands.stands;
        group = stands.group;
        held = stands.held;
        made = stands.made;
        entry = entries_kept start h m a made at begin q later event next memory turn b d inside;
        frees = keep.frees;
        keeps = keep.keeps;
        due = keep.due;
        due_here = stands.due_here;
      }

  abbrev whole_of : ℕ → List Key
  whole_of b = queue_at start h.entries (length h.entries) b

  entries_now : after_entries start h.entries ≡ h.table
  entries_now = sym (leads_after start h.table h.entries turn.inv.legal.leads)

  settled : (b : ℕ) → AllByRecursion (IsSettled h.table) (whole_of b)
  settled b = queue_is_settled all.laws all.lowest start turn.inv.table h.entries h.table b turn.inv.legal

  past : (key : Key) → IsPast h.table key → IsPast (table_after h.table event) key
  past key = past_on all.laws all.lowest start h m a made at begin q later event next memory turn key

  pass_is : at ≡ place.Pass → HeadIsPassed h.table (first_key q)
  pass_is here = subst (λ p. PlaceKeeps start h.entries h.table m q (group_of_call q made) begin made p) here turn.right.keeps

  last_is : (key : Key) → made ≡ call.CloseKey key → at ≡ place.Unpin → HeldWord h.table m key
      → is_last_release (cached_word m key.number) ≡ is_awaiting_row (row_of (after_event h.table (Called (call.CloseKey key) reply.Done)) key)
  last_is key is here held =
      last_release all.laws start h m turn.inv a key held (subst (λ c. IsHeld h.entries a (key_of c)) is turn.right.held)
      (ap (λ (y : Actor). due_number (due_of_actor y)) turn.actor_is ∙ ap (λ p. due_number (due_at (first_key q) made p)) here)

  queue_kept : (b : ℕ) → QueueIsRight (is_gc (actor_at m2 b).doing) h2.table (actor_at m2 b).queue (queue_at start h2.entries (length h2.entries) b)
  queue_kept b =
      elim (cases_eq b a) [
        | inl same ↦
            let x : Actor = after_turn made begin next later in
            let there : actor_at m2 b ≡ x = ap (λ n. actor_at m2 n) same ∙ own_at in
            let whole = own_whole start h a begin event entries_now in
            let mine : QueueIsRight (is_gc x.doing) h2.table later (queue_at start h2.entries (length h2.entries) a) =
            subst (λ u. QueueIsRight (is_gc x.doing) u later (queue_at start h2.entries (length h2.entries) a)) (told_table h a begin event)
            (subst (QueueIsRight (is_gc x.doing) (table_after h.table event) later) (sym whole)
            (own_queue begin (whole_of a) turn.right.stands (part_on h.table (table_after h.table event) past q (whole_of a) (settled a)) pass_is last_is
            (own_waits all start h m a made at begin q turn.inv turn.actor_is turn.right) turn.turn)) in
            subst (λ (y : Actor). QueueIsRight (is_gc y.doing) h2.table y.queue (queue_at start h2.entries (length h2.entries) b)) (sym there)
            (subst (λ n. QueueIsRight (is_gc x.doing) h2.table x.queue (queue_at start h2.entries (length h2.entries) n)) (sym same)
            (subst (λ keys. QueueIsRight (is_gc x.doing) h2.table keys (queue_at start h2.entries (length h2.entries) a)) (sym (own_line made begin next later)) mine))
        | inr apart ↦
            let y : Actor = actor_at m b in
            subst (λ (z : Actor). QueueIsRight (is_gc z.doing) h2.table z.queue (queue_at start h2.entries (length h2.entries) b)) (sym (other_at b apart))
            (subst (QueueIsRight (is_gc y.doing) h2.table y.queue) (sym (others_whole start h a b begin event apart entries_now))
            (subst (λ u. QueueIsRight (is_gc y.doing) u y.queue (whole_of b)) (told_table h a begin event)
            (right_on (is_gc y.doing) h.table (table_after h.table event) past y.queue (whole_of b) (settled b) (turn.inv.actors b).queue)))
      ]

  pub actors_kept : (b : ℕ) → ActorIsRight start (told_if a begin event h) (with_actor a (after_turn made begin next later) memory) b (actor_at (with_actor a (after_turn made begin next later) memory) b)
  actors_kept b = record {
    there = there_kept start h m a made at begin q later event next memory (table_now all.laws start h m turn.inv) turn b;
    queue = queue_kept b;
    doing = doing_from start h2 m2 b (actor_at m2 b).queue (actor_at m2 b).doing (call_kept b);
  }

  -- the world within the invariant, but for its log
  pub within_kept : Within start (told_if a begin event h) (with_actor a (after_turn made begin next later) memory)
  within_kept =
      let effect = effect_of turn.inv.cached turn.turn in
      let same = effect_actors effect in
      let held = locks_kept m a made at begin q later next memory turn.inv.group_locks turn.actor_is (subst (λ (xs : List Actor). a < length xs) (sym same) turn.low) same (lock_turn turn.turn) in
      record {
        table = turn.inv.table;
        shaped = shape_kept h m a begin event _ memory same turn.inv.shaped (effect_shape effect);
        legal = legal_kept start h m a made at begin q later event next memory turn.inv turn.right.held turn.turn;
        intervals = intervals_kept h a begin event turn.inv.intervals turn.right.begun;
        licensed = licence_kept start h m a made at begin q later event next memory turn;
        words = λ k. subst (λ (t : Table). WordIsRight t (with_actor a (after_turn made begin next later) memory) k) (told_table h a begin event)
            (words_kept start h m a made at begin q later event next memory (word_facts all.laws all.lowest start h m turn.inv) turn same held k);
        cached = effect_core turn.inv.cached effect;
        group_locks = held;
        actors = actors_kept;
      }

pub invariant_kept : AllLaws → {D : Type 0} (face : DiskFace D) (tells : Telling) (start : Table) (a : ℕ) (old new : World D) → Invariant tells start old → Step face tells a old new → Invariant tells start new
invariant_kept all face tells start a old new inv step =
    let inside : Within start new.history new.memory =
    by_turn all.laws face tells start a old new (λ h m. Within start h m) (within tells start old inv) step
    (λ made at begin q later event next memory turn. within_kept all start old.history old.memory a made at begin q later event next memory turn) in
    record {
      table = inside.table;
      shaped = inside.shaped;
      legal = inside.legal;
      intervals = inside.intervals;
      licensed = inside.licensed;
      words = inside.words;
      cached = inside.cached;
      group_locks = inside.group_locks;
      log_lock = log_lock_kept all.laws face tells start a old new inv step;
      actors = inside.actors;
      commits = commits_kept face tells start a old new inv step;
      job = job_kept all.laws face tells start a old new inv step;
    }
