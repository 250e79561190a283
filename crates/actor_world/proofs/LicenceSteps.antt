-- After a step each free has its call and its reason.
use Rattle.std.proofs.Common.{◌≡◌, ◌<◌, ◌≤◌, ◌+◌, ◌⊎◌, inl, inr, ℕ, zero, suc, List, [], ◌∷◌, ◌++◌, Option, None, Some, IsSomeAnd, IsSome, length, slice_get, slice_index_or, slice_set, take, refl, sym, ap, subst, ◌∙◌, arith}
use Rattle.std.specs.List.{Contains}
use Rattle.std.proofs.lemmas.List.{take-append-le}
use Rattle.std.proofs.lemmas.List.Elements.{All-contains}
use Rattle.std.proofs.lemmas.Option.{none-some, same_Some, slice_get_within}
use Rattle.std.proofs.lemmas.Bool.{false≢true}
use Rattle.life_table.specs.declared.key.Key.{Key}
use Rattle.life_table.specs.declared.types.Row.{Row}
use Rattle.life_table.specs.declared.types.Call.{Call}
use Rattle.life_table.specs.declared.types.Call.TheVariants as call
use Rattle.life_table.specs.declared.types.Reply.{Reply}
use Rattle.life_table.specs.declared.types.Reply.TheVariants as reply
use Rattle.life_table.specs.declared.types.Event.{Event}
use Rattle.life_table.specs.declared.types.Event.TheVariants.{Called, Freed}
use Rattle.life_table.specs.declared.types.Entry.{Entry}
use Rattle.life_table.specs.declared.table.Table.{Table}
use Rattle.life_table.specs.Table.{group_number, row_of}
use Rattle.life_table.specs.Legal.{Awaits, KeyReplies, Short}
use Rattle.life_table.specs.History.{after_entries}
use Rattle.actor_world.specs.declared.memory.Place.{Place}
use Rattle.actor_world.specs.declared.memory.Doing.{Doing}
use Rattle.actor_world.specs.declared.memory.Actor.{Actor}
use Rattle.actor_world.specs.declared.memory.Memory.{Memory}
use Rattle.actor_world.specs.Caches.{actor_at, idle_actor, with_actor}
use Rattle.actor_world.specs.World.{History, told_if}
use Rattle.actor_world.specs.Licence.{BelongsTo, Interval, FreesForRoom, IsAnsweredAt, Licensed, MayFree, Unfinished, queue_at, queue_from, refused_group, table_at}
use Rattle.actor_world.specs.Invariant.{CallIsRight, HasFreed, NoneLeft, PartOfQueue, QueueIsRight, is_gc, is_gc_call, reply_at, unanswered, unfinished_from, unfinished_of}
use Rattle.actor_world.proofs.Begins.{behind}
use Rattle.actor_world.proofs.CommitSteps.{leads_after}
use Rattle.actor_world.proofs.Effects.{effect_actors, effect_of}
use Rattle.actor_world.proofs.EntrySteps.{Answers, EndTurn, EntryTurn, Frees, Gets, Had, Silent, end_turn, entry_turn}
use Rattle.actor_world.proofs.Lists.{take_all, get_kept, get_last, get_push}
use Rattle.actor_world.proofs.StepTurns.{TurnOf}
use Rattle.actor_world.proofs.Turns.{Turn, after_turn, changes, frees_head, frees_one, grow_refuses, is_answered, makes, makes_none, next_empty, passes_last, refuses, room_group}

-- ---- calls that are not answered yet

-- a list of at most one, before others
head_or_rest : (n : ℕ) (d : Doing) (o : Option Reply) (ys : List Unfinished) (x : Unfinished) → Contains (unanswered n d o ++ ys) x → ((x ≡ record { actor = n; call = d.call; begin = d.«from» }) × (o ≡ None)) ⊎ Contains ys x
head_or_rest n d None ys x (zero, low, at) = inl (sym at, refl)
head_or_rest n d None ys x (suc k, low, at) = inr (k, omega (arith, low), at)
head_or_rest n d (Some answer) ys x there = inr there

split : (n : ℕ) (o : Option Doing) (ys : List Unfinished) (x : Unfinished) → Contains (unfinished_of n o ++ ys) x
    → ((d : Doing) × (o ≡ Some d) × (x ≡ record { actor = n; call = d.call; begin = d.«from» }) × (reply_at d.place ≡ None)) ⊎ Contains ys x
split n None ys x there = inr there
split n (Some d) ys x there = elim (head_or_rest n d (reply_at d.place) ys x there) [
  | inl head ↦ inl (d, refl, head.0, head.1)
  | inr rest ↦ inr rest
]

in_front : (n : ℕ) (d : Doing) (ys : List Unfinished) → reply_at d.place ≡ None → Contains (unfinished_of n (Some d) ++ ys) (record { actor = n; call = d.call; begin = d.«from» })
in_front n d ys none = subst (λ (o : Option Reply). Contains (unanswered n d o ++ ys) (record { actor = n; call = d.call; begin = d.«from» })) (sym none) (zero, omega arith, refl)

-- where one actor changes, each call that is not answered stays so, but perhaps its own
others_stay : (n : ℕ) (actors : List Actor) (i : ℕ) (new : Actor) (x : Unfinished) → Contains (unfinished_from n actors) x
    → Contains (unfinished_from n (slice_set actors i new)) x
    ⊎ ((d : Doing) × ((slice_index_or actors i idle_actor).doing ≡ Some d) × (x ≡ record { actor = n + i; call = d.call; begin = d.«from» }) × (reply_at d.place ≡ None))
others_stay n [] i new x there = inl there
others_stay n (actor ∷ actors) zero new x there = elim (split n actor.doing (unfinished_from (n + 1) actors) x there) [
  | inl head ↦ inr (head.0, head.1, head.2 ∙ ap (λ k. record { actor = k; call = head.0.call; begin = head.0.«from» }) (omega arith), head.3)
  | inr rest ↦ inl (behind n new.doing (unfinished_from (n + 1) actors) x rest)
]
others_stay n (actor ∷ actors) (suc i) new x there = elim (split n actor.doing (unfinished_from (n + 1) actors) x there) [
  | inl head ↦ inl (subst (λ (u : Unfinished). Contains (unfinished_of n actor.doing ++ unfinished_from (n + 1) (slice_set actors i new)) u) (sym head.2)
      (subst (λ (o : Option Doing). Contains (unfinished_of n o ++ unfinished_from (n + 1) (slice_set actors i new)) (record { actor = n; call = head.0.call; begin = head.0.«from» })) (sym head.1)
      (in_front n head.0 (unfinished_from (n + 1) (slice_set actors i new)) head.3)))
  | inr rest ↦ elim (others_stay (n + 1) actors i new x rest) [
    | inl stays ↦ inl (behind n actor.doing (unfinished_from (n + 1) (slice_set actors i new)) x stays)
    | inr own ↦ inr (own.0, own.1, own.2 ∙ ap (λ k. record { actor = k; call = own.0.call; begin = own.0.«from» }) (omega arith), own.3)
  ]
]

own_stays : (n : ℕ) (actors : List Actor) (i : ℕ) (new : Actor) (d : Doing) → i < length actors → new.doing ≡ Some d → reply_at d.place ≡ None
    → Contains (unfinished_from n (slice_set actors i new)) (record { actor = n + i; call = d.call; begin = d.«from» })
own_stays n [] i new d low is none = absurd (omega arith)
own_stays n (actor ∷ actors) zero new d low is none =
    subst (λ k. Contains (unfinished_of n new.doing ++ unfinished_from (n + 1) actors) (record { actor = k; call = d.call; begin = d.«from» })) (omega arith)
    (subst (λ (o : Option Doing). Contains (unfinished_of n o ++ unfinished_from (n + 1) actors) (record { actor = n; call = d.call; begin = d.«from» })) (sym is)
    (in_front n d (unfinished_from (n + 1) actors) none))
own_stays n (actor ∷ actors) (suc i) new d low is none =
    behind n actor.doing (unfinished_from (n + 1) (slice_set actors i new)) _
    (subst (λ k. Contains (unfinished_from (n + 1) (slice_set actors i new)) (record { actor = k; call = d.call; begin = d.«from» })) (omega arith)
    (own_stays (n + 1) actors i new d (omega (arith, low)) is none))

-- ---- one entry more

-- the first entries of a history with one more
first_same : (entries : List Entry) (entry : Entry) (n : ℕ) → n ≤ length entries → take n (entries ++ entry ∷ []) ≡ take n entries
first_same entries entry n low = take-append-le n entries (entry ∷ []) low

module _ (start : Table) (h : History) (a begin : ℕ) (event : Event) (long : length h.froms ≡ length h.entries) where
  queue_same : (n b : ℕ) → n ≤ length h.entries → queue_at start (h.entries ++ record { actor = a; event = event } ∷ []) n b ≡ queue_at start h.entries n b
  queue_same n b low = ap (λ (es : List Entry). queue_from start es b []) (first_same h.entries (record { actor = a; event = event }) n low)

  table_same : (n : ℕ) → n ≤ length h.entries → table_at start (h.entries ++ record { actor = a; event = event } ∷ []) n ≡ table_at start h.entries n
  table_same n low = ap (λ (es : List Entry). after_entries start es) (first_same h.entries (record { actor = a; event = event }) n low)

  room_still : (b i from g : ℕ) (key : Key) (made : Call) → i ≤ length h.entries → FreesForRoom start h.entries h.froms b from i g key made → FreesForRoom start (h.entries ++ record { actor = a; event = event } ∷ []) (h.froms ++ begin ∷ []) b from i g key made
  room_still b i from g key made low may = record {
    group = may.group;
    short = λ none. subst (λ t. Short t made) (sym (table_same i low)) (may.short (λ earlier. none (record {
      place = earlier.place;
      before = earlier.before;
      key = earlier.key;
      entry = get_kept h.entries (record { actor = a; event = event }) _ earlier.place earlier.entry;
      begin_is = get_kept h.froms begin from earlier.place earlier.begin_is;
    })));
  }

  -- a free that has its reason still has it
  may_still : (b i from : ℕ) (key : Key) (made : Call) → i ≤ length h.entries → MayFree start h.entries h.froms b i from key made → MayFree start (h.entries ++ record { actor = a; event = event } ∷ []) (h.froms ++ begin ∷ []) b i from key made
  may_still b i from key call.Gc low may = subst (λ keys. Contains keys key) (sym (queue_same i b low)) may
  may_still b i from key (call.Create g) low may = room_still b i from g key (call.Create g) low may
  may_still b i from key (call.Tmpfile g) low may = room_still b i from g key (call.Tmpfile g) low may
  may_still b i from key (call.Grow grown count) low may = room_still b i from (group_number grown) key (call.Grow grown count) low may
  may_still b i from key _ low may = absurd may

  -- a call that was answered still is
  answered_still : (b from i : ℕ) (made : Call) → (j : ℕ) × (i < j) × IsAnsweredAt h.entries h.froms b from made j → (j : ℕ) × (i < j) × IsAnsweredAt (h.entries ++ record { actor = a; event = event } ∷ []) (h.froms ++ begin ∷ []) b from made j
  answered_still b from i made (j, behind_it, is) = (
    j,
    behind_it,
    record {
      answer = is.answer;
      entry = get_kept h.entries (record { actor = a; event = event }) _ j is.entry;
      begin_is = get_kept h.froms begin from j is.begin_is;
    },
  )

-- the call that is answered now
answered_now : (h : History) (a begin : ℕ) (made : Call) (answer : Reply) (i : ℕ) → length h.froms ≡ length h.entries → i < length h.entries
    → (j : ℕ) × (i < j) × IsAnsweredAt (h.entries ++ record { actor = a; event = Called made answer } ∷ []) (h.froms ++ begin ∷ []) a begin made j
answered_now h a begin made answer i long low = (
  length h.entries,
  low,
  record {
    answer = answer;
    entry = get_last h.entries (record { actor = a; event = Called made answer });
    begin_is = subst (λ n. slice_get (h.froms ++ begin ∷ []) n ≡ Some begin) long (get_last h.froms begin);
  },
)

-- ---- what a turn frees, answers and refuses

contains_middle : (xs ys : List Key) (key : Key) → Contains (xs ++ key ∷ ys) key
contains_middle [] ys key = (zero, omega arith, refl)
contains_middle (x ∷ xs) ys key = let rest = contains_middle xs ys key in (suc rest.0, omega (arith, rest.1), rest.2)

-- the reason of a free
module _ (start : Table) (h : History) (m : Memory) (a : ℕ) (made : Call) (at : Place) (begin : ℕ) (q : List Key)
    (now : table_at start h.entries (length h.entries) ≡ h.table) where
  room_free : (g : ℕ) (key : Key) (others : List Key) → group_number key ≡ g → (((gone : Key) → HasFreed h.entries h.froms a begin gone → ⊥) → Short h.table made)
      → FreesForRoom start h.entries h.froms a begin (length h.entries) g key made
  room_free g key others group short = record {
    group = group;
    short = λ none. subst (λ t. Short t made) (sym now) (short (λ gone freed. none (record {
      place = freed.0;
      before = slice_get_within h.entries freed.0 _ freed.1;
      key = gone;
      entry = freed.1;
      begin_is = freed.2;
    })));
  }

keys_split : (xs ys : List Key) (key : Key) → Contains (xs ++ ys) key → Contains xs key ⊎ Contains ys key
keys_split [] ys key there = inr there
keys_split (x ∷ xs) ys key (zero, low, at) = inl (zero, omega arith, at)
keys_split (x ∷ xs) ys key (suc k, low, at) = elim (keys_split xs ys key (k, omega (arith, low), at)) [
  | inl front ↦ inl (suc front.0, omega (arith, front.1), front.2)
  | inr rest ↦ inr rest
]

only_one : (key other : Key) → Contains (key ∷ []) other → key ≡ other
only_one key other (zero, low, at) = at
only_one key other (suc k, low, at) = absurd (omega (arith, low))

none_in : (key : Key) → Contains {X = Key} [] key → ⊥
none_in key (k, low, at) = omega (arith, low)

-- a row of which it is refuted that it is there
no_row_there : (o : Option Row) → (IsSome o → ⊥) → o ≡ None
no_row_there None none = refl
no_row_there (Some row) none = absurd (none refl)

short_leaves : (start : Table) (h : History) (g : Option ℕ) (begin : ℕ) (made : Call) (key : Key) → NoneLeft start h.entries h.table g begin made → Short h.table made → Some (group_number key) ≡ g
    → IsSomeAnd (row_of (table_at start h.entries begin) key) Awaits → row_of h.table key ≡ None
short_leaves start h g begin made key none short group awaits =
    no_row_there (row_of h.table key) (λ has. none_in key ((none short).passed key group awaits has))

-- what is in the queue of a gc: it was passed, or is there
queue_parts : (t : Table) (queue whole : List Key) (key : Key) → PartOfQueue t queue whole → Contains whole key → (row_of t key ≡ None) ⊎ Contains queue key
queue_parts t queue whole key part there = elim (keys_split part.passed queue key (subst (λ ks. Contains ks key) part.parts there)) [
  | inl front ↦ inl (All-contains (λ (k : Key). row_of t k ≡ None) part.passed key part.gone front)
  | inr rest ↦ inr rest
]

-- what a turn rests on
pub record TurnFacts (start : Table) (h : History) (m : Memory) (a : ℕ) (made : Call) (at : Place) (begin : ℕ) (q : List Key) : Type 0 where
  pub right : CallIsRight start h m a q (record { call = made; place = at; «from» = begin })
  pub queue : made ≡ call.Gc → PartOfQueue h.table q (queue_at start h.entries (length h.entries) a)
  pub now : table_at start h.entries (length h.entries) ≡ h.table

room_may : (start : Table) (h : History) (a begin g : ℕ) (key : Key) (made : Call) → room_group made ≡ Some g → FreesForRoom start h.entries h.froms a begin (length h.entries) g key made
    → MayFree start h.entries h.froms a (length h.entries) begin key made
room_may start h a begin g key (call.Create other) is free = subst (λ n. FreesForRoom start h.entries h.froms a begin (length h.entries) n key (call.Create other)) (sym (same_Some other g is)) free
room_may start h a begin g key (call.Tmpfile other) is free = subst (λ n. FreesForRoom start h.entries h.froms a begin (length h.entries) n key (call.Tmpfile other)) (sym (same_Some other g is)) free
room_may start h a begin g key (call.Grow grown count) is free = subst (λ n. FreesForRoom start h.entries h.froms a begin (length h.entries) n key (call.Grow grown count)) (sym (same_Some (group_number grown) g is)) free
room_may start h a begin g key _ is free = absurd (none-some g is)

OfFreed : Event → (Key → Type 0) → Type 0
OfFreed (Called made answer) P = Unit {0}
OfFreed (Freed key) P = P key

turn_may : (start : Table) (h : History) (begin : ℕ) {m : Memory} {a : ℕ} {made : Call} {at : Place} {q later : List Key} {event : Event} {next : Option Place} {memory : Memory}
    → TurnFacts start h m a made at begin q → Turn h.table m a made at q (Some event) next later memory → OfFreed event (λ key. MayFree start h.entries h.froms a (length h.entries) begin key made)
unfolding OfFreed
turn_may start h begin {m = m} {a = a} {at = at} {q = q} facts (frees_one made g key others is group awaits) =
    room_may start h a begin g key made is (room_free start h m a made at begin q facts.now g key others group facts.right.frees)
turn_may start h begin facts (frees_head key keys awaits) =
    let part = facts.queue refl in
    subst (λ ks. Contains ks key) (sym part.parts) (contains_middle part.passed keys key)
turn_may start h begin facts _ = tt

OfGc : Event → Type 0 → Type 0
OfGc (Called call.Gc answer) P = P
OfGc _ P = Unit {0}

turn_gc : (start : Table) (h : History) (begin : ℕ) {m : Memory} {a : ℕ} {made : Call} {at : Place} {q later : List Key} {event : Event} {next : Option Place} {memory : Memory}
    → TurnFacts start h m a made at begin q → Turn h.table m a made at q (Some event) next later memory
    → OfGc event ((key : Key) → Contains (queue_at start h.entries (length h.entries) a) key → row_of h.table key ≡ None)
unfolding OfGc
turn_gc start h begin facts next_empty = λ key there. elim (queue_parts h.table [] _ key (facts.queue refl) there) [ inl gone ↦ gone | inr rest ↦ absurd (none_in key rest) ]
turn_gc start h begin facts (passes_last head) = λ key there. elim (queue_parts h.table (head ∷ []) _ key (facts.queue refl) there) [
  | inl gone ↦ gone
  | inr rest ↦ subst (λ k. row_of h.table k ≡ None) (only_one head key rest) facts.right.keeps
]
turn_gc start h begin facts (refuses (call.Link k) key answer is permits none) = tt
turn_gc start h begin facts (refuses (call.Unlink k) key answer is permits none) = tt
turn_gc start h begin facts (refuses (call.Cut k count) key answer is permits none) = tt
turn_gc start h begin facts (refuses _ key answer is permits none) = absurd (none-some key is)
turn_gc start h begin facts (changes (call.Link k) key is permits) = tt
turn_gc start h begin facts (changes (call.Unlink k) key is permits) = tt
turn_gc start h begin facts (changes (call.Cut k count) key is permits) = tt
turn_gc start h begin facts (changes _ key is permits) = absurd (none-some key is)
turn_gc start h begin facts (makes (call.Create g) other key is permits) = tt
turn_gc start h begin facts (makes (call.Tmpfile g) other key is permits) = tt
turn_gc start h begin facts (makes _ other key is permits) = absurd (none-some other is)
turn_gc start h begin facts (makes_none (call.Create g) other is permits) = tt
turn_gc start h begin facts (makes_none (call.Tmpfile g) other is permits) = tt
turn_gc start h begin facts (makes_none _ other is permits) = absurd (none-some other is)
turn_gc start h begin facts (is_answered call.Sync at answer is stands permits) = tt
turn_gc start h begin facts (is_answered call.Home at answer is stands permits) = tt
turn_gc start h begin facts (is_answered _ at answer is stands permits) = absurd (false≢true is)
turn_gc start h begin facts _ = tt

pub grow_short : (t : Table) (key : Key) (count : ℕ) (o : Option Row) → KeyReplies t o (call.Grow key count) reply.NoSpace → Short t (call.Grow key count)
grow_short t key count None permits = absurd permits
grow_short t key count (Some row) permits = permits

-- where room was refused, no row is left that awaited
abbrev pub Leaves : Table → History → ℕ → Event → Type 0
Leaves start h begin event = (g : ℕ) (key : Key) → refused_group event ≡ Some g → group_number key ≡ g → IsSomeAnd (row_of (table_at start h.entries begin) key) Awaits → row_of h.table key ≡ None

turn_leaves : (start : Table) (h : History) (begin : ℕ) {m : Memory} {a : ℕ} {made : Call} {at : Place} {q later : List Key} {event : Event} {next : Option Place} {memory : Memory}
    → TurnFacts start h m a made at begin q → Turn h.table m a made at q (Some event) next later memory → Leaves start h begin event
turn_leaves start h begin facts (makes_none (call.Create n) other is permits) = λ g key refused group awaits.
    short_leaves start h (Some n) begin (call.Create n) key facts.right.keeps permits.1 (ap (λ x. Some x) group ∙ sym refused) awaits
turn_leaves start h begin facts (makes_none (call.Tmpfile n) other is permits) = λ g key refused group awaits.
    short_leaves start h (Some n) begin (call.Tmpfile n) key facts.right.keeps permits.1 (ap (λ x. Some x) group ∙ sym refused) awaits
turn_leaves start h begin facts (makes_none _ other is permits) = absurd (none-some other is)
turn_leaves start h begin facts (grow_refuses grown count reply.NoSpace permits none) = λ g key refused group awaits.
    short_leaves start h (Some (group_number grown)) begin (call.Grow grown count) key facts.right.keeps (grow_short h.table grown count _ permits) (ap (λ x. Some x) group ∙ sym refused) awaits
turn_leaves start h begin facts (grow_refuses grown count _ permits none) = λ g key refused group awaits. absurd (none-some g refused)
turn_leaves start h begin facts (refuses (call.Link k) key answer is permits none) = λ g other refused group awaits. absurd (none-some g refused)
turn_leaves start h begin facts (refuses (call.Unlink k) key answer is permits none) = λ g other refused group awaits. absurd (none-some g refused)
turn_leaves start h begin facts (refuses (call.Cut k count) key answer is permits none) = λ g other refused group awaits. absurd (none-some g refused)
turn_leaves start h begin facts (refuses _ key answer is permits none) = absurd (none-some key is)
turn_leaves start h begin facts (changes (call.Link k) key is permits) = λ g other refused group awaits. absurd (none-some g refused)
turn_leaves start h begin facts (changes (call.Unlink k) key is permits) = λ g other refused group awaits. absurd (none-some g refused)
turn_leaves start h begin facts (changes (call.Cut k count) key is permits) = λ g other refused group awaits. absurd (none-some g refused)
turn_leaves start h begin facts (changes _ key is permits) = absurd (none-some key is)
turn_leaves start h begin facts (makes (call.Create n) other made is permits) = λ g key refused group awaits. absurd (none-some g refused)
turn_leaves start h begin facts (makes (call.Tmpfile n) other made is permits) = λ g key refused group awaits. absurd (none-some g refused)
turn_leaves start h begin facts (makes _ other made is permits) = absurd (none-some other is)
turn_leaves start h begin facts (is_answered call.Sync at answer is stands permits) = λ g key refused group awaits. absurd (none-some g refused)
turn_leaves start h begin facts (is_answered call.Home at answer is stands permits) = λ g key refused group awaits. absurd (none-some g refused)
turn_leaves start h begin facts (is_answered _ at answer is stands permits) = absurd (false≢true is)
turn_leaves start h begin facts _ = λ g key refused group awaits. absurd (none-some g refused)

-- ---- steps

module _ (start : Table) (h : History) (m : Memory) (a : ℕ) (made : Call) (at : Place) (begin : ℕ) (q later : List Key) (next : Option Place) (memory : Memory)
    (actor_is : actor_at m a ≡ record { doing = Some (record { call = made; place = at; «from» = begin }); queue = q }) (low : a < length m.actors) (actors : memory.actors ≡ m.actors) where
  -- a call that was not answered is not yet, or is the actor's own
  going_on : (x : Unfinished) → Contains (unfinished_from 0 m.actors) x
      → Contains (unfinished_from 0 (slice_set memory.actors a (after_turn made begin next later))) x ⊎ ((x ≡ record { actor = a; call = made; begin = begin }) × (reply_at at ≡ None))
  going_on x there = elim (others_stay 0 m.actors a (after_turn made begin next later) x there) [
    | inl stays ↦ inl (subst (λ (xs : List Actor). Contains (unfinished_from 0 (slice_set xs a (after_turn made begin next later))) x) (sym actors) stays)
    | inr own ↦
        let d_is : own.0 ≡ record { call = made; place = at; «from» = begin } = same_Some own.0 _ (sym own.1 ∙ ap (λ (y : Actor). y.doing) actor_is) in
        inr (own.2 ∙ (λ i. record { actor = zero_more a i; call = (d_is i).call; begin = (d_is i).«from» }), sym (ap (λ (d : Doing). reply_at d.place) d_is) ∙ own.3)
  ]
    where
      zero_more : (n : ℕ) → 0 + n ≡ n
      zero_more n = omega arith

  -- the call that goes on without an answer
  own_going : (onward : Place) → next ≡ Some onward → reply_at onward ≡ None → Contains (unfinished_from 0 (slice_set memory.actors a (after_turn made begin next later))) (record { actor = a; call = made; begin = begin })
  own_going onward is none =
      subst (λ (xs : List Actor). Contains (unfinished_from 0 (slice_set xs a (after_turn made begin next later))) (record { actor = a; call = made; begin = begin })) (sym actors)
      (subst (λ k. Contains (unfinished_from 0 (slice_set m.actors a (after_turn made begin next later))) (record { actor = k; call = made; begin = begin })) (omega arith)
      (own_stays 0 m.actors a (after_turn made begin next later) (record { call = made; place = onward; «from» = begin }) low (ap (λ (o : Option Place). (after_turn made begin o later).doing) is) none))

freed_reply : {t : Table} {m : Memory} {a : ℕ} {made : Call} {at : Place} {q later : List Key} {event : Event} {next : Option Place} {memory : Memory}
    → Turn t m a made at q (Some event) next later memory → OfFreed event (λ key. reply_at at ≡ None)
unfolding OfFreed
freed_reply (frees_one made g key others is group awaits) = refl
freed_reply (frees_head key keys awaits) = refl
freed_reply _ = tt

-- what becomes of the own call: it is answered now, or goes on
OwnTurn : Call → Option Event → Option Place → Type 0
OwnTurn made event next = ((answer : Reply) × (event ≡ Some (Called made answer))) ⊎ ((onward : Place) × (next ≡ Some onward) × (reply_at onward ≡ None))

own_onward : (made : Call) (was : Option Reply) (event : Option Event) (onward : Place) (is : Option Reply) → reply_at onward ≡ is → EntryTurn made was event is → was ≡ None → OwnTurn made event (Some onward)
unfolding OwnTurn
own_onward made was None onward is at (Silent _ same) none = inr (onward, refl, at ∙ same ∙ none)
own_onward made was _ onward is at (Answers answer _ had some) none = inl (answer, refl)
own_onward made was _ onward is at (Frees key _ had gone) none = inr (onward, refl, at ∙ gone)

own_end : (made : Call) (was : Option Reply) (event : Option Event) → EndTurn made was event → was ≡ None → OwnTurn made event None
unfolding OwnTurn
own_end made was None (Had answer is) none = absurd (none-some answer (sym none ∙ is))
own_end made was _ (Gets answer had) none = inl (answer, refl)

own_turn : {t : Table} {m : Memory} {a : ℕ} {made : Call} {at : Place} {q later : List Key} {event : Option Event} {memory : Memory} (next : Option Place)
    → Turn t m a made at q event next later memory → reply_at at ≡ None → OwnTurn made event next
own_turn {made = made} {at = at} {event = event} None turn none = own_end made (reply_at at) event (end_turn turn) none
own_turn {made = made} {at = at} {event = event} (Some onward) turn none = own_onward made (reply_at at) event onward (reply_at onward) refl (entry_turn turn) none

OfKey : (e : Event) (key : Key) (P : Key → Type 0) → e ≡ Freed key → OfFreed e P → P key
unfolding OfFreed
OfKey e key P is holds = subst (λ x. OfFreed x P) is holds

OfGcAnswer : (e : Event) (answer : Reply) (P : Type 0) → e ≡ Called call.Gc answer → OfGc e P → P
unfolding OfGc
OfGcAnswer e answer P is holds = subst (λ x. OfGc x P) is holds

module _ (start : Table) (h : History) (m : Memory) (a : ℕ) (made : Call) (at : Place) (begin : ℕ) (q later : List Key) (next : Option Place) (memory : Memory)
    (actor_is : actor_at m a ≡ record { doing = Some (record { call = made; place = at; «from» = begin }); queue = q }) (low : a < length m.actors) (actors : memory.actors ≡ m.actors)
    (facts : TurnFacts start h m a made at begin q) (between : Interval h.entries h.froms)
    (licensed : Licensed start h.entries h.froms (unfinished_from 0 m.actors)) where
  -- a step without an entry
  silent_licensed : Turn h.table m a made at q None next later memory → Licensed start h.entries h.froms (unfinished_from 0 (slice_set memory.actors a (after_turn made begin next later)))
  unfolding OwnTurn
  silent_licensed turn = record {
    frees = λ i b from key few at_i began.
        let free = licensed.frees i b from key few at_i began in (
          free.0,
          elim free.1 [
            | inl answered ↦ inl answered
            | inr going ↦ elim (going_on start h m a made at begin q later next memory actor_is low actors _ going) [
              | inl stays ↦ inr stays
              | inr own ↦ elim (own_turn next turn own.1) [
                | inl answer ↦ absurd (none-some _ answer.1)
                | inr onward ↦ inr (subst (λ (u : Unfinished). Contains (unfinished_from 0 (slice_set memory.actors a (after_turn made begin next later))) u) (sym own.0)
                    (own_going start h m a made at begin q later next memory actor_is low actors onward.0 onward.1 onward.2))
              ]
            ]
          ],
          free.2,
        );
    gc = licensed.gc;
    refused = licensed.refused;
  }

  module _ (event : Event) (turn : Turn h.table m a made at q (Some event) next later memory) where
    -- whose a free is, with one entry more
    belongs_still : (b i from : ℕ) (other : Call) → i < length h.entries → BelongsTo h.entries h.froms (unfinished_from 0 m.actors) b i from other
        → BelongsTo (h.entries ++ record { actor = a; event = event } ∷ []) (h.froms ++ begin ∷ []) (unfinished_from 0 (slice_set memory.actors a (after_turn made begin next later))) b i from other
    unfolding OwnTurn
    belongs_still b i from other few (inl answered) = inl (answered_still start h a begin event between.length_is b from i other answered)
    belongs_still b i from other few (inr going) = elim (going_on start h m a made at begin q later next memory actor_is low actors _ going) [
      | inl stays ↦ inr stays
      | inr own ↦ elim (own_turn next turn own.1) [
        | inl answer ↦ inl (own_answered answer.0 (same_Some event _ answer.1) own.0)
        | inr onward ↦ inr (subst (λ (u : Unfinished). Contains (unfinished_from 0 (slice_set memory.actors a (after_turn made begin next later))) u) (sym own.0)
            (own_going start h m a made at begin q later next memory actor_is low actors onward.0 onward.1 onward.2))
      ]
    ]
      where
        own_answered : (answer : Reply) → event ≡ Called made answer → ◌≡◌ {A = Unfinished} (record { actor = b; call = other; begin = from }) (record { actor = a; call = made; begin = begin })
            → (j : ℕ) × (i < j) × IsAnsweredAt (h.entries ++ record { actor = a; event = event } ∷ []) (h.froms ++ begin ∷ []) b from other j
        own_answered answer is same =
            subst (λ (u : Unfinished). (j : ℕ) × (i < j) × IsAnsweredAt (h.entries ++ record { actor = a; event = event } ∷ []) (h.froms ++ begin ∷ []) u.actor u.begin u.call j) (sym same)
            (subst (λ (e : Event). (j : ℕ) × (i < j) × IsAnsweredAt (h.entries ++ record { actor = a; event = e } ∷ []) (h.froms ++ begin ∷ []) a begin made j) (sym is)
            (answered_now h a begin made answer i between.length_is few))

    -- the free that is made now has its call in progress
    belongs_now : (key : Key) → event ≡ Freed key → reply_at at ≡ None → BelongsTo (h.entries ++ record { actor = a; event = event } ∷ []) (h.froms ++ begin ∷ []) (unfinished_from 0 (slice_set memory.actors a (after_turn made begin next later))) a (length h.entries) begin made
    unfolding OwnTurn
    belongs_now key is none = elim (own_turn next turn none) [
      | inl answer ↦ absurd (freed_called key made answer.0 (sym is ∙ same_Some event _ answer.1))
      | inr onward ↦ inr (own_going start h m a made at begin q later next memory actor_is low actors onward.0 onward.1 onward.2)
    ]
      where
        freed_called : (key : Key) (other : Call) (answer : Reply) → Freed key ≡ Called other answer → ⊥
        freed_called key other answer is = cc

    less_than : (i : ℕ) → i < length h.entries → i ≤ length h.entries
    less_than i few = omega (arith, few)

    from_low : (i from : ℕ) → i < length h.entries → slice_get h.froms i ≡ Some from → from ≤ length h.entries
    from_low i from few began = let early = between.between i from began in omega (arith, early, few)

    freed_now : (i b from : ℕ) (key : Key) → i ≡ length h.entries → ◌≡◌ {A = Entry} (record { actor = a; event = event }) (record { actor = b; event = Freed key }) → begin ≡ from
        → (other : Call) × BelongsTo (h.entries ++ record { actor = a; event = event } ∷ []) (h.froms ++ begin ∷ []) (unfinished_from 0 (slice_set memory.actors a (after_turn made begin next later))) b i from other × MayFree start (h.entries ++ record { actor = a; event = event } ∷ []) (h.froms ++ begin ∷ []) b i from key other
    freed_now i b from key i_is same from_is =
        let is : event ≡ Freed key = ap (λ (e : Entry). e.event) same in
        let none : reply_at at ≡ None = OfKey event key (λ k. reply_at at ≡ None) is (freed_reply turn) in
        let may : MayFree start h.entries h.froms a (length h.entries) begin key made =
        OfKey event key (λ k. MayFree start h.entries h.froms a (length h.entries) begin k made) is (turn_may start h begin facts turn) in
        let here : (other : Call) × BelongsTo (h.entries ++ record { actor = a; event = event } ∷ []) (h.froms ++ begin ∷ []) (unfinished_from 0 (slice_set memory.actors a (after_turn made begin next later))) a (length h.entries) begin other × MayFree start (h.entries ++ record { actor = a; event = event } ∷ []) (h.froms ++ begin ∷ []) a (length h.entries) begin key other =
        (made, belongs_now key is none, may_still start h a begin event between.length_is a (length h.entries) begin key made (omega arith) may) in
        subst (λ n. (other : Call) × BelongsTo (h.entries ++ record { actor = a; event = event } ∷ []) (h.froms ++ begin ∷ []) (unfinished_from 0 (slice_set memory.actors a (after_turn made begin next later))) b n from other × MayFree start (h.entries ++ record { actor = a; event = event } ∷ []) (h.froms ++ begin ∷ []) b n from key other) (sym i_is)
        (subst (λ n. (other : Call) × BelongsTo (h.entries ++ record { actor = a; event = event } ∷ []) (h.froms ++ begin ∷ []) (unfinished_from 0 (slice_set memory.actors a (after_turn made begin next later))) b (length h.entries) n other × MayFree start (h.entries ++ record { actor = a; event = event } ∷ []) (h.froms ++ begin ∷ []) b (length h.entries) n key other) from_is
        (subst (λ n. (other : Call) × BelongsTo (h.entries ++ record { actor = a; event = event } ∷ []) (h.froms ++ begin ∷ []) (unfinished_from 0 (slice_set memory.actors a (after_turn made begin next later))) n (length h.entries) begin other × MayFree start (h.entries ++ record { actor = a; event = event } ∷ []) (h.froms ++ begin ∷ []) n (length h.entries) begin key other) (ap (λ (e : Entry). e.actor) same) here))

    gone_now : (i : ℕ) (key : Key) → i ≡ length h.entries → row_of h.table key ≡ None → row_of (table_at start (h.entries ++ record { actor = a; event = event } ∷ []) i) key ≡ None
    gone_now i key i_is gone =
        ap (λ n. row_of (table_at start (h.entries ++ record { actor = a; event = event } ∷ []) n) key) i_is ∙ ap (λ t. row_of t key) (table_same start h a begin event between.length_is (length h.entries) (omega arith) ∙ facts.now) ∙ gone

    gc_now : (i b : ℕ) (key : Key) (answer : Reply) → i ≡ length h.entries → ◌≡◌ {A = Entry} (record { actor = a; event = event }) (record { actor = b; event = Called call.Gc answer })
        → Contains (queue_at start (h.entries ++ record { actor = a; event = event } ∷ []) i b) key → row_of (table_at start (h.entries ++ record { actor = a; event = event } ∷ []) i) key ≡ None
    gc_now i b key answer i_is same there =
        let is : event ≡ Called call.Gc answer = ap (λ (e : Entry). e.event) same in
        let there_now : Contains (queue_at start h.entries (length h.entries) a) key =
        subst (λ ks. Contains ks key) (ap (λ n. queue_at start (h.entries ++ record { actor = a; event = event } ∷ []) n b) i_is ∙ queue_same start h a begin event between.length_is (length h.entries) b (omega arith)
        ∙ ap (λ n. queue_at start h.entries (length h.entries) n) (sym (ap (λ (e : Entry). e.actor) same))) there in
        gone_now i key i_is (OfGcAnswer event answer _ is (turn_gc start h begin facts turn) key there_now)

    refused_now : (i from g : ℕ) (other : Entry) (key : Key) → i ≡ length h.entries → ◌≡◌ {A = Entry} (record { actor = a; event = event }) other → begin ≡ from → refused_group other.event ≡ Some g → group_number key ≡ g
        → IsSomeAnd (row_of (table_at start (h.entries ++ record { actor = a; event = event } ∷ []) from) key) Awaits → row_of (table_at start (h.entries ++ record { actor = a; event = event } ∷ []) i) key ≡ None
    refused_now i from g other key i_is same from_is refused group awaits =
        gone_now i key i_is (turn_leaves start h begin facts turn g key (ap (λ (e : Entry). refused_group e.event) same ∙ refused) group
        (subst (λ t. IsSomeAnd (row_of t key) Awaits) (ap (λ n. table_at start (h.entries ++ record { actor = a; event = event } ∷ []) n) (sym from_is) ∙ table_same start h a begin event between.length_is begin facts.right.begun) awaits))

    pub told_licensed : Licensed start (h.entries ++ record { actor = a; event = event } ∷ []) (h.froms ++ begin ∷ []) (unfinished_from 0 (slice_set memory.actors a (after_turn made begin next later)))
    told_licensed = record {
      frees = λ i b from key few at_i began. elim (get_push h.entries (record { actor = a; event = event }) _ i at_i) [
        | inl here ↦ elim (get_push h.froms begin from i began) [
          | inl before ↦
              let free = licensed.frees i b from key few here.1 before.1 in
              (free.0, belongs_still b i from free.0 here.0 free.1, may_still start h a begin event between.length_is b i from key free.0 (less_than i here.0) free.2)
          | inr last ↦ let early = here.0 in let late = last.0 in absurd (omega (arith, early, late, between.length_is))
        ]
        | inr now ↦ elim (get_push h.froms begin from i began) [
          | inl before ↦ let early = before.0 in let late = now.0 in absurd (omega (arith, early, late, between.length_is))
          | inr last ↦ freed_now i b from key now.0 (same_Some _ _ now.1) (same_Some begin from last.1)
        ]
      ];
      gc = λ i b key answer at_i there. elim (get_push h.entries (record { actor = a; event = event }) _ i at_i) [
        | inl here ↦
            subst (λ t. row_of t key ≡ None) (sym (table_same start h a begin event between.length_is i (less_than i here.0)))
            (licensed.gc i b key answer here.1 (subst (λ ks. Contains ks key) (queue_same start h a begin event between.length_is i b (less_than i here.0)) there))
        | inr now ↦ gc_now i b key answer now.0 (same_Some _ _ now.1) there
      ];
      refused = λ i from g other key at_i began refused group awaits. elim (get_push h.entries (record { actor = a; event = event }) other i at_i) [
        | inl here ↦ elim (get_push h.froms begin from i began) [
          | inl before ↦
              subst (λ t. row_of t key ≡ None) (sym (table_same start h a begin event between.length_is i (less_than i here.0)))
              (licensed.refused i from g other key here.1 before.1 refused group
              (subst (λ t. IsSomeAnd (row_of t key) Awaits) (table_same start h a begin event between.length_is from (from_low i from here.0 before.1)) awaits))
          | inr last ↦ let early = here.0 in let late = last.0 in absurd (omega (arith, early, late, between.length_is))
        ]
        | inr now ↦ elim (get_push h.froms begin from i began) [
          | inl before ↦ let early = before.0 in let late = now.0 in absurd (omega (arith, early, late, between.length_is))
          | inr last ↦ refused_now i from g other key now.0 (same_Some _ other now.1) (same_Some begin from last.1) refused group awaits
        ]
      ];
    }

-- ---- the law

pub queue_of_gc : (t : Table) (q whole : List Key) (made : Call) → made ≡ call.Gc → QueueIsRight (is_gc_call made) t q whole → PartOfQueue t q whole
queue_of_gc t q whole made is right = subst (λ c. QueueIsRight (is_gc_call c) t q whole) is right

by_event : (start : Table) (h : History) (m : Memory) (a : ℕ) (made : Call) (at : Place) (begin : ℕ) (q later : List Key) (next : Option Place) (memory : Memory)
    → actor_at m a ≡ record { doing = Some (record { call = made; place = at; «from» = begin }); queue = q } → a < length m.actors → memory.actors ≡ m.actors
    → TurnFacts start h m a made at begin q → Interval h.entries h.froms → Licensed start h.entries h.froms (unfinished_from 0 m.actors)
    → (event : Option Event) → Turn h.table m a made at q event next later memory
    → Licensed start (told_if a begin event h).entries (told_if a begin event h).froms (unfinished_from 0 (with_actor a (after_turn made begin next later) memory).actors)
by_event start h m a made at begin q later next memory actor_is low actors facts between licensed None turn =
    silent_licensed start h m a made at begin q later next memory actor_is low actors facts between licensed turn
by_event start h m a made at begin q later next memory actor_is low actors facts between licensed (Some event) turn =
    told_licensed start h m a made at begin q later next memory actor_is low actors facts between licensed event turn

pub licence_kept : (start : Table) (h : History) (m : Memory) (a : ℕ) (made : Call) (at : Place) (begin : ℕ) (q later : List Key) (event : Option Event) (next : Option Place) (memory : Memory)
    → TurnOf start h m a made at begin q event next later memory
    → Licensed start (told_if a begin event h).entries (told_if a begin event h).froms (unfinished_from 0 (with_actor a (after_turn made begin next later) memory).actors)
licence_kept start h m a made at begin q later event next memory turn =
    let facts : TurnFacts start h m a made at begin q = record {
      right = turn.right;
      queue = λ is. queue_of_gc h.table q (queue_at start h.entries (length h.entries) a) made is
          (subst (λ (x : Actor). QueueIsRight (is_gc x.doing) h.table x.queue (queue_at start h.entries (length h.entries) a)) turn.actor_is (turn.inv.actors a).queue);
      now = ap (λ (es : List Entry). after_entries start es) (take_all h.entries) ∙ sym (leads_after start h.table h.entries turn.inv.legal.leads);
    } in
    by_event start h m a made at begin q later next memory turn.actor_is turn.low (effect_actors (effect_of turn.inv.cached turn.turn)) facts turn.inv.intervals turn.inv.licensed event turn.turn
