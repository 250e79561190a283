-- The turns of calls that change a row, make room or make an inode.
use Rattle.std.proofs.Common.{◌≡◌, ℕ, Bool, true, false, List, Option, None, Some, IfSome, IsSomeAnd, if◌then◌else◌, refl, sym, subst, ◌∙◌, arith}
use Rattle.std.proofs.lemmas.Option.{none-some, same_Some}
use Rattle.std.proofs.lemmas.Bool.{eq-eqb}
use Rattle.life_table.specs.declared.key.Key.{Key}
use Rattle.life_table.specs.declared.types.Row.{Row}
use Rattle.life_table.specs.declared.types.Call.{Call}
use Rattle.life_table.specs.declared.types.Call.TheVariants as call
use Rattle.life_table.specs.declared.types.Reply.{Reply}
use Rattle.life_table.specs.declared.types.Reply.TheVariants as reply
use Rattle.life_table.specs.declared.table.Table.{Table}
use Rattle.life_table.specs.Table.{group_number, row_of}
use Rattle.life_table.specs.Legal.{Awaits, Permits}
use Rattle.life_table.specs.Replies.{create_reply}
use Rattle.life_table.specs.History.{changed}
use Rattle.slot_words.specs.declared.word.Word.{Word}
use Rattle.slot_words.specs.Steps.{is_awaiting}
use Rattle.actor_world.specs.declared.memory.Place.{Place}
use Rattle.actor_world.specs.declared.memory.Place.TheVariants as place
use Rattle.actor_world.specs.declared.memory.Doing.{Doing}
use Rattle.actor_world.specs.declared.memory.Memory.{Memory}
use Rattle.actor_world.specs.Caches.{actor_at, cached_word, make_dirty, moved_to, put_word}
use Rattle.actor_world.specs.Moves.{answer_create, answers, change, change_move, create_move, dirtied, links_of, makes_unlinked, place_after_change, room_move, sets_mark, silent, with_rows_to_free, group_of_call}
use Rattle.actor_world.specs.Words.{InstallDue, KillDue, MarkDue}
use Rattle.actor_world.proofs.Sights.{installed_word, is_cached_as, killed_word, marked_word, pinned_is}
use Rattle.actor_world.proofs.Turns.{CanLock, Turned, changer_key, changes, frees_one, grow_refuses, grows, installs_made, kills, leaves, locks_short, maker_group, makes, makes_none, marks, refuses, room_group}
use Rattle.actor_world.proofs.TurnsFound.{ends, goes}

-- ---- link, unlink, cut

-- what a call on a row is answered is Done, or is no change
done_or_not : (t : Table) (made : Call) (key : Key) (answer : Reply) → changer_key made ≡ Some key → changed made answer ≡ true → answer ≡ reply.Done
done_or_not t (call.Link key) k reply.Done is changes_it = refl
done_or_not t (call.Unlink key) k reply.Done is changes_it = refl
done_or_not t (call.Cut key count) k reply.Done is changes_it = refl
done_or_not t (call.Create g) k answer is changes_it = absurd (none-some k is)
done_or_not t (call.Tmpfile g) k answer is changes_it = absurd (none-some k is)
done_or_not t (call.Grow key count) k answer is changes_it = absurd (none-some k is)
done_or_not t _ k _ is changes_it = let clash : false ≡ true = changes_it in cc

not_due : (made : Call) (key : Key) (answer : Reply) (links : ℕ) → changer_key made ≡ Some key → changed made answer ≡ false → place_after_change made answer links ≡ place.Leave answer
not_due (call.Link key) k reply.Done links is none = let clash : true ≡ false = none in cc
not_due (call.Unlink key) k reply.Done links is none = let clash : true ≡ false = none in cc
not_due (call.Cut key count) k reply.Done links is none = let clash : true ≡ false = none in cc
not_due _ k _ links is none = refl

pub change_turn : (t : Table) (m : Memory) (a : ℕ) (queue : List Key) (begin : ℕ) → (actor_at m a).queue ≡ queue → (made : Call) (key : Key) (answer : Reply)
    → changer_key made ≡ Some key → Permits t made answer
    → Turned t m a made place.Change begin queue (change key answer a (record { call = made; place = place.Change; «from» = begin }) t m)
change_turn t m a queue begin queue_is made key answer is permits =
    let d : Doing = record { call = made; place = place.Change; «from» = begin } in
    let Goal : Reply → Bool → Type 0 = λ r b. Turned t m a made place.Change begin queue
    (answers d r (moved_to a d (place_after_change made r (links_of (row_of t key))) (if b then make_dirty key.number m else m))) in
    elim (changed made answer) as (λ b. changed made answer ≡ b → Goal answer b) [
      | true ↦ λ done.
          let done_is : answer ≡ reply.Done = done_or_not t made key answer is done in
          subst (λ r. Goal r true) (sym done_is) (goes _ _ _ (changes made key is (subst (Permits t made) done_is permits)) queue_is)
      | false ↦ λ none.
          subst (λ (p : Place). Turned t m a made place.Change begin queue (answers d answer (moved_to a d p m))) (sym (not_due made key answer (links_of (row_of t key)) is none))
          (goes _ _ _ (refuses made key answer is permits none) queue_is)
    ] refl

pub mark_turn : (t : Table) (m : Memory) (a : ℕ) (queue : List Key) (begin : ℕ) → (actor_at m a).queue ≡ queue → (made : Call) (key : Key) (answer : Reply) (row : Row)
    → changer_key made ≡ Some key → MarkDue made t m key row
    → IfSome (change_move key (place.Mark answer) a (record { call = made; place = place.Mark answer; «from» = begin }) t m) (Turned t m a made (place.Mark answer) begin queue)
mark_turn t m a queue begin queue_is made key answer row is due =
    let d : Doing = record { call = made; place = place.Mark answer; «from» = begin } in
    let word : Word = cached_word m key.number in
    subst (λ (o : Option Word). Turned t m a made (place.Mark answer) begin queue (silent (moved_to a d (place.Leave answer) (put_word key.number o m))))
    (sym (marked_word (sets_mark made) word (pinned_is word due.live (omega (arith, due.pins, due.some)))))
    (goes _ _ _ (marks made key row answer is due) queue_is)

-- ---- making room

pub kill_awaits : (t : Table) (m : Memory) (key : Key) → KillDue t m key → is_awaiting key.generation (cached_word m key.number) ≡ true
kill_awaits t m key due =
    let cached = is_cached_as key.generation (cached_word m key.number) (record { live = due.live; generation_is = due.generation }) in
    rw (cached, due.mark, eq-eqb (cached_word m key.number).pins 0 due.pins)

pub kill_turn : (t : Table) (m : Memory) (a : ℕ) (queue : List Key) (begin : ℕ) → (actor_at m a).queue ≡ queue → (made : Call) (g : ℕ) (key : Key) (others : List Key)
    → room_group made ≡ Some g → KillDue t m key
    → IfSome (room_move g (place.Kill key others) a (record { call = made; place = place.Kill key others; «from» = begin }) t m) (Turned t m a made (place.Kill key others) begin queue)
kill_turn t m a queue begin queue_is made g key others is due =
    subst (λ (o : Option Word). Turned t m a made (place.Kill key others) begin queue
    (silent (moved_to a (record { call = made; place = place.Kill key others; «from» = begin }) (with_rows_to_free others) (put_word key.number o m))))
    (sym (killed_word key.generation (cached_word m key.number) (kill_awaits t m key due)))
    (goes _ _ _ (kills made g key others is due) queue_is)

-- what is so of a call's place under its lock, as far as its moves look at it
pub record RoomFacts (t : Table) (m : Memory) (queue : List Key) (made : Call) (at : Place) : Type 0 where
  pub lock : (g : ℕ) → room_group made ≡ Some g → at ≡ place.LockShort → CanLock m g
  pub free : (key : Key) (others : List Key) → at ≡ place.Free key others → IsSomeAnd (row_of t key) Awaits × (Some (group_number key) ≡ group_of_call queue made)
  pub kill : (key : Key) (others : List Key) → at ≡ place.Kill key others → KillDue t m key

pub room_turn : (t : Table) (m : Memory) (a : ℕ) (queue : List Key) (begin : ℕ) → (actor_at m a).queue ≡ queue → (made : Call) (g : ℕ) → room_group made ≡ Some g
    → group_of_call queue made ≡ Some g → (at : Place) → RoomFacts t m queue made at
    → IfSome (room_move g at a (record { call = made; place = at; «from» = begin }) t m) (Turned t m a made at begin queue)
room_turn t m a queue begin queue_is made g is group place.LockShort facts = goes _ _ _ (locks_short made g is (facts.lock g is refl)) queue_is
room_turn t m a queue begin queue_is made g is group (place.Free key others) facts =
    let free = facts.free key others refl in
    goes _ _ _ (frees_one made g key others is (same_Some (group_number key) g (free.1 ∙ group)) free.0) queue_is
room_turn t m a queue begin queue_is made g is group (place.Kill key others) facts = kill_turn t m a queue begin queue_is made g key others is (facts.kill key others refl)
room_turn t m a queue begin queue_is made g is group (place.Leave answer) facts = ends _ _ (leaves made answer g group) queue_is
room_turn t m a queue begin queue_is made g is group _ facts = tt

-- ---- grow

grow_done : (key : Key) (count : ℕ) (answer : Reply) → changed (call.Grow key count) answer ≡ true → answer ≡ reply.Done
grow_done key count reply.Done is = refl
grow_done key count _ is = let clash : false ≡ true = is in cc

pub grow_answer : (t : Table) (m : Memory) (a : ℕ) (queue : List Key) (begin : ℕ) → (actor_at m a).queue ≡ queue → (key : Key) (count : ℕ) (answer : Reply)
    → Permits t (call.Grow key count) answer
    → Turned t m a (call.Grow key count) place.Answer begin queue
    (answers (record { call = call.Grow key count; place = place.Answer; «from» = begin }) answer
    (moved_to a (record { call = call.Grow key count; place = place.Answer; «from» = begin }) (place.Leave answer) (dirtied key (call.Grow key count) answer m)))
grow_answer t m a queue begin queue_is key count answer permits =
    let d : Doing = record { call = call.Grow key count; place = place.Answer; «from» = begin } in
    let Goal : Reply → Bool → Type 0 = λ r b. Turned t m a (call.Grow key count) place.Answer begin queue (answers d r (moved_to a d (place.Leave r) (if b then make_dirty key.number m else m))) in
    elim (changed (call.Grow key count) answer) as (λ b. changed (call.Grow key count) answer ≡ b → Goal answer b) [
      | true ↦ λ done.
          let done_is : answer ≡ reply.Done = grow_done key count answer done in
          subst (λ r. Goal r true) (sym done_is) (goes _ _ _ (grows key count (subst (Permits t (call.Grow key count)) done_is permits)) queue_is)
      | false ↦ λ none. goes _ _ _ (grow_refuses key count answer permits none) queue_is
    ] refl

-- ---- create and tmpfile

pub create_answer : (t : Table) (m : Memory) (a : ℕ) (queue : List Key) (begin : ℕ) → (actor_at m a).queue ≡ queue → (made : Call) (g : ℕ) → maker_group made ≡ Some g
    → (o : Option Key) → Permits t made (create_reply o)
    → Turned t m a made place.Answer begin queue (answer_create (create_reply o) a (record { call = made; place = place.Answer; «from» = begin }) m)
create_answer t m a queue begin queue_is made g is None permits = goes _ _ _ (makes_none made g is permits) queue_is
create_answer t m a queue begin queue_is made g is (Some key) permits = goes _ _ _ (makes made g key is permits) queue_is

pub install_made_turn : (t : Table) (m : Memory) (a : ℕ) (queue : List Key) (begin : ℕ) → (actor_at m a).queue ≡ queue → (made : Call) (g : ℕ) (key : Key) (row : Row)
    → maker_group made ≡ Some g → InstallDue made t m key row
    → IfSome (create_move g (place.InstallMade key) a (record { call = made; place = place.InstallMade key; «from» = begin }) t m) (Turned t m a made (place.InstallMade key) begin queue)
install_made_turn t m a queue begin queue_is made g key row is due =
    let d : Doing = record { call = made; place = place.InstallMade key; «from» = begin } in
    subst (λ (o : Option Word). Turned t m a made (place.InstallMade key) begin queue (silent (moved_to a d (place.Leave (reply.Made key)) (put_word key.number o m))))
    (sym (installed_word key.generation (makes_unlinked made) (cached_word m key.number) due.dead))
    (goes _ _ _ (installs_made made g key row is due) queue_is)
