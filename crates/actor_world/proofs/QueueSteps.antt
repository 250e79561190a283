-- After a step the groups of the keys that wait for a gc are there.
use Rattle.std.proofs.Common.{◌≡◌, ◌<◌, ◌++◌, inl, inr, ℕ, true, false, List, [], ◌∷◌, Option, None, Some, if◌then◌else◌, length, sym, ap, subst, ◌∙◌}
use Rattle.std.specs.List.{AllByRecursion}
use Rattle.std.proofs.lemmas.Bool.{cases_eq}
use Rattle.life_table.specs.declared.key.Key.{Key}
use Rattle.life_table.specs.declared.types.Row.{Row}
use Rattle.life_table.specs.declared.types.Call.{Call}
use Rattle.life_table.specs.declared.types.Event.{Event}
use Rattle.life_table.specs.declared.table.Table.{Table}
use Rattle.life_table.specs.Table.{group_number, inode_of, row_of}
use Rattle.life_table.specs.WellFormed.{IsTable}
use Rattle.actor_world.specs.declared.memory.Place.{Place}
use Rattle.actor_world.specs.declared.memory.Actor.{Actor}
use Rattle.actor_world.specs.declared.memory.Memory.{Memory}
use Rattle.actor_world.specs.Caches.{actor_at, cached_word, idle_actor, with_actor}
use Rattle.actor_world.specs.Moves.{is_last_release}
use Rattle.actor_world.specs.World.{History}
use Rattle.actor_world.specs.Invariant.{IsShaped}
use Rattle.actor_world.proofs.Effects.{effect_actors, effect_of, effect_shape}
use Rattle.actor_world.proofs.Geometry.{is_placed}
use Rattle.actor_world.proofs.Lists.{all_push, read_other, read_same}
use Rattle.actor_world.proofs.LiveWords.{has_inode}
use Rattle.actor_world.proofs.StepTurns.{TurnOf}
use Rattle.actor_world.proofs.Turns.{Turn, after_turn, passes, passes_last, unpins}

abbrev pub AreThere : ℕ → List Key → Type 0
AreThere groups keys = AllByRecursion (λ (key : Key). group_number key < groups) keys

row_there : (t : Table) (m : Memory) (key : Key) (row : Row) → IsTable t → IsShaped t m → row_of t key ≡ Some row → group_number key < length m.groups
row_there t m key row ok shaped is =
    let has = has_inode (inode_of t key.number) key.generation row is in
    subst (λ n. group_number key < n) (sym shaped.groups) (is_placed t key.number has.inode ok has.at).group

queue_turn : {t : Table} {m : Memory} {a : ℕ} {made : Call} {at : Place} {q later : List Key} {event : Option Event} {next : Option Place} {memory : Memory}
    → IsTable t → IsShaped t m → AreThere (length m.groups) q → Turn t m a made at q event next later memory → AreThere (length m.groups) later
queue_turn {t = t} {m = m} {q = q} ok shaped all (unpins key held) =
    elim (is_last_release (cached_word m key.number)) as (λ b. AreThere (length m.groups) (if b then q ++ key ∷ [] else q)) [
      | true ↦ all_push (λ (k : Key). group_number k < length m.groups) q key all (row_there t m key held.row ok shaped held.row_is)
      | false ↦ all
    ]
queue_turn ok shaped all (passes_last key) = tt
queue_turn ok shaped all (passes key onward keys) = all.1
queue_turn ok shaped all _ = all

pub there_kept : (start : Table) (h : History) (m : Memory) (a : ℕ) (made : Call) (at : Place) (begin : ℕ) (q later : List Key) (event : Option Event) (next : Option Place) (memory : Memory)
    → IsTable h.table → TurnOf start h m a made at begin q event next later memory → (b : ℕ)
    → AreThere (length memory.groups) (actor_at (with_actor a (after_turn made begin next later) memory) b).queue
there_kept start h m a made at begin q later event next memory ok turn b =
    let effect = effect_of turn.inv.cached turn.turn in
    let actors = effect_actors effect in
    let count = (effect_shape effect).count in
    let low : a < length memory.actors = subst (λ (xs : List Actor). a < length xs) (sym actors) turn.low in
    let x : Actor = after_turn made begin next later in
    subst (λ n. AreThere n (actor_at (with_actor a x memory) b).queue) (sym count)
    (elim (cases_eq b a) [
      | inl same ↦
          let all = subst (λ (y : Actor). AreThere (length m.groups) y.queue) turn.actor_is (turn.inv.actors a).there in
          subst (λ (y : Actor). AreThere (length m.groups) y.queue) (sym (ap (λ n. actor_at (with_actor a x memory) n) same ∙ read_same memory.actors a x idle_actor low))
          (own_queue made begin next later (length m.groups) (queue_turn ok turn.inv.shaped all turn.turn))
      | inr apart ↦
          subst (λ (y : Actor). AreThere (length m.groups) y.queue) (sym (read_other memory.actors a b x idle_actor apart ∙ ap (λ (xs : List Actor). actor_at (record { actors = xs; groups = m.groups }) b) actors))
          (turn.inv.actors b).there
    ])
  where
    own_queue : (made : Call) (begin : ℕ) (next : Option Place) (later : List Key) (n : ℕ) → AreThere n later → AreThere n (after_turn made begin next later).queue
    own_queue made begin next later n all = elim next as (λ (o : Option Place). AreThere n (after_turn made begin o later).queue) [ None ↦ all | Some onward ↦ all ]
