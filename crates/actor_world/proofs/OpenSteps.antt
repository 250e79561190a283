-- The first two steps of an open.
use Rattle.std.proofs.Common.{◌≡◌, ap, ◌∙◌, ℕ, true, Some, if◌then◌else◌}
use Rattle.life_table.specs.declared.key.Key.{Key}
use Rattle.life_table.specs.declared.types.Reply.TheVariants as reply
use Rattle.life_table.specs.declared.table.Table.{Table}
use Rattle.slot_words.specs.declared.sight.Sight.TheVariants as sight
use Rattle.slot_words.specs.Steps.{sight_of}
use Rattle.actor_world.specs.declared.memory.Place.TheVariants as place
use Rattle.actor_world.specs.declared.memory.Doing.{Doing}
use Rattle.actor_world.specs.declared.memory.Memory.{Memory}
use Rattle.actor_world.specs.Caches.{moved_to, cached_word, ended, is_of_geometry}
use Rattle.actor_world.specs.Moves.{answers, open_move, pinned, saw, silent}
use Rattle.actor_world.proofs.Sights.{same_word_self}

pub sees_open : (key : Key) (a : ℕ) (doing : Doing) (t : Table) (m : Memory) → is_of_geometry t key.number ≡ true
    → sight_of key.generation (cached_word m key.number) ≡ sight.Open
    → open_move key place.Load a doing t m ≡ Some (silent (moved_to a doing (place.Pin (cached_word m key.number)) m))
sees_open key a doing t m inside open_ =
    ap (λ b. Some (if b then saw (sight_of key.generation (cached_word m key.number)) (cached_word m key.number) a doing m else answers doing reply.Stale (ended a m))) inside
    ∙ ap (λ s. Some (saw s (cached_word m key.number) a doing m)) open_

pub ends_there : (key : Key) (a : ℕ) (doing : Doing) (t : Table) (m : Memory)
    → open_move key (place.Pin (cached_word m key.number)) a doing t m ≡ Some (answers doing reply.Done (ended a (pinned key m)))
ends_there key a doing t m =
    ap (λ b. Some (if b then answers doing reply.Done (ended a (pinned key m)) else silent (moved_to a doing place.Find m))) (same_word_self (cached_word m key.number))
