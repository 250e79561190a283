-- Holds of actors in a list, and the entries that they come of.
use Rattle.std.specs.Prelude.{◌≡◌, ◌==◌, ◌&&◌, ⊤, ℕ, Bool, List, Option, None, Some, nat_lt}
use Rattle.std.specs.List.{AllByRecursion, list_any}
use Rattle.std.specs.List.Sorted.{IsStrictlySortedBy}
use Rattle.std.specs.Ordering.{nat_cmp, ordering_then}
use Rattle.std.specs.declared.cmp.Ordering.{Ordering}
use Rattle.life_table.specs.declared.key.Key.{Key}
use Rattle.life_table.specs.declared.types.Call.TheVariants as call
use Rattle.life_table.specs.declared.types.Reply.TheVariants as reply
use Rattle.life_table.specs.declared.types.Event.{Event}
use Rattle.life_table.specs.declared.types.Event.TheVariants.{Called, Freed}
use Rattle.life_table.specs.declared.types.Entry.{Entry}
use Rattle.life_table.specs.Legal.{IsNoHold}
use Rattle.life_table.specs.History.{holds}

-- an event that opens and closes nothing: a hold is taken by who makes an inode alone, and none is given up
abbrev pub IsSteady : Event → Type 0
IsSteady (Called made answer) = IsNoHold made
IsSteady (Freed key) = ⊤

abbrev pub AreSteady : List Entry → Type 0
AreSteady entries = AllByRecursion (λ (entry : Entry). IsSteady entry.event) entries

-- the key on which such an event gives its actor a hold
abbrev pub key_taken : Event → Option Key
key_taken (Called (call.Create g) (reply.Made key)) = Some key
key_taken (Called (call.Tmpfile g) (reply.Made key)) = Some key
key_taken event = None

-- whether an element is the hold of this actor on this key
abbrev pub is_hold : ℕ → Key → ℕ × ℕ × ℕ → Bool
is_hold actor key hold = ((actor == hold.0) && (key.number == hold.1)) && (key.generation == hold.2)

-- whether the actor holds the key
abbrev pub is_held : List (ℕ × ℕ × ℕ) → ℕ → Key → Bool
is_held held actor key = list_any (is_hold actor key) held

-- the order of holds: by actor, then by number, then by generation
abbrev pub hold_order : ℕ × ℕ × ℕ → ℕ × ℕ × ℕ → Ordering
hold_order x y = ordering_then (ordering_then (nat_cmp x.0 y.0) (nat_cmp x.1 y.1)) (nat_cmp x.2 y.2)

-- The list has exactly the holds that there are after these entries, each once. The entries open and close nothing.
pub record AreHolds (entries : List Entry) (held : List (ℕ × ℕ × ℕ)) : Type 0 where
  pub steady : AreSteady entries
  pub each : (actor : ℕ) (key : Key) → is_held held actor key ≡ nat_lt 0 (holds entries actor key)
  pub once : IsStrictlySortedBy hold_order held
