-- Names in a map, and the list of bindings that they stand for.
use Rattle.std.specs.Prelude.{◌≡◌, ℕ, List, [], ◌∷◌, Option, None, Some, if◌then◌else◌, map}
use Rattle.std.specs.Str.{bytes_eq}
use Rattle.std.specs.declared.vec.Vec.{Vec}
use Rattle.life_table.specs.declared.key.Key.{Key}
use Rattle.life_table.specs.declared.types.Reply.TheVariants as reply
use Rattle.life_table.specs.declared.types.Event.{Event}
use Rattle.life_table.specs.declared.types.Event.TheVariants.{Called}
use Rattle.life_table.specs.declared.types.Entry.{Entry}
use Rattle.run_history.specs.States.{Binding, key_bound}

-- the entries of a map whose keys are vectors of bytes, each with its bytes
abbrev pub pairs : {Y : Type 0} → List (Vec ℕ Y × Key) → List (List ℕ × Key)
pairs entries = map (λ e. (e.0.items, e.1)) entries

-- the key that pairs have at the bytes of a name
abbrev pub found : List (List ℕ × Key) → List ℕ → Option Key
found [] name = None
found (e ∷ es) name = if bytes_eq name e.0 then Some e.1 else found es name

-- each name is found with the key that its newest binding in the list has
abbrev pub AreNames : List Binding → List (List ℕ × Key) → Type 0
AreNames bound names = (name : List ℕ) → found names name ≡ key_bound bound name

-- the key that an event made, and an entry
abbrev pub made_by : Event → Option Key
made_by (Called made (reply.Made key)) = Some key
made_by event = None

abbrev pub key_made : Option Entry → Option Key
key_made None = None
key_made (Some entry) = made_by entry.event
