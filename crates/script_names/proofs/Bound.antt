-- Names after one binding more.
use Rattle.std.proofs.Common.{◌≡◌, ◌∷◌, ℕ, List, Option, Some, ap, ◌∙◌, if◌then◌else◌}
use Rattle.std.specs.Str.{bytes_eq}
use Rattle.life_table.specs.declared.key.Key.{Key}
use Rattle.run_history.specs.States.{Binding}
use Rattle.script_names.specs.Bindings.{AreNames, found}

-- names that have a key more at a name represent the list with that binding in front
pub bound_more : (bound : List Binding) (name : List ℕ) (key : Key) (old new : List (List ℕ × Key)) → AreNames bound old
    → ((other : List ℕ) → found new other ≡ (if bytes_eq other name then Some key else found old other)) → AreNames (record { name = name; key = key } ∷ bound) new
bound_more bound name key old new are updates other = updates other ∙ ap (λ (o : Option Key). if bytes_eq other name then Some key else o) (are other)
