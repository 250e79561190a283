-- What calls come to.
use Rattle.std.proofs.Common.{◌≡◌, Option, None, Some, IsSomeAnd, refl}
use Rattle.life_table.specs.declared.types.Row.{Row}
use Rattle.life_table.specs.Legal.{Awaits}

pub awaiting_row : (o : Option Row) → IsSomeAnd o Awaits → (row : Row) × (o ≡ Some row)
awaiting_row None awaits = absurd awaits
awaiting_row (Some row) awaits = (row, refl)
