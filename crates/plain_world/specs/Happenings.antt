-- What may happen to a table.
use Rattle.std.specs.Prelude.{⊤, Option, None, Some, IsSomeAnd}
use Rattle.life_table.specs.declared.types.Event.{Event}
use Rattle.life_table.specs.declared.types.Event.TheVariants.{Called, Freed}
use Rattle.life_table.specs.declared.table.Table.{Table}
use Rattle.life_table.specs.Table.{row_of}
use Rattle.life_table.specs.Legal.{Awaits, CanMake, Permits}

-- a call that somebody may make is answered as the table permits; a row that awaits is freed
abbrev pub MayHappen : Table → Event → Type 0
MayHappen t (Called made answer) = CanMake t made × Permits t made answer
MayHappen t (Freed key) = IsSomeAnd (row_of t key) Awaits

abbrev pub MayHappenIf : Table → Option Event → Type 0
MayHappenIf t None = ⊤
MayHappenIf t (Some event) = MayHappen t event
