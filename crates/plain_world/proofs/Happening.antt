-- What a table makes of an event that may happen.
use Rattle.std.proofs.Common.{◌≡◌, false, Option, None, Some, IfSome, IsSome, true≢false, refl, subst, sym}
use Rattle.life_table.specs.declared.types.Call.{Call}
use Rattle.life_table.specs.declared.types.Call.TheVariants as call
use Rattle.life_table.specs.declared.types.Reply.{Reply}
use Rattle.life_table.specs.declared.types.Event.{Event}
use Rattle.life_table.specs.declared.types.Event.TheVariants.{Called}
use Rattle.life_table.specs.declared.table.Table.{Table}
use Rattle.life_table.specs.Legal.{CanMake, IsOfTable, Legal, Permits, after_call}
use Rattle.life_table.specs.History.{after_event}
use Rattle.actor_world.specs.Moves.{is_log_call}
use Rattle.plain_world.specs.Happenings.{MayHappen}

-- the law that a call has one reply and leaves one table
abbrev pub OneReply : Type 0
OneReply = (t u v : Table) (called : Call) (first second : Reply) → IsOfTable called → Legal t called first u → Legal t called second v → (first ≡ second) × (u ≡ v)

of_table : (made : Call) → is_log_call made ≡ false → IsOfTable made
of_table (call.Create g) log = tt
of_table (call.Tmpfile g) log = tt
of_table (call.OpenKey key) log = tt
of_table (call.CloseKey key) log = tt
of_table (call.Link key) log = tt
of_table (call.Unlink key) log = tt
of_table (call.Grow key count) log = tt
of_table (call.Cut key count) log = tt
of_table (call.Stat key) log = tt
of_table call.Sync log = absurd (true≢false log)
of_table call.Home log = absurd (true≢false log)
of_table call.Gc log = tt
of_table (call.FlushInodes g) log = tt
of_table (call.Reclaim g) log = tt

one_table : (law : OneReply) (t u : Table) (made : Call) (answer : Reply) (said : Option Reply) → IsOfTable made → Permits t made answer
    → IfSome said (λ a. Legal t made a u) → IsSome said → u ≡ after_call t made answer
one_table law t u made answer None of permits legal some = absurd (true≢false (sym some))
one_table law t u made answer (Some a) of permits legal some = (law t u (after_call t made answer) made a answer of legal (permits, refl)).1

-- the table that the call of an event leaves which may happen
pub called_leaves : (law : OneReply) (t u : Table) (event : Event) (made : Call) (answer : Reply) (said : Option Reply) → event ≡ Called made answer
    → is_log_call made ≡ false → MayHappen t event → IfSome said (λ a. Legal t made a u) → (IsOfTable made → CanMake t made → IsSome said)
    → u ≡ after_event t event
called_leaves law t u event made answer said is log may legal able =
    let both : CanMake t made × Permits t made answer = subst (λ e. MayHappen t e) is may in
    let of : IsOfTable made = of_table made log in
    subst (λ e. u ≡ after_event t e) (sym is) (one_table law t u made answer said of both.1 legal (able of both.0))
