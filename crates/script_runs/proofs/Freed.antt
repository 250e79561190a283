-- What a history that only frees rows comes to: the table behind it, and nobody who holds an inode.
use Rattle.std.proofs.Common.{◌≡◌, ◌∙◌, ◌==◌, ◌&&◌, ℕ, Bool, true, false, List, [], ◌∷◌, refl, sym, ap, arith}
use Rattle.std.specs.Prelude.{nat_lt}
use Rattle.std.specs.List.{count_by}
use Rattle.life_table.specs.declared.key.Key.{Key}
use Rattle.life_table.specs.declared.types.Event.{Event}
use Rattle.life_table.specs.declared.types.Event.TheVariants.{Called, Freed}
use Rattle.life_table.specs.declared.types.Entry.{Entry}
use Rattle.life_table.specs.declared.table.Table.{Table}
use Rattle.life_table.specs.History.{Happens, Leads, after_entries, after_event, frees_of, holds, takes_hold}
use Rattle.actor_holds.specs.Holds.{AreHolds, AreSteady}

-- ---- the table

happens_after : (t u : Table) (event : Event) → Happens t event u → u ≡ after_event t event
happens_after t u (Called made answer) happens = happens.1
happens_after t u (Freed key) happens = happens.1

pub leads_after : (t u : Table) (entries : List Entry) → Leads t entries u → after_entries t entries ≡ u
leads_after t u [] leads = sym leads
leads_after t u (entry ∷ entries) (next, here, rest) =
    ap (λ (x : Table). after_entries x entries) (sym (happens_after t next entry.event here)) ∙ leads_after next u entries rest

-- ---- the holds

and_false : (b : Bool) → (b && false) ≡ false
and_false true = refl
and_false false = refl

takes_none : (of actor : ℕ) (key : Key) (keys : List Key) → count_by (λ (entry : Entry). (entry.actor == actor) && takes_hold key entry.event) (frees_of of keys) ≡ 0
takes_none of actor key [] = refl
takes_none of actor key (one ∷ keys) = grind (arith, and_false (of == actor), takes_none of actor key keys)

pub frees_hold_none : (of actor : ℕ) (key : Key) (keys : List Key) → holds (frees_of of keys) actor key ≡ 0
frees_hold_none of actor key keys = omega (arith, takes_none of actor key keys)

pub frees_are_steady : (of : ℕ) (keys : List Key) → AreSteady (frees_of of keys)
frees_are_steady of [] = tt
frees_are_steady of (key ∷ keys) = (tt, frees_are_steady of keys)

pub frees_are_held : (of : ℕ) (keys : List Key) (held : List (ℕ × ℕ × ℕ)) → AreHolds [] held → AreHolds (frees_of of keys) held
frees_are_held of keys held are = record {
  steady = frees_are_steady of keys;
  each = λ actor key. are.each actor key ∙ ap (λ (n : ℕ). nat_lt 0 n) (sym (frees_hold_none of actor key keys));
  once = are.once;
}
