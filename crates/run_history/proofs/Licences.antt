-- Entries that need no licence: creates that made something, and calls that are never refused for want of room.
use Rattle.std.proofs.Common.{◌≡◌, ℕ, zero, suc, List, [], ◌∷◌, Some, subst}
use Rattle.std.specs.Prelude.{⊤, slice_get}
use Rattle.std.specs.List.{AllByRecursion}
use Rattle.life_table.specs.declared.types.Call.TheVariants as call
use Rattle.life_table.specs.declared.types.Reply.TheVariants as reply
use Rattle.life_table.specs.declared.types.Event.{Event}
use Rattle.life_table.specs.declared.types.Event.TheVariants.{Called}
use Rattle.life_table.specs.declared.types.Entry.{Entry}
use Rattle.life_table.specs.declared.table.Table.{Table}
use Rattle.actor_world.specs.Licence.{Licensed, Unfinished, refused_group}

abbrev pub IsPlain : Event → Type 0
IsPlain (Called (call.Create g) (reply.Made key)) = ⊤
IsPlain (Called call.Sync answer) = ⊤
IsPlain (Called (call.Unlink key) answer) = ⊤
IsPlain (Called (call.OpenKey key) answer) = ⊤
IsPlain (Called (call.Stat key) answer) = ⊤
IsPlain event = ⊥

pub at_all : {X : Type 0} (P : X → Type 0) (xs : List X) (i : ℕ) (x : X) → AllByRecursion P xs → slice_get xs i ≡ Some x → P x
at_all P [] i x all is = absurd cc
at_all P (y ∷ ys) zero x all is = let e : y ≡ x = cc in subst P e all.0
at_all P (y ∷ ys) (suc i) x all is = at_all P ys i x all.1 is

refuses_nothing : (event : Event) (g : ℕ) → IsPlain event → refused_group event ≡ Some g → ⊥
refuses_nothing (Called (call.Create group) (reply.Made key)) g plain is = cc
refuses_nothing (Called call.Sync answer) g plain is = cc
refuses_nothing (Called (call.Unlink key) answer) g plain is = cc
refuses_nothing (Called (call.OpenKey key) answer) g plain is = cc
refuses_nothing (Called (call.Stat key) answer) g plain is = cc
refuses_nothing event g plain is = absurd plain

pub plain_licensed : (start : Table) (entries : List Entry) (froms : List ℕ) (unfinished : List Unfinished) → AllByRecursion (λ (entry : Entry). IsPlain entry.event) entries
    → Licensed start entries froms unfinished
plain_licensed start entries froms unfinished plain = record {
  frees = λ i a begin key below is from_is. absurd (at_all (λ (entry : Entry). IsPlain entry.event) entries i _ plain is);
  gc = λ i a key answer is waits. absurd (at_all (λ (entry : Entry). IsPlain entry.event) entries i _ plain is);
  refused = λ i begin g entry key is from_is refused group awaits. absurd (refuses_nothing entry.event g (at_all (λ (one : Entry). IsPlain one.event) entries i entry plain is) refused);
}
