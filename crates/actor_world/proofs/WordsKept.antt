-- After a step no word lies but those that a lock's holder is about to mend.
use Rattle.std.proofs.Common.{◌≡◌, ◌≢◌, ◌<◌, ◌/◌, inl, inr, ℕ, List, [], ◌∷◌, Option, None, Some, length, refl, sym, ap, subst, ◌∙◌}
use Rattle.std.specs.Prelude.{◌↔◌}
use Rattle.std.proofs.lemmas.Option.{none-some}
use Rattle.std.proofs.lemmas.Bool.{cases_eq}
use Rattle.life_limits.specs.declared.TheConstants.{GROUP_NUMBERS}
use Rattle.life_table.specs.declared.key.Key.{Key}
use Rattle.life_table.specs.declared.types.Call.{Call}
use Rattle.life_table.specs.declared.types.Event.{Event}
use Rattle.life_table.specs.declared.types.Event.TheVariants.{Called}
use Rattle.life_table.specs.declared.types.Entry.{Entry}
use Rattle.life_table.specs.declared.table.Table.{Table}
use Rattle.life_table.specs.Legal.{after_call}
use Rattle.actor_world.specs.declared.memory.Place.{Place}
use Rattle.actor_world.specs.declared.memory.Actor.{Actor}
use Rattle.actor_world.specs.declared.memory.Memory.{Memory}
use Rattle.actor_world.specs.Caches.{actor_at, cache_at, idle_actor, with_actor}
use Rattle.actor_world.specs.World.{History, told_if}
use Rattle.actor_world.specs.Words.{due_number}
use Rattle.actor_world.specs.Invariant.{LiesInGroup, WordIsRight, due_of_actor, due_of_holder}
use Rattle.actor_world.proofs.Lists.{read_other, read_same}
use Rattle.actor_world.proofs.Prepares.{LowestIsFree, made_is}
use Rattle.actor_world.proofs.Slots.{placed_has_slot}
use Rattle.actor_world.proofs.StepTurns.{TurnOf}
use Rattle.actor_world.proofs.Turns.{after_turn}
use Rattle.actor_world.proofs.TurnsFound.{Laws, row_has_slot, table_now}
use Rattle.actor_world.proofs.Within.{Within}
use Rattle.actor_world.proofs.WordsStill.{WordFacts, still}
use Rattle.actor_world.proofs.WordTurns.{mended, table_after}

pub word_facts : Laws → LowestIsFree → (start : Table) (h : History) (m : Memory) → Within start h m → WordFacts h.table m
word_facts laws free start h m inv =
    let ok = table_now laws start h m inv in
    record {
      has = λ key row is. row_has_slot h.table m key row ok is (placed_has_slot h.table m key.number inv.shaped);
      ok = ok;
      made = λ g key links next later. made_is free h.table g key links next later;
      legal = λ made answer permits.
          let entry : Entry = record { actor = 0; event = Called made answer } in
          laws.history h.table (after_call h.table made answer) (entry ∷ []) ok (after_call h.table made answer, (permits, refl), refl);
    }

pub told_table : (h : History) (a begin : ℕ) (event : Option Event) → table_after h.table event ≡ (told_if a begin event h).table
told_table h a begin None = refl
told_table h a begin (Some event) = refl

-- what the holder of a lock is about to mend
module _ (start : Table) (h : History) (m : Memory) (a : ℕ) (made : Call) (at : Place) (begin : ℕ) (q later : List Key) (event : Option Event) (next : Option Place) (memory : Memory)
    (facts : WordFacts h.table m) (turn : TurnOf start h m a made at begin q event next later memory) (actors : memory.actors ≡ m.actors)
    (locks : (g b : ℕ) → (cache_at memory g).holder ≡ Some b ↔ LiesInGroup g (actor_at (with_actor a (after_turn made begin next later) memory) b)) (k : ℕ) where
  own : actor_at (with_actor a (after_turn made begin next later) memory) a ≡ after_turn made begin next later
  own = read_same memory.actors a (after_turn made begin next later) idle_actor (subst (λ (xs : List Actor). a < length xs) (sym actors) turn.low)

  other : (b : ℕ) → b ≢ a → actor_at (with_actor a (after_turn made begin next later) memory) b ≡ actor_at m b
  other b apart =
      read_other memory.actors a b (after_turn made begin next later) idle_actor apart ∙ ap (λ (xs : List Actor). actor_at (record { actors = xs; groups = m.groups }) b) actors

  -- where another is about to mend the word, it still is
  others_due : (b : ℕ) → (cache_at m (k / GROUP_NUMBERS)).holder ≡ Some b → b ≢ a → due_number (due_of_actor (actor_at m b)) ≡ Some k
      → due_number (due_of_holder (with_actor a (after_turn made begin next later) memory) (cache_at memory (k / GROUP_NUMBERS)).holder) ≡ Some k
  others_due b holds apart due =
      let lies : LiesInGroup (k / GROUP_NUMBERS) (actor_at m b) = (turn.inv.group_locks (k / GROUP_NUMBERS) b).0 holds in
      let still_holds = (locks (k / GROUP_NUMBERS) b).1 (subst (LiesInGroup (k / GROUP_NUMBERS)) (sym (other b apart)) lies) in
      ap (λ (o : Option ℕ). due_number (due_of_holder (with_actor a (after_turn made begin next later) memory) o)) still_holds
      ∙ ap (λ (x : Actor). due_number (due_of_actor x)) (other b apart) ∙ due

  -- where the word was about to be mended
  due_kept : (holder : Option ℕ) → (cache_at m (k / GROUP_NUMBERS)).holder ≡ holder → due_number (due_of_holder m holder) ≡ Some k
      → WordIsRight (table_after h.table event) (with_actor a (after_turn made begin next later) memory) k
  due_kept None is due = absurd (none-some k due)
  due_kept (Some b) is due =
      elim (cases_eq b a) [
        | inl same ↦
            let own_due = sym (ap (λ (x : Actor). due_number (due_of_actor x)) turn.actor_is) ∙ sym (ap (λ n. due_number (due_of_actor (actor_at m n))) same) ∙ due in
            inr (mended facts.has turn.turn k own_due)
        | inr apart ↦ inl (others_due b is apart due)
      ]

  pub words_kept : WordIsRight (table_after h.table event) (with_actor a (after_turn made begin next later) memory) k
  words_kept =
      elim (turn.inv.words k) [
        | inl due ↦ due_kept (cache_at m (k / GROUP_NUMBERS)).holder refl due
        | inr right ↦ elim (still facts turn.turn begin k right) [
          | inl due ↦ inl (
              ap (λ (o : Option ℕ). due_number (due_of_holder (with_actor a (after_turn made begin next later) memory) o))
              ((locks (k / GROUP_NUMBERS) a).1 (subst (LiesInGroup (k / GROUP_NUMBERS)) (sym own) due.1))
              ∙ ap (λ (x : Actor). due_number (due_of_actor x)) own ∙ due.0)
          | inr there ↦ inr there
        ]
      ]
