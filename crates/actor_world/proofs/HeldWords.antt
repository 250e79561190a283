-- The word of a key that is held is live, and its pins are the holds.
use Rattle.std.proofs.Common.{◌≡◌, ◌≢◌, ◌<◌, ◌≤◌, ◌/◌, inl, inr, ℕ, true, false, List, Option, None, Some, IfSome, refl, sym, ap, subst, ◌∙◌, arith}
use Rattle.std.proofs.lemmas.Option.{none-some, same_Some}
use Rattle.std.proofs.lemmas.Bool.{cases_Bool, cases_eq, true≢false}
use Rattle.life_limits.specs.declared.TheConstants.{GROUP_NUMBERS}
use Rattle.life_table.specs.declared.key.Key.{Key}
use Rattle.life_table.specs.declared.types.Row.{Row}
use Rattle.life_table.specs.declared.types.Call.{Call}
use Rattle.life_table.specs.declared.types.Call.TheVariants as call
use Rattle.life_table.specs.declared.table.Table.{Table}
use Rattle.life_table.specs.Table.{inode_of, row_of}
use Rattle.life_table.specs.History.{IsHeld, holds}
use Rattle.actor_world.specs.declared.memory.Place.{Place}
use Rattle.actor_world.specs.declared.memory.Place.TheVariants as place
use Rattle.actor_world.specs.declared.memory.Doing.{Doing}
use Rattle.actor_world.specs.declared.memory.Memory.{Memory}
use Rattle.actor_world.specs.Caches.{actor_at, cache_at, cached_word}
use Rattle.actor_world.specs.World.{History}
use Rattle.actor_world.specs.Words.{DeadSays, DueHolds, any_row, due_at, due_number, nothing, says}
use Rattle.actor_world.specs.Invariant.{DoingIsRight, due_of_actor, due_of_doing, due_of_holder, first_key, key_made}
use Rattle.actor_world.proofs.Holding.{two_hold}
use Rattle.actor_world.proofs.Lists.{the_some}
use Rattle.actor_world.proofs.LiveWords.{KillIsDue, LiveIs, MarkIsDue, Right, any_row_is, live_is, one_life}
use Rattle.actor_world.proofs.Turns.{HeldWord}
use Rattle.actor_world.proofs.TurnsFound.{Laws}
use Rattle.actor_world.proofs.Within.{Within}

-- where the word is live
live_held : (t : Table) (m : Memory) (key : Key) (row : Row) → row_of t key ≡ Some row → 1 ≤ row.opens → (cached_word m key.number).live ≡ true → LiveIs t m key.number → HeldWord t m key
live_held t m key row is some live (Right other there right) =
    let life = one_life t key.number (cached_word m key.number).generation key.generation other row there is in
    let same : other ≡ row = same_Some other row (sym there ∙ ap (λ g. row_of t (record { number = key.number; generation = g })) life ∙ is) in
    record { row = row; row_is = is; live = live; generation = life; pins = right.pins ∙ ap (λ (r : Row). r.opens) same; some = some }
live_held t m key row is some live (MarkIsDue other there pins more) =
    let life = one_life t key.number (cached_word m key.number).generation key.generation other row there is in
    let same : other ≡ row = same_Some other row (sym there ∙ ap (λ g. row_of t (record { number = key.number; generation = g })) life ∙ is) in
    record { row = row; row_is = is; live = live; generation = life; pins = pins ∙ ap (λ (r : Row). r.opens) same; some = some }
live_held t m key row is some live (KillIsDue marked unpinned none) = absurd (none-some row (sym none ∙ any_row_is t key row is))

-- what is due for a number whose word is not live is to put a new word in place
install_of : (made : Call) (t : Table) (m : Memory) (queue : Option Key) (at : Place) (number : ℕ) → due_number (due_at queue made at) ≡ Some number → DueHolds made t m (due_at queue made at)
    → (cached_word m number).live ≡ false → (key : Key) × (at ≡ place.InstallMade key) × (key.number ≡ number) × (row : Row) × (row_of t key ≡ Some row) × (row.opens ≡ 1)
install_of made t m queue (place.InstallMade key) number is holds dead = (key, refl, same_Some key.number number is, holds.0, holds.1.row_is, holds.1.opens)
install_of (call.Link key) t m queue (place.Mark answer) number is holds dead = absurd (true≢false (sym holds.1.live ∙ ap (λ n. (cached_word m n).live) (same_Some key.number number is) ∙ dead))
install_of (call.Unlink key) t m queue (place.Mark answer) number is holds dead = absurd (true≢false (sym holds.1.live ∙ ap (λ n. (cached_word m n).live) (same_Some key.number number is) ∙ dead))
install_of made t m queue (place.Kill key others) number is holds dead = absurd (true≢false (sym holds.live ∙ ap (λ n. (cached_word m n).live) (same_Some key.number number is) ∙ dead))
install_of made t m (Some key) place.KillHead number is holds dead = absurd (true≢false (sym holds.live ∙ ap (λ n. (cached_word m n).live) (same_Some key.number number is) ∙ dead))
install_of made t m queue at number is holds dead = absurd (none-some number is)

-- no other actor is about to put a new word in place of a key that this one holds
module _ (laws : Laws) (start : Table) (h : History) (m : Memory) (inv : Within start h m) (a : ℕ) (key : Key) (row : Row)
    (held : IsHeld h.entries a (Some key)) (is : row_of h.table key ≡ Some row) (some : 1 ≤ row.opens) (dead : (cached_word m key.number).live ≡ false)
    (no_due : due_of_actor (actor_at m a) ≡ nothing) where
  not_doing : (b : ℕ) → b ≢ a → (queue : List Key) (doing : Option Doing) → due_number (due_of_doing queue doing) ≡ Some key.number → DoingIsRight start h m b queue doing → ⊥
  not_doing b apart queue None due right = none-some key.number due
  not_doing b apart queue (Some d) due right =
      let new = install_of d.call h.table m (first_key queue) d.place key.number due right.due dead in
      let life = one_life h.table key.number key.generation new.0.generation row new.3 is (ap (λ n. row_of h.table (record { number = n; generation = new.0.generation })) (sym new.2) ∙ new.4) in
      let same_row : row ≡ new.3 = same_Some row new.3 (sym is ∙ ap (λ g. row_of h.table (record { number = key.number; generation = g })) life
      ∙ ap (λ n. row_of h.table (record { number = n; generation = new.0.generation })) (sym new.2) ∙ new.4) in
      let held_new : IsHeld h.entries b (Some new.0) = subst (λ p. IsHeld h.entries b (key_made p)) new.1 right.made in
      let key_is : new.0 ≡ key = λ i. record { number = new.2 i; generation = sym life i } in
      let both = two_hold laws start h.entries h.table inv.table inv.legal a b key row apart held (subst (λ k. 0 < holds h.entries b k) key_is held_new) is in
      let one : row.opens ≡ 1 = ap (λ (r : Row). r.opens) same_row ∙ new.5 in
      omega (arith, both, one)

  not_holder : (holder : Option ℕ) → due_number (due_of_holder m holder) ≡ Some key.number → ⊥
  not_holder None due = none-some key.number due
  not_holder (Some b) due =
      elim (cases_eq b a) [
        | inl same ↦ none-some key.number (sym (ap (λ n. due_number (due_of_actor (actor_at m n))) same ∙ ap due_number no_due) ∙ due)
        | inr apart ↦ not_doing b apart (actor_at m b).queue (actor_at m b).doing due (inv.actors b).doing
      ]

  not_dead : ⊥
  not_dead =
      elim (inv.words key.number) [
        | inl due ↦ not_holder (cache_at m (key.number / GROUP_NUMBERS)).holder due
        | inr says_it ↦
            let says_dead : IfSome (any_row (inode_of h.table key.number)) DeadSays = subst (λ b. says b h.table (cached_word m key.number) key.number) dead says_it in
            let of_row : DeadSays row = subst (λ (o : Option Row). IfSome o DeadSays) (any_row_is h.table key row is) says_dead in
            let none : row.opens ≡ 0 = of_row.opens in
            omega (arith, none, some)
      ]

pub held_word : Laws → (start : Table) (h : History) (m : Memory) → Within start h m → (a : ℕ) (key : Key) → IsHeld h.entries a (Some key)
    → due_of_actor (actor_at m a) ≡ nothing → HeldWord h.table m key
held_word laws start h m inv a key held no_due =
    let some = the_some (λ (r : Row). 1 ≤ r.opens) (row_of h.table key) (laws.held start h.table h.entries a key inv.table inv.legal held) in
    elim (cases_Bool (cached_word m key.number).live) [
      | inl live ↦ live_held h.table m key some.0 some.1 some.2 live (live_is start h m inv key.number live)
      | inr dead ↦ absurd (not_dead laws start h m inv a key some.0 held some.1 some.2 dead no_due)
    ]
