-- What each turn leaves of the words.
use Rattle.std.proofs.Common.{◌≡◌, ◌≢◌, ◌≤◌, ◌+◌, ◌-◌, ◌==◌, ◌&&◌, ◌/◌, ◌⊎◌, inl, inr, ℕ, true, false, not, List, Option, None, Some, IfSome, refl, sym, ap, subst, ◌∙◌, arith}
use Rattle.std.proofs.lemmas.Option.{none-some, same_Some}
use Rattle.std.proofs.lemmas.Bool.{and_parts, cases_Bool, cases_eq, eq-eqb, eqb-true, ne_eqb, false≢true, true≢false}
use Rattle.life_limits.specs.declared.TheConstants.{GROUP_NUMBERS}
use Rattle.life_table.specs.declared.key.Key.{Key}
use Rattle.life_table.specs.declared.types.Row.{Row}
use Rattle.life_table.specs.declared.types.Call.{Call}
use Rattle.life_table.specs.declared.types.Call.TheVariants as call
use Rattle.life_table.specs.declared.types.Reply.TheVariants as reply
use Rattle.life_table.specs.declared.types.Event.{Event}
use Rattle.life_table.specs.declared.table.Table.{Table}
use Rattle.life_table.specs.Table.{inode_of, row_of}
use Rattle.life_table.specs.Legal.{after_call, row_after}
use Rattle.life_table.specs.History.{after_event}
use Rattle.slot_words.specs.declared.word.Word.{Word}
use Rattle.slot_words.specs.Steps.{is_idle}
use Rattle.actor_world.specs.declared.memory.Place.{Place}
use Rattle.actor_world.specs.declared.memory.Place.TheVariants as place
use Rattle.actor_world.specs.declared.memory.Residence.{Residence}
use Rattle.actor_world.specs.declared.memory.Slot.{Slot}
use Rattle.actor_world.specs.declared.memory.Memory.{Memory}
use Rattle.actor_world.specs.Caches.{cached_word, make_dirty, with_slot}
use Rattle.actor_world.specs.Moves.{makes_unlinked, sets_mark, stands_at, is_log_call}
use Rattle.actor_world.specs.Words.{DeadSays, InstallDue, KillDue, LiveSays, MarkDue, WordSays, due_at, due_number, mark_due_by, nothing, says}
use Rattle.actor_world.specs.Invariant.{LiesInGroup, due_of_actor, first_key}
use Rattle.actor_world.proofs.Lists.{the_some}
use Rattle.actor_world.proofs.LiveWords.{Opened, any_row_is}
use Rattle.actor_world.proofs.Prepares.{StaysOrComes}
use Rattle.actor_world.proofs.Sights.{negated}
use Rattle.actor_world.proofs.Slots.{live_has_slot, slot_other}
use Rattle.actor_world.proofs.Turns.{DeadRow, HasSlot, HeldWord, Turn, after_turn, changer_key, goes_on, installs_made, is_answered, kills, kills_head, marks, with_word}
use Rattle.actor_world.proofs.TurnsFound.{live_row}
use Rattle.actor_world.proofs.WordSteps.{changed_row, put_word_is, says_dead, says_live, says_stays}

-- the table after what happened, if anything did
abbrev pub table_after : Table → Option Event → Table
table_after t None = t
table_after t (Some event) = after_event t event

-- ---- the word that was about to be mended

-- a word that was put says this of its number
put_says : (u : Table) (m : Memory) (number : ℕ) (slot : Slot) → HasSlot m number → WordSays u slot.word number → WordSays u (cached_word (with_slot number slot m) number) number
put_says u m number slot has right = subst (λ w. WordSays u w number) (sym (put_word_is m number slot has)) right

pub mark_key : (made : Call) (key : Key) (k : ℕ) → changer_key made ≡ Some key → due_number (mark_due_by made) ≡ Some k → key.number ≡ k
mark_key (call.Link other) key k is due = ap (λ (x : Key). x.number) (sym (same_Some other key is)) ∙ same_Some other.number k due
mark_key (call.Unlink other) key k is due = ap (λ (x : Key). x.number) (sym (same_Some other key is)) ∙ same_Some other.number k due
mark_key (call.Cut other count) key k is due = absurd (none-some k due)
mark_key _ key k is due = absurd (none-some key is)

sync_due : (first : Option Key) (at : Place) → stands_at call.Sync at ≡ true → due_at first call.Sync at ≡ nothing
sync_due first place.Take stands = refl
sync_due first place.Force stands = refl
sync_due first _ stands = absurd (false≢true stands)

home_due : (first : Option Key) (at : Place) → stands_at call.Home at ≡ true → due_at first call.Home at ≡ nothing
home_due first place.TakeLog stands = refl
home_due first place.WriteHome stands = refl
home_due first _ stands = absurd (false≢true stands)

pub log_due : (first : Option Key) (made : Call) (at : Place) → is_log_call made ≡ true → stands_at made at ≡ true → due_at first made at ≡ nothing
log_due first call.Sync at log stands = sync_due first at stands
log_due first call.Home at log stands = home_due first at stands
log_due first _ at log stands = absurd (false≢true log)

pub mark_mends : (t : Table) (m : Memory) (made : Call) (key : Key) (row : Row) → MarkDue made t m key row
    → WordSays t (cached_word (with_word key.number (record (cached_word m key.number) { unlinked = sets_mark made }) m) key.number) key.number
mark_mends t m made key row due =
    put_says t m key.number _ (live_has_slot m key.number due.live)
    (says_live t _ key row due.live due.generation due.row_is (record { pins = due.pins; mark = sym due.links }))

pub kill_mends : (t : Table) (m : Memory) (key : Key) → KillDue t m key
    → WordSays t (cached_word (with_word key.number (record (cached_word m key.number) { live = false; unlinked = false }) m) key.number) key.number
kill_mends t m key due =
    put_says t m key.number _ (live_has_slot m key.number due.live)
    (says_dead t (record (cached_word m key.number) { live = false; unlinked = false }) key.number refl (subst (λ (o : Option Row). IfSome o DeadSays) (sym due.no_row) tt))

pub install_mends : (t : Table) (m : Memory) (made : Call) (key : Key) (row : Row) → HasSlot m key.number → InstallDue made t m key row
    → WordSays t (cached_word (with_word key.number (record (cached_word m key.number) { generation = key.generation; live = true; unlinked = makes_unlinked made; pins = 1 }) m) key.number) key.number
install_mends t m made key row has due =
    put_says t m key.number _ has (says_live t _ key row refl refl due.row_is (record { pins = sym due.opens; mark = sym due.links }))

-- the slot of each key with a row is there
abbrev pub RowsHaveSlots : Table → Memory → Type 0
RowsHaveSlots t m = (key : Key) (row : Row) → row_of t key ≡ Some row → HasSlot m key.number

pub mended : {t : Table} {m : Memory} {a : ℕ} {made : Call} {at : Place} {q later : List Key} {event : Option Event} {next : Option Place} {memory : Memory}
    → RowsHaveSlots t m → Turn t m a made at q event next later memory → (k : ℕ) → due_number (due_at (first_key q) made at) ≡ Some k
    → WordSays (table_after t event) (cached_word memory k) k
mended {t = t} {m = m} {memory = memory} has (marks made key row answer is due) k at =
    subst (λ n. WordSays t (cached_word memory n) n) (mark_key made key k is at) (mark_mends t m made key row due)
mended {t = t} {m = m} {memory = memory} has (kills made g key others is due) k at =
    subst (λ n. WordSays t (cached_word memory n) n) (same_Some key.number k at) (kill_mends t m key due)
mended {t = t} {m = m} {memory = memory} has (kills_head key keys due) k at =
    subst (λ n. WordSays t (cached_word memory n) n) (same_Some key.number k at) (kill_mends t m key due)
mended {t = t} {m = m} {memory = memory} has (installs_made made g key row is due) k at =
    subst (λ n. WordSays t (cached_word memory n) n) (same_Some key.number k at) (install_mends t m made key row (has key row due.row_is) due)
mended {q = q} has (goes_on made at onward is stands stands_next) k due = absurd (none-some k (sym (ap due_number (log_due (first_key q) made at is stands)) ∙ due))
mended {q = q} has (is_answered made at answer is stands permits) k due = absurd (none-some k (sym (ap due_number (log_due (first_key q) made at is stands)) ∙ due))
mended has _ k at = absurd (none-some k at)

-- ---- a word that was right

-- a word is right after a turn, or the actor that takes the turn is about to mend it
abbrev pub Still : Table → Memory → Call → ℕ → Option Place → List Key → ℕ → Type 0
Still u memory made begin next later k =
    ((due_number (due_of_actor (after_turn made begin next later)) ≡ Some k) × LiesInGroup (k / GROUP_NUMBERS) (after_turn made begin next later))
    ⊎ WordSays u (cached_word memory k) k

-- at one number, and at every other
pub decide : (P : ℕ → Type 0) (n k : ℕ) → P n → (k ≢ n → P k) → P k
decide P n k here there = elim (cases_eq k n) [ inl same ↦ subst P (sym same) here | inr apart ↦ there apart ]

pub elsewhere : (t u : Table) (m : Memory) (n k : ℕ) (slot : Slot) → k ≢ n → StaysOrComes (inode_of t k) (inode_of u k) → WordSays t (cached_word m k) k
    → WordSays u (cached_word (with_slot n slot m) k) k
elsewhere t u m n k slot apart stays right =
    subst (λ w. WordSays u w k) (sym (ap (λ (s : Slot). s.word) (slot_other m n k slot apart))) (says_stays t u (cached_word m k) k stays right)

-- the row changes, but neither in its holds nor in whether it has links
says_row : (t u : Table) (word : Word) (key : Key) (row new : Row) → row_of t key ≡ Some row → row_of u key ≡ Some new → new.opens ≡ row.opens → (new.links == 0) ≡ (row.links == 0)
    → (m : Memory) → cached_word m key.number ≡ word → WordSays t word key.number → WordSays u word key.number
says_row t u word key row new is is_new opens links m word_is right =
    let right_here : WordSays t (cached_word m key.number) key.number = subst (λ w. WordSays t w key.number) (sym word_is) right in
    elim (cases_Bool word.live) [
      | inl live ↦
          let says_it = live_row t m key row is right_here (ap (λ (w : Word). w.live) word_is ∙ live) in
          says_live u word key new live (ap (λ (w : Word). w.generation) (sym word_is) ∙ says_it.0) is_new (record {
            pins = ap (λ (w : Word). w.pins) (sym word_is) ∙ says_it.1.pins ∙ sym opens;
            mark = ap (λ (w : Word). w.unlinked) (sym word_is) ∙ says_it.1.mark ∙ sym links;
          })
      | inr dead ↦
          let of_row : DeadSays row = subst (λ (o : Option Row). IfSome o DeadSays) (any_row_is t key row is) (subst (λ b. says b t word key.number) dead right) in
          says_dead u word key.number dead (subst (λ (o : Option Row). IfSome o DeadSays) (sym (any_row_is u key new is_new)) (record {
            links = some_links new.links row.links links of_row.links;
            opens = opens ∙ of_row.opens;
          }))
    ]
  where
    some_links : (new old : ℕ) → (new == 0) ≡ (old == 0) → 1 ≤ old → 1 ≤ new
    some_links new old same some =
        elim (cases_eq new 0) [
          | inl none ↦ absurd (true≢false (sym (eq-eqb new 0 none) ∙ same ∙ ne_eqb old 0 (λ e. omega arith)))
          | inr more ↦ omega arith
        ]

-- where only the inode in core changes
pub dirty_says : (t u : Table) (m : Memory) (key : Key) (row new : Row) → HasSlot m key.number → row_of t key ≡ Some row → row_of u key ≡ Some new → new.opens ≡ row.opens → (new.links == 0) ≡ (row.links == 0)
    → WordSays t (cached_word m key.number) key.number → WordSays u (cached_word (make_dirty key.number m) key.number) key.number
dirty_says t u m key row new has is is_new opens links right =
    put_says u m key.number _ has (says_row t u (cached_word m key.number) key row new is is_new opens links m refl right)

-- ---- a pin more or less

pub pin_says : (t : Table) (m : Memory) (key : Key) → Opened t m key → WordSays t (cached_word m key.number) key.number
    → WordSays (after_call t (call.OpenKey key) reply.Done) (cached_word (with_word key.number (record (cached_word m key.number) { pins = (cached_word m key.number).pins + 1 }) m) key.number) key.number
pin_says t m key o right =
    let says_it = live_row t m key o.row o.row_is right o.live in
    put_says _ m key.number _ (live_has_slot m key.number o.live)
    (says_live _ _ key (row_after t o.row (call.OpenKey key)) o.live o.generation (changed_row t key o.row (call.OpenKey key) o.row_is)
    (record { pins = ap (λ n. n + 1) says_it.1.pins; mark = says_it.1.mark }))

pub unpin_says : (t : Table) (m : Memory) (key : Key) → HeldWord t m key → WordSays t (cached_word m key.number) key.number
    → WordSays (after_call t (call.CloseKey key) reply.Done) (cached_word (with_word key.number (record (cached_word m key.number) { pins = (cached_word m key.number).pins - 1 }) m) key.number) key.number
unpin_says t m key o right =
    let says_it = live_row t m key o.row o.row_is right o.live in
    put_says _ m key.number _ (live_has_slot m key.number o.live)
    (says_live _ _ key (row_after t o.row (call.CloseKey key)) o.live o.generation (changed_row t key o.row (call.CloseKey key) o.row_is)
    (record { pins = ap (λ n. n - 1) says_it.1.pins; mark = says_it.1.mark }))

pub install_says : (t : Table) (m : Memory) (key : Key) (inode : Residence) → DeadRow t m key → HasSlot m key.number
    → WordSays (after_call t (call.OpenKey key) reply.Done)
    (cached_word (with_slot key.number (record { word = record (cached_word m key.number) { generation = key.generation; live = true; unlinked = false; pins = 1 }; inode = inode }) m) key.number) key.number
install_says t m key inode o has =
    let none : o.row.opens ≡ 0 = o.opens in
    let some : 1 ≤ o.row.links = o.links in
    put_says _ m key.number _ has
    (says_live _ _ key (row_after t o.row (call.OpenKey key)) refl refl (changed_row t key o.row (call.OpenKey key) o.row_is)
    (record { pins = omega (arith, none); mark = sym (ne_eqb o.row.links 0 (λ e. omega (arith, e, some))) }))

pub retire_says : (t : Table) (m : Memory) (number : ℕ) (inode : Residence) → is_idle (cached_word m number) ≡ true → WordSays t (cached_word m number) number
    → WordSays t (cached_word (with_slot number (record { word = record (cached_word m number) { live = false }; inode = inode }) m) number) number
retire_says t m number inode idle right =
    let word : Word = cached_word m number in
    let outer = and_parts (word.live && not word.unlinked) (word.pins == 0) idle in
    let inner = and_parts word.live (not word.unlinked) outer.0 in
    let key : Key = record { number = number; generation = word.generation } in
    let some = the_some (LiveSays word) (row_of t key) (subst (λ b. says b t word number) inner.0 right) in
    let unmarked : (some.0.links == 0) ≡ false = sym some.2.mark ∙ negated word.unlinked inner.1 in
    put_says t m number _ (live_has_slot m number inner.0)
    (says_dead t (record word { live = false }) number refl (subst (λ (o : Option Row). IfSome o DeadSays) (sym (any_row_is t key some.0 some.1)) (record {
      links = linked some.0.links unmarked;
      opens = sym some.2.pins ∙ eqb-true word.pins 0 outer.1;
    })))
  where
    linked : (n : ℕ) → (n == 0) ≡ false → 1 ≤ n
    linked n apart = elim (cases_eq n 0) [ inl none ↦ absurd (true≢false (sym (eq-eqb n 0 none) ∙ apart)) | inr some ↦ omega arith ]
