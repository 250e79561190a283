-- After each turn a word is right, or about to be mended.
use Rattle.std.proofs.Common.{◌≡◌, ◌≢◌, ◌≤◌, ◌+◌, ◌-◌, ◌==◌, ◌/◌, inl, inr, ℕ, Bool, true, false, List, Option, None, Some, if◌then◌else◌, refl, sym, ap, subst, ◌∙◌, arith}
use Rattle.std.proofs.lemmas.Option.{none-some, same_Some}
use Rattle.std.proofs.lemmas.Bool.{cases_eq, eq-eqb, ne_eqb, false≢true, true≢false}
use Rattle.life_limits.specs.declared.TheConstants.{GROUP_NUMBERS}
use Rattle.life_table.specs.declared.key.Key.{Key}
use Rattle.life_table.specs.declared.types.Row.{Row}
use Rattle.life_table.specs.declared.types.Call.{Call}
use Rattle.life_table.specs.declared.types.Call.TheVariants as call
use Rattle.life_table.specs.declared.types.Reply.{Reply}
use Rattle.life_table.specs.declared.types.Reply.TheVariants as reply
use Rattle.life_table.specs.declared.types.Event.{Event}
use Rattle.life_table.specs.declared.table.Inode.{Inode}
use Rattle.life_table.specs.declared.table.Table.{Table}
use Rattle.life_table.specs.Table.{in_use, inode_of, row_of, with_row}
use Rattle.life_table.specs.Legal.{IsNextKey, KeyReplies, Permits, RowReplies, after_call, freed, made_row, prepare, row_after, with_changed}
use Rattle.life_table.specs.History.{changed}
use Rattle.life_table.specs.WellFormed.{IsTable}
use Rattle.actor_world.specs.declared.memory.Place.{Place}
use Rattle.actor_world.specs.declared.memory.Place.TheVariants as place
use Rattle.actor_world.specs.declared.memory.Slot.{Slot}
use Rattle.actor_world.specs.declared.memory.Memory.{Memory}
use Rattle.actor_world.specs.Caches.{cache_at, cached_word, copy_all, make_dirty, with_cache}
use Rattle.actor_world.specs.Moves.{group_of_call, lies_in_group, links_of, place_after_change, is_log_call}
use Rattle.actor_world.specs.Words.{WordSays, due_at, due_number}
use Rattle.actor_world.specs.Invariant.{first_key}
use Rattle.actor_world.proofs.Effects.{slots_copied, slots_stay}
use Rattle.actor_world.proofs.Locks.{room_call_group}
use Rattle.actor_world.proofs.Looks.{inode_other}
use Rattle.actor_world.proofs.Prepares.{MadeRow, StaysOrComes, prepare_stays}
use Rattle.actor_world.proofs.Turns.{Turn, changer_key, changes, copies, ends_flush, ends_reclaim, finds_none, finds_row, frees_head, frees_one, grow_refuses, grows, installs, installs_made, is_answered, kills, kills_head, leaves, locks_change, locks_flush, locks_reclaim, locks_short, maker_group, makes, makes_none, marks, next_none, next_row, passes, passes_last, pins, pins_locked, reads, refuses, retires, unpins}
use Rattle.actor_world.proofs.WordSteps.{changed_other, changed_row}
use Rattle.actor_world.proofs.WordTurns.{RowsHaveSlots, Still, decide, dirty_says, elsewhere, install_mends, install_says, kill_mends, mark_mends, pin_says, retire_says, table_after, unpin_says}

-- What the turns rest on.
pub record WordFacts (t : Table) (m : Memory) : Type 0 where
  pub has : RowsHaveSlots t m
  pub ok : IsTable t
  pub made : (g : ℕ) (key : Key) (links : ℕ) → IsNextKey t g key → IsTable (with_row (prepare t g) key (made_row links)) → MadeRow t g key links
  pub legal : (made : Call) (answer : Reply) → Permits t made answer → IsTable (after_call t made answer)

-- ---- calls on a row

-- a row of a key that a call is made on
row_from : (t : Table) (key : Key) (made : Call) (o : Option Row) → row_of t key ≡ o → KeyReplies t o made reply.Done → ((answer : Reply) → KeyReplies t None made reply.Done → ⊥)
    → (row : Row) × (row_of t key ≡ Some row) × RowReplies t row made reply.Done
row_from t key made None is permits none = absurd (none reply.Done permits)
row_from t key made (Some row) is permits none = (row, is, permits)

zero_test : (n : ℕ) → 1 ≤ n → (n == 0) ≡ false
zero_test n some = ne_eqb n 0 (λ e. omega arith)

module _ (t : Table) (m : Memory) (facts : WordFacts t m) (begin : ℕ) (later : List Key) where
  -- where the row's links go to or from none, the mark is due
  link_still : (key : Key) (row : Row) → row_of t key ≡ Some row → (k : ℕ) → WordSays t (cached_word m k) k
      → Still (after_call t (call.Link key) reply.Done) (make_dirty key.number m) (call.Link key) begin (Some (place_after_change (call.Link key) reply.Done (links_of (row_of t key)))) later k
  link_still key row is k =
      let u : Table = after_call t (call.Link key) reply.Done in
      let P : Bool → ℕ → Type 0 = λ b n. WordSays t (cached_word m n) n → Still u (make_dirty key.number m) (call.Link key) begin (Some (if b then place.Mark reply.Done else place.Leave reply.Done)) later n in
      let moved : row_of u key ≡ Some (row_after t row (call.Link key)) = changed_row t key row (call.Link key) is in
      subst (λ (o : Option Row). P (links_of o == 0) k) (sym is)
      (decide (P (row.links == 0)) key.number k
      (elim (cases_eq row.links 0) [
        | inl none ↦ subst (λ b. P b key.number) (sym (eq-eqb row.links 0 none)) (λ right. inl (refl, (refl, refl)))
        | inr some ↦ subst (λ b. P b key.number) (sym (ne_eqb row.links 0 some)) (λ right.
            inr (dirty_says t u m key row (row_after t row (call.Link key)) (facts.has key row is) is moved refl
            (zero_test (row.links + 1) (omega arith) ∙ sym (ne_eqb row.links 0 some)) right))
      ])
      (λ apart right. inr (elsewhere t u m key.number k _ apart (inl (changed_other t key (row_of t key) (call.Link key) k apart)) right)))

  unlink_still : (key : Key) (row : Row) → row_of t key ≡ Some row → row.links ≢ 0 → (k : ℕ) → WordSays t (cached_word m k) k
      → Still (after_call t (call.Unlink key) reply.Done) (make_dirty key.number m) (call.Unlink key) begin (Some (place_after_change (call.Unlink key) reply.Done (links_of (row_of t key)))) later k
  unlink_still key row is linked k =
      let u : Table = after_call t (call.Unlink key) reply.Done in
      let P : Bool → ℕ → Type 0 = λ b n. WordSays t (cached_word m n) n → Still u (make_dirty key.number m) (call.Unlink key) begin (Some (if b then place.Mark reply.Done else place.Leave reply.Done)) later n in
      let moved : row_of u key ≡ Some (row_after t row (call.Unlink key)) = changed_row t key row (call.Unlink key) is in
      subst (λ (o : Option Row). P (links_of o == 1) k) (sym is)
      (decide (P (row.links == 1)) key.number k
      (elim (cases_eq row.links 1) [
        | inl one ↦ subst (λ b. P b key.number) (sym (eq-eqb row.links 1 one)) (λ right. inl (refl, (refl, refl)))
        | inr more ↦ subst (λ b. P b key.number) (sym (ne_eqb row.links 1 more)) (λ right.
            inr (dirty_says t u m key row (row_after t row (call.Unlink key)) (facts.has key row is) is moved refl
            (zero_test (row.links - 1) (omega (arith, more, linked)) ∙ sym (ne_eqb row.links 0 linked)) right))
      ])
      (λ apart right. inr (elsewhere t u m key.number k _ apart (inl (changed_other t key (row_of t key) (call.Unlink key) k apart)) right)))

  -- a change of the row's blocks alone
  blocks_still : (made : Call) (next : Option Place) (key : Key) (row : Row) → row_of t key ≡ Some row → after_call t made reply.Done ≡ with_changed t key (row_of t key) made
      → (row_after t row made).opens ≡ row.opens → (row_after t row made).links ≡ row.links → (k : ℕ) → WordSays t (cached_word m k) k
      → Still (after_call t made reply.Done) (make_dirty key.number m) made begin next later k
  blocks_still made next key row is table opens links k right =
      subst (λ u. Still u (make_dirty key.number m) made begin next later k) (sym table)
      (decide (λ n. WordSays t (cached_word m n) n → Still (with_changed t key (row_of t key) made) (make_dirty key.number m) made begin next later n) key.number k
      (λ here. inr (dirty_says t _ m key row (row_after t row made) (facts.has key row is) is (changed_row t key row made is) opens (ap (λ n. n == 0) links) here))
      (λ apart there. inr (elsewhere t _ m key.number k _ apart (inl (changed_other t key (row_of t key) made k apart)) there)) right)

  change_still : (made : Call) (key : Key) → changer_key made ≡ Some key → Permits t made reply.Done → (k : ℕ) → WordSays t (cached_word m k) k
      → Still (after_call t made reply.Done) (make_dirty key.number m) made begin (Some (place_after_change made reply.Done (links_of (row_of t key)))) later k
  change_still (call.Link other) key is permits k right =
      let row = row_from t other (call.Link other) (row_of t other) refl permits (λ _ none. none) in
      subst (λ (x : Key). Still (after_call t (call.Link other) reply.Done) (make_dirty x.number m) (call.Link other) begin (Some (place_after_change (call.Link other) reply.Done (links_of (row_of t x)))) later k)
      (same_Some other key is) (link_still other row.0 row.1 k right)
  change_still (call.Unlink other) key is permits k right =
      let row = row_from t other (call.Unlink other) (row_of t other) refl permits (λ _ none. none) in
      subst (λ (x : Key). Still (after_call t (call.Unlink other) reply.Done) (make_dirty x.number m) (call.Unlink other) begin (Some (place_after_change (call.Unlink other) reply.Done (links_of (row_of t x)))) later k)
      (same_Some other key is) (unlink_still other row.0 row.1 row.2 k right)
  change_still (call.Cut other count) key is permits k right =
      let row = row_from t other (call.Cut other count) (row_of t other) refl permits (λ _ none. none) in
      subst (λ (x : Key). Still (after_call t (call.Cut other count) reply.Done) (make_dirty x.number m) (call.Cut other count) begin (Some (place_after_change (call.Cut other count) reply.Done (links_of (row_of t x)))) later k)
      (same_Some other key is) (blocks_still (call.Cut other count) (Some (place_after_change (call.Cut other count) reply.Done (links_of (row_of t other)))) other row.0 row.1 refl refl refl k right)
  change_still _ key is permits k right = absurd (none-some key is)

  grow_still : (key : Key) (count : ℕ) (next : Option Place) → Permits t (call.Grow key count) reply.Done → (k : ℕ) → WordSays t (cached_word m k) k
      → Still (after_call t (call.Grow key count) reply.Done) (make_dirty key.number m) (call.Grow key count) begin next later k
  grow_still key count next permits k right =
      let row = row_from t key (call.Grow key count) (row_of t key) refl permits (λ _ none. none) in
      blocks_still (call.Grow key count) next key row.0 row.1 refl refl refl k right

  -- a row that is freed or made: its word is due
  free_still : (made : Call) (next : Place) (key : Key) → due_number (due_at (first_key later) made next) ≡ Some key.number → lies_in_group next ≡ true
      → group_of_call later made ≡ Some (key.number / GROUP_NUMBERS) → (k : ℕ) → WordSays t (cached_word m k) k
      → Still (freed t key) (make_dirty key.number m) made begin (Some next) later k
  free_still made next key due lies group k right =
      decide (λ n. WordSays t (cached_word m n) n → Still (freed t key) (make_dirty key.number m) made begin (Some next) later n) key.number k
      (λ here. inl (due, (lies, group)))
      (λ apart there. inr (elsewhere t (freed t key) m key.number k _ apart (inl (inode_other t key.number k _ (λ e. apart (sym e)))) there)) right

  made_still : (made : Call) (g : ℕ) (key : Key) (links : ℕ) → IsNextKey t g key → after_call t made (reply.Made key) ≡ with_row (prepare t g) key (made_row links)
      → IsTable (with_row (prepare t g) key (made_row links)) → group_of_call later made ≡ Some g → (k : ℕ) → WordSays t (cached_word m k) k
      → Still (after_call t made (reply.Made key)) (make_dirty key.number m) made begin (Some (place.InstallMade key)) later k
  made_still made g key links next table ok group k right =
      let new = facts.made g key links next ok in
      subst (λ u. Still u (make_dirty key.number m) made begin (Some (place.InstallMade key)) later k) (sym table)
      (decide (λ n. WordSays t (cached_word m n) n → Still (with_row (prepare t g) key (made_row links)) (make_dirty key.number m) made begin (Some (place.InstallMade key)) later n) key.number k
      (λ here. inl (refl, (refl, group ∙ ap (λ n. Some n) (sym new.group))))
      (λ apart there. inr (elsewhere t _ m key.number k _ apart
      (subst (λ (o : Option Inode). StaysOrComes (inode_of t k) o) (sym (inode_other (prepare t g) key.number k (in_use key (made_row links)) (λ e. apart (sym e)))) (prepare_stays t g k facts.ok next.0)) there)) right)

  maker_still : (made : Call) (g : ℕ) (key : Key) → maker_group made ≡ Some g → Permits t made (reply.Made key) → (k : ℕ) → WordSays t (cached_word m k) k
      → Still (after_call t made (reply.Made key)) (make_dirty key.number m) made begin (Some (place.InstallMade key)) later k
  maker_still (call.Create h) g key is permits k right = made_still (call.Create h) h key 1 permits refl (facts.legal (call.Create h) (reply.Made key) permits) refl k right
  maker_still (call.Tmpfile h) g key is permits k right = made_still (call.Tmpfile h) h key 0 permits refl (facts.legal (call.Tmpfile h) (reply.Made key) permits) refl k right
  maker_still _ g key is permits k right = absurd (none-some g is)

-- ---- turns that leave table and words

same_words : (t : Table) (m : Memory) (k g : ℕ) (holder : Option ℕ) → WordSays t (cached_word m k) k
    → WordSays t (cached_word (with_cache g (record { slots = (cache_at m g).slots; holder = holder }) m) k) k
same_words t m k g holder right = subst (λ w. WordSays t w k) (sym (ap (λ (s : Slot). s.word) (slots_stay m g holder k))) right

copied_words : (t : Table) (m : Memory) (g k : ℕ) → WordSays t (cached_word m k) k → WordSays t (cached_word (copy_all g m) k) k
copied_words t m g k right = elim (slots_copied m g k) [
  | inl here ↦ subst (λ w. WordSays t w k) (sym (ap (λ (s : Slot). s.word) here)) right
  | inr there ↦ subst (λ w. WordSays t w k) (sym (ap (λ (s : Slot). s.word) there)) right
]

-- a refusal leaves the table
pub refused_same : (t : Table) (made : Call) (key : Key) (answer : Reply) → changer_key made ≡ Some key → changed made answer ≡ false → after_call t made answer ≡ t
refused_same t (call.Link key) k reply.Done is none = absurd (true≢false none)
refused_same t (call.Unlink key) k reply.Done is none = absurd (true≢false none)
refused_same t (call.Cut key count) k reply.Done is none = absurd (true≢false none)
refused_same t (call.Link key) k _ is none = refl
refused_same t (call.Unlink key) k _ is none = refl
refused_same t (call.Cut key count) k _ is none = refl
refused_same t _ k _ is none = absurd (none-some k is)

pub grow_same : (t : Table) (key : Key) (count : ℕ) (answer : Reply) → changed (call.Grow key count) answer ≡ false → after_call t (call.Grow key count) answer ≡ t
grow_same t key count reply.Done none = absurd (true≢false none)
grow_same t key count _ none = refl

pub maker_same : (t : Table) (made : Call) (g : ℕ) → maker_group made ≡ Some g → after_call t made reply.NoInodes ≡ t
maker_same t (call.Create h) g is = refl
maker_same t (call.Tmpfile h) g is = refl
maker_same t _ g is = absurd (none-some g is)

pub log_same : (t : Table) (made : Call) (answer : Reply) → is_log_call made ≡ true → after_call t made answer ≡ t
log_same t call.Sync answer is = refl
log_same t call.Home answer is = refl
log_same t _ answer is = absurd (false≢true is)

-- ---- each turn

pub still : {t : Table} {m : Memory} {a : ℕ} {made : Call} {at : Place} {q later : List Key} {event : Option Event} {next : Option Place} {memory : Memory}
    → WordFacts t m → Turn t m a made at q event next later memory → (begin k : ℕ) → WordSays t (cached_word m k) k
    → Still (table_after t event) memory made begin next later k
still {t = t} {m = m} {made = made} {later = later} {event = event} {next = next} {memory = memory} facts (pins key seen o) begin k right =
    decide (λ n. WordSays t (cached_word m n) n → Still (table_after t event) memory made begin next later n) key.number k
    (λ here. inr (pin_says t m key o here)) (λ apart there. inr (elsewhere t _ m key.number k _ apart (inl (changed_other t key (row_of t key) (call.OpenKey key) k apart)) there)) right
still {t = t} {m = m} {made = made} {later = later} {event = event} {next = next} {memory = memory} facts (pins_locked key seen o) begin k right =
    decide (λ n. WordSays t (cached_word m n) n → Still (table_after t event) memory made begin next later n) key.number k
    (λ here. inr (pin_says t m key o here)) (λ apart there. inr (elsewhere t _ m key.number k _ apart (inl (changed_other t key (row_of t key) (call.OpenKey key) k apart)) there)) right
still {t = t} {m = m} {made = made} {later = later} {event = event} {next = next} {memory = memory} facts (unpins key o) begin k right =
    decide (λ n. WordSays t (cached_word m n) n → Still (table_after t event) memory made begin next later n) key.number k
    (λ here. inr (unpin_says t m key o here)) (λ apart there. inr (elsewhere t _ m key.number k _ apart (inl (changed_other t key (row_of t key) (call.CloseKey key) k apart)) there)) right
still {t = t} {m = m} {made = made} {later = later} {event = event} {next = next} {memory = memory} facts (installs key dead has) begin k right =
    decide (λ n. WordSays t (cached_word m n) n → Still (table_after t event) memory made begin next later n) key.number k
    (λ here. inr (install_says t m key _ dead has)) (λ apart there. inr (elsewhere t _ m key.number k _ apart (inl (changed_other t key (row_of t key) (call.OpenKey key) k apart)) there)) right
still {t = t} {m = m} {later = later} {next = next} {memory = memory} facts (marks made key row answer is due) begin k right =
    decide (λ n. WordSays t (cached_word m n) n → Still t memory made begin next later n) key.number k
    (λ here. inr (mark_mends t m made key row due)) (λ apart there. inr (elsewhere t t m key.number k _ apart (inl refl) there)) right
still {t = t} {m = m} {later = later} {next = next} {memory = memory} facts (kills made g key others is due) begin k right =
    decide (λ n. WordSays t (cached_word m n) n → Still t memory made begin next later n) key.number k
    (λ here. inr (kill_mends t m key due)) (λ apart there. inr (elsewhere t t m key.number k _ apart (inl refl) there)) right
still {t = t} {m = m} {made = made} {later = later} {next = next} {memory = memory} facts (kills_head key keys due) begin k right =
    decide (λ n. WordSays t (cached_word m n) n → Still t memory made begin next later n) key.number k
    (λ here. inr (kill_mends t m key due)) (λ apart there. inr (elsewhere t t m key.number k _ apart (inl refl) there)) right
still {t = t} {m = m} {later = later} {next = next} {memory = memory} facts (installs_made made g key row is due) begin k right =
    decide (λ n. WordSays t (cached_word m n) n → Still t memory made begin next later n) key.number k
    (λ here. inr (install_mends t m made key row (facts.has key row due.row_is) due)) (λ apart there. inr (elsewhere t t m key.number k _ apart (inl refl) there)) right
still {t = t} {m = m} {made = made} {later = later} {next = next} {memory = memory} facts (retires g number others idle) begin k right =
    decide (λ n. WordSays t (cached_word m n) n → Still t memory made begin next later n) number k
    (λ here. inr (retire_says t m number _ idle here)) (λ apart there. inr (elsewhere t t m number k _ apart (inl refl) there)) right
still {t = t} {m = m} {later = later} facts (changes made key is permits) begin k right = change_still t m facts begin later made key is permits k right
still {t = t} {m = m} {later = later} facts (grows key count permits) begin k right = grow_still t m facts begin later key count (Some (place.Leave reply.Done)) permits k right
still {t = t} {m = m} {later = later} facts (makes made g key is permits) begin k right = maker_still t m facts begin later made g key is permits k right
still {t = t} {m = m} {later = later} facts (frees_one made g key others is group awaits) begin k right =
    free_still t m facts begin later made (place.Kill key others) key refl refl (room_call_group made g later is ∙ ap (λ n. Some n) (sym group)) k right
still {t = t} {m = m} {later = later} facts (frees_head key keys awaits) begin k right = free_still t m facts begin later call.Gc place.KillHead key refl refl refl k right
still {t = t} {m = m} facts (finds_none key can is) begin k right = inr (same_words t m k _ _ right)
still {t = t} {m = m} facts (finds_row key row can is) begin k right = inr (same_words t m k _ _ right)
still {t = t} {m = m} facts (reads key answer can permits) begin k right = inr (same_words t m k _ _ right)
still {t = t} {m = m} facts (locks_change made key is can) begin k right = inr (same_words t m k _ _ right)
still {t = t} {m = m} facts (locks_short made g is can) begin k right = inr (same_words t m k _ _ right)
still {t = t} {m = m} facts (next_none key keys can is) begin k right = inr (same_words t m k _ _ right)
still {t = t} {m = m} facts (next_row key keys row can is) begin k right = inr (same_words t m k _ _ right)
still {t = t} {m = m} facts (locks_flush g can) begin k right = inr (same_words t m k _ _ right)
still {t = t} {m = m} facts (locks_reclaim g can) begin k right = inr (same_words t m k _ _ right)
still {t = t} {m = m} facts (leaves made answer g is) begin k right = inr (same_words t m k _ _ right)
still {t = t} {m = m} facts (passes_last key) begin k right = inr (same_words t m k _ _ right)
still {t = t} {m = m} facts (passes key next keys) begin k right = inr (same_words t m k _ _ right)
still {t = t} {m = m} facts (ends_flush g) begin k right = inr (same_words t m k _ _ right)
still {t = t} {m = m} facts (ends_reclaim g) begin k right = inr (same_words t m k _ _ right)
still {t = t} {m = m} facts (copies g) begin k right = inr (copied_words t m g k right)
still {t = t} {m = m} facts (refuses made key answer is permits none) begin k right = inr (subst (λ u. WordSays u (cached_word m k) k) (sym (refused_same t made key answer is none)) right)
still {t = t} {m = m} facts (grow_refuses key count answer permits none) begin k right = inr (subst (λ u. WordSays u (cached_word m k) k) (sym (grow_same t key count answer none)) right)
still {t = t} {m = m} facts (makes_none made g is permits) begin k right = inr (subst (λ u. WordSays u (cached_word m k) k) (sym (maker_same t made g is)) right)
still {t = t} {m = m} facts (is_answered made at answer is stands permits) begin k right = inr (subst (λ u. WordSays u (cached_word m k) k) (sym (log_same t made answer is)) right)
still facts _ begin k right = inr right
