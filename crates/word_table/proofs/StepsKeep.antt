-- Each kind of step keeps the rule of the words.
use Rattle.std.proofs.Common.{◌≡◌, ◌≢◌, ℕ, ◌+◌, ◌-◌, ◌%◌, ◌^◌, ◌<◌, ◌≤◌, Bool, true, false, true≢false, cond, eqb, eq-eqb, ne_eqb, List, ◌∷◌, get_or, refl, sym, ap, ◌∙◌, subst, arith}
use mathlib.Core.Option.{none, some}
use lib.ListN.{get_elem?}
use mathlib.Core.Logic.{dite}
use native.Mathlib.Decide.{ℕ_discrete}
use prog.Atomic.{either}
use Rattle.atomic_table.specs.Table.{State, Me, step, stepped, Act, keeps, carried_after, Valid, Allows, Splits, Joins}
use Rattle.atomic_table.proofs.Lists.{exchanged}
use Rattle.slot_words.specs.declared.word.Word.{Word}
use Rattle.slot_words.specs.Words.{WordsAreNumbers}
use Rattle.word_table.specs.declared.known.Look.{Look}
use Rattle.word_table.specs.declared.known.Known.{Known}
use Rattle.word_table.specs.Words.{parts_of, pins_of, IsPinned, Tells}
use Rattle.word_table.specs.Known.{look, times, last_of, looked, pinned, unpinned, fronted, Keeps, nothing_known, without_first, first_alone, with_pins}
use Rattle.word_table.specs.Rule.{Kept}
use Rattle.word_table.specs.Steps.{Holds, Looked, Pinned, Unpinned, Fronted, WordChanged, Installed, Marked, Unmarked, CanChange, CanInstall}
use Rattle.word_table.proofs.Lists.{term_le, times-same, times-other, times-without, times-without_other, times-fronted, times-parts, times-append}
use Rattle.word_table.proofs.Parts.{Tells-same, Tells-pins, IsRight-pins, pins_of-here, pins_of-other, pinned_word, Opens, open_moves, pinned_moves, one_off, closes, pins_of-none, pins_of-dead, Marks, marks, unmarks}
use Rattle.word_table.proofs.Kept.{kept, keeper_kept, split_kept, joined_kept, nothing-kept}
use Rattle.std.specs.Int.Bits.{bit_or, bit_and}

-- the newest look at a place, and the others
pub last-here : (place word : ℕ) (ls : List Look) → last_of place (look place word ∷ ls) ≡ word
last-here place word ls = ap (λ (b : Bool). cond b word (last_of place ls)) (eq-eqb place place refl)

pub last-apart : (place k word : ℕ) (ls : List Look) → place ≢ k → last_of place (look k word ∷ ls) ≡ last_of place ls
last-apart place k word ls apart = ap (λ (b : Bool). cond b word (last_of place ls)) (ne_eqb k place (λ e. apart (sym e)))

-- own pins on a word show in it
pub holds : (count : ℕ) (s : State ℕ Known) (id k : ℕ) (v : Known) → Kept count s → get_elem? s.views id ≡ some v → Holds k v (get_or s.words k 0)
holds count s id k v was at generation has =
    pinned_word generation (parts_of (get_or s.words k 0)) (omega (arith, has, term_le (λ u. times k generation u.pins) s.views id v at, was.pins k generation))

-- a step that leaves the word, and tells it
pub stays : (count : ℕ) (s : State ℕ Known) (k id : ℕ) (me : Me ℕ Known) → Kept count s → k < count → get_elem? s.views id ≡ some me.0
    → Kept count (stepped s k (get_or s.words k 0) id me.1 (looked k (get_or s.words k 0) me.0) keeps)
stays count s k id me was inside at =
    let n = get_or s.words k 0 in
    kept count s k n id me.0 (looked k n me.0) me.1 was inside at (was.right k) (λ j g apart. refl) (λ g. refl)
    (record { first = refl; count = refl }) (λ j apart. last-apart j k n me.0.looks apart)
    (λ own. subst (λ (l : ℕ). Tells n l) (sym (last-here k n me.0.looks)) (Tells-same n))
    (λ i u away has own. was.tells i k u has own)

pub looks : (count slots id k : ℕ) (me : Me ℕ Known) → k < count → Allows (Kept count) slots id me k (λ n. n) (Looked (step slots k 0 0 none) me)
looks count slots id k me inside s was homes at fits = (
  looked k (get_or s.words k 0) me.0,
  keeps,
  tt,
  stays count s k id me was inside at,
  record { slots = refl; view = refl; right = was.right k; holds = holds count s id k me.0 was at; tells = λ own. was.tells id k me.0 at own },
)

-- one pin more on the word, where it can be opened
pub opened : (count : ℕ) (s : State ℕ Known) (k id generation next : ℕ) (me : Me ℕ Known) → Kept count s → k < count → get_elem? s.views id ≡ some me.0
    → Opens generation (get_or s.words k 0) next
    → Kept count (stepped s k next id me.1 (pinned k (parts_of (get_or s.words k 0)).generation me.0) keeps)
opened count s k id generation next me was inside at o =
    let n = get_or s.words k 0 in
    let g = (parts_of n).generation in
    let more : (parts_of next).pins ≡ (parts_of n).pins + 1 = ap (λ (w : Word). w.pins) o.more in
    let live : (parts_of next).live ≡ true = ap (λ (w : Word). w.live) o.more ∙ o.can.live in
    let same : (parts_of next).generation ≡ g = ap (λ (w : Word). w.generation) o.more in
    let tells = λ (last : ℕ). Tells-pins n next last ((parts_of n).pins + 1) o.more (open_moves generation (parts_of n) o.can) in
    kept count s k next id me.0 (pinned k g me.0) me.1 was inside at (IsRight-pins n next ((parts_of n).pins + 1) o.more o.can.live (was.right k))
    (λ j h apart. times-other j h k g me.0.pins (λ e. apart (sym e.0)))
    (λ h. dite (ℕ_discrete g h)
    (λ e. subst (λ (x : ℕ). times k x (pinned k g me.0).pins + pins_of x (parts_of n) ≡ times k x me.0.pins + pins_of x (parts_of next)) e
    (omega (arith, times-same k g me.0.pins, pins_of-here g (parts_of n) o.can.live refl, pins_of-here g (parts_of next) live same, more)))
    (λ ne. omega (arith, times-other k h k g me.0.pins (λ e. ne e.1), pins_of-other h (parts_of n) ne, pins_of-other h (parts_of next) (λ e. ne (sym same ∙ e)))))
    (record { first = refl; count = refl }) (λ j apart. refl)
    (λ own. tells (last_of k me.0.looks) (was.tells id k me.0 at own))
    (λ i u away has own. tells (last_of k u.looks) (was.tells i k u has own))

pub pins : (count slots id k seen generation next : ℕ) (me : Me ℕ Known) → k < count → Opens generation seen next
    → Allows (Kept count) slots id me k (λ n. either (eqb n seen) next n) (Pinned (step slots k seen next none) me)
pins count slots id k seen generation next me inside o s was homes at fits =
    let n = get_or s.words k 0 in
    exchanged n seen next (λ m. (w : Known) × (a : Act ℕ) × Valid s.homes me.1 a × Kept count (stepped s k m id me.1 w a) × Pinned (step slots k seen next none) me n (w, carried_after me.1 a))
    (λ hit. (
      pinned k (parts_of n).generation me.0,
      keeps,
      tt,
      opened count s k id generation next me was inside at (subst (λ (m : ℕ). Opens generation m next) (sym hit) o),
      record { slots = refl; hit = λ e. refl; miss = λ ne. absurd (ne hit) },
    ))
    (λ miss. (
      looked k n me.0,
      keeps,
      tt,
      stays count s k id me was inside at,
      record { slots = refl; hit = λ e. absurd (miss e); miss = λ ne. refl },
    ))

-- one pin less on the word, by who has one
pub unpins : (laws : WordsAreNumbers) (count slots id k generation : ℕ) (me : Me ℕ Known) → k < count → 1 ≤ times k generation me.0.pins
    → Allows (Kept count) slots id me k (λ n. (n + (2 ^ 64 - 1)) % 2 ^ 64) (Unpinned (step slots k 1 0 none) me)
unpins laws count slots id k generation me inside has s was homes at fits =
    let n = get_or s.words k 0 in
    let new = (n + (2 ^ 64 - 1)) % 2 ^ 64 in
    let g = (parts_of n).generation in
    let own = holds count s id k me.0 was at in
    let is = own generation has in
    let has_g : 1 ≤ times k g me.0.pins = subst (λ (x : ℕ). 1 ≤ times k x me.0.pins) (sym is.same) has in
    let down : new ≡ n - 1 = one_off n generation fits is in
    let less = ap parts_of down ∙ (closes laws n generation fits is).parts_are in
    let some_pin = is.pins in
    let fewer : (parts_of new).pins ≡ (parts_of n).pins - 1 = ap (λ (w : Word). w.pins) less in
    let live : (parts_of new).live ≡ true = ap (λ (w : Word). w.live) less ∙ is.live in
    let same : (parts_of new).generation ≡ g = ap (λ (w : Word). w.generation) less in
    let w = unpinned k g (looked k (n - 1) (looked k n me.0)) in
    let tells = λ (last : ℕ). Tells-pins n new last ((parts_of n).pins - 1) less (pinned_moves generation (parts_of n) is) in (
      w,
      keeps,
      tt,
      kept count s k new id me.0 w me.1 was inside at (IsRight-pins n new ((parts_of n).pins - 1) less is.live (was.right k))
          (λ j h apart. times-without_other k g j h me.0.pins (λ e. apart (sym e.0)))
          (λ h. dite (ℕ_discrete g h)
          (λ e. subst (λ (x : ℕ). times k x w.pins + pins_of x (parts_of n) ≡ times k x me.0.pins + pins_of x (parts_of new)) e
          (omega (arith, times-without k g me.0.pins has_g, pins_of-here g (parts_of n) is.live refl, pins_of-here g (parts_of new) live same, fewer)))
          (λ ne. omega (arith, times-without_other k g k h me.0.pins (λ e. ne e.1), pins_of-other h (parts_of n) ne, pins_of-other h (parts_of new) (λ e. ne (sym same ∙ e)))))
          (record { first = refl; count = refl }) (λ j apart. last-apart j k (n - 1) (look k n ∷ me.0.looks) apart ∙ last-apart j k n me.0.looks apart)
          (λ kept_here. subst (λ (l : ℕ). Tells new l) (down ∙ sym (last-here k (n - 1) (look k n ∷ me.0.looks))) (Tells-same new))
          (λ i u away has_u kept_here. tells (last_of k u.looks) (was.tells i k u has_u kept_here)),
      record { slots = refl; view = refl; holds = own },
    )

-- a load that moves a pin to the front
pub fronts : (count slots id k generation : ℕ) (me : Me ℕ Known) → k < count → 1 ≤ times k generation me.0.pins
    → Allows (Kept count) slots id me k (λ n. n) (Fronted (step slots k 0 0 none) me)
fronts count slots id k generation me inside has s was homes at fits =
    let n = get_or s.words k 0 in
    let g = (parts_of n).generation in
    let own = holds count s id k me.0 was at in
    let has_g : 1 ≤ times k g me.0.pins = subst (λ (x : ℕ). 1 ≤ times k x me.0.pins) (sym (own generation has).same) has in
    let w = fronted k g me.0 in (
      w,
      keeps,
      tt,
      kept count s k n id me.0 w me.1 was inside at (was.right k)
          (λ j h apart. times-fronted j h k g me.0.pins has_g)
          (λ h. ap (λ (m : ℕ). m + pins_of h (parts_of n)) (times-fronted k h k g me.0.pins has_g))
          (record { first = refl; count = refl }) (λ j apart. refl)
          (λ own_word. was.tells id k me.0 at own_word)
          (λ i u away has_u own_word. was.tells i k u has_u own_word),
      record { slots = refl; view = refl; holds = own },
    )

-- the first pin is split off
pub gives : (count id : ℕ) (v : Known) → Splits (Kept count) id v (without_first v) (first_alone v)
gives count id v s was at = split_kept count s id v (without_first v) (first_alone v)
    (record {
      pins = λ place generation. omega (arith, times-parts place generation v.pins);
      left_keeps = λ place own. (own, refl);
      right_keeps = λ place none. absurd (nothing-kept place none);
      apart = λ place own none. nothing-kept place none;
    }) was at

-- and comes to another's
pub takes_in : (count id : ℕ) (v : Known) (other : ℕ) (w : Known) → Joins (Kept count) id v other w (with_pins v w) nothing_known
takes_in count id v other w s was at two at_other = joined_kept count s id v other w (with_pins v w) (record { first = refl; count = refl }) refl
    (λ place generation. omega (arith, times-append place generation w.pins v.pins)) was at two at_other

-- an exchange that leaves a word without pins
pub changes : (count slots id k seen next : ℕ) (me : Me ℕ Known) → k < count → Keeps me.0 k → CanChange seen next
    → Allows (Kept count) slots id me k (λ n. either (eqb n seen) next n) (WordChanged (step slots k seen next none) me)
changes count slots id k seen next me inside own can s was homes at fits =
    let n = get_or s.words k 0 in
    exchanged n seen next (λ m. (w : Known) × (a : Act ℕ) × Valid s.homes me.1 a × Kept count (stepped s k m id me.1 w a) × WordChanged (step slots k seen next none) me n (w, carried_after me.1 a))
    (λ hit. (
      looked k next me.0,
      keeps,
      tt,
      keeper_kept count s k next id me.0 (looked k next me.0) me.1 was inside at own can.right (λ j g apart. refl)
          (λ g. omega (arith, pins_of-none g (parts_of n) (ap (λ (m : ℕ). (parts_of m).pins) hit ∙ can.none_before), pins_of-none g (parts_of next) can.none_after))
          (record { first = refl; count = refl }) (λ j apart. last-apart j k next me.0.looks apart) (last-here k next me.0.looks),
      record { slots = refl; hit = λ e. refl; miss = λ ne. absurd (ne hit); tells = λ keeps_it. was.tells id k me.0 at keeps_it },
    ))
    (λ miss. (
      looked k n me.0,
      keeps,
      tt,
      stays count s k id me was inside at,
      record { slots = refl; hit = λ e. absurd (miss e); miss = λ ne. refl; tells = λ keeps_it. was.tells id k me.0 at keeps_it },
    ))

-- an exchange that brings an inode into the cache
pub puts_in : (count slots id k seen next : ℕ) (me : Me ℕ Known) → k < count → Keeps me.0 k → CanInstall seen next
    → Allows (Kept count) slots id me k (λ n. either (eqb n seen) next n) (Installed (step slots k seen next none) me)
puts_in count slots id k seen next me inside own can s was homes at fits =
    let n = get_or s.words k 0 in
    let g = (parts_of next).generation in
    let w = pinned k g (looked k next me.0) in
    exchanged n seen next (λ m. (w : Known) × (a : Act ℕ) × Valid s.homes me.1 a × Kept count (stepped s k m id me.1 w a) × Installed (step slots k seen next none) me n (w, carried_after me.1 a))
    (λ hit.
    let dead : (parts_of n).live ≡ false = ap (λ (m : ℕ). (parts_of m).live) hit ∙ can.away in (
      w,
      keeps,
      tt,
      keeper_kept count s k next id me.0 w me.1 was inside at own can.right
          (λ j h apart. times-other j h k g me.0.pins (λ e. apart (sym e.0)))
          (λ h. dite (ℕ_discrete g h)
          (λ e. subst (λ (x : ℕ). times k x w.pins + pins_of x (parts_of n) ≡ times k x me.0.pins + pins_of x (parts_of next)) e
          (omega (arith, times-same k g me.0.pins, pins_of-dead g (parts_of n) dead, pins_of-here g (parts_of next) can.here refl, can.one)))
          (λ ne. omega (arith, times-other k h k g me.0.pins (λ e. ne e.1), pins_of-dead h (parts_of n) dead, pins_of-other h (parts_of next) ne)))
          (record { first = refl; count = refl }) (λ j apart. last-apart j k next me.0.looks apart) (last-here k next me.0.looks),
      record { slots = refl; hit = λ e. refl; miss = λ ne. absurd (ne hit); tells = λ keeps_it. was.tells id k me.0 at keeps_it },
    ))
    (λ miss. (
      looked k n me.0,
      keeps,
      tt,
      stays count s k id me was inside at,
      record { slots = refl; hit = λ e. absurd (miss e); miss = λ ne. refl; tells = λ keeps_it. was.tells id k me.0 at keeps_it },
    ))

-- the keeper's step that gives a pinned word another mark
remarked : (count : ℕ) (s : State ℕ Known) (id k generation next : ℕ) (unlinked : Bool) (me : Me ℕ Known) → Kept count s → k < count → get_elem? s.views id ≡ some me.0
    → Keeps me.0 k → IsPinned generation (parts_of (get_or s.words k 0)) → Marks unlinked (get_or s.words k 0) next
    → Kept count (stepped s k next id me.1 (looked k next (looked k (get_or s.words k 0) me.0)) keeps)
remarked count s id k generation next unlinked me was inside at own is m =
    let n = get_or s.words k 0 in
    let live : (parts_of next).live ≡ true = ap (λ (w : Word). w.live) m.parts_are ∙ is.live in
    let same : (parts_of next).generation ≡ (parts_of n).generation = ap (λ (w : Word). w.generation) m.parts_are in
    let pins_are : (parts_of next).pins ≡ (parts_of n).pins = ap (λ (w : Word). w.pins) m.parts_are in
    let g = (parts_of n).generation in
    keeper_kept count s k next id me.0 (looked k next (looked k n me.0)) me.1 was inside at own
    (record {
      unused = ap (λ (w : Word). w.unused) m.parts_are ∙ (was.right k).unused;
      no_pins = λ dead. absurd (true≢false (sym live ∙ dead));
      no_mark = λ dead. absurd (true≢false (sym live ∙ dead));
    })
    (λ j h apart. refl)
    (λ h. dite (ℕ_discrete g h)
    (λ e. subst (λ (x : ℕ). times k x me.0.pins + pins_of x (parts_of n) ≡ times k x me.0.pins + pins_of x (parts_of next)) e
    (omega (arith, pins_of-here g (parts_of n) is.live refl, pins_of-here g (parts_of next) live same, pins_are)))
    (λ ne. omega (arith, pins_of-other h (parts_of n) ne, pins_of-other h (parts_of next) (λ e. ne (sym same ∙ e)))))
    (record { first = refl; count = refl })
    (λ j apart. last-apart j k next (looked k n me.0).looks apart ∙ last-apart j k n me.0.looks apart)
    (last-here k next (looked k n me.0).looks)

pub marks_it : (laws : WordsAreNumbers) (count slots id k generation : ℕ) (me : Me ℕ Known) → k < count → Keeps me.0 k → 1 ≤ times k generation me.0.pins
    → Allows (Kept count) slots id me k (λ n. bit_or n (2 ^ 30)) (Marked (step slots k (2 ^ 30) 0 none) me)
marks_it laws count slots id k generation me inside own has s was homes at fits =
    let n = get_or s.words k 0 in
    let pinned_here = holds count s id k me.0 was at in
    let m = marks laws generation n fits (pinned_here generation has) in (
      looked k (bit_or n (2 ^ 30)) (looked k n me.0),
      keeps,
      tt,
      remarked count s id k generation (bit_or n (2 ^ 30)) true me was inside at own (pinned_here generation has) m,
      record { slots = refl; view = refl; holds = pinned_here; tells = λ _. was.tells id k me.0 at own },
    )

pub unmarks_it : (laws : WordsAreNumbers) (count slots id k generation : ℕ) (me : Me ℕ Known) → k < count → Keeps me.0 k → 1 ≤ times k generation me.0.pins
    → Allows (Kept count) slots id me k (λ n. bit_and n (2 ^ 64 - 1 - 2 ^ 30)) (Unmarked (step slots k (2 ^ 64 - 1 - 2 ^ 30) 0 none) me)
unmarks_it laws count slots id k generation me inside own has s was homes at fits =
    let n = get_or s.words k 0 in
    let pinned_here = holds count s id k me.0 was at in
    let m = unmarks laws generation n fits (pinned_here generation has) in (
      looked k (bit_and n (2 ^ 64 - 1 - 2 ^ 30)) (looked k n me.0),
      keeps,
      tt,
      remarked count s id k generation (bit_and n (2 ^ 64 - 1 - 2 ^ 30)) false me was inside at own (pinned_here generation has) m,
      record { slots = refl; view = refl; holds = pinned_here; tells = λ _. was.tells id k me.0 at own },
    )
