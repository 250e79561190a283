-- What two steps of a keeper come to.
use Rattle.std.proofs.Common.{◌≡◌, ℕ, ◌≤◌, Bool, true, false, true≢false, cond, eqb, eq-eqb, ne_eqb, List, ◌∷◌, refl, sym, ap, ◌∙◌, subst, inl, inr, arith, Some, None}
use mathlib.Core.Option.{none}
use mathlib.Core.Logic.{dite}
use native.Mathlib.Decide.{ℕ_discrete}
use Rattle.atomic_table.specs.Table.{Me, step}
use Rattle.slot_words.specs.declared.word.Word.{Word}
use Rattle.slot_words.specs.Words.{numbered}
use Rattle.slot_words.specs.Steps.{is_awaiting, after_install, after_retire, after_kill}
use Rattle.word_table.specs.declared.known.Look.{Look}
use Rattle.word_table.specs.declared.known.Known.{Known}
use Rattle.word_table.specs.Words.{parts_of, IsStill, Tells}
use Rattle.word_table.specs.Known.{hold, times, without, last_of, looked, pinned, unpinned, with_looks, Keeps}
use Rattle.word_table.specs.Steps.{Looked, WordChanged, Installed}
use Rattle.word_table.specs.Replies.{IsTaken, IsInstalled, IsInstalledHeld, Retired, Killed}
use Rattle.word_table.proofs.Lists.{times-same, is_hold-here}
use Rattle.word_table.proofs.Parts.{Installs, Kills, awaiting-says}
use Rattle.word_table.proofs.StepsKeep.{last-here}

-- what a seat keeps does not change
Keeps-same : (v w : Known) (place : ℕ) → w ≡ v → Keeps v place → Keeps w place
Keeps-same v w place same own = subst (λ (u : Known). Keeps u place) (sym same) own

pub taken_by : (slots place generation found : ℕ) (v : Known) (me1 me2 : Me ℕ Known) → me1.0 ≡ pinned place generation v → Keeps v place
    → Looked (step slots place 0 0 none) me1 found me2 → IsTaken place generation v me2.0
taken_by slots place generation found v me1 me2 is own st =
    let has : 1 ≤ times place generation me1.0.pins = subst (λ (u : Known). 1 ≤ times place generation u.pins) (sym is) (omega (arith, times-same place generation v.pins)) in (
      found,
      st.holds generation has,
      subst (λ (u : Known). Tells found (last_of place u.looks)) is (st.tells (Keeps-same (pinned place generation v) me1.0 place is own)),
      st.view ∙ ap (looked place found) is,
    )

-- the last look after a load
seen_last : (place seen : ℕ) (v w : Known) → w ≡ looked place seen v → last_of place w.looks ≡ seen
seen_last place seen v w is = ap (λ (u : Known). last_of place u.looks) is ∙ last-here place seen v.looks

pub brought : (slots place generation seen next found : ℕ) (unlinked : Bool) (me0 me1 me2 : Me ℕ Known) → Keeps me0.0 place → (parts_of (last_of place me0.0.looks)).live ≡ false
    → Looked (step slots place 0 0 none) me0 seen me1 → Some next ≡ numbered (after_install generation unlinked (parts_of seen)) → Installs generation unlinked seen next
    → Installed (step slots place seen next none) me1 found me2 → IsInstalledHeld place generation unlinked me0.0 me2.0
brought slots place generation seen next found unlinked me0 me1 me2 own away st1 is makes st2 =
    let last = last_of place me0.0.looks in
    let same : seen ≡ last = (st1.tells own).still (inl away) in
    let after = seen_last place seen me0.0 me1.0 st1.view in
    let dead : IsStill (parts_of (last_of place me1.0.looks)) = inl (ap (λ (n : ℕ). (parts_of n).live) after ∙ makes.away) in
    let hit : found ≡ seen = (st2.tells (Keeps-same (looked place seen me0.0) me1.0 place st1.view own)).still dead ∙ after in
    let born : (parts_of next).generation ≡ generation = ap (λ (w : Word). w.generation) makes.more in (
      next,
      subst (λ (n : ℕ). Some next ≡ numbered (after_install generation unlinked (parts_of n))) same is,
      st2.hit hit ∙ ap (λ (g : ℕ). pinned place g (looked place next me1.0)) born ∙ ap (λ (u : Known). pinned place generation (looked place next u)) st1.view
          ∙ ap (λ (n : ℕ). pinned place generation (looked place next (looked place n me0.0))) same,
    )

-- an exchange that is made, or finds another word
pub retired_by : (slots place seen next found : ℕ) (me0 me1 me2 : Me ℕ Known) → Keeps me0.0 place → Looked (step slots place 0 0 none) me0 seen me1
    → Some next ≡ numbered (after_retire (parts_of seen)) → WordChanged (step slots place seen next none) me1 found me2 → Retired place me0.0 (eqb found seen) me2.0
retired_by slots place seen next found me0 me1 me2 own st1 is st2 = dite (ℕ_discrete found seen)
    (λ hit. subst (λ (b : Bool). Retired place me0.0 b me2.0) (sym (eq-eqb found seen hit))
    (seen, next, st1.tells own, is, st2.hit hit ∙ ap (looked place next) st1.view))
    (λ miss. subst (λ (b : Bool). Retired place me0.0 b me2.0) (sym (ne_eqb found seen miss))
    (inr (seen, found, st1.tells own, (λ none_next. let wrong : Some next ≡ None = is ∙ ap numbered none_next in absurd (cc)), miss, subst (λ (l : ℕ). Tells found l) (seen_last place seen me0.0 me1.0 st1.view) (st2.tells (Keeps-same (looked place seen me0.0) me1.0 place st1.view own)), st2.miss miss ∙ ap (looked place found) st1.view)))

-- the exchange of a word that only its keeper changes is made
pub killed_by : (slots place generation seen next found : ℕ) (me0 me1 me2 : Me ℕ Known) → Keeps me0.0 place → Looked (step slots place 0 0 none) me0 seen me1
    → Kills generation seen next → WordChanged (step slots place seen next none) me1 found me2 → found ≡ seen
killed_by slots place generation seen next found me0 me1 me2 own st1 makes st2 =
    let after = seen_last place seen me0.0 me1.0 st1.view in
    let waits : IsStill (parts_of (last_of place me1.0.looks)) = subst (λ (n : ℕ). IsStill (parts_of n)) (sym after) (inr (makes.mark, makes.no_pins)) in
    (st2.tells (Keeps-same (looked place seen me0.0) me1.0 place st1.view own)).still waits ∙ after

pub killed_is : (slots place generation seen next found : ℕ) (me0 me1 me2 : Me ℕ Known) → Keeps me0.0 place → Looked (step slots place 0 0 none) me0 seen me1
    → Some next ≡ numbered (after_kill generation (parts_of seen)) → Kills generation seen next → WordChanged (step slots place seen next none) me1 found me2
    → Killed place generation me0.0 (eqb found seen) me2.0
killed_is slots place generation seen next found me0 me1 me2 own st1 is makes st2 =
    let hit = killed_by slots place generation seen next found me0 me1 me2 own st1 makes st2 in
    subst (λ (b : Bool). Killed place generation me0.0 b me2.0) (sym (eq-eqb found seen hit))
    (seen, next, st1.tells own, is, st2.hit hit ∙ ap (looked place next) st1.view)

-- a word that has no next one by a kill does not wait to be freed, and so did not at the last look
pub not_awaited : (slots place generation seen : ℕ) (me0 me1 : Me ℕ Known) → Keeps me0.0 place → Looked (step slots place 0 0 none) me0 seen me1
    → is_awaiting generation (parts_of seen) ≡ false → is_awaiting generation (parts_of (last_of place me0.0.looks)) ≡ true → ⊥
not_awaited slots place generation seen me0 me1 own st1 not_now then_ =
    let says = awaiting-says generation (parts_of (last_of place me0.0.looks)) then_ in
    let same = (st1.tells own).still (inr (says.2, says.3)) in
    true≢false (sym then_ ∙ (sym (ap (λ (n : ℕ). is_awaiting generation (parts_of n)) same) ∙ not_now))

-- a pin that was got and given on
pub installed_by : (place generation : ℕ) (unlinked : Bool) (v held now : Known) → IsInstalledHeld place generation unlinked v held → now ≡ unpinned place generation held
    → IsInstalled place generation unlinked v now
installed_by place generation unlinked v held now is gone =
    let u = looked place is.0 (looked place (last_of place v.looks) v) in
    let back : unpinned place generation (pinned place generation u) ≡ u =
    ap (λ (b : Bool). record u { pins = cond b u.pins (hold place generation ∷ without place generation u.pins) }) (is_hold-here place generation (hold place generation) refl refl) in
    (is.0, is.1, gone ∙ ap (unpinned place generation) is.2 ∙ back)

pub has_pin : (place generation : ℕ) (unlinked : Bool) (v held : Known) → IsInstalledHeld place generation unlinked v held → 1 ≤ times place generation held.pins
has_pin place generation unlinked v held is =
    let u = looked place is.0 (looked place (last_of place v.looks) v) in
    subst (λ (x : Known). 1 ≤ times place generation x.pins) (sym is.2) (omega (arith, times-same place generation u.pins))

-- what a call leaves but for what was seen
pub same_but : (v w : Known) (looks : List Look) → w ≡ with_looks looks v → w ≡ with_looks w.looks v
same_but v w looks is = is ∙ ap (λ (u : Known). with_looks u.looks v) (sym is)

pub taken_stays : (place generation : ℕ) (v w : Known) → IsTaken place generation v w → w ≡ with_looks w.looks (pinned place generation v)
taken_stays place generation v w is = same_but (pinned place generation v) w _ is.3

pub installed_stays : (place generation : ℕ) (unlinked : Bool) (v w : Known) → IsInstalled place generation unlinked v w → w ≡ with_looks w.looks v
installed_stays place generation unlinked v w is = same_but v w _ is.2

pub retired_stays : (place : ℕ) (v : Known) (b : Bool) (w : Known) → Retired place v b w → w ≡ with_looks w.looks v
retired_stays place v true w is = same_but v w _ is.4
retired_stays place v false w is = elim is [ inl none_next ↦ same_but v w _ none_next.3 | inr raced ↦ same_but v w _ raced.6 ]

pub killed_stays : (place generation : ℕ) (v : Known) (b : Bool) (w : Known) → Killed place generation v b w → w ≡ with_looks w.looks v
killed_stays place generation v true w is = same_but v w _ is.4
killed_stays place generation v false w is = same_but v w _ is.3
