-- Each kind of step keeps the rule of the versions.
use Rattle.std.proofs.Common.{◌≡◌, ◌≢◌, ℕ, zero, suc, ◌+◌, ◌-◌, ◌<◌, ◌≤◌, Bool, eqb, eq-eqb, List, [], ◌∷◌, ◌++◌, length, set, get_or, replicate, refl, sym, ap, ◌∙◌, subst, inl, inr, ⊎_elim, length-append, nat_lt, arith}
use Rattle.std.proofs.lemmas.List.{length-set, get_or-replicate, get_or_past, length-replicate, set-get_or}
use Rattle.std.proofs.lemmas.Bool.{cases_lt}
use mathlib.Core.Option.{none, some, some-injective, some-ne-none}
use mathlib.Core.Logic.{dite}
use native.Mathlib.Decide.{ℕ_discrete}
use lib.ListN.{get_elem?}
use prog.Atomic.{either}
use Rattle.life_table.specs.declared.types.Entry.{Entry}
use Rattle.atomic_table.specs.Table.{State, Me, step, stepped, keeps, Allows, Splits, Joins, opening}
use Rattle.atomic_table.proofs.Lists.{at_set}
use Rattle.life_limits.specs.declared.TheConstants.{MAX_ACTORS}
use Rattle.version_table.specs.declared.story.Story.{Story}
use Rattle.version_table.specs.Story.{known_of, times, own_place, one_if, Keeps, new_keeper, nothing_known, saw, entered, warning, telling, handed_over, with_story}
use Rattle.version_table.specs.Rule.{owed, Fits, Told}
use Rattle.version_table.specs.Steps.{Loaded, Entered}
use Rattle.version_table.proofs.Lists.{total-append, total-set, at_view, at_split, at_word, by_test, times-append, times-own, times-own_else, owed-end, owed-else}
use Rattle.version_table.proofs.Fitting.{after_entry, Fits-keeper, keeps_none, Fits-saw, Fits-both, Fits-warning, Fits-handed, Fits-other, Fits-entered, Fits-telling}

-- two keep the same histories
pub record SameRange (v w : Story) : Type 0 where
  pub first : v.first ≡ w.first
  pub count : v.count ≡ w.count

Keeps-along : (v w : Story) (g : ℕ) → SameRange v w → Keeps w g → Keeps v g
Keeps-along v w g same kept = let first = same.first in let count = same.count in (omega (arith, kept.0, first), omega (arith, kept.1, first, count))

record Before (views : List Story) (j : ℕ) (u : Story) : Type 0 where
  old : Story
  here : get_elem? views j ≡ some old
  same : SameRange old u

before : (views : List Story) (id : ℕ) (v w : Story) → get_elem? views id ≡ some v → SameRange v w → (j : ℕ) (u : Story) → get_elem? (set views id w) j ≡ some u → Before views j u
before views id v w at same = at_view (Before views) views id w
    (record { old = v; here = at; same = same })
    (λ j u apart has. record { old = u; here = has; same = record { first = refl; count = refl } })

-- each history has one keeper at most, after one changed what it knows
alone-after : (views : List Story) (id : ℕ) (v w : Story) → get_elem? views id ≡ some v → SameRange v w
    → ((i j g : ℕ) (a b : Story) → get_elem? views i ≡ some a → get_elem? views j ≡ some b → Keeps a g → Keeps b g → i ≡ j)
    → (i j g : ℕ) (a b : Story) → get_elem? (set views id w) i ≡ some a → get_elem? (set views id w) j ≡ some b → Keeps a g → Keeps b g → i ≡ j
alone-after views id v w at same was i j g a b at_i at_j keeps_a keeps_b =
    let x = before views id v w at same i a at_i in
    let y = before views id v w at same j b at_j in
    was i j g x.old y.old x.here y.here (Keeps-along x.old a g x.same keeps_a) (Keeps-along y.old b g y.same keeps_b)

-- a load
pub loads : (count slots id g : ℕ) (me : Me Entry Story) → g < count → Allows (Told count) slots id me g (λ n. n) (Loaded (step slots g 0 0 none) me)
loads count slots id g me inside s was homes at fits =
    let n = get_or s.words g 0 in
    let w = saw g n me.0 in
    let mine = was.fits id me.0 at in (
      w,
      keeps,
      tt,
      record {
        counted = length-set s.words g n ∙ was.counted;
        story = was.story;
        words = λ j. ap (λ (ws : List ℕ). get_or ws j 0) (set-get_or s.words g 0) ∙ was.words j;
        alone = alone-after s.views id me.0 w at (record { first = refl; count = refl }) was.alone;
        fits = at_view (λ j u. Fits was.story u) s.views id w (Fits-saw was.story me.0 g n mine (was.words g)) (λ j u apart has. was.fits j u has);
        once = λ j p. let sum = total-set (λ u. times j p u.places) s.views id me.0 w at in omega (arith, sum, was.once j p);
      },
      record { slots = refl; view = refl; seen = (let most = mine.seen g in omega (arith, most, was.words g)) },
    )

-- what one entry owes
abbrev one_if_of : Entry → ℕ
one_if_of e = one_if (nat_lt e.actor MAX_ACTORS)

-- nothing is owed behind the end
owed-past : (xs : List Entry) (p : ℕ) → length xs ≤ p → owed xs p ≡ 0
owed-past [] p past = refl
owed-past (x ∷ xs) zero past = absurd (omega arith)
owed-past (x ∷ xs) (suc p) past = owed-past xs p (omega arith)

-- who is not the one that changed knows what it knew
at_other-before : (views : List Story) (id other : ℕ) (w u : Story) → (other ≡ id → ⊥) → get_elem? (set views id w) other ≡ some u → get_elem? views other ≡ some u
at_other-before views id other w u two has = ⊎_elim (λ (x : (other ≡ id) × (w ≡ u)). absurd (two x.0)) (λ (x : (other ≢ id) × (get_elem? views other ≡ some u)). x.1) (at_set views id other w u has)

-- the places of one entry more
owed-after : (story : ℕ → List Entry) (g : ℕ) (e : Entry) (n : ℕ) → n ≡ length (story g) → (j p : ℕ) → owed (after_entry story g e j) p ≡ owed (story j) p + times j p (own_place g n e)
owed-after story g e n is j p = by_test g j (story j ++ e ∷ []) (story j) (λ (l : List Entry). owed l p ≡ owed (story j) p + times j p (own_place g n e))
    (λ same. subst (λ (x : ℕ). owed (story x ++ e ∷ []) p ≡ owed (story x) p + times x p (own_place g n e)) same
    (dite (ℕ_discrete n p)
    (λ here. subst (λ (q : ℕ). owed (story g ++ e ∷ []) q ≡ owed (story g) q + times g q (own_place g n e)) here
    (let at : owed (story g ++ e ∷ []) n ≡ one_if_of e = ap (owed (story g ++ e ∷ [])) is ∙ owed-end (story g) e in
    let past : owed (story g) n ≡ 0 = owed-past (story g) n (omega (arith, is)) in
    omega (arith, at, past, times-own g n e)))
    (λ apart. let stays = owed-else (story g) e p (λ same_place. apart (is ∙ sym same_place)) in omega (arith, stays, times-own_else g n e g p (λ x. apart x.1)))))
    (λ ne. omega (arith, times-own_else g n e j p (λ x. ne x.0)))

-- an entry of the keeper's
pub enters : (count slots id g old : ℕ) (me : Me Entry Story) (e : Entry) → g < count → Keeps me.0 g → old ≡ length (known_of g me.0.lines)
    → Allows (Told count) slots id me g (λ n. either (eqb n old) (old + 1) n) (Entered (step slots g old (old + 1) (some e)) me)
enters count slots id g old me e inside kept is s was homes at fits =
    let n = get_or s.words g 0 in
    let mine = was.fits id me.0 at in
    let all : known_of g me.0.lines ≡ was.story g = mine.exact g kept in
    let long : old ≡ length (was.story g) = is ∙ ap length all in
    let hit : n ≡ old = was.words g ∙ sym long in
    let far : g < length s.words = omega (arith, was.counted, inside) in
    let w = entered g e me.0 in
    let story = after_entry was.story g e in
    let new : either (eqb n old) (old + 1) n ≡ old + 1 = ap (λ (b : Bool). either b (old + 1) n) (eq-eqb n old hit) in
    let made : Told count (stepped s g (old + 1) id me.1 w keeps) = record {
      counted = length-set s.words g (old + 1) ∙ was.counted;
      story = story;
      words = λ j. at_word s.words g (old + 1) j (λ (m : ℕ). m ≡ length (story j)) far
          (λ same. by_test g j (was.story j ++ e ∷ []) (was.story j) (λ (l : List Entry). old + 1 ≡ length l)
          (λ _. omega (arith, long, length-append (was.story j) (e ∷ []), ap (λ (x : ℕ). length (was.story x)) same)) (λ ne. absurd (ne (sym same))))
          (λ apart. by_test g j (was.story j ++ e ∷ []) (was.story j) (λ (l : List Entry). get_or s.words j 0 ≡ length l) (λ same. absurd (apart (sym same))) (λ _. was.words j));
      alone = alone-after s.views id me.0 w at (record { first = refl; count = refl }) was.alone;
      fits = at_view (λ j u. Fits story u) s.views id w (Fits-entered was.story me.0 g e mine kept)
          (λ j u apart has. Fits-other was.story u g e (was.fits j u has) (λ theirs. apart (was.alone j id g u me.0 has at theirs kept)));
      once = λ j p.
          let sum = total-set (λ u. times j p u.places) s.views id me.0 w at in
          let more = times-append j p (own_place g (length (known_of g me.0.lines)) e) me.0.places in
          let owes = owed-after was.story g e (length (known_of g me.0.lines)) (ap length all) j p in
          omega (arith, sum, was.once j p, more, owes);
    } in (
      w,
      keeps,
      tt,
      subst (λ (m : ℕ). Told count (stepped s g m id me.1 w keeps)) (sym new) made,
      record {
        slots = refl;
        view = λ said same. ap (λ (x : Entry). entered g x me.0) (some-injective e said same);
        seen = (let most = mine.seen g in omega (arith, most, long));
      },
    )

-- One who knows is split into two.
pub record Shares (v left right : Story) : Type 0 where
  pub places : (g p : ℕ) → times g p left.places + times g p right.places ≡ times g p v.places
  pub left_keeps : (g : ℕ) → Keeps left g → Keeps v g
  pub right_keeps : (g : ℕ) → Keeps right g → Keeps v g
  pub apart : (g : ℕ) → Keeps left g → Keeps right g → ⊥
  pub fits : (story : ℕ → List Entry) → Fits story v → Fits story left × Fits story right

pub split_told : (count : ℕ) (s : State Entry Story) (id : ℕ) (v left right : Story) → Shares v left right → Told count s → get_elem? s.views id ≡ some v
    → Told count (record { words = s.words; homes = s.homes; views = set s.views id left ++ right ∷ [] })
split_told count s id v left right parts was at =
    let new = set s.views id left ++ right ∷ [] in
    let both = parts.fits was.story (was.fits id v at) in
    let of_left : (g j : ℕ) (u : Story) → j ≢ id → get_elem? s.views j ≡ some u → Keeps left g → Keeps u g → ⊥ =
    λ g j u away has a b. away (was.alone j id g u v has at b (parts.left_keeps g a)) in
    let of_right : (g j : ℕ) (u : Story) → j ≢ id → get_elem? s.views j ≡ some u → Keeps right g → Keeps u g → ⊥ =
    λ g j u away has a b. away (was.alone j id g u v has at b (parts.right_keeps g a)) in
    record {
      counted = was.counted;
      story = was.story;
      words = was.words;
      alone = λ i j g a b at_i at_j. at_split (λ i a. (j : ℕ) (b : Story) → get_elem? new j ≡ some b → Keeps a g → Keeps b g → i ≡ j) s.views id left right
          (at_split (λ j b. Keeps left g → Keeps b g → id ≡ j) s.views id left right (λ x y. refl) (λ x y. absurd (parts.apart g x y)) (λ j b away has x y. absurd (of_left g j b away has x y)))
          (at_split (λ j b. Keeps right g → Keeps b g → length s.views ≡ j) s.views id left right (λ x y. absurd (parts.apart g y x)) (λ x y. refl) (λ j b away has x y. absurd (of_right g j b away has x y)))
          (λ i a away has. at_split (λ j b. Keeps a g → Keeps b g → i ≡ j) s.views id left right (λ x y. absurd (of_left g i a away has y x)) (λ x y. absurd (of_right g i a away has y x))
          (λ j b away_j has_j x y. was.alone i j g a b has has_j x y))
          i a at_i j b at_j;
      fits = at_split (λ j u. Fits was.story u) s.views id left right both.0 both.1 (λ j u away has. was.fits j u has);
      once = λ g p. let f : Story → ℕ = λ u. times g p u.places in
          omega (arith, total-append f (set s.views id left) (right ∷ []), total-set f s.views id v left at, parts.places g p, was.once g p);
    }

-- a reader is made, of anybody
pub makes_reader : (count id : ℕ) (v : Story) → Splits (Told count) id v v nothing_known
makes_reader count id v s was at = split_told count s id v v nothing_known
    (record {
      places = λ g p. omega arith;
      left_keeps = λ g kept. kept;
      right_keeps = λ g kept. absurd (keeps_none g kept);
      apart = λ g kept none_kept. keeps_none g none_kept;
      fits = λ story old. (old, Fits-keeper story 0 0 (λ g kept. absurd (keeps_none g kept)));
    }) was at

-- the next keeper is made, where a history has none
pub makes_keeper : (count id first left : ℕ) (v : Story) → v ≡ new_keeper first left → 1 ≤ left
    → Splits (Told count) id v (new_keeper (v.first + 1) (v.count - 1)) (new_keeper v.first 1)
makes_keeper count id first left v is some_left = subst (λ (u : Story). Splits (Told count) id u (new_keeper (u.first + 1) (u.count - 1)) (new_keeper u.first 1)) (sym is)
    (λ s was at. split_told count s id (new_keeper first left) (new_keeper (first + 1) (left - 1)) (new_keeper first 1)
    (record {
      places = λ g p. omega arith;
      left_keeps = λ g kept. (omega (arith, kept.0), omega (arith, kept.0, kept.1));
      right_keeps = λ g kept. (kept.0, omega (arith, kept.1));
      apart = λ g a b. omega (arith, a.0, b.1);
      fits = λ story old. (
        Fits-keeper story (first + 1) (left - 1) (λ g kept. old.exact g (omega (arith, kept.0), omega (arith, kept.0, kept.1))),
        Fits-keeper story first 1 (λ g kept. old.exact g (kept.0, omega (arith, kept.1))),
      );
    }) was at)

-- a reader's warning is split off
pub warns : (count id : ℕ) (v : Story) → Splits (Told count) id v v (warning v)
warns count id v s was at = split_told count s id v v (warning v)
    (record {
      places = λ g p. omega arith;
      left_keeps = λ g kept. kept;
      right_keeps = λ g kept. absurd (keeps_none g kept);
      apart = λ g kept none_kept. keeps_none g none_kept;
      fits = λ story old. (old, Fits-warning story v old);
    }) was at

-- what a keeper tells of an entry is split off
pub tells : (count id g : ℕ) (e : Entry) (u v : Story) → u.places ≡ [] → v ≡ entered g e u → Splits (Told count) id v (handed_over v) (telling v)
tells count id g e u v none_waits is = subst (λ (x : Story). Splits (Told count) id x (handed_over x) (telling x)) (sym is)
    (λ s was at. let x = entered g e u in split_told count s id x (handed_over x) (telling x)
    (record {
      places = λ j p. omega arith;
      left_keeps = λ j kept. kept;
      right_keeps = λ j kept. absurd (keeps_none j kept);
      apart = λ j kept none_kept. keeps_none j none_kept;
      fits = λ story old. (Fits-handed story x old, Fits-telling story u g e none_waits old);
    }) was at)

-- what was split off comes to another
pub takes_in : (count id : ℕ) (v : Story) (other : ℕ) (w : Story) → Joins (Told count) id v other w (with_story v w) nothing_known
takes_in count id v other w s was at two at_other =
    let both = with_story v w in
    let half = set s.views id both in
    let one = alone-after s.views id v both at (record { first = refl; count = refl }) was.alone in
    let w_at : (u : Story) → get_elem? half other ≡ some u → get_elem? s.views other ≡ some u =
    λ u has. at_other-before s.views id other both u two has in
    let all : (j : ℕ) (u : Story) → get_elem? half j ≡ some u → Fits was.story u =
    at_view (λ j u. Fits was.story u) s.views id both (Fits-both was.story v w (was.fits id v at) (was.fits other w (w_at w at_other))) (λ j u away has. was.fits j u has) in
    record {
      counted = was.counted;
      story = was.story;
      words = was.words;
      alone = λ i j g a b at_i at_j. at_view (λ i a. (j : ℕ) (b : Story) → get_elem? (set half other nothing_known) j ≡ some b → Keeps a g → Keeps b g → i ≡ j) half other nothing_known
          (λ j b at_j x y. absurd (keeps_none g x))
          (λ i a away has. at_view (λ j b. Keeps a g → Keeps b g → i ≡ j) half other nothing_known (λ x y. absurd (keeps_none g y)) (λ j b away_j has_j x y. one i j g a b has has_j x y))
          i a at_i j b at_j;
      fits = at_view (λ j u. Fits was.story u) half other nothing_known (Fits-keeper was.story 0 0 (λ g kept. absurd (keeps_none g kept))) (λ j u away has. all j u has);
      once = λ g p. let f : Story → ℕ = λ u. times g p u.places in
          omega (arith, total-set f half other w nothing_known at_other, total-set f s.views id v both at, times-append g p w.places v.places, was.once g p);
    }

get_zero : (count at : ℕ) → ◌≡◌ {A = ℕ} (get_or (replicate count 0) at 0) 0
get_zero count at = elim (cases_lt at count) [
  | inl inside ↦ get_or-replicate {A = ℕ} count at 0 0 inside
  | inr past ↦ get_or_past {X = ℕ} (replicate count 0) at 0 (omega (arith, past, length-replicate {A = ℕ} count 0))
]

one_view : (F : ℕ → Story → Type 0) (v : Story) → F 0 v → (j : ℕ) (u : Story) → get_elem? (v ∷ []) j ≡ some u → F j u
one_view F v mine zero u e = subst (F 0) (some-injective v u e) mine
one_view F v mine (suc j) u e = absurd (some-ne-none u (sym e))

-- the rule holds of zeros, with one maker
pub begins : (count : ℕ) → Told count (opening (replicate count 0) [] (new_keeper 0 count))
begins count = let maker = new_keeper 0 count in record {
  counted = length-replicate {A = ℕ} count 0;
  story = λ g. [];
  words = λ g. get_zero count g;
  alone = λ i j g v w at_i at_j keeps_v keeps_w. one_view (λ i v. i ≡ j) maker (one_view (λ j w. 0 ≡ j) maker refl j w at_j) i v at_i;
  fits = one_view (λ j u. Fits (λ g. []) u) maker (Fits-keeper (λ g. []) 0 count (λ g kept. refl));
  once = λ g p. refl;
}

pub begins-at : (words : List ℕ) (n count : ℕ) → count ≡ n → words ≡ replicate n 0 → Told count (opening words [] (new_keeper 0 count))
begins-at words n count same are = subst (λ (l : List ℕ). Told count (opening l [] (new_keeper 0 count))) (sym (are ∙ ap (λ (m : ℕ). replicate m 0) (sym same))) (begins count)
