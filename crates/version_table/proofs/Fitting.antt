-- What one knows fits the histories, after each change of it.
use Rattle.std.proofs.Common.{◌≡◌, ℕ, ◌+◌, ◌<◌, ◌≤◌, Bool, cond, eqb, eq-eqb, max, List, [], ◌∷◌, ◌++◌, length, sym, refl, ap, ◌∙◌, subst, ⊎_elim, arith, length-append}
use mathlib.Core.List.{IsPrefix}
use mathlib.Core.Logic.{dite}
use native.Mathlib.Decide.{ℕ_discrete}
use Rattle.life_table.specs.declared.types.Entry.{Entry}
use Rattle.version_table.specs.declared.story.Line.{Line}
use Rattle.version_table.specs.declared.story.Story.{Story}
use Rattle.version_table.specs.Story.{sight, line, seen_of, longer, known_of, times, own_place, Keeps, new_keeper, nothing_known, saw, entered, warning, telling, handed_over, with_story}
use Rattle.version_table.specs.Rule.{Fits}
use Rattle.version_table.proofs.Lists.{by_test, seen_of-append, seen_of-first, longer-first, known_of-append, prefix_refl, prefix_more, prefix_whole, times-append, times-own_else}

-- the histories after one more entry of a group
abbrev pub after_entry : (ℕ → List Entry) → ℕ → Entry → ℕ → List Entry
after_entry story g e j = cond (eqb g j) (story j ++ e ∷ []) (story j)

pub Fits-keeper : (story : ℕ → List Entry) (first count : ℕ) → ((g : ℕ) → Keeps (new_keeper first count) g → [] ≡ story g) → Fits story (new_keeper first count)
Fits-keeper story first count empty = record {
  exact = empty;
  seen = λ g. omega arith;
  known = λ g. (story g, refl);
  no_longer = λ g. omega arith;
  own = λ g at has. absurd (omega arith);
}

pub keeps_none : (g : ℕ) → Keeps nothing_known g → ⊥
keeps_none g kept = omega (arith, kept.1)

pub Fits-saw : (story : ℕ → List Entry) (v : Story) (g n : ℕ) → Fits story v → n ≡ length (story g) → Fits story (saw g n v)
Fits-saw story v g n was is = record {
  exact = was.exact;
  seen = λ j. by_test g j (max n (seen_of j v.sights)) (seen_of j v.sights) (λ (m : ℕ). m ≤ length (story j))
      (λ e. let more = was.seen j in omega (arith, is, ap (λ (x : ℕ). length (story x)) e, more)) (λ ne. was.seen j);
  known = was.known;
  no_longer = λ j. by_test g j (max n (seen_of j v.sights)) (seen_of j v.sights) (λ (m : ℕ). length (known_of j v.lines) ≤ m)
      (λ e. let old = was.no_longer j in omega (arith, old)) (λ ne. was.no_longer j);
  own = was.own;
}

pub Fits-both : (story : ℕ → List Entry) (v w : Story) → Fits story v → Fits story w → Fits story (with_story v w)
Fits-both story v w of_v of_w = record {
  exact = λ g kept.
      let all = of_v.exact g kept in
      let both = known_of-append g w.lines v.lines in
      ⊎_elim
      (λ (s : known_of g (w.lines ++ v.lines) ≡ known_of g w.lines).
      s ∙ prefix_whole (known_of g w.lines) (story g) (of_w.known g) (let long = both.second in omega (arith, long, ap length s, ap length all)))
      (λ (s : known_of g (w.lines ++ v.lines) ≡ known_of g v.lines). s ∙ all) both.which;
  seen = λ g. let a = of_v.seen g in let b = of_w.seen g in omega (arith, seen_of-append g w.sights v.sights, a, b);
  known = λ g. ⊎_elim
      (λ (s : known_of g (w.lines ++ v.lines) ≡ known_of g w.lines). subst (λ (l : List Entry). IsPrefix l (story g)) (sym s) (of_w.known g))
      (λ (s : known_of g (w.lines ++ v.lines) ≡ known_of g v.lines). subst (λ (l : List Entry). IsPrefix l (story g)) (sym s) (of_v.known g))
      (known_of-append g w.lines v.lines).which;
  no_longer = λ g. let a = of_v.no_longer g in let b = of_w.no_longer g in ⊎_elim
      (λ (s : known_of g (w.lines ++ v.lines) ≡ known_of g w.lines). omega (arith, ap length s, b, seen_of-append g w.sights v.sights))
      (λ (s : known_of g (w.lines ++ v.lines) ≡ known_of g v.lines). omega (arith, ap length s, a, seen_of-append g w.sights v.sights))
      (known_of-append g w.lines v.lines).which;
  own = λ g at has.
      let both = known_of-append g w.lines v.lines in
      let first = both.first in
      let second = both.second in
      dite (ℕ_discrete (times g at w.places) 0)
      (λ none. let inside = of_v.own g at (omega (arith, has, none, times-append g at w.places v.places)) in omega (arith, inside, second))
      (λ some_place. let inside = of_w.own g at (omega (arith, some_place)) in omega (arith, inside, first));
}

pub Fits-warning : (story : ℕ → List Entry) (v : Story) → Fits story v → Fits story (warning v)
Fits-warning story v was = record {
  exact = λ g kept. absurd (keeps_none g kept);
  seen = λ g. let old = was.seen g in omega (arith, old, seen_of-first g v.sights);
  known = λ g. (story g, refl);
  no_longer = λ g. omega arith;
  own = λ g at has. absurd (omega arith);
}

pub Fits-handed : (story : ℕ → List Entry) (v : Story) → Fits story v → Fits story (handed_over v)
Fits-handed story v was = record { exact = was.exact; seen = was.seen; known = was.known; no_longer = was.no_longer; own = λ g at has. absurd (omega arith) }

-- one who keeps another group's history alone, or none
pub Fits-other : (story : ℕ → List Entry) (u : Story) (g : ℕ) (e : Entry) → Fits story u → (Keeps u g → ⊥) → Fits (after_entry story g e) u
Fits-other story u g e was away = record {
  exact = λ j kept. by_test g j (story j ++ e ∷ []) (story j) (λ (l : List Entry). known_of j u.lines ≡ l)
      (λ same. absurd (away (subst (λ (x : ℕ). Keeps u x) (sym same) kept))) (λ ne. was.exact j kept);
  seen = λ j. by_test g j (story j ++ e ∷ []) (story j) (λ (l : List Entry). seen_of j u.sights ≤ length l)
      (λ same. let old = was.seen j in omega (arith, old, length-append (story j) (e ∷ []))) (λ ne. was.seen j);
  known = λ j. by_test g j (story j ++ e ∷ []) (story j) (λ (l : List Entry). IsPrefix (known_of j u.lines) l)
      (λ same. prefix_more (known_of j u.lines) (story j) (e ∷ []) (was.known j)) (λ ne. was.known j);
  no_longer = was.no_longer;
  own = was.own;
}

-- a line of one entry more, in front
known_now : (g : ℕ) (old : List Entry) (e : Entry) (ls : List Line) → old ≡ known_of g ls → known_of g (line g (old ++ e ∷ []) ∷ ls) ≡ old ++ e ∷ []
known_now g old e ls is =
    ap (λ (b : Bool). cond b (longer (old ++ e ∷ []) (known_of g ls)) (known_of g ls)) (eq-eqb g g refl)
    ∙ longer-first (old ++ e ∷ []) (known_of g ls) (omega (arith, length-append old (e ∷ []), ap length is))

pub Fits-entered : (story : ℕ → List Entry) (v : Story) (g : ℕ) (e : Entry) → Fits story v → Keeps v g → Fits (after_entry story g e) (entered g e v)
Fits-entered story v g e was kept_g =
    let old = known_of g v.lines in
    let new = old ++ e ∷ [] in
    let all : old ≡ story g = was.exact g kept_g in
    let one_more : length new ≡ length old + 1 = length-append old (e ∷ []) in
    let now : known_of g (line g new ∷ v.lines) ≡ new = known_now g old e v.lines refl in
    let story_now : after_entry story g e g ≡ new = ap (λ (b : Bool). cond b (story g ++ e ∷ []) (story g)) (eq-eqb g g refl) ∙ ap (λ (l : List Entry). l ++ e ∷ []) (sym all) in
    let most : seen_of g v.sights ≤ length old = subst (λ (l : List Entry). seen_of g v.sights ≤ length l) (sym all) (was.seen g) in
    record {
      exact = λ j kept. dite (ℕ_discrete g j)
          (λ same. subst (λ (x : ℕ). known_of x (line g new ∷ v.lines) ≡ after_entry story g e x) same (now ∙ sym story_now))
          (λ ne. by_test g j (longer new (known_of j v.lines)) (known_of j v.lines) (λ (l : List Entry). l ≡ after_entry story g e j) (λ same. absurd (ne same))
          (λ _. by_test g j (story j ++ e ∷ []) (story j) (λ (l : List Entry). known_of j v.lines ≡ l) (λ same. absurd (ne same)) (λ _. was.exact j kept)));
      seen = λ j. dite (ℕ_discrete g j)
          (λ same. subst (λ (x : ℕ). seen_of x (sight g (length old + 1) ∷ v.sights) ≤ length (after_entry story g e x)) same
          (let front = ap (λ (b : Bool). cond b (max (length old + 1) (seen_of g v.sights)) (seen_of g v.sights)) (eq-eqb g g refl) in omega (arith, front, most, one_more, ap length story_now)))
          (λ ne. by_test g j (max (length old + 1) (seen_of j v.sights)) (seen_of j v.sights) (λ (m : ℕ). m ≤ length (after_entry story g e j)) (λ same. absurd (ne same))
          (λ _. by_test g j (story j ++ e ∷ []) (story j) (λ (l : List Entry). seen_of j v.sights ≤ length l) (λ same. absurd (ne same)) (λ _. was.seen j)));
      known = λ j. dite (ℕ_discrete g j)
          (λ same. subst (λ (x : ℕ). IsPrefix (known_of x (line g new ∷ v.lines)) (after_entry story g e x)) same
          (subst (λ (l : List Entry). IsPrefix (known_of g (line g new ∷ v.lines)) l) (now ∙ sym story_now) (prefix_refl (known_of g (line g new ∷ v.lines)))))
          (λ ne. by_test g j (longer new (known_of j v.lines)) (known_of j v.lines) (λ (l : List Entry). IsPrefix l (after_entry story g e j)) (λ same. absurd (ne same))
          (λ _. by_test g j (story j ++ e ∷ []) (story j) (λ (l : List Entry). IsPrefix (known_of j v.lines) l) (λ same. absurd (ne same)) (λ _. was.known j)));
      no_longer = λ j. dite (ℕ_discrete g j)
          (λ same. subst (λ (x : ℕ). length (known_of x (line g new ∷ v.lines)) ≤ seen_of x (sight g (length old + 1) ∷ v.sights)) same
          (let front = ap (λ (b : Bool). cond b (max (length old + 1) (seen_of g v.sights)) (seen_of g v.sights)) (eq-eqb g g refl) in omega (arith, front, one_more, ap length now)))
          (λ ne. by_test g j (longer new (known_of j v.lines)) (known_of j v.lines) (λ (l : List Entry). length l ≤ seen_of j (sight g (length old + 1) ∷ v.sights)) (λ same. absurd (ne same))
          (λ _. by_test g j (max (length old + 1) (seen_of j v.sights)) (seen_of j v.sights) (λ (m : ℕ). length (known_of j v.lines) ≤ m) (λ same. absurd (ne same)) (λ _. was.no_longer j)));
      own = λ j at has.
          let sum = times-append j at (own_place g (length old) e) v.places in
          dite (ℕ_discrete g j)
          (λ same. subst (λ (x : ℕ). at < length (known_of x (line g new ∷ v.lines))) same
          (dite (ℕ_discrete (length old) at)
          (λ here. omega (arith, ap length now, one_more, here))
          (λ apart.
          let before = was.own g at (subst (λ (x : ℕ). 1 ≤ times x at v.places) (sym same) (omega (arith, has, sum, times-own_else g (length old) e j at (λ x. apart x.1)))) in
          omega (arith, ap length now, one_more, before))))
          (λ ne.
          let before = was.own j at (omega (arith, has, sum, times-own_else g (length old) e j at (λ x. ne x.0))) in
          by_test g j (longer new (known_of j v.lines)) (known_of j v.lines) (λ (l : List Entry). at < length l) (λ same. absurd (ne same)) (λ _. before));
    }

-- what is told of an entry that was just made, with no other place that waits
pub Fits-telling : (story : ℕ → List Entry) (u : Story) (g : ℕ) (e : Entry) → u.places ≡ [] → Fits story (entered g e u) → Fits story (telling (entered g e u))
Fits-telling story u g e none was =
    let old = known_of g u.lines in
    let new = old ++ e ∷ [] in
    let one_more : length new ≡ length old + 1 = length-append old (e ∷ []) in
    let now : known_of g (line g new ∷ u.lines) ≡ new = known_now g old e u.lines refl in
    let alone : longer new [] ≡ new = longer-first new [] (omega arith) in
    let most : length old + 1 ≤ length (story g) =
    (let seen = was.seen g in
    let front = ap (λ (b : Bool). cond b (max (length old + 1) (seen_of g u.sights)) (seen_of g u.sights)) (eq-eqb g g refl) in
    omega (arith, seen, front)) in
    record {
      exact = λ j kept. absurd (keeps_none j kept);
      seen = λ j. by_test g j (max (length old + 1) 0) 0 (λ (m : ℕ). m ≤ length (story j))
          (λ same. omega (arith, most, ap (λ (x : ℕ). length (story x)) same)) (λ ne. omega arith);
      known = λ j. by_test g j (longer new []) [] (λ (l : List Entry). IsPrefix l (story j))
          (λ same. subst (λ (x : ℕ). IsPrefix (longer new []) (story x)) same (subst (λ (l : List Entry). IsPrefix l (story g)) (now ∙ sym alone) (was.known g)))
          (λ ne. (story j, refl));
      no_longer = λ j. dite (ℕ_discrete g j)
          (λ same. by_test g j (longer new []) [] (λ (l : List Entry). length l ≤ cond (eqb g j) (max (length old + 1) 0) 0)
          (λ _. by_test g j (max (length old + 1) 0) 0 (λ (m : ℕ). length (longer new []) ≤ m) (λ _. omega (arith, ap length alone, one_more)) (λ ne. absurd (ne same))) (λ ne. absurd (ne same)))
          (λ ne. by_test g j (longer new []) [] (λ (l : List Entry). length l ≤ cond (eqb g j) (max (length old + 1) 0) 0) (λ same. absurd (ne same)) (λ _. omega arith));
      own = λ j at has.
          let sum = times-append j at (own_place g (length old) e) u.places in
          let empty : times j at u.places ≡ 0 = ap (times j at) none in
          dite (ℕ_discrete g j)
          (λ same. by_test g j (longer new []) [] (λ (l : List Entry). at < length l)
          (λ _. dite (ℕ_discrete (length old) at) (λ here. omega (arith, ap length alone, one_more, here))
          (λ apart. absurd (omega (arith, has, sum, empty, times-own_else g (length old) e j at (λ x. apart x.1)))))
          (λ ne. absurd (ne same)))
          (λ ne. absurd (omega (arith, has, sum, empty, times-own_else g (length old) e j at (λ x. ne x.0))));
    }
