-- What the calls of readers and keepers leave, and how these are made.
use Rattle.std.proofs.Common.{◌≡◌, ℕ, zero, suc, ◌+◌, ◌-◌, ◌<◌, ◌≤◌, Bool, cond, eq-eqb, max, List, [], ◌∷◌, ◌++◌, length, set, get_or, replicate, refl, sym, ap, ◌∙◌, subst, length-append, arith}
use Rattle.std.specs.Prelude.{slice_get, Some}
use Rattle.std.proofs.lemmas.List.{length-set, length-replicate, get_or-replicate, replicate-append-replicate, append-nil}
use mathlib.Core.List.{IsPrefix}
use mathlib.Core.Option.{some}
use mathlib.Core.Logic.{dite}
use native.Mathlib.Decide.{ℕ_discrete}
use lib.ListN.{get_elem?}
use Rattle.life_table.specs.declared.types.Entry.{Entry}
use Rattle.atomic_table.specs.Seated.{TableId}
use Rattle.atomic_table.specs.Table.{State, Me}
use Rattle.version_table.specs.declared.story.Sight.{Sight}
use Rattle.version_table.specs.declared.story.Line.{Line}
use Rattle.version_table.specs.declared.story.Story.{Story}
use Rattle.version_table.specs.Story.{sight, line, longer, seen_of, known_of, own_place, Keeps, new_keeper, nothing_known, saw, entered, warning, telling, handed_over, with_story}
use Rattle.version_table.specs.Rule.{Told}
use Rattle.version_table.specs.Ends.{VersionsState, ReaderState, KeeperState, reader_state, new_reader, new_keeper_state, IsReader, IsKeeper, IsMaker, AreVersionKeepers, IsEntered, IsToldOf}
use Rattle.version_table.proofs.Lists.{at_word, by_test, longer-first}

-- the numbers after one of them was seen anew
pub numbers_after : (seen : List ℕ) (sights : List Sight) (g n : ℕ) → ((j : ℕ) → j < length seen → get_or seen j 0 ≡ seen_of j sights) → seen_of g sights ≤ n → g < length seen
    → (j : ℕ) → j < length (set seen g n) → get_or (set seen g n) j 0 ≡ seen_of j (sight g n ∷ sights)
numbers_after seen sights g n was later inside j far =
    at_word seen g n j (λ (m : ℕ). m ≡ seen_of j (sight g n ∷ sights)) inside
    (λ e. by_test g j (max n (seen_of j sights)) (seen_of j sights) (λ (m : ℕ). n ≡ m) (λ same. omega (arith, later, ap (λ (x : ℕ). seen_of x sights) same)) (λ ne. absurd (ne (sym e))))
    (λ apart. by_test g j (max n (seen_of j sights)) (seen_of j sights) (λ (m : ℕ). get_or seen j 0 ≡ m) (λ same. absurd (apart (sym same)))
    (λ _. was j (omega (arith, far, length-set seen g n))))

-- a length that was seen before is not above a later one
pub seen_front : (g n : ℕ) (sights : List Sight) (most : ℕ) → seen_of g sights ≤ n → n ≤ most → seen_of g (sight g n ∷ sights) ≤ most
seen_front g n sights most later below = by_test g g (max n (seen_of g sights)) (seen_of g sights) (λ (m : ℕ). m ≤ most) (λ _. omega (arith, later, below)) (λ ne. absurd (ne refl))

pub numbers_entered : (seen : List ℕ) (sights now : List Sight) (g n found : ℕ) → ((j : ℕ) → j < length seen → get_or seen j 0 ≡ seen_of j sights) → seen_of g sights ≤ found → found ≤ n → g < length seen
    → now ≡ sight g (n + 1) ∷ sight g found ∷ sights → (j : ℕ) → j < length (set seen g (n + 1)) → get_or (set seen g (n + 1)) j 0 ≡ seen_of j now
numbers_entered seen sights now g n found was later below inside is j far =
    at_word seen g (n + 1) j (λ (m : ℕ). m ≡ seen_of j now) inside
    (λ e. subst (λ (l : List Sight). n + 1 ≡ seen_of j l) (sym is)
    (by_test g j (max (n + 1) (seen_of j (sight g found ∷ sights))) (seen_of j (sight g found ∷ sights)) (λ (m : ℕ). n + 1 ≡ m)
    (λ same. let most = seen_front g found sights n later below in omega (arith, most, ap (λ (x : ℕ). seen_of x (sight g found ∷ sights)) same)) (λ ne. absurd (ne (sym e)))))
    (λ apart. subst (λ (l : List Sight). get_or seen j 0 ≡ seen_of j l) (sym is)
    (by_test g j (max (n + 1) (seen_of j (sight g found ∷ sights))) (seen_of j (sight g found ∷ sights)) (λ (m : ℕ). get_or seen j 0 ≡ m) (λ same. absurd (apart (sym same)))
    (λ _. by_test g j (max found (seen_of j sights)) (seen_of j sights) (λ (m : ℕ). get_or seen j 0 ≡ m) (λ same. absurd (apart (sym same)))
    (λ _. was j (omega (arith, far, length-set seen g (n + 1)))))))

-- the keeper's history after a warning is the one before
warned_line : (g : ℕ) (v r : Story) → known_of g (with_story v (warning r)).lines ≡ known_of g v.lines
warned_line g v r = refl

known_now : (g : ℕ) (old : List Entry) (e : Entry) (ls : List Line) → old ≡ known_of g ls → known_of g (line g (old ++ e ∷ []) ∷ ls) ≡ old ++ e ∷ []
known_now g old e ls is =
    ap (λ (b : Bool). cond b (longer (old ++ e ∷ []) (known_of g ls)) (known_of g ls)) (eq-eqb g g refl)
    ∙ longer-first (old ++ e ∷ []) (known_of g ls) (omega (arith, length-append old (e ∷ []), ap length is))

-- the front one of what was seen is not above the most
by_front : (g n : ℕ) (sights : List Sight) (most : ℕ) → seen_of g (sight g n ∷ sights) ≤ most → n ≤ most
by_front g n sights most below =
    let front = ap (λ (b : Bool). cond b (max n (seen_of g sights)) (seen_of g sights)) (eq-eqb g g refl) in
    omega (arith, below, front)

-- the keeper after an entry and what was told of it
pub entered_is : (g found : ℕ) (e : Entry) (k r r1 k1 k2 : Story) → k.places ≡ [] → r1 ≡ saw g found r → k1 ≡ with_story k (warning r1) → k2 ≡ handed_over (entered g e k1) → IsEntered g e k k2
entered_is g found e k r r1 k1 k2 handed saw_it warned now =
    let k0 = with_story k (warning (saw g found r)) in
    let whole : k2 ≡ handed_over (entered g e k0) = now ∙ ap (λ (x : Story). handed_over (entered g e x)) warned ∙ ap (λ (x : Story). handed_over (entered g e (with_story k (warning x)))) saw_it in
    subst (λ (x : Story). IsEntered g e k x) (sym whole) (record { history = known_now g (known_of g k.lines) e k.lines refl; first = refl; count = refl; handed = refl })

pub told_is : (g found old : ℕ) (e : Entry) (k r r1 k1 r2 : Story) → k.places ≡ [] → old ≡ length (known_of g k.lines) → seen_of g r.sights ≤ found → seen_of g k1.sights ≤ old
    → r1 ≡ saw g found r → k1 ≡ with_story k (warning r1) → r2 ≡ with_story r1 (telling (entered g e k1)) → IsToldOf g e k r r2
told_is g found old e k r r1 k1 r2 handed long later below saw_it warned now =
    let k0 = with_story k (warning (saw g found r)) in
    let k1_is : k1 ≡ k0 = warned ∙ ap (λ (x : Story). with_story k (warning x)) saw_it in
    let whole : r2 ≡ with_story (saw g found r) (telling (entered g e k0)) = now ∙ (λ i. with_story (saw_it i) (telling (entered g e (k1_is i)))) in
    let most : seen_of g (sight g found ∷ k.sights) ≤ old = subst (λ (x : Story). seen_of g x.sights ≤ old) k1_is below in
    let under : found ≤ old = by_front g found k.sights old most in
    subst (λ (x : Story). IsToldOf g e k r x) (sym whole) (record {
      lines = refl;
      places = ap (λ l. (own_place g (length (known_of g k.lines)) e ++ l) ++ r.places) handed ∙ ap (λ l. l ++ r.places) (append-nil (own_place g (length (known_of g k.lines)) e));
      found = found;
      before = (later, omega (arith, under, long));
      sights = refl;
      keeps = (refl, refl);
    })

-- what a reader saw before is not above what it told
pub fresh_is : (g found old : ℕ) (k r r1 k1 : Story) → seen_of g r.sights ≤ found → seen_of g k1.sights ≤ old → r1 ≡ saw g found r → k1 ≡ with_story k (warning r1) → seen_of g r.sights ≤ old
fresh_is g found old k r r1 k1 later below saw_it warned =
    let k1_is : k1 ≡ with_story k (warning (saw g found r)) = warned ∙ ap (λ (x : Story). with_story k (warning x)) saw_it in
    let most : seen_of g (sight g found ∷ k.sights) ≤ old = subst (λ (x : Story). seen_of g x.sights ≤ old) k1_is below in
    let under = by_front g found k.sights old most in
    omega (arith, later, under)

pub ahead : (count : ℕ) (s : State Entry Story) → Told count s → (i j g : ℕ) (v keeper : Story) → get_elem? s.views i ≡ some v → get_elem? s.views j ≡ some keeper → Keeps keeper g
    → (seen_of g v.sights ≤ length (known_of g keeper.lines)) × IsPrefix (known_of g v.lines) (known_of g keeper.lines)
ahead count s was i j g v keeper at_i at_j kept =
    let all : known_of g keeper.lines ≡ was.story g = (was.fits j keeper at_j).exact g kept in
    let mine = was.fits i v at_i in
    let most = mine.seen g in
    (omega (arith, most, ap length all), subst (λ (l : List Entry). IsPrefix (known_of g v.lines) l) (sym all) (mine.known g))

-- the making
pub next_maker : (versions : VersionsState) (made : ℕ) (name name' : TableId) (me me' : Me Entry Story) → IsMaker versions made name me → made < versions.groups → name' ≡ name
    → me' ≡ (new_keeper (me.0.first + 1) (me.0.count - 1), me.1) → IsMaker versions (made + 1) name' me'
next_maker versions made name name' me me' is below same now =
    let left = is.0 in
    let whole = is.1 in
    (left - 1, omega (arith, whole, below), same ∙ is.2, now ∙ ap (λ (m : Me Entry Story). (new_keeper (m.0.first + 1) (m.0.count - 1), m.1)) is.3)

get_before : (cs : List KeeperState) (c : KeeperState) (g : ℕ) → g < length cs → slice_get (cs ++ c ∷ []) g ≡ slice_get cs g
get_before [] c g inside = absurd (omega arith)
get_before (x ∷ cs) c zero inside = refl
get_before (x ∷ cs) c (suc g) inside = get_before cs c g (omega arith)

get_last : (cs : List KeeperState) (c : KeeperState) (g : ℕ) → g ≡ length cs → slice_get (cs ++ c ∷ []) g ≡ Some c
get_last [] c zero last = refl
get_last [] c (suc g) last = absurd (omega arith)
get_last (x ∷ cs) c zero last = absurd (omega arith)
get_last (x ∷ cs) c (suc g) last = get_last cs c g (omega arith)

pub one_more_keeper : (versions : VersionsState) (group : ℕ) (ks new : List KeeperState) (k : KeeperState) → AreVersionKeepers versions group ks → new ≡ ks ++ k ∷ [] → k ≡ new_keeper_state versions group
    → AreVersionKeepers versions (group + 1) new
one_more_keeper versions group ks new k are is k_is = subst (λ (l : List KeeperState). AreVersionKeepers versions (group + 1) l) (sym is) (record {
  one_each = length-append ks (k ∷ []) ∙ ap (λ (n : ℕ). n + 1) are.one_each;
  each = λ g below. dite (ℕ_discrete g group)
      (λ e. get_last ks k g (e ∙ sym are.one_each) ∙ ap Some k_is ∙ ap (λ (n : ℕ). Some (new_keeper_state versions n)) (sym e))
      (λ apart. get_before ks k g (omega (arith, below, apart, are.one_each)) ∙ are.each g (omega (arith, below, apart)));
})

pub one_more_reader : (n : ℕ) (xs new : List ReaderState) (x y : ReaderState) → xs ≡ replicate n x → new ≡ xs ++ y ∷ [] → y ≡ x → new ≡ replicate (n + 1) x
one_more_reader n xs new x y are is same = is ∙ (λ i. are i ++ same i ∷ []) ∙ replicate-append-replicate n 1 x

-- a new reader saw nothing of any group
pub no_numbers : (seen : List ℕ) (count : ℕ) → seen ≡ replicate count 0 → (length seen ≡ count) × ((g : ℕ) → g < length seen → get_or seen g 0 ≡ 0)
no_numbers seen count are =
    let long : length seen ≡ count = ap length are ∙ length-replicate {A = ℕ} count 0 in
    (long, λ g inside. ap (λ (l : List ℕ). get_or l g 0) are ∙ get_or-replicate {A = ℕ} count g 0 0 (omega (arith, inside, long)))

pub new_reader_is : (seen : List ℕ) (count : ℕ) (me : Me Entry Story) → seen ≡ replicate count 0 → me ≡ (nothing_known, []) → IsReader seen me
new_reader_is seen count me are is = subst (λ (m : Me Entry Story). IsReader seen m) (sym is) (record { bare = refl; numbers = λ g inside. (no_numbers seen count are).1 g inside })

pub new_reader_seen : (versions : VersionsState) (seen : List ℕ) (name : TableId) (me : Me Entry Story) → seen ≡ replicate versions.groups 0 → name ≡ versions.name → me ≡ (nothing_known, [])
    → reader_state name seen me.0 ≡ new_reader versions
new_reader_seen versions seen name me are named is =
    let long = (no_numbers seen versions.groups are).0 in
    λ i. record { versions = named i; groups = long i; story = (is i).0 }

pub new_keeper_is : (group : ℕ) (me : Me Entry Story) → me ≡ (new_keeper group 1, []) → IsKeeper group 0 me
new_keeper_is group me is = subst (λ (m : Me Entry Story). IsKeeper group 0 m) (sym is) (record { bare = refl; first = refl; one = refl; handed = refl; whole = refl })

-- a keeper after an entry
pub keeper_after : (group count : ℕ) (e : Entry) (me now : Me Entry Story) → IsKeeper group count me → IsEntered group e me.0 now.0 → now.1 ≡ me.1 → IsKeeper group (count + 1) now
keeper_after group count e me now was is same = record {
  bare = same ∙ was.bare;
  first = is.first ∙ was.first;
  one = is.count ∙ was.one;
  handed = is.handed;
  whole = omega (arith, was.whole, ap length is.history, length-append (known_of group me.0.lines) (e ∷ []));
}

-- a reader after a load, and after an entry
pub reader_after_load : (seen : List ℕ) (g n : ℕ) (me now : Me Entry Story) → IsReader seen me → now.1 ≡ me.1 → now.0 ≡ saw g n me.0 → seen_of g me.0.sights ≤ n → g < length seen → IsReader (set seen g n) now
reader_after_load seen g n me now was same is later inside = record {
  bare = same ∙ was.bare;
  numbers = λ j far. subst (λ (v : Story). get_or (set seen g n) j 0 ≡ seen_of j v.sights) (sym is) (numbers_after seen me.0.sights g n was.numbers later inside j far);
}

pub reader_after_entry : (seen : List ℕ) (g n : ℕ) (e : Entry) (keeper : Story) (me now : Me Entry Story) → IsReader seen me → now.1 ≡ me.1 → IsToldOf g e keeper me.0 now.0
    → n ≡ length (known_of g keeper.lines) → g < length seen → IsReader (set seen g (n + 1)) now
reader_after_entry seen g n e keeper me now was same told long inside = record {
  bare = same ∙ was.bare;
  numbers = λ j far. numbers_entered seen me.0.sights now.0.sights g n told.found was.numbers told.before.0 (let below = told.before.1 in omega (arith, below, long)) inside
      (told.sights ∙ ap (λ (m : ℕ). sight g (m + 1) ∷ sight g told.found ∷ me.0.sights) (sym long)) j far;
}
