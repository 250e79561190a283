-- Sectors that are to be written: what the map and the heap of its keys say of the list.
use Rattle.std.proofs.Common.{◌≡◌, ℕ, ◌+◌, ◌<◌, ◌≤◌, List, [], ◌∷◌, Option, Some, None, Bool, true, false, cond, eqb, length, drop, refl, sym, ap, ◌∙◌, subst, inl, inr, arith}
use Rattle.std.specs.Prelude.{nat_eq, is_some, IsSome, count_by, Result, Ok, Err, IsOk, OnOk}
use Rattle.std.specs.BinaryHeap.{IsHeap, IsUpperBound}
use Rattle.std.specs.List.{AllByRecursion}
use Rattle.std.specs.List.Sorted.{IsPermutation}
use Rattle.std.specs.Map.{lookup}
use Rattle.std.specs.Option.{option_or}
use Rattle.std.specs.Ordering.{nat_cmp, is_lt}
use Rattle.std.specs.declared.cmp.Reverse.{Reverse}
use Rattle.std.proofs.lemmas.Bool.{cases_lt, cases_eq, false≢true, eq-eqb, ne_eqb, cond-true, cond-false}
use Rattle.std.proofs.lemmas.Bool.Decides.{nat_tests}
use Rattle.std.proofs.lemmas.List.Sorted.{sum_by-IsPermutation}
use Rattle.std.proofs.lemmas.List.Sums.{sum_by-cons, count_by-le-length}
use Rattle.life_bytes.specs.declared.sector.Sector.{Sector}
use Rattle.log_record.specs.declared.image.Image.{Image}
use Rattle.log_image.specs.Overlay.{newest}
use Rattle.log_batch.specs.Dirty.{Matches, held}
use Rattle.log_batch.specs.Put.{put, KeysRise}
use Rattle.log_batch.specs.PutLaws.{Rises-put, put_some, rises_lower}
use Rattle.log_batch.specs.NewestLaws.{alone, newest_rest, newest-nil, newest-put, only_newest, newest_first, newest_below, none_some, some_same, same_image}

pub held-rises : (entries : List (ℕ × Sector)) → KeysRise (λ i. i.home) 0 (held entries)
held-rises [] = tt
held-rises (entry ∷ entries) = Rises-put (λ (i : Image). i.home) (record { home = entry.0; sector = entry.1 }) 0 (held entries) (held-rises entries) (omega arith)

alone_or : (home key : ℕ) (sector : Sector) (rest : Option Sector)
    → option_or (alone home (record { home = key; sector = sector })) rest ≡ cond (nat_eq home key) (Some sector) rest
alone_or home key sector rest = elim (cases_eq home key) [
  | inl same ↦ grind (arith, nat_tests)
  | inr other ↦ grind (arith, nat_tests)
]

pub newest-held : (home : ℕ) (entries : List (ℕ × Sector)) → newest home (held entries) ≡ lookup (nat_eq home) entries
newest-held home [] = newest-nil home
newest-held home (entry ∷ entries) =
    newest-put home (record { home = entry.0; sector = entry.1 }) 0 (held entries) (held-rises entries)
    ∙ ap (option_or (alone home (record { home = entry.0; sector = entry.1 }))) (newest-held home entries)
    ∙ alone_or home entry.0 entry.1 (lookup (nat_eq home) entries)

-- maps with equal look-ups hold the same images
pub held_same : (old new : List (ℕ × Sector)) → ((home : ℕ) → lookup (nat_eq home) new ≡ lookup (nat_eq home) old) → held new ≡ held old
held_same old new same = only_newest 0 (held new) (held old) (held-rises new) (held-rises old) (λ home. newest-held home new ∙ same home ∙ sym (newest-held home old))

-- a map with one sector put in
pub held_put : (old new : List (ℕ × Sector)) (home : ℕ) (sector : Sector)
    → ((q : ℕ) → lookup (nat_eq q) new ≡ cond (nat_eq home q) (Some sector) (lookup (nat_eq q) old))
    → held new ≡ put (record { home = home; sector = sector }) (held old)
held_put old new home sector same =
    let image : Image = record { home = home; sector = sector } in
    only_newest 0 (held new) (put image (held old)) (held-rises new) (Rises-put (λ (i : Image). i.home) image 0 (held old) (held-rises old) (omega arith))
    (λ q. newest-held q new ∙ same q
    ∙ sym (newest-put q image 0 (held old) (held-rises old) ∙ ap (option_or (alone q image)) (newest-held q old) ∙ alone_or q home sector (lookup (nat_eq q) old) ∙ flip q))
  where
    flip : (q : ℕ) → cond (nat_eq q home) (Some sector) (lookup (nat_eq q) old) ≡ cond (nat_eq home q) (Some sector) (lookup (nat_eq q) old)
    flip q = grind (arith, nat_tests)

-- no home of the map is below this one
abbrev pub IsLeast : ℕ → List (ℕ × Sector) → Type 0
IsLeast home entries = (q : ℕ) (sector : Sector) → lookup (nat_eq q) entries ≡ Some sector → home ≤ q

first_of_held : (low home : ℕ) (sector : Sector) (xs : List Image) → KeysRise (λ i. i.home) low xs → newest home xs ≡ Some sector
    → ((q : ℕ) (s : Sector) → newest q xs ≡ Some s → home ≤ q) → (rest : List Image) × (xs ≡ (record { home = home; sector = sector }) ∷ rest)
first_of_held low home sector [] rise is least = absurd (none_some (sym (newest-nil home) ∙ is))
first_of_held low home sector (x ∷ xs) rise is least =
    let first = newest_first low x xs rise in
    let down : home ≤ x.home = least x.home x.sector first in
    let same : home ≡ x.home = elim (cases_lt home x.home) [
      | inl below ↦ absurd (none_some (sym (newest_below home x.home (x ∷ xs) (omega arith, rise.1) below) ∙ is))
      | inr at ↦ omega arith
    ] in
    let reads : x.sector ≡ sector = some_same (sym first ∙ ap (λ (h : ℕ). newest h (x ∷ xs)) (sym same) ∙ is) in
    let image : Image = record { home = home; sector = sector } in
    (xs, ap (λ (i : Image). i ∷ xs) (same_image x image (sym same) reads))

pub held_first : (entries : List (ℕ × Sector)) (home : ℕ) (sector : Sector) → lookup (nat_eq home) entries ≡ Some sector → IsLeast home entries
    → (rest : List Image) × (held entries ≡ (record { home = home; sector = sector }) ∷ rest)
held_first entries home sector is least =
    first_of_held 0 home sector (held entries) (held-rises entries) (newest-held home entries ∙ is) (λ q s at. least q s (sym (newest-held q entries) ∙ at))

-- ---- the heap of homes

test_of : ℕ → Reverse ℕ → Bool
test_of home r = eqb r.0 home

-- an element that is counted is there
counted : (home : ℕ) (P : Reverse ℕ → Type 0) (homes : List (Reverse ℕ)) → 0 < count_by (λ r. eqb r.0 home) homes → AllByRecursion P homes
    → (r : Reverse ℕ) × (r.0 ≡ home) × P r
counted home P [] some all = absurd (omega arith)
counted home P (r ∷ homes) some all = elim (cases_eq r.0 home) [
  | inl same ↦ (r, same, all.0)
  | inr other ↦ counted home P homes (grind (arith, nat_tests)) all.1
]

count_cons : (home : ℕ) (r : Reverse ℕ) (homes : List (Reverse ℕ)) → count_by (λ r. eqb r.0 home) (r ∷ homes) ≡ cond (eqb r.0 home) 1 0 + count_by (λ r. eqb r.0 home) homes
count_cons home r homes = sum_by-cons (λ (x : Reverse ℕ). cond (eqb x.0 home) 1 0) r homes

count_moved : (home : ℕ) (xs ys : List (Reverse ℕ)) → IsPermutation xs ys → count_by (λ r. eqb r.0 home) ys ≡ count_by (λ r. eqb r.0 home) xs
count_moved home xs ys moved = sum_by-IsPermutation (λ (r : Reverse ℕ). cond (eqb r.0 home) 1 0) xs ys moved

some_from_count : (o : Option Sector) (n : ℕ) → 1 + n ≡ cond (is_some o) 1 0 → IsSome o
some_from_count None n same = absurd (omega arith)
some_from_count (Some sector) n same = refl

count_new : (b : Bool) (o : Option Sector) (sector : Sector) → (b ≡ true → o ≡ None)
    → cond b 1 0 + cond (is_some o) 1 0 ≡ cond (is_some (cond b (Some sector) o)) 1 0
count_new true None sector absent = refl
count_new true (Some other) sector absent = absurd (none_some (sym (absent refl)))
count_new false None sector absent = refl
count_new false (Some other) sector absent = refl

count_over : (b : Bool) (o : Option Sector) (sector : Sector) → (b ≡ true → IsSome o)
    → ◌≡◌ {A = ℕ} (cond (is_some o) 1 0) (cond (is_some (cond b (Some sector) o)) 1 0)
count_over true None sector there = absurd (false≢true (there refl))
count_over true (Some other) sector there = refl
count_over false o sector there = refl

count_away : (b : Bool) (o : Option Sector) (n : ℕ) → cond b 1 0 + n ≡ cond (is_some o) 1 0 → n ≡ cond (is_some (cond b None o)) 1 0
count_away true None n same = absurd (omega arith)
count_away true (Some other) n same = omega arith
count_away false None n same = omega arith
count_away false (Some other) n same = omega arith

same_home : (a b : ℕ) → nat_eq a b ≡ true → a ≡ b
same_home a b test = grind (arith, nat_tests)

not_less : (a b : ℕ) → is_lt (nat_cmp a b) ≡ false → b ≤ a
not_less a b test = elim (cases_lt a b) [
  | inl less ↦ absurd (grind (arith, nat_tests))
  | inr le ↦ le
]

-- what comes off the heap is in the map
pub popped_held : (entries : List (ℕ × Sector)) (before after : List (Reverse ℕ)) (r : Reverse ℕ) → Matches entries before
    → IsPermutation before (r ∷ after) → IsSome (lookup (nat_eq r.0) entries)
popped_held entries before after r is moved =
    some_from_count (lookup (nat_eq r.0) entries) (count_by (λ x. eqb x.0 r.0) after)
    (sym (ap (λ (b : Bool). cond b 1 0 + count_by (λ (x : Reverse ℕ). eqb x.0 r.0) after) (eq-eqb r.0 r.0 refl))
    ∙ sym (count_cons r.0 r after) ∙ count_moved r.0 before (r ∷ after) moved ∙ is.counts r.0)

-- with no heap the map holds nothing
pub none_without_homes : (entries : List (ℕ × Sector)) (homes : List (Reverse ℕ)) → Matches entries homes → length homes ≡ 0 → held entries ≡ []
none_without_homes [] homes is none = refl
none_without_homes (entry ∷ entries) homes is none =
    let found : lookup (nat_eq entry.0) (entry ∷ entries) ≡ Some entry.1 = cond-true (nat_eq entry.0 entry.0) (Some entry.1) (lookup (nat_eq entry.0) entries) (eq-eqb entry.0 entry.0 refl) in
    let count : count_by (λ r. eqb r.0 entry.0) homes ≡ 1 = is.counts entry.0 ∙ ap (λ (o : Option Sector). cond (is_some o) 1 0) found in
    absurd (omega (arith, count_by-le-length (λ (r : Reverse ℕ). eqb r.0 entry.0) homes))

-- a bound of the heap is a bound of the map
pub least_held : (entries : List (ℕ × Sector)) (homes : List (Reverse ℕ)) (r : Reverse ℕ) → Matches entries homes
    → IsUpperBound (λ x y. nat_cmp y.0 x.0) r homes → IsLeast r.0 entries
least_held entries homes r is bound q sector at =
    let count : count_by (λ r. eqb r.0 q) homes ≡ 1 = is.counts q ∙ ap (λ (o : Option Sector). cond (is_some o) 1 0) at in
    let found = counted q (λ y. is_lt (nat_cmp y.0 r.0) ≡ false) homes (omega arith) bound in
    let le = not_less found.0.0 r.0 found.2 in
    omega (arith, found.1)

-- a new home in the map and in the heap
pub Matches_new : (old new : List (ℕ × Sector)) (before after : List (Reverse ℕ)) (home : ℕ) (sector : Sector) → Matches old before
    → lookup (nat_eq home) old ≡ None → ((q : ℕ) → lookup (nat_eq q) new ≡ cond (nat_eq home q) (Some sector) (lookup (nat_eq q) old))
    → IsPermutation ((record { 0 = home }) ∷ before) after → IsHeap (λ x y. nat_cmp y.0 x.0) after → Matches new after
Matches_new old new before after home sector is absent same moved heap = record {
  ordered = heap;
  counts = λ q. count_moved q ((record { 0 = home }) ∷ before) after moved
      ∙ count_cons q (record { 0 = home }) before
      ∙ ap (λ (n : ℕ). cond (eqb home q) 1 0 + n) (is.counts q)
      ∙ count_new (nat_eq home q) (lookup (nat_eq q) old) sector (λ test. ap (λ (h : ℕ). lookup (nat_eq h) old) (sym (same_home home q test)) ∙ absent)
      ∙ ap (λ (o : Option Sector). cond (is_some o) 1 0) (sym (same q));
}

-- another sector for a home
pub Matches_over : (old new : List (ℕ × Sector)) (homes : List (Reverse ℕ)) (home : ℕ) (sector older : Sector) → Matches old homes
    → lookup (nat_eq home) old ≡ Some older → ((q : ℕ) → lookup (nat_eq q) new ≡ cond (nat_eq home q) (Some sector) (lookup (nat_eq q) old))
    → Matches new homes
Matches_over old new homes home sector older is there same = record {
  ordered = is.ordered;
  counts = λ q. is.counts q
      ∙ count_over (nat_eq home q) (lookup (nat_eq q) old) sector (λ test. ap is_some (ap (λ (h : ℕ). lookup (nat_eq h) old) (sym (same_home home q test)) ∙ there))
      ∙ ap (λ (o : Option Sector). cond (is_some o) 1 0) (sym (same q));
}

-- a home away from the map and from the heap
pub Matches_away : (old new : List (ℕ × Sector)) (before after : List (Reverse ℕ)) (r : Reverse ℕ) → Matches old before
    → ((q : ℕ) → lookup (nat_eq q) new ≡ cond (nat_eq r.0 q) None (lookup (nat_eq q) old))
    → IsPermutation before (r ∷ after) → IsHeap (λ x y. nat_cmp y.0 x.0) after → Matches new after
Matches_away old new before after r is same moved heap = record {
  ordered = heap;
  counts = λ q. count_away (nat_eq r.0 q) (lookup (nat_eq q) old) (count_by (λ x. eqb x.0 q) after)
      (sym (count_cons q r after) ∙ count_moved q before (r ∷ after) moved ∙ is.counts q)
      ∙ ap (λ (o : Option Sector). cond (is_some o) 1 0) (sym (same q));
}

-- a map without its least home
pub held_away : (old new : List (ℕ × Sector)) (home : ℕ) (sector : Sector) → lookup (nat_eq home) old ≡ Some sector → IsLeast home old
    → ((q : ℕ) → lookup (nat_eq q) new ≡ cond (nat_eq home q) None (lookup (nat_eq q) old)) → held new ≡ drop 1 (held old)
held_away old new home sector is least same =
    let first = held_first old home sector is least in
    let image : Image = record { home = home; sector = sector } in
    let rise : KeysRise (λ i. i.home) 0 (image ∷ first.0) = subst (λ (l : List Image). KeysRise (λ (i : Image). i.home) 0 l) first.1 (held-rises old) in
    let rest : KeysRise (λ i. i.home) 0 first.0 = rises_lower (λ (i : Image). i.home) (home + 1) 0 first.0 (omega arith) rise.1 in
    let looks : (q : ℕ) → newest q (image ∷ first.0) ≡ lookup (nat_eq q) old = λ q. ap (newest q) (sym first.1) ∙ newest-held q old in
    only_newest 0 (held new) first.0 (held-rises new) rest (λ q. newest-held q new ∙ same q ∙ elim (cases_eq q home) [
      | inl here ↦ cond-true (nat_eq home q) None (lookup (nat_eq q) old) (eq-eqb home q (sym here)) ∙ sym (newest_below q (home + 1) first.0 rise.1 (omega arith))
      | inr other ↦ cond-false (nat_eq home q) None (lookup (nat_eq q) old) (ne_eqb home q (λ e. other (sym e))) ∙ sym (looks q) ∙ newest_rest q image first.0 other
    ])
    ∙ ap (drop 1) (sym first.1)

-- a map is empty where it holds nothing
pub held_none : (entries : List (ℕ × Sector)) → length entries ≡ 0 → length (held entries) ≡ 0
held_none [] none = refl
held_none (entry ∷ entries) none = absurd (omega arith)

pub none_held : (entries : List (ℕ × Sector)) → length (held entries) ≡ 0 → length entries ≡ 0
none_held [] none = refl
none_held (entry ∷ entries) none =
    absurd (omega (arith, none, put_some (λ (i : Image). i.home) (record { home = entry.0; sector = entry.1 }) (held entries)))

pub held_away_some : (old new : List (ℕ × Sector)) (home : ℕ) → IsSome (lookup (nat_eq home) old) → IsLeast home old
    → ((q : ℕ) → lookup (nat_eq q) new ≡ cond (nat_eq home q) None (lookup (nat_eq q) old)) → held new ≡ drop 1 (held old)
held_away_some old new home there least same =
    by_case (lookup (nat_eq home) old) refl there
  where
    by_case : (o : Option Sector) → lookup (nat_eq home) old ≡ o → IsSome o → held new ≡ drop 1 (held old)
    by_case None is some = absurd (false≢true some)
    by_case (Some sector) is some = held_away old new home sector is least same

-- what holds where there is a value, where there is one
pub on_ok : {T E : Type 0} (r : Result T E) (P : Type 0) → IsOk r → OnOk r P → P
on_ok (Ok x) P ok holds = holds
on_ok (Err e) P ok holds = absurd (false≢true ok)
