-- Frees of several rows, one after the other.
use Rattle.std.proofs.Common.{◌≡◌, ◌≢◌, ◌<◌, ◌≤◌, ◌+◌, ◌-◌, ◌/◌, ◌%◌, ◌++◌, ◌⊎◌, ℕ, zero, suc, false, List, [], ◌∷◌, length, get_or, take, append_assoc, Option, None, Some, inl, inr, refl, ap, sym, subst, ◌∙◌, arith}
use Rattle.std.specs.Prelude.{⊤, IsSomeAnd}
use Rattle.std.specs.List.{All, AllByRecursion, flat_map, range_with_len}
use Rattle.std.proofs.lemmas.Bool.{cases_eq}
use Rattle.std.proofs.lemmas.List.{append-nil}
use Rattle.std.proofs.lemmas.List.Elements.{All-from_recursion, recursion_from_All}
use Rattle.life_limits.specs.declared.TheConstants.{GROUP_NUMBERS}
use Rattle.life_table.specs.declared.key.Key.{Key}
use Rattle.life_table.specs.declared.types.Row.{Row}
use Rattle.life_table.specs.declared.types.Entry.{Entry}
use Rattle.life_table.specs.declared.types.Event.TheVariants.{Freed}
use Rattle.life_table.specs.declared.table.Table.{Table}
use Rattle.life_table.specs.Legal.{Awaits, freed}
use Rattle.life_table.specs.History.{After, AreByHolders, Leads, LegalHistory, after_entries, changes, closed, frees_of}
use Rattle.life_table.specs.Table.{group_at, inode_of, row_of}
use Rattle.sound_image.specs.Encoding.{Layouts, is_unlinked}
use Rattle.encoded_changes.specs.Changes.{taken_from}
use Rattle.orphan_frees.specs.Order.{freed_all, unlisted_all}
use Rattle.orphan_frees.proofs.Rows.{freed_unheld, group_stays, inode_freed, inode_stays, inode_there, row_stays}

-- each row awaits
abbrev pub AwaitAll : Table → List Key → Type 0
AwaitAll t [] = ⊤
AwaitAll t (key ∷ keys) = IsSomeAnd (row_of t key) Awaits × AwaitAll t keys

-- no key has the number
abbrev pub NotIn : ℕ → List Key → Type 0
NotIn number [] = ⊤
NotIn number (key ∷ keys) = (number ≢ key.number) × NotIn number keys

-- no two have one number
abbrev pub Apart : List Key → Type 0
Apart [] = ⊤
Apart (key ∷ keys) = NotIn key.number keys × Apart keys

-- each is of the group
abbrev pub AllIn : ℕ → List Key → Type 0
AllIn group [] = ⊤
AllIn group (key ∷ keys) = (key.number / GROUP_NUMBERS ≡ group) × AllIn group keys

-- ---- parts of lists

pub await_first : (t : Table) (n : ℕ) (keys : List Key) → AwaitAll t keys → AwaitAll t (take n keys)
await_first t zero keys all = tt
await_first t (suc n) [] all = tt
await_first t (suc n) (key ∷ keys) all = (all.0, await_first t n keys all.1)

not_in_first : (number n : ℕ) (keys : List Key) → NotIn number keys → NotIn number (take n keys)
not_in_first number zero keys none = tt
not_in_first number (suc n) [] none = tt
not_in_first number (suc n) (key ∷ keys) none = (none.0, not_in_first number n keys none.1)

pub apart_first : (n : ℕ) (keys : List Key) → Apart keys → Apart (take n keys)
apart_first zero keys all = tt
apart_first (suc n) [] all = tt
apart_first (suc n) (key ∷ keys) all = (not_in_first key.number n keys all.0, apart_first n keys all.1)

pub in_first : (group n : ℕ) (keys : List Key) → AllIn group keys → AllIn group (take n keys)
in_first group zero keys all = tt
in_first group (suc n) [] all = tt
in_first group (suc n) (key ∷ keys) all = (all.0, in_first group n keys all.1)

pub await_both : (t : Table) (xs ys : List Key) → AwaitAll t xs → AwaitAll t ys → AwaitAll t (xs ++ ys)
await_both t [] ys a b = b
await_both t (x ∷ xs) ys a b = (a.0, await_both t xs ys a.1 b)

pub not_in_both : (number : ℕ) (xs ys : List Key) → NotIn number xs → NotIn number ys → NotIn number (xs ++ ys)
not_in_both number [] ys a b = b
not_in_both number (x ∷ xs) ys a b = (a.0, not_in_both number xs ys a.1 b)

pub not_in_left : (number : ℕ) (xs ys : List Key) → NotIn number (xs ++ ys) → NotIn number xs
not_in_left number [] ys a = tt
not_in_left number (x ∷ xs) ys a = (a.0, not_in_left number xs ys a.1)

pub not_in_right : (number : ℕ) (xs ys : List Key) → NotIn number (xs ++ ys) → NotIn number ys
not_in_right number [] ys a = a
not_in_right number (x ∷ xs) ys a = not_in_right number xs ys a.1

pub key_in_at : (group i : ℕ) (keys : List Key) (d : Key) → i < length keys → AllIn group keys → (get_or keys i d).number / GROUP_NUMBERS ≡ group
key_in_at group i [] d low all = absurd (omega (arith, low))
key_in_at group zero (key ∷ keys) d low all = all.0
key_in_at group (suc i) (key ∷ keys) d low all = key_in_at group i keys d (omega (arith, low)) all.1

own_by : (group : ℕ) (keys : List Key) → AllIn group keys → AllByRecursion (λ (key : Key). key.number / GROUP_NUMBERS ≡ group) keys
own_by group [] own = tt
own_by group (key ∷ keys) own = (own.0, own_by group keys own.1)

in_by : (group : ℕ) (keys : List Key) → AllByRecursion (λ (key : Key). key.number / GROUP_NUMBERS ≡ group) keys → AllIn group keys
in_by group [] own = tt
in_by group (key ∷ keys) own = (own.0, in_by group keys own.1)

pub all_own : (group : ℕ) (keys : List Key) → AllIn group keys → All (λ (key : Key). key.number / GROUP_NUMBERS ≡ group) keys
all_own group keys own = All-from_recursion (λ (key : Key). key.number / GROUP_NUMBERS ≡ group) keys (own_by group keys own)

pub all_in : (group : ℕ) (keys : List Key) → All (λ (key : Key). key.number / GROUP_NUMBERS ≡ group) keys → AllIn group keys
all_in group keys own = in_by group keys (recursion_from_All (λ (key : Key). key.number / GROUP_NUMBERS ≡ group) keys own)

-- ---- a free leaves the other rows

along : (o p : Option Row) → p ≡ o → IsSomeAnd o Awaits → IsSomeAnd p Awaits
along o p same is = subst (λ (r : Option Row). IsSomeAnd r Awaits) (sym same) is

pub await_stays : (t : Table) (key : Key) (keys : List Key) → NotIn key.number keys → AwaitAll t keys → AwaitAll (freed t key) keys
await_stays t key [] none all = tt
await_stays t key (other ∷ keys) none all = (along (row_of t other) (row_of (freed t key) other) (row_stays t key other none.0) all.0, await_stays t key keys none.1 all.1)

pub awaits_then : (t : Table) (keys : List Key) (i : ℕ) (d : Key) → i < length keys → AwaitAll t keys → Apart keys → IsSomeAnd (row_of (freed_all t (take i keys)) (get_or keys i d)) Awaits
unfolding freed_all
awaits_then t [] i d low all apart = absurd (omega (arith, low))
awaits_then t (key ∷ keys) zero d low all apart = all.0
awaits_then t (key ∷ keys) (suc i) d low all apart = awaits_then (freed t key) keys i d (omega (arith, low)) (await_stays t key keys apart.0 all.1) apart.1

-- ---- lists that follow each other

pub none_freed : (t : Table) → freed_all t [] ≡ t
unfolding freed_all
none_freed t = refl

pub none_unlisted : (layouts : Layouts) → unlisted_all layouts [] ≡ layouts
unfolding unlisted_all
none_unlisted layouts = refl

pub one_freed : (t : Table) (key : Key) → freed_all t (key ∷ []) ≡ freed t key
unfolding freed_all
one_freed t key = refl

pub one_unlisted : (layouts : Layouts) (key : Key) → unlisted_all layouts (key ∷ []) ≡ taken_from layouts (key.number / GROUP_NUMBERS) (key.number % GROUP_NUMBERS)
unfolding unlisted_all
one_unlisted layouts key = refl

pub freed_both : (t : Table) (xs ys : List Key) → freed_all t (xs ++ ys) ≡ freed_all (freed_all t xs) ys
unfolding freed_all
freed_both t [] ys = refl
freed_both t (x ∷ xs) ys = freed_both (freed t x) xs ys

pub unlisted_both : (layouts : Layouts) (xs ys : List Key) → unlisted_all layouts (xs ++ ys) ≡ unlisted_all (unlisted_all layouts xs) ys
unfolding unlisted_all
unlisted_both layouts [] ys = refl
unlisted_both layouts (x ∷ xs) ys = unlisted_both (taken_from layouts (x.number / GROUP_NUMBERS) (x.number % GROUP_NUMBERS)) xs ys

pub frees_both : (actor : ℕ) (xs ys : List Key) → frees_of actor (xs ++ ys) ≡ frees_of actor xs ++ frees_of actor ys
frees_both actor [] ys = refl
frees_both actor (x ∷ xs) ys = ap (λ (l : List Entry). let e : Entry = record { actor = actor; event = Freed x } in e ∷ l) (frees_both actor xs ys)

pub frees_first : (actor n : ℕ) (keys : List Key) → take n (frees_of actor keys) ≡ frees_of actor (take n keys)
frees_first actor zero keys = refl
frees_first actor (suc n) [] = refl
frees_first actor (suc n) (x ∷ xs) = ap (λ (l : List Entry). let e : Entry = record { actor = actor; event = Freed x } in e ∷ l) (frees_first actor n xs)

-- ---- groups that the keys are not of

abbrev pub NotOf : ℕ → List Key → Type 0
NotOf group [] = ⊤
NotOf group (key ∷ keys) = (key.number / GROUP_NUMBERS ≢ group) × NotOf group keys

pub not_of : (group other : ℕ) (keys : List Key) → AllIn group keys → other ≢ group → NotOf other keys
not_of group other [] all apart = tt
not_of group other (key ∷ keys) all apart = (λ e. apart (sym e ∙ all.0), not_of group other keys all.1 apart)

not_of_both : (group : ℕ) (xs ys : List Key) → NotOf group xs → NotOf group ys → NotOf group (xs ++ ys)
not_of_both group [] ys a b = b
not_of_both group (x ∷ xs) ys a b = (a.0, not_of_both group xs ys a.1 b)

pub not_of_before : (f : ℕ → List Key) (group a n : ℕ) → ((b : ℕ) → b < a + n → AllIn b (f b)) → a + n ≤ group → NotOf group (flat_map f (range_with_len a n))
not_of_before f group a zero each low = tt
not_of_before f group a (suc n) each low =
    not_of_both group (f a) (flat_map f (range_with_len (a + 1) n)) (not_of a group (f a) (each a (omega arith)) (λ e. omega (arith, low, e)))
    (not_of_before f group (a + 1) n (λ b under. each b (omega (arith, under))) (omega (arith, low)))

pub groups_stay : (t : Table) (group : ℕ) (keys : List Key) → NotOf group keys → group_at (freed_all t keys) group ≡ group_at t group
unfolding freed_all
groups_stay t group [] apart = refl
groups_stay t group (key ∷ keys) apart = groups_stay (freed t key) group keys apart.1 ∙ group_stays t key group apart.0

-- the keys of the groups, up to one, of that one, and of the later ones
pub split_groups : (f : ℕ → List Key) (i n a : ℕ) → i < n → flat_map f (range_with_len a n) ≡ flat_map f (range_with_len a i) ++ (f (a + i) ++ flat_map f (range_with_len (a + i + 1) (n - i - 1)))
split_groups f i zero a low = absurd (omega (arith, low))
split_groups f zero (suc n) a low =
    let e : a + 0 ≡ a = omega arith in
    let m : suc n - 0 - 1 ≡ n = omega arith in
    (λ j. f (sym e j) ++ flat_map f (range_with_len (sym e j + 1) (sym m j)))
split_groups f (suc i) (suc n) a low =
    let e : a + 1 + i ≡ a + suc i = omega arith in
    let m : n - i - 1 ≡ suc n - suc i - 1 = omega arith in
    ap (λ (l : List Key). f a ++ l) (split_groups f i n (a + 1) (omega (arith, low)))
    ∙ sym (append_assoc (f a) (flat_map f (range_with_len (a + 1) i)) (f (a + 1 + i) ++ flat_map f (range_with_len (a + 1 + i + 1) (n - i - 1))))
    ∙ (λ j. (f a ++ flat_map f (range_with_len (a + 1) i)) ++ (f (e j) ++ flat_map f (range_with_len (e j + 1) (m j))))

pub groups_more : (f : ℕ → List Key) (n a : ℕ) → flat_map f (range_with_len a (n + 1)) ≡ flat_map f (range_with_len a n) ++ f (a + n)
groups_more f n a =
    let low : n < n + 1 = omega arith in
    let none : n + 1 - n - 1 ≡ 0 = omega arith in
    split_groups f n (n + 1) a low
    ∙ ap (λ (m : ℕ). flat_map f (range_with_len a n) ++ (f (a + n) ++ flat_map f (range_with_len (a + n + 1) m))) none
    ∙ ap (λ (l : List Key). flat_map f (range_with_len a n) ++ l) (append-nil (f (a + n)))

-- ---- the history

pub lead : (t : Table) (actor : ℕ) (keys : List Key) → AwaitAll t keys → Apart keys → Leads t (frees_of actor keys) (freed_all t keys)
unfolding freed_all
lead t actor [] all apart = refl
lead t actor (key ∷ keys) all apart = (freed t key, (all.0, refl), lead (freed t key) actor keys (await_stays t key keys apart.0 all.1) apart.1)

by_recovery : (before : List Entry) (actor : ℕ) (keys : List Key) → AreByHolders before (frees_of actor keys)
by_recovery before actor [] = tt
by_recovery before actor (key ∷ keys) = let e : Entry = record { actor = actor; event = Freed key } in (tt, by_recovery (before ++ e ∷ []) actor keys)

pub legal : (t : Table) (actor : ℕ) (keys : List Key) → AwaitAll t keys → Apart keys → LegalHistory t (frees_of actor keys) (freed_all t keys)
legal t actor keys all apart = record { leads = lead t actor keys all apart; held = by_recovery [] actor keys }

pub unheld : (t : Table) (keys : List Key) → closed t ≡ t → closed (freed_all t keys) ≡ freed_all t keys
unfolding freed_all
unheld t [] shut = shut
unheld t (key ∷ keys) shut = unheld (freed t key) keys (freed_unheld t key shut)

pub all_change : (actor : ℕ) (keys : List Key) → changes (frees_of actor keys) ≡ frees_of actor keys
all_change actor [] = refl
all_change actor (key ∷ keys) = ap (λ (l : List Entry). let e : Entry = record { actor = actor; event = Freed key } in e ∷ l) (all_change actor keys)

entries_lead : (t : Table) (actor : ℕ) (keys : List Key) → after_entries t (frees_of actor keys) ≡ freed_all t keys
unfolding freed_all
entries_lead t actor [] = refl
entries_lead t actor (key ∷ keys) = entries_lead (freed t key) actor keys

pub after_first : (t : Table) (actor n : ℕ) (keys : List Key) → closed t ≡ t → After t (frees_of actor keys) n ≡ freed_all t (take n keys)
after_first t actor n keys shut =
    ap (λ (l : List Entry). closed (after_entries t (take n l))) (all_change actor keys)
    ∙ ap (λ (l : List Entry). closed (after_entries t l)) (frees_first actor n keys)
    ∙ ap closed (entries_lead t actor (take n keys))
    ∙ unheld t (take n keys) shut

-- ---- what is left of a number

row_awaits : (o : Option Row) → IsSomeAnd o Awaits → (row : Row) × (o ≡ Some row)
row_awaits None is = absurd is
row_awaits (Some row) is = (row, refl)

pub gone_or_same : (t : Table) (keys : List Key) (number : ℕ) → AwaitAll t keys → Apart keys
    → (is_unlinked (inode_of (freed_all t keys) number) ≡ false) ⊎ (NotIn number keys × (inode_of (freed_all t keys) number ≡ inode_of t number))
unfolding freed_all
gone_or_same t [] number all apart = inr (tt, refl)
gone_or_same t (key ∷ keys) number all apart =
    elim (gone_or_same (freed t key) keys number (await_stays t key keys apart.0 all.1) apart.1) [
      | inl gone ↦ inl gone
      | inr rest ↦ elim (cases_eq number key.number) [
        | inl same ↦
            let row = row_awaits (row_of t key) all.0 in
            let old = inode_there t key row.0 row.1 in
            inl (ap is_unlinked (rest.1 ∙ ap (inode_of (freed t key)) same ∙ inode_freed t key old.0 old.1))
        | inr other ↦ inr ((other, rest.0), rest.1 ∙ inode_stays t key number (λ e. other (sym e)))
      ]
    ]
