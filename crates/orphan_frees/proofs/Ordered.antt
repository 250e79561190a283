-- The keys of a table's rows without links stand group by group, and in a group bucket by bucket.
use Rattle.std.proofs.Common.{◌≡◌, ◌<◌, ◌≤◌, ◌+◌, ◌*◌, ◌/◌, ◌%◌, ◌++◌, ◌&&◌, ℕ, zero, suc, Bool, true, false, cond, eqb, List, [], ◌∷◌, length, map, Option, None, Some, refl, ap, sym, subst, ◌∙◌, arith}
use Rattle.std.specs.Prelude.{⊤, slice_get}
use Rattle.std.specs.List.{flat_map, range_with_len}
use Rattle.std.proofs.lemmas.Bool.{eqb-true, false≢true}
use Rattle.std.proofs.lemmas.Option.{none-some, same_Some}
use Rattle.life_limits.specs.declared.TheConstants.{BUCKETS, GROUP_NUMBERS}
use Rattle.life_bytes.specs.declared.sector.Sector.{Sector}
use Rattle.geometry.specs.declared.shape.Geometry.{Geometry}
use Rattle.geometry.specs.Places.{number_in}
use Rattle.life_table.specs.declared.key.Key.{Key}
use Rattle.life_table.specs.declared.table.Table.{Table}
use Rattle.life_table.specs.Space.{times}
use Rattle.life_table.specs.Table.{Group, group_at, inode_in}
use Rattle.sound_image.specs.Encoding.{CanEncode, Layouts, bucket_list, is_unlinked}
use Rattle.group_ops.specs.Orphans.{bucket_keys, key_in, orphan_keys}
use Rattle.orphan_frees.specs.Order.{keys_of_group, keys_to_free}
use Rattle.orphan_frees.proofs.Listed.{HasPlace, Members, low_number, members}

-- the place of a key's bucket among those of all groups
abbrev pub place : Key → ℕ
place key = key.number / GROUP_NUMBERS * BUCKETS + key.number % BUCKETS

-- each key's is this one or a later one
abbrev From : ℕ → List Key → Type 0
From low [] = ⊤
From low (key ∷ keys) = (low ≤ place key) × From low keys

-- each one's is before this one
abbrev Before : ℕ → List Key → Type 0
Before high [] = ⊤
Before high (key ∷ keys) = (place key < high) × Before high keys

abbrev Ascends : List Key → Type 0
Ascends [] = ⊤
Ascends (key ∷ keys) = From (place key) keys × Ascends keys

record Ordered (low high : ℕ) (keys : List Key) : Type 0 where
  from : From low keys
  before : Before high keys
  ascends : Ascends keys

-- ---- two lists

from_less : (low high : ℕ) (keys : List Key) → low ≤ high → From high keys → From low keys
from_less low high [] less all = tt
from_less low high (key ∷ keys) less all = let here = all.0 in (omega (arith, less, here), from_less low high keys less all.1)

from_both : (low : ℕ) (xs ys : List Key) → From low xs → From low ys → From low (xs ++ ys)
from_both low [] ys a b = b
from_both low (x ∷ xs) ys a b = (a.0, from_both low xs ys a.1 b)

before_more : (low high : ℕ) (keys : List Key) → low ≤ high → Before low keys → Before high keys
before_more low high [] less all = tt
before_more low high (key ∷ keys) less all = let here = all.0 in (omega (arith, less, here), before_more low high keys less all.1)

before_both : (high : ℕ) (xs ys : List Key) → Before high xs → Before high ys → Before high (xs ++ ys)
before_both high [] ys a b = b
before_both high (x ∷ xs) ys a b = (a.0, before_both high xs ys a.1 b)

ascends_both : (middle : ℕ) (xs ys : List Key) → Ascends xs → Before middle xs → From middle ys → Ascends ys → Ascends (xs ++ ys)
ascends_both middle [] ys up before from next = next
ascends_both middle (x ∷ xs) ys up before from next =
    let here = before.0 in
    (from_both (place x) xs ys up.0 (from_less (place x) middle ys (omega (arith, here)) from), ascends_both middle xs ys up.1 before.1 from next)

both : (low middle high : ℕ) (xs ys : List Key) → low ≤ middle → middle ≤ high → Ordered low middle xs → Ordered middle high ys → Ordered low high (xs ++ ys)
both low middle high xs ys less more a b = record {
  from = from_both low xs ys a.from (from_less low middle ys less b.from);
  before = before_both high xs ys (before_more middle high xs more a.before) b.before;
  ascends = ascends_both middle xs ys a.ascends a.before b.from b.ascends;
}

nothing : (low high : ℕ) → Ordered low high []
nothing low high = record { from = tt; before = tt; ascends = tt }

-- lists that follow each other, each within its own bounds
all_of : (bound : ℕ → ℕ) (top : ℕ) (f : ℕ → List Key) (a n : ℕ)
    → ((b : ℕ) → a ≤ b → b < a + n → Ordered (bound b) (bound (b + 1)) (f b) × (bound b ≤ bound (b + 1)) × (bound (b + 1) ≤ top)) → Ordered (bound a) top (flat_map f (range_with_len a n))
all_of bound top f a zero each = nothing (bound a) top
all_of bound top f a (suc n) each =
    let here = each a (omega arith) (omega arith) in
    let rest = all_of bound top f (a + 1) n (λ b low high. each b (omega (arith, low)) (omega (arith, high))) in
    both (bound a) (bound (a + 1)) top (f a) (flat_map f (range_with_len (a + 1) n)) here.1 here.2 here.0 rest

-- ---- a bucket, a group, all groups

-- which inodes a bucket lists
abbrev listed : Group → ℕ → ℕ → Bool
listed chunks bucket agino = eqb (agino % BUCKETS) bucket && is_unlinked (inode_in chunks agino)

first_true : (a b : Bool) → (a && b) ≡ true → a ≡ true
first_true true b e = refl
first_true false b e = absurd (false≢true e)

second_true : (a b : Bool) → (a && b) ≡ true → b ≡ true
second_true true b e = e
second_true false b e = absurd (false≢true e)

place_of : (group bucket agino : ℕ) (chunks : Group) → agino < GROUP_NUMBERS → agino % BUCKETS ≡ bucket → place (key_in group chunks agino) ≡ group * BUCKETS + bucket
place_of group bucket agino chunks low own =
    let high : number_in group agino / GROUP_NUMBERS ≡ group = omega (arith, low) in
    let rest : number_in group agino % BUCKETS ≡ agino % BUCKETS = omega arith in
    omega (arith, high, rest, own)

from_one : (p : ℕ) (keys : List Key) → Ordered p (p + 1) keys → (key : Key) → place key ≡ p → Ordered p (p + 1) (key ∷ keys)
from_one p keys all key is = record {
  from = (omega (arith, is), all.from);
  before = (omega (arith, is), all.before);
  ascends = (from_less (place key) p keys (omega (arith, is)) all.from, all.ascends);
}

in_bucket : (group bucket : ℕ) (chunks : Group) (xs : List ℕ) → ((x : ℕ) → is_unlinked (inode_in chunks x) ≡ true → x < GROUP_NUMBERS) → Members (listed chunks bucket) xs
    → Ordered (group * BUCKETS + bucket) (group * BUCKETS + bucket + 1) (map (key_in group chunks) xs)
in_bucket group bucket chunks [] low all = nothing (group * BUCKETS + bucket) (group * BUCKETS + bucket + 1)
in_bucket group bucket chunks (x ∷ xs) low all =
    let asked = all.0 in
    let own : x % BUCKETS ≡ bucket = eqb-true (x % BUCKETS) bucket (first_true (eqb (x % BUCKETS) bucket) (is_unlinked (inode_in chunks x)) asked) in
    let small = low x (second_true (eqb (x % BUCKETS) bucket) (is_unlinked (inode_in chunks x)) asked) in
    from_one (group * BUCKETS + bucket) (map (key_in group chunks) xs) (in_bucket group bucket chunks xs low all.2) (key_in group chunks x) (place_of group bucket x chunks small own)

in_group : HasPlace → (g : Geometry) (t : Table) (layouts : Layouts) (image : List Sector) (group : ℕ) → CanEncode g t layouts image → group < g.groups
    → Ordered (group * BUCKETS) ((group + 1) * BUCKETS) (keys_of_group t layouts group)
unfolding orphan_keys
in_group has_place g t layouts image group can inside =
    let chunks : Group = group_at t group in
    let low : group < length t.groups = let n = can.groups in omega (arith, inside, n) in
    let bucket_of : (b : ℕ) → b < BUCKETS → Ordered (group * BUCKETS + b) (group * BUCKETS + b + 1) (bucket_keys layouts group chunks b) =
    λ b small. in_bucket group b chunks (bucket_list layouts group b) (λ x unlinked. low_number has_place g t layouts image group x can inside unlinked)
    (members (listed chunks b) (bucket_list layouts group b) (λ x. let e = can.layouts_of.buckets group b x low small in omega (arith, e))) in
    let all = all_of (λ b. group * BUCKETS + b) ((group + 1) * BUCKETS) (bucket_keys layouts group chunks) 0 BUCKETS
    (λ b up small. (subst (λ (h : ℕ). Ordered (group * BUCKETS + b) h (bucket_keys layouts group chunks b)) (omega arith) (bucket_of b (omega (arith, small))), omega arith, omega (arith, small))) in
    subst (λ (l : ℕ). Ordered l ((group + 1) * BUCKETS) (flat_map (bucket_keys layouts group chunks) (range_with_len 0 BUCKETS))) (omega arith) all

ordered : HasPlace → (g : Geometry) (t : Table) (layouts : Layouts) (image : List Sector) → CanEncode g t layouts image → Ascends (keys_to_free t layouts)
unfolding keys_to_free
ordered has_place g t layouts image can =
    let n = can.groups in
    (all_of (λ b. b * BUCKETS) (length t.groups * BUCKETS) (keys_of_group t layouts) 0 (length t.groups)
    (λ b up small. (in_group has_place g t layouts image b can (omega (arith, small, n)), omega arith, omega (arith, small)))).ascends

-- ---- two keys

from_at : (low : ℕ) (keys : List Key) (j : ℕ) (later : Key) → From low keys → slice_get keys j ≡ Some later → low ≤ place later
from_at low [] j later all at = absurd (none-some later at)
from_at low (key ∷ keys) zero later all at = let here = all.0 in let same = ap place (same_Some key later at) in omega (arith, here, same)
from_at low (key ∷ keys) (suc j) later all at = from_at low keys j later all.1 at

at_two : (keys : List Key) (i j : ℕ) (earlier later : Key) → Ascends keys → i ≤ j → slice_get keys i ≡ Some earlier → slice_get keys j ≡ Some later → place earlier ≤ place later
at_two [] i j earlier later up less first second = absurd (none-some earlier first)
at_two (key ∷ keys) zero zero earlier later up less first second =
    let a = ap place (same_Some key earlier first) in let b = ap place (same_Some key later second) in omega (arith, a, b)
at_two (key ∷ keys) zero (suc j) earlier later up less first second =
    let a = ap place (same_Some key earlier first) in let b = from_at (place key) keys j later up.0 second in omega (arith, a, b)
at_two (key ∷ keys) (suc i) zero earlier later up less first second = absurd (omega (arith, less))
at_two (key ∷ keys) (suc i) (suc j) earlier later up less first second = at_two keys i j earlier later up.1 (omega (arith, less)) first second

pub by_bucket : HasPlace → (g : Geometry) (t : Table) (layouts : Layouts) (image : List Sector) (i j : ℕ) (earlier later : Key) → CanEncode g t layouts image → i ≤ j
    → slice_get (keys_to_free t layouts) i ≡ Some earlier → slice_get (keys_to_free t layouts) j ≡ Some later → place earlier ≤ place later
by_bucket has_place g t layouts image i j earlier later can less first second = at_two (keys_to_free t layouts) i j earlier later (ordered has_place g t layouts image can) less first second
