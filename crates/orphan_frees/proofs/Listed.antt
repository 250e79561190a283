-- The keys of a table's rows without links: each awaits, no two have one number, and each row without links is there.
use Rattle.std.proofs.Common.{◌≡◌, ◌≢◌, ◌<◌, ◌≤◌, ◌+◌, ◌*◌, ◌/◌, ◌%◌, ◌++◌, ◌&&◌, ℕ, zero, suc, Bool, true, false, cond, eqb, List, [], ◌∷◌, length, map, Option, None, Some, inl, inr, refl, ap, sym, subst, ◌∙◌, arith}
use Rattle.std.specs.Prelude.{⊤, IsSomeAnd}
use Rattle.std.specs.List.{flat_map, range_with_len}
use Rattle.std.proofs.lemmas.Bool.{cases_eq, cond-true, eq-eqb, eqb-true, false≢true, ne_eqb}
use Rattle.std.proofs.lemmas.List.{map-append}
use Rattle.std.proofs.lemmas.Option.{same_Some}
use Rattle.life_limits.specs.declared.TheConstants.{BLOCK_SECTORS, BUCKETS, FIRST_DATA_BLOCK, GROUP_NUMBERS, MAX_BLOCKS}
use Rattle.life_bytes.specs.declared.sector.Sector.{Sector}
use Rattle.geometry.specs.declared.shape.Geometry.{Geometry}
use Rattle.geometry.specs.Places.{group_sectors, number_in}
use Rattle.life_table.specs.declared.key.Key.{Key}
use Rattle.life_table.specs.declared.types.Row.{Row}
use Rattle.life_table.specs.declared.table.Inode.{Inode}
use Rattle.life_table.specs.declared.table.Table.{Table}
use Rattle.life_table.specs.Legal.{Awaits}
use Rattle.life_table.specs.History.{closed, closed_row}
use Rattle.life_table.specs.Space.{times}
use Rattle.life_table.specs.Table.{Group, group_at, inode_in, inode_of, row_in_life, row_of}
use Rattle.sound_image.specs.Encoding.{CanEncode, Layouts, bucket_list, is_unlinked, is_unlinked_row}
use Rattle.group_ops.specs.Orphans.{generation_of, key_in, orphan_keys}
use Rattle.orphan_frees.specs.Order.{keys_of_group, keys_to_free}
use Rattle.orphan_frees.proofs.Due.{AllIn, Apart, AwaitAll, NotIn, await_both, not_in_both, not_in_left, not_in_right}

-- ---- lists of numbers

times-cons : (b x : ℕ) (xs : List ℕ) → times b (x ∷ xs) ≡ cond (eqb b x) 1 0 + times b xs
unfolding times
times-cons b x xs = refl

times-nil : (b : ℕ) → times b [] ≡ 0
unfolding times
times-nil b = refl

times-append : (b : ℕ) (xs ys : List ℕ) → times b (xs ++ ys) ≡ times b xs + times b ys
times-append b [] ys = omega (arith, times-nil b)
times-append b (x ∷ xs) ys = omega (arith, times-cons b x (xs ++ ys), times-cons b x xs, times-append b xs ys)

none_in : (f : ℕ → List ℕ) (x a n : ℕ) → ((b : ℕ) → a ≤ b → b < a + n → times x (f b) ≡ 0) → times x (flat_map f (range_with_len a n)) ≡ 0
none_in f x a zero none = times-nil x
none_in f x a (suc n) none =
    let rest = none_in f x (a + 1) n (λ b low high. none b (omega arith) (omega arith)) in
    omega (arith, times-append x (f a) (flat_map f (range_with_len (a + 1) n)), none a (omega arith) (omega arith), rest)

one_in : (f : ℕ → List ℕ) (x c v a n : ℕ) → ((b : ℕ) → b < a + n → b ≢ c → times x (f b) ≡ 0) → times x (f c) ≡ v → a ≤ c → c < a + n → times x (flat_map f (range_with_len a n)) ≡ v
one_in f x c v a zero none here low high = absurd (omega arith)
one_in f x c v a (suc n) none here low high =
    let all = times-append x (f a) (flat_map f (range_with_len (a + 1) n)) in
    elim (cases_eq a c) [
      | inl same ↦
          let rest = none_in f x (a + 1) n (λ b up top. none b (omega arith) (λ e. omega (arith, up, same, e))) in
          let first : times x (f a) ≡ v = ap (λ (b : ℕ). times x (f b)) same ∙ here in
          omega (arith, all, rest, first)
      | inr other ↦
          let rest = one_in f x c v (a + 1) n (λ b top ne. none b (omega arith) ne) here (omega (arith, low, other)) (omega arith) in
          omega (arith, all, rest, none a (omega arith) other)
    ]

-- each number has what is asked, and stands once
abbrev pub Members : (ℕ → Bool) → List ℕ → Type 0
Members asked [] = ⊤
Members asked (x ∷ xs) = (asked x ≡ true) × (times x xs ≡ 0) × Members asked xs

test_of : (b : Bool) → 1 ≤ cond b 1 0 → b ≡ true
test_of true low = refl
test_of false low = absurd (omega (arith, low))

at_most : (b : Bool) → cond {A = ℕ} b 1 0 ≤ 1
at_most true = omega arith
at_most false = omega arith

pub members : (asked : ℕ → Bool) (xs : List ℕ) → ((x : ℕ) → times x xs ≤ cond (asked x) 1 0) → Members asked xs
members asked [] few = tt
members asked (x ∷ xs) few =
    let here : times x (x ∷ xs) ≡ 1 + times x xs = times-cons x x xs ∙ ap (λ (b : Bool). cond b 1 0 + times x xs) (eq-eqb x x refl) in
    let low = few x in
    let one = at_most (asked x) in (
      test_of (asked x) (omega (arith, here, low)),
      omega (arith, here, low, one),
      members asked xs (λ y. let all = times-cons y x xs in let also = few y in omega (arith, all, also)),
    )

-- ---- a group's numbers without links

-- those of its buckets
abbrev numbers : Layouts → ℕ → List ℕ
numbers layouts group = flat_map (bucket_list layouts group) (range_with_len 0 BUCKETS)

abbrev asks : Group → ℕ → Bool
asks chunks agino = is_unlinked (inode_in chunks agino)

counted : (t : Table) (layouts : Layouts) (group agino : ℕ) → ((bucket x : ℕ) → bucket < BUCKETS
    → times x (bucket_list layouts group bucket) ≡ cond (eqb (x % BUCKETS) bucket && is_unlinked (inode_in (group_at t group) x)) 1 0)
    → times agino (numbers layouts group) ≡ cond (asks (group_at t group) agino) 1 0
counted t layouts group agino each =
    let u : Bool = asks (group_at t group) agino in
    let small : agino % BUCKETS < BUCKETS = omega arith in
    one_in (bucket_list layouts group) agino (agino % BUCKETS) (cond u 1 0) 0 BUCKETS
    (λ b low ne. each b agino (omega (arith, low)) ∙ ap (λ (p : Bool). cond (p && u) 1 0) (ne_eqb (agino % BUCKETS) b (λ e. ne (sym e))))
    (each (agino % BUCKETS) agino small ∙ ap (λ (p : Bool). cond (p && u) 1 0) (eq-eqb (agino % BUCKETS) (agino % BUCKETS) refl))
    (omega arith) (omega (arith, small))

keys_flat : (f : ℕ → Key) (h : ℕ → List ℕ) (bs : List ℕ) → flat_map (λ b. map f (h b)) bs ≡ map f (flat_map h bs)
keys_flat f h [] = refl
keys_flat f h (b ∷ bs) = ap (λ (l : List Key). map f (h b) ++ l) (keys_flat f h bs) ∙ sym (map-append f (h b) (flat_map h bs))

pub keys_are : (t : Table) (layouts : Layouts) (group : ℕ) → keys_of_group t layouts group ≡ map (key_in group (group_at t group)) (numbers layouts group)
unfolding orphan_keys
keys_are t layouts group = keys_flat (key_in group (group_at t group)) (bucket_list layouts group) (range_with_len 0 BUCKETS)

-- ---- their keys

not_among : (group x : ℕ) (chunks : Group) (ys : List ℕ) → times x ys ≡ 0 → NotIn (number_in group x) (map (key_in group chunks) ys)
not_among group x chunks [] none = tt
not_among group x chunks (y ∷ ys) none =
    let all = times-cons x y ys in (
      λ e.
          let same : x ≡ y = omega (arith, e) in
          let one : times x (y ∷ ys) ≡ 1 + times x ys = all ∙ ap (λ (b : Bool). cond b 1 0 + times x ys) (eq-eqb x y same) in
          absurd (omega (arith, none, one)),
      not_among group x chunks ys (omega (arith, none, all)),
    )

among : (group x : ℕ) (chunks : Group) (ys : List ℕ) → NotIn (number_in group x) (map (key_in group chunks) ys) → times x ys ≡ 0
among group x chunks [] none = times-nil x
among group x chunks (y ∷ ys) none =
    times-cons x y ys
    ∙ ap (λ (b : Bool). cond b 1 0 + times x ys) (ne_eqb x y (λ e. none.0 (ap (λ (n : ℕ). number_in group n) e)))
    ∙ (let rest = among group x chunks ys none.1 in omega (arith, rest))

apart_keys : (asked : ℕ → Bool) (group : ℕ) (chunks : Group) (xs : List ℕ) → Members asked xs → Apart (map (key_in group chunks) xs)
apart_keys asked group chunks [] all = tt
apart_keys asked group chunks (x ∷ xs) all = (not_among group x chunks xs all.1, apart_keys asked group chunks xs all.2)

-- the row of a number's key
row_of_key : (t : Table) (group agino generation : ℕ) → agino < GROUP_NUMBERS
    → row_of t (record { number = number_in group agino; generation = generation }) ≡ row_in_life generation (inode_in (group_at t group) agino)
unfolding inode_of
row_of_key t group agino generation low =
    let high : number_in group agino / GROUP_NUMBERS ≡ group = omega (arith, low) in
    let part : number_in group agino % GROUP_NUMBERS ≡ agino = omega (arith, low) in
    ap (λ (g : ℕ). row_in_life generation (inode_in (group_at t g) (number_in group agino % GROUP_NUMBERS))) high
    ∙ ap (λ (n : ℕ). row_in_life generation (inode_in (group_at t group) n)) part

own_row : (o : Option Inode) → is_unlinked o ≡ true → is_unlinked_row (row_in_life (generation_of o) o) ≡ true
own_row None unlinked = cc
own_row (Some inode) unlinked =
    ap (λ (r : Option Row). is_unlinked_row r) (cond-true (eqb inode.generation inode.generation) inode.row None (eq-eqb inode.generation inode.generation refl)) ∙ unlinked

-- a row without links that nobody holds awaits
row_awaits : (r : Option Row) → is_unlinked_row r ≡ true → closed_row r ≡ r → IsSomeAnd r Awaits
row_awaits None un same = absurd (false≢true un)
row_awaits (Some row) un same = (eqb-true row.links 0 un, ap (λ (x : Row). x.opens) (sym (same_Some (record { links = row.links; blocks = row.blocks; opens = 0 }) row same)))

-- what the laws say of rows without holds, and of the places of inodes
abbrev pub RowsClose : Type 0
RowsClose = (t : Table) (key : Key) → row_of (closed t) key ≡ closed_row (row_of t key)

abbrev pub HasPlace : Type 0
HasPlace = (g : Geometry) (t : Table) (layouts : Layouts) (image : List Sector) (group agino : ℕ) (inode : Inode) → CanEncode g t layouts image → group < g.groups
    → inode_in (group_at t group) agino ≡ Some inode → (FIRST_DATA_BLOCK * BLOCK_SECTORS ≤ agino) × (agino < group_sectors g)

key_awaits : RowsClose → (t : Table) (group agino : ℕ) → closed t ≡ t → agino < GROUP_NUMBERS → is_unlinked (inode_in (group_at t group) agino) ≡ true
    → IsSomeAnd (row_of t (key_in group (group_at t group) agino)) Awaits
key_awaits rows t group agino shut low unlinked =
    let key : Key = key_in group (group_at t group) agino in
    row_awaits (row_of t key)
    (ap (λ (r : Option Row). is_unlinked_row r) (row_of_key t group agino (generation_of (inode_in (group_at t group) agino)) low) ∙ own_row (inode_in (group_at t group) agino) unlinked)
    (sym (rows t key) ∙ ap (λ (v : Table). row_of v key) shut)

unlinked_some : (o : Option Inode) → is_unlinked o ≡ true → (inode : Inode) × (o ≡ Some inode)
unlinked_some None un = absurd (false≢true un)
unlinked_some (Some inode) un = (inode, refl)

sectors_are : (g : Geometry) → group_sectors g ≡ g.blocks * BLOCK_SECTORS
sectors_are g = refl

pub some_low : HasPlace → (g : Geometry) (t : Table) (layouts : Layouts) (image : List Sector) (group agino : ℕ) (inode : Inode) → CanEncode g t layouts image → group < g.groups
    → inode_in (group_at t group) agino ≡ Some inode → agino < GROUP_NUMBERS
some_low has_place g t layouts image group agino inode can inside at =
    let low = (has_place g t layouts image group agino inode can inside at).1 in
    let most : t.blocks ≤ MAX_BLOCKS = can.table.most in
    let blocks = can.blocks in
    let size = sectors_are g in
    omega (arith, low, most, blocks, size)

pub low_number : HasPlace → (g : Geometry) (t : Table) (layouts : Layouts) (image : List Sector) (group agino : ℕ) → CanEncode g t layouts image → group < g.groups
    → is_unlinked (inode_in (group_at t group) agino) ≡ true → agino < GROUP_NUMBERS
low_number has_place g t layouts image group agino can inside unlinked =
    let some = unlinked_some (inode_in (group_at t group) agino) unlinked in
    some_low has_place g t layouts image group agino some.0 can inside some.1

-- Keys of a group of which each awaits and no two have one number.
pub record DueIn (t : Table) (group : ℕ) (keys : List Key) : Type 0 where
  pub await_all : AwaitAll t keys
  pub are_apart : Apart keys
  pub own : AllIn group keys

due_members : RowsClose → (t : Table) (group : ℕ) (xs : List ℕ) → closed t ≡ t → ((x : ℕ) → asks (group_at t group) x ≡ true → x < GROUP_NUMBERS)
    → Members (asks (group_at t group)) xs → AwaitAll t (map (key_in group (group_at t group)) xs) × AllIn group (map (key_in group (group_at t group)) xs)
due_members rows t group [] shut low all = (tt, tt)
due_members rows t group (x ∷ xs) shut low all =
    let rest = due_members rows t group xs shut low all.2 in
    let small = low x all.0 in
    let own : number_in group x / GROUP_NUMBERS ≡ group = omega (arith, small) in
    ((key_awaits rows t group x shut small all.0, rest.0), (own, rest.1))

pub due_in : RowsClose → HasPlace → (g : Geometry) (t : Table) (layouts : Layouts) (image : List Sector) (group : ℕ) → CanEncode g t layouts image → closed t ≡ t → group < g.groups
    → DueIn t group (keys_of_group t layouts group)
due_in rows has_place g t layouts image group can shut inside =
    let chunks : Group = group_at t group in
    let xs : List ℕ = numbers layouts group in
    let low : group < length t.groups = let n = can.groups in omega (arith, inside, n) in
    let counts : (x : ℕ) → times x xs ≡ cond (asks chunks x) 1 0 = λ x. counted t layouts group x (λ bucket y small. can.layouts_of.buckets group bucket y low small) in
    let all : Members (asks chunks) xs = members (asks chunks) xs (λ x. let e = counts x in omega (arith, e)) in
    let both = due_members rows t group xs shut (λ x unlinked. low_number has_place g t layouts image group x can inside unlinked) all in
    let due : DueIn t group (map (key_in group chunks) xs) = record { await_all = both.0; are_apart = apart_keys (asks chunks) group chunks xs all; own = both.1 } in
    subst (DueIn t group) (sym (keys_are t layouts group)) due

-- ---- the keys of all groups

-- each is of the group or of a later one
abbrev AllFrom : ℕ → List Key → Type 0
AllFrom group [] = ⊤
AllFrom group (key ∷ keys) = (group ≤ key.number / GROUP_NUMBERS) × AllFrom group keys

not_in_later : (number group : ℕ) (keys : List Key) → number / GROUP_NUMBERS < group → AllFrom group keys → NotIn number keys
not_in_later number group [] low all = tt
not_in_later number group (key ∷ keys) low all =
    let up = all.0 in (λ e. let same : number / GROUP_NUMBERS ≡ key.number / GROUP_NUMBERS = ap (λ (n : ℕ). n / GROUP_NUMBERS) e in absurd (omega (arith, low, up, same)), not_in_later number group keys low all.1)

apart_later : (group : ℕ) (xs ys : List Key) → Apart xs → AllIn group xs → Apart ys → AllFrom (group + 1) ys → Apart (xs ++ ys)
apart_later group [] ys a own b later = b
apart_later group (x ∷ xs) ys a own b later =
    let here = own.0 in
    (not_in_both x.number xs ys a.0 (not_in_later x.number (group + 1) ys (omega (arith, here)) later), apart_later group xs ys a.1 own.1 b later)

from_both : (group : ℕ) (xs ys : List Key) → AllIn group xs → AllFrom (group + 1) ys → AllFrom group (xs ++ ys)
from_both group [] [] own later = tt
from_both group [] (y ∷ ys) own later = let up = later.0 in (omega (arith, up), from_both group [] ys tt later.1)
from_both group (x ∷ xs) ys own later = let here = own.0 in (omega (arith, here), from_both group xs ys own.1 later)

pub record Due (t : Table) (keys : List Key) : Type 0 where
  pub await_all : AwaitAll t keys
  pub are_apart : Apart keys

record DueFrom (t : Table) (group : ℕ) (keys : List Key) : Type 0 where
  await_all : AwaitAll t keys
  are_apart : Apart keys
  from : AllFrom group keys

due_from : (t : Table) (f : ℕ → List Key) (a n : ℕ) → ((b : ℕ) → b < a + n → DueIn t b (f b)) → DueFrom t a (flat_map f (range_with_len a n))
due_from t f a zero each = record { await_all = tt; are_apart = tt; from = tt }
due_from t f a (suc n) each =
    let here = each a (omega arith) in
    let rest = due_from t f (a + 1) n (λ b low. each b (omega (arith, low))) in
    record {
      await_all = await_both t (f a) (flat_map f (range_with_len (a + 1) n)) here.await_all rest.await_all;
      are_apart = apart_later a (f a) (flat_map f (range_with_len (a + 1) n)) here.are_apart here.own rest.are_apart rest.from;
      from = from_both a (f a) (flat_map f (range_with_len (a + 1) n)) here.own rest.from;
    }

pub all_due : RowsClose → HasPlace → (g : Geometry) (t : Table) (layouts : Layouts) (image : List Sector) → CanEncode g t layouts image → closed t ≡ t → Due t (keys_to_free t layouts)
unfolding keys_to_free
all_due rows has_place g t layouts image can shut =
    let n = can.groups in
    let all = due_from t (keys_of_group t layouts) 0 (length t.groups) (λ b low. due_in rows has_place g t layouts image b can shut (omega (arith, low, n))) in
    record { await_all = all.await_all; are_apart = all.are_apart }

-- ---- a number that no key has has no row without links

not_in_one : (number : ℕ) (f : ℕ → List Key) (a n b : ℕ) → NotIn number (flat_map f (range_with_len a n)) → a ≤ b → b < a + n → NotIn number (f b)
not_in_one number f a zero b none low high = absurd (omega (arith, low, high))
not_in_one number f a (suc n) b none low high =
    elim (cases_eq a b) [
      | inl same ↦ subst (λ (x : ℕ). NotIn number (f x)) same (not_in_left number (f a) (flat_map f (range_with_len (a + 1) n)) none)
      | inr other ↦ not_in_one number f (a + 1) n b (not_in_right number (f a) (flat_map f (range_with_len (a + 1) n)) none) (omega (arith, low, other)) (omega (arith, high))
    ]

nothing_asked : (b : Bool) → cond {A = ℕ} b 1 0 ≡ 0 → b ≡ false
nothing_asked true e = absurd (omega (arith, e))
nothing_asked false e = refl

pub linked_rest : (g : Geometry) (t : Table) (layouts : Layouts) (image : List Sector) (group agino : ℕ) → CanEncode g t layouts image → group < g.groups
    → NotIn (number_in group agino) (keys_to_free t layouts) → is_unlinked (inode_in (group_at t group) agino) ≡ false
unfolding keys_to_free
linked_rest g t layouts image group agino can inside none =
    let chunks : Group = group_at t group in
    let low : group < length t.groups = let n = can.groups in omega (arith, inside, n) in
    let here = not_in_one (number_in group agino) (keys_of_group t layouts) 0 (length t.groups) group none (omega arith) (omega (arith, low)) in
    let zero_times = among group agino chunks (numbers layouts group) (subst (NotIn (number_in group agino)) (keys_are t layouts group) here) in
    nothing_asked (asks chunks agino) (sym (counted t layouts group agino (λ bucket y small. can.layouts_of.buckets group bucket y low small)) ∙ zero_times)
