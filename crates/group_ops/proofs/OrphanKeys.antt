-- The keys of a group's rows without links, bucket by bucket.
use Rattle.std.proofs.Common.{◌≡◌, ◌≢◌, ◌<◌, ◌≤◌, ◌+◌, ◌/◌, ◌%◌, ◌++◌, ◌&&◌, ℕ, zero, suc, Bool, true, cond, eqb, List, [], ◌∷◌, length, get_or, take, Contains, Option, None, Some, inl, inr, refl, ap, sym, subst, ◌∙◌, arith, append_assoc}
use Rattle.std.specs.Prelude.{All, map}
use Rattle.std.specs.List.{flat_map, range_with_len}
use Rattle.std.proofs.lemmas.Bool.{cases_eq, cond-true, eq-eqb, ne_eqb}
use Rattle.std.proofs.lemmas.List.{append-nil, map-append, take_more}
use Rattle.std.proofs.lemmas.List.Elements.{All-append, All-contains_itself, All-map, All-nil, All-weaker}
use Rattle.std.proofs.lemmas.Grind.{flat_map-append}
use Rattle.life_limits.specs.declared.TheConstants.{BUCKETS, GROUP_NUMBERS}
use Rattle.geometry.specs.Places.{number_in}
use Rattle.inode_core.specs.declared.shape.Core.{Core}
use Rattle.life_table.specs.declared.key.Key.{Key}
use Rattle.life_table.specs.declared.types.Row.{Row}
use Rattle.life_table.specs.declared.table.Inode.{Inode}
use Rattle.life_table.specs.declared.table.Table.{Table}
use Rattle.life_table.specs.Space.{times}
use Rattle.life_table.specs.Table.{Group, group_at, inode_in, inode_of, row_in_life, row_of}
use Rattle.sound_image.specs.Encoding.{Layouts, bucket_list, core_for, is_unlinked, is_unlinked_row}
use Rattle.group_ops.specs.Orphans.{AreOrphansOf, bucket_keys, generation_of, key_in, orphan_keys}
use Rattle.group_ops.specs.Pointers.{ShowsLists}
use Rattle.group_ops.specs.Relinks.{next_of}
use Rattle.group_ops.specs.Represents.{IsGroupOf}
use Rattle.group_ops.specs.Telling.{core_told}
use Rattle.group_ops.specs.Values.{StateValue}
use Rattle.group_ops.proofs.Shown.{member_is, unlinked_some}

-- ---- the key that a core tells

core_generation : (generation next : ℕ) (row : Option Row) → (core_for generation row next).generation ≡ generation
unfolding core_for
core_generation generation next None = refl
core_generation generation next (Some row) = refl

pub generation_told : (layouts : Layouts) (group agino : ℕ) (core : Core) (o : Option Inode) → Some core ≡ core_told layouts group agino o → core.generation ≡ generation_of o
generation_told layouts group agino core None told = cc
generation_told layouts group agino core (Some inode) told =
    let same : core ≡ core_for inode.generation inode.row (next_of layouts group agino) = cc in
    ap (λ (c : Core). c.generation) same ∙ core_generation inode.generation (next_of layouts group agino) inode.row

pub none_told : (layouts : Layouts) (group agino : ℕ) (o : Option Inode) → None ≡ core_told layouts group agino o → is_unlinked o ≡ true → ⊥
none_told layouts group agino None told unlinked = cc
none_told layouts group agino (Some inode) told unlinked = cc

-- ---- one more key, and one more bucket

pub listed_at : (xs ys : List ℕ) (i : ℕ) → i < length xs → xs ≡ ys → Contains ys (get_or xs i 0)
listed_at xs ys i low same = subst (λ (l : List ℕ). Contains l (get_or xs i 0)) same (All-contains_itself xs i 0 low)

pub keys_more : (f : ℕ → Key) (members : List ℕ) (i x : ℕ) (keys : List Key) → i < length members → x ≡ get_or members i 0
    → (keys ++ map f (take i members)) ++ f x ∷ [] ≡ keys ++ map f (take (i + 1) members)
keys_more f members i x keys low is =
    append_assoc keys (map f (take i members)) (f x ∷ [])
    ∙ ap (λ (y : ℕ). keys ++ (map f (take i members) ++ f y ∷ [])) is
    ∙ ap (λ (l : List Key). keys ++ l) (sym (map-append f (take i members) (get_or members i 0 ∷ [])))
    ∙ ap (λ (l : List ℕ). keys ++ map f l) (sym (take_more members i 0 low))

range_more : (a n : ℕ) → range_with_len a (n + 1) ≡ range_with_len a n ++ (a + n) ∷ []
range_more a zero = let e : a ≡ a + 0 = omega arith in ap (λ (x : ℕ). x ∷ []) e
range_more a (suc n) =
    let e : a + 1 + n ≡ a + suc n = omega arith in
    let more : suc n + 1 ≡ suc (n + 1) = omega arith in
    ap (range_with_len a) more ∙ ap (λ (l : List ℕ). a ∷ l) (range_more (a + 1) n) ∙ ap (λ (x : ℕ). a ∷ (range_with_len (a + 1) n ++ x ∷ [])) e

pub buckets_more : (f : ℕ → List Key) (n : ℕ) → flat_map f (range_with_len 0 (n + 1)) ≡ flat_map f (range_with_len 0 n) ++ f n
buckets_more f n =
    let e : 0 + n ≡ n = omega arith in
    ap (λ (l : List ℕ). flat_map f l) (range_more 0 n)
    ∙ flat_map-append f (range_with_len 0 n) ((0 + n) ∷ [])
    ∙ ap (λ (l : List Key). flat_map f (range_with_len 0 n) ++ l) (append-nil (f (0 + n)))
    ∙ ap (λ (x : ℕ). flat_map f (range_with_len 0 n) ++ f x) e

pub orphans_are_all : (layouts : Layouts) (group n : ℕ) (chunks : Group) → n ≡ BUCKETS → flat_map (bucket_keys layouts group chunks) (range_with_len 0 n) ≡ orphan_keys layouts group chunks
unfolding orphan_keys
orphans_are_all layouts group n chunks e = ap (λ (k : ℕ). flat_map (bucket_keys layouts group chunks) (range_with_len 0 k)) e

-- ---- each key is that of a row without links

all_flat : (P : Key → Type 0) (f : ℕ → List Key) (a n : ℕ) → ((b : ℕ) → b < a + n → All P (f b)) → All P (flat_map f (range_with_len a n))
all_flat P f a zero each = All-nil P
all_flat P f a (suc n) each = All-append P (f a) (flat_map f (range_with_len (a + 1) n)) (each a (omega arith)) (all_flat P f (a + 1) n (λ b low. each b (omega arith)))

row_of_key : (t : Table) (group agino generation : ℕ) → agino < GROUP_NUMBERS
    → row_of t (record { number = number_in group agino; generation = generation }) ≡ row_in_life generation (inode_in (group_at t group) agino)
unfolding inode_of
row_of_key t group agino generation low =
    let high : number_in group agino / GROUP_NUMBERS ≡ group = omega (arith, low) in
    let part : number_in group agino % GROUP_NUMBERS ≡ agino = omega (arith, low) in
    ap (λ (g : ℕ). row_in_life generation (inode_in (group_at t g) (number_in group agino % GROUP_NUMBERS))) high
    ∙ ap (λ (n : ℕ). row_in_life generation (inode_in (group_at t group) n)) part

own_row : (o : Option Inode) → is_unlinked o ≡ true → is_unlinked_row (row_in_life (generation_of o) o) ≡ true
own_row None unlinked = cc
own_row (Some inode) unlinked =
    ap (λ (r : Option Row). is_unlinked_row r) (cond-true (eqb inode.generation inode.generation) inode.row None (eq-eqb inode.generation inode.generation refl)) ∙ unlinked

key_is : (t : Table) (group agino : ℕ) → agino < GROUP_NUMBERS → is_unlinked (inode_in (group_at t group) agino) ≡ true → is_unlinked_row (row_of t (key_in group (group_at t group) agino)) ≡ true
key_is t group agino low unlinked =
    ap (λ (r : Option Row). is_unlinked_row r) (row_of_key t group agino (generation_of (inode_in (group_at t group) agino)) low) ∙ own_row (inode_in (group_at t group) agino) unlinked

rows_are : (s : StateValue) (t : Table) (layouts : Layouts) → ShowsLists s t layouts → IsGroupOf s t layouts
    → All (λ (key : Key). is_unlinked_row (row_of t key) ≡ true) (flat_map (bucket_keys layouts s.group (group_at t s.group)) (range_with_len 0 BUCKETS))
rows_are s t layouts shows is =
    let P : Key → Type 0 = λ (key : Key). is_unlinked_row (row_of t key) ≡ true in
    let f : ℕ → Key = key_in s.group (group_at t s.group) in
    all_flat P (bucket_keys layouts s.group (group_at t s.group)) 0 BUCKETS
    (λ b small.
    let members : List ℕ = bucket_list layouts s.group b in
    All-map P f members (All-weaker (Contains members) (λ (x : ℕ). P (f x))
    (λ x listed.
    let member = member_is s t layouts is shows.inside b x (omega (arith, small)) listed in
    key_is t s.group x (shows.low x (unlinked_some (inode_in (group_at t s.group) x) member.unlinked)) member.unlinked)
    members (All-contains_itself members)))

-- ---- each such row is there once

times-cons : (b x : ℕ) (xs : List ℕ) → times b (x ∷ xs) ≡ cond (eqb b x) 1 0 + times b xs
unfolding times
times-cons b x xs = refl

times-nil : (b : ℕ) → times b [] ≡ 0
unfolding times
times-nil b = refl

times-append : (b : ℕ) (xs ys : List ℕ) → times b (xs ++ ys) ≡ times b xs + times b ys
times-append b [] ys = omega (arith, times-nil b)
times-append b (x ∷ xs) ys = omega (arith, times-cons b x (xs ++ ys), times-cons b x xs, times-append b xs ys)

numbers_of : (f : ℕ → List Key) (a n : ℕ) → map (λ (key : Key). key.number) (flat_map f (range_with_len a n)) ≡ flat_map (λ b. map (λ (key : Key). key.number) (f b)) (range_with_len a n)
numbers_of f a zero = refl
numbers_of f a (suc n) =
    let number : Key → ℕ = λ (key : Key). key.number in
    map-append number (f a) (flat_map f (range_with_len (a + 1) n)) ∙ ap (λ (l : List ℕ). map number (f a) ++ l) (numbers_of f (a + 1) n)

none_in : (f : ℕ → List ℕ) (x a n : ℕ) → ((b : ℕ) → a ≤ b → b < a + n → times x (f b) ≡ 0) → times x (flat_map f (range_with_len a n)) ≡ 0
none_in f x a zero none = times-nil x
none_in f x a (suc n) none =
    let rest = none_in f x (a + 1) n (λ b low high. none b (omega arith) (omega arith)) in
    omega (arith, times-append x (f a) (flat_map f (range_with_len (a + 1) n)), none a (omega arith) (omega arith), rest)

one_in : (f : ℕ → List ℕ) (x c v a n : ℕ) → ((b : ℕ) → b < a + n → b ≢ c → times x (f b) ≡ 0) → times x (f c) ≡ v → a ≤ c → c < a + n → times x (flat_map f (range_with_len a n)) ≡ v
one_in f x c v a zero none here low high = absurd (omega arith)
one_in f x c v a (suc n) none here low high =
    let all = times-append x (f a) (flat_map f (range_with_len (a + 1) n)) in
    elim (cases_eq a c) [
      | inl same ↦
          let rest = none_in f x (a + 1) n (λ b up top. none b (omega arith) (λ e. omega (arith, up, same, e))) in
          let first : times x (f a) ≡ v = ap (λ (b : ℕ). times x (f b)) same ∙ here in
          omega (arith, all, rest, first)
      | inr other ↦
          let rest = one_in f x c v (a + 1) n (λ b top ne. none b (omega arith) ne) here (omega (arith, low, other)) (omega arith) in
          omega (arith, all, rest, none a (omega arith) other)
    ]

-- a number of the group stands among the numbers of keys as often as in the list
times_numbers : (group : ℕ) (chunks : Group) (agino : ℕ) (members : List ℕ) → times (number_in group agino) (map (λ (key : Key). key.number) (map (key_in group chunks) members)) ≡ times agino members
times_numbers group chunks agino [] = times-nil (number_in group agino) ∙ sym (times-nil agino)
times_numbers group chunks agino (x ∷ xs) =
    let rest : List ℕ = map (λ (key : Key). key.number) (map (key_in group chunks) xs) in
    times-cons (number_in group agino) (number_in group x) rest
    ∙ ap (λ (n : ℕ). cond (eqb (number_in group agino) (number_in group x)) 1 0 + n) (times_numbers group chunks agino xs)
    ∙ elim (cases_eq agino x) [
      | inl same ↦
          let equal : number_in group agino ≡ number_in group x = ap (λ (n : ℕ). number_in group n) same in
          ap (λ (b : Bool). cond b 1 0 + times agino xs) (eq-eqb (number_in group agino) (number_in group x) equal ∙ sym (eq-eqb agino x same))
      | inr other ↦
          let apart : number_in group agino ≢ number_in group x = λ e. other (omega (arith, e)) in
          ap (λ (b : Bool). cond b 1 0 + times agino xs) (ne_eqb (number_in group agino) (number_in group x) apart ∙ sym (ne_eqb agino x other))
    ]
    ∙ sym (times-cons agino x xs)

once_are : (s : StateValue) (t : Table) (layouts : Layouts) (agino : ℕ) → ShowsLists s t layouts → IsGroupOf s t layouts
    → times (number_in s.group agino) (map (λ (key : Key). key.number) (flat_map (bucket_keys layouts s.group (group_at t s.group)) (range_with_len 0 BUCKETS)))
    ≡ cond (is_unlinked (inode_in (group_at t s.group) agino)) 1 0
once_are s t layouts agino shows is =
    let chunks : Group = group_at t s.group in
    let u : Bool = is_unlinked (inode_in chunks agino) in
    let f : ℕ → List ℕ = λ b. map (λ (key : Key). key.number) (bucket_keys layouts s.group chunks b) in
    let small : agino % BUCKETS < BUCKETS = omega arith in
    let counts : (b : ℕ) → b < BUCKETS → times (number_in s.group agino) (f b) ≡ cond (eqb (agino % BUCKETS) b && u) 1 0 = λ b low.
    times_numbers s.group chunks agino (bucket_list layouts s.group b) ∙ is.layouts_of.buckets s.group b agino shows.inside low in
    ap (times (number_in s.group agino)) (numbers_of (bucket_keys layouts s.group chunks) 0 BUCKETS)
    ∙ one_in f (number_in s.group agino) (agino % BUCKETS) (cond u 1 0) 0 BUCKETS
    (λ b low ne. counts b (omega (arith, low)) ∙ ap (λ (p : Bool). cond (p && u) 1 0) (ne_eqb (agino % BUCKETS) b (λ e. ne (sym e))))
    (counts (agino % BUCKETS) small ∙ ap (λ (p : Bool). cond (p && u) 1 0) (eq-eqb (agino % BUCKETS) (agino % BUCKETS) refl))
    (omega arith) (omega (arith, small))

pub orphans_are : (s : StateValue) (t : Table) (layouts : Layouts) → ShowsLists s t layouts → IsGroupOf s t layouts → AreOrphansOf t s.group (orphan_keys layouts s.group (group_at t s.group))
unfolding orphan_keys
orphans_are s t layouts shows is = record { rows = rows_are s t layouts shows is; once = λ agino low. once_are s t layouts agino shows is }
