-- The lowest key is that of the least free number.
use Rattle.std.proofs.Common.{◌≡◌, ◌==◌, ◌≤◌, ◌<◌, ◌+◌, ◌*◌, ◌/◌, ◌%◌, ◌⊎◌, ℕ, zero, suc, true, false, List, [], ◌∷◌, ◌++◌, Option, None, Some, if◌then◌else◌, slice_get, length, refl, ap, sym, subst, ◌∙◌, inl, inr, arith}
use Rattle.std.specs.Prelude.{IsSomeAnd, IsTrue, is_none, nat_lt}
use Rattle.std.specs.List.{AllByRecursion}
use Rattle.std.proofs.lemmas.Bool.{and_from, eqb-true, lt-ltb}
use Rattle.std.proofs.lemmas.Option.{none-some, same_Some, slice_get_within}
use Rattle.life_limits.specs.declared.TheConstants.{CHUNK_INODES, GROUP_NUMBERS, MAX_GENERATION}
use Rattle.life_table.specs.declared.key.Key.{Key}
use Rattle.life_table.specs.declared.table.Inode.{Inode}
use Rattle.life_table.specs.declared.table.Chunk.{Chunk}
use Rattle.life_table.specs.declared.table.Table.{Table}
use Rattle.life_table.specs.Table.{Group, group_at, inode_in, inode_of, start_of}
use Rattle.life_table.specs.Space.{IsFreeNumber, free_keys, is_free, keys_from, lowest_key}
use Rattle.life_table.specs.WellFormed.{ChunksAscend, IsChunk, IsTable}
use Rattle.life_table.proofs.Groups.{AllByRecursion-get}
use Rattle.life_table.proofs.Keys.{IsFreeAt-lowest, first_from}
use Rattle.life_table.proofs.Tables.{IsGroup-group_of}

-- some key at the head of these, whose number is at most so much
record HasHead (keys : List Key) (most : ℕ) : Type 0 where
  key : Key
  head : slice_get keys 0 ≡ Some key
  low : key.number ≤ most

first_low : (number : ℕ) (inodes : List Inode) (place : ℕ) (inode : Inode) → slice_get inodes place ≡ Some inode → is_free inode ≡ true → HasHead (keys_from number inodes) (number + place)
unfolding keys_from
first_low number [] place inode at free = absurd (none-some inode at)
first_low number (x ∷ xs) zero inode at free =
    let is : is_free x ≡ true = ap is_free (same_Some x inode at) ∙ free in
    let key : Key = record { number = number; generation = x.generation } in
    record {
      key = key;
      head = ap (λ c. slice_get (if c then key ∷ keys_from (number + 1) xs else keys_from (number + 1) xs) 0) is;
      low = omega arith;
    }
first_low number (x ∷ xs) (suc place) inode at free =
    let rest = first_low (number + 1) xs place inode at free in
    let low = rest.low in
    let key : Key = record { number = number; generation = x.generation } in
    elim (is_free x) as (λ c. HasHead (if c then key ∷ keys_from (number + 1) xs else keys_from (number + 1) xs) (number + suc place)) [
      | true ↦ record { key = key; head = refl; low = omega arith }
      | false ↦ record { key = rest.key; head = rest.head; low = omega arith }
    ]

head_here : (xs ys : List Key) (x : Key) → slice_get xs 0 ≡ Some x → slice_get (xs ++ ys) 0 ≡ Some x
head_here [] ys x at = absurd (none-some x at)
head_here (y ∷ xs) ys x at = at

head_either : (xs ys : List Key) (y : Key) → slice_get ys 0 ≡ Some y → ((x : Key) × (slice_get xs 0 ≡ Some x) × (slice_get (xs ++ ys) 0 ≡ Some x)) ⊎ (slice_get (xs ++ ys) 0 ≡ Some y)
head_either [] ys y at = inr at
head_either (x ∷ xs) ys y at = inl (x, refl, refl)

group_low : (g : ℕ) (group : Group) (where_ : ℕ) (chunk : Chunk) (place : ℕ) (inode : Inode) → ChunksAscend group → AllByRecursion IsChunk group → slice_get group where_ ≡ Some chunk
    → slice_get chunk.inodes place ≡ Some inode → is_free inode ≡ true → HasHead (free_keys g group) (g * GROUP_NUMBERS + chunk.start + place)
unfolding free_keys
group_low g [] where_ chunk place inode ascends all has at free = absurd (none-some chunk has)
group_low g (first ∷ chunks) zero chunk place inode ascends all has at free =
    let same : first ≡ chunk = same_Some first chunk has in
    let starts : first.start ≡ chunk.start = ap (λ (c : Chunk). c.start) same in
    let here = first_low (g * GROUP_NUMBERS + first.start) first.inodes place inode (ap (λ (c : Chunk). slice_get c.inodes place) same ∙ at) free in
    let low = here.low in
    record { key = here.key; head = head_here (keys_from (g * GROUP_NUMBERS + first.start) first.inodes) (free_keys g chunks) here.key here.head; low = omega arith }
group_low g (first ∷ chunks) (suc where_) chunk place inode ascends all has at free =
    let rest = group_low g chunks where_ chunk place inode ascends.1 all.1 has at free in
    let behind : first.start < chunk.start = AllByRecursion-get (λ (later : Chunk). first.start < later.start) chunks where_ chunk ascends.0 has in
    let own = all.0.start in
    let whole = all.0.whole in
    let starts = (AllByRecursion-get IsChunk chunks where_ chunk all.1 has).start in
    elim (head_either (keys_from (g * GROUP_NUMBERS + first.start) first.inodes) (free_keys g chunks) rest.key rest.head) [
      | inl here ↦
          let found = first_from (g * GROUP_NUMBERS + first.start) first.inodes here.0 here.1 in
          let named = found.named in
          let inside : found.place < length first.inodes = slice_get_within first.inodes found.place found.inode found.at in
          record { key = here.0; head = here.2; low = omega arith }
      | inr later ↦ record { key = rest.key; head = later; low = rest.low }
    ]

-- where an inode of a group stands
record Stood (group : Group) (agino : ℕ) (inode : Inode) : Type 0 where
  where_ : ℕ
  chunk : Chunk
  has : slice_get group where_ ≡ Some chunk
  start : chunk.start ≡ start_of agino
  at : slice_get chunk.inodes (agino % CHUNK_INODES) ≡ Some inode

stood : (group : Group) (agino : ℕ) (inode : Inode) → inode_in group agino ≡ Some inode → Stood group agino inode
unfolding inode_in
stood [] agino inode at = absurd (none-some inode at)
stood (chunk ∷ chunks) agino inode at =
    elim (chunk.start == start_of agino) as (λ c. (chunk.start == start_of agino) ≡ c
    → (if c then slice_get chunk.inodes (agino % CHUNK_INODES) else inode_in chunks agino) ≡ Some inode → Stood (chunk ∷ chunks) agino inode) [
      | true ↦ λ is here. record { where_ = 0; chunk = chunk; has = refl; start = eqb-true chunk.start (start_of agino) is; at = here }
      | false ↦ λ is here. let r = stood chunks agino inode here in record { where_ = suc r.where_; chunk = r.chunk; has = r.has; start = r.start; at = r.at }
    ] refl at

free_inode : (o : Option Inode) → IsSomeAnd o (λ inode. IsTrue (is_free inode)) → (inode : Inode) × (o ≡ Some inode) × (is_free inode ≡ true)
free_inode None h = absurd h
free_inode (Some inode) h = (inode, refl, h)

of_group : (t : Table) (n g : ℕ) → n / GROUP_NUMBERS ≡ g → inode_of t n ≡ inode_in (group_at t g) (n % GROUP_NUMBERS)
unfolding inode_of
of_group t n g e = ap (λ (k : ℕ). inode_in (group_at t k) (n % GROUP_NUMBERS)) e

pub key_low : (t : Table) (g n : ℕ) → ChunksAscend (group_at t g) → AllByRecursion IsChunk (group_at t g) → n / GROUP_NUMBERS ≡ g → IsFreeNumber t n
    → (key : Key) × (lowest_key g (group_at t g) ≡ Some key) × (key.number ≤ n)
key_low t g n ascends all in_it free =
    let f = free_inode (inode_of t n) free in
    let s = stood (group_at t g) (n % GROUP_NUMBERS) f.0 (sym (of_group t n g in_it) ∙ f.1) in
    let r = group_low g (group_at t g) s.where_ s.chunk (n % GROUP_NUMBERS % CHUNK_INODES) f.0 ascends all s.has s.at f.2 in
    let low = r.low in
    let start = s.start in
    (r.key, r.head, omega arith)

pub key_least : (t : Table) (g n : ℕ) (key : Key) → IsTable t → lowest_key g (group_at t g) ≡ Some key → n / GROUP_NUMBERS ≡ g → IsFreeNumber t n → key.number ≤ n
key_least t g n key is at in_it free =
    let group = IsGroup-group_of t g is in
    let r = key_low t g n group.ascends group.chunks in_it free in
    subst (λ (k : Key). k.number ≤ n) (same_Some r.0 key (sym r.1 ∙ at)) r.2

pub key_none : (t : Table) (g n : ℕ) → IsTable t → lowest_key g (group_at t g) ≡ None → n / GROUP_NUMBERS ≡ g → IsFreeNumber t n → ⊥
key_none t g n is at in_it free =
    let group = IsGroup-group_of t g is in
    let r = key_low t g n group.ascends group.chunks in_it free in
    none-some r.0 (sym at ∙ r.1)

and_free : (o : Option Inode) (inode : Inode) → o ≡ Some inode → is_free inode ≡ true → IsSomeAnd o (λ inode. IsTrue (is_free inode))
and_free o inode e free = subst (λ (x : Option Inode). IsSomeAnd x (λ inode. IsTrue (is_free inode))) (sym e) free

pub key_free : (t : Table) (g : ℕ) (key : Key) → IsTable t → lowest_key g (group_at t g) ≡ Some key → (key.number / GROUP_NUMBERS ≡ g) × IsFreeNumber t key.number
key_free t g key is at =
    let f = IsFreeAt-lowest t.blocks g (group_at t g) key is.most (IsGroup-group_of t g is) at in
    let free : is_free f.inode ≡ true = and_from (is_none f.inode.row) (nat_lt f.inode.generation MAX_GENERATION) (ap is_none f.row) (lt-ltb f.inode.generation MAX_GENERATION f.left) in
    (f.group_is, and_free (inode_of t key.number) f.inode (of_group t key.number g f.group_is ∙ f.at) free)
