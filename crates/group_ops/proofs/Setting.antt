-- One buffer of a group that is set, and the buffers of one chunk more.
use Rattle.std.proofs.Common.{◌≡◌, ◌≢◌, ◌<◌, ◌≤◌, ◌%◌, ℕ, zero, suc, eqb, List, [], ◌∷◌, Some, length, map, set, get_or, inl, inr, refl, ap, sym, ◌∙◌, arith, subst}
use Rattle.std.specs.Prelude.{slice_get, slice_set, nat_lt}
use Rattle.std.specs.List.{All, insert}
use Rattle.std.proofs.lemmas.Bool.{cases_lt, cases_eq, cond-true, cond-false, eq-eqb, ne_eqb, lt-ltb, le-ltb}
use Rattle.std.proofs.lemmas.Option.{none-some}
use Rattle.life_bytes.specs.declared.sector.Sector.{Sector}
use Rattle.life_table.specs.declared.table.Chunk.{Chunk}
use Rattle.life_table.specs.Table.{Group, start_of}
use Rattle.life_table.specs.WellFormed.{ChunksAscend}
use Rattle.group_ops.specs.Buffers.{AreBuffers, Buffers, BuffersAscend, buffer_in}
use Rattle.group_ops.specs.Changes.{insert_buffers, set_buffer}
use Rattle.group_ops.proofs.Finding.{buffer_first, buffer_later}
use Rattle.group_ops.proofs.Inodes.{all_get}
use Rattle.group_ops.proofs.RowLines.{as_many_buffers, start_of_chunk}

-- the buffers of a chunk with one that is set
abbrev pub with_sector : Buffers → ℕ → Sector → Buffers
with_sector c agino s = record { start = c.start; sectors = slice_set c.sectors (agino % 64) s }

pub set_first : (c : Buffers) (cs : List Buffers) (agino : ℕ) (s : Sector) → c.start ≡ start_of agino → set_buffer (c ∷ cs) agino s ≡ with_sector c agino s ∷ cs
unfolding set_buffer
set_first c cs agino s e = cond-true (eqb c.start (start_of agino)) (with_sector c agino s ∷ cs) (c ∷ set_buffer cs agino s) (eq-eqb c.start (start_of agino) e)

pub set_later : (c : Buffers) (cs : List Buffers) (agino : ℕ) (s : Sector) → c.start ≢ start_of agino → set_buffer (c ∷ cs) agino s ≡ c ∷ set_buffer cs agino s
unfolding set_buffer
set_later c cs agino s ne = cond-false (eqb c.start (start_of agino)) (with_sector c agino s ∷ cs) (c ∷ set_buffer cs agino s) (ne_eqb c.start (start_of agino) ne)

pub set_nil : (agino : ℕ) (s : Sector) → set_buffer [] agino s ≡ []
unfolding set_buffer
set_nil agino s = refl

-- at the place of its chunk
pub set_at : (chunks : List Buffers) (agino k : ℕ) (d : Buffers) (s : Sector) → BuffersAscend chunks → k < length chunks → (get_or chunks k d).start ≡ start_of agino
    → set chunks k (with_sector (get_or chunks k d) agino s) ≡ set_buffer chunks agino s
set_at [] agino k d s ascends low e = absurd (omega arith)
set_at (c ∷ cs) agino zero d s ascends low e = sym (set_first c cs agino s e)
set_at (c ∷ cs) agino (suc k) d s ascends low e =
    let up = ascends 0 (suc k) d (omega arith) low in
    ap (λ (l : List Buffers). c ∷ l) (set_at cs agino k d s (λ i j x lt h. ascends (suc i) (suc j) x (omega arith) (omega arith)) (omega arith) e)
    ∙ sym (set_later c cs agino s (λ same. omega (arith, up, same, e)))

-- nothing is set where no chunk has the number
pub set_none : (chunks : List Buffers) (agino : ℕ) (d : Buffers) (s : Sector) → ((k : ℕ) → k < length chunks → (get_or chunks k d).start ≢ start_of agino) → set_buffer chunks agino s ≡ chunks
set_none [] agino d s none = set_nil agino s
set_none (c ∷ cs) agino d s none = set_later c cs agino s (none 0 (omega arith)) ∙ ap (λ (l : List Buffers). c ∷ l) (set_none cs agino d s (λ k low. none (suc k) (omega arith)))

pub set_starts : (chunks : List Buffers) (agino : ℕ) (s : Sector) → map (λ (chunk : Buffers). chunk.start) (set_buffer chunks agino s) ≡ map (λ (chunk : Buffers). chunk.start) chunks
set_starts [] agino s = ap (λ (l : List Buffers). map (λ (chunk : Buffers). chunk.start) l) (set_nil agino s)
set_starts (c ∷ cs) agino s =
    elim (cases_eq c.start (start_of agino)) [
      | inl e ↦ ap (λ (l : List Buffers). map (λ (chunk : Buffers). chunk.start) l) (set_first c cs agino s e)
      | inr ne ↦ ap (λ (l : List Buffers). map (λ (chunk : Buffers). chunk.start) l) (set_later c cs agino s ne) ∙ ap (λ (l : List ℕ). c.start ∷ l) (set_starts cs agino s)
    ]

length_set : (xs : List Sector) (i : ℕ) (s : Sector) → length (slice_set xs i s) ≡ length xs
length_set [] i s = refl
length_set (x ∷ xs) zero s = refl
length_set (x ∷ xs) (suc i) s = ap (λ (n : ℕ). suc n) (length_set xs i s)

-- the buffers stay those of whole chunks
abbrev pub AreWhole : List Buffers → Type 0
AreWhole chunks = All (λ (chunk : Buffers). AreBuffers chunk.start chunk.sectors) chunks

whole_set : (c : Buffers) (agino : ℕ) (s : Sector) → AreBuffers c.start c.sectors → AreBuffers c.start (slice_set c.sectors (agino % 64) s)
whole_set c agino s are = record { aligned = are.aligned; whole = length_set c.sectors (agino % 64) s ∙ are.whole; low = are.low }

pub set_whole : (chunks : List Buffers) (agino : ℕ) (s : Sector) → AreWhole chunks → AreWhole (set_buffer chunks agino s)
set_whole [] agino s whole = subst AreWhole (sym (set_nil agino s)) whole
set_whole (c ∷ cs) agino s whole =
    let rest : AreWhole cs = λ k d low. whole (suc k) d (omega arith) in
    let own : AreBuffers c.start c.sectors = whole 0 c (omega arith) in
    elim (cases_eq c.start (start_of agino)) [
      | inl e ↦ subst AreWhole (sym (set_first c cs agino s e)) (whole_cons (with_sector c agino s) cs (whole_set c agino s own) rest)
      | inr ne ↦ subst AreWhole (sym (set_later c cs agino s ne)) (whole_cons c (set_buffer cs agino s) own (set_whole cs agino s rest))
    ]
  where
    whole_cons : (c : Buffers) (cs : List Buffers) → AreBuffers c.start c.sectors → AreWhole cs → AreWhole (c ∷ cs)
    whole_cons c cs own rest zero d low = own
    whole_cons c cs own rest (suc k) d low = rest k d (omega arith)

slice_get-set_same : (xs : List Sector) (i : ℕ) (old new : Sector) → slice_get xs i ≡ Some old → slice_get (slice_set xs i new) i ≡ Some new
slice_get-set_same [] i old new at = absurd (none-some old at)
slice_get-set_same (x ∷ xs) zero old new at = refl
slice_get-set_same (x ∷ xs) (suc i) old new at = slice_get-set_same xs i old new at

slice_get-set_other : (xs : List Sector) (i j : ℕ) (new : Sector) → i ≢ j → slice_get (slice_set xs i new) j ≡ slice_get xs j
slice_get-set_other [] i j new apart = refl
slice_get-set_other (x ∷ xs) zero zero new apart = absurd (apart refl)
slice_get-set_other (x ∷ xs) zero (suc j) new apart = refl
slice_get-set_other (x ∷ xs) (suc i) zero new apart = refl
slice_get-set_other (x ∷ xs) (suc i) (suc j) new apart = slice_get-set_other xs i j new (λ e. apart (ap suc e))

-- the buffer that was set is there
pub set_same : (chunks : List Buffers) (agino : ℕ) (old s : Sector) → buffer_in chunks agino ≡ Some old → buffer_in (set_buffer chunks agino s) agino ≡ Some s
unfolding buffer_in
set_same [] agino old s at = absurd (none-some old at)
set_same (c ∷ cs) agino old s at =
    elim (cases_eq c.start (start_of agino)) [
      | inl e ↦
          ap (λ (l : List Buffers). buffer_in l agino) (set_first c cs agino s e) ∙ buffer_first (with_sector c agino s) cs agino e
          ∙ slice_get-set_same c.sectors (agino % 64) old s (sym (buffer_first c cs agino e) ∙ at)
      | inr ne ↦
          ap (λ (l : List Buffers). buffer_in l agino) (set_later c cs agino s ne) ∙ buffer_later c (set_buffer cs agino s) agino ne
          ∙ set_same cs agino old s (sym (buffer_later c cs agino ne) ∙ at)
    ]

-- and all others are as before
pub set_other : (chunks : List Buffers) (agino other : ℕ) (s : Sector) → agino ≢ other → buffer_in (set_buffer chunks agino s) other ≡ buffer_in chunks other
set_other [] agino other s apart = ap (λ (l : List Buffers). buffer_in l other) (set_nil agino s)
set_other (c ∷ cs) agino other s apart =
    elim (cases_eq c.start (start_of agino)) [
      | inl e ↦ ap (λ (l : List Buffers). buffer_in l other) (set_first c cs agino s e) ∙ elim (cases_eq c.start (start_of other)) [
        | inl f ↦
            buffer_first (with_sector c agino s) cs other f
            ∙ slice_get-set_other c.sectors (agino % 64) (other % 64) s (λ places. apart (omega (arith, e, f, places)))
            ∙ sym (buffer_first c cs other f)
        | inr nf ↦ buffer_later (with_sector c agino s) cs other nf ∙ sym (buffer_later c cs other nf)
      ]
      | inr ne ↦ ap (λ (l : List Buffers). buffer_in l other) (set_later c cs agino s ne) ∙ elim (cases_eq c.start (start_of other)) [
        | inl f ↦ buffer_first c (set_buffer cs agino s) other f ∙ sym (buffer_first c cs other f)
        | inr nf ↦ buffer_later c (set_buffer cs agino s) other nf ∙ set_other cs agino other s apart ∙ sym (buffer_later c cs other nf)
      ]
    ]

-- buffers that start where others do ascend as these do
start_at : (xs ys : List Buffers) (k : ℕ) (d : Buffers) → map (λ (chunk : Buffers). chunk.start) xs ≡ map (λ (chunk : Buffers). chunk.start) ys → (get_or xs k d).start ≡ (get_or ys k d).start
start_at [] [] k d same = refl
start_at [] (y ∷ ys) k d same = cc
start_at (x ∷ xs) [] k d same = cc
start_at (x ∷ xs) (y ∷ ys) zero d same = cc
start_at (x ∷ xs) (y ∷ ys) (suc k) d same = let rest : map (λ (chunk : Buffers). chunk.start) xs ≡ map (λ (chunk : Buffers). chunk.start) ys = cc in start_at xs ys k d rest

as_many : (xs ys : List Buffers) → map (λ (chunk : Buffers). chunk.start) xs ≡ map (λ (chunk : Buffers). chunk.start) ys → length xs ≡ length ys
as_many [] [] same = refl
as_many [] (y ∷ ys) same = cc
as_many (x ∷ xs) [] same = cc
as_many (x ∷ xs) (y ∷ ys) same = let rest : map (λ (chunk : Buffers). chunk.start) xs ≡ map (λ (chunk : Buffers). chunk.start) ys = cc in ap (λ (n : ℕ). suc n) (as_many xs ys rest)

pub ascend_alike : (xs ys : List Buffers) → map (λ (chunk : Buffers). chunk.start) xs ≡ map (λ (chunk : Buffers). chunk.start) ys → BuffersAscend ys → BuffersAscend xs
ascend_alike xs ys same ascends i j d lt low =
    let first = start_at xs ys i d same in
    let second = start_at xs ys j d same in
    let many = as_many xs ys same in
    omega (arith, first, second, ascends i j d lt (omega (arith, low, many)))

pub set_ascends : (chunks : List Buffers) (agino : ℕ) (s : Sector) → BuffersAscend chunks → BuffersAscend (set_buffer chunks agino s)
set_ascends chunks agino s = ascend_alike (set_buffer chunks agino s) chunks (set_starts chunks agino s)

pub set_long : (chunks : List Buffers) (agino : ℕ) (s : Sector) → length (set_buffer chunks agino s) ≡ length chunks
set_long chunks agino s = as_many (set_buffer chunks agino s) chunks (set_starts chunks agino s)

-- ---- one chunk more

pub insert_front : (new c : Buffers) (cs : List Buffers) → new.start < c.start → insert_buffers new (c ∷ cs) ≡ new ∷ c ∷ cs
unfolding insert_buffers
insert_front new c cs below = cond-true (nat_lt new.start c.start) (new ∷ c ∷ cs) (c ∷ insert_buffers new cs) (lt-ltb new.start c.start below)

pub insert_behind : (new c : Buffers) (cs : List Buffers) → c.start ≤ new.start → insert_buffers new (c ∷ cs) ≡ c ∷ insert_buffers new cs
unfolding insert_buffers
insert_behind new c cs above = cond-false (nat_lt new.start c.start) (new ∷ c ∷ cs) (c ∷ insert_buffers new cs) (le-ltb new.start c.start above)

pub insert_none : (new : Buffers) → insert_buffers new [] ≡ new ∷ []
unfolding insert_buffers
insert_none new = refl

pub insert_place : (new : Buffers) (xs : List Buffers) (i : ℕ) (d : Buffers) → i ≤ length xs → ((k : ℕ) → k < i → (get_or xs k d).start ≤ new.start)
    → ((k : ℕ) → i ≤ k → k < length xs → new.start < (get_or xs k d).start) → insert xs i new ≡ insert_buffers new xs
insert_place new [] zero d within below above = sym (insert_none new)
insert_place new [] (suc i) d within below above = absurd (omega arith)
insert_place new (x ∷ xs) zero d within below above = sym (insert_front new x xs (above 0 (omega arith) (omega arith)))
insert_place new (x ∷ xs) (suc i) d within below above =
    ap (λ (l : List Buffers). x ∷ l) (insert_place new xs i d (omega arith) (λ k h. below (suc k) (omega arith)) (λ k l h. above (suc k) (omega arith) (omega arith)))
    ∙ sym (insert_behind new x xs (below 0 (omega arith)))

pub insert_long : (new : Buffers) (xs : List Buffers) → length (insert_buffers new xs) ≡ suc (length xs)
insert_long new [] = ap (λ (l : List Buffers). length l) (insert_none new)
insert_long new (x ∷ xs) =
    elim (cases_lt new.start x.start) [
      | inl below ↦ ap (λ (l : List Buffers). length l) (insert_front new x xs below)
      | inr above ↦ ap (λ (l : List Buffers). length l) (insert_behind new x xs above) ∙ ap (λ (n : ℕ). suc n) (insert_long new xs)
    ]

pub insert_whole : (new : Buffers) (xs : List Buffers) → AreBuffers new.start new.sectors → AreWhole xs → AreWhole (insert_buffers new xs)
insert_whole new [] own whole = subst AreWhole (sym (insert_none new)) (λ k d low. one k d low)
  where
    one : (k : ℕ) (d : Buffers) → k < length (new ∷ []) → AreBuffers (get_or (new ∷ []) k d).start (get_or (new ∷ []) k d).sectors
    one zero d low = own
    one (suc k) d low = absurd (omega arith)
insert_whole new (x ∷ xs) own whole =
    elim (cases_lt new.start x.start) [
      | inl below ↦ subst AreWhole (sym (insert_front new x xs below)) (in_front whole)
      | inr above ↦ subst AreWhole (sym (insert_behind new x xs above)) (behind (insert_whole new xs own (λ k d low. whole (suc k) d (omega arith))))
    ]
  where
    in_front : AreWhole (x ∷ xs) → AreWhole (new ∷ x ∷ xs)
    in_front all zero d low = own
    in_front all (suc k) d low = all k d (omega arith)

    behind : AreWhole (insert_buffers new xs) → AreWhole (x ∷ insert_buffers new xs)
    behind all zero d low = whole 0 x (omega arith)
    behind all (suc k) d low = all k d (omega arith)

-- chunks of a well-formed table ascend, and so do buffers that start where they do
pub chunk_below : (chunks : Group) (i j : ℕ) (d : Chunk) → ChunksAscend chunks → i < j → j < length chunks → (get_or chunks i d).start < (get_or chunks j d).start
chunk_below [] i j d ascends lt low = absurd (omega arith)
chunk_below (c ∷ cs) i zero d ascends lt low = absurd (omega arith)
chunk_below (c ∷ cs) zero (suc j) d ascends lt low = all_get (λ (later : Chunk). c.start < later.start) cs j d ascends.0 (omega arith)
chunk_below (c ∷ cs) (suc i) (suc j) d ascends lt low = chunk_below cs i j d ascends.1 (omega arith) (omega arith)

pub ascend_with_chunks : (buffers : List Buffers) (chunks : Group) → map (λ (chunk : Buffers). chunk.start) buffers ≡ map (λ (chunk : Chunk). chunk.start) chunks → ChunksAscend chunks → BuffersAscend buffers
ascend_with_chunks buffers chunks same ascends i j d lt low =
    let e : Chunk = record { start = 0; inodes = [] } in
    let many = as_many_buffers buffers chunks same in
    let first = start_of_chunk buffers chunks i d e same (omega (arith, lt, low)) in
    let second = start_of_chunk buffers chunks j d e same low in
    omega (arith, first, second, chunk_below chunks i j e ascends lt (omega (arith, low, many)))
