-- What lists made from a list are, while the list is gone through: what was found, and what is made from the rest.
use Rattle.std.proofs.Common.{◌≡◌, ◌+◌, ◌≤◌, ◌++◌, ◌∷◌, ℕ, zero, suc, true, false, List, [], Some, drop, length, map, slice_get, refl, sym, ap, ◌∙◌, append-nil, append_assoc, arith}
use Rattle.std.proofs.lemmas.Option.{none-some, same_Some}
use Rattle.life_table.specs.declared.key.Key.{Key}
use Rattle.life_table.specs.declared.table.Chunk.{Chunk}
use Rattle.life_table.specs.declared.table.Inode.{Inode}
use Rattle.life_table.specs.Table.{Group}
use Rattle.actor_world.specs.declared.memory.Slot.{Slot}
use Rattle.actor_world.specs.Caches.{clean_numbers, copied_slot, is_clean}
use Rattle.actor_world.specs.Moves.{awaiting_from, is_awaiting_row}
use Rattle.plain_moves.specs.Parts.{awaiting_among}

-- the rest of a list from a place on begins with what stands there
pub rest_from : {T : Type 0} (i : ℕ) (xs : List T) (x : T) → slice_get xs i ≡ Some x → drop i xs ≡ x ∷ drop (i + 1) xs
rest_from i [] x at = absurd (none-some x at)
rest_from zero (y ∷ xs) x at = ap (λ z. z ∷ xs) (same_Some y x at)
rest_from (suc i) (y ∷ xs) x at =
    let e : suc (i + 1) ≡ suc i + 1 = omega arith in
    rest_from i xs x at ∙ ap (λ n. x ∷ drop n (y ∷ xs)) e

-- behind the last place there is none
pub rest_past : {T : Type 0} (i : ℕ) (xs : List T) → length xs ≤ i → drop i xs ≡ []
rest_past zero [] high = refl
rest_past (suc i) [] high = refl
rest_past zero (x ∷ xs) high = absurd (omega arith)
rest_past (suc i) (x ∷ xs) high = rest_past i xs (omega arith)

-- ---- keys that await

awaiting-none : (n : ℕ) (inode : Inode) (inodes : List Inode) → is_awaiting_row inode.row ≡ false
    → awaiting_from n (inode ∷ inodes) ≡ awaiting_from (n + 1) inodes
unfolding awaiting_from
awaiting-none n inode inodes test = rw test refl

awaiting-one : (n : ℕ) (inode : Inode) (inodes : List Inode) → is_awaiting_row inode.row ≡ true
    → awaiting_from n (inode ∷ inodes) ≡ record { number = n; generation = inode.generation } ∷ awaiting_from (n + 1) inodes
unfolding awaiting_from
awaiting-one n inode inodes test = rw test refl

pub awaiting-passed : (keys whole : List Key) (n i : ℕ) (inodes : List Inode) (inode : Inode) → slice_get inodes i ≡ Some inode
    → is_awaiting_row inode.row ≡ false → keys ++ awaiting_from (n + i) (drop i inodes) ≡ whole
    → keys ++ awaiting_from (n + (i + 1)) (drop (i + 1) inodes) ≡ whole
awaiting-passed keys whole n i inodes inode at test before =
    let e : n + (i + 1) ≡ n + i + 1 = omega arith in
    ap (λ k. keys ++ awaiting_from k (drop (i + 1) inodes)) e
    ∙ sym (ap (λ xs. keys ++ xs) (ap (awaiting_from (n + i)) (rest_from i inodes inode at) ∙ awaiting-none (n + i) inode (drop (i + 1) inodes) test))
    ∙ before

pub awaiting-found : (keys whole : List Key) (n i : ℕ) (inodes : List Inode) (inode : Inode) → slice_get inodes i ≡ Some inode
    → is_awaiting_row inode.row ≡ true → keys ++ awaiting_from (n + i) (drop i inodes) ≡ whole
    → (keys ++ record { number = n + i; generation = inode.generation } ∷ []) ++ awaiting_from (n + (i + 1)) (drop (i + 1) inodes) ≡ whole
awaiting-found keys whole n i inodes inode at test before =
    let e : n + (i + 1) ≡ n + i + 1 = omega arith in
    let key : Key = record { number = n + i; generation = inode.generation } in
    append_assoc keys (key ∷ []) (awaiting_from (n + (i + 1)) (drop (i + 1) inodes))
    ∙ ap (λ k. keys ++ key ∷ awaiting_from k (drop (i + 1) inodes)) e
    ∙ sym (ap (λ xs. keys ++ xs) (ap (awaiting_from (n + i)) (rest_from i inodes inode at) ∙ awaiting-one (n + i) inode (drop (i + 1) inodes) test))
    ∙ before

pub awaiting-past : (keys whole : List Key) (n i : ℕ) (inodes : List Inode) → length inodes ≤ i
    → keys ++ awaiting_from (n + i) (drop i inodes) ≡ whole → keys ≡ whole
unfolding awaiting_from
awaiting-past keys whole n i inodes high before =
    sym (append-nil keys) ∙ sym (ap (λ xs. keys ++ awaiting_from (n + i) xs) (rest_past i inodes high)) ∙ before

pub among-next : (keys whole : List Key) (n i : ℕ) (group : Group) (chunk : Chunk) → slice_get group i ≡ Some chunk
    → keys ++ awaiting_among n (drop i group) ≡ whole
    → (keys ++ awaiting_from (n + chunk.start) chunk.inodes) ++ awaiting_among n (drop (i + 1) group) ≡ whole
among-next keys whole n i group chunk at before =
    append_assoc keys (awaiting_from (n + chunk.start) chunk.inodes) (awaiting_among n (drop (i + 1) group))
    ∙ sym (ap (λ xs. keys ++ awaiting_among n xs) (rest_from i group chunk at)) ∙ before

pub among-past : (keys whole : List Key) (n i : ℕ) (group : Group) → length group ≤ i
    → keys ++ awaiting_among n (drop i group) ≡ whole → keys ≡ whole
among-past keys whole n i group high before =
    sym (append-nil keys) ∙ sym (ap (λ xs. keys ++ awaiting_among n xs) (rest_past i group high)) ∙ before

-- ---- clean inodes

clean-none : (n : ℕ) (slot : Slot) (slots : List Slot) → is_clean slot.inode ≡ false → clean_numbers n (slot ∷ slots) ≡ clean_numbers (n + 1) slots
unfolding clean_numbers
clean-none n slot slots test = rw test refl

clean-one : (n : ℕ) (slot : Slot) (slots : List Slot) → is_clean slot.inode ≡ true → clean_numbers n (slot ∷ slots) ≡ n ∷ clean_numbers (n + 1) slots
unfolding clean_numbers
clean-one n slot slots test = rw test refl

pub clean-passed : (numbers whole : List ℕ) (n i : ℕ) (slots : List Slot) (slot : Slot) → slice_get slots i ≡ Some slot
    → is_clean slot.inode ≡ false → numbers ++ clean_numbers (n + i) (drop i slots) ≡ whole
    → numbers ++ clean_numbers (n + (i + 1)) (drop (i + 1) slots) ≡ whole
clean-passed numbers whole n i slots slot at test before =
    let e : n + (i + 1) ≡ n + i + 1 = omega arith in
    ap (λ k. numbers ++ clean_numbers k (drop (i + 1) slots)) e
    ∙ sym (ap (λ xs. numbers ++ xs) (ap (clean_numbers (n + i)) (rest_from i slots slot at) ∙ clean-none (n + i) slot (drop (i + 1) slots) test))
    ∙ before

pub clean-found : (numbers whole : List ℕ) (n i : ℕ) (slots : List Slot) (slot : Slot) → slice_get slots i ≡ Some slot
    → is_clean slot.inode ≡ true → numbers ++ clean_numbers (n + i) (drop i slots) ≡ whole
    → (numbers ++ (n + i) ∷ []) ++ clean_numbers (n + (i + 1)) (drop (i + 1) slots) ≡ whole
clean-found numbers whole n i slots slot at test before =
    let e : n + (i + 1) ≡ n + i + 1 = omega arith in
    append_assoc numbers ((n + i) ∷ []) (clean_numbers (n + (i + 1)) (drop (i + 1) slots))
    ∙ ap (λ k. numbers ++ (n + i) ∷ clean_numbers k (drop (i + 1) slots)) e
    ∙ sym (ap (λ xs. numbers ++ xs) (ap (clean_numbers (n + i)) (rest_from i slots slot at) ∙ clean-one (n + i) slot (drop (i + 1) slots) test))
    ∙ before

pub clean-past : (numbers whole : List ℕ) (n i : ℕ) (slots : List Slot) → length slots ≤ i
    → numbers ++ clean_numbers (n + i) (drop i slots) ≡ whole → numbers ≡ whole
unfolding clean_numbers
clean-past numbers whole n i slots high before =
    sym (append-nil numbers) ∙ sym (ap (λ xs. numbers ++ clean_numbers (n + i) xs) (rest_past i slots high)) ∙ before

-- ---- slots that are copied

pub copied-next : (copy whole : List Slot) (i : ℕ) (slots : List Slot) (slot : Slot) → slice_get slots i ≡ Some slot
    → copy ++ map copied_slot (drop i slots) ≡ whole → (copy ++ copied_slot slot ∷ []) ++ map copied_slot (drop (i + 1) slots) ≡ whole
copied-next copy whole i slots slot at before =
    append_assoc copy (copied_slot slot ∷ []) (map copied_slot (drop (i + 1) slots))
    ∙ sym (ap (λ xs. copy ++ map copied_slot xs) (rest_from i slots slot at)) ∙ before

pub copied-past : (copy whole : List Slot) (i : ℕ) (slots : List Slot) → length slots ≤ i
    → copy ++ map copied_slot (drop i slots) ≡ whole → copy ≡ whole
copied-past copy whole i slots high before =
    sym (append-nil copy) ∙ sym (ap (λ xs. copy ++ map copied_slot xs) (rest_past i slots high)) ∙ before
