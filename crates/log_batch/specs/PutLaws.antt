-- An element put in its place, in a list in the order of a key.
use Rattle.std.proofs.Common.{◌≡◌, ℕ, zero, suc, ◌+◌, ◌<◌, ◌≤◌, List, [], ◌∷◌, length, map, set, get_or, refl, sym, ap, ◌∙◌, inl, inr, arith}
use Rattle.std.specs.List.{All, insert}
use Rattle.std.proofs.lemmas.Bool.{cases_lt}
use Rattle.std.proofs.lemmas.Bool.Decides.{nat_tests}
use Rattle.std.proofs.lemmas.List.Elements.{All-cons, All-head, All-tail}
use Rattle.std.specs.Prelude.{Result, Ok, Err, MatchResult}
use Rattle.std.specs.List.Sorted.{IsSearchInRange, IsBinarySearchResult, IsNonDecreasingBy}
use Rattle.std.specs.Ordering.{nat_cmp, ordering_index}
use Rattle.std.proofs.lemmas.Cmp.{ranked}
use Rattle.log_batch.specs.Put.{put_by, IsAt, IsGap, KeysRise}

pub put_front : {X : Type 0} (key : X → ℕ) (x y : X) (ys : List X) → key x < key y → put_by key x (y ∷ ys) ≡ x ∷ (y ∷ ys)
put_front key x y ys below = grind (arith, nat_tests)

pub put_over : {X : Type 0} (key : X → ℕ) (x y : X) (ys : List X) → key x ≡ key y → put_by key x (y ∷ ys) ≡ x ∷ ys
put_over key x y ys same = grind (arith, nat_tests)

pub put_behind : {X : Type 0} (key : X → ℕ) (x y : X) (ys : List X) → key y < key x → put_by key x (y ∷ ys) ≡ y ∷ put_by key x ys
put_behind key x y ys above = grind (arith, nat_tests)

-- the keys of a list that rises from a number on are not below it
rises_at : {X : Type 0} (key : X → ℕ) (low : ℕ) (xs : List X) (i : ℕ) (d : X) → KeysRise key low xs → i < length xs → low ≤ key (get_or xs i d)
rises_at key low [] i d rise within = absurd (omega arith)
rises_at key low (x ∷ xs) zero d rise within = rise.0
rises_at key low (x ∷ xs) (suc i) d rise within = let above = rises_at key (key x + 1) xs i d rise.1 (omega arith) in omega (arith, rise.0)

-- a list that rises from a number on rises from a lower one
pub rises_lower : {X : Type 0} (key : X → ℕ) (low lower : ℕ) (xs : List X) → lower ≤ low → KeysRise key low xs → KeysRise key lower xs
rises_lower key low lower [] le rise = tt
rises_lower key low lower (x ∷ xs) le rise = (omega (arith, rise.0), rise.1)

-- a write over the element of the same key
pub put-set : {X : Type 0} (key : X → ℕ) (x : X) (low : ℕ) (xs : List X) (i : ℕ) (d : X) → KeysRise key low xs → i < length xs
    → key (get_or xs i d) ≡ key x → set xs i x ≡ put_by key x xs
put-set key x low [] i d rise within same = absurd (omega arith)
put-set key x low (y ∷ ys) zero d rise within same = sym (put_over key x y ys (sym same))
put-set key x low (y ∷ ys) (suc i) d rise within same =
    let above = rises_at key (key y + 1) ys i d rise.1 (omega arith) in
    ap (λ rest. y ∷ rest) (put-set key x (key y + 1) ys i d rise.1 (omega arith) same) ∙ sym (put_behind key x y ys (omega arith))

-- an insert in front of the greater keys
pub put-insert : {X : Type 0} (key : X → ℕ) (x : X) (xs : List X) (i : ℕ) (d : X) → i ≤ length xs
    → ((k : ℕ) → k < i → key (get_or xs k d) < key x) → ((k : ℕ) → i ≤ k → k < length xs → key x < key (get_or xs k d))
    → insert xs i x ≡ put_by key x xs
put-insert key x [] zero d within below above = refl
put-insert key x [] (suc i) d within below above = absurd (omega arith)
put-insert key x (y ∷ ys) zero d within below above = sym (put_front key x y ys (above 0 (omega arith) (omega arith)))
put-insert key x (y ∷ ys) (suc i) d within below above =
    ap (λ rest. y ∷ rest) (put-insert key x ys i d (omega arith) (λ k h. below (suc k) (omega arith)) (λ k l h. above (suc k) (omega arith) (omega arith)))
    ∙ sym (put_behind key x y ys (below 0 (omega arith)))

-- the list still rises
pub Rises-put : {X : Type 0} (key : X → ℕ) (x : X) (low : ℕ) (xs : List X) → KeysRise key low xs → low ≤ key x → KeysRise key low (put_by key x xs)
Rises-put key x low [] rise le = (le, tt)
Rises-put key x low (y ∷ ys) rise le =
    elim (cases_lt (key x) (key y)) [
      | inl front ↦ rw (put_front key x y ys front) (le, (omega arith, rise.1))
      | inr behind ↦ elim (cases_lt (key y) (key x)) [
        | inl above ↦ rw (put_behind key x y ys above) (rise.0, Rises-put key x (key y + 1) ys rise.1 (omega arith))
        | inr under ↦
            let same : key x ≡ key y = omega arith in
            rw (put_over key x y ys same) (le, rw same rise.1)
      ]
    ]

-- it is as long, or longer by one
pub length-put : {X : Type 0} (key : X → ℕ) (x : X) (xs : List X) → (length xs ≤ length (put_by key x xs)) × (length (put_by key x xs) ≤ length xs + 1)
length-put key x [] = (omega arith, omega arith)
length-put key x (y ∷ ys) =
    elim (cases_lt (key x) (key y)) [
      | inl front ↦ rw (put_front key x y ys front) (omega arith, omega arith)
      | inr behind ↦ elim (cases_lt (key y) (key x)) [
        | inl above ↦ let rest = length-put key x ys in rw (put_behind key x y ys above) (omega arith, omega arith)
        | inr under ↦ let same : key x ≡ key y = omega arith in rw (put_over key x y ys same) (omega arith, omega arith)
      ]
    ]

-- and not empty
pub put_some : {X : Type 0} (key : X → ℕ) (x : X) (xs : List X) → 0 < length (put_by key x xs)
put_some key x [] = omega arith
put_some key x (y ∷ ys) = let sizes = length-put key x (y ∷ ys) in omega (arith, sizes.0)

-- what holds of each holds of each still
pub All-put : {X : Type 0} (P : X → Type 0) (key : X → ℕ) (x : X) (xs : List X) → P x → All P xs → All P (put_by key x xs)
All-put P key x [] one all = All-cons P x [] one all
All-put P key x (y ∷ ys) one all =
    elim (cases_lt (key x) (key y)) [
      | inl front ↦ rw (put_front key x y ys front) (All-cons P x (y ∷ ys) one all)
      | inr behind ↦ elim (cases_lt (key y) (key x)) [
        | inl above ↦ rw (put_behind key x y ys above) (All-cons P y (put_by key x ys) (All-head P y ys all) (All-put P key x ys one (All-tail P y ys all)))
        | inr under ↦ let same : key x ≡ key y = omega arith in rw (put_over key x y ys same) (All-cons P x ys one (All-tail P y ys all))
      ]
    ]

-- a function that keeps keys
pub map-put : {X Y : Type 0} (f : X → Y) (key : X → ℕ) (other : Y → ℕ) (x : X) (xs : List X) → other (f x) ≡ key x
    → All (λ y. other (f y) ≡ key y) xs → map f (put_by key x xs) ≡ put_by other (f x) (map f xs)
map-put f key other x [] one all = refl
map-put f key other x (y ∷ ys) one all =
    let here : other (f y) ≡ key y = All-head (λ z. other (f z) ≡ key z) y ys all in
    elim (cases_lt (key x) (key y)) [
      | inl front ↦ ap (map f) (put_front key x y ys front) ∙ sym (put_front other (f x) (f y) (map f ys) (omega arith))
      | inr behind ↦ elim (cases_lt (key y) (key x)) [
        | inl above ↦ ap (map f) (put_behind key x y ys above)
            ∙ ap (λ rest. f y ∷ rest) (map-put f key other x ys one (All-tail (λ z. other (f z) ≡ key z) y ys all))
            ∙ sym (put_behind other (f x) (f y) (map f ys) (omega arith))
        | inr under ↦ let same : key x ≡ key y = omega arith in
            ap (map f) (put_over key x y ys same) ∙ sym (put_over other (f x) (f y) (map f ys) (omega arith))
      ]
    ]

-- ---- searches

-- the keys of a list that rises do not fall
rises_along : {X : Type 0} (key : X → ℕ) (low : ℕ) (xs : List X) (i j : ℕ) (d : X) → KeysRise key low xs → i ≤ j → j < length xs
    → key (get_or xs i d) ≤ key (get_or xs j d)
rises_along key low [] i j d rise le within = absurd (omega arith)
rises_along key low (x ∷ xs) zero zero d rise le within = omega arith
rises_along key low (x ∷ xs) zero (suc j) d rise le within = let above = rises_at key (key x + 1) xs j d rise.1 (omega arith) in omega arith
rises_along key low (x ∷ xs) (suc i) zero d rise le within = absurd (omega arith)
rises_along key low (x ∷ xs) (suc i) (suc j) d rise le within = rises_along key (key x + 1) xs i j d rise.1 (omega arith) (omega arith)

comparisons_rise : {X : Type 0} (key : X → ℕ) (xs : List X) (k : ℕ) → KeysRise key 0 xs → IsNonDecreasingBy (λ x. ordering_index (nat_cmp (key x) k)) xs
comparisons_rise key xs k rise i j d le within =
    let up = rises_along key 0 xs i j d rise le within in grind (arith, nat_tests)

-- a binary search by key ends at the key, or at the gap for it
pub searched : {X : Type 0} (key : X → ℕ) (xs : List X) (k : ℕ) (r : Result ℕ ℕ) → KeysRise key 0 xs → IsSearchInRange r (length xs)
    → IsBinarySearchResult (λ x. nat_cmp (key x) k) xs r → MatchResult r (IsAt key xs k) (IsGap key xs k)
searched key xs k (Ok at) rise within equal = record { within = within; same = λ d. ranked _ k _ (sym (equal d)) }
searched key xs k (Err at) rise within parted =
    let parts = parted (comparisons_rise key xs k rise) in record {
      within = within;
      before = λ j d lt. ranked _ k _ (sym (parts.0 j d (omega arith) lt));
      behind = λ j d le lt. ranked _ k _ (sym (parts.1 j d le lt));
    }
