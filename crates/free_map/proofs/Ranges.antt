-- What a test keeps of a range of numbers.
use Rattle.std.proofs.Common.{◌≡◌, ◌≢◌, ◌<◌, ◌≤◌, ◌+◌, ◌-◌, ℕ, zero, suc, Bool, true, false, cond, List, [], ◌∷◌, ◌++◌, length, get_or, map, refl, ap, sym, ◌∙◌, arith, subst}
use Rattle.std.specs.List.{range_with_len, filter, count_by}
use Rattle.std.specs.Prelude.{sum}
use Rattle.std.proofs.lemmas.List.FromFn.{fill_by_all}
use Rattle.std.proofs.lemmas.List.Sums.{sum-map}

-- a range in two parts
pub range-append : (a m n : ℕ) → range_with_len a (m + n) ≡ range_with_len a m ++ range_with_len (a + m) n
range-append a zero n = omega_range a n
  where
    omega_range : (a n : ℕ) → range_with_len a (0 + n) ≡ range_with_len (a + 0) n
    omega_range a n = let e : 0 + n ≡ n = omega arith in let f : a + 0 ≡ a = omega arith in rw (e, f) refl
range-append a (suc m) n =
    let e : suc m + n ≡ suc (m + n) = omega arith in
    let f : a + suc m ≡ a + 1 + m = omega arith in
    rw (e, f) (ap (λ (xs : List ℕ). a ∷ xs) (range-append (a + 1) m n))

-- two tests that agree on a range keep the same of it
pub filter-range_agree : (p q : ℕ → Bool) (a n : ℕ) → ((i : ℕ) → a ≤ i → i < a + n → p i ≡ q i) → filter p (range_with_len a n) ≡ filter q (range_with_len a n)
filter-range_agree p q a zero h = refl
filter-range_agree p q a (suc n) h =
    let here : p a ≡ q a = h a (omega arith) (omega arith) in
    let rest : filter p (range_with_len (a + 1) n) ≡ filter q (range_with_len (a + 1) n) = filter-range_agree p q (a + 1) n (λ i l u. h i (omega arith) (omega arith)) in
    rw (here, rest) refl

-- a test that fails on a range keeps nothing of it
pub filter-range_none : (p : ℕ → Bool) (a n : ℕ) → ((i : ℕ) → a ≤ i → i < a + n → p i ≡ false) → filter p (range_with_len a n) ≡ []
filter-range_none p a zero h = refl
filter-range_none p a (suc n) h =
    let here : p a ≡ false = h a (omega arith) (omega arith) in
    let rest : filter p (range_with_len (a + 1) n) ≡ [] = filter-range_none p (a + 1) n (λ i l u. h i (omega arith) (omega arith)) in
    rw (here) rest

-- p holds first at a + t, and q is p without that place
pub filter-range_first : (p q : ℕ → Bool) (a n t : ℕ) → t < n
    → ((i : ℕ) → i < t → p (a + i) ≡ false) → p (a + t) ≡ true → q (a + t) ≡ false
    → ((i : ℕ) → i < n → i ≢ t → q (a + i) ≡ p (a + i))
    → filter p (range_with_len a n) ≡ (a + t) ∷ filter q (range_with_len a n)
filter-range_first p q a zero t l before here gone others = absurd (omega arith)
filter-range_first p q a (suc n) zero l before here gone others =
    let e : a + 0 ≡ a = omega arith in
    let yes : p a ≡ true = subst (λ (x : ℕ). p x ≡ true) e here in
    let no : q a ≡ false = subst (λ (x : ℕ). q x ≡ false) e gone in
    let rest : filter p (range_with_len (a + 1) n) ≡ filter q (range_with_len (a + 1) n) =
    filter-range_agree p q (a + 1) n (λ i l u.
    let f : a + (i - a) ≡ i = omega arith in
    sym (subst (λ (x : ℕ). q x ≡ p x) f (others (i - a) (omega arith) (omega arith)))) in
    rw (yes, no, e, rest) refl
filter-range_first p q a (suc n) (suc t) l before here gone others =
    let e : a + 0 ≡ a = omega arith in
    let no : p a ≡ false = subst (λ (x : ℕ). p x ≡ false) e (before 0 (omega arith)) in
    let same : q a ≡ p a = subst (λ (x : ℕ). q x ≡ p x) e (others 0 (omega arith) (omega arith)) in
    let shift : (i : ℕ) → a + 1 + i ≡ a + suc i = λ i. omega arith in
    let ih : filter p (range_with_len (a + 1) n) ≡ (a + 1 + t) ∷ filter q (range_with_len (a + 1) n) =
    filter-range_first p q (a + 1) n t (omega arith)
    (λ i h. rw (shift i) (before (suc i) (omega arith)))
    (rw (shift t) here) (rw (shift t) gone)
    (λ i h d. rw (shift i) (others (suc i) (omega arith) (omega arith))) in
    rw (same, no, ih, shift t) refl

-- a count over what a function gives
count-map : (f : ℕ → Bool) (ns : List ℕ) → count_by f ns ≡ count_by (λ b. b) (map f ns)
count-map f ns = sym (sum-map (λ n. cond (f n) 1 0) ns) ∙ ap sum (again ns) ∙ sum-map (λ b. cond b 1 0) (map f ns)
  where
    again : (ns : List ℕ) → map {B = ℕ} (λ n. cond (f n) 1 0) ns ≡ map {B = ℕ} (λ b. cond b 1 0) (map f ns)
    again [] = refl
    again (n ∷ ns) = ap (λ (xs : List ℕ). cond (f n) 1 0 ∷ xs) (again ns)

-- a list by its places
pub count-range : (xs : List Bool) → count_by (λ b. get_or xs b false) (range_with_len 0 (length xs)) ≡ count_by (λ f. f) xs
count-range xs = count-map (λ b. get_or xs b false) (range_with_len 0 (length xs)) ∙ ap (count_by (λ f. f)) (sym all)
  where
    all : xs ≡ map (λ b. get_or xs b false) (range_with_len 0 (length xs))
    all = fill_by_all (λ b. get_or xs b false) xs (length xs) false refl (λ k h. refl)
