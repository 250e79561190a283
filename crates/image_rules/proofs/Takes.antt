-- Blocks that are taken one after the other.
use Rattle.std.proofs.Common.{◌≡◌, ◌≢◌, ◌<◌, ◌≤◌, ◌+◌, ◌++◌, ℕ, Bool, true, false, zero, suc, List, [], ◌∷◌, All, length, take, get_or, set, cond, eqb, inl, inr, refl, ap, sym, subst, ◌∙◌, arith, length-append}
use Rattle.std.proofs.lemmas.Bool.{cases_lt, cases_order, false≢true}
use Rattle.std.proofs.lemmas.Bool.Decides.{nat_tests}
use Rattle.std.proofs.lemmas.List.{take_more, get_or_past, get_or-set_same, get_or-set_other, get_or_append_left, get_or_push}
use Rattle.life_table.specs.Space.{times}
use Rattle.free_map.specs.Blocks.{is_block_free}
use Rattle.image_rules.specs.Taking.{TakesAll, SharesBlock}

pub times_none : (b : ℕ) → times b [] ≡ 0
unfolding times
times_none b = refl

pub times_cons : (b x : ℕ) (xs : List ℕ) → times b (x ∷ xs) ≡ cond (eqb b x) 1 0 + times b xs
unfolding times
times_cons b x xs = refl

times_push : (b x : ℕ) (xs : List ℕ) → times b (xs ++ x ∷ []) ≡ times b xs + cond (eqb b x) 1 0
times_push b x [] = omega (arith, times_cons b x [], times_none b)
times_push b x (y ∷ ys) = omega (arith, times_cons b y (ys ++ x ∷ []), times_cons b y ys, times_push b x ys)

times_here : (x : ℕ) (xs : List ℕ) → times x (xs ++ x ∷ []) ≡ times x xs + 1
times_here x xs = let e : ◌≡◌ {A = ℕ} (cond (eqb x x) 1 0) 1 = grind (arith, nat_tests) in times_push x x xs ∙ ap (λ (n : ℕ). times x xs + n) e

times_there : (b x : ℕ) (xs : List ℕ) → b ≢ x → times b (xs ++ x ∷ []) ≡ times b xs
times_there b x xs ne = let e : ◌≡◌ {A = ℕ} (cond (eqb b x) 1 0) 0 = grind (arith, nat_tests) in omega (arith, times_push b x xs, e)

times_take : (b n : ℕ) (xs : List ℕ) → times b (take n xs) ≤ times b xs
times_take b zero xs = omega (arith, times_none b)
times_take b (suc n) [] = omega arith
times_take b (suc n) (x ∷ xs) = omega (arith, times_cons b x (take n xs), times_cons b x xs, times_take b n xs)

-- ---- one block taken

below_length : (map : List Bool) (x : ℕ) → is_block_free map x ≡ true → x < length map
below_length map x free = elim (cases_lt x (length map)) [ inl lt ↦ lt | inr past ↦ absurd (false≢true (sym (get_or_past map x false past) ∙ free)) ]

pub taken_here : (map : List Bool) (x : ℕ) → is_block_free map x ≡ true → is_block_free (set map x false) x ≡ false
taken_here map x free = get_or-set_same map x false false (below_length map x free)

pub taken_there : (map : List Bool) (b x : ℕ) → b ≢ x → is_block_free (set map x false) b ≡ is_block_free map b
taken_there map b x ne = get_or-set_other map x b false false ne

-- ---- a list of them

pub TakesAll-none : (map : List Bool) → TakesAll map [] map
TakesAll-none map = record {
  free = λ b some. absurd (omega (arith, some, times_none b));
  once = λ b. omega (arith, times_none b);
  taken = λ b some. absurd (omega (arith, some, times_none b));
  others = λ b none. refl;
}

none_before : (old map : List Bool) (xs : List ℕ) (x : ℕ) → TakesAll old xs map → is_block_free map x ≡ true → times x xs ≡ 0
none_before old map xs x takes free =
    elim (cases_lt (times x xs) 1) [ inl lt ↦ omega arith | inr some ↦ absurd (false≢true (sym (takes.taken x some) ∙ free)) ]

TakesAll-push : (old map : List Bool) (xs : List ℕ) (x : ℕ) → TakesAll old xs map → is_block_free map x ≡ true → TakesAll old (xs ++ x ∷ []) (set map x false)
TakesAll-push old map xs x takes free =
    let none : times x xs ≡ 0 = none_before old map xs x takes free in
    let here : times x (xs ++ x ∷ []) ≡ 1 = omega (arith, times_here x xs, none) in
    record {
      free = λ b some. elim (cases_order b x) [
        | inl e ↦ ap (is_block_free old) e ∙ sym (takes.others x none) ∙ free
        | inr (inl lt) ↦ takes.free b (omega (arith, some, times_there b x xs (λ e. absurd (omega arith))))
        | inr (inr gt) ↦ takes.free b (omega (arith, some, times_there b x xs (λ e. absurd (omega arith))))
      ];
      once = λ b. elim (cases_order b x) [
        | inl e ↦ let same = ap (λ (y : ℕ). times y (xs ++ x ∷ [])) e in omega arith
        | inr (inl lt) ↦ omega (arith, takes.once b, times_there b x xs (λ e. absurd (omega arith)))
        | inr (inr gt) ↦ omega (arith, takes.once b, times_there b x xs (λ e. absurd (omega arith)))
      ];
      taken = λ b some. elim (cases_order b x) [
        | inl e ↦ ap (is_block_free (set map x false)) e ∙ taken_here map x free
        | inr (inl lt) ↦ taken_there map b x (λ e. absurd (omega arith)) ∙ takes.taken b (omega (arith, some, times_there b x xs (λ e. absurd (omega arith))))
        | inr (inr gt) ↦ taken_there map b x (λ e. absurd (omega arith)) ∙ takes.taken b (omega (arith, some, times_there b x xs (λ e. absurd (omega arith))))
      ];
      others = λ b never. elim (cases_order b x) [
        | inl e ↦ let same = ap (λ (y : ℕ). times y (xs ++ x ∷ [])) e in absurd (omega arith)
        | inr (inl lt) ↦ taken_there map b x (λ e. absurd (omega arith)) ∙ takes.others b (omega (arith, never, times_there b x xs (λ e. absurd (omega arith))))
        | inr (inr gt) ↦ taken_there map b x (λ e. absurd (omega arith)) ∙ takes.others b (omega (arith, never, times_there b x xs (λ e. absurd (omega arith))))
      ];
    }

pub TakesAll-more : (old map : List Bool) (xs : List ℕ) (i : ℕ) → i < length xs → TakesAll old (take i xs) map → is_block_free map (get_or xs i 0) ≡ true
    → TakesAll old (take (i + 1) xs) (set map (get_or xs i 0) false)
TakesAll-more old map xs i low takes free =
    let x : ℕ = get_or xs i 0 in
    subst (λ (ys : List ℕ). TakesAll old ys (set map x false)) (sym (take_more xs i 0 low)) (TakesAll-push old map (take i xs) x takes free)

pub crowded_at : (old map : List Bool) (xs : List ℕ) (i : ℕ) → i < length xs → TakesAll old (take i xs) map → is_block_free map (get_or xs i 0) ≡ false → SharesBlock old xs
crowded_at old map xs i low takes taken =
    let x : ℕ = get_or xs i 0 in
    let more : times x (take (i + 1) xs) ≡ times x (take i xs) + 1 = ap (times x) (take_more xs i 0 low) ∙ times_here x (take i xs) in
    let within = times_take x (i + 1) xs in
    record {
      block = x;
      has = omega arith;
      why = elim (cases_lt (times x (take i xs)) 1) [
        | inl lt ↦ inl (sym (takes.others x (omega arith)) ∙ taken)
        | inr some ↦ inr (omega arith)
      ];
    }

-- ---- what holds of one element more

pub All-front : {X : Type 0} (P : X → Type 0) (xs : List X) (i : ℕ) (d : X) → i < length xs → All P (take (i + 1) xs) → All P (take i xs)
All-front P xs i d low all k e within =
    let split = take_more xs i d low in
    let all' = subst (All P) split all in
    subst P (get_or_append_left (take i xs) (get_or xs i d ∷ []) e k within) (all' k e (omega (arith, within, length-append (take i xs) (get_or xs i d ∷ []))))

pub All-last : {X : Type 0} (P : X → Type 0) (xs : List X) (i : ℕ) (d : X) → i < length xs → All P (take (i + 1) xs) → P (get_or xs i d)
All-last P xs i d low all =
    let split = take_more xs i d low in
    let all' = subst (All P) split all in
    subst P (get_or_push (take i xs) (get_or xs i d) d (length (take i xs)) refl)
    (all' (length (take i xs)) d (omega (arith, length-append (take i xs) (get_or xs i d ∷ []))))
