-- The free blocks of a group as a set, and how the set changes.
use Rattle.std.proofs.Common.{◌≡◌, ◌==◌, ◌+◌, ◌<◌, ◌≤◌, ◌&&◌, ◌||◌, ℕ, zero, suc, Bool, true, false, List, [], nat_le, nat_lt, length, take, filter, get_or, set, refl, sym, ap, subst, ◌∙◌, inl, inr, arith}
use Rattle.std.specs.List.{range_with_len}
use Rattle.std.proofs.lemmas.Bool.{cases_eq, cases_lt, and_left, and_right, and_from, eq-eqb, ne_eqb, le-leb, lt-ltb, le-ltb, false≢true}
use Rattle.std.proofs.lemmas.List.{get_or_past, get_or-set_same, get_or-set_other, get_or_default, length-set, same_lists}
use Rattle.std.proofs.lemmas.List.FromFn.{length-map-range_with_len, get_or-map-range_with_len}
use Rattle.life_limits.specs.declared.TheConstants.{FIRST_DATA_BLOCK}
use Rattle.free_map.specs.Blocks.{is_block_free, map_free_blocks}
use Rattle.life_table.specs.Table.{Group}
use Rattle.life_table.specs.Space.{times, used, is_free_block, free_blocks}
use Rattle.life_table.specs.WellFormed.{IsGroup}
use Rattle.sound_image.specs.Rules.{free_set}
use Rattle.group_space.specs.Taken.{CanTake, CanGive, IsWithout, IsWith}
use Rattle.group_space.proofs.Times.{times-nil, times-take, times-more_here, times-more_other, free_once, free_from_times}

-- ---- the set of a group

pub length-free : (blocks : ℕ) (chunks : Group) → length (free_set blocks chunks) ≡ blocks
unfolding free_set
length-free blocks chunks = length-map-range_with_len (is_free_block blocks chunks) 0 blocks

past_is_not_free : (blocks : ℕ) (chunks : Group) (b : ℕ) → blocks ≤ b → is_free_block blocks chunks b ≡ false
unfolding is_free_block
past_is_not_free blocks chunks b past = and_right _ _ (and_left _ _ (le-ltb b blocks past))

pub free_at : (blocks : ℕ) (chunks : Group) (b : ℕ) → is_block_free (free_set blocks chunks) b ≡ is_free_block blocks chunks b
unfolding free_set
free_at blocks chunks b =
    elim (cases_lt b blocks) [
      | inl low ↦ get_or-map-range_with_len (is_free_block blocks chunks) 0 blocks b b false low (omega arith)
      | inr past ↦ get_or_past (free_set blocks chunks) b false (omega (arith, past, length-free blocks chunks)) ∙ sym (past_is_not_free blocks chunks b past)
    ]

pub free_blocks_of_set : (blocks : ℕ) (chunks : Group) → map_free_blocks (free_set blocks chunks) ≡ free_blocks blocks chunks
unfolding free_blocks
free_blocks_of_set blocks chunks = λ i. filter (λ b. free_at blocks chunks b i) (range_with_len 0 (length-free blocks chunks i))

pub is_set_of : (blocks : ℕ) (chunks : Group) (free : List Bool) → length free ≡ blocks → ((b : ℕ) → is_block_free free b ≡ is_free_block blocks chunks b) → free ≡ free_set blocks chunks
is_set_of blocks chunks free long each =
    same_lists free (free_set blocks chunks) (long ∙ sym (length-free blocks chunks))
    (λ k d low.
    get_or_default free k d false low ∙ each k ∙ sym (free_at blocks chunks k)
    ∙ get_or_default (free_set blocks chunks) k false d (omega (arith, low, long, length-free blocks chunks)))

-- ---- blocks taken one after the other, and given back

and_zero : (a b : ℕ) → (a + b == 0) ≡ ((a == 0) && (b == 0))
and_zero zero zero = refl
and_zero zero (suc b) = ne_eqb (zero + suc b) 0 (λ e. omega arith) ∙ sym (and_right (zero == 0) (suc b == 0) (ne_eqb (suc b) 0 (λ e. omega arith)))
and_zero (suc a) b = ne_eqb (suc a + b) 0 (λ e. omega arith) ∙ sym (and_left (suc a == 0) (b == 0) (ne_eqb (suc a) 0 (λ e. omega arith)))

below_length : (free : List Bool) (x : ℕ) → is_block_free free x ≡ true → x < length free
below_length free x is = elim (cases_lt x (length free)) [ inl lt ↦ lt | inr past ↦ absurd (false≢true (sym (get_or_past free x false past) ∙ is)) ]

and_true : (a : Bool) → (a && true) ≡ a
and_true true = refl
and_true false = refl

or_false : (a : Bool) → (a || false) ≡ a
or_false true = refl
or_false false = refl

or_true : (a : Bool) → (a || true) ≡ true
or_true true = refl
or_true false = refl

none_left : (b : ℕ) (free : List Bool) → is_block_free free b ≡ (is_block_free free b && times b [] == 0)
none_left b free = sym (and_true (is_block_free free b)) ∙ ap (λ (n : ℕ). is_block_free free b && n == 0) (sym (times-nil b))

pub without_none : (free : List Bool) (some : List ℕ) → IsWithout free (take 0 some) free
without_none free some = record { long = refl; each = λ b. none_left b free }

none_more : (b : ℕ) (free : List Bool) → is_block_free free b ≡ (is_block_free free b || nat_lt 0 (times b []))
none_more b free = sym (or_false (is_block_free free b)) ∙ ap (λ (n : ℕ). is_block_free free b || nat_lt 0 n) (sym (times-nil b))

pub with_none : (free : List Bool) (some : List ℕ) → IsWith free (take 0 some) free
with_none free some = record { long = refl; each = λ b. none_more b free }

new_one : (some : List ℕ) (i : ℕ) → i < length some → ((b : ℕ) → times b some ≤ 1) → times (get_or some i 0) (take i some) ≡ 0
new_one some i low once = omega (arith, times-more_here some i low, times-take (get_or some i 0) (i + 1) some, once (get_or some i 0))

pub can_take_next : (old now : List Bool) (some : List ℕ) (i : ℕ) → i < length some → CanTake old some → IsWithout old (take i some) now → is_block_free now (get_or some i 0) ≡ true
can_take_next old now some i low can is =
    let x : ℕ = get_or some i 0 in
    is.each x
    ∙ and_from _ _ (can.free_each x (omega (arith, times-more_here some i low, times-take x (i + 1) some))) (eq-eqb (times x (take i some)) 0 (new_one some i low can.once))

pub without_more : (old now : List Bool) (some : List ℕ) (i : ℕ) → i < length some → CanTake old some → IsWithout old (take i some) now
    → IsWithout old (take (i + 1) some) (set now (get_or some i 0) false)
without_more old now some i low can is =
    let x : ℕ = get_or some i 0 in
    record {
      long = length-set now x false ∙ is.long;
      each = λ b. elim (cases_eq b x) [
        | inl same ↦
            subst (λ (y : ℕ). is_block_free (set now x false) y ≡ (is_block_free old y && times y (take (i + 1) some) == 0)) (sym same)
            (get_or-set_same now x false false (below_length now x (can_take_next old now some i low can is))
            ∙ sym (and_right (is_block_free old x) (times x (take (i + 1) some) == 0) (ne_eqb (times x (take (i + 1) some)) 0 (λ e. omega (arith, e, times-more_here some i low)))))
        | inr apart ↦ get_or-set_other now x b false false apart ∙ is.each b ∙ ap (λ (n : ℕ). is_block_free old b && n == 0) (sym (times-more_other b some i low apart))
      ];
    }

pub can_give_next : (old now : List Bool) (some : List ℕ) (i : ℕ) → i < length some → CanGive old some → IsWith old (take i some) now
    → (get_or some i 0 < length now) × (is_block_free now (get_or some i 0) ≡ false)
can_give_next old now some i low can is =
    let x : ℕ = get_or some i 0 in
    let here = can.taken_each x (omega (arith, times-more_here some i low, times-take x (i + 1) some)) in
    let below = here.1 in
    let none : nat_lt 0 (times x (take i some)) ≡ false = le-ltb 0 (times x (take i some)) (omega (arith, new_one some i low can.once)) in
    (omega (arith, below, is.long), is.each x ∙ (λ j. here.0 j || none j))

pub with_more : (old now : List Bool) (some : List ℕ) (i : ℕ) → i < length some → CanGive old some → IsWith old (take i some) now
    → IsWith old (take (i + 1) some) (set now (get_or some i 0) true)
with_more old now some i low can is =
    let x : ℕ = get_or some i 0 in
    record {
      long = length-set now x true ∙ is.long;
      each = λ b. elim (cases_eq b x) [
        | inl same ↦
            subst (λ (y : ℕ). is_block_free (set now x true) y ≡ (is_block_free old y || nat_lt 0 (times y (take (i + 1) some)))) (sym same)
            (get_or-set_same now x true false (can_give_next old now some i low can is).0
            ∙ sym (ap (λ (c : Bool). is_block_free old x || c) (lt-ltb 0 (times x (take (i + 1) some)) (omega (arith, times-more_here some i low))) ∙ or_true (is_block_free old x)))
        | inr apart ↦ get_or-set_other now x b true false apart ∙ is.each b ∙ ap (λ (n : ℕ). is_block_free old b || nat_lt 0 n) (sym (times-more_other b some i low apart))
      ];
    }

-- ---- the set after a change

and_assoc : (a b c d : Bool) → ((a && (b && c)) && d) ≡ (a && (b && (c && d)))
and_assoc true true c d = refl
and_assoc true false c d = refl
and_assoc false b c d = refl

taken_each : (blocks : ℕ) (chunks next : Group) (some : List ℕ) (now : List Bool) → ((b : ℕ) → times b (used next) ≡ times b (used chunks) + times b some)
    → IsWithout (free_set blocks chunks) some now → (b : ℕ) → is_block_free now b ≡ is_free_block blocks next b
unfolding is_free_block
taken_each blocks chunks next some now counts is b =
    is.each b ∙ ap (λ (c : Bool). c && times b some == 0) (free_at blocks chunks b)
    ∙ and_assoc (nat_le FIRST_DATA_BLOCK b) (nat_lt b blocks) (times b (used chunks) == 0) (times b some == 0)
    ∙ ap (λ (c : Bool). nat_le FIRST_DATA_BLOCK b && (nat_lt b blocks && c)) (sym (and_zero (times b (used chunks)) (times b some)) ∙ ap (λ (n : ℕ). n == 0) (sym (counts b)))

-- some of the free blocks come to be used
pub taken_set : (blocks : ℕ) (chunks next : Group) (some : List ℕ) (now : List Bool) → ((b : ℕ) → times b (used next) ≡ times b (used chunks) + times b some)
    → IsWithout (free_set blocks chunks) some now → now ≡ free_set blocks next
taken_set blocks chunks next some now counts is = is_set_of blocks next now (is.long ∙ length-free blocks chunks) (taken_each blocks chunks next some now counts is)

is_free_from : (blocks : ℕ) (chunks : Group) (b : ℕ) → FIRST_DATA_BLOCK ≤ b → b < blocks → times b (used chunks) ≡ 0 → is_free_block blocks chunks b ≡ true
unfolding is_free_block
is_free_from blocks chunks b low high none = and_from _ _ (le-leb _ _ low) (and_from _ _ (lt-ltb _ _ high) (eq-eqb _ _ none))

same_use : (blocks : ℕ) (chunks next : Group) (b : ℕ) → times b (used next) ≡ times b (used chunks) → is_free_block blocks next b ≡ is_free_block blocks chunks b
unfolding is_free_block
same_use blocks chunks next b same = ap (λ (n : ℕ). nat_le FIRST_DATA_BLOCK b && (nat_lt b blocks && n == 0)) same

given_each : (blocks : ℕ) (chunks next : Group) (some : List ℕ) (now : List Bool) → IsGroup blocks chunks → ((b : ℕ) → times b (used next) + times b some ≡ times b (used chunks))
    → IsWith (free_set blocks chunks) some now → (b : ℕ) → is_block_free now b ≡ is_free_block blocks next b
given_each blocks chunks next some now group counts is b =
    elim (cases_lt 0 (times b some)) [
      | inl some_here ↦
          let in_data = group.data_blocks b (omega (arith, some_here, counts b)) in
          is.each b
          ∙ ap (λ (c : Bool). is_block_free (free_set blocks chunks) b || c) (lt-ltb 0 (times b some) some_here)
          ∙ or_true (is_block_free (free_set blocks chunks) b)
          ∙ sym (is_free_from blocks next b in_data.0 in_data.1 (omega (arith, some_here, counts b, group.once b)))
      | inr none ↦
          is.each b
          ∙ ap (λ (c : Bool). is_block_free (free_set blocks chunks) b || c) (le-ltb 0 (times b some) none)
          ∙ or_false (is_block_free (free_set blocks chunks) b)
          ∙ free_at blocks chunks b ∙ sym (same_use blocks chunks next b (omega (arith, none, counts b)))
    ]

-- some of the used blocks come to be free
pub given_set : (blocks : ℕ) (chunks next : Group) (some : List ℕ) (now : List Bool) → IsGroup blocks chunks → ((b : ℕ) → times b (used next) + times b some ≡ times b (used chunks))
    → IsWith (free_set blocks chunks) some now → now ≡ free_set blocks next
given_set blocks chunks next some now group counts is = is_set_of blocks next now (is.long ∙ length-free blocks chunks) (given_each blocks chunks next some now group counts is)

-- no block changes its use
pub kept_set : (blocks : ℕ) (chunks next : Group) → ((b : ℕ) → times b (used next) ≡ times b (used chunks)) → free_set blocks chunks ≡ free_set blocks next
kept_set blocks chunks next same =
    is_set_of blocks next (free_set blocks chunks) (length-free blocks chunks) (λ b. free_at blocks chunks b ∙ sym (same_use blocks chunks next b (same b)))

-- ---- what may be taken and given

pub can_take_free : (blocks : ℕ) (chunks : Group) (some : List ℕ) → ((b : ℕ) → times b some ≤ times b (free_blocks blocks chunks)) → CanTake (free_set blocks chunks) some
can_take_free blocks chunks some among = record {
  free_each = λ b here. free_at blocks chunks b ∙ free_from_times blocks chunks b (omega (arith, here, among b));
  once = λ b. omega (arith, among b, free_once blocks chunks b);
}

used_is_not_free : (blocks : ℕ) (chunks : Group) (b : ℕ) → 1 ≤ times b (used chunks) → is_free_block blocks chunks b ≡ false
unfolding is_free_block
used_is_not_free blocks chunks b here = and_right _ _ (and_right _ _ (ne_eqb (times b (used chunks)) 0 (λ e. omega (arith, here, e))))

pub can_give_used : (blocks : ℕ) (chunks : Group) (some : List ℕ) → IsGroup blocks chunks → ((b : ℕ) → times b some ≤ times b (used chunks)) → CanGive (free_set blocks chunks) some
can_give_used blocks chunks some group among = record {
  taken_each = λ b here.
      let used_here : 1 ≤ times b (used chunks) = omega (arith, here, among b) in
      let in_data = group.data_blocks b used_here in
      let high = in_data.1 in
      (free_at blocks chunks b ∙ used_is_not_free blocks chunks b used_here, omega (arith, high, length-free blocks chunks));
  once = λ b. omega (arith, among b, group.once b);
}
