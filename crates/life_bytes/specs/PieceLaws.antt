-- Laws of pieces, tables and checksums.
use Rattle.std.specs.Prelude.{◌≡◌, ◌<◌, ◌≤◌, ◌+◌, ◌-◌, ℕ, List, [], ◌++◌, length, take, drop, get_or, ◌⊎◌}
use Rattle.std.proofs.Common.{arith, sym, ap, refl, ◌∙◌, inl, inr}
use Rattle.std.proofs.lemmas.Bool.{cases_lt}
use Rattle.std.proofs.lemmas.List.{ext_get_or, drop_at, take_at, length-take-le, length-take, length-drop, length-append, get_or_append_left, get_or-append_right, get_or-take, get_or-drop, drop_all, drop-drop, append-nil}
use borrow.Rule.Slice.PartMut.{put_mid, mid_of}
use Rattle.life_bytes.specs.Fields.{with_piece}

-- ---- one piece

pub length-with_piece : (n at : ℕ) (p bytes : List ℕ) → at + n ≤ length bytes → length p ≡ n → length (with_piece n at p bytes) ≡ length bytes
length-with_piece n at p bytes fits len =
    omega (arith, length-append (take at bytes) (p ++ drop (at + n) bytes), length-append p (drop (at + n) bytes), length-take at bytes, length-drop (at + n) bytes)

before : (n at : ℕ) (p bytes : List ℕ) (i : ℕ) → at + n ≤ length bytes → i < at → get_or (with_piece n at p bytes) i 0 ≡ get_or bytes i 0
before n at p bytes i fits lt =
    get_or_append_left (take at bytes) (p ++ drop (at + n) bytes) 0 i (omega (arith, length-take at bytes)) ∙ get_or-take at bytes i 0 lt

from : (n at : ℕ) (p bytes : List ℕ) (i : ℕ) → at + n ≤ length bytes → at ≤ i → get_or (with_piece n at p bytes) i 0 ≡ get_or (p ++ drop (at + n) bytes) (i - at) 0
from n at p bytes i fits le = get_or-append_right (take at bytes) (p ++ drop (at + n) bytes) at i 0 (length-take-le at bytes (omega arith)) le

inside : (n at : ℕ) (p bytes : List ℕ) (i : ℕ) → at + n ≤ length bytes → length p ≡ n → at ≤ i → i < at + n → get_or (with_piece n at p bytes) i 0 ≡ get_or p (i - at) 0
inside n at p bytes i fits len le lt = from n at p bytes i fits le ∙ get_or_append_left p (drop (at + n) bytes) 0 (i - at) (omega arith)

behind : (n at : ℕ) (p bytes : List ℕ) (i : ℕ) → at + n ≤ length bytes → length p ≡ n → at + n ≤ i → get_or (with_piece n at p bytes) i 0 ≡ get_or bytes i 0
behind n at p bytes i fits len le =
    let e : at + n + (i - at - n) ≡ i = omega arith in
    from n at p bytes i fits (omega arith) ∙ get_or-append_right p (drop (at + n) bytes) n (i - at) 0 len (omega arith)
    ∙ get_or-drop (at + n) bytes (i - at - n) 0 ∙ ap (λ (k : ℕ). get_or bytes k 0) e

-- what is written into the front of the part of n bytes from a place on
pub with_piece_in_part : (n at : ℕ) (p bytes : List ℕ) → at + n ≤ length bytes
    → put_mid at (at + n - at) bytes (p ++ drop n (mid_of at (at + n - at) bytes)) ≡ with_piece n at p bytes
with_piece_in_part n at p bytes fits =
    let width : at + n - at ≡ n = omega arith in
    let nothing : drop n (take n (drop at bytes)) ≡ [] = drop_all n (take n (drop at bytes)) (omega (arith, length-take n (drop at bytes))) in
    let rest : drop n (drop at bytes) ≡ drop (at + n) bytes = drop-drop n at bytes in
    rw (width, nothing, append-nil p, rest) refl

-- two pieces that share no byte
abbrev pub Apart : ℕ → ℕ → ℕ → ℕ → Type 0
Apart at n other m = (at + n ≤ other) ⊎ (other + m ≤ at)

pub piece_same : (n at : ℕ) (p bytes : List ℕ) → at + n ≤ length bytes → length p ≡ n → take n (drop at (with_piece n at p bytes)) ≡ p
piece_same n at p bytes fits len =
    ap (take n) (drop_at (take at bytes) (p ++ drop (at + n) bytes) at (length-take-le at bytes (omega arith))) ∙ take_at p (drop (at + n) bytes) n len

pub piece_other : (n at : ℕ) (p bytes : List ℕ) (m other : ℕ) → at + n ≤ length bytes → length p ≡ n → Apart at n other m
    → take m (drop other (with_piece n at p bytes)) ≡ take m (drop other bytes)
piece_other n at p bytes m other fits len apart =
    let new = with_piece n at p bytes in
    let same = length-with_piece n at p bytes fits len in
    ext_get_or 0 (take m (drop other new)) (take m (drop other bytes))
    (omega (arith, length-take m (drop other new), length-take m (drop other bytes), length-drop other new, length-drop other bytes))
    (λ i lt.
    let low : i < m = omega (arith, length-take m (drop other new)) in
    let left : get_or (take m (drop other new)) i 0 ≡ get_or new (other + i) 0 = get_or-take m (drop other new) i 0 low ∙ get_or-drop other new i 0 in
    let right : get_or (take m (drop other bytes)) i 0 ≡ get_or bytes (other + i) 0 = get_or-take m (drop other bytes) i 0 low ∙ get_or-drop other bytes i 0 in
    let middle : get_or new (other + i) 0 ≡ get_or bytes (other + i) 0 = elim apart [ inl le ↦ behind n at p bytes (other + i) fits len (omega arith) | inr le ↦ before n at p bytes (other + i) fits (omega arith) ] in
    left ∙ middle ∙ sym right)

abbrev Outside : ℕ → ℕ → ℕ → Type 0
Outside n at i = (i < at) ⊎ (at + n ≤ i)

abbrev Inside : ℕ → ℕ → ℕ → Type 0
Inside n at i = (at ≤ i) × (i < at + n)

place : (n at i : ℕ) → Outside n at i ⊎ Inside n at i
place n at i =
    elim (cases_lt i at) [ inl lt ↦ inl (inl lt) | inr le ↦ elim (cases_lt i (at + n)) [ inl lt ↦ inr (le, lt) | inr past ↦ inl (inr past) ] ]

outside : (n at : ℕ) (p bytes : List ℕ) (i : ℕ) → at + n ≤ length bytes → length p ≡ n → Outside n at i → get_or (with_piece n at p bytes) i 0 ≡ get_or bytes i 0
outside n at p bytes i fits len out =
    elim out [ inl lt ↦ before n at p bytes i fits lt | inr le ↦ behind n at p bytes i fits len le ]

-- pieces that share no byte can be put in either order
pub piece_comm : (n at : ℕ) (p : List ℕ) (m other : ℕ) (q bytes : List ℕ) → at + n ≤ length bytes → length p ≡ n → other + m ≤ length bytes → length q ≡ m → Apart at n other m
    → with_piece n at p (with_piece m other q bytes) ≡ with_piece m other q (with_piece n at p bytes)
piece_comm n at p m other q bytes fits len fits_q len_q apart =
    let left = with_piece m other q bytes in
    let right = with_piece n at p bytes in
    let len_left = length-with_piece m other q bytes fits_q len_q in
    let len_right = length-with_piece n at p bytes fits len in
    let fits_left : at + n ≤ length left = omega (arith, len_left) in
    let fits_right : other + m ≤ length right = omega (arith, len_right) in
    ext_get_or 0 (with_piece n at p left) (with_piece m other q right)
    (length-with_piece n at p left fits_left len ∙ len_left ∙ sym len_right ∙ sym (length-with_piece m other q right fits_right len_q))
    (λ i _. elim (place n at i) [
      | inr here ↦
          let away : Outside m other i = elim apart [ inl le ↦ inl (omega arith) | inr le ↦ inr (omega arith) ] in
          inside n at p left i fits_left len here.0 here.1 ∙ sym (inside n at p bytes i fits len here.0 here.1) ∙ sym (outside m other q right i fits_right len_q away)
      | inl out ↦ outside n at p left i fits_left len out ∙ elim (place m other i) [
        | inr there ↦ inside m other q bytes i fits_q len_q there.0 there.1 ∙ sym (inside m other q right i fits_right len_q there.0 there.1)
        | inl off ↦ outside m other q bytes i fits_q len_q off ∙ sym (outside n at p bytes i fits len out) ∙ sym (outside m other q right i fits_right len_q off)
      ]
    ])

-- a piece put over one
pub piece_over : (n at : ℕ) (p q bytes : List ℕ) → at + n ≤ length bytes → length p ≡ n → length q ≡ n
    → with_piece n at p (with_piece n at q bytes) ≡ with_piece n at p bytes
piece_over n at p q bytes fits len len_q =
    let old = with_piece n at q bytes in
    let len_old = length-with_piece n at q bytes fits len_q in
    let fits_old : at + n ≤ length old = omega (arith, len_old) in
    ext_get_or 0 (with_piece n at p old) (with_piece n at p bytes)
    (length-with_piece n at p old fits_old len ∙ len_old ∙ sym (length-with_piece n at p bytes fits len))
    (λ i _. elim (place n at i) [
      | inr here ↦ inside n at p old i fits_old len here.0 here.1 ∙ sym (inside n at p bytes i fits len here.0 here.1)
      | inl out ↦ outside n at p old i fits_old len out ∙ outside n at q bytes i fits len_q out ∙ sym (outside n at p bytes i fits len out)
    ])

-- a piece put into one
pub piece_within : (n i : ℕ) (p : List ℕ) (m at : ℕ) (q bytes : List ℕ) → at + m ≤ length bytes → length q ≡ m → i + n ≤ m → length p ≡ n
    → with_piece n (at + i) p (with_piece m at q bytes) ≡ with_piece m at (with_piece n i p q) bytes
piece_within n i p m at q bytes fits len_q within len =
    let old = with_piece m at q bytes in
    let part = with_piece n i p q in
    let len_old = length-with_piece m at q bytes fits len_q in
    let fits_old : at + i + n ≤ length old = omega (arith, len_old) in
    let fits_q : i + n ≤ length q = omega arith in
    let len_part : length part ≡ m = length-with_piece n i p q fits_q len ∙ len_q in
    ext_get_or 0 (with_piece n (at + i) p old) (with_piece m at part bytes)
    (length-with_piece n (at + i) p old fits_old len ∙ len_old ∙ sym (length-with_piece m at part bytes fits len_part))
    (λ k _. elim (place m at k) [
      | inl out ↦
          let off : Outside n (at + i) k = elim out [ inl lt ↦ inl (omega arith) | inr le ↦ inr (omega arith) ] in
          outside n (at + i) p old k fits_old len off ∙ outside m at q bytes k fits len_q out ∙ sym (outside m at part bytes k fits len_part out)
      | inr here ↦ elim (place n (at + i) k) [
        | inr there ↦
            let e : k - (at + i) ≡ k - at - i = omega arith in
            inside n (at + i) p old k fits_old len there.0 there.1 ∙ ap (λ (j : ℕ). get_or p j 0) e
            ∙ sym (inside n i p q (k - at) fits_q len (omega arith) (omega arith)) ∙ sym (inside m at part bytes k fits len_part here.0 here.1)
        | inl off ↦
            let aside : Outside n i (k - at) = elim off [ inl lt ↦ inl (omega arith) | inr le ↦ inr (omega arith) ] in
            outside n (at + i) p old k fits_old len off ∙ inside m at q bytes k fits len_q here.0 here.1
            ∙ sym (outside n i p q (k - at) fits_q len aside) ∙ sym (inside m at part bytes k fits len_part here.0 here.1)
      ]
    ])

-- the part of n bytes from a place on, written whole
pub with_piece_as_part : (n at : ℕ) (p bytes : List ℕ) → put_mid at n bytes p ≡ with_piece n at p bytes
with_piece_as_part n at p bytes = rw (drop-drop n at bytes) refl
