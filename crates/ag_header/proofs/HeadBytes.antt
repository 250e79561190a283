-- Numbers of four bytes, one after the other.
use Rattle.std.proofs.Common.{◌≡◌, ◌≤◌, ◌<◌, ◌+◌, ◌-◌, ◌*◌, ℕ, zero, suc, List, [], ◌∷◌, ◌++◌, length, take, drop, get_or, set, replicate, refl, sym, ap, ◌∙◌, arith}
use Rattle.std.specs.List.{flat_map}
use Rattle.std.proofs.lemmas.List.{take_all, take_more, take_at, length-append, length-take-le, append-nil}
use Rattle.std.proofs.lemmas.List.Concat.{flat_map-cons}
use Rattle.std.proofs.lemmas.Grind.{flat_map-append}
use Rattle.byteorder.specs.Endian.{big_bytes}
use Rattle.life_bytes.specs.Fields.{with_field, with_piece}
use Rattle.life_bytes.specs.Pieces.{zeros}
use Rattle.life_bytes.specs.TableLaws.{put_at_end, zeros_is}

abbrev pub bytes_of : List ℕ → List ℕ
bytes_of heads = flat_map (big_bytes 4) heads

bytes_of-cons : (head : ℕ) (heads : List ℕ) → bytes_of (head ∷ heads) ≡ big_bytes 4 head ++ bytes_of heads
bytes_of-cons head heads = flat_map-cons (big_bytes 4) head heads

pub length-bytes_of : (heads : List ℕ) → length (bytes_of heads) ≡ 4 * length heads
length-bytes_of [] = refl
length-bytes_of (head ∷ heads) =
    let rest = length-bytes_of heads in
    ap length (bytes_of-cons head heads) ∙ omega (arith, length-append (big_bytes 4 head) (bytes_of heads))

-- ---- writing

pub first_bytes : (heads : List ℕ) → replicate 256 0 ≡ bytes_of (take 0 heads) ++ zeros (256 - 4 * 0)
first_bytes heads = sym (zeros_is 256)

pub more_bytes : (heads : List ℕ) (i d : ℕ) (bytes new : List ℕ) → i < 64 → length heads ≡ 64 → bytes ≡ bytes_of (take i heads) ++ zeros (256 - 4 * i)
    → new ≡ with_field 4 (4 * i) (get_or heads i d) bytes → new ≡ bytes_of (take (i + 1) heads) ++ zeros (256 - 4 * (i + 1))
more_bytes heads i d bytes new low many so_far put =
    let lt : i < length heads = omega arith in
    let front = bytes_of (take i heads) in
    let head = get_or heads i d in
    let long : length front ≡ 4 * i = length-bytes_of (take i heads) ∙ ap (λ (n : ℕ). 4 * n) (length-take-le i heads (omega arith)) in
    let less : 256 - 4 * i - 4 ≡ 256 - 4 * (i + 1) = omega arith in
    let one : bytes_of (head ∷ []) ≡ big_bytes 4 head = bytes_of-cons head [] ∙ append-nil (big_bytes 4 head) in
    let longer : bytes_of (take (i + 1) heads) ≡ front ++ big_bytes 4 head =
    ap bytes_of (take_more heads i d lt) ∙ flat_map-append (big_bytes 4) (take i heads) (head ∷ []) ∙ ap (λ (l : List ℕ). front ++ l) one in
    put ∙ ap (with_field 4 (4 * i) head) so_far ∙ put_at_end front (big_bytes 4 head) 4 (4 * i) (256 - 4 * i) long (omega arith)
    ∙ ap (λ (m : ℕ). (front ++ big_bytes 4 head) ++ zeros m) less ∙ ap (λ (l : List ℕ). l ++ zeros (256 - 4 * (i + 1))) (sym longer)

no_zeros : zeros 0 ≡ []
no_zeros = zeros_is 0

pub all_bytes : (heads : List ℕ) (i : ℕ) (bytes : List ℕ) → length heads ≡ 64 → 64 ≤ i → bytes ≡ bytes_of (take i heads) ++ zeros (256 - 4 * i) → bytes ≡ bytes_of heads
all_bytes heads i bytes many high so_far =
    let none : 256 - 4 * i ≡ 0 = omega arith in
    so_far ∙ ap (λ (m : ℕ). bytes_of (take i heads) ++ zeros m) none ∙ ap (λ (l : List ℕ). bytes_of (take i heads) ++ l) no_zeros
    ∙ append-nil (bytes_of (take i heads)) ∙ ap bytes_of (take_all i heads (omega arith))

-- ---- one of them

-- four bytes on
four_on : (k : ℕ) → 4 * suc k ≡ suc (suc (suc (suc (4 * k))))
four_on k = omega arith

pub head_at : (heads : List ℕ) (k d : ℕ) → k < length heads → take 4 (drop (4 * k) (bytes_of heads)) ≡ big_bytes 4 (get_or heads k d)
head_at [] k d lt = absurd (omega arith)
head_at (head ∷ heads) zero d lt = ap (take 4) (bytes_of-cons head heads) ∙ take_at (big_bytes 4 head) (bytes_of heads) 4 refl
head_at (head ∷ heads) (suc k) d lt =
    ap (λ (l : List ℕ). take 4 (drop (4 * suc k) l)) (bytes_of-cons head heads) ∙ ap (λ (n : ℕ). take 4 (drop n (big_bytes 4 head ++ bytes_of heads))) (four_on k) ∙ head_at heads k d (omega arith)

-- a piece put in behind the first four bytes
behind_four : (p bytes : List ℕ) (head k : ℕ) → with_piece 4 (4 * suc k) p (big_bytes 4 head ++ bytes) ≡ big_bytes 4 head ++ with_piece 4 (4 * k) p bytes
behind_four p bytes head k =
    let front = big_bytes 4 head ++ bytes in
    let further : 4 * suc k + 4 ≡ suc (suc (suc (suc (4 * k + 4)))) = omega arith in
    ap (λ (n : ℕ). take n front ++ (p ++ drop (4 * suc k + 4) front)) (four_on k) ∙ ap (λ (n : ℕ). take (suc (suc (suc (suc (4 * k))))) front ++ (p ++ drop n front)) further

pub head_put : (heads : List ℕ) (k head : ℕ) → k < length heads → with_field 4 (4 * k) head (bytes_of heads) ≡ bytes_of (set heads k head)
head_put [] k head lt = absurd (omega arith)
head_put (old ∷ heads) zero head lt = ap (with_field 4 0 head) (bytes_of-cons old heads) ∙ sym (bytes_of-cons head heads)
head_put (old ∷ heads) (suc k) head lt =
    ap (with_field 4 (4 * suc k) head) (bytes_of-cons old heads) ∙ behind_four (big_bytes 4 head) (bytes_of heads) old k ∙ ap (λ (l : List ℕ). big_bytes 4 old ++ l) (head_put heads k head (omega arith))
    ∙ sym (bytes_of-cons old (set heads k head))
