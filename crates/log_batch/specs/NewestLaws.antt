-- Images put in their places: the newest of each home stays.
use Rattle.std.proofs.Common.{◌≡◌, ◌≢◌, ◌⊎◌, ℕ, subst, zero, suc, ◌+◌, ◌<◌, ◌≤◌, List, [], ◌∷◌, ◌++◌, Option, Some, None, cond, eqb, length, get_or, take, refl, sym, ap, ◌∙◌, inl, inr, arith}
use Rattle.std.specs.Option.{option_or}
use Rattle.std.specs.List.Sorted.{IsStrictlyIncreasing}
use Rattle.std.proofs.lemmas.Bool.{cases_lt, cases_eq}
use Rattle.std.proofs.lemmas.Bool.Decides.{nat_tests}
use Rattle.std.proofs.lemmas.List.{take_more}
use Rattle.life_bytes.specs.declared.sector.Sector.{Sector}
use Rattle.log_record.specs.declared.image.Image.{Image}
use Rattle.log_image.specs.Overlay.{newest, homes}
use Rattle.log_batch.specs.Newest.{IsNewestOf}
use Rattle.log_batch.specs.Put.{put, put_all, KeysRise}
use Rattle.log_batch.specs.PutLaws.{put_front, put_over, put_behind, Rises-put, length-put}

home_of : Image → ℕ
home_of image = image.home

-- what one image says of a home
abbrev pub alone : ℕ → Image → Option Sector
alone home image = cond (eqb image.home home) (Some image.sector) None

pub newest-nil : (home : ℕ) → newest home [] ≡ None
unfolding newest
newest-nil home = refl

pub newest-cons : (home : ℕ) (image : Image) (images : List Image) → newest home (image ∷ images) ≡ option_or (newest home images) (alone home image)
unfolding newest
newest-cons home image images = refl

option_or_assoc : {X : Type 0} (a b c : Option X) → option_or (option_or a b) c ≡ option_or a (option_or b c)
option_or_assoc None b c = refl
option_or_assoc (Some x) b c = refl

option_or-none : {X : Type 0} (a : Option X) → option_or a None ≡ a
option_or-none None = refl
option_or-none (Some x) = refl

alone_same : (home : ℕ) (image : Image) → image.home ≡ home → alone home image ≡ Some image.sector
alone_same home image same = grind (arith, nat_tests)

alone_other : (home : ℕ) (image : Image) → image.home ≢ home → alone home image ≡ None
alone_other home image other = grind (arith, nat_tests)

-- a list that rises has no image of a home below it
pub newest_below : (home low : ℕ) (xs : List Image) → KeysRise (λ i. i.home) low xs → home < low → newest home xs ≡ None
newest_below home low [] rise below = newest-nil home
newest_below home low (x ∷ xs) rise below =
    newest-cons home x xs
    ∙ ap (λ (o : Option Sector). option_or o (alone home x)) (newest_below home (x.home + 1) xs rise.1 (omega (arith, rise.0)))
    ∙ alone_other home x (λ same. omega (arith, rise.0))

-- two answers of which one is none
either_way : {X : Type 0} (a b : Option X) → (a ≡ None) ⊎ (b ≡ None) → option_or a b ≡ option_or b a
either_way a b (inl none) = rw none (sym (option_or-none b))
either_way a b (inr none) = rw none (option_or-none a)

-- an image in front of greater homes
newest_front : (home : ℕ) (image : Image) (low : ℕ) (xs : List Image) → KeysRise (λ i. i.home) low xs → image.home < low
    → newest home (image ∷ xs) ≡ option_or (alone home image) (newest home xs)
newest_front home image low xs rise below =
    newest-cons home image xs
    ∙ elim (cases_eq image.home home) [
      | inl same ↦ either_way (newest home xs) (alone home image) (inl (newest_below home low xs rise (omega arith)))
      | inr other ↦ either_way (newest home xs) (alone home image) (inr (alone_other home image other))
    ]

-- an image over one of the same home
newest_over : (home : ℕ) (image y : Image) (ys : List Image) → KeysRise (λ i. i.home) (y.home + 1) ys → image.home ≡ y.home
    → newest home (image ∷ ys) ≡ option_or (alone home image) (newest home (y ∷ ys))
newest_over home image y ys rise same =
    newest_front home image (y.home + 1) ys rise (omega arith)
    ∙ elim (cases_eq image.home home) [
      | inl here ↦
          ap (λ (o : Option Sector). option_or o (newest home ys)) (alone_same home image here)
          ∙ sym (ap (λ (o : Option Sector). option_or o (newest home (y ∷ ys))) (alone_same home image here))
      | inr other ↦
          ap (option_or (alone home image)) (sym (
          newest-cons home y ys
          ∙ ap (option_or (newest home ys)) (alone_other home y (λ is. other (same ∙ is)))
          ∙ option_or-none (newest home ys)))
    ]

-- an image that is put in its place is the newest of its home
pub newest-put : (home : ℕ) (image : Image) (low : ℕ) (xs : List Image) → KeysRise (λ i. i.home) low xs
    → newest home (put image xs) ≡ option_or (alone home image) (newest home xs)
newest-put home image low [] rise =
    newest-cons home image [] ∙ ap (λ (o : Option Sector). option_or o (alone home image)) (newest-nil home)
    ∙ sym (ap (option_or (alone home image)) (newest-nil home) ∙ option_or-none (alone home image))
newest-put home image low (y ∷ ys) rise =
    elim (cases_lt image.home y.home) [
      | inl front ↦ ap (newest home) (put_front (λ i. i.home) image y ys front)
          ∙ newest_front home image (image.home + 1) (y ∷ ys) (omega arith, rise.1) (omega arith)
      | inr behind ↦ elim (cases_lt y.home image.home) [
        | inl above ↦ ap (newest home) (put_behind (λ i. i.home) image y ys above)
            ∙ newest-cons home y (put image ys)
            ∙ ap (λ (o : Option Sector). option_or o (alone home y)) (newest-put home image (y.home + 1) ys rise.1)
            ∙ option_or_assoc (alone home image) (newest home ys) (alone home y)
            ∙ ap (option_or (alone home image)) (sym (newest-cons home y ys))
        | inr under ↦ let same : image.home ≡ y.home = omega arith in
            ap (newest home) (put_over (λ i. i.home) image y ys same) ∙ newest_over home image y ys rise.1 same
      ]
    ]

-- ---- several images

pub put_all-append : (xs ys into : List Image) → put_all (xs ++ ys) into ≡ put_all ys (put_all xs into)
put_all-append [] ys into = refl
put_all-append (x ∷ xs) ys into = put_all-append xs ys (put x into)

-- one image more
pub put_more : (images : List Image) (i : ℕ) (d : Image) (into : List Image) → i < length images
    → put_all (take (i + 1) images) into ≡ put (get_or images i d) (put_all (take i images) into)
put_more images i d into within =
    ap (λ (xs : List Image). put_all xs into) (take_more images i d within) ∙ put_all-append (take i images) (get_or images i d ∷ []) into

pub Rises-put_all : (images into : List Image) → KeysRise (λ i. i.home) 0 into → KeysRise (λ i. i.home) 0 (put_all images into)
Rises-put_all [] into rise = rise
Rises-put_all (x ∷ xs) into rise = Rises-put_all xs (put x into) (Rises-put (λ i. i.home) x 0 into rise (omega arith))

pub newest-put_all : (home : ℕ) (images into : List Image) → KeysRise (λ i. i.home) 0 into
    → newest home (put_all images into) ≡ option_or (newest home images) (newest home into)
newest-put_all home [] into rise = sym (ap (λ (o : Option Sector). option_or o (newest home into)) (newest-nil home))
newest-put_all home (x ∷ xs) into rise =
    newest-put_all home xs (put x into) (Rises-put (λ i. i.home) x 0 into rise (omega arith))
    ∙ ap (option_or (newest home xs)) (newest-put home x 0 into rise)
    ∙ sym (option_or_assoc (newest home xs) (alone home x) (newest home into))
    ∙ ap (λ (o : Option Sector). option_or o (newest home into)) (sym (newest-cons home x xs))

pub length-put_all : (images into : List Image) → length into ≤ length (put_all images into)
length-put_all [] into = omega arith
length-put_all (x ∷ xs) into =
    let one = length-put (λ (i : Image). i.home) x into in
    let rest = length-put_all xs (put x into) in
    omega (arith, one.0)

-- ---- ascending homes

first_home : List Image → ℕ
first_home images = get_or (homes images) 0 0

next : (k : ℕ) → suc k + 1 ≡ suc (k + 1)
next k = omega arith

ascending_rest : (x : Image) (xs : List Image) → IsStrictlyIncreasing (homes (x ∷ xs)) → IsStrictlyIncreasing (homes xs)
ascending_rest x xs up k h =
    let P : ℕ → Type 0 = λ n. get_or (homes xs) k 0 < get_or (homes (x ∷ xs)) n 0 in
    subst P (next k) (up (suc k) (omega arith))

ascending_more : (x y : Image) (ys : List Image) → x.home < y.home → IsStrictlyIncreasing (homes (y ∷ ys)) → IsStrictlyIncreasing (homes (x ∷ (y ∷ ys)))
ascending_more x y ys below up zero h = below
ascending_more x y ys below up (suc k) h =
    let P : ℕ → Type 0 = λ n. get_or (homes (y ∷ ys)) k 0 < get_or (homes (x ∷ (y ∷ ys))) n 0 in
    subst P (sym (next k)) (up k (omega arith))

-- homes that ascend rise, and the other way round
pub rises_from_ascending : (low : ℕ) (xs : List Image) → (0 < length xs → low ≤ get_or (homes xs) 0 0) → IsStrictlyIncreasing (homes xs) → KeysRise (λ i. i.home) low xs
rises_from_ascending low [] first up = tt
rises_from_ascending low (x ∷ []) first up = (first (omega arith), tt)
rises_from_ascending low (x ∷ (y ∷ ys)) first up =
    (first (omega arith), rises_from_ascending (x.home + 1) (y ∷ ys) (λ some. omega (arith, up 0 (omega arith))) (ascending_rest x (y ∷ ys) up))

pub ascending_from_rises : (low : ℕ) (xs : List Image) → KeysRise (λ i. i.home) low xs → IsStrictlyIncreasing (homes xs)
ascending_from_rises low [] rise k h = absurd (omega arith)
ascending_from_rises low (x ∷ []) rise k h = absurd (omega arith)
ascending_from_rises low (x ∷ (y ∷ ys)) rise k h =
    ascending_more x y ys (omega (arith, rise.1.0)) (ascending_from_rises (x.home + 1) (y ∷ ys) rise.1) k h

pub rises_from : (xs : List Image) → IsStrictlyIncreasing (homes xs) → KeysRise (λ i. i.home) 0 xs
rises_from xs up = rises_from_ascending 0 xs (λ some. omega arith) up

-- images put in their places are the newest ones
pub put_all_is_newest : (images : List Image) → IsNewestOf images (put_all images [])
put_all_is_newest images = record {
  ascending = ascending_from_rises 0 (put_all images []) (Rises-put_all images [] tt);
  same = λ home. newest-put_all home images [] tt ∙ ap (option_or (newest home images)) (newest-nil home) ∙ option_or-none (newest home images);
}

-- ---- only one list has the newest images

-- the first of a list that rises is the newest of its home
pub newest_first : (low : ℕ) (x : Image) (xs : List Image) → KeysRise (λ i. i.home) low (x ∷ xs) → newest x.home (x ∷ xs) ≡ Some x.sector
newest_first low x xs rise =
    newest-cons x.home x xs
    ∙ ap (λ (o : Option Sector). option_or o (alone x.home x)) (newest_below x.home (x.home + 1) xs rise.1 (omega arith))
    ∙ alone_same x.home x refl

-- behind the first, the others are those of the rest
pub newest_rest : (home : ℕ) (x : Image) (xs : List Image) → home ≢ x.home → newest home (x ∷ xs) ≡ newest home xs
newest_rest home x xs other =
    newest-cons home x xs ∙ ap (option_or (newest home xs)) (alone_other home x (λ same. other (sym same))) ∙ option_or-none (newest home xs)

pub none_some : {X : Type 0} {x : X} → None ≡ Some x → ⊥
none_some same = cc

-- a home of which there is a newest image is not below the first
not_below_first : (low : ℕ) (x y : Image) (xs ys : List Image) → KeysRise (λ i. i.home) low (x ∷ xs) → KeysRise (λ i. i.home) low (y ∷ ys)
    → ((home : ℕ) → newest home (x ∷ xs) ≡ newest home (y ∷ ys)) → y.home ≤ x.home
not_below_first low x y xs ys rise other same =
    elim (cases_lt x.home y.home) [
      | inl below ↦
          let none : newest x.home (y ∷ ys) ≡ None = newest_below x.home y.home (y ∷ ys) (omega arith, other.1) below in
          absurd (none_some (sym none ∙ sym (same x.home) ∙ newest_first low x xs rise))
      | inr at ↦ at
    ]

pub same_image : (x y : Image) → x.home ≡ y.home → x.sector ≡ y.sector → x ≡ y
same_image x y home sector =
    let image_of : ℕ → Sector → Image = λ h s. record { home = h; sector = s } in
    ap (λ (h : ℕ). image_of h x.sector) home ∙ ap (λ (s : Sector). image_of y.home s) sector

pub some_same : {X : Type 0} {x y : X} → Some x ≡ Some y → x ≡ y
some_same same = cc

pub only_newest : (low : ℕ) (xs ys : List Image) → KeysRise (λ i. i.home) low xs → KeysRise (λ i. i.home) low ys
    → ((home : ℕ) → newest home xs ≡ newest home ys) → xs ≡ ys
only_newest low [] [] rise other same = refl
only_newest low [] (y ∷ ys) rise other same = absurd (none_some (sym (newest-nil y.home) ∙ same y.home ∙ newest_first low y ys other))
only_newest low (x ∷ xs) [] rise other same = absurd (none_some (sym (newest-nil x.home) ∙ sym (same x.home) ∙ newest_first low x xs rise))
only_newest low (x ∷ xs) (y ∷ ys) rise other same =
    let up = not_below_first low x y xs ys rise other same in
    let down = not_below_first low y x ys xs other rise (λ home. sym (same home)) in
    let home : x.home ≡ y.home = omega arith in
    let first : Some x.sector ≡ Some y.sector = sym (newest_first low x xs rise) ∙ same x.home ∙ ap (λ (h : ℕ). newest h (y ∷ ys)) home ∙ newest_first low y ys other in
    let rest : (h : ℕ) → newest h xs ≡ newest h ys = λ h.
    elim (cases_lt h (x.home + 1)) [
      | inl low ↦ newest_below h (x.home + 1) xs rise.1 low ∙ sym (newest_below h (y.home + 1) ys other.1 (omega arith))
      | inr high ↦ sym (newest_rest h x xs (λ is. omega arith)) ∙ same h ∙ newest_rest h y ys (λ is. omega arith)
    ] in
    let behind = only_newest (x.home + 1) xs ys rise.1 (rw home other.1) rest in
    let head = same_image x y home (some_same first) in
    cc

-- so each list that has the newest images of these is the one that is made by putting them in their places
pub newest_is_put_all : (images newer : List Image) → IsNewestOf images newer → newer ≡ put_all images []
newest_is_put_all images newer is =
    let made = put_all_is_newest images in
    only_newest 0 newer (put_all images []) (rises_from newer is.ascending) (rises_from (put_all images []) made.ascending) (λ home. is.same home ∙ sym (made.same home))
