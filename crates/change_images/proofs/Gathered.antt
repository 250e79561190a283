-- The images that are gathered of candidates: exactly those of the sectors that a change touches.
use Rattle.std.proofs.Common.{◌≡◌, ◌<◌, ◌≤◌, ◌+◌, ◌*◌, ◌⊎◌, ℕ, Bool, true, false, cond, List, [], ◌∷◌, ◌++◌, Option, None, Some, length, map, eqb, inl, inr, refl, ap, sym, subst, ◌∙◌, append_assoc, arith}
use Rattle.std.specs.Prelude.{◌&&◌, Contains}
use Rattle.std.specs.List.{All, AllByRecursion}
use Rattle.std.specs.List.Sorted.{IsStrictlyIncreasing}
use Rattle.std.proofs.lemmas.Bool.{eqb-true, eq-eqb, and_from, and_parts, false≢true}
use Rattle.std.proofs.lemmas.List.Elements.{All-from_recursion, recursion_from_All}
use Rattle.geometry.specs.declared.shape.Geometry.{Geometry}
use Rattle.geometry.specs.Places.{group_sectors}
use Rattle.log_image.specs.Overlay.{homes}
use Rattle.log_record.specs.declared.image.Image.{Image}
use Rattle.life_table.specs.Table.{Group}
use Rattle.sound_image.specs.Places.{sector_in}
use Rattle.sound_image.specs.Encoding.{Layouts, metadata}
use Rattle.encoded_changes.specs.Carry.{AreImagesOf, CarryGroup, IsOfGroup, Stays, image_for}
use Rattle.change_images.specs.Candidates.{Candidate, IsCandidate, changed_images, had_bytes, image_if_changed, same_bytes}
use Rattle.change_images.specs.Enough.{AreEnough}
use Rattle.change_images.proofs.Lists.{In, Up, contains_from, in_from, increasing, up_from, weaker}

-- ---- the test

pub same_bytes-is : (xs ys : List ℕ) → same_bytes xs ys ≡ true → xs ≡ ys
unfolding same_bytes
same_bytes-is [] [] e = refl
same_bytes-is [] (y ∷ ys) e = absurd (false≢true e)
same_bytes-is (x ∷ xs) [] e = absurd (false≢true e)
same_bytes-is (x ∷ xs) (y ∷ ys) e =
    let parts = and_parts (eqb x y) (same_bytes xs ys) e in
    ap (λ (z : ℕ). z ∷ xs) (eqb-true x y parts.0) ∙ ap (λ (l : List ℕ). y ∷ l) (same_bytes-is xs ys parts.1)

pub same_bytes-refl : (xs : List ℕ) → same_bytes xs xs ≡ true
unfolding same_bytes
same_bytes-refl [] = refl
same_bytes-refl (x ∷ xs) = and_from (eqb x x) (same_bytes xs xs) (eq-eqb x x refl) (same_bytes-refl xs)

had-is : (before : Option (List ℕ)) (after : List ℕ) → had_bytes before after ≡ true → before ≡ Some after
unfolding had_bytes
had-is None after e = absurd (false≢true e)
had-is (Some before) after e = ap (λ (l : List ℕ). Some l) (same_bytes-is before after e)

had-refl : (before : Option (List ℕ)) (after : List ℕ) → before ≡ Some after → had_bytes before after ≡ true
unfolding had_bytes
had-refl before after e = ap (λ (o : Option (List ℕ)). had_bytes o after) e ∙ same_bytes-refl after

-- ---- the images, by the test

abbrev pub places_of : List Candidate → List ℕ
places_of cs = map (λ (c : Candidate). c.place) cs

abbrev chosen : Bool → Image → List Image → List Image
chosen stays image rest = cond stays [] (image ∷ []) ++ rest

images_by : (g : Geometry) (group : ℕ) (c : Candidate) (cs : List Candidate)
    → changed_images g group (c ∷ cs) ≡ chosen (had_bytes c.before c.after) (image_for g group c.place c.after) (changed_images g group cs)
unfolding changed_images image_if_changed
images_by g group c cs = refl

pub images-append : (g : Geometry) (group : ℕ) (xs ys : List Candidate) → changed_images g group (xs ++ ys) ≡ changed_images g group xs ++ changed_images g group ys
unfolding changed_images
images-append g group [] ys = refl
images-append g group (c ∷ xs) ys =
    ap (λ (l : List Image). image_if_changed g group c ++ l) (images-append g group xs ys)
    ∙ sym (append_assoc (image_if_changed g group c) (changed_images g group xs) (changed_images g group ys))

pub images-few : (g : Geometry) (group : ℕ) (cs : List Candidate) → length (changed_images g group cs) ≤ length cs
unfolding changed_images
images-few g group [] = omega arith
images-few g group (c ∷ cs) =
    let rest = images-few g group cs in
    let made : length (chosen (had_bytes c.before c.after) (image_for g group c.place c.after) (changed_images g group cs)) ≤ length (c ∷ cs) =
    elim (had_bytes c.before c.after) as (λ b. length (chosen b (image_for g group c.place c.after) (changed_images g group cs)) ≤ length (c ∷ cs)) [
      | true ↦ omega (arith, rest)
      | false ↦ omega (arith, rest)
    ] in
    subst (λ (l : List Image). length l ≤ length (c ∷ cs)) (sym (images_by g group c cs)) made

-- ---- what they are

abbrev Right : Geometry → ℕ → Layouts → Group → Layouts → Group → Candidate → Type 0
Right g group layouts chunks others next c = IsCandidate g group layouts chunks others next c × (c.place < group_sectors g)

all_right : (g : Geometry) (group : ℕ) (layouts others : Layouts) (chunks next : Group) (cs : List Candidate) → AllByRecursion (IsCandidate g group layouts chunks others next) cs
    → AllByRecursion (λ place. place < group_sectors g) (places_of cs) → AllByRecursion (Right g group layouts chunks others next) cs
all_right g group layouts others chunks next [] a b = tt
all_right g group layouts others chunks next (c ∷ cs) a b = ((a.0, b.0), all_right g group layouts others chunks next cs a.1 b.1)

of_group : (g : Geometry) (group : ℕ) (layouts others : Layouts) (chunks next : Group) (cs : List Candidate) → AllByRecursion (Right g group layouts chunks others next) cs
    → AllByRecursion (IsOfGroup g others group next) (changed_images g group cs)
unfolding changed_images
of_group g group layouts others chunks next [] all = tt
of_group g group layouts others chunks next (c ∷ cs) all =
    let P : Image → Type 0 = IsOfGroup g others group next in
    let rest : AllByRecursion P (changed_images g group cs) = of_group g group layouts others chunks next cs all.1 in
    let image : Image = image_for g group c.place c.after in
    let here : P image = record { place = c.place; within = all.0.1; home = refl; bytes = all.0.0.after } in
    let made : AllByRecursion P (chosen (had_bytes c.before c.after) image (changed_images g group cs)) =
    elim (had_bytes c.before c.after) as (λ b. AllByRecursion P (chosen b image (changed_images g group cs))) [ true ↦ rest | false ↦ (here, rest) ] in
    subst (AllByRecursion P) (sym (images_by g group c cs)) made

one_place : (g : Geometry) (group a b : ℕ) → sector_in g group a ≡ sector_in g group b → a ≡ b
unfolding sector_in
one_place g group a b same = omega arith

higher : (g : Geometry) (group a b : ℕ) → a < b → sector_in g group a < sector_in g group b
unfolding sector_in
higher g group a b lt = omega arith

-- each place of a candidate stays, or has an image
stays_or_has : (g : Geometry) (group : ℕ) (layouts others : Layouts) (chunks next : Group) (cs : List Candidate) (place : ℕ)
    → AllByRecursion (Right g group layouts chunks others next) cs → In place (places_of cs)
    → Stays g group layouts chunks others next place ⊎ In (sector_in g group place) (homes (changed_images g group cs))
stays_or_has g group layouts others chunks next [] place all has = absurd has
stays_or_has g group layouts others chunks next (c ∷ cs) place all has =
    let image : Image = image_for g group c.place c.after in
    let rest : List Image = changed_images g group cs in
    let S : Type 0 = Stays g group layouts chunks others next place in
    let s : ℕ = sector_in g group place in
    let made : S ⊎ In s (homes (chosen (had_bytes c.before c.after) image rest)) =
    elim has [
      | inl same ↦
          elim (had_bytes c.before c.after) as (λ b. had_bytes c.before c.after ≡ b → S ⊎ In s (homes (chosen b image rest))) [
            | true ↦ λ is. inl (subst (Stays g group layouts chunks others next) same (all.0.0.after ∙ sym (had-is c.before c.after is) ∙ sym all.0.0.before))
            | false ↦ λ is. inr (inl (ap (sector_in g group) same))
          ] refl
      | inr later ↦
          elim (stays_or_has g group layouts others chunks next cs place all.1 later) [
            | inl stays ↦ inl stays
            | inr there ↦ inr (elim (had_bytes c.before c.after) as (λ b. In s (homes (chosen b image rest))) [ true ↦ there | false ↦ inr there ])
          ]
    ] in
    subst (λ (l : List Image). S ⊎ In s (homes l)) (sym (images_by g group c cs)) made

-- the sector of an image does not stay
differs : (g : Geometry) (group : ℕ) (layouts others : Layouts) (chunks next : Group) (cs : List Candidate) (place : ℕ)
    → AllByRecursion (Right g group layouts chunks others next) cs → In (sector_in g group place) (homes (changed_images g group cs))
    → ¬ Stays g group layouts chunks others next place
unfolding changed_images
differs g group layouts others chunks next [] place all has stays = absurd has
differs g group layouts others chunks next (c ∷ cs) place all has stays =
    let image : Image = image_for g group c.place c.after in
    let rest : List Image = changed_images g group cs in
    let s : ℕ = sector_in g group place in
    let made : In s (homes (chosen (had_bytes c.before c.after) image rest)) = subst (λ (l : List Image). In s (homes l)) (images_by g group c cs) has in
    elim (had_bytes c.before c.after) as (λ b. had_bytes c.before c.after ≡ b → In s (homes (chosen b image rest)) → ⊥) [
      | true ↦ λ is there. differs g group layouts others chunks next cs place all.1 there stays
      | false ↦ λ is there.
          elim there [
            | inl same ↦
                let at : place ≡ c.place = sym (one_place g group c.place place same) in
                let here : Stays g group layouts chunks others next c.place = subst (Stays g group layouts chunks others next) at stays in
                false≢true (sym is ∙ had-refl c.before c.after (sym all.0.0.before ∙ sym here ∙ all.0.0.after))
            | inr later ↦ differs g group layouts others chunks next cs place all.1 later stays
          ]
    ] refl made

all_higher : (g : Geometry) (group low : ℕ) (cs : List Candidate) → AllByRecursion (λ later. low < later) (places_of cs)
    → AllByRecursion (λ later. sector_in g group low < later) (homes (changed_images g group cs))
unfolding changed_images
all_higher g group low [] all = tt
all_higher g group low (c ∷ cs) all =
    let image : Image = image_for g group c.place c.after in
    let rest : List Image = changed_images g group cs in
    let P : List Image → Type 0 = λ l. AllByRecursion (λ later. sector_in g group low < later) (homes l) in
    let later : P rest = all_higher g group low cs all.1 in
    let made : P (chosen (had_bytes c.before c.after) image rest) =
    elim (had_bytes c.before c.after) as (λ b. P (chosen b image rest)) [ true ↦ later | false ↦ (higher g group low c.place all.0, later) ] in
    subst P (sym (images_by g group c cs)) made

homes_up : (g : Geometry) (group : ℕ) (cs : List Candidate) → Up (places_of cs) → Up (homes (changed_images g group cs))
unfolding changed_images
homes_up g group [] up = tt
homes_up g group (c ∷ cs) up =
    let image : Image = image_for g group c.place c.after in
    let rest : List Image = changed_images g group cs in
    let later : Up (homes rest) = homes_up g group cs up.1 in
    let made : Up (homes (chosen (had_bytes c.before c.after) image rest)) =
    elim (had_bytes c.before c.after) as (λ b. Up (homes (chosen b image rest))) [ true ↦ later | false ↦ (all_higher g group c.place cs up.0, later) ] in
    subst (λ (l : List Image). Up (homes l)) (sym (images_by g group c cs)) made

pub images_are : (g : Geometry) (group : ℕ) (layouts others : Layouts) (chunks next : Group) (places : List ℕ) (cs : List Candidate)
    → AreEnough g group layouts chunks others next places → places_of cs ≡ places → All (IsCandidate g group layouts chunks others next) cs
    → AreImagesOf g group layouts chunks others next (changed_images g group cs)
images_are g group layouts others chunks next places cs enough same each =
    let within : AllByRecursion (λ place. place < group_sectors g) (places_of cs) =
    subst (AllByRecursion (λ place. place < group_sectors g)) (sym same) (recursion_from_All (λ place. place < group_sectors g) places enough.within) in
    let right = all_right g group layouts others chunks next cs (recursion_from_All (IsCandidate g group layouts chunks others next) cs each) within in
    let images : List Image = changed_images g group cs in
    record {
      carry = record {
        right = All-from_recursion (IsOfGroup g others group next) images (of_group g group layouts others chunks next cs right);
        whole = λ place low. elim (enough.whole place low) [
          | inl stays ↦ inl stays
          | inr has ↦ elim (stays_or_has g group layouts others chunks next cs place right (subst (In place) (sym same) (in_from place places has))) [
            | inl stays ↦ inl stays
            | inr there ↦ inr (contains_from (sector_in g group place) (homes images) there)
          ]
        ];
      };
      ascend = increasing (homes images) (homes_up g group cs (subst Up (sym same) (up_from places enough.ascend)));
      differ = λ place low has. differs g group layouts others chunks next cs place right (in_from (sector_in g group place) (homes images) has);
    }
