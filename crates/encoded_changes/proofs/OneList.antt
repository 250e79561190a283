-- The images of a change of one group: what they give, and that they are one list.
use Rattle.std.proofs.Common.{◌≡◌, ◌<◌, ◌≤◌, ◌+◌, ◌⊎◌, ℕ, zero, suc, List, [], ◌∷◌, length, get_or, inl, inr, refl, ap, sym, subst, ◌∙◌, arith}
use Rattle.std.specs.Prelude.{◌≢◌, ⊤, Contains}
use Rattle.std.specs.List.{AllByRecursion}
use Rattle.std.specs.List.Sorted.{IsStrictlyIncreasing}
use Rattle.std.proofs.lemmas.Option.{same_Some}
use Rattle.std.proofs.lemmas.List.Elements.{recursion_from_All}
use Rattle.life_bytes.specs.declared.sector.Sector.{Sector}
use Rattle.geometry.specs.declared.shape.Geometry.{Geometry}
use Rattle.log_image.specs.Overlay.{overlaid, homes}
use Rattle.log_record.specs.declared.image.Image.{Image}
use Rattle.life_table.specs.declared.table.Table.{Table}
use Rattle.life_table.specs.Table.{Group, group_at, with_group}
use Rattle.sound_image.specs.Places.{sector_in}
use Rattle.sound_image.specs.Encoding.{Layouts, CanEncode, layout_of, metadata, encoded}
use Rattle.encoded_changes.specs.Carry.{AreImagesOf, IsOfGroup, CarryGroup}
use Rattle.encoded_changes.proofs.Overlaid.{of_one_group, sector_of, carried}
use Rattle.encoded_changes.proofs.Rows.{changes_only, own_group}

pub carried_in_group : (g : Geometry) (t : Table) (layouts others : Layouts) (image : List Sector) (group : ℕ) (next : Group) (images : List Image)
    → CanEncode g t layouts image → group < g.groups → ((other : ℕ) → other ≢ group → layout_of others other ≡ layout_of layouts other)
    → CarryGroup g group layouts (group_at t group) others next images
    → overlaid (encoded g t layouts image) images ≡ encoded g (with_group t group next) others image
carried_in_group g t layouts others image group next images can lt same carry =
    let u : Table = with_group t group next in
    let own : group_at u group ≡ next = own_group t group next (omega (arith, lt, can.groups)) in
    carried g t u layouts others image images can.size
    (of_one_group g t u layouts others group images lt (changes_only t layouts others group next same)
    (subst (λ (cs : Group). CarryGroup g group layouts (group_at t group) others cs images) (sym own) carry))

-- ---- ascending lists with the same members

abbrev In : ℕ → List ℕ → Type 0
In x [] = ⊥
In x (y ∷ ys) = (y ≡ x) ⊎ In x ys

abbrev Up : List ℕ → Type 0
Up [] = ⊤
Up (x ∷ xs) = AllByRecursion (λ later. x < later) xs × Up xs

in_from : (x : ℕ) (xs : List ℕ) → Contains xs x → In x xs
in_from x [] (k, lt, at) = absurd (omega (arith, lt))
in_from x (y ∷ ys) (zero, lt, at) = inl at
in_from x (y ∷ ys) (suc k, lt, at) = inr (in_from x ys (k, omega arith, at))

contains_from : (x : ℕ) (xs : List ℕ) → In x xs → Contains xs x
contains_from x [] has = absurd has
contains_from x (y ∷ ys) (inl same) = (0, omega arith, same)
contains_from x (y ∷ ys) (inr has) = let rest = contains_from x ys has in (suc rest.0, omega (arith, rest.1), rest.2)

above : (x y : ℕ) (xs : List ℕ) → x < y → AllByRecursion (λ later. y < later) xs → AllByRecursion (λ later. x < later) xs
above x y [] lt all = tt
above x y (z ∷ zs) lt all = (omega (arith, lt, all.0), above x y zs lt all.1)

up_from : (xs : List ℕ) → IsStrictlyIncreasing xs → Up xs
up_from [] up = tt
up_from (x ∷ []) up = (tt, tt)
up_from (x ∷ y ∷ ys) up =
    let rest : Up (y ∷ ys) = up_from (y ∷ ys) (λ k lt.
    let e : suc k + 1 ≡ suc (k + 1) = omega arith in
    subst (λ (n : ℕ). get_or (y ∷ ys) k 0 < get_or (x ∷ y ∷ ys) n 0) e (up (suc k) (omega (arith, lt)))) in
    let first : x < y = up 0 (omega arith) in
    ((first, above x y ys first rest.0), rest)

over : (x y : ℕ) (xs : List ℕ) → AllByRecursion (λ later. x < later) xs → In y xs → x < y
over x y [] all has = absurd has
over x y (z ∷ zs) all (inl same) = subst (λ (n : ℕ). x < n) same all.0
over x y (z ∷ zs) all (inr has) = over x y zs all.1 has

same_members : (xs ys : List ℕ) → Up xs → Up ys → ((x : ℕ) → In x xs → In x ys) → ((x : ℕ) → In x ys → In x xs) → xs ≡ ys
same_members [] [] a b f g = refl
same_members [] (y ∷ ys) a b f g = absurd (g y (inl refl))
same_members (x ∷ xs) [] a b f g = absurd (f x (inl refl))
same_members (x ∷ xs) (y ∷ ys) a b f g =
    let low : y ≤ x = first x y ys b.0 (f x (inl refl)) in
    let high : x ≤ y = first y x xs a.0 (g y (inl refl)) in
    let same : x ≡ y = omega arith in
    let rest : xs ≡ ys = same_members xs ys a.1 b.1
    (λ z has. later y z ys (omega (arith, same, over x z xs a.0 has)) (f z (inr has)))
    (λ z has. later x z xs (omega (arith, same, over y z ys b.0 has)) (g z (inr has))) in
    ap (λ (h : ℕ). h ∷ xs) same ∙ ap (λ (l : List ℕ). y ∷ l) rest
  where
    first : (a b : ℕ) (rest : List ℕ) → AllByRecursion (λ later. b < later) rest → In a (b ∷ rest) → b ≤ a
    first a b rest all (inl same) = omega (arith, same)
    first a b rest all (inr has) = omega (arith, over b a rest all has)

    later : (head z : ℕ) (rest : List ℕ) → head < z → In z (head ∷ rest) → In z rest
    later head z rest lt (inl same) = absurd (omega (arith, same))
    later head z rest lt (inr has) = has

-- ---- the two lists of images

-- an image whose home is one of the homes
image_at : (P : Image → Type 0) (images : List Image) (home : ℕ) → AllByRecursion P images → In home (homes images) → (image : Image) × P image × (image.home ≡ home)
image_at P [] home all has = absurd has
image_at P (image ∷ images) home all (inl same) = (image, all.0, same)
image_at P (image ∷ images) home all (inr has) = image_at P images home all.1 has

has_too : (g : Geometry) (group : ℕ) (layouts others : Layouts) (chunks next : Group) (first second : List Image)
    → AreImagesOf g group layouts chunks others next first → AreImagesOf g group layouts chunks others next second
    → (home : ℕ) → In home (homes first) → In home (homes second)
has_too g group layouts others chunks next first second a b home has =
    let found = image_at (IsOfGroup g others group next) first home (recursion_from_All (IsOfGroup g others group next) first a.carry.right) has in
    let at : sector_in g group found.1.place ≡ home = sym found.1.home ∙ found.2 in
    let low = found.1.within in
    elim (b.carry.whole found.1.place low) [
      | inl stays ↦ absurd (a.differ found.1.place low (subst (Contains (homes first)) (sym at) (contains_from home (homes first) has)) stays)
      | inr there ↦ in_from home (homes second) (subst (Contains (homes second)) at there)
    ]

one_place : (g : Geometry) (group a b : ℕ) → sector_in g group a ≡ sector_in g group b → a ≡ b
unfolding sector_in
one_place g group a b same = omega arith

image_made : ℕ → List ℕ → Image
image_made home bytes = record { home = home; sector = sector_of bytes }

same_image : (g : Geometry) (others : Layouts) (group : ℕ) (next : Group) (a b : Image) → IsOfGroup g others group next a → IsOfGroup g others group next b → a.home ≡ b.home → a ≡ b
unfolding image_made
same_image g others group next a b p q same =
    let place : p.place ≡ q.place = one_place g group p.place q.place (sym p.home ∙ same ∙ q.home) in
    let bytes : a.sector.bytes ≡ b.sector.bytes =
    same_Some a.sector.bytes b.sector.bytes (sym p.bytes ∙ ap (metadata g others group next) place ∙ q.bytes) in
    ap (λ (h : ℕ). image_made h a.sector.bytes) same ∙ ap (image_made b.home) bytes

same_images : (g : Geometry) (others : Layouts) (group : ℕ) (next : Group) (first second : List Image) → AllByRecursion (IsOfGroup g others group next) first
    → AllByRecursion (IsOfGroup g others group next) second → homes first ≡ homes second → first ≡ second
same_images g others group next [] [] a b same = refl
same_images g others group next [] (y ∷ ys) a b same = absurd (let long = ap length same in omega (arith, long))
same_images g others group next (x ∷ xs) [] a b same = absurd (let long = ap length same in omega (arith, long))
same_images g others group next (x ∷ xs) (y ∷ ys) a b same =
    let head : x ≡ y = same_image g others group next x y a.0 b.0 (ap (λ (l : List ℕ). get_or l 0 0) same) in
    let tail : xs ≡ ys = same_images g others group next xs ys a.1 b.1 (ap tail_of same) in
    ap (λ (z : Image). z ∷ xs) head ∙ ap (λ (l : List Image). y ∷ l) tail
  where
    tail_of : List ℕ → List ℕ
    tail_of [] = []
    tail_of (x ∷ xs) = xs

pub one_list : (g : Geometry) (group : ℕ) (layouts others : Layouts) (chunks next : Group) (first second : List Image)
    → AreImagesOf g group layouts chunks others next first → AreImagesOf g group layouts chunks others next second → first ≡ second
one_list g group layouts others chunks next first second a b =
    same_images g others group next first second
    (recursion_from_All (IsOfGroup g others group next) first a.carry.right)
    (recursion_from_All (IsOfGroup g others group next) second b.carry.right)
    (same_members (homes first) (homes second) (up_from (homes first) a.ascend) (up_from (homes second) b.ascend)
    (has_too g group layouts others chunks next first second a b)
    (has_too g group layouts others chunks next second first b a))
