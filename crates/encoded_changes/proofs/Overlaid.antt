-- Images that carry a change, put over an image that encodes a table.
use Rattle.std.proofs.Common.{◌≡◌, ◌<◌, ◌≤◌, ◌+◌, ◌*◌, ◌/◌, ◌%◌, ◌⊎◌, ℕ, zero, suc, cond, List, [], ◌∷◌, Option, None, Some, length, get_or, eqb, ltb, inl, inr, refl, ap, sym, subst, ◌∙◌, arith}
use Rattle.std.specs.Prelude.{unwrap_or, Contains}
use Rattle.std.specs.List.{AllByRecursion}
use Rattle.std.specs.Option.{option_or}
use Rattle.std.proofs.lemmas.Bool.{cases_eq, cases_lt, eq-eqb, ne_eqb, lt-ltb, le-ltb, cond-true, cond-false}
use Rattle.std.proofs.lemmas.Option.{none-some, same_Some}
use Rattle.std.proofs.lemmas.List.{same_lists}
use Rattle.std.proofs.lemmas.List.Elements.{recursion_from_All, All-weaker}
use Rattle.std.proofs.lemmas.List.FromFn.{length-map-range_with_len, get_or-map-range_with_len}
use Rattle.std.proofs.lemmas.Nat.{div-mul-add, mod-mul-add}
use Rattle.std.proofs.Math.Nat.{div-add-mod, div-lt_iff_lt-mul, mod-lt}
use Rattle.life_bytes.specs.declared.sector.Sector.{Sector}
use Rattle.geometry.specs.declared.shape.Geometry.{Geometry}
use Rattle.geometry.specs.Places.{group_sectors}
use Rattle.log_image.specs.Overlay.{overlaid, newest, homes}
use Rattle.log_image.specs.OverlayLaws.{length-overlaid, get_or-overlaid}
use Rattle.log_record.specs.declared.image.Image.{Image}
use Rattle.life_table.specs.declared.table.Table.{Table}
use Rattle.life_table.specs.Table.{group_at}
use Rattle.sound_image.specs.Places.{bytes_at, sector_in}
use Rattle.sound_image.specs.Encoding.{Layouts, metadata, encoded, encoded_bytes}
use Rattle.encoded_changes.specs.Carry.{ChangesOnly, IsOfGroup, IsImageOfTable, Stays, Carry, CarryGroup}
use Rattle.encoded_changes.proofs.Places.{elsewhere}

-- ---- the sectors of an image that encodes a table

abbrev pub sector_of : List ℕ → Sector
sector_of bytes = record { bytes = bytes }

pub length-encoded : (g : Geometry) (t : Table) (layouts : Layouts) (image : List Sector) → length (encoded g t layouts image) ≡ length image
unfolding encoded
length-encoded g t layouts image = length-map-range_with_len (λ s. sector_of (encoded_bytes g t layouts image s)) 0 (length image)

pub at_encoded : (g : Geometry) (t : Table) (layouts : Layouts) (image : List Sector) (s : ℕ) (d : Sector) → s < length image
    → get_or (encoded g t layouts image) s d ≡ sector_of (encoded_bytes g t layouts image s)
unfolding encoded
at_encoded g t layouts image s d lt =
    get_or-map-range_with_len (λ s. sector_of (encoded_bytes g t layouts image s)) 0 (length image) s s d lt (omega arith)

-- a place of a group of the image
in_image : (groups size group place : ℕ) → group < groups → place < size → group * size + place < groups * size
in_image groups size group place lt low = let all : (group + 1) * size ≤ groups * size = grind arith in omega arith

pub in_group : (g : Geometry) (t : Table) (layouts : Layouts) (image : List Sector) (group place : ℕ) → group < g.groups → place < group_sectors g
    → encoded_bytes g t layouts image (sector_in g group place) ≡ unwrap_or (metadata g layouts group (group_at t group) place) (bytes_at image (sector_in g group place))
unfolding encoded_bytes sector_in
in_group g t layouts image group place lt low =
    let within : group * group_sectors g + place < g.groups * group_sectors g = in_image g.groups (group_sectors g) group place lt low in
    let old : List ℕ = bytes_at image (group * group_sectors g + place) in
    cond-true (ltb (group * group_sectors g + place) (g.groups * group_sectors g)) _ _ (lt-ltb (group * group_sectors g + place) (g.groups * group_sectors g) within)
    ∙ ap (λ (x : ℕ). unwrap_or (metadata g layouts x (group_at t x) ((group * group_sectors g + place) % group_sectors g)) old) (div-mul-add group (group_sectors g) place low)
    ∙ ap (λ (x : ℕ). unwrap_or (metadata g layouts group (group_at t group) x) old) (mod-mul-add group (group_sectors g) place low)

behind : (g : Geometry) (t : Table) (layouts : Layouts) (image : List Sector) (s : ℕ) → g.groups * group_sectors g ≤ s → encoded_bytes g t layouts image s ≡ bytes_at image s
unfolding encoded_bytes
behind g t layouts image s past = cond-false (ltb s (g.groups * group_sectors g)) _ _ (le-ltb s (g.groups * group_sectors g) past)

-- ---- the newest image of a home

abbrev one_newest : ℕ → Image → Option Sector
one_newest home image = cond (eqb image.home home) (Some image.sector) None

newest-is : (P : Image → Type 0) (home : ℕ) (images : List Image) (sector : Sector) → AllByRecursion P images → newest home images ≡ Some sector → P (record { home = home; sector = sector })
unfolding newest
newest-is P home [] sector all e = absurd (none-some sector e)
newest-is P home (image ∷ images) sector all e =
    elim (newest home images) as (λ (o : Option Sector). newest home images ≡ o → option_or o (one_newest home image) ≡ Some sector → P (record { home = home; sector = sector })) [
      | None ↦ λ is has.
          elim (cases_eq image.home home) [
            | inl same ↦
                let put : Some image.sector ≡ Some sector = sym (cond-true (eqb image.home home) (Some image.sector) None (eq-eqb image.home home same)) ∙ has in
                subst (λ (h : ℕ). P (record { home = h; sector = sector })) same
                (subst (λ (x : Sector). P (record { home = image.home; sector = x })) (same_Some image.sector sector put) all.0)
            | inr other ↦ absurd (none-some sector (sym (cond-false (eqb image.home home) (Some image.sector) None (ne_eqb image.home home other)) ∙ has))
          ]
      | Some x ↦ λ is has. newest-is P home images sector all.1 (is ∙ has)
    ] refl e

or_none : (a b : Option Sector) → option_or a b ≡ None → (a ≡ None) × (b ≡ None)
or_none None b e = (refl, e)
or_none (Some x) b e = absurd (none-some x (sym e))

newest-has : (home : ℕ) (images : List Image) → Contains (homes images) home → newest home images ≡ None → ⊥
unfolding newest
newest-has home [] has e = absurd (omega (arith, has.1))
newest-has home (image ∷ images) (zero, lt, at) e =
    let none = (or_none (newest home images) (one_newest home image) e).1 in
    none-some image.sector (sym none ∙ cond-true (eqb image.home home) (Some image.sector) None (eq-eqb image.home home at))
newest-has home (image ∷ images) (suc k, lt, at) e =
    newest-has home images (k, omega arith, at) (or_none (newest home images) (one_newest home image) e).0

-- ---- the sectors after the change

-- one that an image has
carried_here : (g : Geometry) (u : Table) (others : Layouts) (image : List Sector) (home : ℕ) (sector : Sector) → IsImageOfTable g others u (record { home = home; sector = sector })
    → encoded_bytes g u others image home ≡ sector.bytes
carried_here g u others image home sector (group, lt, is) =
    ap (encoded_bytes g u others image) is.home
    ∙ in_group g u others image group is.place lt is.within
    ∙ ap (λ (o : Option (List ℕ)). unwrap_or o (bytes_at image (sector_in g group is.place))) is.bytes

-- one in the groups that none has
stays_here : (g : Geometry) (t u : Table) (layouts others : Layouts) (image : List Sector) (images : List Image) (group place : ℕ) → Carry g t layouts u others images
    → group < g.groups → place < group_sectors g → newest (sector_in g group place) images ≡ None
    → encoded_bytes g t layouts image (sector_in g group place) ≡ encoded_bytes g u others image (sector_in g group place)
stays_here g t u layouts others image images group place carry lt low none =
    elim (carry.whole group place lt low) [
      | inl same ↦
          in_group g t layouts image group place lt low
          ∙ ap (λ (o : Option (List ℕ)). unwrap_or o (bytes_at image (sector_in g group place))) (sym same)
          ∙ sym (in_group g u others image group place lt low)
      | inr has ↦ absurd (newest-has (sector_in g group place) images has none)
    ]

-- each sector of the groups is a place of one of them
split : (g : Geometry) (s : ℕ) → s < g.groups * group_sectors g → (s / group_sectors g < g.groups) × (s % group_sectors g < group_sectors g) × (sector_in g (s / group_sectors g) (s % group_sectors g) ≡ s)
unfolding sector_in
split g s lt = split_number g.groups (group_sectors g) s lt
  where
    split_number : (n size s : ℕ) → s < n * size → (s / size < n) × (s % size < size) × ((s / size) * size + s % size ≡ s)
    split_number n zero s lt = absurd (omega arith)
    split_number n (suc k) s lt =
        let whole = div-add-mod s (suc k) in
        let low : s % suc k < suc k = mod-lt s (omega arith) in
        ((div-lt_iff_lt-mul (omega arith)).1 lt, low, omega (arith, whole))

unmet : (g : Geometry) (t u : Table) (layouts others : Layouts) (image : List Sector) (images : List Image) (s : ℕ) → Carry g t layouts u others images
    → newest s images ≡ None → encoded_bytes g t layouts image s ≡ encoded_bytes g u others image s
unmet g t u layouts others image images s carry none =
    elim (cases_lt s (g.groups * group_sectors g)) [
      | inl lt ↦
          let at = split g s lt in
          subst (λ (x : ℕ). encoded_bytes g t layouts image x ≡ encoded_bytes g u others image x) at.2
          (stays_here g t u layouts others image images (s / group_sectors g) (s % group_sectors g) carry at.0 at.1 (ap (λ (x : ℕ). newest x images) at.2 ∙ none))
      | inr past ↦ behind g t layouts image s past ∙ sym (behind g u others image s past)
    ]

each_sector : (g : Geometry) (t u : Table) (layouts others : Layouts) (image : List Sector) (images : List Image) (s : ℕ) → Carry g t layouts u others images
    → unwrap_or (newest s images) (sector_of (encoded_bytes g t layouts image s)) ≡ sector_of (encoded_bytes g u others image s)
each_sector g t u layouts others image images s carry =
    elim (newest s images) as (λ (o : Option Sector). newest s images ≡ o → unwrap_or o (sector_of (encoded_bytes g t layouts image s)) ≡ sector_of (encoded_bytes g u others image s)) [
      | None ↦ λ is. ap sector_of (unmet g t u layouts others image images s carry is)
      | Some sector ↦ λ is. ap sector_of (sym (carried_here g u others image s sector
          (newest-is (IsImageOfTable g others u) s images sector (recursion_from_All (IsImageOfTable g others u) images carry.right) is)))
    ] refl

pub carried : (g : Geometry) (t u : Table) (layouts others : Layouts) (image : List Sector) (images : List Image) → g.groups * group_sectors g ≤ length image → Carry g t layouts u others images
    → overlaid (encoded g t layouts image) images ≡ encoded g u others image
carried g t u layouts others image images size carry =
    let old : List Sector = encoded g t layouts image in
    let new : List Sector = encoded g u others image in
    let before = length-encoded g t layouts image in
    let after = length-encoded g u others image in
    let long = length-overlaid old images in
    same_lists (overlaid old images) new (omega (arith, before, after, long))
    (λ s d lt.
    let within : s < length image = omega (arith, before, long) in
    get_or-overlaid old images s d (omega (arith, before))
    ∙ ap (λ (x : Sector). unwrap_or (newest s images) x) (at_encoded g t layouts image s d within)
    ∙ each_sector g t u layouts others image images s carry
    ∙ sym (at_encoded g u others image s d within))

pub of_one_group : (g : Geometry) (t u : Table) (layouts others : Layouts) (group : ℕ) (images : List Image) → group < g.groups → ChangesOnly group t layouts u others
    → CarryGroup g group layouts (group_at t group) others (group_at u group) images → Carry g t layouts u others images
of_one_group g t u layouts others group images lt only carry =
    record {
      right = All-weaker (IsOfGroup g others group (group_at u group)) (IsImageOfTable g others u) (λ image is. (group, lt, is)) images carry.right;
      whole = λ other place below low. elim (cases_eq other group) [
        | inl same ↦ subst (λ (x : ℕ). Stays g x layouts (group_at t x) others (group_at u x) place ⊎ Contains (homes images) (sector_in g x place)) (sym same) (carry.whole place low)
        | inr apart ↦ inl (elsewhere g layouts others other (group_at t other) (group_at u other) place (only.layouts_of other apart) (only.chunks other apart))
      ];
    }
