-- Sectors put at a place among others.
use Rattle.std.proofs.Common.{◌≡◌, ◌<◌, ◌≤◌, ◌+◌, ◌-◌, ℕ, zero, suc, List, ◌++◌, length, take, drop, replicate, refl, ap, ◌∙◌, arith}
use Rattle.std.proofs.lemmas.List.{get_or_append_left, get_or-append_right, get_or-take, get_or-drop, length-take-le, length-append, length-drop}
use Rattle.life_bytes.specs.declared.sector.Sector.{Sector}
use Rattle.life_bytes.specs.Sectors.{zero_sector}
use Rattle.image_make.specs.Empty.{sector_or_zero}

-- sectors with others put at a place
abbrev pub with_at : ℕ → List Sector → List Sector → List Sector
with_at at pieces sectors = take at sectors ++ pieces ++ drop (at + length pieces) sectors

pub length-with_at : (at : ℕ) (pieces sectors : List Sector) → at + length pieces ≤ length sectors → length (with_at at pieces sectors) ≡ length sectors
length-with_at at pieces sectors fits =
    omega (
      arith,
      length-append (take at sectors ++ pieces) (drop (at + length pieces) sectors),
      length-append (take at sectors) pieces,
      length-take-le at sectors (omega arith),
      length-drop (at + length pieces) sectors,
    )

front_long : (at : ℕ) (pieces sectors : List Sector) → at + length pieces ≤ length sectors → length (take at sectors ++ pieces) ≡ at + length pieces
front_long at pieces sectors fits = omega (arith, length-append (take at sectors) pieces, length-take-le at sectors (omega arith))

pub put_inside : (at k : ℕ) (pieces sectors : List Sector) → at + length pieces ≤ length sectors → k < length pieces → sector_or_zero (with_at at pieces sectors) (at + k) ≡ sector_or_zero pieces k
put_inside at k pieces sectors fits lt =
    let long = front_long at pieces sectors fits in
    let few = length-take-le at sectors (omega arith) in
    let back : at + k - at ≡ k = omega arith in
    get_or_append_left (take at sectors ++ pieces) (drop (at + length pieces) sectors) zero_sector (at + k) (omega arith)
    ∙ get_or-append_right (take at sectors) pieces at (at + k) zero_sector few (omega arith)
    ∙ ap (sector_or_zero pieces) back

pub put_before : (at s : ℕ) (pieces sectors : List Sector) → at + length pieces ≤ length sectors → s < at → sector_or_zero (with_at at pieces sectors) s ≡ sector_or_zero sectors s
put_before at s pieces sectors fits lt =
    let long = front_long at pieces sectors fits in
    let few = length-take-le at sectors (omega arith) in
    get_or_append_left (take at sectors ++ pieces) (drop (at + length pieces) sectors) zero_sector s (omega arith)
    ∙ get_or_append_left (take at sectors) pieces zero_sector s (omega arith)
    ∙ get_or-take at sectors s zero_sector lt

pub put_behind : (at s : ℕ) (pieces sectors : List Sector) → at + length pieces ≤ length sectors → at + length pieces ≤ s → sector_or_zero (with_at at pieces sectors) s ≡ sector_or_zero sectors s
put_behind at s pieces sectors fits le =
    let long = front_long at pieces sectors fits in
    let back : at + length pieces + (s - (at + length pieces)) ≡ s = omega arith in
    get_or-append_right (take at sectors ++ pieces) (drop (at + length pieces) sectors) (at + length pieces) s zero_sector long le
    ∙ get_or-drop (at + length pieces) sectors (s - (at + length pieces)) zero_sector
    ∙ ap (sector_or_zero sectors) back

pub all_zero : (n k : ℕ) → sector_or_zero (replicate n zero_sector) k ≡ zero_sector
all_zero zero k = refl
all_zero (suc n) zero = refl
all_zero (suc n) (suc k) = all_zero n k
