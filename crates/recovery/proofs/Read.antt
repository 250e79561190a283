-- Sectors that are read one by one, and what a log says of the image that they are of.
use Rattle.std.proofs.Common.{◌≡◌, ℕ, ◌+◌, ◌<◌, List, [], ◌∷◌, ◌++◌, Some, length, take, drop, slice_get, get_or, ap, subst, ◌∙◌, inr, arith, length-drop}
use Rattle.std.specs.Prelude.{Result, Ok, Err, IfErr}
use Rattle.std.proofs.lemmas.List.{take_more, get_or-drop}
use Rattle.std.proofs.lemmas.Option.{slice_get_within, get_or_from_slice_get}
use Rattle.life_bytes.specs.declared.sector.Sector.{Sector}
use Rattle.log_image.specs.Anchor.{HasAnchor}
use Rattle.log_image.specs.Damage.{LogBreaksFirst}
use Rattle.log_image.specs.Log.{ring_part}
use Rattle.recovery.specs.Broken.{BreaksLog}
use Rattle.recovery.specs.Scan.{NamesLogDamage}
use Rattle.recovery.specs.declared.fault.ScanFault.{ScanFault}
use Rattle.recovery.specs.declared.fault.ScanFault.TheVariants.{Damaged, ReadFault, NoMemory}
use Rattle.recovery.specs.declared.found.Found.{Found}

-- one sector more behind a place
pub one_more : (reads : List Sector) (from i : ℕ) (sector : Sector) → slice_get reads (from + i) ≡ Some sector
    → take (i + 1) (drop from reads) ≡ take i (drop from reads) ++ sector ∷ []
one_more reads from i sector one =
    let within : from + i < length reads = slice_get_within reads (from + i) sector one in
    let inside : i < length (drop from reads) = omega (arith, length-drop from reads) in
    let at : get_or (drop from reads) i sector ≡ sector = get_or-drop from reads i sector ∙ get_or_from_slice_get reads (from + i) sector sector one in
    take_more (drop from reads) i sector inside ∙ ap (λ (s : Sector). take i (drop from reads) ++ s ∷ []) at

-- what breaks the ring breaks the image
pub tells : (image : List Sector) (anchor at ring position next : ℕ) (part : List Sector) (r : Result Found ScanFault)
    → HasAnchor image anchor ring position next → at ≡ anchor → part ≡ ring_part anchor ring image
    → IfErr r (BreaksLog part at position) → IfErr r (NamesLogDamage image anchor ring)
tells image anchor at ring position next part (Ok found) has same is broken = tt
tells image anchor at ring position next part (Err (Damaged rule s)) has same is broken =
    let breaks : LogBreaksFirst (ring_part anchor ring image) anchor position s =
    subst (λ (n : ℕ). LogBreaksFirst (ring_part anchor ring image) n position s) same
    (subst (λ (l : List Sector). LogBreaksFirst l at position s) is broken.1) in
    inr (broken.0, (position, next, has, breaks))
tells image anchor at ring position next part (Err ReadFault) has same is broken = tt
tells image anchor at ring position next part (Err NoMemory) has same is broken = tt
