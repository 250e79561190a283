-- Sectors of 512 bytes hold the parts of the bytes that they hold together.
use Rattle.std.proofs.Common.{◌≡◌, ◌<◌, ◌+◌, ◌*◌, ℕ, zero, suc, List, [], ◌∷◌, ◌++◌, length, take, drop, get_or, sym, ap, ◌∙◌, arith}
use Rattle.std.proofs.lemmas.List.{take_at, drop_at, drop-drop}
use Rattle.life_bytes.specs.declared.sector.Sector.{Sector}
use Rattle.life_bytes.specs.Sectors.{zero_sector}
use Rattle.life_bytes.specs.SectorBytes.{bytes_of}
use Rattle.sound_image.specs.Places.{bytes_at, part}

pub parts_held : (sectors : List Sector) (k : ℕ) → ((j : ℕ) → j < length sectors → length (get_or sectors j zero_sector).bytes ≡ 512) → k < length sectors
    → bytes_at sectors k ≡ part k (bytes_of sectors)
unfolding part bytes_at
parts_held [] k whole lt = absurd (omega arith)
parts_held (sector ∷ sectors) zero whole lt = sym (take_at sector.bytes (bytes_of sectors) 512 (whole 0 (omega arith)))
parts_held (sector ∷ sectors) (suc k) whole lt =
    let rest = parts_held sectors k (λ j low. whole (suc j) (omega arith)) (omega arith) in
    let far : 512 * suc k ≡ 512 + 512 * k = omega arith in
    rest
    ∙ ap (λ (l : List ℕ). take 512 (drop (512 * k) l)) (sym (drop_at sector.bytes (bytes_of sectors) 512 (whole 0 (omega arith))))
    ∙ ap (take 512) (drop-drop (512 * k) 512 (sector.bytes ++ bytes_of sectors))
    ∙ ap (λ (n : ℕ). take 512 (drop n (sector.bytes ++ bytes_of sectors))) (sym far)
