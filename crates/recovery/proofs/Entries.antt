-- Images as the entries of a map.
use Rattle.std.proofs.Common.{◌≡◌, ℕ, ◌+◌, List, [], ◌∷◌, cond, refl, sym, ap, ◌∙◌, inl, inr, arith}
use Rattle.std.specs.Prelude.{Some}
use Rattle.std.specs.declared.cmp.Ordering.{Ordering}
use Rattle.std.specs.declared.cmp.Ordering.TheVariants.{Less, Equal, Greater}
use Rattle.std.specs.Ordering.{nat_cmp, is_eq, match_ordering}
use Rattle.std.specs.Cmp.{nat_cmp_is}
use Rattle.std.specs.BTreeMap.{insert_entry, is_at}
use Rattle.std.specs.Map.{lookup}
use Rattle.std.proofs.lemmas.Bool.{cases_lt}
use Rattle.life_bytes.specs.declared.sector.Sector.{Sector}
use Rattle.log_record.specs.declared.image.Image.{Image}
use Rattle.log_image.specs.Overlay.{newest}
use Rattle.log_batch.specs.Put.{put, KeysRise}
use Rattle.log_batch.specs.PutLaws.{put_front, put_over, put_behind}
use Rattle.log_batch.specs.NewestLaws.{newest-nil, newest_first, newest_rest}
use Rattle.recovery.specs.Homes.{images_in}

home_of : Image → ℕ
home_of image = image.home

-- an entry that is put into a map is its image put in its place
pub images_in-insert : (entries : List (ℕ × Sector)) (home : ℕ) (sector : Sector)
    → images_in (insert_entry nat_cmp entries home sector) ≡ put (record { home = home; sector = sector }) (images_in entries)
images_in-insert [] home sector = refl
images_in-insert (entry ∷ entries) home sector =
    let x : Image = record { home = home; sector = sector } in
    let y : Image = record { home = entry.0; sector = entry.1 } in
    let place = λ (o : Ordering). images_in (match_ordering o ((home, sector) ∷ (entry ∷ entries)) ((entry.0, sector) ∷ entries) (entry ∷ insert_entry nat_cmp entries home sector)) in
    elim (cases_lt home entry.0) [
      | inl below ↦ ap place (sym (nat_cmp_is home entry.0 Less below)) ∙ sym (put_front (λ (i : Image). i.home) x y (images_in entries) below)
      | inr behind ↦ elim (cases_lt entry.0 home) [
        | inl above ↦
            ap place (sym (nat_cmp_is home entry.0 Greater above)) ∙ ap (λ (rest : List Image). y ∷ rest) (images_in-insert entries home sector)
            ∙ sym (put_behind (λ (i : Image). i.home) x y (images_in entries) above)
        | inr under ↦
            let same : home ≡ entry.0 = omega arith in
            ap place (sym (nat_cmp_is home entry.0 Equal same)) ∙ ap (λ (k : ℕ). (record { home = k; sector = sector }) ∷ images_in entries) (sym same)
            ∙ sym (put_over (λ (i : Image). i.home) x y (images_in entries) same)
      ]
    ]

-- what a map has at a home is the newest image of it
pub newest-images_in : (low home : ℕ) (entries : List (ℕ × Sector)) → KeysRise (λ i. i.home) low (images_in entries)
    → lookup (is_at (nat_cmp home)) entries ≡ newest home (images_in entries)
newest-images_in low home [] rise = sym (newest-nil home)
newest-images_in low home (entry ∷ entries) rise =
    let y : Image = record { home = entry.0; sector = entry.1 } in
    let look = λ (o : Ordering). cond (is_eq o) (Some entry.1) (lookup (is_at (nat_cmp home)) entries) in
    let rest = newest-images_in (entry.0 + 1) home entries rise.1 in
    elim (cases_lt home entry.0) [
      | inl below ↦ ap look (sym (nat_cmp_is home entry.0 Less below)) ∙ rest ∙ sym (newest_rest home y (images_in entries) (omega arith))
      | inr behind ↦ elim (cases_lt entry.0 home) [
        | inl above ↦ ap look (sym (nat_cmp_is home entry.0 Greater above)) ∙ rest ∙ sym (newest_rest home y (images_in entries) (omega arith))
        | inr under ↦
            let same : home ≡ entry.0 = omega arith in
            ap look (sym (nat_cmp_is home entry.0 Equal same)) ∙ sym (newest_first low y (images_in entries) rise)
            ∙ ap (λ (k : ℕ). newest k (y ∷ images_in entries)) (sym same)
      ]
    ]
