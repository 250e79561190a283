-- Laws of sectors that are kept in memory.
use Rattle.std.specs.Prelude.{◌≡◌, ◌<◌, ℕ, Some, length, slice_get}
use Rattle.std.proofs.Common.{ap, ◌∙◌, arith, get_or}
use Rattle.std.proofs.lemmas.List.FromFn.{length-map-range_with_len, get_or-map-range_with_len}
use Rattle.std.proofs.lemmas.Option.{slice_get-get_or}
use Rattle.std.specs.BTreeMap.{BTreeMap}
use Rattle.life_bytes.specs.declared.sector.Sector.{Sector}
use Rattle.mount.specs.Kept.{kept_image, kept_sector, shown_by}
use Rattle.mount.specs.declared.memory_view.MemoryView.{MemoryView}

pub length-kept_image : (kept : BTreeMap ℕ Sector) (count : ℕ) → length (kept_image kept count) ≡ count
unfolding kept_image
length-kept_image kept count = length-map-range_with_len (kept_sector kept) 0 count

pub get_or-kept_image : (kept : BTreeMap ℕ Sector) (count s : ℕ) (d : Sector) → s < count → get_or (kept_image kept count) s d ≡ kept_sector kept s
unfolding kept_image
get_or-kept_image kept count s d low = get_or-map-range_with_len (kept_sector kept) 0 count s s d low (omega arith)

pub slice_get-kept_image : (kept : BTreeMap ℕ Sector) (count s : ℕ) → s < count → slice_get (kept_image kept count) s ≡ Some (kept_sector kept s)
slice_get-kept_image kept count s low =
    slice_get-get_or (kept_image kept count) s (kept_sector kept s) (omega (arith, low, length-kept_image kept count))
    ∙ ap (λ (x : Sector). Some x) (get_or-kept_image kept count s (kept_sector kept s) low)

-- views over the same sectors show the same
pub same_shown : (old new : MemoryView) → new.kept ≡ old.kept → new.count ≡ old.count → shown_by new ≡ shown_by old
same_shown old new kept count = ap (λ k. kept_image k.now new.count) kept ∙ ap (kept_image old.kept.now) count
