-- Picking one outcome of a stop, sector by sector.
use Rattle.std.proofs.Common.{◌≡◌, ◌<◌, ◌≤◌, ◌+◌, ◌-◌, reverse, inl, inr, ℕ, zero, suc, None, Some, option_map, slice_get, ◌/◌, ◌%◌, set, drop, List, [], ◌∷◌, ◌++◌, length, take, get_or, refl, sym, ◌∙◌, ap, subst, arith, add-one, append_assoc, append-nil}
use Rattle.std.proofs.lemmas.Grind.{common_steps}
use Rattle.std.proofs.Math.Seq.{drop-cons}
use Rattle.std.proofs.lemmas.Bool.{cases_lt}
use Rattle.std.proofs.lemmas.List.Elements.{Contains-get_or}
use Rattle.std.proofs.lemmas.List.{get_or-reverse, get_or_past, length-reverse, take_more, take_more_set, take_all, drop_all, drop-set-lt, map-append}
use Rattle.std.proofs.lemmas.Option.{slice_get-map, slice_get-get_or, get_or_from_slice_get, slice_get_within}
use Rattle.life_bytes.specs.declared.sector.Sector.{Sector}
use Rattle.disk_model.specs.declared.memory_disk.Entry.{Entry}
use Rattle.disk_model.specs.Disk.{Cell, MayLeave, IsImage, settled, settled_as, overwritten, written, flushed}
use Rattle.disk_model.specs.MemoryDisk.{Change, after_change, after_changes}
use Rattle.disk_model.specs.MemoryDisk.Change.{Write, Flush}
use Rattle.disk_model.specs.DiskLaws.{length-written, length-flushed, length-settled_as}
use Rattle.disk_model.specs.Outcome.{candidates, candidate_at, picked}
use Rattle.disk_model.specs.MemoryEntry.{change_of, changes_of}
use Rattle.disk_model.specs.OneSector.{piece_for, written_if, cell_after, cell_replayed, Walked}

cell_replayed-push : (at : ℕ) (cell : Cell) (changes : List Change) (change : Change) → cell_replayed at cell (changes ++ change ∷ []) ≡ cell_after at (cell_replayed at cell changes) change
cell_replayed-push at cell [] change = refl
cell_replayed-push at cell (first ∷ changes) change = cell_replayed-push at (cell_after at cell first) changes change

changes_of-more : (entries : List Entry) (i : ℕ) (entry : Entry) → i < length entries → entry ≡ get_or entries i entry → changes_of (take (i + 1) entries) ≡ changes_of (take i entries) ++ change_of entry ∷ []
changes_of-more entries i entry below is =
    ap (λ es. changes_of es) (take_more entries i entry below)
    ∙ map-append change_of (take i entries) (get_or entries i entry ∷ [])
    ∙ ap (λ e. changes_of (take i entries) ++ change_of e ∷ []) (sym is)

-- one entry more
pub Walked-more : (at index count : ℕ) (cell : Cell) (last chosen : Sector) (entries : List Entry) (i : ℕ) (entry : Entry) → i < length entries → entry ≡ get_or entries i entry
    → Walked index (cell_after at (cell_replayed at cell (changes_of (take i entries))) (change_of entry)) count last chosen
    → Walked index (cell_replayed at cell (changes_of (take (i + 1) entries))) count last chosen
Walked-more at index count cell last chosen entries i entry below is walked =
    let Goal : Cell → Type 0 = λ c. Walked index c count last chosen in
    subst Goal (sym (ap (λ changes. cell_replayed at cell changes) (changes_of-more entries i entry below is) ∙ cell_replayed-push at cell (changes_of (take i entries)) (change_of entry))) walked

-- ---- one sector among all

piece_for-none : (start at : ℕ) → piece_for start [] at ≡ None
piece_for-none start at = grind (arith, common_steps)

piece_for-first : (pieces : List Sector) (at : ℕ) → piece_for 0 pieces at ≡ slice_get pieces at
piece_for-first pieces at = grind (arith, common_steps)

piece_for-suc : (start : ℕ) (pieces : List Sector) (at : ℕ) → piece_for (suc start) pieces (suc at) ≡ piece_for start pieces at
piece_for-suc start pieces at = grind (arith, common_steps)

piece_for-before : (start : ℕ) (pieces : List Sector) → piece_for (suc start) pieces 0 ≡ None
piece_for-before start pieces = grind (arith, common_steps)

get-written : (start : ℕ) (pieces : List Sector) (cells : List Cell) (at : ℕ) (cell : Cell) → slice_get cells at ≡ Some cell → slice_get (written start pieces cells) at ≡ Some (written_if (piece_for start pieces at) cell)
get-written start [] cells at cell there = there ∙ ap (λ o. Some (written_if o cell)) (sym (piece_for-none start at))
get-written start (piece ∷ pieces) [] at cell there = cc
get-written zero (piece ∷ pieces) (first ∷ cells) zero cell there = let same : first ≡ cell = cc in ap (λ c. Some (overwritten piece c)) same
get-written zero (piece ∷ pieces) (first ∷ cells) (suc at) cell there =
    get-written zero pieces cells at cell there
    ∙ ap (λ o. Some (written_if o cell)) (piece_for-first pieces at ∙ sym (piece_for-first (piece ∷ pieces) (suc at)))
get-written (suc start) (piece ∷ pieces) (first ∷ cells) zero cell there =
    there ∙ ap (λ o. Some (written_if o cell)) (sym (piece_for-before start (piece ∷ pieces)))
get-written (suc start) (piece ∷ pieces) (first ∷ cells) (suc at) cell there =
    get-written start (piece ∷ pieces) cells at cell there ∙ ap (λ o. Some (written_if o cell)) (sym (piece_for-suc start (piece ∷ pieces) at))

get-after : (cells : List Cell) (change : Change) (at : ℕ) (cell : Cell) → slice_get cells at ≡ Some cell → slice_get (after_change cells change) at ≡ Some (cell_after at cell change)
get-after cells (Write start pieces) at cell there = get-written start pieces cells at cell there
get-after cells Flush at cell there = slice_get-map (λ c. settled c.reads) cells at ∙ ap (λ o. option_map (λ c. settled c.reads) o) there

get-replayed : (cells : List Cell) (changes : List Change) (at : ℕ) (cell : Cell) → slice_get cells at ≡ Some cell → slice_get (after_changes cells changes) at ≡ Some (cell_replayed at cell changes)
get-replayed cells [] at cell there = there
get-replayed cells (change ∷ changes) at cell there =
    get-replayed (after_change cells change) changes at (cell_after at cell change) (get-after cells change at cell there)

pub length-replayed : (cells : List Cell) (changes : List Change) → length (after_changes cells changes) ≡ length cells
length-replayed cells [] = refl
length-replayed cells (Write at pieces ∷ changes) = length-replayed (written at pieces cells) changes ∙ length-written at pieces cells
length-replayed cells (Flush ∷ changes) = length-replayed (flushed cells) changes ∙ length-flushed cells

-- ---- the picked sectors, one more each time

front_of : {X : Type 0} (xs ys : List X) (at : ℕ) (d : X) → at < length xs → at < length ys → drop at xs ≡ drop at ys → (get_or xs at d ≡ get_or ys at d) × (drop (suc at) xs ≡ drop (suc at) ys)
front_of xs ys at d x y same =
    let both : get_or xs at d ∷ drop (suc at) xs ≡ get_or ys at d ∷ drop (suc at) ys = sym (drop-cons xs at d x) ∙ same ∙ drop-cons ys at d y in
    (cc, cc)

pub picked-more : (choice rest at : ℕ) (changes : List Change) (old now : List Sector) (d : Sector) → at < length old → length now ≡ length old → drop at now ≡ drop at old
    → picked choice (after_changes (settled_as old) changes) ≡ take at now ++ picked rest (drop at (after_changes (settled_as old) changes))
    → let cell = cell_replayed at (settled (get_or now at d)) changes in
    picked choice (after_changes (settled_as old) changes)
    ≡ take (at + 1) (set now at (candidate_at cell (rest % length (candidates cell))))
    ++ picked (rest / length (candidates cell)) (drop (at + 1) (after_changes (settled_as old) changes))
picked-more choice rest at changes old now d below same_length same done =
    let cells = after_changes (settled_as old) changes in
    let cell = cell_replayed at (settled (get_or now at d)) changes in
    let value = candidate_at cell (rest % length (candidates cell)) in
    let others = picked (rest / length (candidates cell)) (drop (at + 1) cells) in
    let here : at < length now = omega arith in
    let held : get_or now at d ≡ get_or old at d = (front_of now old at d here below same).0 in
    let there : slice_get cells at ≡ Some cell =
    get-replayed (settled_as old) changes at (settled (get_or now at d))
    (slice_get-map settled old at ∙ ap (λ o. option_map settled o) (slice_get-get_or old at d below) ∙ ap (λ s. Some (settled s)) (sym held)) in
    let front : drop at cells ≡ cell ∷ drop (at + 1) cells =
    drop-cons cells at cell (slice_get_within cells at cell there)
    ∙ ap (λ c. c ∷ drop (suc at) cells) (get_or_from_slice_get cells at cell cell there)
    ∙ ap (λ n. cell ∷ drop n cells) (sym (add-one at)) in
    done
    ∙ ap (λ xs. take at now ++ picked rest xs) front
    ∙ sym (append_assoc (take at now) (value ∷ []) others)
    ∙ ap (λ xs. xs ++ others) (sym (take_more_set now at value here))

pub others-more : (at : ℕ) (old now : List Sector) (d value : Sector) → at < length old → length now ≡ length old → drop at now ≡ drop at old → drop (at + 1) (set now at value) ≡ drop (at + 1) old
others-more at old now d value below same_length same =
    let here : at < length now = omega arith in
    drop-set-lt (at + 1) now at value (omega arith)
    ∙ ap (λ n. drop n now) (add-one at)
    ∙ (front_of now old at d here below same).1
    ∙ ap (λ n. drop n old) (sym (add-one at))

pub picked-all : (choice rest at : ℕ) (changes : List Change) (old now : List Sector) → length old ≤ at → length now ≡ length old
    → picked choice (after_changes (settled_as old) changes) ≡ take at now ++ picked rest (drop at (after_changes (settled_as old) changes)) → now ≡ picked choice (after_changes (settled_as old) changes)
picked-all choice rest at changes old now past same_length done =
    let cells = after_changes (settled_as old) changes in
    let few : length cells ≤ at = omega (arith, length-replayed (settled_as old) changes, length-settled_as old) in
    sym
    (done
    ∙ ap (λ xs. take at now ++ picked rest xs) (drop_all at cells few)
    ∙ append-nil (take at now)
    ∙ take_all at now (omega arith))

-- ---- what is picked might have been left

MayLeave-place : (cell : Cell) (k : ℕ) (d : Sector) → k < length (cell.reads ∷ cell.others) → MayLeave cell (get_or (cell.reads ∷ cell.others) k d)
MayLeave-place cell zero d below = inl refl
MayLeave-place cell (suc k) d below = inr (Contains-get_or cell.others k d (omega arith))

MayLeave-candidate : (cell : Cell) (k : ℕ) → MayLeave cell (candidate_at cell k)
MayLeave-candidate cell k =
    let all = cell.reads ∷ cell.others in
    elim (cases_lt k (length all)) [
      | inl below ↦
          let P : Sector → Type 0 = λ s. MayLeave cell s in
          subst P (sym (get_or-reverse all k cell.reads below)) (MayLeave-place cell (length all - 1 - k) cell.reads (omega arith))
      | inr past ↦
          let P : Sector → Type 0 = λ s. MayLeave cell s in
          subst P (sym (get_or_past (reverse all) k cell.reads (omega (arith, length-reverse all)))) (inl refl)
    ]

pub IsImage-picked : (choice : ℕ) (cells : List Cell) → IsImage cells (picked choice cells)
IsImage-picked choice [] = tt
IsImage-picked choice (cell ∷ cells) = (MayLeave-candidate cell (choice % length (candidates cell)), IsImage-picked (choice / length (candidates cell)) cells)

pub length-picked : (choice : ℕ) (cells : List Cell) → length (picked choice cells) ≡ length cells
length-picked choice [] = refl
length-picked choice (cell ∷ cells) = ap suc (length-picked (choice / length (candidates cell)) cells)

-- a list in the place of another one of its length
pub refilled : {X : Type 0} (n : ℕ) (old new : List X) → n ≡ length old → length new ≡ length old → take n (new ++ drop (length new) old) ≡ new
refilled n old new whole same_length =
    ap (λ rest. take n (new ++ rest)) (drop_all (length new) old (omega arith))
    ∙ ap (λ xs. take n xs) (append-nil new)
    ∙ take_all n new (omega arith)
