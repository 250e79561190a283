-- What follows from the words of a disk: what a write that was cut short leaves, what reads and stops give after each call,
-- and how the moments of calls join.
use Rattle.std.specs.Prelude.{◌≡◌, ◌≤◌, ◌⊎◌, ◌+◌, ◌++◌, ℕ, zero, suc, Bool, true, false, Option, None, Some, List, [], ◌∷◌, length, take, drop, Contains, refl}
use Rattle.std.proofs.Common.{sym, ◌∙◌, ap, subst, inl, inr, zero-add, arith}
use Rattle.std.proofs.lemmas.Grind.{common_steps}
use Rattle.life_bytes.specs.declared.sector.Sector.{Sector}
use Rattle.disk_model.specs.Disk.{Arming, Stopping, brought_nearer, after_write_by, after_write, after_writes, IsAfterWrites, Cell, MayLeave, IsImage, as_read, settled, settled_as, flushed, HasOneImage, overwritten, maybe_left, written, IsAttempted, IsPartlyWritten, Elapses}

-- Where a write may have been cut short: each sector of its range is the old one or its piece, and the others are the old ones.
abbrev pub IsTorn : ℕ → List Sector → List Sector → List Sector → Type 0
IsTorn at [] old new = new ≡ old
IsTorn at (piece ∷ pieces) [] new = new ≡ []
IsTorn at (piece ∷ pieces) (sector ∷ old) [] = ⊥
IsTorn zero (piece ∷ pieces) (sector ∷ old) (now ∷ new) = ((now ≡ sector) ⊎ (now ≡ piece)) × IsTorn zero pieces old new
IsTorn (suc at) (piece ∷ pieces) (sector ∷ old) (now ∷ new) = (now ≡ sector) × IsTorn at (piece ∷ pieces) old new

-- ---- one sector

Contains_first : {X : Type 0} (x : X) (xs : List X) → Contains (x ∷ xs) x
Contains_first x xs = (0, omega arith, refl)

Contains_rest : {X : Type 0} (x : X) (xs : List X) (y : X) → Contains xs y → Contains (x ∷ xs) y
Contains_rest x xs y (k, below, is) = (suc k, omega arith, is)

Contains_cases : {X : Type 0} (x : X) (xs : List X) (y : X) → Contains (x ∷ xs) y → (y ≡ x) ⊎ Contains xs y
Contains_cases x xs y (zero, below, is) = inl (sym is)
Contains_cases x xs y (suc k, below, is) = inr (k, omega arith, is)

-- a write adds to what may be left
MayLeave-overwritten : (piece : Sector) (cell : Cell) (sector : Sector) → MayLeave cell sector → MayLeave (overwritten piece cell) sector
MayLeave-overwritten piece cell sector (inl now) = inr (0, omega arith, sym now)
MayLeave-overwritten piece cell sector (inr before) = inr (Contains_rest cell.reads cell.others sector before)

-- it adds nothing but its piece
MayLeave-before : (piece : Sector) (cell : Cell) (sector : Sector) → MayLeave (overwritten piece cell) sector → (sector ≡ piece) ⊎ MayLeave cell sector
MayLeave-before piece cell sector (inl now) = inl now
MayLeave-before piece cell sector (inr before) = inr (Contains_cases cell.reads cell.others sector before)

MayLeave-maybe_left : (piece : Sector) (cell : Cell) (sector : Sector) → MayLeave (maybe_left piece cell) sector → (sector ≡ piece) ⊎ MayLeave cell sector
MayLeave-maybe_left piece cell sector (inl now) = inr (inl now)
MayLeave-maybe_left piece cell sector (inr before) =
    elim (Contains_cases piece cell.others sector before) [ inl is ↦ inl is | inr other ↦ inr (inr other) ]

-- an attempt to write adds nothing but its piece, as a write
MayLeave-attempted : (piece : Sector) (old new : Cell) (sector : Sector) → IsAttempted piece old new → MayLeave new sector → (sector ≡ piece) ⊎ MayLeave old sector
MayLeave-attempted piece old new sector (inl same) left =
    let P : Cell → Type 0 = λ c. MayLeave c sector in inr (subst P same left)
MayLeave-attempted piece old new sector (inr (inl same)) left =
    let P : Cell → Type 0 = λ c. MayLeave c sector in MayLeave-maybe_left piece old sector (subst P same left)
MayLeave-attempted piece old new sector (inr (inr same)) left =
    let P : Cell → Type 0 = λ c. MayLeave c sector in MayLeave-before piece old sector (subst P same left)

-- and takes nothing away
MayLeave-still : (piece : Sector) (old new : Cell) (sector : Sector) → IsAttempted piece old new → MayLeave old sector → MayLeave new sector
MayLeave-still piece old new sector (inl same) left =
    let P : Cell → Type 0 = λ c. MayLeave c sector in subst P (sym same) left
MayLeave-still piece old new sector (inr (inl same)) (inl now) =
    let P : Cell → Type 0 = λ c. MayLeave c sector in subst P (sym same) (inl now)
MayLeave-still piece old new sector (inr (inl same)) (inr before) =
    let P : Cell → Type 0 = λ c. MayLeave c sector in subst P (sym same) (inr (Contains_rest piece old.others sector before))
MayLeave-still piece old new sector (inr (inr same)) left =
    let P : Cell → Type 0 = λ c. MayLeave c sector in subst P (sym same) (MayLeave-overwritten piece old sector left)

MayLeave-either : (piece : Sector) (cell : Cell) (sector : Sector) → (sector ≡ piece) ⊎ MayLeave cell sector → MayLeave (overwritten piece cell) sector
MayLeave-either piece cell sector (inl now) = inl now
MayLeave-either piece cell sector (inr before) = MayLeave-overwritten piece cell sector before

-- ---- images

-- the disk as it reads is an image
pub IsImage-as_read : (cells : List Cell) → IsImage cells (as_read cells)
IsImage-as_read [] = tt
IsImage-as_read (cell ∷ cells) = (inl refl, IsImage-as_read cells)

-- of a disk that reads as an image, which is all that may be left, there is no other
pub IsImage-settled_as : (image other : List Sector) → IsImage (settled_as image) other → other ≡ image
IsImage-settled_as [] [] is = refl
IsImage-settled_as [] (sector ∷ other) is = absurd is
IsImage-settled_as (first ∷ image) [] is = absurd is
IsImage-settled_as (first ∷ image) (sector ∷ other) (inl now, rest) = let e = IsImage-settled_as image other rest in cc
IsImage-settled_as (first ∷ image) (sector ∷ other) (inr (k, below, is), rest) = absurd (omega arith)

pub IsImage-settled_as_itself : (image : List Sector) → IsImage (settled_as image) image
IsImage-settled_as_itself [] = tt
IsImage-settled_as_itself (sector ∷ image) = (inl refl, IsImage-settled_as_itself image)

pub flushed-as_settled : (cells : List Cell) → flushed cells ≡ settled_as (as_read cells)
flushed-as_settled [] = refl
flushed-as_settled (cell ∷ cells) = ap (λ rest. settled cell.reads ∷ rest) (flushed-as_settled cells)

-- after a flush a stop leaves the disk as it reads
pub IsImage-flushed : (cells : List Cell) (image : List Sector) → IsImage (flushed cells) image → image ≡ as_read cells
IsImage-flushed cells image is =
    let P : List Cell → Type 0 = λ c. IsImage c image in
    IsImage-settled_as (as_read cells) image (subst P (flushed-as_settled cells) is)

pub IsImage-flushed_as_read : (cells : List Cell) → IsImage (flushed cells) (as_read cells)
IsImage-flushed_as_read cells =
    let P : List Cell → Type 0 = λ c. IsImage c (as_read cells) in
    subst P (sym (flushed-as_settled cells)) (IsImage-settled_as_itself (as_read cells))

-- a flush adds no image
pub IsImage-before_flush : (cells : List Cell) (image : List Sector) → IsImage (flushed cells) image → IsImage cells image
IsImage-before_flush cells image is =
    let P : List Sector → Type 0 = λ i. IsImage cells i in subst P (sym (IsImage-flushed cells image is)) (IsImage-as_read cells)

-- a disk with one image leaves what it reads
pub IsImage-one : (cells : List Cell) (image : List Sector) → HasOneImage cells → IsImage cells image → image ≡ as_read cells
IsImage-one cells image one is =
    let P : List Cell → Type 0 = λ c. IsImage c image in IsImage-flushed cells image (subst P one is)

pub HasOneImage-settled_as : (image : List Sector) → HasOneImage (settled_as image)
HasOneImage-settled_as [] = refl
HasOneImage-settled_as (sector ∷ image) = ap (λ rest. settled sector ∷ rest) (HasOneImage-settled_as image)

pub HasOneImage-flushed : (cells : List Cell) → HasOneImage (flushed cells)
HasOneImage-flushed [] = refl
HasOneImage-flushed (cell ∷ cells) = ap (λ rest. settled cell.reads ∷ rest) (HasOneImage-flushed cells)

pub settled_as-as_read : (cells : List Cell) → HasOneImage cells → cells ≡ settled_as (as_read cells)
settled_as-as_read cells one = one ∙ flushed-as_settled cells

-- ---- images after a write

-- a write takes no image away
pub IsImage-still : (at : ℕ) (pieces : List Sector) (cells : List Cell) (image : List Sector) → IsImage cells image → IsImage (written at pieces cells) image
IsImage-still at [] cells image is = is
IsImage-still at (piece ∷ pieces) [] image is = is
IsImage-still at (piece ∷ pieces) (cell ∷ cells) [] is = absurd is
IsImage-still zero (piece ∷ pieces) (cell ∷ cells) (sector ∷ image) is =
    (MayLeave-overwritten piece cell sector is.0, IsImage-still zero pieces cells image is.1)
IsImage-still (suc at) (piece ∷ pieces) (cell ∷ cells) (sector ∷ image) is =
    (is.0, IsImage-still at (piece ∷ pieces) cells image is.1)

-- an image after a write is an image from before it, with some of the pieces
pub IsTorn-from_image : (at : ℕ) (pieces : List Sector) (cells : List Cell) (image : List Sector) → IsImage (written at pieces cells) image → (old : List Sector) × IsImage cells old × IsTorn at pieces old image
IsTorn-from_image at [] cells image is = (image, is, refl)
IsTorn-from_image at (piece ∷ pieces) [] [] is = ([], tt, refl)
IsTorn-from_image at (piece ∷ pieces) [] (sector ∷ image) is = absurd is
IsTorn-from_image zero (piece ∷ pieces) (cell ∷ cells) [] is = absurd is
IsTorn-from_image (suc at) (piece ∷ pieces) (cell ∷ cells) [] is = absurd is
IsTorn-from_image zero (piece ∷ pieces) (cell ∷ cells) (sector ∷ image) is =
    let rest = IsTorn-from_image zero pieces cells image is.1 in
    elim (MayLeave-before piece cell sector is.0) [
      | inl now ↦ (cell.reads ∷ rest.0, (inl refl, rest.1), (inr now, rest.2))
      | inr left ↦ (sector ∷ rest.0, (left, rest.1), (inl refl, rest.2))
    ]
IsTorn-from_image (suc at) (piece ∷ pieces) (cell ∷ cells) (sector ∷ image) is =
    let rest = IsTorn-from_image at (piece ∷ pieces) cells image is.1 in
    (sector ∷ rest.0, (is.0, rest.1), (refl, rest.2))

-- of a disk with one image, what it reads with some of the pieces
pub IsTorn-from_one_image : (at : ℕ) (pieces : List Sector) (cells : List Cell) (image : List Sector) → HasOneImage cells → IsImage (written at pieces cells) image → IsTorn at pieces (as_read cells) image
IsTorn-from_one_image at pieces cells image one is =
    let torn = IsTorn-from_image at pieces cells image is in
    let P : List Sector → Type 0 = λ old. IsTorn at pieces old image in
    subst P (IsImage-one cells torn.0 one torn.1) torn.2

-- and the other way round
pub IsImage-from_torn : (at : ℕ) (pieces : List Sector) (cells : List Cell) (old image : List Sector) → IsImage cells old → IsTorn at pieces old image → IsImage (written at pieces cells) image
IsImage-from_torn at [] cells old image is torn =
    let P : List Sector → Type 0 = λ i. IsImage cells i in subst P (sym torn) is
IsImage-from_torn at (piece ∷ pieces) [] [] image is torn =
    let P : List Sector → Type 0 = λ i. IsImage [] i in subst P (sym torn) tt
IsImage-from_torn at (piece ∷ pieces) [] (before ∷ old) image is torn = absurd is
IsImage-from_torn at (piece ∷ pieces) (cell ∷ cells) [] image is torn = absurd is
IsImage-from_torn at (piece ∷ pieces) (cell ∷ cells) (before ∷ old) [] is torn = absurd torn
IsImage-from_torn zero (piece ∷ pieces) (cell ∷ cells) (before ∷ old) (sector ∷ image) is (inl same, torn) =
    let P : Sector → Type 0 = λ s. MayLeave cell s in
    (MayLeave-overwritten piece cell sector (subst P (sym same) is.0), IsImage-from_torn zero pieces cells old image is.1 torn)
IsImage-from_torn zero (piece ∷ pieces) (cell ∷ cells) (before ∷ old) (sector ∷ image) is (inr now, torn) =
    (inl now, IsImage-from_torn zero pieces cells old image is.1 torn)
IsImage-from_torn (suc at) (piece ∷ pieces) (cell ∷ cells) (before ∷ old) (sector ∷ image) is (same, torn) =
    let P : Sector → Type 0 = λ s. MayLeave cell s in
    (subst P (sym same) is.0, IsImage-from_torn at (piece ∷ pieces) cells old image is.1 torn)

-- a write that failed leaves nothing but what the write may leave
pub IsImage-partly_written : (at : ℕ) (pieces : List Sector) (old new : List Cell) (image : List Sector) → IsPartlyWritten at pieces old new → IsImage new image → IsImage (written at pieces old) image
IsImage-partly_written at [] old new image partly is =
    let P : List Cell → Type 0 = λ c. IsImage c image in subst P partly is
IsImage-partly_written at (piece ∷ pieces) [] new image partly is =
    let P : List Cell → Type 0 = λ c. IsImage c image in subst P partly is
IsImage-partly_written at (piece ∷ pieces) (cell ∷ old) [] image partly is = absurd partly
IsImage-partly_written at (piece ∷ pieces) (cell ∷ old) (now ∷ new) [] partly is = absurd is
IsImage-partly_written zero (piece ∷ pieces) (cell ∷ old) (now ∷ new) (sector ∷ image) (attempted, partly) (left, rest) =
    (MayLeave-either piece cell sector (MayLeave-attempted piece cell now sector attempted left), IsImage-partly_written zero pieces old new image partly rest)
IsImage-partly_written (suc at) (piece ∷ pieces) (cell ∷ old) (now ∷ new) (sector ∷ image) (same, partly) (left, rest) =
    let P : Cell → Type 0 = λ c. MayLeave c sector in
    (subst P same left, IsImage-partly_written at (piece ∷ pieces) old new image partly rest)

-- and takes no image away
pub IsImage-still_partly : (at : ℕ) (pieces : List Sector) (old new : List Cell) (image : List Sector) → IsPartlyWritten at pieces old new → IsImage old image → IsImage new image
IsImage-still_partly at [] old new image partly is =
    let P : List Cell → Type 0 = λ c. IsImage c image in subst P (sym partly) is
IsImage-still_partly at (piece ∷ pieces) [] new image partly is =
    let P : List Cell → Type 0 = λ c. IsImage c image in subst P (sym partly) is
IsImage-still_partly at (piece ∷ pieces) (cell ∷ old) [] image partly is = absurd partly
IsImage-still_partly at (piece ∷ pieces) (cell ∷ old) (now ∷ new) [] partly is = absurd is
IsImage-still_partly zero (piece ∷ pieces) (cell ∷ old) (now ∷ new) (sector ∷ image) (attempted, partly) (left, rest) =
    (MayLeave-still piece cell now sector attempted left, IsImage-still_partly zero pieces old new image partly rest)
IsImage-still_partly (suc at) (piece ∷ pieces) (cell ∷ old) (now ∷ new) (sector ∷ image) (same, partly) (left, rest) =
    let P : Cell → Type 0 = λ c. MayLeave c sector in
    (subst P (sym same) left, IsImage-still_partly at (piece ∷ pieces) old new image partly rest)

-- ---- what reads give

pub as_read-settled_as : (image : List Sector) → as_read (settled_as image) ≡ image
as_read-settled_as [] = refl
as_read-settled_as (sector ∷ image) = ap (λ rest. sector ∷ rest) (as_read-settled_as image)

pub as_read-flushed : (cells : List Cell) → as_read (flushed cells) ≡ as_read cells
as_read-flushed [] = refl
as_read-flushed (cell ∷ cells) = ap (λ rest. cell.reads ∷ rest) (as_read-flushed cells)

-- after a write reads give the pieces where they were written, and elsewhere what they gave
pub as_read-written : (at : ℕ) (pieces : List Sector) (cells : List Cell) → at + length pieces ≤ length cells → as_read (written at pieces cells) ≡ take at (as_read cells) ++ pieces ++ drop (at + length pieces) (as_read cells)
as_read-written at [] cells within = grind (arith, common_steps)
as_read-written at (piece ∷ pieces) [] within = absurd (omega arith)
as_read-written zero (piece ∷ pieces) (cell ∷ cells) within =
    let end : suc (0 + length pieces) ≡ 0 + suc (length pieces) = omega arith in
    ap (λ rest. piece ∷ rest) (as_read-written zero pieces cells (omega arith))
    ∙ ap (λ n. piece ∷ (pieces ++ drop n (cell.reads ∷ as_read cells))) end
as_read-written (suc at) (piece ∷ pieces) (cell ∷ cells) within =
    let end : suc (at + suc (length pieces)) ≡ suc at + suc (length pieces) = omega arith in
    ap (λ rest. cell.reads ∷ rest) (as_read-written at (piece ∷ pieces) cells (omega arith))
    ∙ ap (λ n. cell.reads ∷ (take at (as_read cells) ++ (piece ∷ pieces) ++ drop n (cell.reads ∷ as_read cells))) end

-- after a write that failed a read gives the old sector or its piece
pub as_read-partly_written : (at : ℕ) (pieces : List Sector) (old new : List Cell) → IsPartlyWritten at pieces old new → IsTorn at pieces (as_read old) (as_read new)
as_read-partly_written at [] old new partly = ap as_read partly
as_read-partly_written at (piece ∷ pieces) [] new partly = ap as_read partly
as_read-partly_written at (piece ∷ pieces) (cell ∷ old) [] partly = absurd partly
as_read-partly_written zero (piece ∷ pieces) (cell ∷ old) (now ∷ new) (inl same, partly) =
    (inl (ap (λ c. c.reads) same), as_read-partly_written zero pieces old new partly)
as_read-partly_written zero (piece ∷ pieces) (cell ∷ old) (now ∷ new) (inr (inl same), partly) =
    (inl (ap (λ c. c.reads) same), as_read-partly_written zero pieces old new partly)
as_read-partly_written zero (piece ∷ pieces) (cell ∷ old) (now ∷ new) (inr (inr same), partly) =
    (inr (ap (λ c. c.reads) same), as_read-partly_written zero pieces old new partly)
as_read-partly_written (suc at) (piece ∷ pieces) (cell ∷ old) (now ∷ new) (same, partly) =
    (ap (λ c. c.reads) same, as_read-partly_written at (piece ∷ pieces) old new partly)

-- ---- lengths

pub length-as_read : (cells : List Cell) → length (as_read cells) ≡ length cells
length-as_read [] = refl
length-as_read (cell ∷ cells) = ap suc (length-as_read cells)

pub length-settled_as : (image : List Sector) → length (settled_as image) ≡ length image
length-settled_as [] = refl
length-settled_as (sector ∷ image) = ap suc (length-settled_as image)

pub length-flushed : (cells : List Cell) → length (flushed cells) ≡ length cells
length-flushed [] = refl
length-flushed (cell ∷ cells) = ap suc (length-flushed cells)

pub length-written : (at : ℕ) (pieces : List Sector) (cells : List Cell) → length (written at pieces cells) ≡ length cells
length-written at [] cells = refl
length-written at (piece ∷ pieces) [] = refl
length-written zero (piece ∷ pieces) (cell ∷ cells) = ap suc (length-written zero pieces cells)
length-written (suc at) (piece ∷ pieces) (cell ∷ cells) = ap suc (length-written at (piece ∷ pieces) cells)

pub length-partly_written : (at : ℕ) (pieces : List Sector) (old new : List Cell) → IsPartlyWritten at pieces old new → length new ≡ length old
length-partly_written at [] old new partly = ap length partly
length-partly_written at (piece ∷ pieces) [] new partly = ap length partly
length-partly_written at (piece ∷ pieces) (cell ∷ old) [] partly = absurd partly
length-partly_written zero (piece ∷ pieces) (cell ∷ old) (now ∷ new) partly = ap suc (length-partly_written zero pieces old new partly.1)
length-partly_written (suc at) (piece ∷ pieces) (cell ∷ old) (now ∷ new) partly = ap suc (length-partly_written at (piece ∷ pieces) old new partly.1)

pub length-torn : (at : ℕ) (pieces old new : List Sector) → IsTorn at pieces old new → length new ≡ length old
length-torn at [] old new torn = ap length torn
length-torn at (piece ∷ pieces) [] new torn = ap length torn
length-torn at (piece ∷ pieces) (sector ∷ old) [] torn = absurd torn
length-torn zero (piece ∷ pieces) (sector ∷ old) (now ∷ new) torn = ap suc (length-torn zero pieces old new torn.1)
length-torn (suc at) (piece ∷ pieces) (sector ∷ old) (now ∷ new) torn = ap suc (length-torn at (piece ∷ pieces) old new torn.1)

pub length-image : (cells : List Cell) (image : List Sector) → IsImage cells image → length image ≡ length cells
length-image [] [] is = refl
length-image [] (sector ∷ image) is = absurd is
length-image (cell ∷ cells) [] is = absurd is
length-image (cell ∷ cells) (sector ∷ image) is = ap suc (length-image cells image is.1)

-- ---- what is armed

earlier-brought_nearer : (writes sectors : ℕ) (arming : Arming) → (brought_nearer writes sectors arming).earlier ≡ arming.earlier
earlier-brought_nearer zero sectors arming = refl
earlier-brought_nearer (suc zero) sectors arming = refl
earlier-brought_nearer (suc (suc writes)) sectors arming = refl

earlier-after_write_by : (stopped : Bool) (armed : Option Stopping) (arming : Arming) → (after_write_by stopped armed arming).earlier ≡ arming.earlier
earlier-after_write_by true armed arming = refl
earlier-after_write_by false None arming = refl
earlier-after_write_by false (Some stopping) arming = earlier-brought_nearer stopping.writes stopping.sectors arming

-- a write changes nothing of what was before the disk went on
pub earlier-after_write : (arming : Arming) → (after_write arming).earlier ≡ arming.earlier
earlier-after_write arming = earlier-after_write_by arming.stopped arming.armed arming

pub earlier-after_writes : (writes : ℕ) (arming : Arming) → (after_writes writes arming).earlier ≡ arming.earlier
earlier-after_writes zero arming = refl
earlier-after_writes (suc writes) arming = earlier-after_writes writes (after_write arming) ∙ earlier-after_write arming

-- some writes and then some more
pub after_writes-sum : (first then_more : ℕ) (arming : Arming) → after_writes (first + then_more) arming ≡ after_writes then_more (after_writes first arming)
after_writes-sum zero then_more arming = ap (λ n. after_writes n arming) (zero-add then_more)
after_writes-sum (suc first) then_more arming =
    let count : suc first + then_more ≡ suc (first + then_more) = omega arith in
    ap (λ n. after_writes n arming) count ∙ after_writes-sum first then_more (after_write arming)

pub IsAfterWrites-none : (arming : Arming) → IsAfterWrites arming arming
IsAfterWrites-none arming = (0, refl)

pub IsAfterWrites-both : (first second third : Arming) → IsAfterWrites first second → IsAfterWrites second third → IsAfterWrites first third
IsAfterWrites-both first second third one two = (one.0 + two.0, two.1 ∙ ap (after_writes two.0) one.1 ∙ sym (after_writes-sum one.0 two.0 first))

stopped-after_write_by : (stopped : Bool) (armed : Option Stopping) (arming : Arming) → stopped ≡ true → after_write_by stopped armed arming ≡ arming
stopped-after_write_by true armed arming is = refl
stopped-after_write_by false armed arming is = absurd (cc is)

-- a disk that has stopped stays so
pub after_writes-stopped : (writes : ℕ) (arming : Arming) → arming.stopped ≡ true → after_writes writes arming ≡ arming
after_writes-stopped zero arming is = refl
after_writes-stopped (suc writes) arming is =
    let same = stopped-after_write_by arming.stopped arming.armed arming is in
    ap (λ a. after_writes writes a) same ∙ after_writes-stopped writes arming is

-- ---- moments

-- between two calls nothing else may have been left
pub Elapses-none : (moment : ℕ) (left : ℕ → List Sector → Type 0) (in_call : List Sector → Type 0) → Elapses moment moment left left in_call
Elapses-none moment left in_call = record { later = omega arith; nothing_else = λ since image le was. inl was; keeps = λ since image le was. was }

-- more may be left in a call than is said
pub Elapses-weaker : (before now : ℕ) (past since : ℕ → List Sector → Type 0) (P Q : List Sector → Type 0) → ((image : List Sector) → P image → Q image)
    → Elapses before now past since P → Elapses before now past since Q
Elapses-weaker before now past since P Q weaker elapses = record {
  later = elapses.later;
  nothing_else = λ moment image le was. elim (elapses.nothing_else moment image le was) [ inl left ↦ inl left | inr within ↦ inr (weaker image within) ];
  keeps = elapses.keeps;
}

-- two calls, one after the other
pub Elapses-both : (first second third : ℕ) (one two three : ℕ → List Sector → Type 0) (in_call : List Sector → Type 0)
    → Elapses first second one two in_call → Elapses second third two three in_call → Elapses first third one three in_call
Elapses-both first second third one two three in_call a b = record {
  later = omega (arith, a.later, b.later);
  nothing_else = λ since image le was. elim (b.nothing_else since image (omega (arith, le, a.later)) was) [
    | inl before ↦ a.nothing_else since image le before
    | inr within ↦ inr within
  ];
  keeps = λ since image le was. b.keeps since image (omega (arith, le, a.later)) (a.keeps since image le was);
}

-- the second of them leaves nothing that the first does not allow
pub Elapses-more : (first second third : ℕ) (one two three : ℕ → List Sector → Type 0) (P Q : List Sector → Type 0)
    → Elapses first second one two P → Elapses second third two three Q → ((image : List Sector) → Q image → P image) → Elapses first third one three P
Elapses-more first second third one two three P Q a b weaker =
    Elapses-both first second third one two three P a (Elapses-weaker second third two three Q P weaker b)
