-- A write of which only the first pieces passed.
use Rattle.std.proofs.Common.{ℕ, zero, suc, List, [], ◌∷◌, take, refl, sym, subst, inl, inr}
use Rattle.life_bytes.specs.declared.sector.Sector.{Sector}
use Rattle.disk_model.specs.Disk.{Cell, IsImage, written, IsPartlyWritten, Elapses}
use Rattle.disk_model.specs.DiskLaws.{IsImage-still, Elapses-weaker}
use Rattle.disk_model.specs.StopDisk.{Passes}
use Rattle.disk_model.proofs.Replay.{IsPartlyWritten-none}

-- what was written of the first pieces is a part of all
pub IsPartlyWritten-take : (n at : ℕ) (pieces : List Sector) (old new : List Cell) → IsPartlyWritten at (take n pieces) old new → IsPartlyWritten at pieces old new
IsPartlyWritten-take zero at [] old new partly = partly
IsPartlyWritten-take (suc n) at [] old new partly = partly
IsPartlyWritten-take zero at (piece ∷ pieces) old new partly =
    let P : List Cell → Type 0 = λ c. IsPartlyWritten at (piece ∷ pieces) old c in
    subst P (sym partly) (IsPartlyWritten-none at (piece ∷ pieces) old)
IsPartlyWritten-take (suc n) at (piece ∷ pieces) [] new partly = partly
IsPartlyWritten-take (suc n) zero (piece ∷ pieces) (cell ∷ old) [] partly = absurd partly
IsPartlyWritten-take (suc n) (suc at) (piece ∷ pieces) (cell ∷ old) [] partly = absurd partly
IsPartlyWritten-take (suc n) zero (piece ∷ pieces) (cell ∷ old) (now ∷ new) partly =
    (partly.0, IsPartlyWritten-take n zero pieces old new partly.1)
IsPartlyWritten-take (suc n) (suc at) (piece ∷ pieces) (cell ∷ old) (now ∷ new) partly =
    (partly.0, IsPartlyWritten-take (suc n) at (piece ∷ pieces) old new partly.1)

-- a whole write is one of the things that a failed one may be
pub IsPartlyWritten-written : (at : ℕ) (pieces : List Sector) (cells : List Cell) → IsPartlyWritten at pieces cells (written at pieces cells)
IsPartlyWritten-written at [] cells = refl
IsPartlyWritten-written at (piece ∷ pieces) [] = refl
IsPartlyWritten-written zero (piece ∷ pieces) (cell ∷ cells) = (inr (inr refl), IsPartlyWritten-written zero pieces cells)
IsPartlyWritten-written (suc at) (piece ∷ pieces) (cell ∷ cells) = (refl, IsPartlyWritten-written at (piece ∷ pieces) cells)

-- and so is that the first pieces passed, or failed
pub IsPartlyWritten-passes : (n at : ℕ) (pieces : List Sector) (before now : ℕ) (old new : List Cell) → Passes at (take n pieces) before now old new → IsPartlyWritten at pieces old new
IsPartlyWritten-passes n at pieces before now old new (inl took) =
    let P : List Cell → Type 0 = λ c. IsPartlyWritten at (take n pieces) old c in
    IsPartlyWritten-take n at pieces old new (subst P (sym took) (IsPartlyWritten-written at (take n pieces) old))
IsPartlyWritten-passes n at pieces before now old new (inr failed) = IsPartlyWritten-take n at pieces old new failed.1

-- what the write of the first pieces may leave, the write of all may leave
pub IsImage-take : (n at : ℕ) (pieces : List Sector) (cells : List Cell) (image : List Sector) → IsImage (written at (take n pieces) cells) image → IsImage (written at pieces cells) image
IsImage-take zero at [] cells image is = is
IsImage-take (suc n) at [] cells image is = is
IsImage-take zero at (piece ∷ pieces) cells image is = IsImage-still at (piece ∷ pieces) cells image is
IsImage-take (suc n) at (piece ∷ pieces) [] image is = is
IsImage-take (suc n) zero (piece ∷ pieces) (cell ∷ cells) [] is = is
IsImage-take (suc n) (suc at) (piece ∷ pieces) (cell ∷ cells) [] is = is
IsImage-take (suc n) zero (piece ∷ pieces) (cell ∷ cells) (sector ∷ image) is = (is.0, IsImage-take n zero pieces cells image is.1)
IsImage-take (suc n) (suc at) (piece ∷ pieces) (cell ∷ cells) (sector ∷ image) is = (is.0, IsImage-take (suc n) at (piece ∷ pieces) cells image is.1)

-- and so may be left in the call
pub Elapses-take : (n at : ℕ) (pieces : List Sector) (cells : List Cell) (before now : ℕ) (past since : ℕ → List Sector → Type 0)
    → Elapses before now past since (IsImage (written at (take n pieces) cells)) → Elapses before now past since (IsImage (written at pieces cells))
Elapses-take n at pieces cells before now past since elapses =
    Elapses-weaker before now past since (IsImage (written at (take n pieces) cells)) (IsImage (written at pieces cells)) (λ image is. IsImage-take n at pieces cells image is) elapses
