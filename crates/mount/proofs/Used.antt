-- The positions of a log, and what was found of it.
use Rattle.std.proofs.Common.{◌≡◌, ℕ, List, ap, subst, inl, inr, arith}
use Rattle.life_bytes.specs.declared.sector.Sector.{Sector}
use Rattle.geometry.specs.declared.shape.Geometry.{Geometry}
use Rattle.geometry.specs.Places.{anchor_of}
use Rattle.sound_image.specs.Superblocks.{HasSuperblock}
use Rattle.log_image.specs.Log.{IsLog, Log}
use Rattle.recovery.specs.declared.found.Found.{Found}
use Rattle.recovery.specs.Found.{LogIsFound}
use Rattle.recovery.specs.Replay.{AreUsedUp}
use Rattle.mount.specs.Positions.{ArePositionsUsedUp}

-- the laws of the crates below that are used
pub record Ones : Type 0 where
  pub geometry : (g h : Geometry) (image : List Sector) → HasSuperblock g image → HasSuperblock h image → g ≡ h
  pub log : (image : List Sector) (anchor ring : ℕ) (a b : Log) → IsLog image anchor ring a → IsLog image anchor ring b → a ≡ b

pub are_found : (g : Geometry) (image : List Sector) (found : Found) → HasSuperblock g image → LogIsFound image (anchor_of g) g.ring found → AreUsedUp g.ring found → ArePositionsUsedUp image
are_found g image found has log used = (
  g,
  log.log,
  record { superblock = has; log = log.says },
  elim used [
    | inl end ↦ inl (omega (arith, end, log.found_is.end))
    | inr next ↦ inr (omega (arith, next, log.found_is.next))
  ],
)

pub are_used : Ones → (g : Geometry) (image : List Sector) (found : Found) → HasSuperblock g image → LogIsFound image (anchor_of g) g.ring found → ArePositionsUsedUp image → AreUsedUp g.ring found
are_used ones g image found has log (h, said, tells, used) =
    let same : h ≡ g = ones.geometry h g image tells.superblock has in
    let is : IsLog image (anchor_of g) g.ring said = subst (λ (x : Geometry). IsLog image (anchor_of x) x.ring said) same tells.log in
    let one : said ≡ log.log = ones.log image (anchor_of g) g.ring said log.log is log.says in
    let ring : h.ring ≡ g.ring = ap (λ (x : Geometry). x.ring) same in
    let end : said.end ≡ log.log.end = ap (λ (l : Log). l.end) one in
    let next : said.next ≡ log.log.next = ap (λ (l : Log). l.next) one in
    elim used [
      | inl past ↦ inl (omega (arith, past, ring, end, log.found_is.end))
      | inr past ↦ inr (omega (arith, past, next, log.found_is.next))
    ]
