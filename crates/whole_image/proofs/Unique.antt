-- What an image has at most one of: its superblock's geometry, its anchor's numbers, its last record, its log.
use Rattle.std.proofs.Common.{◌≡◌, ℕ, ◌^◌, ◌<◌, List, refl, sym, ap, subst, ◌∙◌, arith}
use Rattle.std.proofs.lemmas.Option.{same_Some}
use Rattle.life_bytes.specs.declared.sector.Sector.{Sector}
use Rattle.life_bytes.specs.Fields.{field}
use Rattle.life_bytes.specs.TableLaws.{sealed_number, AreFields}
use Rattle.geometry.specs.declared.shape.Geometry.{Geometry}
use Rattle.geometry.specs.Superblock.{SuperblocksTell}
use Rattle.geometry.specs.Places.{anchor_of}
use Rattle.sound_image.specs.Superblocks.{HasSuperblock}
use Rattle.log_record.specs.declared.record.LogRecord.{LogRecord}
use Rattle.log_record.specs.Whole.{IsWholeAt}
use Rattle.log_image.specs.Anchor.{HasAnchor, anchor_rows, anchor_sector}
use Rattle.log_image.specs.Log.{IsLast, IsLog, Log}
use Rattle.whole_image.specs.Damage.{HasFrontAndLog}

-- the laws below, as they are called: of superblocks, of logs, of whole records
pub record Lower : Type 0 where
  pub tell : SuperblocksTell
  pub one_log : (image : List Sector) (anchor ring : ℕ) (a b : Log) → IsLog image anchor ring a → IsLog image anchor ring b → a ≡ b
  pub one_record : (ring : List Sector) (position : ℕ) (a b : LogRecord) → IsWholeAt ring position a → IsWholeAt ring position b → a ≡ b

pub one_geometry : Lower → (a b : Geometry) (image : List Sector) → HasSuperblock a image → HasSuperblock b image → a ≡ b
one_geometry lower a b image p q = lower.tell a b p.shape q.shape (sym p.encoded ∙ q.encoded)

pub one_said : Lower → (g : Geometry) (image : List Sector) (a b : Log) → HasFrontAndLog g image a → HasFrontAndLog g image b → a ≡ b
one_said lower g image a b p q = lower.one_log image (anchor_of g) g.ring a b p.log q.log

anchor_is_rows : (position next : ℕ) → AreFields 512 (anchor_rows position next)
anchor_is_rows position next = ((omega arith, refl), ((omega arith, refl), ((omega arith, refl), tt)))

anchor_position : (position next : ℕ) → position < 2 ^ 64 → field 8 8 (anchor_sector position next).bytes ≡ position
unfolding anchor_sector
anchor_position position next small =
    sealed_number 4 (anchor_rows position next) 1 8 8 position (anchor_is_rows position next) (omega arith) refl refl small

anchor_next : (position next : ℕ) → next < 2 ^ 64 → field 8 16 (anchor_sector position next).bytes ≡ next
unfolding anchor_sector
anchor_next position next small =
    sealed_number 4 (anchor_rows position next) 2 16 8 next (anchor_is_rows position next) (omega arith) refl refl small

pub one_anchor : (image : List Sector) (anchor ring p n q m : ℕ) → HasAnchor image anchor ring p n → HasAnchor image anchor ring q m → (p ≡ q) × (n ≡ m)
one_anchor image anchor ring p n q m a b =
    let same : anchor_sector p n ≡ anchor_sector q m = same_Some (anchor_sector p n) (anchor_sector q m) (sym a.sector ∙ b.sector) in (
      sym (anchor_position p n a.start.1) ∙ ap (λ (s : Sector). field 8 8 s.bytes) same ∙ anchor_position q m b.start.1,
      sym (anchor_next p n a.number.1) ∙ ap (λ (s : Sector). field 8 16 s.bytes) same ∙ anchor_next q m b.number.1,
    )

pub one_last : Lower → (ring : List Sector) (position : ℕ) (a b : LogRecord) → IsLast ring position a → IsLast ring position b → a ≡ b
one_last lower ring position a b p q =
    let low = p.greatest b q.whole in
    let high = q.greatest a p.whole in
    let same : b.position ≡ a.position = omega arith in
    lower.one_record ring a.position a b p.whole (subst (λ (at : ℕ). IsWholeAt ring at b) same q.whole)
