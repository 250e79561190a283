-- What a sector that encodes a header says of a group.
use Rattle.std.proofs.Common.{◌≡◌, ℕ, List, ap, sym, subst, ◌∙◌}
use Rattle.life_bytes.specs.declared.sector.Sector.{Sector}
use Rattle.geometry.specs.declared.shape.Geometry.{Geometry}
use Rattle.ag_header.specs.declared.agi.Agi.{Agi}
use Rattle.ag_header.specs.Headers.{EncodesHeader}
use Rattle.ag_header.specs.Reading.{HeadersAreRead, agi_in}
use Rattle.sound_image.specs.Places.{bytes_at, sector_in}
use Rattle.sound_image.specs.Reading.{header_of}
use Rattle.sound_image.specs.Rules.{IsHeaderRight}

pub header_read : (l : HeadersAreRead) (g : Geometry) (image : List Sector) (group : ℕ) (bytes : List ℕ) (agi : Agi) → bytes_at image (sector_in g group 2) ≡ bytes → EncodesHeader bytes agi
    → header_of g image group ≡ agi
unfolding header_of
header_read l g image group bytes agi shown encodes = ap agi_in shown ∙ l.read bytes agi encodes

pub header_right : (l : HeadersAreRead) (g : Geometry) (image : List Sector) (group : ℕ) (bytes : List ℕ) (agi : Agi) → bytes_at image (sector_in g group 2) ≡ bytes → EncodesHeader bytes agi
    → agi.group ≡ group → agi.blocks ≡ g.blocks → agi.uuid ≡ g.uuid → IsHeaderRight g image group × header_of g image group ≡ agi
header_right l g image group bytes agi shown encodes own blocks uuid =
    let e : header_of g image group ≡ agi = header_read l g image group bytes agi shown encodes in (
      record {
        encoded = subst (λ (a : Agi). EncodesHeader (bytes_at image (sector_in g group 2)) a) (sym e) (subst (λ (b : List ℕ). EncodesHeader b agi) (sym shown) encodes);
        own_group = ap (λ (a : Agi). a.group) e ∙ own;
        blocks = ap (λ (a : Agi). a.blocks) e ∙ blocks;
        uuid = ap (λ (a : Agi). a.uuid) e ∙ uuid;
      },
      e,
    )
