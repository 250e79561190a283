-- A recovered disk, over whatever table the image before was of.
use Rattle.std.proofs.Common.{◌≡◌, ◌≤◌, ◌+◌, ◌*◌, ℕ, List, [], length, sym, ap, subst, ◌∙◌, arith}
use Rattle.std.proofs.lemmas.List.{length-take}
use Rattle.life_bytes.specs.declared.sector.Sector.{Sector}
use Rattle.disk_model.specs.Disk.{Cell, as_read}
use Rattle.geometry.specs.declared.shape.Geometry.{Geometry}
use Rattle.geometry.specs.Places.{anchor_of, group_sectors}
use Rattle.geometry.specs.Shape.{IsGeometry}
use Rattle.life_table.specs.declared.table.Table.{Table}
use Rattle.life_table.specs.History.{closed, orphans, recovered}
use Rattle.log_image.specs.Log.{IsLog, Log, groups_part}
use Rattle.log_image.specs.Overlay.{images_of}
use Rattle.log_image.specs.OverlayLaws.{length-overlaid}
use Rattle.recovery.specs.declared.start.Start.{Start}
use Rattle.sound_image.specs.Damage.{AreGroupsSound}
use Rattle.sound_image.specs.Encoding.{CanEncode, Layouts, encoded}
use Rattle.sound_image.specs.Reading.{rows_of}
use Rattle.whole_image.specs.Damage.{HasFrontAndLog, groups_of, of_groups}
use Rattle.whole_image.specs.Represents.{Represents}
use Rattle.commit_history.specs.Carried.{IsEncoding}
use Rattle.orphan_frees.specs.Order.{keys_to_free}
use Rattle.mount.specs.Coming.{IsClean}
use Rattle.mount.specs.Images.{IsImageOf, IsOnTheWay, after_frees}
use Rattle.mount.specs.Recovered.{IsRecovered}
use Rattle.mount.specs.Same.{RepresentSame}
use Rattle.mount.proofs.Used.{Ones}

-- the laws of the crates below that are used
pub record OfTables : Type 0 where
  pub ones : Ones
  pub table : (image : List Sector) (t u : Table) (c d : ℕ) → Represents image t c → Represents image u d → (t ≡ u) × (c ≡ d)
  pub unheld : (image : List Sector) (t : Table) (c : ℕ) → Represents image t c → closed t ≡ t

-- the same geometry and log
record SameFront (g h : Geometry) (old : List Sector) (one two : Log) : Type 0 where
  geometry : h ≡ g
  log : two ≡ one

same_front : Ones → (g h : Geometry) (old : List Sector) (one two : Log) → HasFrontAndLog g old one → HasFrontAndLog h old two → SameFront g h old one two
same_front ones g h old one two a b =
    let same : h ≡ g = ones.geometry h g old b.superblock a.superblock in
    let is : IsLog old (anchor_of g) g.ring two = subst (λ (x : Geometry). IsLog old (anchor_of x) x.ring two) same b.log in
    record { geometry = same; log = ones.log old (anchor_of g) g.ring two one is a.log }

-- what a recovery left is clean, of the geometry that it has
clean_there : OfTables → (g : Geometry) (t : Table) (layouts : Layouts) (next : ℕ) (old : List Sector) (start : Start) (cells : List Cell)
    → (r : IsRecovered old g start cells) (is : IsImageOf g t layouts next old) → r.log ≡ is.log → IsClean g t layouts start cells
clean_there laws g t layouts next old start cells r is log =
    let table : r.table ≡ t = (laws.table old r.table t start.next_commit next r.was is.represents).0 in
    let groups : groups_part (anchor_of g) (as_read cells) ≡ groups_of g old is.log = r.groups ∙ ap (λ (l : Log). groups_of g old l) log in
    record {
      anew = record { one = r.one; anchor = r.anchor; below = r.below };
      superblock = r.superblock;
      encodes = subst (IsEncoding g t layouts) (sym groups) is.encodes;
      unheld = laws.unheld old t next is.represents;
      represents = subst (λ (u : Table). Represents (as_read cells) u start.next_commit) table r.represents;
    }

pub is_clean : OfTables → (g h : Geometry) (t : Table) (layouts : Layouts) (next : ℕ) (old : List Sector) (start : Start) (cells : List Cell) → IsImageOf g t layouts next old
    → IsRecovered old h start cells → (h ≡ g) × (start.next_commit ≡ next) × IsClean g t layouts start cells
is_clean laws g h t layouts next old start cells is r =
    let same = same_front laws.ones g h old is.log r.log is.front r.front in
    let number : start.next_commit ≡ next = (laws.table old r.table t start.next_commit next r.was is.represents).1 in
    let there : IsRecovered old g start cells = subst (λ (x : Geometry). IsRecovered old x start cells) same.geometry r in
    let log : there.log ≡ is.log = (same_front laws.ones g g old is.log there.log is.front there.front).log in
    (same.geometry, number, clean_there laws g t layouts next old start cells there is log)

-- what represents the same is on its way, with nothing freed
pub same_is_on_the_way : OfTables → (old image : List Sector) → RepresentSame old image → IsOnTheWay old image
same_is_on_the_way laws old image (t, c, was, now) = record {
  sound = was.sound;
  freed = λ g u layouts next is.
      let same = laws.table old t u c next was is.represents in
      let here : Represents image u next = subst (λ (x : Table). Represents image x next) same.0 (subst (λ (n : ℕ). Represents image t n) same.1 now) in
      let none : after_frees u layouts 0 ≡ u = laws.unheld old u next is.represents in
      record {
        count = 0;
        within = omega arith;
        represents = subst (λ (x : Table). Represents image x (next + 0)) (sym none) (subst (λ (n : ℕ). Represents image u n) (omega arith) here);
      };
}

-- ---- a sound image

abbrev pub EncodesLaw : Type 0
EncodesLaw = (g : Geometry) (image : List Sector) → IsGeometry g → AreGroupsSound g image → g.groups * group_sectors g ≤ length image
    → (layouts : Layouts) × CanEncode g (rows_of g image) layouts image × (encoded g (rows_of g image) layouts image ≡ image)

groups_size : (g : Geometry) (image : List Sector) (said : Log) → HasFrontAndLog g image said → length (groups_of g image said) ≡ anchor_of g
groups_size g image said front =
    let size = length-take (anchor_of g) image in
    length-overlaid (groups_part (anchor_of g) image) (images_of said.records) ∙ omega (arith, size, front.log.size)

pub is_of_a_table : EncodesLaw → (image : List Sector) (t : Table) (c : ℕ) → Represents image t c
    → (g : Geometry) × (u : Table) × (layouts : Layouts) × (next : ℕ) × IsImageOf g u layouts next image
is_of_a_table encodes image t c is =
    let g : Geometry = is.geometry in
    let groups : List Sector = groups_of g image is.said in
    let sound : AreGroupsSound g groups = λ rule. is.sound (of_groups rule) g is.said is.tells in
    let made = encodes g groups is.tells.superblock.shape sound (omega (arith, groups_size g image is.said is.tells)) in
    let layouts : Layouts = made.0 in
    let here : IsEncoding g (rows_of g groups) layouts groups = record { can = made.1; same = made.2 } in (
      g,
      t,
      layouts,
      c,
      record {
        represents = is;
        log = is.said;
        front = is.tells;
        encodes = subst (λ (u : Table). IsEncoding g u layouts groups) is.rows here;
      },
    )

-- ---- nothing is left to free

pub record Orphaned : Type 0 where
  pub none_left : (g : Geometry) (t : Table) (layouts : Layouts) (sectors : List Sector) → CanEncode g t layouts sectors → closed t ≡ t → orphans (recovered t) ≡ 0
  pub none : (g : Geometry) (t : Table) (layouts : Layouts) (sectors : List Sector) → CanEncode g t layouts sectors → closed t ≡ t → orphans t ≡ 0 → keys_to_free t layouts ≡ []

pub none_twice : Orphaned → ((image : List Sector) (t : Table) (c : ℕ) → Represents image t c → closed t ≡ t)
    → (g h : Geometry) (t : Table) (layouts others : Layouts) (next number : ℕ) (before image : List Sector) → IsImageOf g t layouts next before
    → IsImageOf h (recovered t) others number image → keys_to_free (recovered t) others ≡ []
none_twice laws unheld g h t layouts others next number before image was is =
    laws.none h (recovered t) others (groups_of h image is.log) is.encodes.can (unheld image (recovered t) number is.represents)
    (laws.none_left g t layouts (groups_of g before was.log) was.encodes.can (unheld before t next was.represents))
