-- A rule that holds is broken nowhere, and an image has one first damage.
use Rattle.std.proofs.Common.{◌≡◌, ℕ, ◌<◌, ◌≤◌, ◌⊎◌, List, length, inl, inr, refl, sym, ap, subst, ◌∙◌, arith}
use Rattle.std.proofs.lemmas.Bool.{cases_order}
use Rattle.life_bytes.specs.declared.sector.Sector.{Sector}
use Rattle.life_bytes.specs.Sectors.{zero_sector}
use Rattle.geometry.specs.declared.shape.Geometry.{Geometry}
use Rattle.geometry.specs.Places.{anchor_of}
use Rattle.sound_image.specs.Damage.{Rule, header, tree, core, fork, blocks, bitmap, pointers, lists}
use Rattle.sound_image.specs.Damage.{groups_rule_number as number_in_groups}
use Rattle.sound_image.specs.Damage.{GroupsHold as HoldsInGroups}
use Rattle.sound_image.specs.Damage.{GroupsBreak as BreaksInGroups}
use Rattle.sound_image.specs.Damage.{FirstGroupsDamage as FirstDamageOfGroups}
use Rattle.sound_image.specs.Damage.{AreGroupsSound as GroupsAreSound}
use Rattle.sound_image.specs.Superblocks.{HasSuperblock, IsLongEnough}
use Rattle.log_record.specs.declared.record.LogRecord.{LogRecord}
use Rattle.log_image.specs.Anchor.{HasAnchor}
use Rattle.log_image.specs.Log.{Log, HasLog, IsLogTo, record_end}
use Rattle.log_image.specs.Damage.{AnchorBreaks, LogBreaks, LogBreaksFirst, EndsAt, IsLogDamage}
use Rattle.whole_image.specs.Front.{ring_of, IsSuperblockRight, IsAnchorRight, IsLogRight}
use Rattle.whole_image.specs.Damage.{ImageRule, superblock, size, anchor, log, of_groups, image_rule_number, HasFrontAndLog, groups_of, ImageHolds, ImageBreaks, FirstDamage, IsSound}
use Rattle.whole_image.proofs.Unique.{Lower, one_geometry, one_said, one_anchor, one_last}

-- the laws of the groups' first damage
pub record OfGroups : Type 0 where
  pub one : (g : Geometry) (image : List Sector) (a b : Rule) (s t : ℕ) → FirstDamageOfGroups g image a s → FirstDamageOfGroups g image b t → (a ≡ b) × (s ≡ t)
  pub none : (g : Geometry) (image : List Sector) (a : Rule) (s : ℕ) → GroupsAreSound g image → FirstDamageOfGroups g image a s → ⊥

-- a log goes on at one position
one_end : Lower → (ring : List Sector) (front position next end : ℕ) (said : Log) → HasLog ring front position next said → EndsAt ring position end → end ≡ said.end
one_end lower ring front position next end said has at =
    elim has.records [
      | inl to ↦ elim at [
        | inl behind ↦ behind.2 ∙ ap record_end (one_last lower ring position behind.0 to.0 behind.1 to.1) ∙ sym to.2.end.0
        | inr none ↦ let low = none.0 to.0 to.1.whole in let high = to.1.counts in absurd (omega arith)
      ]
      | inr empty ↦ elim at [
        | inl behind ↦ let low = empty.0 behind.0 behind.1.whole in let high = behind.1.counts in absurd (omega arith)
        | inr none ↦ none.1 ∙ ap (λ (l : Log). l.end) (sym empty.1)
      ]
    ]

log_unbroken : Lower → (g : Geometry) (image : List Sector) (position next s : ℕ) → IsLogRight g image position next → LogBreaks (ring_of g image) (anchor_of g) position s → ⊥
log_unbroken lower g image position next s right (inl (last, is_last, wrong, at)) =
    elim right.1.records [
      | inl to ↦
          let same : to.0 ≡ last = one_last lower (ring_of g image) position to.0 last to.1 is_last in
          wrong right.0 (subst (λ (item : LogRecord). IsLogTo (ring_of g image) (anchor_of g) item right.0) same to.2)
      | inr empty ↦ let low = empty.0 last is_last.whole in let high = is_last.counts in absurd (omega arith)
    ]
log_unbroken lower g image position next s right (inr (end, place, ends, within, at, beyond)) =
    let same : end ≡ right.0.end = one_end lower (ring_of g image) (anchor_of g) position next end right.0 right.1 ends in
    let low = right.1.below.each place zero_sector within in
    let high = beyond zero_sector in
    absurd (omega arith)

pub five : (rule : Rule) → 5 ≤ number_in_groups rule
five header = omega arith
five tree = omega arith
five core = omega arith
five fork = omega arith
five blocks = omega arith
five bitmap = omega arith
five pointers = omega arith
five lists = omega arith

-- of the rules in front of those of the groups
unbroken : Lower → (image : List Sector) (rule : ImageRule) (s : ℕ) → image_rule_number rule < 5 → ImageHolds image rule → ImageBreaks image rule s → ⊥
unbroken lower image superblock s few h b = b.1 h
unbroken lower image size s few h b = b.3 (h b.0 b.1)
unbroken lower image anchor s few h b = let right = h b.0 b.1 in b.2.1 right.0 right.1 right.2
unbroken lower image log s few h b = log_unbroken lower b.0 image b.1 b.2 s (h b.0 b.1 b.2 b.3 b.4) b.5
unbroken lower image (of_groups rule) s few h b = let low = five rule in absurd (omega arith)

-- What an image tells is one, so a break of a rule of the groups is a break of what it tells.
moved : Lower → (g : Geometry) (image : List Sector) (said : Log) (rule : Rule) (s : ℕ) → HasFrontAndLog g image said → ImageBreaks image (of_groups rule) s → BreaksInGroups g (groups_of g image said) rule s
moved lower g image said rule s tells b =
    let same : b.0 ≡ g = one_geometry lower b.0 g image b.2.superblock tells.superblock in
    let there : HasFrontAndLog g image b.1 = subst (λ (x : Geometry). HasFrontAndLog x image b.1) same b.2 in
    let log_same : b.1 ≡ said = one_said lower g image b.1 said there tells in
    subst (λ (x : Log). BreaksInGroups g (groups_of g image x) rule s) log_same
    (subst (λ (x : Geometry). BreaksInGroups x (groups_of x image b.1) rule s) same b.3)

-- a first damage among the rules of the groups, as one of the replayed groups
lowered : Lower → (g : Geometry) (image : List Sector) (said : Log) (rule : Rule) (s : ℕ) → HasFrontAndLog g image said → FirstDamage image (of_groups rule) s
    → FirstDamageOfGroups g (groups_of g image said) rule s
lowered lower g image said rule s tells x =
    record {
      before = λ other lt. x.before (of_groups other) lt g said tells;
      broken = moved lower g image said rule s tells x.broken;
      least = λ other b. x.least other (g, said, tells, b);
    }

unpacked : (image : List Sector) (rule : Rule) (s : ℕ) → FirstDamage image (of_groups rule) s → (g : Geometry) × (said : Log) × HasFrontAndLog g image said
unpacked image rule s x = (x.broken.0, x.broken.1, x.broken.2)

one_of_groups : Lower → OfGroups → (image : List Sector) (a b : Rule) (s t : ℕ) → FirstDamage image (of_groups a) s → FirstDamage image (of_groups b) t → (of_groups a ≡ of_groups b) × (s ≡ t)
one_of_groups lower groups image a b s t x y =
    let at = unpacked image a s x in
    let both = groups.one at.0 (groups_of at.0 image at.1) a b s t (lowered lower at.0 image at.1 a s at.2 x) (lowered lower at.0 image at.1 b t at.2 y) in
    (ap of_groups both.0, both.1)

same_front : (a b : ImageRule) → image_rule_number a < 5 → image_rule_number a ≡ image_rule_number b → a ≡ b
same_front superblock superblock few e = refl
same_front superblock size few e = absurd (omega arith)
same_front superblock anchor few e = absurd (omega arith)
same_front superblock log few e = absurd (omega arith)
same_front size superblock few e = absurd (omega arith)
same_front size size few e = refl
same_front size anchor few e = absurd (omega arith)
same_front size log few e = absurd (omega arith)
same_front anchor superblock few e = absurd (omega arith)
same_front anchor size few e = absurd (omega arith)
same_front anchor anchor few e = refl
same_front anchor log few e = absurd (omega arith)
same_front log superblock few e = absurd (omega arith)
same_front log size few e = absurd (omega arith)
same_front log anchor few e = absurd (omega arith)
same_front log log few e = refl
same_front a (of_groups rule) few e = let low = five rule in absurd (omega arith)
same_front (of_groups rule) b few e = let low = five rule in absurd (omega arith)

least_sector : (image : List Sector) (a : ImageRule) (s t : ℕ) → FirstDamage image a s → FirstDamage image a t → s ≡ t
least_sector image a s t x y = let low = x.least t y.broken in let high = y.least s x.broken in omega arith

-- where one of the two is in front
one_in_front : Lower → (image : List Sector) (a b : ImageRule) (s t : ℕ) → (image_rule_number a < 5) ⊎ (image_rule_number b < 5) → FirstDamage image a s → FirstDamage image b t → (a ≡ b) × (s ≡ t)
one_in_front lower image a b s t front x y =
    elim (cases_order (image_rule_number a) (image_rule_number b)) [
      | inl e ↦
          let few : image_rule_number a < 5 = elim front [ inl f ↦ f | inr f ↦ omega arith ] in
          let same : a ≡ b = same_front a b few e in
          (same, least_sector image b s t (subst (λ (r : ImageRule). FirstDamage image r s) same x) y)
      | inr (inl lt) ↦
          let few : image_rule_number a < 5 = elim front [ inl f ↦ f | inr f ↦ omega arith ] in
          absurd (unbroken lower image a s few (y.before a lt) x.broken)
      | inr (inr gt) ↦
          let few : image_rule_number b < 5 = elim front [ inl f ↦ omega arith | inr f ↦ f ] in
          absurd (unbroken lower image b t few (x.before b gt) y.broken)
    ]

pub one : Lower → OfGroups → (image : List Sector) (a b : ImageRule) (s t : ℕ) → FirstDamage image a s → FirstDamage image b t → (a ≡ b) × (s ≡ t)
one lower groups image (of_groups a) (of_groups b) s t x y = one_of_groups lower groups image a b s t x y
one lower groups image superblock b s t x y = one_in_front lower image superblock b s t (inl (omega arith)) x y
one lower groups image size b s t x y = one_in_front lower image size b s t (inl (omega arith)) x y
one lower groups image anchor b s t x y = one_in_front lower image anchor b s t (inl (omega arith)) x y
one lower groups image log b s t x y = one_in_front lower image log b s t (inl (omega arith)) x y
one lower groups image (of_groups a) superblock s t x y = one_in_front lower image (of_groups a) superblock s t (inr (omega arith)) x y
one lower groups image (of_groups a) size s t x y = one_in_front lower image (of_groups a) size s t (inr (omega arith)) x y
one lower groups image (of_groups a) anchor s t x y = one_in_front lower image (of_groups a) anchor s t (inr (omega arith)) x y
one lower groups image (of_groups a) log s t x y = one_in_front lower image (of_groups a) log s t (inr (omega arith)) x y

pub none : Lower → OfGroups → (image : List Sector) (a : ImageRule) (s : ℕ) → IsSound image → FirstDamage image a s → ⊥
none lower groups image superblock s sound x = unbroken lower image superblock s (omega arith) (sound superblock) x.broken
none lower groups image size s sound x = unbroken lower image size s (omega arith) (sound size) x.broken
none lower groups image anchor s sound x = unbroken lower image anchor s (omega arith) (sound anchor) x.broken
none lower groups image log s sound x = unbroken lower image log s (omega arith) (sound log) x.broken
none lower groups image (of_groups a) s sound x =
    let at = unpacked image a s x in
    groups.none at.0 (groups_of at.0 image at.1) a s (λ rule. sound (of_groups rule) at.0 at.1 at.2) (lowered lower at.0 image at.1 a s at.2 x)

-- ---- what an image tells

-- the rules in front hold
pub front_holds : Lower → (g : Geometry) (image : List Sector) (said : Log) (rule : ImageRule) → image_rule_number rule < 5 → HasFrontAndLog g image said → ImageHolds image rule
front_holds lower g image said superblock few tells = (g, tells.superblock)
front_holds lower g image said size few tells = λ other has.
    let same : g ≡ other = one_geometry lower g other image tells.superblock has in
    subst (λ (x : Geometry). IsLongEnough x image) same tells.log.size
front_holds lower g image said anchor few tells = λ other has.
    let same : g ≡ other = one_geometry lower g other image tells.superblock has in
    subst (λ (x : Geometry). (position : ℕ) × (next : ℕ) × HasAnchor image (anchor_of x) x.ring position next) same
    (tells.log.says.0, tells.log.says.1, tells.log.says.2)
front_holds lower g image said log few tells = λ other position next has at.
    let same : other ≡ g = one_geometry lower other g image has tells.superblock in
    let here : HasAnchor image (anchor_of g) g.ring position next = subst (λ (x : Geometry). HasAnchor image (anchor_of x) x.ring position next) same at in
    let numbers = one_anchor image (anchor_of g) g.ring tells.log.says.0 tells.log.says.1 position next tells.log.says.2 here in
    let right : IsLogRight g image tells.log.says.0 tells.log.says.1 = (said, tells.log.says.3) in
    subst (λ (x : Geometry). IsLogRight x image position next) (sym same)
    (subst (λ (n : ℕ). IsLogRight g image position n) numbers.1
    (subst (λ (p : ℕ). IsLogRight g image p tells.log.says.1) numbers.0 right))
front_holds lower g image said (of_groups rule) few tells = let low = five rule in absurd (omega arith)

-- what holds of the groups of what the image tells
pub groups_hold : Lower → (g : Geometry) (image : List Sector) (said : Log) (rule : Rule) → HasFrontAndLog g image said → HoldsInGroups g (groups_of g image said) rule → ImageHolds image (of_groups rule)
groups_hold lower g image said rule tells h other heard there =
    let same : g ≡ other = one_geometry lower g other image tells.superblock there.superblock in
    let here : HasFrontAndLog other image said = subst (λ (x : Geometry). HasFrontAndLog x image said) same tells in
    let log_same : said ≡ heard = one_said lower other image said heard here there in
    subst (λ (x : Log). HoldsInGroups other (groups_of other image x) rule) log_same
    (subst (λ (x : Geometry). HoldsInGroups x (groups_of x image said) rule) same h)

raised_before : Lower → (g : Geometry) (image : List Sector) (said : Log) (rule : Rule) (s : ℕ) → HasFrontAndLog g image said → FirstDamageOfGroups g (groups_of g image said) rule s
    → (other : ImageRule) → image_rule_number other < number_in_groups rule → ImageHolds image other
raised_before lower g image said rule s tells x (of_groups other) lt = groups_hold lower g image said other tells (x.before other lt)
raised_before lower g image said rule s tells x superblock lt = front_holds lower g image said superblock (omega arith) tells
raised_before lower g image said rule s tells x size lt = front_holds lower g image said size (omega arith) tells
raised_before lower g image said rule s tells x anchor lt = front_holds lower g image said anchor (omega arith) tells
raised_before lower g image said rule s tells x log lt = front_holds lower g image said log (omega arith) tells

pub raised : Lower → (g : Geometry) (image : List Sector) (said : Log) (rule : Rule) (s : ℕ) → HasFrontAndLog g image said → FirstDamageOfGroups g (groups_of g image said) rule s
    → FirstDamage image (of_groups rule) s
raised lower g image said rule s tells x =
    record {
      before = raised_before lower g image said rule s tells x;
      broken = (g, said, tells, x.broken);
      least = λ other b. x.least other (moved lower g image said rule other tells b);
    }

-- ---- the first damage of the anchor and the log

anchor_before : (g : Geometry) (image : List Sector) → Lower → HasSuperblock g image → IsLongEnough g image → (other : ImageRule) → image_rule_number other < 3 → ImageHolds image other
anchor_before g image lower has enough superblock lt = (g, has)
anchor_before g image lower has enough size lt = λ other there.
    subst (λ (x : Geometry). IsLongEnough x image) (one_geometry lower g other image has there) enough
anchor_before g image lower has enough anchor lt = absurd (omega arith)
anchor_before g image lower has enough log lt = absurd (omega arith)
anchor_before g image lower has enough (of_groups rule) lt = let low = five rule in absurd (omega arith)

log_before : (g : Geometry) (image : List Sector) (position next : ℕ) → Lower → HasSuperblock g image → IsLongEnough g image → HasAnchor image (anchor_of g) g.ring position next
    → (other : ImageRule) → image_rule_number other < 4 → ImageHolds image other
log_before g image position next lower has enough at superblock lt = anchor_before g image lower has enough superblock (omega arith)
log_before g image position next lower has enough at size lt = anchor_before g image lower has enough size (omega arith)
log_before g image position next lower has enough at anchor lt = λ other there.
    subst (λ (x : Geometry). IsAnchorRight x image) (one_geometry lower g other image has there) (position, next, at)
log_before g image position next lower has enough at log lt = absurd (omega arith)
log_before g image position next lower has enough at (of_groups rule) lt = let low = five rule in absurd (omega arith)

anchor_damage : Lower → (g : Geometry) (image : List Sector) (s : ℕ) → HasSuperblock g image → IsLongEnough g image → AnchorBreaks image (anchor_of g) g.ring s → FirstDamage image anchor s
anchor_damage lower g image s has enough breaks =
    record {
      before = anchor_before g image lower has enough;
      broken = (g, has, breaks);
      least = λ other b.
          let same : anchor_of b.0 ≡ anchor_of g = ap anchor_of (one_geometry lower b.0 g image b.1 has) in
          let here = b.2.0 in let there = breaks.0 in omega arith;
    }

log_moved : Lower → (g : Geometry) (image : List Sector) (position next s : ℕ) → HasSuperblock g image → HasAnchor image (anchor_of g) g.ring position next → ImageBreaks image log s
    → LogBreaks (ring_of g image) (anchor_of g) position s
log_moved lower g image position next s has at b =
    let same : b.0 ≡ g = one_geometry lower b.0 g image b.3 has in
    let here : HasAnchor image (anchor_of g) g.ring b.1 b.2 = subst (λ (x : Geometry). HasAnchor image (anchor_of x) x.ring b.1 b.2) same b.4 in
    let numbers = one_anchor image (anchor_of g) g.ring b.1 b.2 position next here at in
    subst (λ (p : ℕ). LogBreaks (ring_of g image) (anchor_of g) p s) numbers.0
    (subst (λ (x : Geometry). LogBreaks (ring_of x image) (anchor_of x) b.1 s) same b.5)

log_damage : Lower → (g : Geometry) (image : List Sector) (position next s : ℕ) → HasSuperblock g image → IsLongEnough g image → HasAnchor image (anchor_of g) g.ring position next
    → LogBreaksFirst (ring_of g image) (anchor_of g) position s → FirstDamage image log s
log_damage lower g image position next s has enough at breaks =
    record {
      before = log_before g image position next lower has enough at;
      broken = (g, position, next, has, at, breaks.0);
      least = λ other b. breaks.1 other (log_moved lower g image position next other has at b);
    }

pub of_log : Lower → (g : Geometry) (image : List Sector) (rule s : ℕ) → HasSuperblock g image → IsLongEnough g image → IsLogDamage image (anchor_of g) g.ring rule s
    → (known : ImageRule) × (rule ≡ image_rule_number known) × FirstDamage image known s
of_log lower g image rule s has enough (inl (number, breaks)) = (anchor, number, anchor_damage lower g image s has enough breaks)
of_log lower g image rule s has enough (inr (number, (position, next, at, breaks))) = (log, number, log_damage lower g image position next s has enough at breaks)

-- ---- the superblock and the size

superblock_first : (image : List Sector) (other : ImageRule) → image_rule_number other < 1 → ImageHolds image other
superblock_first image superblock lt = absurd (omega arith)
superblock_first image size lt = absurd (omega arith)
superblock_first image anchor lt = absurd (omega arith)
superblock_first image log lt = absurd (omega arith)
superblock_first image (of_groups rule) lt = let low = five rule in absurd (omega arith)

pub of_superblock : (image : List Sector) → ¬ IsSuperblockRight image → FirstDamage image superblock 0
of_superblock image wrong = record { before = superblock_first image; broken = (refl, wrong); least = λ other b. omega arith }

size_before : (g : Geometry) (image : List Sector) → HasSuperblock g image → (other : ImageRule) → image_rule_number other < 2 → ImageHolds image other
size_before g image has superblock lt = (g, has)
size_before g image has size lt = absurd (omega arith)
size_before g image has anchor lt = absurd (omega arith)
size_before g image has log lt = absurd (omega arith)
size_before g image has (of_groups rule) lt = let low = five rule in absurd (omega arith)

pub of_size : (g : Geometry) (image : List Sector) → HasSuperblock g image → ¬ IsLongEnough g image → FirstDamage image size (length image)
of_size g image has short =
    record {
      before = size_before g image has;
      broken = (g, has, refl, short);
      least = λ other b. let at = b.2 in omega arith;
    }
