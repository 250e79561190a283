-- Walks of the unlinked buckets.
use Rattle.std.proofs.Common.{◌≡◌, ◌≢◌, ◌<◌, ◌≤◌, ◌+◌, ◌%◌, ℕ, zero, suc, List, Option, None, Some, IfNone, IfSome, IsSome, IsSomeAnd, slice_index, inl, inr, refl, ap, sym, subst, ◌∙◌, arith}
use Rattle.std.proofs.lemmas.Bool.{cases_eq, cases_lt, cases_order, false≢true}
use Rattle.std.proofs.lemmas.Option.{same_Some}
use Rattle.life_limits.specs.declared.TheConstants.{BUCKETS, NO_INODE}
use Rattle.life_bytes.specs.declared.sector.Sector.{Sector}
use Rattle.geometry.specs.declared.shape.Geometry.{Geometry}
use Rattle.life_table.specs.declared.types.Row.{Row}
use Rattle.sound_image.specs.Damage.{Rule, header, tree, core, fork, blocks, bitmap, pointers, lists, groups_rule_number, HoldsIn}
use Rattle.sound_image.specs.Places.{sector_in}
use Rattle.sound_image.specs.Reading.{header_of, core_of, row_at}
use Rattle.sound_image.specs.Rules.{AreMembers, IsNewMember, IsMet, IsListed, holder, pointer}
use Rattle.image_rules.specs.Faults.{IsFirstIn, SpaceHolds}
use Rattle.image_rules.specs.Listing.{next_pointer_of, IsOrphan, EndsThere, PointingBelow, AllNoted, AreUnmet, IsWalked, IsWrongAt, IsLeastWrong, WalkedBelow, Takes, IsLesser}
use Rattle.image_rules.proofs.Firsts.{in_order}
use Rattle.image_rules.proofs.Noting.{all_kept, all_end, orphan_of}
use Rattle.image_rules.proofs.Walking.{none_or_some}

-- a walk of a bucket stands at a pointer
pub record IsAt (g : Geometry) (image : List Sector) (group bucket at place : ℕ) (nexts : List (ℕ × ℕ)) : Type 0 where
  pub count : ℕ
  pub members : AreMembers g image group bucket count
  pub here : pointer g image group bucket count ≡ at
  pub held : holder g image group bucket count ≡ sector_in g group place
  pub unmet : AreUnmet g image group bucket count nexts

pub first_pointer : (g : Geometry) (image : List Sector) (group bucket : ℕ) → pointer g image group bucket 0 ≡ slice_index (header_of g image group).heads bucket
unfolding pointer
first_pointer g image group bucket = refl

pub first_holder : (g : Geometry) (image : List Sector) (group bucket : ℕ) → holder g image group bucket 0 ≡ sector_in g group 2
unfolding holder
first_holder g image group bucket = refl

next_pointer : (g : Geometry) (image : List Sector) (group bucket n : ℕ) → pointer g image group bucket (suc n) ≡ (core_of g image group (pointer g image group bucket n)).next
unfolding pointer
next_pointer g image group bucket n = refl

next_holder : (g : Geometry) (image : List Sector) (group bucket n : ℕ) → holder g image group bucket (suc n) ≡ sector_in g group (pointer g image group bucket n)
unfolding holder
next_holder g image group bucket n = refl

pub starts : (g : Geometry) (image : List Sector) (group bucket head : ℕ) (nexts : List (ℕ × ℕ)) → slice_index (header_of g image group).heads bucket ≡ head → AreUnmet g image group bucket 0 nexts
    → IsAt g image group bucket head 2 nexts
starts g image group bucket head nexts same unmet = record {
  count = 0;
  members = λ k lt. absurd (omega arith);
  here = first_pointer g image group bucket ∙ same;
  held = first_holder g image group bucket;
  unmet = unmet;
}

none_some : (x : ℕ) → None ≡ Some x → ⊥
none_some x e = cc

-- the pointer is right, and the walk goes on
pub moves : (g : Geometry) (image : List Sector) (group bucket at place next : ℕ) (old new : List (ℕ × ℕ)) → IsAt g image group bucket at place old → at % BUCKETS ≡ bucket → Takes old at next new
    → IsAt g image group bucket next at new
moves g image group bucket at place next old new was own takes =
    let n : ℕ = was.count in
    let kept = was.unmet.held at next own takes.was in
    let fresh : IsNewMember g image group bucket n = record {
      member = record {
        some = λ e. kept.0.some (sym was.here ∙ e);
        no_links = subst (IsOrphan g image group) (sym was.here) kept.0.orphan;
        own_bucket = ap (λ (a : ℕ). a % BUCKETS) was.here ∙ own;
      };
      new = λ k lt e. kept.1 k lt (e ∙ was.here);
    } in
    record {
      count = suc n;
      members = λ k lt. elim (cases_lt k n) [ inl l ↦ was.members k l | inr ge ↦ let e : n ≡ k = omega arith in subst (IsNewMember g image group bucket) e fresh ];
      here = next_pointer g image group bucket n ∙ ap (λ (a : ℕ). (core_of g image group a).next) was.here ∙ kept.0.points;
      held = next_holder g image group bucket n ∙ ap (sector_in g group) was.here;
      unmet = record {
        held = λ agino other mine is. elim (cases_eq agino at) [
          | inl e ↦ absurd (none_some other (sym takes.gone ∙ ap (next_pointer_of new) (sym e) ∙ is))
          | inr ne ↦
              let old_kept = was.unmet.held agino other mine (sym (takes.others agino ne) ∙ is) in (
                old_kept.0,
                λ k lt met. elim (cases_lt k n) [
                  | inl l ↦ old_kept.1 k l met
                  | inr ge ↦ let e : k ≡ n = omega arith in ne (sym met ∙ ap (pointer g image group bucket) e ∙ was.here)
                ],
              )
        ];
        gone = λ agino mine absent orphan. elim (cases_eq agino at) [
          | inl e ↦ (n, omega arith, was.here ∙ sym e)
          | inr ne ↦ let met = was.unmet.gone agino mine (sym (takes.others agino ne) ∙ absent) orphan in (met.0, omega (arith, met.1), met.2)
        ];
      };
    }

-- the pointer is the end mark
pub arrives : (g : Geometry) (image : List Sector) (group bucket at place : ℕ) (nexts : List (ℕ × ℕ)) → IsAt g image group bucket at place nexts → at ≡ NO_INODE → IsWalked g image group bucket nexts
arrives g image group bucket at place nexts was end = record { count = was.count; members = was.members; end = was.here ∙ end; unmet = was.unmet }

-- the pointer is wrong
pub strays : (g : Geometry) (image : List Sector) (group bucket at place : ℕ) (nexts : List (ℕ × ℕ)) → IsAt g image group bucket at place nexts → at ≢ NO_INODE
    → (at % BUCKETS ≡ bucket → next_pointer_of nexts at ≡ None) → IsWrongAt g image group bucket place
strays g image group bucket at place nexts was no_end none = record {
  count = was.count;
  wrong = record {
    before = was.members;
    no_end = λ e. no_end (sym was.here ∙ e);
    wrong = λ fresh.
        let own : at % BUCKETS ≡ bucket = ap (λ (a : ℕ). a % BUCKETS) (sym was.here) ∙ fresh.member.own_bucket in
        let met = was.unmet.gone at own (none own) (subst (IsOrphan g image group) was.here fresh.member.no_links) in
        fresh.new met.0 met.1 (met.2 ∙ sym was.here);
  };
  held = was.held;
}

-- ---- all buckets

same_place : (g : Geometry) (group a b : ℕ) → sector_in g group a ≡ sector_in g group b → a ≡ b
unfolding sector_in
same_place g group a b e = omega arith

walked_right : (g : Geometry) (image : List Sector) (group bucket place : ℕ) (nexts : List (ℕ × ℕ)) → IsWalked g image group bucket nexts → IsWrongAt g image group bucket place → ⊥
walked_right g image group bucket place nexts walked at =
    elim (cases_order at.count walked.count) [
      | inl e ↦ at.wrong.no_end (ap (pointer g image group bucket) e ∙ walked.end)
      | inr (inl lt) ↦ at.wrong.wrong (walked.members at.count lt)
      | inr (inr gt) ↦ (at.wrong.before walked.count gt).member.some walked.end
    ]

one_wrong : (g : Geometry) (image : List Sector) (group bucket a b : ℕ) → IsWrongAt g image group bucket a → IsWrongAt g image group bucket b → a ≡ b
one_wrong g image group bucket a b x y =
    elim (cases_order x.count y.count) [
      | inl e ↦ same_place g group a b (sym x.held ∙ ap (holder g image group bucket) e ∙ y.held)
      | inr (inl lt) ↦ absurd (x.wrong.wrong (y.wrong.before x.count lt))
      | inr (inr gt) ↦ absurd (y.wrong.wrong (x.wrong.before y.count gt))
    ]

-- a walk of another bucket changes nothing
walked_still : (g : Geometry) (image : List Sector) (group bucket other : ℕ) (old new : List (ℕ × ℕ)) → bucket ≢ other → ((agino : ℕ) → agino % BUCKETS ≢ other → next_pointer_of new agino ≡ next_pointer_of old agino)
    → IsWalked g image group bucket old → IsWalked g image group bucket new
walked_still g image group bucket other old new ne same was = record {
  count = was.count;
  members = was.members;
  end = was.end;
  unmet = record {
    held = λ agino next mine is. was.unmet.held agino next mine (sym (same agino (λ e. ne (sym mine ∙ e))) ∙ is);
    gone = λ agino mine absent orphan. was.unmet.gone agino mine (sym (same agino (λ e. ne (sym mine ∙ e))) ∙ absent) orphan;
  };
}

pub unmet_still : (g : Geometry) (image : List Sector) (group bucket : ℕ) (old new : List (ℕ × ℕ)) → ((agino : ℕ) → agino % BUCKETS ≡ bucket → next_pointer_of new agino ≡ next_pointer_of old agino)
    → AreUnmet g image group bucket 0 old → AreUnmet g image group bucket 0 new
unmet_still g image group bucket old new same was = record {
  held = λ agino next mine is. was.held agino next mine (sym (same agino mine) ∙ is);
  gone = λ agino mine absent orphan. was.gone agino mine (sym (same agino mine) ∙ absent) orphan;
}

pub walked_more : (g : Geometry) (image : List Sector) (group b : ℕ) (old new : List (ℕ × ℕ)) (wrong place now : Option ℕ) → IsLesser wrong place now → WalkedBelow g image group b old wrong
    → ((agino : ℕ) → agino % BUCKETS ≢ b → next_pointer_of new agino ≡ next_pointer_of old agino) → IfNone place (IsWalked g image group b new) → IfSome place (IsWrongAt g image group b)
    → WalkedBelow g image group (b + 1) new now
walked_more g image group b old new None None None least was same ends strays = λ bucket lt.
    elim (cases_lt bucket b) [
      | inl l ↦ walked_still g image group bucket b old new (λ e. absurd (omega arith)) same (was bucket l)
      | inr ge ↦ let e : b ≡ bucket = omega arith in subst (λ (n : ℕ). IsWalked g image group n new) e ends
    ]
walked_more g image group b old new None None (Some n) least was same ends strays = absurd (elim least.0 [ inl e ↦ none_some n e | inr e ↦ none_some n e ])
walked_more g image group b old new None (Some y) None least was same ends strays = absurd (none_some y (sym least.1))
walked_more g image group b old new (Some x) place None least was same ends strays = absurd (none_some x (sym least.0))
walked_more g image group b old new None (Some y) (Some n) least was same ends strays =
    let e : y ≡ n = elim least.0 [ inl absent ↦ absurd (none_some n absent) | inr is ↦ same_Some y n is ] in
    record {
      bucket = b;
      low = omega arith;
      wrong = subst (IsWrongAt g image group b) e strays;
      least = λ other at lt bad. elim (cases_lt other b) [
        | inl l ↦ absurd (walked_right g image group other at old (was other l) bad)
        | inr ge ↦ let same_bucket : other ≡ b = omega arith in
            omega (arith, e, one_wrong g image group b y at strays (subst (λ (k : ℕ). IsWrongAt g image group k at) same_bucket bad))
      ];
    }
walked_more g image group b old new (Some x) None (Some n) least was same ends strays =
    let e : x ≡ n = elim least.0 [ inl is ↦ same_Some x n is | inr absent ↦ absurd (none_some n absent) ] in
    record {
      bucket = was.bucket;
      low = omega (arith, was.low);
      wrong = subst (IsWrongAt g image group was.bucket) e was.wrong;
      least = λ other at lt bad. elim (cases_lt other b) [
        | inl l ↦ omega (arith, e, was.least other at l bad)
        | inr ge ↦ let same_bucket : other ≡ b = omega arith in
            absurd (walked_right g image group b at new ends (subst (λ (k : ℕ). IsWrongAt g image group k at) same_bucket bad))
      ];
    }
walked_more g image group b old new (Some x) (Some y) (Some n) least was same ends strays =
    let low : (other at : ℕ) → other < b + 1 → IsWrongAt g image group other at → n ≤ at = λ other at lt bad. elim (cases_lt other b) [
      | inl l ↦ omega (arith, least.1, was.least other at l bad)
      | inr ge ↦ let same_bucket : other ≡ b = omega arith in
          omega (arith, least.2, one_wrong g image group b y at strays (subst (λ (k : ℕ). IsWrongAt g image group k at) same_bucket bad))
    ] in
    elim least.0 [
      | inl is ↦ record { bucket = was.bucket; low = omega (arith, was.low); wrong = subst (IsWrongAt g image group was.bucket) (same_Some x n is) was.wrong; least = low }
      | inr is ↦ record { bucket = b; low = omega arith; wrong = subst (IsWrongAt g image group b) (same_Some y n is) strays; least = low }
    ]

pub unmet_all : (g : Geometry) (image : List Sector) (group bucket : ℕ) (nexts : List (ℕ × ℕ)) (pointing : Option ℕ) → AllNoted g image group nexts pointing → AreUnmet g image group bucket 0 nexts
unmet_all g image group bucket nexts pointing all = record {
  held = λ agino next mine is. (all.noted.orphans.held agino next is, λ k lt. absurd (omega arith));
  gone = λ agino mine absent orphan. absurd (all_kept g image group nexts pointing all agino absent orphan);
}

-- ---- the first damage by the rules on pointers and on lists

before_pointers : (P : Rule → Type 0) → ((rule : Rule) → groups_rule_number rule ≤ 10 → P rule) → (other : Rule) → groups_rule_number other < 11 → P other
before_pointers P below other lt = below other (omega arith)

before_lists : (P : Rule → Type 0) → ((rule : Rule) → groups_rule_number rule ≤ 10 → P rule) → P pointers → (other : Rule) → groups_rule_number other < 12 → P other
before_lists P below a header lt = below header (omega arith)
before_lists P below a tree lt = below tree (omega arith)
before_lists P below a core lt = below core (omega arith)
before_lists P below a fork lt = below fork (omega arith)
before_lists P below a blocks lt = below blocks (omega arith)
before_lists P below a bitmap lt = below bitmap (omega arith)
before_lists P below a pointers lt = a
before_lists P below a lists lt = absurd (omega arith)

pub all_rules : (P : Rule → Type 0) → ((rule : Rule) → groups_rule_number rule ≤ 10 → P rule) → P pointers → P lists → (other : Rule) → P other
all_rules P below a b header = below header (omega arith)
all_rules P below a b tree = below tree (omega arith)
all_rules P below a b core = below core (omega arith)
all_rules P below a b fork = below fork (omega arith)
all_rules P below a b blocks = below blocks (omega arith)
all_rules P below a b bitmap = below bitmap (omega arith)
all_rules P below a b pointers = a
all_rules P below a b lists = b

holder_place : (g : Geometry) (image : List Sector) (group bucket n : ℕ) → (place : ℕ) × (holder g image group bucket n ≡ sector_in g group place)
holder_place g image group bucket zero = (2, first_holder g image group bucket)
holder_place g image group bucket (suc n) = (pointer g image group bucket n, next_holder g image group bucket n)

pub pointers_first : (g : Geometry) (image : List Sector) (group place : ℕ) → SpaceHolds g image group → IsLeastWrong g image group BUCKETS place → IsFirstIn g image group 11 (sector_in g group place)
pointers_first g image group place space wrong = record {
  rule = pointers;
  numbered = refl;
  before = before_pointers (λ (rule : Rule). HoldsIn g image rule group) space;
  broken = (wrong.bucket, wrong.wrong.count, wrong.low, sym wrong.wrong.held, wrong.wrong.wrong);
  least = λ s b.
      let at = holder_place g image group b.0 b.1 in
      let low = wrong.least b.0 at.0 b.2 (record { count = b.1; wrong = b.4; held = at.1 }) in
      omega (arith, b.3, at.1, in_order g group place at.0 low);
}

pub pointers_hold : (g : Geometry) (image : List Sector) (group : ℕ) (nexts : List (ℕ × ℕ)) → WalkedBelow g image group BUCKETS nexts None → HoldsIn g image pointers group
pointers_hold g image group nexts walked bucket low = let w = walked bucket low in record { count = w.count; members = w.members; end = w.end }

-- an inode is right that was met, or points nowhere
listed : (g : Geometry) (image : List Sector) (group agino : ℕ) (nexts : List (ℕ × ℕ)) (row : Row) → WalkedBelow g image group BUCKETS nexts None → row_at g image group agino ≡ Some row
    → next_pointer_of nexts agino ≡ None → EndsThere g image group agino → IsListed g image group agino row
listed g image group agino nexts row walked found absent ends = record {
  unlinked = λ none.
      let w = walked (agino % BUCKETS) (omega arith) in
      let met = w.unmet.gone agino refl absent (orphan_of g image group agino row found none) in
      record { place = met.0; members = λ k lt. w.members k (omega (arith, lt, met.1)); met = met.2 };
  linked = λ some. ends row found some;
}

-- one that was not met is not listed
unlisted : (g : Geometry) (image : List Sector) (group agino next : ℕ) (nexts : List (ℕ × ℕ)) → WalkedBelow g image group BUCKETS nexts None → next_pointer_of nexts agino ≡ Some next
    → IsMet g image group agino → ⊥
unlisted g image group agino next nexts walked is met =
    let w = walked (agino % BUCKETS) (omega arith) in
    let kept = w.unmet.held agino next refl is in
    elim (cases_order met.place w.count) [
      | inl e ↦ kept.0.some (sym met.met ∙ ap (pointer g image group (agino % BUCKETS)) e ∙ w.end)
      | inr (inl lt) ↦ kept.1 met.place lt met.met
      | inr (inr gt) ↦ (met.members w.count gt).member.some w.end
    ]

-- the least number of those that are kept
abbrev pub IsFirstKept : List (ℕ × ℕ) → Option ℕ → Type 0
IsFirstKept nexts first =
    IfSome first (λ agino. IsSome (next_pointer_of nexts agino) × ((other : ℕ) → IsSome (next_pointer_of nexts other) → agino ≤ other))
    × IfNone first ((other : ℕ) → next_pointer_of nexts other ≡ None)

some_of : (o : Option ℕ) → IsSome o → (x : ℕ) × (o ≡ Some x)
some_of None is = absurd (false≢true is)
some_of (Some x) is = (x, refl)

some_from : (o : Option ℕ) (x : ℕ) → o ≡ Some x → IsSome o
some_from o x is = subst IsSome (sym is) refl

none_kept : (nexts : List (ℕ × ℕ)) (first : Option ℕ) (n agino : ℕ) → IsFirstKept nexts first → IfSome first (λ x. n ≤ x) → agino < n → next_pointer_of nexts agino ≡ None
none_kept nexts None n agino is low lt = is.1 agino
none_kept nexts (Some x) n agino is low lt =
    elim (none_or_some (next_pointer_of nexts agino)) [
      | inl e ↦ e
      | inr found ↦ absurd (omega (arith, low, lt, is.0.1 agino (some_from (next_pointer_of nexts agino) found.0 found.1)))
    ]

ends_below : (g : Geometry) (image : List Sector) (group n agino : ℕ) (nexts : List (ℕ × ℕ)) (pointing : Option ℕ) → AllNoted g image group nexts pointing → IfSome pointing (λ x. n ≤ x) → agino < n
    → EndsThere g image group agino
ends_below g image group n agino nexts None all low lt = all_end g image group nexts all agino
ends_below g image group n agino nexts (Some x) all low lt = all.noted.first.before agino (omega (arith, low, lt))

row_of : (o : Option Row) → IsSomeAnd o (λ row. row.links ≡ 0) → (row : Row) × (o ≡ Some row) × (row.links ≡ 0)
row_of None is = absurd is
row_of (Some row) is = (row, refl, is)

unlisted_row : (g : Geometry) (image : List Sector) (group agino : ℕ) (nexts : List (ℕ × ℕ)) → WalkedBelow g image group BUCKETS nexts None → IsSome (next_pointer_of nexts agino)
    → (row : Row) × (row_at g image group agino ≡ Some row) × (IsListed g image group agino row → ⊥)
unlisted_row g image group agino nexts walked some =
    let is = some_of (next_pointer_of nexts agino) some in
    let w = walked (agino % BUCKETS) (omega arith) in
    let kept = w.unmet.held agino is.0 refl is.1 in
    let row = row_of (row_at g image group agino) kept.0.orphan in
    (row.0, row.1, λ right. unlisted g image group agino is.0 nexts walked is.1 (right.unlinked row.2))

wrong_row : (g : Geometry) (image : List Sector) (group n : ℕ) (old nexts : List (ℕ × ℕ)) (first pointing : Option ℕ) → WalkedBelow g image group BUCKETS nexts None → AllNoted g image group old pointing
    → IsFirstKept nexts first → IsLesser first pointing (Some n) → (row : Row) × (row_at g image group n ≡ Some row) × (IsListed g image group n row → ⊥)
wrong_row g image group n old nexts first pointing walked all kept least =
    elim least.0 [
      | inl is ↦
          let f = subst (λ (o : Option ℕ). IfSome o (λ agino. IsSome (next_pointer_of nexts agino) × ((other : ℕ) → IsSome (next_pointer_of nexts other) → agino ≤ other))) is kept.0 in
          unlisted_row g image group n nexts walked f.0
      | inr is ↦
          let f = subst (PointingBelow g image group all.bound) is all.noted.first in
          (f.row, f.found, λ right. f.wrong (right.linked f.linked))
    ]

pub lists_first : (g : Geometry) (image : List Sector) (group n : ℕ) (old nexts : List (ℕ × ℕ)) (first pointing : Option ℕ) → SpaceHolds g image group → WalkedBelow g image group BUCKETS nexts None
    → AllNoted g image group old pointing → IsFirstKept nexts first → IsLesser first pointing (Some n) → IsFirstIn g image group 12 (sector_in g group n)
lists_first g image group n old nexts first pointing space walked all kept least =
    let row = wrong_row g image group n old nexts first pointing walked all kept least in
    record {
      rule = lists;
      numbered = refl;
      before = before_lists (λ (rule : Rule). HoldsIn g image rule group) space (pointers_hold g image group nexts walked);
      broken = (n, row.0, refl, row.1, row.2);
      least = λ s b. elim (cases_lt b.0 n) [
        | inl lt ↦ absurd (b.4 (listed g image group b.0 nexts b.1 walked b.3 (none_kept nexts first n b.0 kept least.1 lt) (ends_below g image group n b.0 old pointing all least.2 lt)))
        | inr ge ↦ omega (arith, b.2, in_order g group n b.0 ge)
      ];
    }

pub lists_hold : (g : Geometry) (image : List Sector) (group : ℕ) (old nexts : List (ℕ × ℕ)) (first pointing : Option ℕ) → WalkedBelow g image group BUCKETS nexts None
    → AllNoted g image group old pointing → IsFirstKept nexts first → IsLesser first pointing None → HoldsIn g image lists group
lists_hold g image group old nexts first pointing walked all kept least agino row found =
    let f = subst (λ (o : Option ℕ). IfNone o ((other : ℕ) → next_pointer_of nexts other ≡ None)) least.0 kept.1 in
    let ended = subst (λ (o : Option ℕ). AllNoted g image group old o) least.1 all in
    listed g image group agino nexts row walked found (f agino) (all_end g image group old ended agino)

-- a sector of a group stands at its place behind the group's first
pub shifted : (g : Geometry) (group place : ℕ) → sector_in g group 0 + place ≡ sector_in g group place
unfolding sector_in
shifted g group place = omega arith
