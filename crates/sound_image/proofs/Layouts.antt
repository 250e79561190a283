-- The layouts of a sound image: the block of each group's page, and its buckets as the pointers give them.
use Rattle.std.proofs.Common.{◌≡◌, ◌≢◌, ◌<◌, ◌≤◌, ◌-◌, ◌%◌, ℕ, zero, suc, Bool, true, false, cond, eqb, List, [], ◌∷◌, ◌++◌, Option, None, Some, length, map, get_or, inl, inr, refl, ap, sym, subst, ◌∙◌, arith}
use Rattle.std.specs.Prelude.{IsSomeAnd}
use Rattle.std.specs.Option.{option_and_then}
use Rattle.std.specs.List.{range_with_len}
use Rattle.std.proofs.lemmas.Bool.{cases_lt, cases_eq, cases_order, cases_Bool, cond-false, eqb-true, eq-eqb}
use Rattle.std.proofs.lemmas.List.{length-append, get_or_append_left, get_or-append_right, get_or_past}
use Rattle.std.proofs.lemmas.List.FromFn.{length-map-range_with_len, get_or-map-range_with_len}
use Rattle.life_bytes.specs.declared.sector.Sector.{Sector}
use Rattle.geometry.specs.declared.shape.Geometry.{Geometry}
use Rattle.life_limits.specs.declared.TheConstants.{NO_INODE}
use Rattle.life_table.specs.declared.types.Row.{Row}
use Rattle.life_table.specs.declared.table.Inode.{Inode}
use Rattle.life_table.specs.Table.{inode_in}
use Rattle.life_table.specs.Space.{times}
use Rattle.sound_image.specs.Reading.{core_of, group_read, inode_at, row_at}
use Rattle.sound_image.specs.Rules.{pointer, IsMember, AreMembers, Ends, IsMet}
use Rattle.sound_image.specs.Encoding.{next_in, is_unlinked, is_unlinked_row}
use Rattle.sound_image.proofs.Buckets.{IsOnce, next_at, place_of}
use Rattle.sound_image.proofs.Groups.{times-cons, times-nil}
use Rattle.sound_image.proofs.Inodes.{times_get}

-- ---- a list of values of a bounded index

-- a list with one value for each index below n, where each comes with a fact
pub record Filled {X : Type 0} (n : ℕ) (P : ℕ → X → Type 0) : Type 0 where
  pub items : List X
  pub long : length items ≡ n
  pub each : (k : ℕ) (d : X) → k < n → P k (get_or items k d)

pub fill : {X : Type 0} (n : ℕ) (P : ℕ → X → Type 0) → ((k : ℕ) → k < n → (x : X) × P k x) → Filled n P
fill zero P value = record { items = []; long = refl; each = λ k d lt. absurd (omega arith) }
fill {X} (suc n) P value =
    let front = fill n P (λ k lt. value k (omega arith)) in
    let last = value n (omega arith) in
    let long = front.long in
    record {
      items = front.items ++ last.0 ∷ [];
      long = omega (arith, length-append front.items (last.0 ∷ []));
      each = λ k d lt. elim (cases_lt k n) [
        | inl below ↦ subst (P k) (sym (get_or_append_left front.items (last.0 ∷ []) d k (omega arith))) (front.each k d below)
        | inr past ↦
            let at : k ≡ n = omega arith in
            let nil : k - n ≡ 0 = omega arith in
            subst (P k) (sym (get_or-append_right front.items (last.0 ∷ []) n k d long past ∙ ap (λ (i : ℕ). get_or (last.0 ∷ []) i d) nil)) (subst (λ (i : ℕ). P i last.0) (sym at) last.1)
      ];
    }

-- ---- one bucket

-- the list that the pointers of a bucket give
pub members_of : (g : Geometry) (image : List Sector) (group bucket : ℕ) → Ends g image group bucket → List ℕ
members_of g image group bucket ends = map (pointer g image group bucket) (range_with_len 0 ends.count)

pub record IsList (g : Geometry) (image : List Sector) (group bucket : ℕ) (members : List ℕ) : Type 0 where
  pub are : AreMembers g image group bucket (length members)
  pub end : pointer g image group bucket (length members) ≡ NO_INODE
  pub at : (n : ℕ) → n < length members → get_or members n NO_INODE ≡ pointer g image group bucket n

pub is_list : (g : Geometry) (image : List Sector) (group bucket : ℕ) (ends : Ends g image group bucket) → IsList g image group bucket (members_of g image group bucket ends)
unfolding members_of
is_list g image group bucket ends =
    let f : ℕ → ℕ = pointer g image group bucket in
    let long : length (map f (range_with_len 0 ends.count)) ≡ ends.count = length-map-range_with_len f 0 ends.count in
    record {
      are = λ k lt. ends.members k (omega (arith, long));
      end = ap f long ∙ ends.end;
      at = λ n lt. get_or-map-range_with_len f 0 ends.count n n NO_INODE (omega (arith, long)) (omega arith);
    }

-- pointer n, the end included
pub pointer_at : (g : Geometry) (image : List Sector) (group bucket : ℕ) (members : List ℕ) → IsList g image group bucket members → (n : ℕ) → n ≤ length members
    → pointer g image group bucket n ≡ get_or members n NO_INODE
pointer_at g image group bucket members is n le =
    elim (cases_lt n (length members)) [
      | inl lt ↦ sym (is.at n lt)
      | inr past ↦
          let at : n ≡ length members = omega arith in
          ap (pointer g image group bucket) at ∙ is.end ∙ sym (get_or_past members n NO_INODE past)
    ]

-- no two places of a list have one number
once_from : (members : List ℕ) → ((j k : ℕ) → j < k → k < length members → get_or members j NO_INODE ≢ get_or members k NO_INODE) → IsOnce members
once_from [] apart m = omega (arith, times-nil m)
once_from (x ∷ members) apart m =
    let rest = once_from members (λ j k lt within. apart (suc j) (suc k) (omega arith) (omega arith)) m in
    elim (cases_eq m x) [
      | inl e ↦ elim (cases_lt 0 (times m members)) [
        | inl later ↦
            let p = place_of members m later in
            absurd (apart 0 (suc p.index) (omega arith) (let w = p.within in omega arith) (sym e ∙ sym p.here))
        | inr none ↦ omega (arith, times-cons m x members, none, small (eqb m x))
      ]
      | inr ne ↦
          let other : cond {A = ℕ} (eqb m x) 1 0 ≡ 0 = cond-false (eqb m x) 1 0 (differ m x ne) in
          omega (arith, times-cons m x members, rest, other)
    ]
  where
    small : (t : Bool) → cond {A = ℕ} t 1 0 ≤ 1
    small true = omega arith
    small false = omega arith

    differ : (a b : ℕ) → (a ≡ b → ⊥) → eqb a b ≡ false
    differ a b ne = elim (cases_Bool (eqb a b)) [ inl same ↦ absurd (ne (eqb-true a b same)) | inr other ↦ other ]

pub list_once : (g : Geometry) (image : List Sector) (group bucket : ℕ) (members : List ℕ) → IsList g image group bucket members → IsOnce members
list_once g image group bucket members is =
    once_from members (λ j k lt within e. (is.are k within).new j lt (sym (is.at j (omega arith)) ∙ e ∙ is.at k within))

-- ---- which numbers it has

no_links_row : (o : Option Row) → IsSomeAnd o (λ (row : Row). row.links ≡ 0) → is_unlinked_row o ≡ true
no_links_row None h = absurd h
no_links_row (Some row) h = eq-eqb row.links 0 h

no_links_inode : (o : Option Inode) → IsSomeAnd (option_and_then (λ (inode : Inode). inode.row) o) (λ (row : Row). row.links ≡ 0) → is_unlinked o ≡ true
no_links_inode None h = absurd h
no_links_inode (Some x) h = no_links_row x.row h

pub member_unlinked : (g : Geometry) (image : List Sector) (group agino : ℕ) → IsSomeAnd (row_at g image group agino) (λ (row : Row). row.links ≡ 0)
    → is_unlinked (inode_in (group_read g image group) agino) ≡ true
unfolding row_at inode_at
member_unlinked g image group agino h = no_links_inode (inode_in (group_read g image group) agino) h

pub listed_member : (g : Geometry) (image : List Sector) (group bucket : ℕ) (members : List ℕ) (a : ℕ) → IsList g image group bucket members → 1 ≤ times a members → IsMember g image group bucket a
listed_member g image group bucket members a is some =
    let p = place_of members a some in
    subst (IsMember g image group bucket) (sym (is.at p.index p.within) ∙ p.here) (is.are p.index p.within).member

-- a number that is met is in the list
pub met_listed : (g : Geometry) (image : List Sector) (group a : ℕ) (members : List ℕ) → a ≢ NO_INODE → IsList g image group (a % 64) members → IsMet g image group a → 1 ≤ times a members
met_listed g image group a members some is met =
    elim (cases_order met.place (length members)) [
      | inl same ↦ absurd (some (sym met.met ∙ ap (pointer g image group (a % 64)) same ∙ is.end))
      | inr (inl lt) ↦ subst (λ (m : ℕ). 1 ≤ times m members) (is.at met.place lt ∙ met.met) (times_get members met.place NO_INODE lt)
      | inr (inr past) ↦ absurd ((met.members (length members) past).member.some is.end)
    ]

-- what follows a member
pub next_listed : (g : Geometry) (image : List Sector) (group bucket : ℕ) (members : List ℕ) (a : ℕ) → IsList g image group bucket members → 1 ≤ times a members
    → (core_of g image group a).next ≡ next_in members a
unfolding pointer
next_listed g image group bucket members a is some =
    let p = place_of members a some in
    let at : pointer g image group bucket p.index ≡ a = sym (is.at p.index p.within) ∙ p.here in
    let within = p.within in
    ap (λ (n : ℕ). (core_of g image group n).next) (sym at)
    ∙ pointer_at g image group bucket members is (suc p.index) (omega arith)
    ∙ sym (next_at members p.index (list_once g image group bucket members is) p.within)
    ∙ ap (next_in members) p.here
