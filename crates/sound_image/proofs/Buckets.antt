-- The unlinked buckets of an image that encodes a table are its bucket lists.
use Rattle.std.proofs.Common.{◌≡◌, ◌≢◌, ◌<◌, ◌≤◌, ◌%◌, ℕ, zero, suc, true, cond, List, [], ◌∷◌, Option, Some, length, get_or, eqb, inl, inr, refl, ap, sym, subst, ◌∙◌, arith}
use Rattle.std.specs.Prelude.{IsSomeAnd}
use Rattle.std.specs.Option.{option_map, option_and_then}
use Rattle.std.proofs.lemmas.Bool.{cases_eq, cond-true, cond-false, eq-eqb, ne_eqb}
use Rattle.std.proofs.lemmas.List.{get_or_past}
use Rattle.std.proofs.lemmas.List.FromFn.{get_or-map-range_with_len}
use Rattle.life_bytes.specs.declared.sector.Sector.{Sector}
use Rattle.geometry.specs.declared.shape.Geometry.{Geometry}
use Rattle.ag_header.specs.declared.agi.Agi.{Agi}
use Rattle.life_limits.specs.declared.TheConstants.{NO_INODE}
use Rattle.life_table.specs.declared.types.Row.{Row}
use Rattle.life_table.specs.declared.table.Inode.{Inode}
use Rattle.life_table.specs.declared.table.Table.{Table}
use Rattle.life_table.specs.Table.{Group, group_at, inode_in}
use Rattle.life_table.specs.History.{closed_inode, closed_row}
use Rattle.life_table.specs.Space.{times}
use Rattle.sound_image.specs.Reading.{core_of, row_at}
use Rattle.sound_image.specs.Rules.{pointer, IsMember, IsNewMember, Ends, IsMet, IsListed}
use Rattle.sound_image.specs.Encoding.{Layouts, bucket_list, head_of, next_in, header_for, is_unlinked, encoded}
use Rattle.sound_image.proofs.Groups.{times-cons, times-nil, times_here, times_later}
use Rattle.sound_image.proofs.Headers.{header_is}
use Rattle.sound_image.proofs.Inodes.{times_get, next_is}
use Rattle.sound_image.proofs.Ready.{Lower, IsReady, member, member_range, member_once, is_unlinked_again, is_linked, unlinked_listed, linked_not_listed}
use Rattle.sound_image.proofs.Rows.{is_row_read, inode_at_is}

-- ---- layouts in which nothing stands twice

abbrev pub IsOnce : List ℕ → Type 0
IsOnce members = (m : ℕ) → times m members ≤ 1

pub head_at : (members : List ℕ) → head_of members ≡ get_or members 0 NO_INODE
unfolding head_of
head_at [] = refl
head_at (m ∷ members) = refl

not_again : (m : ℕ) (members : List ℕ) → IsOnce (m ∷ members) → times m members ≡ 0
not_again m members once =
    let one : cond {A = ℕ} (eqb m m) 1 0 ≡ 1 = cond-true (eqb m m) 1 0 (eq-eqb m m refl) in
    omega (arith, once m, times-cons m m members)

rest_once : (m : ℕ) (members : List ℕ) → IsOnce (m ∷ members) → IsOnce members
rest_once m members once n = omega (arith, once n, times_later n m members)

-- a member behind the first is another
later_differs : (m : ℕ) (members : List ℕ) (k d : ℕ) → IsOnce (m ∷ members) → k < length members → m ≢ get_or members k d
later_differs m members k d once lt e = omega (arith, not_again m members once, subst (λ (n : ℕ). 1 ≤ times n members) (sym e) (times_get members k d lt))

pub next_at : (members : List ℕ) (n : ℕ) → IsOnce members → n < length members → next_in members (get_or members n NO_INODE) ≡ get_or members (suc n) NO_INODE
unfolding next_in
next_at [] n once lt = absurd (omega arith)
next_at (m ∷ members) zero once lt = cond-true (eqb m m) (head_of members) (next_in members m) (eq-eqb m m refl) ∙ head_at members
next_at (m ∷ members) (suc n) once lt =
    let a : ℕ = get_or members n NO_INODE in
    cond-false (eqb m a) (head_of members) (next_in members a) (ne_eqb m a (later_differs m members n NO_INODE once (omega arith)))
    ∙ next_at members n (rest_once m members once) (omega arith)

pub next_none : (members : List ℕ) (a : ℕ) → times a members ≡ 0 → next_in members a ≡ NO_INODE
unfolding next_in
next_none [] a none = refl
next_none (m ∷ members) a none =
    elim (cases_eq m a) [
      | inl e ↦ absurd (omega (arith, none, subst (λ (n : ℕ). 1 ≤ times n (m ∷ members)) e (times_here m members)))
      | inr ne ↦ cond-false (eqb m a) (head_of members) (next_in members a) (ne_eqb m a ne) ∙ next_none members a (omega (arith, none, times_later a m members))
    ]

differ : (members : List ℕ) (j k : ℕ) → IsOnce members → j < k → k < length members → get_or members j NO_INODE ≢ get_or members k NO_INODE
differ [] j k once lt within = absurd (omega arith)
differ (m ∷ members) j zero once lt within = absurd (omega arith)
differ (m ∷ members) zero (suc k) once lt within = later_differs m members k NO_INODE once (omega arith)
differ (m ∷ members) (suc j) (suc k) once lt within = differ members j k (rest_once m members once) (omega arith) (omega arith)

pub record Place (members : List ℕ) (a : ℕ) : Type 0 where
  pub index : ℕ
  pub within : index < length members
  pub here : get_or members index NO_INODE ≡ a

pub place_of : (members : List ℕ) (a : ℕ) → 1 ≤ times a members → Place members a
place_of [] a some = absurd (omega (arith, times-nil a))
place_of (m ∷ members) a some =
    elim (cases_eq m a) [
      | inl e ↦ record { index = 0; within = omega arith; here = e }
      | inr ne ↦
          let other : cond {A = ℕ} (eqb a m) 1 0 ≡ 0 = cond-false (eqb a m) 1 0 (ne_eqb a m (λ e. ne (sym e))) in
          let p = place_of members a (omega (arith, some, times-cons a m members)) in
          let within = p.within in
          record { index = suc p.index; within = omega arith; here = p.here }
    ]

-- ---- the pointers

heads_at : (g : Geometry) (group : ℕ) (chunks : Group) (layouts : Layouts) (bucket : ℕ) → bucket < 64
    → get_or (header_for g group chunks layouts).heads bucket 0 ≡ head_of (bucket_list layouts group bucket)
unfolding header_for
heads_at g group chunks layouts bucket lt = get_or-map-range_with_len (λ bucket. head_of (bucket_list layouts group bucket)) 0 64 bucket bucket 0 lt (omega arith)

once_of : (g : Geometry) (t : Table) (layouts : Layouts) (image : List Sector) (group bucket : ℕ) → IsReady g t layouts image group → bucket < 64 → IsOnce (bucket_list layouts group bucket)
once_of g t layouts image group bucket r low m = member_once g t layouts image group bucket m r low

pointer_is : (l : Lower) (g : Geometry) (t : Table) (layouts : Layouts) (image : List Sector) (group bucket : ℕ) → IsReady g t layouts image group → bucket < 64
    → (n : ℕ) → n ≤ length (bucket_list layouts group bucket) → pointer g (encoded g t layouts image) group bucket n ≡ get_or (bucket_list layouts group bucket) n NO_INODE
unfolding pointer
pointer_is l g t layouts image group bucket r low zero le =
    ap (λ (agi : Agi). get_or agi.heads bucket 0) (header_is l g t layouts image group r) ∙ heads_at g group (group_at t group) layouts bucket low ∙ head_at (bucket_list layouts group bucket)
pointer_is l g t layouts image group bucket r low (suc n) le =
    let new = encoded g t layouts image in
    let members = bucket_list layouts group bucket in
    let a : ℕ = get_or members n NO_INODE in
    let m = member g t layouts image group bucket a r low (times_get members n NO_INODE (omega arith)) in
    let u = m.unlinked in
    ap (λ (p : ℕ). (core_of g new group p).next) (pointer_is l g t layouts image group bucket r low n (omega arith))
    ∙ next_is l g t layouts image group a u.inode u.row r u.found u.live
    ∙ ap (λ (b : ℕ). next_in (bucket_list layouts group b) a) m.own
    ∙ next_at members n (once_of g t layouts image group bucket r low) (omega arith)

-- ---- members

row_made : (o : Option Inode) (x : Inode) (row : Row) → o ≡ Some x → x.row ≡ Some row → row.links ≡ 0
    → IsSomeAnd (option_and_then (λ (inode : Inode). inode.row) (option_map closed_inode o)) (λ (row : Row). row.links ≡ 0)
row_made o x row found live nil =
    subst (λ (o : Option Inode). IsSomeAnd (option_and_then (λ (inode : Inode). inode.row) (option_map closed_inode o)) (λ (row : Row). row.links ≡ 0)) (sym found)
    (subst (λ (o : Option Row). IsSomeAnd (closed_row o) (λ (row : Row). row.links ≡ 0)) (sym live) nil)

no_links : (l : Lower) (g : Geometry) (t : Table) (layouts : Layouts) (image : List Sector) (group agino : ℕ) (x : Inode) (row : Row) → IsReady g t layouts image group
    → inode_in (group_at t group) agino ≡ Some x → x.row ≡ Some row → row.links ≡ 0 → IsSomeAnd (row_at g (encoded g t layouts image) group agino) (λ (row : Row). row.links ≡ 0)
unfolding row_at
no_links l g t layouts image group agino x row r found live nil =
    subst (λ (o : Option Inode). IsSomeAnd (option_and_then (λ (inode : Inode). inode.row) o) (λ (row : Row). row.links ≡ 0)) (sym (inode_at_is l g t layouts image group agino r))
    (row_made (inode_in (group_at t group) agino) x row found live nil)

is_member : (l : Lower) (g : Geometry) (t : Table) (layouts : Layouts) (image : List Sector) (group bucket a : ℕ) → IsReady g t layouts image group → bucket < 64
    → 1 ≤ times a (bucket_list layouts group bucket) → IsMember g (encoded g t layouts image) group bucket a
is_member l g t layouts image group bucket a r low some =
    let m = member g t layouts image group bucket a r low some in
    let u = m.unlinked in
    let range = member_range g t layouts image group bucket a r low some in
    let most = r.most in
    record {
      some = λ e. omega (arith, e, range.1, most);
      no_links = no_links l g t layouts image group a u.inode u.row r u.found u.live u.no_links;
      own_bucket = m.own;
    }

new_member : (l : Lower) (g : Geometry) (t : Table) (layouts : Layouts) (image : List Sector) (group bucket : ℕ) → IsReady g t layouts image group → bucket < 64
    → (k : ℕ) → k < length (bucket_list layouts group bucket) → IsNewMember g (encoded g t layouts image) group bucket k
new_member l g t layouts image group bucket r low k lt =
    let new = encoded g t layouts image in
    let members = bucket_list layouts group bucket in
    let at : (n : ℕ) → n < length members → pointer g new group bucket n ≡ get_or members n NO_INODE = λ n within. pointer_is l g t layouts image group bucket r low n (omega arith) in
    record {
      member = subst (IsMember g new group bucket) (sym (at k lt)) (is_member l g t layouts image group bucket (get_or members k NO_INODE) r low (times_get members k NO_INODE lt));
      new = λ j before e. differ members j k (once_of g t layouts image group bucket r low) before lt (sym (at j (omega arith)) ∙ e ∙ at k lt);
    }

pub pointers_right : (l : Lower) (g : Geometry) (t : Table) (layouts : Layouts) (image : List Sector) (group bucket : ℕ) → IsReady g t layouts image group → bucket < 64
    → Ends g (encoded g t layouts image) group bucket
pointers_right l g t layouts image group bucket r low =
    let members = bucket_list layouts group bucket in
    record {
      count = length members;
      members = new_member l g t layouts image group bucket r low;
      end = pointer_is l g t layouts image group bucket r low (length members) (omega arith) ∙ get_or_past members (length members) NO_INODE (omega arith);
    }

-- ---- the lists are complete

met : (l : Lower) (g : Geometry) (t : Table) (layouts : Layouts) (image : List Sector) (group agino : ℕ) → IsReady g t layouts image group
    → is_unlinked (inode_in (group_at t group) agino) ≡ true → IsMet g (encoded g t layouts image) group agino
met l g t layouts image group agino r e =
    let bucket : ℕ = agino % 64 in
    let low : bucket < 64 = omega arith in
    let p = place_of (bucket_list layouts group bucket) agino (omega (arith, unlinked_listed g t layouts image group agino r e)) in
    let within = p.within in
    record {
      place = p.index;
      members = λ k lt. new_member l g t layouts image group bucket r low k (omega arith);
      met = pointer_is l g t layouts image group bucket r low p.index (omega arith) ∙ p.here;
    }

pub lists_right : (l : Lower) (g : Geometry) (t : Table) (layouts : Layouts) (image : List Sector) (group agino : ℕ) (row : Row) → IsReady g t layouts image group
    → row_at g (encoded g t layouts image) group agino ≡ Some row → IsListed g (encoded g t layouts image) group agino row
lists_right l g t layouts image group agino row r e =
    let x = is_row_read l g t layouts image group agino row r e in
    record {
      unlinked = λ nil. met l g t layouts image group agino r (is_unlinked_again (group_at t group) agino x.inode x.held x.found x.live (sym x.links ∙ nil));
      linked = λ some.
          next_is l g t layouts image group agino x.inode x.held r x.found x.live
          ∙ next_none (bucket_list layouts group (agino % 64)) agino
          (linked_not_listed g t layouts image group agino r (is_linked (group_at t group) agino x.inode x.held x.found x.live (λ nil. some (x.links ∙ nil))));
    }
