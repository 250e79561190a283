-- The lists that the pointers give, before and after a change.
use Rattle.std.proofs.Common.{◌≡◌, ◌≢◌, ◌==◌, ◌<◌, ℕ, Bool, true, false, if◌then◌else◌, cond, eqb, List, [], ◌∷◌, length, Contains, slice_index, slice_set, replicate, refl, sym, ap, subst, ◌∙◌, inl, inr, arith, length-set, get_or-set_same, get_or-set_other}
use Rattle.std.specs.List.{AllByRecursion}
use Rattle.std.proofs.lemmas.Bool.{cases_eq, eq-eqb, ne_eqb}
use Rattle.std.proofs.lemmas.List.{get_or-replicate, length-replicate}
use Rattle.life_limits.specs.declared.TheConstants.{BUCKETS, NO_INODE}
use Rattle.agi_buckets.specs.Buckets.{Pointers, IsChain, IsBucket, AreBuckets, IsPointer, IsBefore, SetsHead, SetsNext, Puts, Removes, list_at, own_list, bucket_of, take_out, without}
use Rattle.agi_buckets.specs.Walks.{PointsAtMember, PassesOver}
use Rattle.agi_buckets.proofs.Lists.{all_of, all_from, moved, moved_to}
use Rattle.agi_buckets.proofs.Chains.{NoMark, chain_moved, one_chain, chain_kept, first_listed, next_listed, none_before_first, one_before, behind}
use Rattle.agi_buckets.proofs.Relinked.{past, relinked, not_own_next, without_at, without_other}

pub bucket_small : (agino : ℕ) → bucket_of agino < BUCKETS
bucket_small agino = omega arith

pub unmarked : (places xs : List ℕ) (M : ℕ) → (Contains places M → ⊥) → AllByRecursion (Contains places) xs → NoMark M xs
unmarked places xs M none placed = all_from (λ (x : ℕ). x ≢ M) xs (λ x member same. none (moved_to places M x (sym same) (all_of (Contains places) xs x placed member)))

pub no_mark_in : (p : Pointers) (lists : List (List ℕ)) (bucket : ℕ) → AreBuckets p lists → bucket < BUCKETS → NoMark NO_INODE (list_at lists bucket)
no_mark_in p lists bucket are small = unmarked p.places (list_at lists bucket) NO_INODE are.no_mark (are.each bucket small).placed

-- the pointers give one list for each bucket
pub one_list : (p : Pointers) (xs ys : List (List ℕ)) (bucket : ℕ) → AreBuckets p xs → AreBuckets p ys → bucket < BUCKETS → list_at xs bucket ≡ list_at ys bucket
one_list p xs ys bucket x y small =
    one_chain p.next (slice_index p.heads bucket) NO_INODE (list_at xs bucket) (list_at ys bucket) (no_mark_in p xs bucket x small) (no_mark_in p ys bucket y small) (x.each bucket small).chain (y.each bucket small).chain

-- a head is an inode with a place, or the mark
pub head_is_pointer : (p : Pointers) (lists : List (List ℕ)) (bucket : ℕ) → AreBuckets p lists → bucket < BUCKETS → IsPointer p (slice_index p.heads bucket)
head_is_pointer p lists bucket are small =
    let own = are.each bucket small in
    elim (first_listed p.next (slice_index p.heads bucket) NO_INODE (list_at lists bucket) own.chain) [
      | inl listed ↦ inl (all_of (Contains p.places) (list_at lists bucket) (slice_index p.heads bucket) own.placed listed)
      | inr mark ↦ inr mark
    ]

pub placed_in : (p : Pointers) (lists : List (List ℕ)) (bucket x : ℕ) → AreBuckets p lists → bucket < BUCKETS → Contains (list_at lists bucket) x → Contains p.places x
placed_in p lists bucket x are small member = all_of (Contains p.places) (list_at lists bucket) x (are.each bucket small).placed member

pub bucket_in : (p : Pointers) (lists : List (List ℕ)) (bucket x : ℕ) → AreBuckets p lists → bucket < BUCKETS → Contains (list_at lists bucket) x → bucket_of x ≡ bucket
bucket_in p lists bucket x are small member = all_of (λ (y : ℕ). bucket_of y ≡ bucket) (list_at lists bucket) x (are.each bucket small).own member

-- so is a member's next pointer
pub next_is_pointer : (p : Pointers) (lists : List (List ℕ)) (bucket x : ℕ) → AreBuckets p lists → bucket < BUCKETS → Contains (list_at lists bucket) x → IsPointer p (p.next x)
next_is_pointer p lists bucket x are small member =
    elim (next_listed p.next (slice_index p.heads bucket) NO_INODE (list_at lists bucket) x (are.each bucket small).chain member) [
      | inl listed ↦ inl (placed_in p lists bucket (p.next x) are small listed)
      | inr mark ↦ inr mark
    ]

-- what a change of one bucket leaves of another one
pub bucket_kept : (p q : Pointers) (bucket : ℕ) (members : List ℕ) → q.places ≡ p.places → slice_index q.heads bucket ≡ slice_index p.heads bucket
    → ((x : ℕ) → Contains members x → q.next x ≡ p.next x) → IsBucket p bucket members → IsBucket q bucket members
bucket_kept p q bucket members places head nexts is = record {
  chain = chain_moved q.next (slice_index p.heads bucket) (slice_index q.heads bucket) NO_INODE members (sym head) (chain_kept p.next q.next (slice_index p.heads bucket) NO_INODE members nexts is.chain);
  placed = subst (λ (zs : List ℕ). AllByRecursion (Contains zs) members) (sym places) is.placed;
  own = is.own;
}

-- one bucket has changed, and the others have not
pub bucket_changed : (p q : Pointers) (lists : List (List ℕ)) (b : ℕ) (members : List ℕ) → AreBuckets p lists → b < BUCKETS → length q.heads ≡ BUCKETS → q.places ≡ p.places
    → IsBucket q b members
    → ((bucket : ℕ) → bucket < BUCKETS → bucket ≢ b → slice_index q.heads bucket ≡ slice_index p.heads bucket)
    → ((bucket x : ℕ) → bucket < BUCKETS → bucket ≢ b → Contains (list_at lists bucket) x → q.next x ≡ p.next x)
    → AreBuckets q (slice_set lists b members)
bucket_changed p q lists b members are small size places is heads nexts = record {
  heads = size;
  count = length-set lists b members ∙ are.count;
  each = λ bucket below. elim (cases_eq bucket b) [
    | inl same ↦
        let there : list_at (slice_set lists b members) bucket ≡ members = ap (list_at (slice_set lists b members)) same ∙ get_or-set_same lists b members [] (omega (arith, are.count)) in
        subst (λ (ys : List ℕ). IsBucket q bucket ys) (sym there) (subst (λ (k : ℕ). IsBucket q k members) (sym same) is)
    | inr other ↦
        let there : list_at (slice_set lists b members) bucket ≡ list_at lists bucket = get_or-set_other lists b bucket members [] other in
        subst (λ (ys : List ℕ). IsBucket q bucket ys) (sym there)
        (bucket_kept p q bucket (list_at lists bucket) places (heads bucket below other) (λ x. nexts bucket x below other) (are.each bucket below))
  ];
  no_mark = subst (λ (zs : List ℕ). Contains zs NO_INODE → ⊥) (sym places) are.no_mark;
}

-- a head that was set, and the others
set_heads_elsewhere : (heads : List ℕ) (b agino bucket : ℕ) → bucket ≢ b → slice_index (slice_set heads b agino) bucket ≡ slice_index heads bucket
set_heads_elsewhere heads b agino bucket other = get_or-set_other heads b bucket agino 0 other

pub puts : (p m q : Pointers) (agino : ℕ) (lists : List (List ℕ)) → SetsNext p m agino (slice_index p.heads (bucket_of agino)) → SetsHead m q (bucket_of agino) agino
    → AreBuckets p lists → Contains p.places agino → (Contains (own_list lists agino) agino → ⊥) → Puts p q agino lists
puts p m q agino lists set head are placed absent =
    let b : ℕ = bucket_of agino in
    let small = bucket_small agino in
    let places : q.places ≡ p.places = head.places ∙ set.places in
    let heads : q.heads ≡ slice_set p.heads b agino = head.heads ∙ ap (λ (hs : List ℕ). slice_set hs b agino) set.heads in
    let own : q.next agino ≡ slice_index p.heads b = head.nexts agino (moved p.places m.places agino (sym set.places) placed) ∙ set.own in
    let others : (other : ℕ) → Contains p.places other → other ≢ agino → q.next other ≡ p.next other =
    λ other there away. head.nexts other (moved p.places m.places other (sym set.places) there) ∙ set.others other there away in
    let old = are.each b small in
    let members : List ℕ = own_list lists agino in
    let first : slice_index q.heads b ≡ agino = ap (λ (hs : List ℕ). slice_index hs b) heads ∙ get_or-set_same p.heads b agino 0 (omega (arith, are.heads)) in
    let kept : (x : ℕ) → Contains members x → q.next x ≡ p.next x =
    λ x member. others x (placed_in p lists b x are small member) (λ same. absent (moved_to members agino x (sym same) member)) in
    record {
      lists_after = bucket_changed p q lists b (agino ∷ members) are small (ap length heads ∙ length-set p.heads b agino ∙ are.heads) places
          (record {
            chain = (first, chain_moved q.next (slice_index p.heads b) (q.next agino) NO_INODE members (sym own) (chain_kept p.next q.next (slice_index p.heads b) NO_INODE members kept old.chain));
            placed = (moved p.places q.places agino (sym places) placed, subst (λ (zs : List ℕ). AllByRecursion (Contains zs) members) (sym places) old.placed);
            own = (refl, old.own);
          })
          (λ bucket below other. ap (λ (hs : List ℕ). slice_index hs bucket) heads ∙ set_heads_elsewhere p.heads b agino bucket other)
          (λ bucket x below other member. others x (placed_in p lists bucket x are below member) (λ same. other (sym (bucket_in p lists bucket x are below member) ∙ ap bucket_of same)));
      heads = heads;
      own = own;
      others = others;
      places = places;
    }

-- the heads after one of them was led past an inode, where it pointed at it
pub head_after : (heads : List ℕ) (b agino next : ℕ) → b < length heads
    → slice_index (if slice_index heads b == agino then slice_set heads b next else heads) b ≡ (if slice_index heads b == agino then next else slice_index heads b)
head_after heads b agino next small =
    elim (cases_eq (slice_index heads b) agino) [
      | inl same ↦
          let yes = eq-eqb (slice_index heads b) agino same in
          ap (λ (t : Bool). slice_index (cond t (slice_set heads b next) heads) b) yes ∙ get_or-set_same heads b next 0 small ∙ sym (ap (λ (t : Bool). cond t next (slice_index heads b)) yes)
      | inr other ↦
          let no' = ne_eqb (slice_index heads b) agino other in
          ap (λ (t : Bool). slice_index (cond t (slice_set heads b next) heads) b) no' ∙ sym (ap (λ (t : Bool). cond t next (slice_index heads b)) no')
    ]

length_cond : (t : Bool) (heads : List ℕ) (b next : ℕ) → length (cond t (slice_set heads b next) heads) ≡ length heads
length_cond true heads b next = length-set heads b next
length_cond false heads b next = refl

pub length_after : (heads : List ℕ) (b agino next : ℕ) → length (if slice_index heads b == agino then slice_set heads b next else heads) ≡ length heads
length_after heads b agino next = length_cond (eqb (slice_index heads b) agino) heads b next

elsewhere_cond : (t : Bool) (heads : List ℕ) (b next bucket : ℕ) → bucket ≢ b → slice_index (cond t (slice_set heads b next) heads) bucket ≡ slice_index heads bucket
elsewhere_cond true heads b next bucket other = set_heads_elsewhere heads b next bucket other
elsewhere_cond false heads b next bucket other = refl

pub head_elsewhere : (heads : List ℕ) (b agino next bucket : ℕ) → bucket ≢ b → slice_index (if slice_index heads b == agino then slice_set heads b next else heads) bucket ≡ slice_index heads bucket
head_elsewhere heads b agino next bucket other = elsewhere_cond (eqb (slice_index heads b) agino) heads b next bucket other

-- what holds of all holds of those that are left
pub all_without : (P : ℕ → Type 0) (xs : List ℕ) (agino : ℕ) → AllByRecursion P xs → AllByRecursion P (without xs agino)
all_without P [] agino all = tt
all_without P (x ∷ xs) agino all =
    elim (cases_eq x agino) [
      | inl same ↦ subst (λ (ys : List ℕ). AllByRecursion P ys) (sym (without_at x xs agino same)) (all_without P xs agino all.1)
      | inr other ↦ subst (λ (ys : List ℕ). AllByRecursion P ys) (sym (without_other x xs agino other)) (all.0, all_without P xs agino all.1)
    ]

-- the pointers after an inode was taken out give the lists without it
pub taken_out : (p q : Pointers) (agino : ℕ) (lists : List (List ℕ)) → AreBuckets p lists → Contains (own_list lists agino) agino
    → q.heads ≡ (if slice_index p.heads (bucket_of agino) == agino then slice_set p.heads (bucket_of agino) (p.next agino) else p.heads)
    → q.places ≡ p.places
    → ((other : ℕ) → IsBefore p lists agino other → q.next other ≡ p.next agino)
    → ((other : ℕ) → Contains p.places other → other ≢ agino → (IsBefore p lists agino other → ⊥) → q.next other ≡ p.next other)
    → AreBuckets q (take_out lists agino)
taken_out p q agino lists are present heads places before others =
    let b : ℕ = bucket_of agino in
    let small = bucket_small agino in
    let old = are.each b small in
    let members : List ℕ = own_list lists agino in
    let mark : agino ≢ NO_INODE = λ e. are.no_mark (moved_to p.places NO_INODE agino (sym e) (placed_in p lists b agino are small present)) in
    let first : slice_index q.heads b ≡ past p.next agino (slice_index p.heads b) = ap (λ (hs : List ℕ). slice_index hs b) heads ∙ head_after p.heads b agino (p.next agino) (omega (arith, are.heads)) in
    let chain : IsChain q.next (past p.next agino (slice_index p.heads b)) (without members agino) NO_INODE =
    relinked p.next q.next agino (slice_index p.heads b) NO_INODE members (no_mark_in p lists b are small) mark old.chain
    (λ x member points. before x (record { listed = member; points = points }))
    (λ x member away away_next. others x (placed_in p lists b x are small member) away (λ is. away_next is.points)) in
    bucket_changed p q lists b (without members agino) are small (ap length heads ∙ length_after p.heads b agino (p.next agino) ∙ are.heads) places
    (record {
      chain = chain_moved q.next (past p.next agino (slice_index p.heads b)) (slice_index q.heads b) NO_INODE (without members agino) (sym first) chain;
      placed = subst (λ (zs : List ℕ). AllByRecursion (Contains zs) (without members agino)) (sym places) (all_without (Contains p.places) members agino old.placed);
      own = all_without (λ (x : ℕ). bucket_of x ≡ b) members agino old.own;
    })
    (λ bucket below other. ap (λ (hs : List ℕ). slice_index hs bucket) heads ∙ head_elsewhere p.heads b agino (p.next agino) bucket other)
    (λ bucket x below other member.
    let not_there : bucket_of x ≡ b → ⊥ = λ e. other (sym (bucket_in p lists bucket x are below member) ∙ e) in
    others x (placed_in p lists bucket x are below member) (λ same. not_there (ap bucket_of same)) (λ is. not_there (bucket_in p lists b x are small is.listed)))

-- the member that a walk found to lead to an inode
pub found_before : (p : Pointers) (agino found : ℕ) (lists : List (List ℕ)) → AreBuckets p lists → PointsAtMember p (slice_index p.heads (bucket_of agino)) agino found → IsBefore p lists agino found
found_before p agino found lists are is_found =
    let old = are.each (bucket_of agino) (bucket_small agino) in
    record {
      listed = is_found.listed (own_list lists agino) (record { chain = old.chain; placed = old.placed; no_mark = are.no_mark });
      points = is_found.points;
    }

-- the pointer that led to an inode was set to what comes behind it: the head, or the next pointer of the member before it
pub passes_by_head : (p q : Pointers) (agino : ℕ) (lists : List (List ℕ)) → AreBuckets p lists → slice_index p.heads (bucket_of agino) ≡ agino
    → SetsHead p q (bucket_of agino) (p.next agino) → PassesOver p q agino lists
passes_by_head p q agino lists are first set =
    let b : ℕ = bucket_of agino in
    let small = bucket_small agino in record {
      heads = set.heads ∙ sym (ap (λ (t : Bool). cond t (slice_set p.heads b (p.next agino)) p.heads) (eq-eqb (slice_index p.heads b) agino first));
      before = λ other is. absurd (none_before_first p.next (slice_index p.heads b) NO_INODE (own_list lists agino) other (no_mark_in p lists b are small) (are.each b small).chain is.listed (is.points ∙ sym first));
      others = λ other placed is. set.nexts other placed;
      places = set.places;
    }

pub passes_by_next : (p q : Pointers) (agino found : ℕ) (lists : List (List ℕ)) → AreBuckets p lists → (slice_index p.heads (bucket_of agino) ≡ agino → ⊥)
    → PointsAtMember p (slice_index p.heads (bucket_of agino)) agino found → SetsNext p q found (p.next agino) → PassesOver p q agino lists
passes_by_next p q agino found lists are first is_found set =
    let b : ℕ = bucket_of agino in
    let small = bucket_small agino in
    let old = are.each b small in
    let listed = (found_before p agino found lists are is_found).listed in
    record {
      heads = set.heads ∙ sym (ap (λ (t : Bool). cond t (slice_set p.heads b (p.next agino)) p.heads) (ne_eqb (slice_index p.heads b) agino first));
      before = λ other is.
          let same : other ≡ found = one_before p.next (slice_index p.heads b) NO_INODE (own_list lists agino) other found (no_mark_in p lists b are small) old.chain is.listed listed (is.points ∙ sym is_found.points) in
          ap q.next same ∙ set.own;
      others = λ other placed is. set.others other placed (λ same. is (record { listed = moved_to (own_list lists agino) other found same listed; points = ap p.next same ∙ is_found.points }));
      places = set.places;
    }

-- a pointer that leads past an inode, and its next pointer set to the mark, take it out
pub removes : (p m q : Pointers) (agino : ℕ) (lists : List (List ℕ)) → AreBuckets p lists → Contains (own_list lists agino) agino
    → PassesOver p m agino lists → SetsNext m q agino NO_INODE → Removes p q agino lists
removes p m q agino lists are present passed set =
    let b : ℕ = bucket_of agino in
    let small = bucket_small agino in
    let places : q.places ≡ p.places = set.places ∙ passed.places in
    let heads = set.heads ∙ passed.heads in
    let before : (other : ℕ) → IsBefore p lists agino other → q.next other ≡ p.next agino = λ other is.
    let rest = behind p.next (slice_index p.heads b) NO_INODE (own_list lists agino) other (no_mark_in p lists b are small) (are.each b small).chain is.listed in
    let away : other ≢ agino = λ same.
    not_own_next p.next other NO_INODE rest.0 rest.2
    (λ e. are.no_mark (moved_to p.places NO_INODE other (sym e) (placed_in p lists b other are small is.listed))) rest.1 (is.points ∙ sym same) in
    set.others other (moved p.places m.places other (sym passed.places) (placed_in p lists b other are small is.listed)) away ∙ passed.before other is in
    let others : (other : ℕ) → Contains p.places other → other ≢ agino → (IsBefore p lists agino other → ⊥) → q.next other ≡ p.next other = λ other placed away is.
    set.others other (moved p.places m.places other (sym passed.places) placed) away ∙ passed.others other placed is in
    record {
      lists_after = taken_out p q agino lists are present heads places before others;
      heads = heads;
      own = set.own;
      before = before;
      others = others;
      places = places;
    }

abbrev empty_list : List ℕ
empty_list = []

-- heads that are all the mark give empty lists
pub none_linked : (p : Pointers) → p.heads ≡ replicate BUCKETS NO_INODE → (Contains p.places NO_INODE → ⊥) → AreBuckets p (replicate BUCKETS [])
none_linked p heads no_mark = record {
  heads = ap length heads ∙ length-replicate BUCKETS NO_INODE;
  count = length-replicate BUCKETS empty_list;
  each = λ bucket below. subst (λ (ys : List ℕ). IsBucket p bucket ys) (sym (get_or-replicate BUCKETS bucket empty_list [] below)) (record {
    chain = ap (λ (hs : List ℕ). slice_index hs bucket) heads ∙ get_or-replicate BUCKETS bucket NO_INODE 0 below;
    placed = tt;
    own = tt;
  });
  no_mark = no_mark;
}
