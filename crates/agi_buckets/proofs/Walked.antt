-- A walk along a list, member by member.
use Rattle.std.proofs.Common.{◌≡◌, ◌≢◌, ◌<◌, ℕ, List, [], ◌∷◌, ◌++◌, length, Contains, slice_index, refl, sym, ap, ◌∙◌, inl, inr, arith, append_assoc}
use Rattle.std.proofs.lemmas.List.{append-nil}
use Rattle.life_limits.specs.declared.TheConstants.{BUCKETS, NO_INODE}
use Rattle.agi_buckets.specs.Buckets.{Pointers, AreBuckets, list_at}
use Rattle.agi_buckets.specs.Walks.{IsWalk}
use Rattle.agi_buckets.proofs.Lists.{fits_in, moved, moved_to, contains_cases, contains_none}
use Rattle.agi_buckets.proofs.Chains.{NoMark, chain_moved, one_chain, chain_distinct, first_listed, next_listed}
use Rattle.agi_buckets.proofs.Steps.{steps, steps_of}
use Rattle.agi_buckets.proofs.Linked.{unmarked}

pub walk_of : (p : Pointers) (lists : List (List ℕ)) (bucket : ℕ) → AreBuckets p lists → bucket < BUCKETS → IsWalk p (slice_index p.heads bucket) (list_at lists bucket)
walk_of p lists bucket are small = record { chain = (are.each bucket small).chain; placed = (are.each bucket small).placed; no_mark = are.no_mark }

unmarked_walk : (p : Pointers) (f : ℕ) (rest : List ℕ) → IsWalk p f rest → NoMark NO_INODE rest
unmarked_walk p f rest walk = unmarked p.places rest NO_INODE walk.no_mark walk.placed

pub same_walks : (p : Pointers) (f : ℕ) (xs ys : List ℕ) → IsWalk p f xs → IsWalk p f ys → xs ≡ ys
same_walks p f xs ys wx wy = one_chain p.next f NO_INODE xs ys (unmarked_walk p f xs wx) (unmarked_walk p f ys wy) wx.chain wy.chain

pub walk_moved : (p : Pointers) (f h : ℕ) (rest : List ℕ) → f ≡ h → IsWalk p f rest → IsWalk p h rest
walk_moved p f h rest same walk = record { chain = chain_moved p.next f h NO_INODE rest same walk.chain; placed = walk.placed; no_mark = walk.no_mark }

-- where something is ahead, the walk is not at the mark
pub walk_goes : (p : Pointers) (f x : ℕ) (rest : List ℕ) → IsWalk p f rest → Contains rest x → f ≢ NO_INODE
walk_goes p f x [] walk member = absurd (contains_none x member)
walk_goes p f x (y ∷ ys) walk member = λ mark. walk.no_mark (moved_to p.places NO_INODE y (sym (sym walk.chain.0 ∙ mark)) walk.placed.0)

-- at the mark nothing is ahead
pub walk_ends : (p : Pointers) (f : ℕ) (rest : List ℕ) → IsWalk p f rest → f ≡ NO_INODE → rest ≡ []
walk_ends p f [] walk mark = refl
walk_ends p f (y ∷ ys) walk mark = absurd (walk.no_mark (moved_to p.places NO_INODE y (sym (sym walk.chain.0 ∙ mark)) walk.placed.0))

-- one step of a walk
pub walk_next : (p : Pointers) (f : ℕ) (rest : List ℕ) → IsWalk p f rest → f ≢ NO_INODE
    → (behind : List ℕ) × IsWalk p (p.next f) behind × (rest ≡ f ∷ behind) × Contains p.places f
walk_next p f [] walk mark = absurd (mark walk.chain)
walk_next p f (y ∷ ys) walk mark = (
  ys,
  record { chain = chain_moved p.next (p.next y) (p.next f) NO_INODE ys (ap p.next (sym walk.chain.0)) walk.chain.1; placed = walk.placed.1; no_mark = walk.no_mark },
  ap (λ (z : ℕ). z ∷ ys) (sym walk.chain.0),
  moved_to p.places f y walk.chain.0 walk.placed.0,
)

walk_steps : (p : Pointers) (f : ℕ) (rest : List ℕ) → IsWalk p f rest → steps p.next NO_INODE (length p.places) f ≡ length rest
walk_steps p f rest walk =
    let none = unmarked_walk p f rest walk in
    steps_of p.next NO_INODE (length p.places) f rest none walk.chain (fits_in rest p.places (chain_distinct p.next f NO_INODE rest none walk.chain) walk.placed)

pub walk_smaller : (p : Pointers) (f : ℕ) (rest : List ℕ) → IsWalk p f rest → f ≢ NO_INODE
    → steps p.next NO_INODE (length p.places) (p.next f) < steps p.next NO_INODE (length p.places) f
walk_smaller p f rest walk mark =
    let n = walk_next p f rest walk mark in
    let now = walk_steps p f rest walk in
    let then' = walk_steps p (p.next f) n.0 n.1 in
    let more = ap length n.2 in
    omega (arith, now, then', more)

-- a member's next pointer is a member where the walk goes on
pub next_member : (p : Pointers) (f x y : ℕ) (members : List ℕ) → IsWalk p f members → Contains members x → p.next x ≡ y → y ≢ NO_INODE → Contains members y
next_member p f x y members walk member same mark =
    elim (next_listed p.next f NO_INODE members x walk.chain member) [
      | inl listed ↦ moved_to members y (p.next x) (sym same) listed
      | inr end ↦ absurd (mark (sym same ∙ end))
    ]

pub first_member : (p : Pointers) (f : ℕ) (members : List ℕ) → IsWalk p f members → f ≢ NO_INODE → Contains members f
first_member p f members walk mark =
    elim (first_listed p.next f NO_INODE members walk.chain) [ inl listed ↦ listed | inr end ↦ absurd (mark end) ]

-- what is ahead of a member that is not looked for holds what is looked for
pub still_ahead : (f x : ℕ) (rest behind : List ℕ) → rest ≡ f ∷ behind → (f ≡ x → ⊥) → Contains rest x → Contains behind x
still_ahead f x rest behind same other member =
    elim (contains_cases f x behind (moved rest (f ∷ behind) x same member)) [ inl e ↦ absurd (other e) | inr later ↦ later ]

-- what was met, and then what is ahead
pub met_more : (members met rest behind : List ℕ) (f : ℕ) → members ≡ met ++ rest → rest ≡ f ∷ behind → members ≡ (met ++ f ∷ []) ++ behind
met_more members met rest behind f whole same = whole ∙ ap (λ (r : List ℕ). met ++ r) same ∙ sym (append_assoc met (f ∷ []) behind)

pub met_all : (members met rest : List ℕ) → members ≡ met ++ rest → rest ≡ [] → members ≡ met
met_all members met rest whole none = whole ∙ ap (λ (r : List ℕ). met ++ r) none ∙ append-nil met
