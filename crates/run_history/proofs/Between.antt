-- A run's calls have their entries in between: what is so of the calls after each line.
use Rattle.std.proofs.Common.{◌≡◌, ◌≤◌, ◌<◌, ◌+◌, ◌⊎◌, inl, inr, ℕ, List, [], ◌∷◌, ◌++◌, Option, None, Some, length, sym, subst, ◌∙◌, arith}
use Rattle.std.proofs.lemmas.Option.{none-some}
use Rattle.run_history.specs.States.{LineCall, PastCall, UpMount, dropped, of_others}
use Rattle.run_history.proofs.Members.{Mem, mem-append, mem-map, mem-one, mem-others, no_member}

some_is : (a b : ℕ) → Some a ≡ Some b → a ≡ b
some_is a b e = cc

-- of two calls the first one's entry stands before the other's, where it ended before the other began
abbrev pub Before : PastCall → PastCall → Type 0
Before x y = (end e f : ℕ) → x.mount ≡ y.mount → x.last ≡ Some end → end < y.made.first → x.made.entry ≡ Some e → y.made.entry ≡ Some f → e < f

-- a call in progress, where so many lines were answered and its mount has so many entries
pub record IsGoing (lines n : ℕ) (g : LineCall) : Type 0 where
  pub first : g.first < lines
  pub begin : g.begin ≤ n
  pub entry : (e : ℕ) → g.entry ≡ Some e → (g.begin ≤ e) × (e < n)

-- a call that is over, before the mount of this place or in it
pub record IsOver (lines p : ℕ) (x : PastCall) : Type 0 where
  pub first : x.made.first < lines
  pub last : (end : ℕ) → x.last ≡ Some end → end < lines
  pub mount : x.mount ≤ p

-- against the mount that is up, of this place and with so many entries
pub record IsOverIn (p n : ℕ) (x : PastCall) : Type 0 where
  pub entry : (e : ℕ) → x.mount ≡ p → x.made.entry ≡ Some e → e < n

pub record IsBeforeGoing (p : ℕ) (x : PastCall) (g : LineCall) : Type 0 where
  pub before : (end e : ℕ) → x.mount ≡ p → x.last ≡ Some end → end < g.first → x.made.entry ≡ Some e → e < g.begin

pub record RightUp (lines p : ℕ) (over : List PastCall) (n : ℕ) (going : List LineCall) : Type 0 where
  pub going_is : (g : LineCall) → Mem g going → IsGoing lines n g
  pub over_in : (x : PastCall) → Mem x over → IsOverIn p n x
  pub before : (x : PastCall) (g : LineCall) → Mem x over → Mem g going → IsBeforeGoing p x g

pub record RightOver (lines p : ℕ) (over : List PastCall) : Type 0 where
  pub each : (x : PastCall) → Mem x over → IsOver lines p x
  pub pairs : (x y : PastCall) → Mem x over → Mem y over → Before x y

abbrev pub IsRightUp : ℕ → ℕ → List PastCall → Option UpMount → Type 0
IsRightUp lines p over None = (x : PastCall) → Mem x over → x.mount < p
IsRightUp lines p over (Some up) = RightUp lines p over (length up.story.entries) up.going

-- what is so after each line
pub record Right (lines p : ℕ) (over : List PastCall) (up : Option UpMount) : Type 0 where
  pub calls : RightOver lines p over
  pub now : IsRightUp lines p over up

-- ---- lines that only let time go on

over_later : (lines p : ℕ) (x : PastCall) → IsOver lines p x → IsOver (lines + 1) p x
over_later lines p x is = record { first = omega (arith, is.first); last = λ end e. omega (arith, is.last end e); mount = is.mount }

calls_later : (lines p : ℕ) (over : List PastCall) → RightOver lines p over → RightOver (lines + 1) p over
calls_later lines p over right = record { each = λ x m. over_later lines p x (right.each x m); pairs = right.pairs }

going_later : (lines n more : ℕ) (g : LineCall) → n ≤ more → IsGoing lines n g → IsGoing (lines + 1) more g
going_later lines n more g le is = record {
  first = omega (arith, is.first);
  begin = omega (arith, is.begin, le);
  entry = λ e s. let r = is.entry e s in (r.0, omega (arith, r.1, le));
}

-- the mount has more entries, and no call changes
pub up_later : (lines p : ℕ) (over : List PastCall) (n more : ℕ) (going : List LineCall) → n ≤ more → RightUp lines p over n going → RightUp (lines + 1) p over more going
up_later lines p over n more going le right = record {
  going_is = λ g m. going_later lines n more g le (right.going_is g m);
  over_in = λ x m. record { entry = λ e at s. let r = (right.over_in x m).entry e at s in omega (arith, r, le) };
  before = right.before;
}

up_same : (lines p : ℕ) (over : List PastCall) (up : Option UpMount) → IsRightUp lines p over up → IsRightUp (lines + 1) p over up
up_same lines p over None right = right
up_same lines p over (Some up) right = up_later lines p over (length up.story.entries) (length up.story.entries) up.going (omega arith) right

pub stays : (lines p : ℕ) (over : List PastCall) (up : Option UpMount) → Right lines p over up → Right (lines + 1) p over up
stays lines p over up right = record { calls = calls_later lines p over right.calls; now = up_same lines p over up right.now }

pub grows : (lines p : ℕ) (over : List PastCall) (up new : UpMount) → length up.story.entries ≤ length new.story.entries → new.going ≡ up.going
    → Right lines p over (Some up) → Right (lines + 1) p over (Some new)
grows lines p over up new le same right = record {
  calls = calls_later lines p over right.calls;
  now = subst (λ (g : List LineCall). RightUp (lines + 1) p over (length new.story.entries) g) (sym same)
      (up_later lines p over (length up.story.entries) (length new.story.entries) up.going le right.now);
}

-- a mount comes up
pub comes_up : (lines p : ℕ) (over : List PastCall) (up : UpMount) → up.going ≡ [] → Right lines p over None → Right (lines + 1) p over (Some up)
comes_up lines p over up none right = record {
  calls = calls_later lines p over right.calls;
  now = record {
    going_is = λ g m. absurd (no_member g (subst (Mem g) none m));
    over_in = λ x m. record { entry = λ e at s. let below : x.mount < p = right.now x m in absurd (omega (arith, at, below)) };
    before = λ x g m at. absurd (no_member g (subst (Mem g) none at));
  };
}

-- ---- lines that work on a call

-- a call as its line finds it: in progress, or beginning now
pub record IsAtWork (lines p : ℕ) (over : List PastCall) (n : ℕ) (g : LineCall) : Type 0 where
  pub first : g.first ≤ lines
  pub begin : g.begin ≤ n
  pub entry : (e : ℕ) → g.entry ≡ Some e → (g.begin ≤ e) × (e < n)
  pub before : (x : PastCall) → Mem x over → IsBeforeGoing p x g

pub at_work : (lines p : ℕ) (over : List PastCall) (n : ℕ) (going : List LineCall) (g : LineCall) → RightUp lines p over n going → Mem g going → IsAtWork lines p over n g
at_work lines p over n going g right m = let is = right.going_is g m in
    record { first = omega (arith, is.first); begin = is.begin; entry = is.entry; before = λ x at. right.before x g at m }

-- a call that begins now
pub begins : (lines p : ℕ) (over : List PastCall) (n : ℕ) (going : List LineCall) (g : LineCall) → RightUp lines p over n going → g.first ≡ lines → g.begin ≡ n → g.entry ≡ None
    → IsAtWork lines p over n g
begins lines p over n going g right first begin none = record {
  first = omega (arith, first);
  begin = omega (arith, begin);
  entry = λ e s. absurd (none-some e (sym none ∙ s));
  before = λ x m. record { before = λ end e at last low s. let r = (right.over_in x m).entry e at s in omega (arith, r, begin) };
}

-- what a call's steps leave of it
pub record Worked (n more : ℕ) (g after : LineCall) : Type 0 where
  pub longer : n ≤ more
  pub first : after.first ≡ g.first
  pub begin : after.begin ≡ g.begin
  pub entry : (e : ℕ) → after.entry ≡ Some e → (g.entry ≡ Some e) ⊎ ((n ≤ e) × (e < more))

after_going : (lines p : ℕ) (over : List PastCall) (n more : ℕ) (g after : LineCall) → IsAtWork lines p over n g → Worked n more g after → IsGoing (lines + 1) more after
after_going lines p over n more g after is worked = record {
  first = omega (arith, is.first, worked.first);
  begin = omega (arith, is.begin, worked.begin, worked.longer);
  entry = λ e s. elim (worked.entry e s) [
    | inl old ↦ let r = is.entry e old in (omega (arith, r.0, worked.begin), omega (arith, r.1, worked.longer))
    | inr new ↦ (omega (arith, new.0, is.begin, worked.begin), new.1)
  ];
}

after_before : (lines p : ℕ) (over : List PastCall) (n more : ℕ) (g after : LineCall) (x : PastCall) → IsAtWork lines p over n g → Worked n more g after → Mem x over
    → IsBeforeGoing p x after
after_before lines p over n more g after x is worked m = record {
  before = λ end e at last low s.
      let low_of : end < g.first = omega (arith, low, worked.first) in
      let r = (is.before x m).before end e at last low_of s in omega (arith, r, worked.begin);
}

-- the call goes on
pub works : (lines p : ℕ) (over : List PastCall) (n more : ℕ) (going : List LineCall) (a : ℕ) (g after : LineCall) → RightUp lines p over n going
    → IsAtWork lines p over n g → Worked n more g after → RightUp (lines + 1) p over more (of_others a going ++ after ∷ [])
works lines p over n more going a g after right is worked = record {
  going_is = λ h m. elim (mem-append h (of_others a going) (after ∷ []) m) [
    | inl other ↦ going_later lines n more h worked.longer (right.going_is h (mem-others a h going other))
    | inr one ↦ subst (IsGoing (lines + 1) more) (sym (mem-one h after one)) (after_going lines p over n more g after is worked)
  ];
  over_in = λ x m. record { entry = λ e at s. let r = (right.over_in x m).entry e at s in let l = worked.longer in omega (arith, r, l) };
  before = λ x h m at. elim (mem-append h (of_others a going) (after ∷ []) at) [
    | inl other ↦ right.before x h m (mem-others a h going other)
    | inr one ↦ subst (IsBeforeGoing p x) (sym (mem-one h after one)) (after_before lines p over n more g after x is worked m)
  ];
}

-- the call ends, in the line after so many
pub ends : (lines p : ℕ) (over : List PastCall) (n more : ℕ) (going : List LineCall) (a : ℕ) (g after : LineCall) → RightOver lines p over → RightUp lines p over n going
    → IsAtWork lines p over n g → Worked n more g after → (e : ℕ) → after.entry ≡ Some e
    → RightOver (lines + 1) p (over ++ record { mount = p; made = after; last = Some lines } ∷ [])
    × RightUp (lines + 1) p (over ++ record { mount = p; made = after; last = Some lines } ∷ []) more (of_others a going)
ends lines p over n more going a g after calls right is worked place entry =
    let one : PastCall = record { mount = p; made = after; last = Some lines } in
    let now = after_going lines p over n more g after is worked in
    let late : after.first ≤ lines = omega (arith, is.first, worked.first) in
    let split : (x : PastCall) → Mem x (over ++ one ∷ []) → Mem x over ⊎ (x ≡ one) = λ x m. elim (mem-append x over (one ∷ []) m) [ inl old ↦ inl old | inr new ↦ inr (mem-one x one new) ] in
    let old_one : (x : PastCall) → Mem x over → Before x one = λ x m end e f same last low s t.
    let r = (after_before lines p over n more g after x is worked m).before end e same last low s in
    let q = (now.entry f t).0 in omega (arith, r, q) in
    let one_old : (y : PastCall) → Mem y over → Before one y = λ y m end e f same last low s t.
    let r = (calls.each y m).first in let q = some_is lines end last in absurd (omega (arith, r, q, low)) in
    let one_one : Before one one = λ end e f same last low s t. let q = some_is lines end last in absurd (omega (arith, late, q, low)) in (
      record {
        each = λ x m. elim (split x m) [
          | inl old ↦ over_later lines p x (calls.each x old)
          | inr new ↦ subst (IsOver (lines + 1) p) (sym new) (record { first = now.first; last = λ end s. let q = some_is lines end s in omega (arith, q); mount = omega arith })
        ];
        pairs = λ x y m k. elim (split x m) [
          | inl old ↦ elim (split y k) [ inl other ↦ calls.pairs x y old other | inr new ↦ subst (Before x) (sym new) (old_one x old) ]
          | inr new ↦ elim (split y k) [
            | inl other ↦ subst (λ (z : PastCall). Before z y) (sym new) (one_old y other)
            | inr also ↦ subst (λ (z : PastCall). Before z y) (sym new) (subst (Before one) (sym also) one_one)
          ]
        ];
      },
      record {
        going_is = λ h m. going_later lines n more h worked.longer (right.going_is h (mem-others a h going m));
        over_in = λ x m. elim (split x m) [
          | inl old ↦ record { entry = λ e at s. let r = (right.over_in x old).entry e at s in let l = worked.longer in omega (arith, r, l) }
          | inr new ↦ subst (IsOverIn p more) (sym new) (record { entry = λ e at s. (now.entry e s).1 })
        ];
        before = λ x h m at. elim (split x m) [
          | inl old ↦ right.before x h old (mem-others a h going at)
          | inr new ↦ subst (λ (z : PastCall). IsBeforeGoing p z h) (sym new) (record {
            before = λ end e same last low s.
                let r = (right.going_is h (mem-others a h going at)).first in let q = some_is lines end last in absurd (omega (arith, r, q, low));
          })
        ];
      },
    )

-- ---- the mount goes, with its calls

is_dropped : ℕ → LineCall → PastCall
is_dropped p g = record { mount = p; made = g; last = None }

none_ends : (end : ℕ) → None ≡ Some end → ⊥
none_ends end e = none-some end e

pub goes : (lines p : ℕ) (over : List PastCall) (n : ℕ) (going : List LineCall) → RightOver lines p over → RightUp lines p over n going
    → RightOver lines (p + 1) (over ++ dropped p going) × ((x : PastCall) → Mem x (over ++ dropped p going) → x.mount < p + 1)
unfolding is_dropped
goes lines p over n going calls right =
    let split : (x : PastCall) → Mem x (over ++ dropped p going) → Mem x over ⊎ ((g : LineCall) × Mem g going × (x ≡ is_dropped p g)) = λ x m.
    elim (mem-append x over (dropped p going) m) [ inl old ↦ inl old | inr new ↦ inr (mem-map (is_dropped p) x going new) ] in (
      record {
        each = λ x m. elim (split x m) [
          | inl old ↦ let is = calls.each x old in record { first = is.first; last = is.last; mount = omega (arith, is.mount) }
          | inr new ↦ subst (IsOver lines (p + 1)) (sym new.2) (record { first = (right.going_is new.0 new.1).first; last = λ end s. absurd (none_ends end s); mount = omega arith })
        ];
        pairs = λ x y m k. elim (split x m) [
          | inl old ↦ elim (split y k) [
            | inl other ↦ calls.pairs x y old other
            | inr new ↦ subst (Before x) (sym new.2) (λ end e f same last low s t.
                let r = (right.before x new.0 old new.1).before end e same last low s in
                let q = ((right.going_is new.0 new.1).entry f t).0 in omega (arith, r, q))
          ]
          | inr new ↦ subst (λ (z : PastCall). Before z y) (sym new.2) (λ end e f same last low s t. absurd (none_ends end last))
        ];
      },
      λ x m. elim (split x m) [
        | inl old ↦ let is = calls.each x old in omega (arith, is.mount)
        | inr new ↦ subst (λ (z : PastCall). z.mount < p + 1) (sym new.2) (omega arith)
      ],
    )

-- no mount was up, and a record of one that failed is made
pub fails : (lines p : ℕ) (over : List PastCall) → Right lines p over None → RightOver (lines + 1) (p + 1) (over ++ []) × ((x : PastCall) → Mem x (over ++ []) → x.mount < p + 1)
fails lines p over right =
    let old : (x : PastCall) → Mem x (over ++ []) → Mem x over = λ x m. elim (mem-append x over [] m) [ inl a ↦ a | inr none ↦ absurd (no_member x none) ] in (
      record {
        each = λ x m. let is = right.calls.each x (old x m) in let l = is.last in record { first = omega (arith, is.first); last = λ end s. let r = l end s in omega (arith, r); mount = omega (arith, is.mount) };
        pairs = λ x y m k. right.calls.pairs x y (old x m) (old y k);
      },
      λ x m. let r = right.now x (old x m) in omega (arith, r),
    )
