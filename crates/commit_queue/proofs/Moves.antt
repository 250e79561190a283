-- Each step at an end of the queue keeps its rule.
use Rattle.std.proofs.Common.{◌≡◌, ◌≢◌, ℕ, zero, suc, ◌+◌, ◌^◌, ◌<◌, ◌≤◌, ◌⊎◌, true, true≢false, cond, eqb, eq-eqb, ne_eqb, List, [], ◌∷◌, ◌++◌, length, set, sym, refl, ap, ◌∙◌, subst, inl, inr, ⊎_elim, append_assoc, length-append, lt_of_not-le, lit<, arith}
use Rattle.std.specs.List.{All}
use Rattle.std.proofs.lemmas.List.Elements.{All-nil, All-cons, All-head, All-append, All-weaker, filter-append}
use mathlib.Core.Logic.{dite}
use native.Mathlib.Decide.{ℕ_discrete}
use mathlib.Core.Option.{some, some-injective, some-ne-none}
use lib.ListN.{get_elem?}
use Rattle.crossbeam_queue.specs.Fifo.{Pushes, Pops, Forks, Merges, Learns}
use Rattle.crossbeam_queue.proofs.Lists.{at_set}
use Rattle.log_record.specs.declared.image.Commit.{Commit}
use Rattle.commit_queue.specs.declared.known.Stream.{Stream}
use Rattle.commit_queue.specs.declared.known.Known.{Known}
use Rattle.commit_queue.specs.Streams.{commits_of, stream, committer_knows, taker_knows, nothing_known, AreTakenOrQueued}
use Rattle.commit_queue.specs.Queued.{IsStreamAt, IsEnd, Queued, Pushed, Popped}

with-nil : (xs : List Commit) → xs ++ [] ≡ xs
with-nil [] = refl
with-nil (x ∷ xs) = ap (λ l. x ∷ l) (with-nil xs)

-- a commit of the group joins the group's, and another does not
pub commits_of-mine : (g : ℕ) (xs : List Commit) (x : Commit) → x.group ≡ g → commits_of g (xs ++ x ∷ []) ≡ commits_of g xs ++ x ∷ []
commits_of-mine g xs x e = filter-append (λ (c : Commit). eqb c.group g) xs (x ∷ []) ∙ ap (λ b. commits_of g xs ++ cond b (x ∷ []) []) (eq-eqb x.group g e)

pub commits_of-other : (g : ℕ) (xs : List Commit) (x : Commit) → x.group ≢ g → commits_of g (xs ++ x ∷ []) ≡ commits_of g xs
commits_of-other g xs x n = filter-append (λ (c : Commit). eqb c.group g) xs (x ∷ []) ∙ ap (λ b. commits_of g xs ++ cond b (x ∷ []) []) (ne_eqb x.group g n) ∙ with-nil (commits_of g xs)

length-both : (g : ℕ) (a b : List Commit) → length (commits_of g (a ++ b)) ≡ length (commits_of g a) + length (commits_of g b)
length-both g a b = ap length (filter-append (λ (c : Commit). eqb c.group g) a b) ∙ length-append (commits_of g a) (commits_of g b)

length-mine : (xs : List Commit) (x : Commit) → length (commits_of x.group (xs ++ x ∷ [])) ≡ length (commits_of x.group xs) + 1
length-mine xs x = ap length (commits_of-mine x.group xs x refl) ∙ length-append (commits_of x.group xs) (x ∷ [])

-- what is true of the end that changed, and of each other end, is true of each
each_set : (F : ℕ → Known → Type 0) (ends : List Known) (id : ℕ) (w : Known) → F id w → ((j : ℕ) (u : Known) → j ≢ id → get_elem? ends j ≡ some u → F j u)
    → (j : ℕ) (u : Known) → get_elem? (set ends id w) j ≡ some u → F j u
each_set F ends id w mine others j u e = ⊎_elim (λ (x : (j ≡ id) × (w ≡ u)). subst (λ (y : ℕ × Known). F y.0 y.1) (λ i. (sym x.0 i, x.1 i)) mine)
    (λ (x : (j ≢ id) × (get_elem? ends j ≡ some u)). others j u x.0 x.1) (at_set ends id j w u e)

at_end : (l : List Known) (a b : Known) (j : ℕ) → get_elem? (l ++ a ∷ []) j ≡ some b → (get_elem? l j ≡ some b) ⊎ ((j ≡ length l) × (a ≡ b))
at_end [] a b zero e = inr (refl, some-injective a b e)
at_end [] a b (suc j) e = absurd (some-ne-none b (sym e))
at_end (x ∷ xs) a b zero e = inl e
at_end (x ∷ xs) a b (suc j) e = ⊎_elim (λ h. inl h) (λ (t : (j ≡ length xs) × (a ≡ b)). inr (ap suc t.0, t.1)) (at_end xs a b j e)

one_end : (F : ℕ → Known → Type 0) (w : Known) → F 0 w → (j : ℕ) (u : Known) → get_elem? (w ∷ []) j ≡ some u → F j u
one_end F w mine zero u e = subst (F 0) (some-injective w u e) mine
one_end F w mine (suc j) u e = absurd (some-ne-none u (sym e))

pub begins : Queued [] (taker_knows [] 0 [] ∷ [])
begins = record {
  taken = [];
  pushed = [];
  groups = 0;
  taker = 0;
  seat = λ _. 0;
  whole = refl;
  unmade = λ _ _. refl;
  few = λ _. lit< tt;
  each_end = one_end (IsEnd [] [] 0 0 (λ _. 0)) (taker_knows [] 0 []) (record { takes = λ _. (refl, refl, refl); streams = All-nil (IsStreamAt [] 0 (λ _. 0) 0) });
}

few-mine : (k g : ℕ) (pushed xs : List Commit) (x : Commit) → x.group ≡ g → x.group ≡ k → xs ≡ commits_of g pushed → length xs + 1 < 2 ^ 64 → length (commits_of k (pushed ++ x ∷ [])) < 2 ^ 64
few-mine k g pushed xs x e same whole short =
    let a = ap length (commits_of-mine k pushed x same) in
    let b = length-append (commits_of k pushed) (x ∷ []) in
    let d : length xs ≡ length (commits_of k pushed) = ap length whole ∙ ap (λ n. length (commits_of n pushed)) (sym e ∙ same) in
    omega (arith, a, b, d)

joins : (n id g : ℕ) (xs : List Commit) (x : Commit) → x.group ≡ g → length xs + 1 < 2 ^ 64 → Pushes Queued n id (committer_knows g xs) x (Pushed (committer_knows g xs) x)
joins n id g xs x e short items ends room h at =
    let w : Known = committer_knows g (xs ++ x ∷ []) in
    let pushed = h.pushed ++ x ∷ [] in
    let mine = All-head (IsStreamAt h.pushed h.groups h.seat id) (stream g xs) [] (h.each_end id (committer_knows g xs) at).streams in
    let made : g < h.groups = mine.made in
    let new : IsStreamAt pushed h.groups h.seat id (stream g (xs ++ x ∷ [])) = record { here = mine.here; made = mine.made; whole = ap (λ l. l ++ x ∷ []) mine.whole ∙ sym (commits_of-mine g h.pushed x e) } in
    let theirs : (j : ℕ) (s : Stream) → j ≢ id → IsStreamAt h.pushed h.groups h.seat j s → IsStreamAt pushed h.groups h.seat j s =
    λ j s apart old. record { here = old.here; made = old.made; whole = old.whole ∙ sym (commits_of-other s.group h.pushed x (λ same. apart (old.here ∙ ap h.seat (sym same ∙ e) ∙ sym mine.here))) } in (
      w,
      record {
        taken = h.taken;
        pushed = pushed;
        groups = h.groups;
        taker = h.taker;
        seat = h.seat;
        whole = ap (λ l. l ++ x ∷ []) h.whole ∙ append_assoc h.taken items (x ∷ []);
        unmade = λ k far. commits_of-other k h.pushed x (λ same. omega (arith, e, made, far, same)) ∙ h.unmade k far;
        few = λ k. dite (ℕ_discrete x.group k) (λ same. few-mine k g h.pushed xs x e same mine.whole short) (λ apart. subst (λ (l : List Commit). length l < 2 ^ 64) (sym (commits_of-other k h.pushed x apart)) (h.few k));
        each_end = each_set (IsEnd h.taken pushed h.groups h.taker h.seat) ends id w
            (record { takes = λ t. absurd (true≢false (sym t)); streams = All-cons (IsStreamAt pushed h.groups h.seat id) (stream g (xs ++ x ∷ [])) [] new (All-nil (IsStreamAt pushed h.groups h.seat id)) })
            (λ j u apart has. record { takes = (h.each_end j u has).takes; streams = All-weaker (IsStreamAt h.pushed h.groups h.seat j) (IsStreamAt pushed h.groups h.seat j) (λ s old. theirs j s apart old) u.streams (h.each_end j u has).streams });
      },
      (stream g xs, refl, refl),
    )

pub pushes : (n id g : ℕ) (v : Known) (xs : List Commit) (x : Commit) → v ≡ committer_knows g xs → x.group ≡ g → length xs + 1 < 2 ^ 64 → Pushes Queued n id v x (Pushed v x)
pushes n id g v xs x is e short = subst (λ (u : Known). Pushes Queued n id u x (Pushed u x)) (sym is) (joins n id g xs x e short)

-- the groups of the commits that were pushed have a committer
has_committer : (groups : ℕ) (taken items pushed : List Commit) (x : Commit) → pushed ≡ (taken ++ x ∷ []) ++ items → ((g : ℕ) → groups ≤ g → commits_of g pushed ≡ []) → x.group < groups
has_committer groups taken items pushed x whole unmade = lt_of_not-le (λ far.
    let a = ap length (unmade x.group far) in
    let b = ap (λ l. length (commits_of x.group l)) whole in
    let d = length-both x.group (taken ++ x ∷ []) items in
    let e = length-mine taken x in
    omega (arith, a, b, d, e))

few-taken : (taken items pushed : List Commit) (x : Commit) → pushed ≡ (taken ++ x ∷ []) ++ items → length (commits_of x.group pushed) < 2 ^ 64 → length (commits_of x.group (taken ++ x ∷ [])) < 2 ^ 64
few-taken taken items pushed x whole few =
    let b = ap (λ l. length (commits_of x.group l)) whole in
    let d = length-both x.group (taken ++ x ∷ []) items in
    omega (arith, b, d, few)

-- what the streams at an end say of what was taken and is queued
says : (pushed taken items : List Commit) (groups : ℕ) (seat : ℕ → ℕ) (id : ℕ) (streams : List Stream) → pushed ≡ taken ++ items → All (IsStreamAt pushed groups seat id) streams → AreTakenOrQueued streams taken items
says pushed taken items groups seat id streams whole all =
    All-weaker (IsStreamAt pushed groups seat id) (λ s. s.pushed ≡ commits_of s.group (taken ++ items)) (λ s old. old.whole ∙ ap (commits_of s.group) whole) streams all

pub learns : (id : ℕ) (v : Known) → v.takes ≡ true → Learns Queued id v (AreTakenOrQueued v.streams v.taken)
learns id v takes items ends h at =
    let mine = h.each_end id v at in
    says h.pushed v.taken items h.groups h.seat id v.streams (h.whole ∙ ap (λ l. l ++ items) (sym (mine.takes takes).1)) mine.streams

pub pops : (id : ℕ) (v : Known) → v.takes ≡ true → Pops Queued id v (Popped v)
pops id v takes x items ends h at =
    let mine = h.each_end id v at in
    let own = mine.takes takes in
    let w : Known = taker_knows v.streams v.groups (v.taken ++ x ∷ []) in
    let taken = h.taken ++ x ∷ [] in
    let here : v.taken ++ x ∷ [] ≡ taken = ap (λ l. l ++ x ∷ []) own.1 in
    let whole : h.pushed ≡ taken ++ items = h.whole ∙ sym (append_assoc h.taken (x ∷ []) items) in
    let known : h.pushed ≡ (v.taken ++ x ∷ []) ++ items = whole ∙ ap (λ l. l ++ items) (sym here) in (
      w,
      record {
        taken = taken;
        pushed = h.pushed;
        groups = h.groups;
        taker = h.taker;
        seat = h.seat;
        whole = whole;
        unmade = h.unmade;
        few = h.few;
        each_end = each_set (IsEnd taken h.pushed h.groups h.taker h.seat) ends id w
            (record { takes = λ _. (own.0, here, own.2); streams = mine.streams })
            (λ j u apart has. record { takes = λ t. absurd (apart (((h.each_end j u has).takes t).0 ∙ sym own.0)); streams = (h.each_end j u has).streams });
      },
      record {
        taken = refl;
        group = subst (λ (n : ℕ). x.group < n) (sym own.2) (has_committer h.groups h.taken items h.pushed x whole h.unmade);
        few = few-taken v.taken items h.pushed x known (h.few x.group);
        queued = (items, says h.pushed (v.taken ++ x ∷ []) items h.groups h.seat id v.streams known mine.streams);
      },
    )

pub forks : (id : ℕ) (v : Known) → v.takes ≡ true → Forks Queued id v (taker_knows v.streams (v.groups + 1) v.taken) (committer_knows v.groups [])
forks id v takes items ends h at =
    let mine = h.each_end id v at in
    let own = mine.takes takes in
    let left : Known = taker_knows v.streams (v.groups + 1) v.taken in
    let right : Known = committer_knows v.groups [] in
    let new = set ends id left in
    let groups = h.groups + 1 in
    let seat : ℕ → ℕ = λ g. cond (eqb g h.groups) (length new) (h.seat g) in
    let old_seat : (g : ℕ) → g < h.groups → seat g ≡ h.seat g = λ g below. ap (λ b. cond b (length new) (h.seat g)) (ne_eqb g h.groups (λ e. omega (arith, below, e))) in
    let stays : (j : ℕ) (ss : List Stream) → All (IsStreamAt h.pushed h.groups h.seat j) ss → All (IsStreamAt h.pushed groups seat j) ss =
    λ j ss all. All-weaker (IsStreamAt h.pushed h.groups h.seat j) (IsStreamAt h.pushed groups seat j)
    (λ s old. record { here = old.here ∙ sym (old_seat s.group old.made); made = omega (arith, old.made); whole = old.whole }) ss all in
    let first : (j : ℕ) (u : Known) → get_elem? new j ≡ some u → IsEnd h.taken h.pushed groups h.taker seat j u =
    each_set (IsEnd h.taken h.pushed groups h.taker seat) ends id left
    (record { takes = λ _. (own.0, own.1, ap (λ n. n + 1) own.2); streams = stays id v.streams mine.streams })
    (λ j u apart has. record { takes = λ t. absurd (apart (((h.each_end j u has).takes t).0 ∙ sym own.0)); streams = stays j u.streams (h.each_end j u has).streams }) in
    let next : IsStreamAt h.pushed groups seat (length new) (stream v.groups []) = record {
      here = sym (ap (λ b. cond b (length new) (h.seat v.groups)) (eq-eqb v.groups h.groups own.2));
      made = omega (arith, own.2);
      whole = sym (h.unmade v.groups (omega (arith, own.2)));
    } in
    let last : IsEnd h.taken h.pushed groups h.taker seat (length new) right =
    record { takes = λ t. absurd (true≢false (sym t)); streams = All-cons (IsStreamAt h.pushed groups seat (length new)) (stream v.groups []) [] next (All-nil (IsStreamAt h.pushed groups seat (length new))) } in
    record {
      taken = h.taken;
      pushed = h.pushed;
      groups = groups;
      taker = h.taker;
      seat = seat;
      whole = h.whole;
      unmade = λ g far. h.unmade g (omega (arith, far));
      few = h.few;
      each_end = λ j u has. ⊎_elim (λ x. first j u x)
          (λ (x : (j ≡ length new) × (right ≡ u)). subst (λ (y : ℕ × Known). IsEnd h.taken h.pushed groups h.taker seat y.0 y.1) (λ i. (sym x.0 i, x.1 i)) last) (at_end new right u j has);
    }

pub merges : (id : ℕ) (v : Known) (other : ℕ) (w : Known) → v.takes ≡ true → Merges Queued id v other w (taker_knows (v.streams ++ w.streams) v.groups v.taken) nothing_known
merges id v other w takes items ends h at two at' =
    let mine = h.each_end id v at in
    let own = mine.takes takes in
    let both : Known = taker_knows (v.streams ++ w.streams) v.groups v.taken in
    let was : get_elem? ends other ≡ some w = ⊎_elim (λ x. absurd (two x.0)) (λ x. x.1) (at_set ends id other both w at') in
    let theirs = h.each_end other w was in
    let seat : ℕ → ℕ = λ g. cond (eqb (h.seat g) other) id (h.seat g) in
    let F = IsEnd h.taken h.pushed h.groups h.taker seat in
    let stays : (j : ℕ) (ss : List Stream) → j ≢ other → All (IsStreamAt h.pushed h.groups h.seat j) ss → All (IsStreamAt h.pushed h.groups seat j) ss =
    λ j ss apart all. All-weaker (IsStreamAt h.pushed h.groups h.seat j) (IsStreamAt h.pushed h.groups seat j)
    (λ s old. record { here = old.here ∙ sym (ap (λ b. cond b id (h.seat s.group)) (ne_eqb (h.seat s.group) other (λ e. apart (old.here ∙ e)))); made = old.made; whole = old.whole }) ss all in
    let moves : All (IsStreamAt h.pushed h.groups seat id) w.streams =
    All-weaker (IsStreamAt h.pushed h.groups h.seat other) (IsStreamAt h.pushed h.groups seat id)
    (λ s old. record { here = sym (ap (λ b. cond b id (h.seat s.group)) (eq-eqb (h.seat s.group) other (sym old.here))); made = old.made; whole = old.whole }) w.streams theirs.streams in
    let now : (j : ℕ) (u : Known) → get_elem? (set ends id both) j ≡ some u → j ≢ other → F j u =
    each_set (λ j u. j ≢ other → F j u) ends id both
    (λ apart. record { takes = λ _. own; streams = All-append (IsStreamAt h.pushed h.groups seat id) v.streams w.streams (stays id v.streams apart mine.streams) moves })
    (λ j u away has apart. record { takes = λ t. absurd (away (((h.each_end j u has).takes t).0 ∙ sym own.0)); streams = stays j u.streams apart (h.each_end j u has).streams }) in
    record {
      taken = h.taken;
      pushed = h.pushed;
      groups = h.groups;
      taker = h.taker;
      seat = seat;
      whole = h.whole;
      unmade = h.unmade;
      few = h.few;
      each_end = each_set F (set ends id both) other nothing_known (record { takes = λ t. absurd (true≢false (sym t)); streams = All-nil (IsStreamAt h.pushed h.groups seat other) })
          (λ j u apart has. now j u has apart);
    }

-- an end that knows what a taker knows
pub is_taker : (v : Known) (streams : List Stream) (n m : ℕ) (taken : List Commit) → v ≡ taker_knows streams n taken → n ≡ m → v ≡ taker_knows v.streams m v.taken
is_taker v streams n m taken is e = is ∙ (λ i. taker_knows (sym (ap (λ (u : Known). u.streams) is) i) (e i) (sym (ap (λ (u : Known). u.taken) is) i))
