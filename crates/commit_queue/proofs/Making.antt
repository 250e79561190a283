-- The ends of a new queue, one group more at a time.
use Rattle.std.proofs.Common.{◌≡◌, ℕ, zero, suc, ◌+◌, ◌<◌, List, [], ◌∷◌, ◌++◌, length, sym, refl, ap, ◌∙◌, subst, length-append, arith}
use Rattle.std.specs.Prelude.{slice_get, slice_index, Some}
use mathlib.Core.Logic.{dite}
use native.Mathlib.Decide.{ℕ_discrete}
use Rattle.log_record.specs.declared.image.Commit.{Commit}
use Rattle.commit_queue.specs.Streams.{commits_of}
use Rattle.commit_queue.specs.Ends.{CommitterState, TakerState, AreNewEnds, AreCounts}

zero_more : (counts : List ℕ) (g : ℕ) → g < length (counts ++ 0 ∷ []) → ((k : ℕ) → k < length counts → slice_index counts k ≡ 0) → slice_index (counts ++ 0 ∷ []) g ≡ 0
zero_more [] zero inside all = refl
zero_more [] (suc g) inside all = absurd (omega arith)
zero_more (n ∷ counts) zero inside all = all zero (omega arith)
zero_more (n ∷ counts) (suc g) inside all = zero_more counts g (omega arith) (λ k below. all (suc k) (omega (arith, below)))

-- where nothing was taken, the count of a further group is 0
pub one_more_count : (counts more : List ℕ) (taken now : List Commit) → more ≡ counts ++ 0 ∷ [] → now ≡ taken → taken ≡ [] → AreCounts counts taken → AreCounts more now
one_more_count counts more taken now e same none all =
    let nothing : (k : ℕ) → length (commits_of k taken) ≡ 0 = λ k. ap (λ l. length (commits_of k l)) none in
    let longer : AreCounts (counts ++ 0 ∷ []) taken = λ g inside. zero_more counts g inside (λ k below. all k below ∙ nothing k) ∙ sym (nothing g) in
    subst (λ (x : List ℕ × List Commit). AreCounts x.0 x.1) (λ i. (sym e i, sym same i)) longer

get_before : (cs : List CommitterState) (c : CommitterState) (g : ℕ) → g < length cs → slice_get (cs ++ c ∷ []) g ≡ slice_get cs g
get_before [] c g inside = absurd (omega arith)
get_before (x ∷ cs) c zero inside = refl
get_before (x ∷ cs) c (suc g) inside = get_before cs c g (omega arith)

get_last : (cs : List CommitterState) (c : CommitterState) (g : ℕ) → g ≡ length cs → slice_get (cs ++ c ∷ []) g ≡ Some c
get_last [] c zero last = refl
get_last [] c (suc g) last = absurd (omega arith)
get_last (x ∷ cs) c zero last = absurd (omega arith)
get_last (x ∷ cs) c (suc g) last = get_last cs c g (omega arith)

pub one_more_end : (n : ℕ) (cs : List CommitterState) (t u : TakerState) (c : CommitterState) → AreNewEnds n cs t → c ≡ record { queue = t.queue; group = n; pushed = [] } → u ≡ record t { groups = n + 1 }
    → AreNewEnds (n + 1) (cs ++ c ∷ []) u
one_more_end n cs t u c ends is now = record {
  one_each = length-append cs (c ∷ []) ∙ ap (λ k. k + 1) ends.one_each;
  new = λ g below. let queue = ap (λ (s : TakerState). s.queue) now in dite (ℕ_discrete g n)
      (λ e. get_last cs c g (e ∙ sym ends.one_each) ∙ ap Some is ∙ (λ i. Some (record { queue = sym queue i; group = sym e i; pushed = [] })))
      (λ apart. get_before cs c g (omega (arith, below, apart, ends.one_each)) ∙ ends.new g (omega (arith, below, apart)) ∙ (λ i. Some (record { queue = sym queue i; group = g; pushed = [] })));
  idle = now ∙ (λ i. record { queue = sym (ap (λ (s : TakerState). s.queue) now) i; groups = n + 1; taken = ap (λ (s : TakerState). s.taken) ends.idle i; streams = ap (λ (s : TakerState). s.streams) ends.idle i });
}

-- the last committer of a new queue
pub last_end : (n : ℕ) (cs rest : List CommitterState) (x : CommitterState) (t : TakerState) → AreNewEnds (n + 1) cs t → cs ≡ rest ++ x ∷ [] → x ≡ record { queue = t.queue; group = n; pushed = [] }
last_end n cs rest x t ends is =
    let long : n ≡ length rest = omega (arith, ends.one_each, ap length is, length-append rest (x ∷ [])) in
    let same : Some x ≡ Some (record { queue = t.queue; group = n; pushed = [] }) = sym (get_last rest x n long) ∙ ap (λ l. slice_get l n) (sym is) ∙ ends.new n (omega arith) in
    cc
