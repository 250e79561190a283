-- The runs of a list of blocks.
use Rattle.std.proofs.Common.{◌≡◌, ◌≢◌, ◌≤◌, ◌<◌, ◌+◌, ◌-◌, ◌*◌, ℕ, zero, suc, Bool, true, false, cond, eqb, List, [], ◌∷◌, ◌++◌, length, drop, take, get_or, refl, sym, ap, subst, ◌∙◌, arith, append_assoc, eq-eqb, add-one, inl, inr, ◌⊎◌}
use Rattle.std.specs.Prelude.{Option, None, Some, IsSome, IfSome}
use Rattle.std.specs.List.{AllByRecursion, flat_map, range_with_len}
use Rattle.std.proofs.lemmas.Bool.Decides.{eqb_tells}
use Rattle.std.proofs.lemmas.List.{drop_more, drop_all, take_more_set}
use Rattle.std.proofs.Math.ListN.{set}
use Rattle.std.proofs.lemmas.List.Concat.{flat_map-cons}
use Rattle.inode_core.specs.declared.shape.TheConstants.{FORK_AT}
use Rattle.extent_fork.specs.declared.extent.Extent.{Extent}
use Rattle.extent_fork.specs.Runs.{single, run_end, grown, runs_from, runs, blocks_of, AreApart, AreLongestRuns, LongestRunsAreOne}
use Rattle.extent_fork.specs.Forks.{IsRun, AreRuns}
use Rattle.extent_fork.specs.Reading.{runs_in, run_in, ForksAreRead}
use Rattle.extent_fork.proofs.Lists.{AreApartAfter, with_first}
use Rattle.extent_fork.proofs.Records.{length-fork, runs_read}
use Rattle.std.proofs.lemmas.List.FromFn.{length-map-range_with_len, get_or-map-range_with_len}
use Rattle.life_bytes.specs.Fields.{field}

chosen : (b : Bool) (x y : List Extent) → b ≡ true → cond b x y ≡ x
chosen b x y e = ap (λ (t : Bool). cond t x y) e

left_out : (b : Bool) (x y : List Extent) → b ≡ false → cond b x y ≡ y
left_out b x y e = ap (λ (t : Bool). cond t x y) e

ne-eqb : (a b : ℕ) → a ≢ b → eqb a b ≡ false
ne-eqb a b ne = elim (eqb_tells a b) [ inl p ↦ absurd (ne p.1) | inr p ↦ p.0 ]

-- the next block goes on with the run
pub goes_on : (run : Extent) (rest : List ℕ) (i d : ℕ) → i < length rest → get_or rest i d ≡ run_end run → runs_from run (drop i rest) ≡ runs_from (grown run) (drop (i + 1) rest)
goes_on run rest i d lt e =
    let others = drop (i + 1) rest in
    let block = get_or rest i d in
    ap (runs_from run) (drop_more rest i d lt) ∙ chosen (eqb block (run_end run)) (runs_from (grown run) others) (run ∷ runs_from (single block) others) (eq-eqb block (run_end run) e)

-- the next block begins a run
pub begins : (run : Extent) (rest : List ℕ) (i d : ℕ) → i < length rest → get_or rest i d ≢ run_end run → runs_from run (drop i rest) ≡ run ∷ runs_from (single (get_or rest i d)) (drop (i + 1) rest)
begins run rest i d lt ne =
    let others = drop (i + 1) rest in
    let block = get_or rest i d in
    ap (runs_from run) (drop_more rest i d lt) ∙ left_out (eqb block (run_end run)) (runs_from (grown run) others) (run ∷ runs_from (single block) others) (ne-eqb block (run_end run) ne)

pub some_run : (run : Extent) (blocks : List ℕ) → 1 ≤ length (runs_from run blocks)
some_run run [] = omega arith
some_run run (block ∷ blocks) = either (eqb block (run_end run)) (some_run (grown run) blocks)
  where
    either : (b : Bool) → 1 ≤ length (runs_from (grown run) blocks) → 1 ≤ length (cond b (runs_from (grown run) blocks) (run ∷ runs_from (single block) blocks))
    either true more = more
    either false more = omega arith

-- ---- the longest runs

range_push : (n a : ℕ) → range_with_len a (suc n) ≡ range_with_len a n ++ (a + n) ∷ []
range_push zero a = let e : a ≡ a + 0 = omega arith in ap (λ (x : ℕ). x ∷ []) e
range_push (suc n) a =
    let e : a + 1 + n ≡ a + suc n = omega arith in
    ap (λ (l : List ℕ). a ∷ l) (range_push n (a + 1)) ∙ ap (λ (x : ℕ). a ∷ (range_with_len (a + 1) n ++ x ∷ [])) e

blocks_of-grown : (run : Extent) → blocks_of (grown run) ≡ blocks_of run ++ run_end run ∷ []
blocks_of-grown run = rw add-one (range_push run.count run.start)

-- what holds of the runs that follow a run
record Follow (run : Extent) (blocks : List ℕ) (found : List Extent) : Type 0 where
  all : flat_map blocks_of found ≡ blocks_of run ++ blocks
  counts : AllByRecursion (λ one. 1 ≤ one.count) found
  apart : (end : ℕ) → run.start ≢ end → AreApartAfter end found

follow : (run : Extent) (blocks : List ℕ) → 1 ≤ run.count → Follow run blocks (runs_from run blocks)
follow run [] counted = record { all = flat_map-cons blocks_of run []; counts = (counted, tt); apart = λ end ne. (ne, tt) }
follow run (block ∷ blocks) counted =
    either (eqb_tells block (run_end run)) (follow (grown run) blocks (omega arith)) (follow (single block) blocks (omega arith))
  where
    either : ((eqb block (run_end run) ≡ true) × (block ≡ run_end run)) ⊎ ((eqb block (run_end run) ≡ false) × (block ≢ run_end run))
        → Follow (grown run) blocks (runs_from (grown run) blocks) → Follow (single block) blocks (runs_from (single block) blocks) → Follow run (block ∷ blocks) (runs_from run (block ∷ blocks))
    either (inl p) more new = subst (Follow run (block ∷ blocks)) (sym (chosen (eqb block (run_end run)) (runs_from (grown run) blocks) (run ∷ runs_from (single block) blocks) p.0)) (record {
      all = more.all ∙ ap (λ (l : List ℕ). l ++ blocks) (blocks_of-grown run) ∙ append_assoc (blocks_of run) (run_end run ∷ []) blocks ∙ ap (λ (x : ℕ). blocks_of run ++ (x ∷ blocks)) (sym p.1);
      counts = more.counts;
      apart = more.apart;
    })
    either (inr p) more new = subst (Follow run (block ∷ blocks)) (sym (left_out (eqb block (run_end run)) (runs_from (grown run) blocks) (run ∷ runs_from (single block) blocks) p.0)) (record {
      all = flat_map-cons blocks_of run (runs_from (single block) blocks) ∙ ap (λ (l : List ℕ). blocks_of run ++ l) new.all;
      counts = (counted, new.counts);
      apart = λ end ne. (ne, with_first run (runs_from (single block) blocks) (new.apart (run_end run) p.1));
    })

pub longest : (blocks : List ℕ) (found : List Extent) → found ≡ runs blocks → AreLongestRuns blocks found
longest blocks found e = subst (AreLongestRuns blocks) (sym e) (by blocks)
  where
    apart_alone : (end : ℕ) (list : List Extent) → AreApartAfter end list → AreApart list
    apart_alone end [] h = tt
    apart_alone end (run ∷ list) h = h.1

    by : (blocks : List ℕ) → AreLongestRuns blocks (runs blocks)
    by [] = record { all = refl; counts = tt; apart = tt }
    by (block ∷ blocks) =
        let f = follow (single block) blocks (omega arith) in
        record { all = f.all; counts = f.counts; apart = apart_alone (suc block) (runs_from (single block) blocks) (f.apart (suc block) (omega arith)) }

-- a block behind the first is as small as all are
pub next_small : (first : ℕ) (rest blocks : List ℕ) (i : ℕ) → blocks ≡ first ∷ rest → ((k : ℕ) (d : ℕ) → k < length blocks → get_or blocks k d < 16384) → i < length rest → get_or rest i 0 < 16384
next_small first rest blocks i e all lt = subst (λ (l : List ℕ). get_or l (suc i) 0 < 16384) e (all (suc i) 0 (omega (arith, ap length e)))

-- the runs so far, and the last of them, where no block is left
pub last_run : (front : List Extent) (run : Extent) (rest : List ℕ) (i : ℕ) (all : List Extent) → length rest ≤ i → front ++ runs_from run (drop i rest) ≡ all → front ++ run ∷ [] ≡ all
last_run front run rest i all le whole = ap (λ (l : List ℕ). front ++ runs_from run l) (sym (drop_all i rest le)) ∙ whole

-- one run more is filled in
pub took : (old new : List Extent) (filled next : ℕ) (run : Extent) → filled < length old → next ≡ filled + 1 → new ≡ set old filled run → take next new ≡ take filled old ++ run ∷ []
took old new filled next run room count put = ap (λ (n : ℕ). take n new) count ∙ ap (take (filled + 1)) put ∙ take_more_set old filled run room

abbrev AreData : List ℕ → Type 0
AreData blocks = (k : ℕ) (d : ℕ) → k < length blocks → (24 ≤ get_or blocks k d) × (get_or blocks k d < 16384)

data_runs : (run : Extent) (blocks : List ℕ) → IsRun run → AreData blocks → AllByRecursion IsRun (runs_from run blocks)
data_runs run [] is small = (is, tt)
data_runs run (block ∷ blocks) is small =
    let one = small 0 0 (omega arith) in
    let rest : AreData blocks = λ k d lt. small (suc k) d (omega arith) in
    let alone : IsRun (single block) = record { count = omega arith; start = one.0; end = omega (arith, one.1) } in
    either (eqb_tells block (run_end run)) (λ e. data_runs (grown run) blocks (record { count = omega (arith, is.count); start = is.start; end = omega (arith, one.1, e) }) rest) (data_runs (single block) blocks alone rest)
  where
    either : ((eqb block (run_end run) ≡ true) × (block ≡ run_end run)) ⊎ ((eqb block (run_end run) ≡ false) × (block ≢ run_end run))
        → (block ≡ run_end run → AllByRecursion IsRun (runs_from (grown run) blocks)) → AllByRecursion IsRun (runs_from (single block) blocks) → AllByRecursion IsRun (runs_from run (block ∷ blocks))
    either (inl p) more new = subst (AllByRecursion IsRun) (sym (chosen (eqb block (run_end run)) (runs_from (grown run) blocks) (run ∷ runs_from (single block) blocks) p.0)) (more p.1)
    either (inr p) more new = subst (AllByRecursion IsRun) (sym (left_out (eqb block (run_end run)) (runs_from (grown run) blocks) (run ∷ runs_from (single block) blocks) p.0)) (is, new)

-- the runs of data blocks are those of a fork
pub for_fork : (blocks : List ℕ) (found : List Extent) → found ≡ runs blocks → ((k : ℕ) (d : ℕ) → k < length blocks → get_or blocks k d < 16384)
    → ((k : ℕ) (d : ℕ) → k < length blocks → 24 ≤ get_or blocks k d) → AreRuns found
for_fork blocks found e below above =
    record { each = subst (AllByRecursion IsRun) (sym e) (by blocks (λ k d lt. (above k d lt, below k d lt))); apart = (longest blocks found e).apart }
  where
    by : (blocks : List ℕ) → AreData blocks → AllByRecursion IsRun (runs blocks)
    by [] small = tt
    by (block ∷ blocks) small =
        let one = small 0 0 (omega arith) in
        data_runs (single block) blocks (record { count = omega arith; start = one.0; end = omega (arith, one.1) }) (λ k d lt. small (suc k) d (omega arith))

-- the runs that are filled in are those of a fork
pub filled_for_fork : (r : Option ℕ) (old new : List Extent) (filled : ℕ) (run : Extent) (rest : List ℕ) (i : ℕ) (blocks : List ℕ) → (IsSome r → filled < length old)
    → IfSome r (λ next. (next ≡ filled + 1) × (new ≡ set old filled run)) → length rest ≤ i → take filled old ++ runs_from run (drop i rest) ≡ runs blocks
    → ((k : ℕ) (d : ℕ) → k < length blocks → get_or blocks k d < 16384) → ((k : ℕ) (d : ℕ) → k < length blocks → 24 ≤ get_or blocks k d) → IfSome r (λ count. AreRuns (take count new))
filled_for_fork None old new filled run rest i blocks room put le whole below above = tt
filled_for_fork (Some next) old new filled run rest i blocks room put le whole below above =
    for_fork blocks (take next new) (took old new filled next run (room refl) put.0 put.1 ∙ last_run (take filled old) run rest i (runs blocks) le whole) below above

-- ---- the runs of the blocks of runs

abbrev extent : ℕ → ℕ → Extent
extent start count = record { start = start; count = count }

-- a run goes on over the blocks behind it
grows : (n start count : ℕ) (rest : List ℕ) → runs_from (extent start count) (range_with_len (start + count) n ++ rest) ≡ runs_from (extent start (count + n)) rest
grows zero start count rest = let e : count ≡ count + 0 = omega arith in ap (λ (c : ℕ). runs_from (extent start c) rest) e
grows (suc n) start count rest =
    let next : start + count + 1 ≡ start + (count + 1) = omega arith in
    let more : count + 1 + n ≡ count + suc n = omega arith in
    let others : List ℕ = range_with_len (start + count + 1) n ++ rest in
    chosen (eqb (start + count) (start + count)) (runs_from (extent start (count + 1)) others) (extent start count ∷ runs_from (single (start + count)) others) (eq-eqb (start + count) (start + count) refl)
    ∙ ap (λ (from : ℕ). runs_from (extent start (count + 1)) (range_with_len from n ++ rest)) next
    ∙ grows n start (count + 1) rest
    ∙ ap (λ (c : ℕ). runs_from (extent start c) rest) more

-- the blocks of a run that is not empty: the first, and the others
first_block : (run : Extent) (m : ℕ) → run.count ≡ suc m → blocks_of run ≡ run.start ∷ range_with_len (run.start + 1) m
first_block run m e = ap (range_with_len run.start) e

again_from : (run : Extent) (m : ℕ) (rest : List ℕ) → run.count ≡ suc m → runs_from (single run.start) (range_with_len (run.start + 1) m ++ rest) ≡ runs_from run rest
again_from run m rest e =
    let c : 1 + m ≡ run.count = omega arith in
    grows m run.start 1 rest ∙ ap (λ (c : ℕ). runs_from (extent run.start c) rest) c

runs_again : (run : Extent) (list : List Extent) → AllByRecursion (λ one. 1 ≤ one.count) list → AreApart (run ∷ list) → runs_from run (flat_map blocks_of list) ≡ run ∷ list
runs_again run [] counts apart = refl
runs_again run (next ∷ list) counts apart =
    let m : ℕ = next.count - 1 in
    let e : next.count ≡ suc m = let some = counts.0 in omega arith in
    let rest : List ℕ = flat_map blocks_of list in
    let others : List ℕ = range_with_len (next.start + 1) m ++ rest in
    ap (runs_from run) (flat_map-cons blocks_of next list ∙ ap (λ (l : List ℕ). l ++ rest) (first_block next m e))
    ∙ left_out (eqb next.start (run_end run)) (runs_from (grown run) others) (run ∷ runs_from (single next.start) others) (ne-eqb next.start (run_end run) apart.0)
    ∙ ap (λ (l : List Extent). run ∷ l) (again_from next m rest e ∙ runs_again next list counts.1 apart.1)

counted : (list : List Extent) → AllByRecursion IsRun list → AllByRecursion (λ one. 1 ≤ one.count) list
counted [] all = tt
counted (run ∷ list) all = (all.0.count, counted list all.1)

longest_again : (list : List Extent) → AllByRecursion (λ one. 1 ≤ one.count) list → AreApart list → runs (flat_map blocks_of list) ≡ list
longest_again [] counts apart = refl
longest_again (run ∷ list) counts apart =
    let m : ℕ = run.count - 1 in
    let e : run.count ≡ suc m = let some = counts.0 in omega arith in
    let rest : List ℕ = flat_map blocks_of list in
    ap runs (flat_map-cons blocks_of run list ∙ ap (λ (l : List ℕ). l ++ rest) (first_block run m e))
    ∙ again_from run m rest e ∙ runs_again run list counts.1 apart

runs_of_blocks : (list : List Extent) → AreRuns list → runs (flat_map blocks_of list) ≡ list
runs_of_blocks list are = longest_again list (counted list are.each) are.apart

-- ---- no fewer runs tell the same blocks

-- how many runs follow a run is told by its end alone
same_end : (r s : Extent) (blocks : List ℕ) → run_end r ≡ run_end s → length (runs_from r blocks) ≡ length (runs_from s blocks)
same_end r s [] e = refl
same_end r s (block ∷ blocks) e =
    either (eqb block (run_end r)) (eqb block (run_end s)) (ap (eqb block) e) (same_end (grown r) (grown s) blocks (omega (arith, e)))
  where
    either : (b c : Bool) → b ≡ c → length (runs_from (grown r) blocks) ≡ length (runs_from (grown s) blocks)
        → length (cond b (runs_from (grown r) blocks) (r ∷ runs_from (single block) blocks)) ≡ length (cond c (runs_from (grown s) blocks) (s ∷ runs_from (single block) blocks))
    either true true same more = more
    either false false same more = refl
    either true false same more = absurd cc
    either false true same more = absurd cc

-- a run in front of blocks adds one run at most
one_more : (run : Extent) (blocks : List ℕ) → length (runs_from run blocks) ≤ length (runs blocks) + 1
one_more run [] = omega arith
one_more run (block ∷ blocks) = either (eqb_tells block (run_end run))
  where
    either : ((eqb block (run_end run) ≡ true) × (block ≡ run_end run)) ⊎ ((eqb block (run_end run) ≡ false) × (block ≢ run_end run))
        → length (runs_from run (block ∷ blocks)) ≤ length (runs_from (single block) blocks) + 1
    either (inl p) =
        let e = p.1 in
        let same = ap (length {A = Extent}) (chosen (eqb block (run_end run)) (runs_from (grown run) blocks) (run ∷ runs_from (single block) blocks) p.0) in
        let many : length (runs_from (grown run) blocks) ≡ length (runs_from (single block) blocks) = same_end (grown run) (single block) blocks (omega arith) in
        omega (arith, same, many)
    either (inr p) =
        let same = ap (length {A = Extent}) (left_out (eqb block (run_end run)) (runs_from (grown run) blocks) (run ∷ runs_from (single block) blocks) p.0) in
        omega (arith, same)

few_again : (list : List Extent) → length (runs (flat_map blocks_of list)) ≤ length list
few_again [] = omega arith
few_again (run ∷ list) = by run.count refl (few_again list)
  where
    by : (n : ℕ) → run.count ≡ n → length (runs (flat_map blocks_of list)) ≤ length list → length (runs (flat_map blocks_of (run ∷ list))) ≤ length (run ∷ list)
    by zero e few =
        let same : flat_map blocks_of (run ∷ list) ≡ flat_map blocks_of list =
        flat_map-cons blocks_of run list ∙ ap (λ (n : ℕ). range_with_len run.start n ++ flat_map blocks_of list) e in
        omega (arith, few, ap (λ (l : List ℕ). length (runs l)) same)
    by (suc m) e few =
        let rest : List ℕ = flat_map blocks_of list in
        let same : runs (flat_map blocks_of (run ∷ list)) ≡ runs_from run rest =
        ap runs (flat_map-cons blocks_of run list ∙ ap (λ (l : List ℕ). l ++ rest) (first_block run m e)) ∙ again_from run m rest e in
        omega (arith, few, ap (length {A = Extent}) same, one_more run rest)

pub longest_are_one : LongestRunsAreOne
longest_are_one = record {
  are = λ blocks. longest blocks (runs blocks) refl;
  one = λ blocks list are. sym (longest_again list are.counts are.apart) ∙ ap runs are.all;
  fewest = λ blocks list e. let few = few_again list in omega (arith, few, ap (λ (l : List ℕ). length (runs l)) e);
}

-- ---- the law

pub forks_are_read : ForksAreRead
forks_are_read = record {
  read = λ bytes count group list low few has.
      let f : ℕ → Extent = λ k. run_in (field 16 (FORK_AT + 16 * k) bytes) in
      runs_read group list (runs_in count bytes) bytes count low few has (length-map-range_with_len f 0 count) (λ k d lt. get_or-map-range_with_len f 0 count k k d lt (omega arith));
  long = length-fork;
  for_blocks = λ blocks all. for_fork blocks (runs blocks) refl (λ k d lt. (all k d lt).1) (λ k d lt. (all k d lt).0);
  blocks = λ blocks. (longest blocks (runs blocks) refl).all;
  runs = runs_of_blocks;
}
