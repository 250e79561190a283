-- Lists of runs, one after the other.
use Rattle.std.proofs.Common.{◌≢◌, ◌≤◌, ◌<◌, ◌+◌, ◌↔◌, ℕ, List, [], ◌∷◌, length, drop, get_or, arith}
use Rattle.std.specs.List.{AllByRecursion}
use Rattle.std.proofs.lemmas.List.{drop_more, drop_all}
use Rattle.extent_fork.specs.declared.extent.Extent.{Extent}
use Rattle.extent_fork.specs.Runs.{run_end, AreApart}
use Rattle.extent_fork.specs.Forks.{IsRun, AreRuns}
use Rattle.extent_fork.specs.Reading.{IsRunAfter}

-- the first run does not begin at this end, nor a later one at the end of the one before it
abbrev pub AreApartAfter : ℕ → List Extent → Type 0
AreApartAfter end [] = Unit {0}
AreApartAfter end (run ∷ runs) = (run.start ≢ end) × AreApart (run ∷ runs)

abbrev pub AreRunsAfter : ℕ → List Extent → Type 0
AreRunsAfter end runs = AllByRecursion IsRun runs × AreApartAfter end runs

after_first : (run : Extent) (runs : List Extent) → AreApart (run ∷ runs) → AreApartAfter (run_end run) runs
after_first run [] h = tt
after_first run (next ∷ others) h = h

pub with_first : (run : Extent) (runs : List Extent) → AreApartAfter (run_end run) runs → AreApart (run ∷ runs)
with_first run [] h = tt
with_first run (next ∷ others) h = h

-- a data block is not block 0
pub from_start : (runs : List Extent) → AreRunsAfter 0 runs ↔ AreRuns runs
from_start [] = (λ h. record { each = tt; apart = tt }, λ h. (tt, tt))
from_start (run ∷ runs) =
    (λ h. record { each = h.0; apart = h.1.1 }, λ h. let first = h.each.0 in (h.each, (omega (arith, first.start), h.apart)))

step : (end : ℕ) (run : Extent) (runs : List Extent) → AreRunsAfter end (run ∷ runs) ↔ (IsRunAfter end run × AreRunsAfter (run_end run) runs)
step end run runs =
    (λ h. ((h.0.0, h.1.0), (h.0.1, after_first run runs h.1.1)), λ h. ((h.0.0, h.1.0), (h.0.1, with_first run runs h.1.1)))

-- the run at an index, and the runs behind it
pub next_run : (list : List Extent) (i end : ℕ) (d : Extent) → i < length list
    → AreRunsAfter end (drop i list) ↔ (IsRunAfter end (get_or list i d) × AreRunsAfter (run_end (get_or list i d)) (drop (i + 1) list))
next_run list i end d lt = rw (drop_more list i d lt) (step end (get_or list i d) (drop (i + 1) list))

pub no_more_runs : (list : List Extent) (i end : ℕ) → length list ≤ i → AreRunsAfter end (drop i list)
no_more_runs list i end le = rw (drop_all i list le) (tt, tt)

-- ---- records

unfoldable pub total : List Extent → ℕ
total [] = 0
total (run ∷ runs) = run.count + total runs
