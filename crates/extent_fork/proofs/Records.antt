-- The records of a fork, one after the other.
use Rattle.std.proofs.Common.{◌≡◌, ◌≤◌, ◌<◌, ◌+◌, ◌-◌, ◌*◌, ◌/◌, ◌%◌, ◌^◌, ℕ, zero, suc, List, [], ◌∷◌, ◌++◌, length, take, drop, get_or, replicate, refl, sym, ap, ◌∙◌, arith, append_assoc}
use Rattle.std.specs.List.{AllByRecursion}
use Rattle.std.proofs.lemmas.List.{drop_more, drop_all, take_all, take_more, take_at, drop_at, drop-drop, append-nil, length-append, same_lists, take-append-drop, length-take-le}
use Rattle.std.proofs.lemmas.Nat.{div-mul-add, mod-mul-add}
use Rattle.byteorder.specs.Endian.{big_bytes, big_from}
use Rattle.byteorder.specs.Numbers.{big_number-reads_back}
use Rattle.life_bytes.specs.Fields.{field, with_field, with_piece}
use Rattle.life_bytes.specs.Pieces.{zeros}
use Rattle.life_bytes.specs.TableLaws.{put_at_end, zeros_is, length-zeros}
use Rattle.inode_core.specs.declared.shape.TheConstants.{FORK_AT}
use Rattle.inode_core.specs.Cores.{fork_of}
use Rattle.extent_fork.specs.declared.extent.Extent.{Extent}
use Rattle.extent_fork.specs.Forks.{IsRun, HasFork, record_number, extent_records, fork}
use Rattle.extent_fork.specs.Reading.{run_in}
use Rattle.extent_fork.proofs.Lists.{total}

records-append : (g off : ℕ) (xs ys : List Extent) → extent_records g off (xs ++ ys) ≡ extent_records g off xs ++ extent_records g (off + total xs) ys
unfolding extent_records total
records-append g off [] ys = let e : off ≡ off + 0 = omega arith in ap (λ (o : ℕ). extent_records g o ys) e
records-append g off (x ∷ xs) ys =
    let e : off + x.count + total xs ≡ off + (x.count + total xs) = omega arith in
    let bytes = big_bytes 16 (record_number g off x) in
    ap (λ (l : List ℕ). bytes ++ l) (records-append g (off + x.count) xs ys ∙ ap (λ (o : ℕ). extent_records g (off + x.count) xs ++ extent_records g o ys) e)
    ∙ sym (append_assoc bytes (extent_records g (off + x.count) xs) (extent_records g (off + (x.count + total xs)) ys))

length-records : (g off : ℕ) (xs : List Extent) → length (extent_records g off xs) ≡ 16 * length xs
unfolding extent_records
length-records g off [] = refl
length-records g off (x ∷ xs) =
    let rest = length-records g (off + x.count) xs in
    omega (arith, length-append (big_bytes 16 (record_number g off x)) (extent_records g (off + x.count) xs))

pub length-fork : (g : ℕ) (list : List Extent) → length list ≤ 21 → length (fork g list) ≡ 336
unfolding fork
length-fork g list few =
    omega (arith, length-append (extent_records g 0 list) (zeros (336 - 16 * length list)), length-records g 0 list, length-zeros (336 - 16 * length list))

-- ---- writing

pub first_bytes : (g : ℕ) (list : List Extent) → replicate 336 0 ≡ extent_records g 0 (take 0 list) ++ zeros (336 - 16 * 0)
unfolding extent_records
first_bytes g list = sym (zeros_is 336)

total-push : (xs : List Extent) (x : Extent) → total (xs ++ x ∷ []) ≡ total xs + x.count
unfolding total
total-push [] x = omega arith
total-push (y ∷ xs) x = let rest = total-push xs x in omega arith

pub more_offset : (list : List Extent) (i off : ℕ) (d : Extent) → i < length list → off ≡ total (take i list) → off + (get_or list i d).count ≡ total (take (i + 1) list)
more_offset list i off d lt e = rw (take_more list i d lt, total-push (take i list) (get_or list i d)) (ap (λ (o : ℕ). o + (get_or list i d).count) e)

pub more_bytes : (g : ℕ) (list : List Extent) (i off : ℕ) (d : Extent) (bytes new : List ℕ) → i < length list → length list ≤ 21
    → bytes ≡ extent_records g 0 (take i list) ++ zeros (336 - 16 * i) → off ≡ total (take i list) → new ≡ with_field 16 (16 * i) (record_number g off (get_or list i d)) bytes
    → new ≡ extent_records g 0 (take (i + 1) list) ++ zeros (336 - 16 * (i + 1))
unfolding extent_records
more_bytes g list i off d bytes new lt few so_far offset put =
    let front = extent_records g 0 (take i list) in
    let run = get_or list i d in
    let number = record_number g off run in
    let long : length front ≡ 16 * i = length-records g 0 (take i list) ∙ ap (λ (n : ℕ). 16 * n) (length-take-le i list (omega arith)) in
    let less : 336 - 16 * i - 16 ≡ 336 - 16 * (i + 1) = omega arith in
    let start : off ≡ 0 + total (take i list) = omega (arith, offset) in
    let one : extent_records g off (run ∷ []) ≡ big_bytes 16 number = append-nil (big_bytes 16 number) in
    let longer : extent_records g 0 (take (i + 1) list) ≡ front ++ big_bytes 16 number =
    ap (extent_records g 0) (take_more list i d lt) ∙ records-append g 0 (take i list) (run ∷ []) ∙ ap (λ (o : ℕ). front ++ extent_records g o (run ∷ [])) (sym start) ∙ ap (λ (l : List ℕ). front ++ l) one in
    put ∙ ap (with_field 16 (16 * i) number) so_far ∙ put_at_end front (big_bytes 16 number) 16 (16 * i) (336 - 16 * i) long (omega arith)
    ∙ ap (λ (m : ℕ). (front ++ big_bytes 16 number) ++ zeros m) less ∙ ap (λ (l : List ℕ). l ++ zeros (336 - 16 * (i + 1))) (sym longer)

pub all_bytes : (g : ℕ) (list : List Extent) (i : ℕ) (bytes : List ℕ) → length list ≤ i → i ≤ length list → bytes ≡ extent_records g 0 (take i list) ++ zeros (336 - 16 * i) → bytes ≡ fork g list
unfolding fork
all_bytes g list i bytes le ge so_far =
    let same : i ≡ length list = omega arith in
    so_far ∙ ap (λ (n : ℕ). extent_records g 0 (take n list) ++ zeros (336 - 16 * n)) same ∙ ap (λ (l : List Extent). extent_records g 0 l ++ zeros (336 - 16 * length list)) (take_all (length list) list (omega arith))

-- the fork of a sector, and what stands before it, after the fork was put in
pub fork_put : (f old new : List ℕ) → length f ≡ 336 → length old ≡ 512 → new ≡ with_piece (length f) FORK_AT f old → fork_of new ≡ f
fork_put f old new long size put =
    let nothing : drop (FORK_AT + length f) old ≡ [] = drop_all (FORK_AT + length f) old (omega (arith, long)) in
    ap fork_of put ∙ drop_at (take FORK_AT old) (f ++ drop (FORK_AT + length f) old) FORK_AT (length-take-le FORK_AT old (omega arith)) ∙ ap (λ (l : List ℕ). f ++ l) nothing ∙ append-nil f

pub front_stays : (f old new : List ℕ) → length old ≡ 512 → new ≡ with_piece (length f) FORK_AT f old → take FORK_AT new ≡ take FORK_AT old
front_stays f old new size put = ap (take FORK_AT) put ∙ take_at (take FORK_AT old) (f ++ drop (FORK_AT + length f) old) FORK_AT (length-take-le FORK_AT old (omega arith))

-- ---- reading

pub run_is : (list : List Extent) (i : ℕ) (d : Extent) → AllByRecursion IsRun list → i < length list → IsRun (get_or list i d)
run_is [] i d all lt = absurd (omega arith)
run_is (run ∷ list) zero d all lt = all.0
run_is (run ∷ list) (suc i) d all lt = run_is list i d all.1 (omega arith)

total_small : (list : List Extent) → AllByRecursion IsRun list → total list ≤ 16384 * length list
unfolding total
total_small [] all = omega arith
total_small (run ∷ list) all =
    let rest = total_small list all.1 in
    let one = all.0 in
    omega (arith, one.end)

-- the records from an index on
drop-records : (g off : ℕ) (list : List Extent) (i : ℕ) (rest : List ℕ) → i ≤ length list → drop (16 * i) (extent_records g off list ++ rest) ≡ extent_records g (off + total (take i list)) (drop i list) ++ rest
unfolding total extent_records
drop-records g off list zero rest le = let e : off ≡ off + 0 = omega arith in ap (λ (o : ℕ). extent_records g o list ++ rest) e
drop-records g off [] (suc i) rest le = absurd (omega arith)
drop-records g off (run ∷ list) (suc i) rest le =
    let first = big_bytes 16 (record_number g off run) in
    let others = extent_records g (off + run.count) list ++ rest in
    let width : 16 * suc i ≡ 16 + 16 * i = omega arith in
    let sum : off + run.count + total (take i list) ≡ off + (run.count + total (take i list)) = omega arith in
    ap (λ (n : ℕ). drop n ((first ++ extent_records g (off + run.count) list) ++ rest)) width ∙ ap (drop (16 + 16 * i)) (append_assoc first (extent_records g (off + run.count) list) rest)
    ∙ sym (drop-drop (16 * i) 16 (first ++ others)) ∙ ap (drop (16 * i)) (drop_at first others 16 refl) ∙ drop-records g (off + run.count) list i rest (omega arith)
    ∙ ap (λ (o : ℕ). extent_records g o (drop i list) ++ rest) sum

total-take : (list : List Extent) (i : ℕ) → total (take i list) ≤ total list
unfolding total
total-take list zero = omega arith
total-take [] (suc i) = omega arith
total-take (run ∷ list) (suc i) = let rest = total-take list i in omega arith

abbrev made : ℕ → ℕ → Extent
made start count = record { start = start; count = count }

-- what a record's number gives
number_gives : (g off : ℕ) (run : Extent) → IsRun run → run_in (record_number g off run) ≡ run
number_gives g off run is =
    let block = g * 16384 + run.start in
    let low : run.count < 2 ^ 21 = omega (arith, is.count, is.end) in
    let below : run.start < 16384 = omega (arith, is.count, is.end) in
    let count : record_number g off run % 2 ^ 21 ≡ run.count = mod-mul-add (off * 2 ^ 52 + block) (2 ^ 21) run.count low in
    let high : record_number g off run / 2 ^ 21 ≡ off * 2 ^ 52 + block = div-mul-add (off * 2 ^ 52 + block) (2 ^ 21) run.count low in
    let shape : off * 2 ^ 52 + block ≡ (off * 2 ^ 38 + g) * 16384 + run.start = omega arith in
    let start : record_number g off run / 2 ^ 21 % 16384 ≡ run.start = ap (λ (n : ℕ). n % 16384) (high ∙ shape) ∙ mod-mul-add (off * 2 ^ 38 + g) 16384 run.start below in
    ap (λ (x : ℕ). made x (record_number g off run % 2 ^ 21)) start ∙ ap (made run.start) count

number_small : (g off : ℕ) (run : Extent) → g < 16 → off ≤ 344064 → IsRun run → record_number g off run < 256 ^ 16
number_small g off run group offset is = omega (arith, is.end)

pub run_read : (g : ℕ) (list : List Extent) (i : ℕ) (d : Extent) (bytes : List ℕ) → g < 16 → length list ≤ 21 → AllByRecursion IsRun list → i < length list → fork_of bytes ≡ fork g list
    → run_in (field 16 (FORK_AT + 16 * i) bytes) ≡ get_or list i d
unfolding fork extent_records
run_read g list i d bytes group few all lt encoded =
    let run = get_or list i d in
    let is = run_is list i d all lt in
    let off = 0 + total (take i list) in
    let behind = zeros (336 - 16 * length list) in
    let others = extent_records g (off + run.count) (drop (i + 1) list) in
    let small : off ≤ 344064 = omega (arith, total-take list i, total_small list all) in
    let from : drop (FORK_AT + 16 * i) bytes ≡ big_bytes 16 (record_number g off run) ++ (others ++ behind) =
    sym (drop-drop (16 * i) FORK_AT bytes) ∙ ap (drop (16 * i)) encoded ∙ drop-records g 0 list i behind (omega arith)
    ∙ ap (λ (l : List Extent). extent_records g off l ++ behind) (drop_more list i d lt) ∙ append_assoc (big_bytes 16 (record_number g off run)) others behind in
    ap run_in (ap (big_from 0 16) from ∙ big_number-reads_back 16 (record_number g off run) (others ++ behind) (number_small g off run group small is)) ∙ number_gives g off run is

pub runs_read : (g : ℕ) (list items : List Extent) (bytes : List ℕ) (extents : ℕ) → g < 16 → extents ≤ 21 → HasFork bytes extents g list → length items ≡ extents
    → ((k : ℕ) (d : Extent) → k < extents → get_or items k d ≡ run_in (field 16 (FORK_AT + 16 * k) bytes)) → items ≡ list
runs_read g list items bytes extents group few has many each =
    same_lists items list (many ∙ sym has.many)
    (λ k d lt. each k d (omega arith) ∙ run_read g list k d bytes group (omega (arith, has.many)) has.runs.each (omega (arith, has.many)) has.encoded)

-- a sector is its front and its fork
pub same_sector : (a b : List ℕ) → take FORK_AT a ≡ take FORK_AT b → fork_of a ≡ fork_of b → a ≡ b
same_sector a b front back =
    sym (take-append-drop FORK_AT a) ∙ ap (λ (l : List ℕ). l ++ drop FORK_AT a) front ∙ ap (λ (l : List ℕ). take FORK_AT b ++ l) back ∙ take-append-drop FORK_AT b
