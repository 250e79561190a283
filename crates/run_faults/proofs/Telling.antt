-- What answers have told stays while records grow, and goes on by one answer.
use Rattle.std.proofs.Common.{◌≡◌, ◌≤◌, ◌+◌, ℕ, Bool, true, false, List, [], ◌∷◌, ◌++◌, Option, None, Some, refl, ap, sym, subst, ◌∙◌, arith}
use Rattle.std.specs.Prelude.{IsTrue, if◌then◌else◌, slice_get}
use Rattle.std.specs.List.{count_by}
use Rattle.std.proofs.lemmas.List.Sums.{sum_by-cons}
use Rattle.life_ports.specs.Faults.{Rose}
use Rattle.life_table.specs.declared.types.Entry.{Entry}
use Rattle.life_table.specs.declared.types.MountRecord.{MountRecord}
use Rattle.script.specs.declared.answers.Said.{Said}
use Rattle.script.specs.declared.answers.Said.TheVariants.{Of, InGroup, Direct, Line}
use Rattle.run_faults.specs.News.{News, news_in, news_of, news_of_entry}
use Rattle.run_faults.specs.News as news
use Rattle.run_faults.specs.Log.{KeepToLog, LogKnown, MaySay, known_behind, no_mount, log_is_up, log_in_doubt, log_is_down}
use Rattle.run_faults.specs.Told.{RoseBy, faults_told, is_fault}
use Rattle.run_faults.specs.Progress.{EntriesStay, HasTold, RecordsGrow, known_after}

-- ---- while the records grow

entry_stays : (old new : MountRecord) (place : ℕ) (o : Option Entry) → slice_get old.entries place ≡ o → EntriesStay old new → ¬ (news_of_entry o ≡ news.unrecorded)
    → news_of_entry (slice_get new.entries place) ≡ news_of_entry o
entry_stays old new place None at stays known = absurd (known refl)
entry_stays old new place (Some entry) at stays known = ap news_of_entry (stays place entry at)

record_stays : (old new : List MountRecord) (mount place : ℕ) (o : Option MountRecord) → slice_get old mount ≡ o → RecordsGrow old new → ¬ (news_in o place ≡ news.unrecorded)
    → news_in (slice_get new mount) place ≡ news_in o place
record_stays old new mount place None at grows known = absurd (known refl)
record_stays old new mount place (Some story) at grows known =
    let later = grows mount story at in
    ap (λ (o : Option MountRecord). news_in o place) later.1 ∙ entry_stays story later.0 place (slice_get story.entries place) refl later.2 known

pub news_stay : (old new : List MountRecord) (one : Said) → RecordsGrow old new → ¬ (news_of old one ≡ news.unrecorded) → news_of new one ≡ news_of old one
news_stay old new (Of mount place) grows known = record_stays old new mount place (slice_get old mount) refl grows known
news_stay old new (Line None answer) grows known = refl
news_stay old new (Line (Some actor) answer) grows known = refl
news_stay old new (InGroup actor group place) grows known = refl
news_stay old new (Direct actor answer) grows known = refl

no_unrecorded : (known : LogKnown) → MaySay known news.unrecorded → ⊥
no_unrecorded no_mount may = may
no_unrecorded log_is_up may = may
no_unrecorded log_in_doubt may = may
no_unrecorded log_is_down may = may

recorded : (known : LogKnown) (told : News) → MaySay known told → ¬ (told ≡ news.unrecorded)
recorded known told may is = no_unrecorded known (subst (MaySay known) is may)

same_news : (old new : List MountRecord) (known : LogKnown) (one : Said) → RecordsGrow old new → MaySay known (news_of old one) → news_of new one ≡ news_of old one
same_news old new known one grows may = news_stay old new one grows (recorded known (news_of old one) may)

keep_grows : (old new : List MountRecord) (known : LogKnown) (said : List Said) → RecordsGrow old new → KeepToLog old known said → KeepToLog new known said
keep_grows old new known [] grows keeps = tt
keep_grows old new known (one ∷ said) grows keeps =
    let same = same_news old new known one grows keeps.0 in
    (subst (MaySay known) (sym same) keeps.0, subst (λ (told : News). KeepToLog new (known_behind known told) said) (sym same) (keep_grows old new (known_behind known (news_of old one)) said grows keeps.1))

known_grows : (old new : List MountRecord) (known : LogKnown) (said : List Said) → RecordsGrow old new → KeepToLog old known said → known_after new known said ≡ known_after old known said
known_grows old new known [] grows keeps = refl
known_grows old new known (one ∷ said) grows keeps =
    ap (λ (told : News). known_after new (known_behind known told) said) (same_news old new known one grows keeps.0)
    ∙ known_grows old new (known_behind known (news_of old one)) said grows keeps.1

-- the count of a list that begins with one more
abbrev pub counted : Bool → ℕ
counted true = 1
counted false = 0

count_more : {X : Type 0} (p : X → Bool) (x : X) (xs : List X) (b : Bool) → p x ≡ b → count_by p (x ∷ xs) ≡ counted b + count_by p xs
count_more {X = X} p x xs true is = sum_by-cons (λ (y : X). if p y then 1 else 0) x xs ∙ ap (λ (b : Bool). (if b then 1 else 0) + count_by p xs) is
count_more {X = X} p x xs false is = sum_by-cons (λ (y : X). if p y then 1 else 0) x xs ∙ ap (λ (b : Bool). (if b then 1 else 0) + count_by p xs) is

abbrev pub told_by : List MountRecord → Said → Bool
told_by mounts one = is_fault (news_of mounts one)

pub count_first : (mounts : List MountRecord) (one : Said) (said : List Said) (b : Bool) → told_by mounts one ≡ b → faults_told mounts (one ∷ said) ≡ counted b + faults_told mounts said
count_first mounts one said b is = count_more (told_by mounts) one said b is

faults_grow : (old new : List MountRecord) (known : LogKnown) (said : List Said) → RecordsGrow old new → KeepToLog old known said → faults_told new said ≡ faults_told old said
faults_grow old new known [] grows keeps = refl
faults_grow old new known (one ∷ said) grows keeps =
    let same = ap is_fault (same_news old new known one grows keeps.0) in
    let later = faults_grow old new (known_behind known (news_of old one)) said grows keeps.1 in
    let here = count_first new one said (told_by old one) same in
    let there = count_first old one said (told_by old one) refl in
    omega (arith, later, here, there)

-- ---- one answer more

keep_push : (mounts : List MountRecord) (known : LogKnown) (said : List Said) (one : Said) → KeepToLog mounts known said → MaySay (known_after mounts known said) (news_of mounts one)
    → KeepToLog mounts known (said ++ one ∷ [])
keep_push mounts known [] one keeps may = (may, tt)
keep_push mounts known (first ∷ said) one keeps may = (keeps.0, keep_push mounts (known_behind known (news_of mounts first)) said one keeps.1 may)

known_push : (mounts : List MountRecord) (known : LogKnown) (said : List Said) (one : Said)
    → known_after mounts known (said ++ one ∷ []) ≡ known_behind (known_after mounts known said) (news_of mounts one)
known_push mounts known [] one = refl
known_push mounts known (first ∷ said) one = known_push mounts (known_behind known (news_of mounts first)) said one

faults_push : (mounts : List MountRecord) (said : List Said) (one : Said) → faults_told mounts (said ++ one ∷ []) ≡ faults_told mounts said + counted (told_by mounts one)
faults_push mounts [] one = let here = count_first mounts one [] (told_by mounts one) refl in omega (arith, here)
faults_push mounts (first ∷ said) one =
    let here = count_first mounts first said (told_by mounts first) refl in
    let there = count_first mounts first (said ++ one ∷ []) (told_by mounts first) refl in
    let more = faults_push mounts said one in
    omega (arith, here, there, more)

rose_more : (times before now later : ℕ) (b : Bool) → RoseBy times before now → (IsTrue b → Rose now later) → now ≤ later → RoseBy (times + counted b) before later
rose_more times before now later true rose risen low = let more : Rose now later = risen refl in omega (arith, rose, more)
rose_more times before now later false rose risen low = omega (arith, rose, low)

-- ---- the whole

pub begins : (count : ℕ) → HasTold [] [] no_mount count count
begins count = record { keeps = tt; known_is = refl; faults = omega arith }

pub grows_on : (old new : List MountRecord) (said : List Said) (known : LogKnown) (before now later : ℕ) → HasTold old said known before now → RecordsGrow old new
    → now ≤ later → HasTold new said known before later
grows_on old new said known before now later told grows low =
    let same = faults_grow old new no_mount said grows told.keeps in
    record {
      keeps = keep_grows old new no_mount said grows told.keeps;
      known_is = known_grows old new no_mount said grows told.keeps ∙ told.known_is;
      faults = subst (λ (n : ℕ). RoseBy n before later) (sym same) (let f = told.faults in omega (arith, f, low));
    }

pub goes_on : (mounts : List MountRecord) (said : List Said) (one : Said) (known : LogKnown) (before now later : ℕ) → HasTold mounts said known before now
    → MaySay known (news_of mounts one) → (IsTrue (is_fault (news_of mounts one)) → Rose now later) → now ≤ later
    → HasTold mounts (said ++ one ∷ []) (known_behind known (news_of mounts one)) before later
goes_on mounts said one known before now later told may risen low = record {
  keeps = keep_push mounts no_mount said one told.keeps (subst (λ (k : LogKnown). MaySay k (news_of mounts one)) (sym told.known_is) may);
  known_is = known_push mounts no_mount said one ∙ ap (λ (k : LogKnown). known_behind k (news_of mounts one)) told.known_is;
  faults = subst (λ (n : ℕ). RoseBy n before later) (sym (faults_push mounts said one)) (rose_more (faults_told mounts said) before now later (told_by mounts one) told.faults risen low);
}
