-- When a log is told to be down.
use Rattle.std.proofs.Common.{◌≡◌, ℕ, zero, suc, Bool, true, false, List, [], ◌∷◌, Some, refl, ap, sym, subst, ◌∙◌, arith}
use Rattle.std.specs.Prelude.{slice_get}
use Rattle.life_table.specs.declared.types.MountRecord.{MountRecord}
use Rattle.script.specs.declared.answers.Said.{Said}
use Rattle.run_faults.specs.News.{News, news_of}
use Rattle.run_faults.specs.News as news
use Rattle.run_faults.specs.Log.{DownBefore, DownUntilOver, KeepToLog, LogKnown, MaySay, known_behind, no_mount, log_is_up, log_in_doubt, log_is_down}
use Rattle.run_faults.specs.Told.{faults_told, is_fault}
use Rattle.run_faults.proofs.Telling.{count_first}

-- ---- behind a flush that failed

-- what may be told of a log that is down leaves it so, or the mount is over
down_stays : (mounts : List MountRecord) (told : News) (behind : Type 0) → MaySay log_is_down told → (known_behind log_is_down told ≡ log_is_down → behind) → DownBefore told behind
down_stays mounts news.comes_up behind may rest = may
down_stays mounts news.ends_well behind may rest = may
down_stays mounts news.stops behind may rest = tt
down_stays mounts news.log_works behind may rest = may
down_stays mounts news.positions_end behind may rest = may
down_stays mounts news.read_fails behind may rest = may
down_stays mounts news.write_fails behind may rest = may
down_stays mounts news.flush_fails behind may rest = may
down_stays mounts news.call_finds_down behind may rest = rest refl
down_stays mounts news.end_finds_down behind may rest = tt
down_stays mounts news.other_news behind may rest = rest refl
down_stays mounts news.unrecorded behind may rest = may

down_until_over : (mounts : List MountRecord) (said : List Said) → KeepToLog mounts log_is_down said → DownUntilOver mounts said
down_until_over mounts [] keeps = tt
down_until_over mounts (one ∷ said) keeps =
    down_stays mounts (news_of mounts one) (DownUntilOver mounts said) keeps.0
    (λ is. down_until_over mounts said (subst (λ (k : LogKnown). KeepToLog mounts k said) is keeps.1))

down_then : (known : LogKnown) → ¬ (known ≡ no_mount) → known_behind known news.flush_fails ≡ log_is_down
down_then no_mount up = absurd (up refl)
down_then log_is_up up = refl
down_then log_in_doubt up = refl
down_then log_is_down up = refl

pub behind_flush : (mounts : List MountRecord) (known : LogKnown) (flush : Said) (said : List Said) → KeepToLog mounts known (flush ∷ said) → ¬ (known ≡ no_mount)
    → news_of mounts flush ≡ news.flush_fails → DownUntilOver mounts said
behind_flush mounts known flush said keeps up is =
    let down = ap (known_behind known) is ∙ down_then known up in
    down_until_over mounts said (subst (λ (k : LogKnown). KeepToLog mounts k said) down keeps.1)

-- ---- where no fault is told

abbrev IsSure : LogKnown → Type 0
IsSure no_mount = Unit {0}
IsSure log_is_up = Unit {0}
IsSure _ = ⊥

abbrev TellsDown : News → Type 0
TellsDown news.call_finds_down = Unit {0}
TellsDown news.end_finds_down = Unit {0}
TellsDown _ = ⊥

-- a log that is known to be up stays so, and is not down
stays_sure : (known : LogKnown) (told : News) → IsSure known → MaySay known told → is_fault told ≡ false → IsSure (known_behind known told) × (TellsDown told → ⊥)
stays_sure no_mount news.comes_up sure may none = (tt, λ down. down)
stays_sure no_mount news.ends_well sure may none = absurd may
stays_sure no_mount news.stops sure may none = (tt, λ down. down)
stays_sure no_mount news.log_works sure may none = absurd may
stays_sure no_mount news.positions_end sure may none = (tt, λ down. down)
stays_sure no_mount news.read_fails sure may none = (tt, λ down. down)
stays_sure no_mount news.write_fails sure may none = (tt, λ down. down)
stays_sure no_mount news.flush_fails sure may none = (tt, λ down. down)
stays_sure no_mount news.call_finds_down sure may none = absurd may
stays_sure no_mount news.end_finds_down sure may none = absurd may
stays_sure no_mount news.other_news sure may none = (tt, λ down. down)
stays_sure no_mount news.unrecorded sure may none = absurd may
stays_sure log_is_up news.comes_up sure may none = absurd may
stays_sure log_is_up news.ends_well sure may none = (tt, λ down. down)
stays_sure log_is_up news.stops sure may none = (tt, λ down. down)
stays_sure log_is_up news.log_works sure may none = (tt, λ down. down)
stays_sure log_is_up news.positions_end sure may none = (tt, λ down. down)
stays_sure log_is_up news.read_fails sure may none = absurd may
stays_sure log_is_up news.write_fails sure may none = absurd cc
stays_sure log_is_up news.flush_fails sure may none = absurd cc
stays_sure log_is_up news.call_finds_down sure may none = absurd may
stays_sure log_is_up news.end_finds_down sure may none = absurd may
stays_sure log_is_up news.other_news sure may none = (tt, λ down. down)
stays_sure log_is_up news.unrecorded sure may none = absurd may
stays_sure log_in_doubt told sure may none = absurd sure
stays_sure log_is_down told sure may none = absurd sure

none_first : (mounts : List MountRecord) (one : Said) (said : List Said) (b : Bool) → is_fault (news_of mounts one) ≡ b → faults_told mounts (one ∷ said) ≡ 0
    → (b ≡ false) × (faults_told mounts said ≡ 0)
none_first mounts one said true is none = let more = count_first mounts one said true is in absurd (omega (arith, more, none))
none_first mounts one said false is none = let more = count_first mounts one said false is in (refl, omega (arith, more, none))

never_down : (mounts : List MountRecord) (known : LogKnown) (said : List Said) (i : ℕ) (one : Said) → IsSure known → KeepToLog mounts known said → faults_told mounts said ≡ 0
    → slice_get said i ≡ Some one → TellsDown (news_of mounts one) → ⊥
never_down mounts known [] i one sure keeps none at down = absurd cc
never_down mounts known (first ∷ said) zero one sure keeps none at down =
    let is : first ≡ one = cc in
    let few = none_first mounts first said (is_fault (news_of mounts first)) refl none in
    (stays_sure known (news_of mounts first) sure keeps.0 few.0).1 (subst (λ (s : Said). TellsDown (news_of mounts s)) (sym is) down)
never_down mounts known (first ∷ said) (suc i) one sure keeps none at down =
    let few = none_first mounts first said (is_fault (news_of mounts first)) refl none in
    never_down mounts (known_behind known (news_of mounts first)) said i one (stays_sure known (news_of mounts first) sure keeps.0 few.0).0 keeps.1 few.1 at down

pub never_told : (mounts : List MountRecord) (said : List Said) (i : ℕ) (one : Said) → KeepToLog mounts no_mount said → faults_told mounts said ≡ 0
    → slice_get said i ≡ Some one → (¬ (news_of mounts one ≡ news.call_finds_down)) × (¬ (news_of mounts one ≡ news.end_finds_down))
never_told mounts said i one keeps none at = (
  λ is. never_down mounts no_mount said i one tt keeps none at (subst TellsDown (sym is) tt),
  λ is. never_down mounts no_mount said i one tt keeps none at (subst TellsDown (sym is) tt),
)
