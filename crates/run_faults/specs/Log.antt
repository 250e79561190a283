-- Which answers may follow each other, by what they tell of the log.
use Rattle.std.specs.Prelude.{⊤, List, [], ◌∷◌}
use Rattle.life_table.specs.declared.types.MountRecord.{MountRecord}
use Rattle.script.specs.declared.answers.Said.{Said}
use Rattle.run_faults.specs.News.{News, news_of}
use Rattle.run_faults.specs.News as news

-- What the answers so far tell: no mount is up; one is, with a log that is not down; it may be down, since a write failed; or it is down.
pub data LogKnown : Type 0 where
  no_mount : LogKnown
  log_is_up : LogKnown
  log_in_doubt : LogKnown
  log_is_down : LogKnown

-- What may be told then. A log that is not down refuses nothing. One that is down refuses each call and each end of the mount: nothing is done behind it, and no call asks the device. Only a
-- mount line reads.
abbrev pub MaySay : LogKnown → News → Type 0
MaySay no_mount news.comes_up = ⊤
MaySay no_mount news.stops = ⊤
MaySay no_mount news.positions_end = ⊤
MaySay no_mount news.read_fails = ⊤
MaySay no_mount news.write_fails = ⊤
MaySay no_mount news.flush_fails = ⊤
MaySay no_mount news.other_news = ⊤
MaySay log_is_up news.ends_well = ⊤
MaySay log_is_up news.stops = ⊤
MaySay log_is_up news.log_works = ⊤
MaySay log_is_up news.positions_end = ⊤
MaySay log_is_up news.write_fails = ⊤
MaySay log_is_up news.flush_fails = ⊤
MaySay log_is_up news.other_news = ⊤
MaySay log_in_doubt news.ends_well = ⊤
MaySay log_in_doubt news.stops = ⊤
MaySay log_in_doubt news.log_works = ⊤
MaySay log_in_doubt news.positions_end = ⊤
MaySay log_in_doubt news.write_fails = ⊤
MaySay log_in_doubt news.flush_fails = ⊤
MaySay log_in_doubt news.call_finds_down = ⊤
MaySay log_in_doubt news.end_finds_down = ⊤
MaySay log_in_doubt news.other_news = ⊤
MaySay log_is_down news.stops = ⊤
MaySay log_is_down news.call_finds_down = ⊤
MaySay log_is_down news.end_finds_down = ⊤
MaySay log_is_down news.other_news = ⊤
MaySay _ _ = ⊥

-- what is known behind it, where no mount was up, and where one was
abbrev pub known_behind : LogKnown → News → LogKnown
known_behind no_mount news.comes_up = log_is_up
known_behind no_mount _ = no_mount
known_behind known news.ends_well = no_mount
known_behind known news.stops = no_mount
known_behind known news.end_finds_down = no_mount
known_behind known news.log_works = log_is_up
known_behind known news.positions_end = log_is_up
known_behind known news.write_fails = log_in_doubt
known_behind known news.flush_fails = log_is_down
known_behind known news.call_finds_down = log_is_down
known_behind known _ = known

-- Each answer may follow those before it.
abbrev pub KeepToLog : List MountRecord → LogKnown → List Said → Type 0
KeepToLog mounts known [] = ⊤
KeepToLog mounts known (one ∷ said) = MaySay known (news_of mounts one) × KeepToLog mounts (known_behind known (news_of mounts one)) said

-- ---- until the mount is over

-- an answer of a mount whose log is down, with what is said of the answers behind it while the mount lasts
abbrev pub DownBefore : News → Type 0 → Type 0
DownBefore news.other_news behind = behind
DownBefore news.call_finds_down behind = behind
DownBefore news.end_finds_down behind = ⊤
DownBefore news.stops behind = ⊤
DownBefore _ behind = ⊥

-- Until the mount is over, no sync and no home is done, and the mount does not end well: each that is tried finds the log down.
abbrev pub DownUntilOver : List MountRecord → List Said → Type 0
DownUntilOver mounts [] = ⊤
DownUntilOver mounts (one ∷ said) = DownBefore (news_of mounts one) (DownUntilOver mounts said)
