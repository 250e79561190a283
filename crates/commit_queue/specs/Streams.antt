-- The commits of each group, and what one end of the queue knows of them.
use Rattle.std.specs.Prelude.{◌≡◌, ℕ, ◌==◌, true, false, List, [], ◌∷◌, ◌++◌, All, filter}
use Rattle.log_record.specs.declared.image.Commit.{Commit}
use Rattle.commit_queue.specs.declared.known.Stream.{Stream}
use Rattle.commit_queue.specs.declared.known.Known.{Known}

-- the commits of a group, in their order
abbrev pub commits_of : ℕ → List Commit → List Commit
commits_of group commits = filter (λ c. c.group == group) commits

abbrev pub stream : ℕ → List Commit → Stream
stream group pushed = record { group = group; pushed = pushed }

-- what the end of one group's committer knows
abbrev pub committer_knows : ℕ → List Commit → Known
committer_knows group pushed = record { streams = stream group pushed ∷ []; takes = false; groups = 0; taken = [] }

-- what the taker's end knows: the streams of the committers that it took in, for how many groups it made one, and what
-- was taken
abbrev pub taker_knows : List Stream → ℕ → List Commit → Known
taker_knows streams groups taken = record { streams = streams; takes = true; groups = groups; taken = taken }

abbrev pub nothing_known : Known
nothing_known = record { streams = []; takes = false; groups = 0; taken = [] }

-- what the first stream has, or nothing
abbrev pub first_pushed : List Stream → List Commit
first_pushed [] = []
first_pushed (s ∷ _) = s.pushed

-- of the group of each stream, what was popped and then what waits is what its committer pushed
abbrev pub AreTakenOrQueued : List Stream → List Commit → List Commit → Type 0
AreTakenOrQueued streams taken queued = All (λ s. s.pushed ≡ commits_of s.group (taken ++ queued)) streams
