-- What a reader or a keeper knows of the histories, and how its steps change that.
use Rattle.std.specs.Prelude.{◌+◌, ◌<◌, ◌≤◌, ◌==◌, ◌&&◌, ℕ, Bool, max, nat_lt, List, [], ◌∷◌, ◌++◌, length, if◌then◌else◌}
use Rattle.life_limits.specs.declared.TheConstants.{MAX_ACTORS}
use Rattle.life_table.specs.declared.types.Entry.{Entry}
use Rattle.version_table.specs.declared.story.Sight.{Sight}
use Rattle.version_table.specs.declared.story.Line.{Line}
use Rattle.version_table.specs.declared.story.Place.{Place}
use Rattle.version_table.specs.declared.story.Story.{Story}

abbrev pub sight : ℕ → ℕ → Sight
sight group count = record { group = group; count = count }

abbrev pub line : ℕ → List Entry → Line
line group entries = record { group = group; entries = entries }

abbrev pub place : ℕ → ℕ → Place
place group at = record { group = group; place = at }

abbrev pub one_if : Bool → ℕ
one_if b = if b then 1 else 0

-- the most entries that were seen of a group
abbrev pub seen_of : ℕ → List Sight → ℕ
seen_of group [] = 0
seen_of group (x ∷ xs) = if x.group == group then max x.count (seen_of group xs) else seen_of group xs

abbrev pub longer : List Entry → List Entry → List Entry
longer a b = if nat_lt (length a) (length b) then b else a

-- the longest beginning of a group's history that is known
abbrev pub known_of : ℕ → List Line → List Entry
known_of group [] = []
known_of group (x ∷ xs) = if x.group == group then longer x.entries (known_of group xs) else known_of group xs

-- how often a place of a group stands in a list
abbrev pub times : ℕ → ℕ → List Place → ℕ
times group at [] = 0
times group at (x ∷ xs) = one_if ((x.group == group) && (x.place == at)) + times group at xs

-- the history of the group is kept here
abbrev pub Keeps : Story → ℕ → Type 0
Keeps v group = (v.first ≤ group) × (group < v.first + v.count)

-- nothing is known, and so many histories are kept from one on
abbrev pub new_keeper : ℕ → ℕ → Story
new_keeper first count = record { sights = []; lines = []; places = []; first = first; count = count }

abbrev pub nothing_known : Story
nothing_known = new_keeper 0 0

-- a history was seen to be so long
abbrev pub saw : ℕ → ℕ → Story → Story
saw group count v = record v { sights = sight group count ∷ v.sights }

-- the place of a new entry, where it is an actor's
abbrev pub own_place : ℕ → ℕ → Entry → List Place
own_place group at e = if nat_lt e.actor MAX_ACTORS then place group at ∷ [] else []

-- an entry comes to the history of the group, behind all that the keeper knows
abbrev pub entered : ℕ → Entry → Story → Story
entered group e v = let old = known_of group v.lines in record v {
  sights = sight group (length old + 1) ∷ v.sights;
  lines = line group (old ++ e ∷ []) ∷ v.lines;
  places = own_place group (length old) e ++ v.places;
}

abbrev pub first_sight : List Sight → List Sight
first_sight [] = []
first_sight (x ∷ xs) = x ∷ []

abbrev pub first_line : List Line → List Line
first_line [] = []
first_line (x ∷ xs) = x ∷ []

-- what a reader tells a keeper: the newest length that it saw
abbrev pub warning : Story → Story
warning v = record nothing_known { sights = first_sight v.sights }

-- what a keeper tells a reader: the history that it made last, with the places that wait
abbrev pub telling : Story → Story
telling v = record nothing_known { sights = first_sight v.sights; lines = first_line v.lines; places = v.places }

abbrev pub handed_over : Story → Story
handed_over v = record v { places = [] }

-- what another knows comes to one's own
abbrev pub with_story : Story → Story → Story
with_story v w = record v { sights = w.sights ++ v.sights; lines = w.lines ++ v.lines; places = w.places ++ v.places }
