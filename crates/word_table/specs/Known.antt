-- What a session or a keeper knows, and how its steps change that.
use Rattle.std.specs.Prelude.{◌+◌, ◌<◌, ◌≤◌, ◌==◌, ◌&&◌, ℕ, Bool, List, [], ◌∷◌, ◌++◌, if◌then◌else◌}
use Rattle.word_table.specs.declared.known.Hold.{Hold}
use Rattle.word_table.specs.declared.known.Look.{Look}
use Rattle.word_table.specs.declared.known.Known.{Known}

abbrev pub hold : ℕ → ℕ → Hold
hold place generation = record { place = place; generation = generation }

abbrev pub look : ℕ → ℕ → Look
look place word = record { place = place; word = word }

abbrev pub one_if : Bool → ℕ
one_if b = if b then 1 else 0

-- the pin is on this inode of this generation
abbrev pub is_hold : ℕ → ℕ → Hold → Bool
is_hold place generation h = (h.place == place) && (h.generation == generation)

-- how often a pin stands in a list
abbrev pub times : ℕ → ℕ → List Hold → ℕ
times place generation [] = 0
times place generation (h ∷ hs) = one_if (is_hold place generation h) + times place generation hs

-- the list without the pin, where it stands first
abbrev pub without : ℕ → ℕ → List Hold → List Hold
without place generation [] = []
without place generation (h ∷ hs) = if is_hold place generation h then hs else h ∷ without place generation hs

-- the word that was seen or left last at a place; 0, as each word is at first, where there is none
abbrev pub last_of : ℕ → List Look → ℕ
last_of place [] = 0
last_of place (l ∷ ls) = if l.place == place then l.word else last_of place ls

-- a word was loaded, found or left
abbrev pub looked : ℕ → ℕ → Known → Known
looked place word v = record v { looks = look place word ∷ v.looks }

-- what was seen is other, and all else is the same
abbrev pub with_looks : List Look → Known → Known
with_looks looks v = record v { looks = looks }

-- one pin more
abbrev pub pinned : ℕ → ℕ → Known → Known
pinned place generation v = record v { pins = hold place generation ∷ v.pins }

-- one pin less
abbrev pub unpinned : ℕ → ℕ → Known → Known
unpinned place generation v = record v { pins = without place generation v.pins }

-- a pin is moved to the front
abbrev pub fronted : ℕ → ℕ → Known → Known
fronted place generation v = pinned place generation (unpinned place generation v)

-- the word at the place is kept here
abbrev pub Keeps : Known → ℕ → Type 0
Keeps v place = (v.first ≤ place) × (place < v.first + v.count)

-- no pin, and nothing was seen; so many words are kept from a place on
abbrev pub new_keeper : ℕ → ℕ → Known
new_keeper first count = record { pins = []; looks = []; first = first; count = count; per = 0 }

-- what a new session knows, and a seat that was joined to another
abbrev pub nothing_known : Known
nothing_known = new_keeper 0 0

-- what the maker of the keepers knows: the words that have no keeper yet, and how many each keeper gets
abbrev pub maker_knows : ℕ → ℕ → ℕ → Known
maker_knows first count per = record { pins = []; looks = []; first = first; count = count; per = per }

-- the first pin of a list, and the others
abbrev pub first_pin : List Hold → List Hold
first_pin [] = []
first_pin (h ∷ hs) = h ∷ []

abbrev pub other_pins : List Hold → List Hold
other_pins [] = []
other_pins (h ∷ hs) = hs

-- the first pin is given away by one who keeps all else, and is known to one who knows nothing else
abbrev pub without_first : Known → Known
without_first v = record v { pins = other_pins v.pins }

abbrev pub first_alone : Known → Known
first_alone v = record nothing_known { pins = first_pin v.pins }

-- the pins of another come to one's own
abbrev pub with_pins : Known → Known → Known
with_pins v w = record v { pins = w.pins ++ v.pins }
