-- What is written of a make and of a check. What is written of a run of a script is `output` of script's Texts.
use Rattle.std.specs.Prelude.{ℕ, List, [], ◌∷◌, ◌++◌, Option, None, Some, codes}
use Rattle.std.specs.Fmt.{decimal}
use Rattle.geometry.specs.declared.shape.Geometry.{Geometry}
use Rattle.script.specs.Texts.{line_of, status_text}
use Rattle.script.specs.declared.status.Status.{Status}
use Rattle.script.specs.declared.status.Status.TheVariants as status
use Rattle.life_cli.specs.declared.checking.Numbers.{Numbers}

-- the line of an image that was made
abbrev pub made_line : ℕ → List ℕ
made_line sectors = codes "made " ++ (decimal sectors ++ (codes " sectors" ++ (10 ∷ [])))

-- lines that are written where the run ended well, and else none
abbrev pub where_good : List ℕ → Status → List ℕ
where_good lines status.Good = lines
where_good lines status.Usage = []
where_good lines (status.ScriptFault line rule) = []
where_good lines status.ScriptTooLong = []
where_good lines status.OpenFault = []
where_good lines status.SourceFault = []
where_good lines status.SinkFault = []
where_good lines (status.Damaged rule sector) = []
where_good lines status.ReadFault = []
where_good lines status.WriteFault = []
where_good lines status.FlushFault = []
where_good lines status.PositionEnd = []
where_good lines status.NoMemory = []
where_good lines (status.Down fault) = []

-- all that is written of a make
abbrev pub make_output : ℕ → Status → List ℕ
make_output sectors ended = where_good (made_line sectors) ended ++ line_of (status_text ended)

-- how many groups, and blocks of each
abbrev pub groups_text : Geometry → List ℕ
groups_text g = codes "groups " ++ (decimal g.groups ++ (codes " blocks " ++ decimal g.blocks))

-- the sectors of the ring, and how many chunks
abbrev pub ring_text : ℕ → ℕ → List ℕ
ring_text ring chunks = codes " ring " ++ (decimal ring ++ (codes " chunks " ++ decimal chunks))

-- how many inodes are in use, and how many of them without links
abbrev pub inodes_text : ℕ → ℕ → List ℕ
inodes_text inodes orphans = codes " inodes " ++ (decimal inodes ++ (codes " orphans " ++ (decimal orphans ++ (10 ∷ []))))

-- the line of the numbers of a sound image
abbrev pub numbers_line : Numbers → List ℕ
numbers_line n = groups_text n.geometry ++ (ring_text n.geometry.ring n.tables.chunks ++ inodes_text n.tables.inodes n.tables.orphans)

-- the lines of a sound image, where its numbers were found
abbrev pub found_lines : Option Numbers → List ℕ
found_lines None = []
found_lines (Some n) = codes "sound" ++ (10 ∷ numbers_line n)

-- all that is written of a check
abbrev pub check_output : Option Numbers → Status → List ℕ
check_output found ended = where_good (found_lines found) ended ++ line_of (status_text ended)
