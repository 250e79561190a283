-- The words as `clap` takes them.
use Rattle.std.specs.Prelude.{◌≡◌, List, [], ◌∷◌, String, true, map, codes, string_bytes}
use Rattle.std.specs.List.{AllByRecursion}
use Rattle.std.specs.declared.alloc.Global.{Global}
use Rattle.clap.specs.Words.{App, Rule, Text, new_rule}
use Rattle.clap.specs.Simple.{new_shape}
use Rattle.life_cli.specs.Form.{IsPath}

-- a positional word that has to be there
abbrev pub word_rule : Text → Rule
word_rule id = record (new_rule id) { required = true }

-- a command of this name with these words in order, and no other argument
abbrev pub words_app : Text → List Text → App
words_app name ids = record {
  top = record (new_shape name) { disable_help_flag = true; rules = map word_rule ids };
  subs = [];
}

-- the words of a form on an image
abbrev pub image_ids : List Text
image_ids = codes "image" ∷ []

-- the words of `make`
abbrev pub make_ids : List Text
make_ids = codes "image" ∷ codes "groups" ∷ codes "blocks" ∷ codes "ring" ∷ []

-- the words are this one and the rest, and none is empty or an option
abbrev pub AreWords : List (String Global) → Text → List Text → Type 0
AreWords words form rest = (map string_bytes words ≡ form ∷ rest) × AllByRecursion IsPath (form ∷ rest)

-- this is the first of such words
abbrev pub BeginWith : List (String Global) → Text → Type 0
BeginWith words form = (rest : List Text) × AreWords words form rest
