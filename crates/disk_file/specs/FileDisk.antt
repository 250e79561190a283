-- What was given of files.
use Rattle.std.specs.Prelude.{⊤, Bool, false, IsTrue, List, map, string_bytes}
use Rattle.std.specs.Bool.{MatchBool}
use Rattle.std.proofs.Common.{subst}
use Rattle.disk_model.specs.Images.{Given}
use Rattle.disk_file.specs.declared.file_images.GivenFile.{GivenFile}

-- the disk that a file is, as it was given
abbrev pub given_of : GivenFile → Given
given_of file = record { path = string_bytes file.path; created = file.created; faults = file.faults }

-- the same of each
abbrev pub all_given : List GivenFile → List Given
all_given files = map given_of files

-- a disk that does not tell what it holds owes nothing of it
pub unknown : {P : Type 0} → IsTrue false → P
unknown known = absurd (subst (λ (b : Bool). MatchBool b ⊥ ⊤) known tt)
