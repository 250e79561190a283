-- What a memory keeps of the disks that it gave, and of those that stand in it.
use Rattle.std.specs.Prelude.{ℕ, List, String, map}
use Rattle.std.specs.String.{string_bytes}
use Rattle.std.specs.declared.alloc.Global.{Global}
use Rattle.disk_model.specs.Images.{Given}
use Rattle.disk_model.specs.declared.memory_images.Gift.{Gift}

abbrev pub gift_given : Gift → Given
gift_given gift = record { path = string_bytes gift.path; created = gift.created; faults = gift.faults }

abbrev pub gifts_given : List Gift → List Given
gifts_given gifts = map gift_given gifts

-- a disk with the bytes of its path
abbrev pub by_path : {D : Type 0} → List (String Global × D) → List (List ℕ × D)
by_path entries = map (λ entry. (string_bytes entry.0, entry.1)) entries
