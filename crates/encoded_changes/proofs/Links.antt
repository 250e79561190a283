-- Images of an inode whose links change.
use Rattle.std.proofs.Common.{◌≡◌, ◌<◌, ◌≤◌, ◌%◌, ℕ, Bool, true, false, cond, List, [], ◌∷◌, Some, eqb, inl, inr, refl, ap, sym, subst, ◌∙◌, arith}
use Rattle.std.specs.Prelude.{◌≢◌, ◌&&◌, is_none}
use Rattle.std.proofs.lemmas.Bool.{cases_eq}
use Rattle.std.proofs.lemmas.List.Elements.{All-from_recursion}
use Rattle.life_limits.specs.declared.TheConstants.{BUCKETS, LAST_PAGE_BLOCK, NO_INODE}
use Rattle.life_bytes.specs.declared.sector.Sector.{Sector}
use Rattle.geometry.specs.declared.shape.Geometry.{Geometry}
use Rattle.ag_header.specs.Headers.{header_encoding}
use Rattle.life_table.specs.declared.table.Inode.{Inode}
use Rattle.life_table.specs.declared.table.Table.{Table}
use Rattle.life_table.specs.Table.{Group, group_at, inode_in, set_inode}
use Rattle.sound_image.specs.Places.{header_place, sector_in}
use Rattle.sound_image.specs.Encoding.{Layouts, CanEncode, head_of, header_for, inode_sector, is_unlinked, bucket_list, next_in, page_of}
use Rattle.encoded_changes.specs.Carry.{IsOfGroup, CarryGroup, image_for}
use Rattle.encoded_changes.specs.Changes.{HaveSameBlocks}
use Rattle.encoded_changes.proofs.Listed.{FirstPut, OutTaken}
use Rattle.encoded_changes.proofs.Inodes.{inode_in-set_other, inode_in-set_same, inode_touches}
use Rattle.encoded_changes.proofs.Rows.{row_put, row_taken}
use Rattle.encoded_changes.proofs.Buckets.{none_before, not_itself, one_before}
use Rattle.life_table.specs.Space.{times}
use Rattle.encoded_changes.proofs.Standing.{at_header, at_inode, has_place}

-- the image of the inode, whatever the layouts come to be
of_inode : (g : Geometry) (t : Table) (layouts others : Layouts) (image : List Sector) (group agino : ℕ) (old new : Inode) → CanEncode g t layouts image → group < g.groups
    → inode_in (group_at t group) agino ≡ Some old → page_of others group ≡ page_of layouts group
    → IsOfGroup g others group (set_inode (group_at t group) agino new) (image_for g group agino (inode_sector g others group agino new))
of_inode g t layouts others image group agino old new can lt at page =
    let place = has_place g t layouts image group agino old can lt at in
    let last : page_of others group ≤ LAST_PAGE_BLOCK = subst (λ (n : ℕ). n ≤ LAST_PAGE_BLOCK) (sym page) (can.layouts_of.pages group (omega (arith, lt, can.groups))).1 in
    record {
      place = agino;
      within = place.1;
      home = refl;
      bytes = at_inode g others group (set_inode (group_at t group) agino new) agino new last place.0 (inode_in-set_same (group_at t group) agino old new at);
    }

pub carried_alone : (g : Geometry) (t : Table) (layouts : Layouts) (image : List Sector) (group agino : ℕ) (old new : Inode) → CanEncode g t layouts image → group < g.groups
    → inode_in (group_at t group) agino ≡ Some old → is_none new.row ≡ is_none old.row → HaveSameBlocks old new
    → CarryGroup g group layouts (group_at t group) layouts (set_inode (group_at t group) agino new) (image_for g group agino (inode_sector g layouts group agino new) ∷ [])
carried_alone g t layouts image group agino old new can lt at same blocks =
    let next : Group = set_inode (group_at t group) agino new in
    record {
      right = All-from_recursion (IsOfGroup g layouts group next) (image_for g group agino (inode_sector g layouts group agino new) ∷ [])
          (of_inode g t layouts layouts image group agino old new can lt at refl, tt);
      whole = λ place low. elim (cases_eq place agino) [
        | inl own ↦ inr (0, omega arith, ap (sector_in g group) (sym own))
        | inr apart ↦ inl (inode_touches g layouts group (group_at t group) agino old new place at apart (inl same) (inl blocks))
      ];
    }

pub carried_put : (g : Geometry) (t : Table) (layouts others : Layouts) (image : List Sector) (group agino : ℕ) (old new : Inode) → CanEncode g t layouts image → group < g.groups
    → inode_in (group_at t group) agino ≡ Some old → is_none new.row ≡ is_none old.row → HaveSameBlocks old new → FirstPut layouts others group agino
    → CarryGroup g group layouts (group_at t group) others (set_inode (group_at t group) agino new)
    (image_for g group header_place (header_encoding (header_for g group (set_inode (group_at t group) agino new) others)) ∷ image_for g group agino (inode_sector g others group agino new) ∷ [])
carried_put g t layouts others image group agino old new can lt at same blocks puts =
    let next : Group = set_inode (group_at t group) agino new in
    let spot = has_place g t layouts image group agino old can lt at in
    let header : IsOfGroup g others group next (image_for g group header_place (header_encoding (header_for g group next others))) =
    record { place = header_place; within = omega (arith, spot.0, spot.1); home = refl; bytes = at_header g others group next } in
    record {
      right = All-from_recursion (IsOfGroup g others group next)
          (image_for g group header_place (header_encoding (header_for g group next others)) ∷ image_for g group agino (inode_sector g others group agino new) ∷ [])
          (header, (of_inode g t layouts others image group agino old new can lt at puts.page, tt));
      whole = λ place low. elim (cases_eq place agino) [
        | inl own ↦ inr (1, omega arith, ap (sector_in g group) (sym own))
        | inr apart ↦ elim (cases_eq place header_place) [
          | inl head ↦ inr (0, omega arith, ap (sector_in g group) (sym head))
          | inr no_header ↦ inl (row_put g layouts others group (group_at t group) agino old new place puts at apart no_header (inl same) (inl blocks))
        ]
      ];
    }

-- ---- taken out of its list

at_most_one : (b c : Bool) → cond {A = ℕ} (b && c) 1 0 ≤ 1
at_most_one true true = omega arith
at_most_one true false = omega arith
at_most_one false c = omega arith

stands_once : (g : Geometry) (t : Table) (layouts : Layouts) (image : List Sector) (group agino : ℕ) → CanEncode g t layouts image → group < g.groups
    → times agino (bucket_list layouts group (agino % BUCKETS)) ≤ 1
stands_once g t layouts image group agino can lt =
    subst (λ (n : ℕ). n ≤ 1) (sym (can.layouts_of.buckets group (agino % BUCKETS) agino (omega (arith, lt, can.groups)) (omega arith)))
    (at_most_one (eqb (agino % BUCKETS) (agino % BUCKETS)) (is_unlinked (inode_in (group_at t group) agino)))

no_mark : (g : Geometry) (t : Table) (layouts : Layouts) (image : List Sector) (group agino : ℕ) (inode : Inode) → CanEncode g t layouts image → group < g.groups
    → inode_in (group_at t group) agino ≡ Some inode → agino ≢ NO_INODE
no_mark g t layouts image group agino inode can lt at e =
    let place = has_place g t layouts image group agino inode can lt at in
    let most = can.table.most in
    omega (arith, place.1, can.blocks, most, e)

pub carried_first : (g : Geometry) (t : Table) (layouts others : Layouts) (image : List Sector) (group agino : ℕ) (old new : Inode) → CanEncode g t layouts image → group < g.groups
    → inode_in (group_at t group) agino ≡ Some old → is_none new.row ≡ is_none old.row → HaveSameBlocks old new → OutTaken layouts others group agino
    → head_of (bucket_list layouts group (agino % BUCKETS)) ≡ agino
    → CarryGroup g group layouts (group_at t group) others (set_inode (group_at t group) agino new)
    (image_for g group header_place (header_encoding (header_for g group (set_inode (group_at t group) agino new) others)) ∷ image_for g group agino (inode_sector g others group agino new) ∷ [])
carried_first g t layouts others image group agino old new can lt at same blocks out first =
    let next : Group = set_inode (group_at t group) agino new in
    let members : List ℕ = bucket_list layouts group (agino % BUCKETS) in
    let spot = has_place g t layouts image group agino old can lt at in
    let header : IsOfGroup g others group next (image_for g group header_place (header_encoding (header_for g group next others))) =
    record { place = header_place; within = omega (arith, spot.0, spot.1); home = refl; bytes = at_header g others group next } in
    record {
      right = All-from_recursion (IsOfGroup g others group next)
          (image_for g group header_place (header_encoding (header_for g group next others)) ∷ image_for g group agino (inode_sector g others group agino new) ∷ [])
          (header, (of_inode g t layouts others image group agino old new can lt at out.page, tt));
      whole = λ place low. elim (cases_eq place agino) [
        | inl own ↦ inr (1, omega arith, ap (sector_in g group) (sym own))
        | inr apart ↦ elim (cases_eq place header_place) [
          | inl head ↦ inr (0, omega arith, ap (sector_in g group) (sym head))
          | inr no_header ↦ inl (row_taken g layouts others group (group_at t group) agino old new place out at apart (inl no_header)
              (none_before members agino place (stands_once g t layouts image group agino can lt) (no_mark g t layouts image group agino old can lt at) first) (inl same) (inl blocks))
        ]
      ];
    }

pub carried_later : (g : Geometry) (t : Table) (layouts others : Layouts) (image : List Sector) (group agino before : ℕ) (old new other : Inode) → CanEncode g t layouts image → group < g.groups
    → inode_in (group_at t group) agino ≡ Some old → is_none new.row ≡ is_none old.row → HaveSameBlocks old new → OutTaken layouts others group agino
    → inode_in (group_at t group) before ≡ Some other → next_in (bucket_list layouts group (agino % BUCKETS)) before ≡ agino
    → CarryGroup g group layouts (group_at t group) others (set_inode (group_at t group) agino new)
    (image_for g group before (inode_sector g others group before other) ∷ image_for g group agino (inode_sector g others group agino new) ∷ [])
carried_later g t layouts others image group agino before old new other can lt at same blocks out there points =
    let next : Group = set_inode (group_at t group) agino new in
    let members : List ℕ = bucket_list layouts group (agino % BUCKETS) in
    let once = stands_once g t layouts image group agino can lt in
    let some = no_mark g t layouts image group agino old can lt at in
    let spot = has_place g t layouts image group before other can lt there in
    let last : page_of others group ≤ LAST_PAGE_BLOCK = subst (λ (n : ℕ). n ≤ LAST_PAGE_BLOCK) (sym out.page) (can.layouts_of.pages group (omega (arith, lt, can.groups))).1 in
    let differs : agino ≢ before = λ e. not_itself members agino once some (ap (next_in members) e ∙ points) in
    let one : IsOfGroup g others group next (image_for g group before (inode_sector g others group before other)) =
    record {
      place = before;
      within = spot.1;
      home = refl;
      bytes = at_inode g others group next before other last spot.0 (inode_in-set_other (group_at t group) agino before new differs ∙ there);
    } in
    record {
      right = All-from_recursion (IsOfGroup g others group next)
          (image_for g group before (inode_sector g others group before other) ∷ image_for g group agino (inode_sector g others group agino new) ∷ [])
          (one, (of_inode g t layouts others image group agino old new can lt at out.page, tt));
      whole = λ place low. elim (cases_eq place agino) [
        | inl own ↦ inr (1, omega arith, ap (sector_in g group) (sym own))
        | inr apart ↦ elim (cases_eq place before) [
          | inl behind ↦ inr (0, omega arith, ap (sector_in g group) (sym behind))
          | inr elsewhere ↦ inl (row_taken g layouts others group (group_at t group) agino old new place out at apart
              (inr (λ head. none_before members agino before once some head points))
              (λ e. elsewhere (one_before members agino place before once some e points)) (inl same) (inl blocks))
        ]
      ];
    }
