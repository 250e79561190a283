-- A history with one entry more.
use Rattle.std.proofs.Common.{◌≡◌, ◌≤◌, ◌+◌, ℕ, zero, suc, add-one, Bool, true, false, List, [], ◌∷◌, ◌++◌, length, take, if◌then◌else◌, refl, sym, ap, subst, ◌∙◌, append_assoc, length-append, arith}
use Rattle.std.specs.Prelude.{max}
use Rattle.std.specs.List.{range_with_len}
use Rattle.std.proofs.lemmas.List.{append-nil, take-append-le}
use Rattle.std.proofs.lemmas.List.Elements.{filter-append}
use Rattle.life_table.specs.declared.key.Key.{Key}
use Rattle.life_table.specs.declared.types.Entry.{Entry}
use Rattle.life_table.specs.declared.table.Table.{Table}
use Rattle.life_table.specs.History.{After, AreByHolders, Happens, IsByHolder, Leads, LegalHistory, after_entries, changes, closed, frees_of, is_change}
use Rattle.run_history.specs.Mounts.{covered, most_covered}

leads_more : (first last next : Table) (entries : List Entry) (entry : Entry) → Leads first entries last → Happens last entry.event next → Leads first (entries ++ entry ∷ []) next
leads_more first last next [] entry leads happens = (next, subst (λ (t : Table). Happens t entry.event next) leads happens, refl)
leads_more first last next (one ∷ entries) entry (then_is, here, rest) happens = (then_is, here, leads_more then_is last next entries entry rest happens)

held_more : (before entries : List Entry) (entry : Entry) → AreByHolders before entries → IsByHolder (before ++ entries) entry.actor entry.event
    → AreByHolders before (entries ++ entry ∷ [])
held_more before [] entry are by = (subst (λ (es : List Entry). IsByHolder es entry.actor entry.event) (append-nil before) by, tt)
held_more before (one ∷ entries) entry (here, rest) by =
    (here, held_more (before ++ one ∷ []) entries entry rest (subst (λ (es : List Entry). IsByHolder es entry.actor entry.event) (sym (append_assoc before (one ∷ []) entries)) by))

pub legal_more : (first last next : Table) (entries : List Entry) (entry : Entry) → LegalHistory first entries last → Happens last entry.event next
    → IsByHolder entries entry.actor entry.event → LegalHistory first (entries ++ entry ∷ []) next
legal_more first last next entries entry legal happens by = record {
  leads = leads_more first last next entries entry legal.leads happens;
  held = held_more [] entries entry legal.held by;
}

-- ---- its changes

pub no_change_more : (entries : List Entry) (entry : Entry) → is_change entry.event ≡ false → changes (entries ++ entry ∷ []) ≡ changes entries
no_change_more entries entry none =
    filter-append (λ (e : Entry). is_change e.event) entries (entry ∷ [])
    ∙ ap (λ (b : Bool). changes entries ++ (if b then entry ∷ [] else [])) none
    ∙ append-nil (changes entries)

pub change_more : (entries : List Entry) (entry : Entry) → is_change entry.event ≡ true → changes (entries ++ entry ∷ []) ≡ changes entries ++ entry ∷ []
change_more entries entry is =
    filter-append (λ (e : Entry). is_change e.event) entries (entry ∷ [])
    ∙ ap (λ (b : Bool). changes entries ++ (if b then entry ∷ [] else [])) is

-- the first changes stay the first
pub after_more : (start : Table) (entries more : List Entry) (n : ℕ) → n ≤ length (changes entries) → After start (entries ++ more) n ≡ After start entries n
after_more start entries more n few =
    ap (λ (es : List Entry). closed (after_entries start (take n es))) (filter-append (λ (e : Entry). is_change e.event) entries more)
    ∙ ap (λ (es : List Entry). closed (after_entries start es)) (take-append-le n (changes entries) (changes more) few)

-- ---- what is acknowledged

max_assoc_is : (a b d : ℕ) → max a (max b d) ≡ max (max a b) d
max_assoc_is a b d = omega arith

pub most_covered_more : (entries : List Entry) (entry : Entry) → most_covered (entries ++ entry ∷ []) ≡ max (most_covered entries) (covered entry.event)
most_covered_more [] entry = omega arith
most_covered_more (one ∷ entries) entry =
    ap (λ (n : ℕ). max (covered one.event) n) (most_covered_more entries entry) ∙ max_assoc_is (covered one.event) (most_covered entries) (covered entry.event)

pub frees_cover_none : (actor : ℕ) (keys : List Key) → most_covered (frees_of actor keys) ≡ 0
frees_cover_none actor [] = refl
frees_cover_none actor (key ∷ keys) = omega (arith, frees_cover_none actor keys)

-- ---- places

range_push : (n a : ℕ) → range_with_len a (suc n) ≡ range_with_len a n ++ (a + n) ∷ []
range_push zero a = let e : a ≡ a + 0 = omega arith in ap (λ (x : ℕ). x ∷ []) e
range_push (suc n) a =
    let e : a + 1 + n ≡ a + suc n = omega arith in
    ap (λ (l : List ℕ). a ∷ l) (range_push n (a + 1)) ∙ ap (λ (x : ℕ). a ∷ (range_with_len (a + 1) n ++ x ∷ [])) e

pub places_more : (entries : List Entry) (entry : Entry) → range_with_len 0 (length (entries ++ entry ∷ [])) ≡ range_with_len 0 (length entries) ++ length entries ∷ []
places_more entries entry =
    let n : ℕ = length entries in
    let e : 0 + n ≡ n = omega arith in
    ap (range_with_len 0) (length-append entries (entry ∷ []) ∙ add-one n) ∙ range_push n 0 ∙ ap (λ (x : ℕ). range_with_len 0 n ++ x ∷ []) e
