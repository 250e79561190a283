-- What may happen to the group of the tests.
use Rattle.std.proofs.Common.{◌≡◌, ◌-◌, ◌%◌, ◌==◌, ◌<◌, ◌∷◌, ℕ, Bool, true, false, List, None, get_or, if◌then◌else◌, length, refl, ap, sym, ◌∙◌, subst, arith, inl, inr, get_or-set_other}
use Rattle.std.specs.Prelude.{IsSome, replicate, slice_get, slice_set}
use Rattle.std.proofs.lemmas.Bool.{cases_eq, eq-eqb, eqb-true, ne_eqb}
use Rattle.std.proofs.lemmas.List.{get_or-set_same}
use Rattle.life_table.specs.declared.types.Call.TheVariants as call
use Rattle.life_table.specs.declared.types.Reply.TheVariants as reply
use Rattle.life_table.specs.declared.types.Event.{Event}
use Rattle.life_table.specs.declared.types.Event.TheVariants.{Called}
use Rattle.life_table.specs.Table.{inode_of, inode_in, set_inode, start_of, with_inode}
use Rattle.group_core.specs.GroupHistory.{HappensUnheld}
use Rattle.group_core.specs.InCore.{Cached, HasNumber, but_at, once_brought}
use Rattle.tests_groups.specs.Sample.{by_mark, first_inode, marked, sample_table}

unlinked : HappensUnheld (sample_table 1) (Called (call.Unlink (record { number = 192; generation = 1 })) reply.Done) (sample_table 0)
unfolding inode_of inode_in set_inode with_inode
unlinked = (λ e. absurd (omega (arith, e)), refl)

-- the one link is taken away
pub unlink_happens : (links : ℕ) (event : Event) → links ≡ 1 → event ≡ Called (call.Unlink (record { number = 192; generation = 1 })) reply.Done
    → HappensUnheld (sample_table links) event (sample_table 0)
unlink_happens links event one is =
    subst (λ (n : ℕ). HappensUnheld (sample_table n) event (sample_table 0)) (sym one) (subst (λ (e : Event). HappensUnheld (sample_table 1) e (sample_table 0)) (sym is) unlinked)

-- ---- what is in core

-- the numbers of its chunk are low
low_by : (links agino : ℕ) (b : Bool) → (192 == start_of agino) ≡ b
    → IsSome (if b then slice_get (first_inode links ∷ replicate 63 (record { generation = 1; row = None })) (agino % 64) else None) → agino < 256
low_by links agino true e some = let start : 192 ≡ agino - agino % 64 = eqb-true 192 (start_of agino) e in omega (arith, start)
low_by links agino false e some = let clash : false ≡ true = some in cc

pub number_low : (links agino : ℕ) → HasNumber (sample_table links) 0 agino → agino < 256
unfolding inode_in
number_low links agino has = low_by links agino (192 == start_of agino) refl has

-- one of them
pub number_there : (links : ℕ) → HasNumber (sample_table links) 0 200
unfolding inode_in
number_there links = refl

-- one mark is set
pub set_mark : (marks : List Bool) (agino number : ℕ) (mark : Bool) → agino < length marks → marked (slice_set marks agino mark) number ≡ but_at (marked marks) agino (by_mark mark) number
set_mark marks agino number mark low = elim (cases_eq number agino) [
  | inl same ↦
      ap (λ (n : ℕ). marked (slice_set marks agino mark) n) same
      ∙ ap by_mark (get_or-set_same marks agino mark false low)
      ∙ sym (ap (λ (b : Bool). if b then by_mark mark else marked marks number) (eq-eqb number agino same))
  | inr apart ↦
      ap by_mark (get_or-set_other marks agino number mark false apart)
      ∙ sym (ap (λ (b : Bool). if b then by_mark mark else marked marks number) (ne_eqb number agino apart))
]

pub mark_in : (marks : List Bool) (agino number : ℕ) → agino < length marks → marked (slice_set marks agino true) number ≡ but_at (marked marks) agino (once_brought (marked marks agino)) number
mark_in marks agino number low =
    set_mark marks agino number true low
    ∙ ap (λ (c : Cached). but_at (marked marks) agino c number) (brought (get_or marks agino false))
  where
    brought : (b : Bool) → by_mark true ≡ once_brought (by_mark b)
    brought true = refl
    brought false = refl
