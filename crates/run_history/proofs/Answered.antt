-- What a line's answer says of the run.
use Rattle.std.proofs.Common.{◌≡◌, ℕ, List, Option, None, Some, length, refl, ap, sym, ◌∙◌}
use Rattle.std.proofs.lemmas.List.{length-map}
use Rattle.life_limits.specs.declared.TheConstants.{MAX_ACTORS}
use Rattle.life_table.specs.declared.types.Event.TheVariants.{Freed}
use Rattle.life_table.specs.declared.key.Key.{Key}
use Rattle.life_table.specs.declared.table.Table.{Table}
use Rattle.life_table.specs.History.{frees_of}
use Rattle.script.specs.declared.types.Command.TheVariants as command
use Rattle.script.specs.declared.answers.LineReply.{LineReply}
use Rattle.script.specs.declared.answers.LineReply.TheVariants as line
use Rattle.script.specs.declared.answers.Said.{Said}
use Rattle.run_history.specs.States.{RunState, UpMount, disarmed, least_actor, table_now}
use Rattle.run_history.specs.Answers.{AnswersLine, AnswersUnmount, all_awaiting, holds_in, line_said, stopped_now, with_frees}
use Rattle.run_history.proofs.Walks.{by_option}

says_other : (a b : LineReply) → (line_said a ≡ line_said b) → a ≡ b
says_other a b e = cc

-- ---- a stop

stops_now : (o : Option UpMount) (s next : RunState) → s.up ≡ o → next ≡ stopped_now o (disarmed s) → next.up ≡ None
stops_now None s next e is = ap (λ (r : RunState). r.up) is ∙ e
stops_now (Some up) s next e is = ap (λ (r : RunState). r.up) is

pub stop : (first : Table) (s : RunState) (said : Said) (next : RunState) → AnswersLine first s command.Stop said next → (said ≡ line_said line.Stopped) × (next.up ≡ None)
stop first s said next a = (a.0, stops_now s.up s next refl a.1)

-- ---- an unmount answered ok

no_such : (actor : ℕ) → line_said line.Unmounted ≡ line_said (line.Mid actor) → ⊥
no_such actor e = cc

not_so : line_said line.Unmounted ≡ line_said line.NotMounted → ⊥
not_so e = cc

abbrev ReleasedAll : UpMount → RunState → Type 0
ReleasedAll up next = (holds_in (table_now (with_frees (all_awaiting (table_now up)) up)) ≡ 0) × (next.up ≡ None)

released : (s : RunState) (up : UpMount) (next : RunState) → AnswersUnmount s up (line_said line.Unmounted) next → ReleasedAll up next
released s up next a = by_option (least_actor up.going) _ _ (ReleasedAll up next)
    (λ none b. (b.0, ap (λ (r : RunState). r.up) b.1)) (λ actor is b. absurd (no_such actor b.0)) a

pub unmounted_released : (first : Table) (s : RunState) (next : RunState) → AnswersLine first s command.Unmount (line_said line.Unmounted) next
    → (up : UpMount) × (s.up ≡ Some up) × (holds_in (table_now (with_frees (all_awaiting (table_now up)) up)) ≡ 0) × (next.up ≡ None)
unmounted_released first s next a = by_option s.up _ _ ((up : UpMount) × (s.up ≡ Some up) × (holds_in (table_now (with_frees (all_awaiting (table_now up)) up)) ≡ 0) × (next.up ≡ None))
    (λ none b. absurd (not_so b.0)) (λ up is b. let r = released s up next b in (up, is, r.0, r.1)) a

-- ---- a mount answered ok

abbrev CameUp : ℕ → ℕ → RunState → RunState → Type 0
CameUp kept freed s next =
    (s.up ≡ None) × ((up : UpMount) × (next.up ≡ Some up) × (up.story.kept ≡ kept) × (up.story.freed ≡ freed) × (length up.story.entries ≡ freed))

already : (kept freed : ℕ) → line_said (line.Mounted kept freed) ≡ line_said line.AlreadyMounted → ⊥
already kept freed e = cc

frees_length : (keys : List Key) → length (frees_of MAX_ACTORS keys) ≡ length keys
frees_length keys = length-map keys (λ (key : Key). record { actor = MAX_ACTORS; event = Freed key })

pub mounted : (first : Table) (s next : RunState) (kept freed : ℕ) → AnswersLine first s command.Mount (line_said (line.Mounted kept freed)) next → CameUp kept freed s next
mounted first s next kept freed a = by_option s.up _ _ (CameUp kept freed s next)
    (λ none (story, fresh, k, f, ack, e). (
      none,
      (
        _,
        ap (λ (r : RunState). r.up) e,
        k,
        f,
        ap length fresh.entries ∙ (frees_length fresh.keys ∙ (sym fresh.freed ∙ f)),
      ),
    ))
    (λ up is b. absurd (already kept freed b.0)) a
