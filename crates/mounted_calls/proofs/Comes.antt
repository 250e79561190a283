-- What a call comes to, by what its group answers.
use Rattle.std.proofs.Common.{◌≡◌, true, false, None, Some, sym, subst}
use Rattle.life_table.specs.declared.key.Key.{Key}
use Rattle.life_table.specs.declared.types.Call.{Call}
use Rattle.life_table.specs.declared.types.Reply.{Reply}
use Rattle.life_table.specs.declared.types.Reply.TheVariants as reply
use Rattle.life_table.specs.declared.types.Event.TheVariants.{Called}
use Rattle.life_table.specs.declared.table.Table.{Table}
use Rattle.life_table.specs.History.{is_change}
use Rattle.life_table.specs.Replies.{reply_of}
use Rattle.sound_image.specs.Encoding.{Layouts}
use Rattle.group_ops.specs.Calls.{Makes}
use Rattle.group_ops.specs.Creating.{Creates}
use Rattle.group_ops.specs.Staging.{ChangeValue}
use Rattle.group_ops.specs.Values.{StateValue}
use Rattle.mounted_calls.specs.Decisions.{CallComesTo, Decides}

pub made_so : (s : StateValue) (t : Table) (layouts : Layouts) (key : Key) (made : Call) (change : ChangeValue) → is_change (Called made reply.Done) ≡ true → Makes s change t layouts key made
    → Decides s t layouts made (record { reply = reply.Done; noted = reply.Done; change = Some change })
made_so s t layouts key made change changes makes = record {
  reply = sym makes.replies;
  again = sym makes.replies;
  comes = subst (λ (answer : Reply). CallComesTo s t layouts made answer (Some change)) (sym makes.replies) (changes, (_, makes.tells));
}

pub created_so : (s : StateValue) (t : Table) (layouts : Layouts) (key : Key) (made : Call) (change : ChangeValue) → is_change (Called made (reply.Made key)) ≡ true → Creates s change t layouts key made
    → Decides s t layouts made (record { reply = reply.Made key; noted = reply.Made key; change = Some change })
created_so s t layouts key made change changes creates = record {
  reply = sym creates.replies;
  again = sym creates.replies;
  comes = subst (λ (answer : Reply). CallComesTo s t layouts made answer (Some change)) (sym creates.replies) (changes, (_, creates.tells));
}

pub refused_so : (s : StateValue) (t : Table) (layouts : Layouts) (made : Call) (answer : Reply) → is_change (Called made answer) ≡ false → reply_of t made ≡ answer
    → Decides s t layouts made (record { reply = answer; noted = answer; change = None })
refused_so s t layouts made answer none is = record {
  reply = sym is;
  again = sym is;
  comes = subst (λ (a : Reply). CallComesTo s t layouts made a None) (sym is) none;
}
