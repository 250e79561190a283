-- Histories that grow.
use Rattle.std.proofs.Common.{◌≡◌, List, [], ◌∷◌, ◌++◌, refl, sym, subst, ℕ}
use Rattle.std.specs.List.{AllByRecursion}
use Rattle.life_table.specs.declared.types.Entry.{Entry}
use Rattle.life_table.specs.declared.table.Table.{Table}
use Rattle.group_core.specs.GroupHistory.{HappensUnheld, LeadsUnheld, IsInGroup, LegalGroupHistory}

leads_more : (first last u : Table) (entries : List Entry) (entry : Entry) → LeadsUnheld first entries last → HappensUnheld last entry.event u → LeadsUnheld first (entries ++ entry ∷ []) u
leads_more first last u [] entry leads happens = (u, subst (λ (t : Table). HappensUnheld t entry.event u) leads happens, refl)
leads_more first last u (one ∷ entries) entry leads happens = (leads.0, leads.1, leads_more leads.0 last u entries entry leads.2 happens)

own_more : (P : Entry → Type 0) (entries : List Entry) (entry : Entry) → AllByRecursion P entries → P entry → AllByRecursion P (entries ++ entry ∷ [])
own_more P [] entry all one = (one, tt)
own_more P (other ∷ entries) entry all one = (all.0, own_more P entries entry all.1 one)

-- one more entry
pub history_more : (g : ℕ) (first last u : Table) (entries : List Entry) (entry : Entry) → LegalGroupHistory g first entries last
    → HappensUnheld last entry.event u → IsInGroup g entry.event → LegalGroupHistory g first (entries ++ entry ∷ []) u
history_more g first last u entries entry legal happens own = record {
  leads = leads_more first last u entries entry legal.leads happens;
  own = own_more (λ (one : Entry). IsInGroup g one.event) entries entry legal.own own;
}

-- the same, where group, table and history are named otherwise afterwards
pub history_after : (g h : ℕ) (first last u v : Table) (old new : List Entry) (entry : Entry) → h ≡ g → v ≡ u → new ≡ old ++ entry ∷ []
    → HappensUnheld last entry.event u → IsInGroup g entry.event → LegalGroupHistory g first old last → LegalGroupHistory h first new v
history_after g h first last u v old new entry same_group same_table items happens own legal =
    subst (λ (k : ℕ). LegalGroupHistory k first new v) (sym same_group)
    (subst (λ (t : Table). LegalGroupHistory g first new t) (sym same_table)
    (subst (λ (es : List Entry). LegalGroupHistory g first es u) (sym items) (history_more g first last u old entry legal happens own)))
