-- When `model` ends with status 0.
use Rattle.std.proofs.Common.{◌≡◌, ◌↔◌, inl, inr, ℕ, Bool, true, false, List, [], ◌∷◌, length, Option, None, Some, if◌then◌else◌, refl}
use Rattle.std.specs.List.{AllByRecursion}
use Rattle.tptp_base.specs.Store.{Files, file_at}
use Rattle.tptp_base.specs.declared.item.Item.{Item}
use Rattle.fof_terms.specs.Vocabulary.{Vocabulary}
use Rattle.sort_check.specs.declared.line.GivenEntry.{GivenEntry}
use Rattle.sort_check.specs.Given.{given_entries}
use Rattle.fi_model.specs.declared.fault.ModelFault.{ModelFault}
use Rattle.fi_model.specs.Interpretations.{Interpretation, is_true, True}
use Rattle.fi_model.specs.Models.{ModelOf}
use Rattle.read_problems.specs.Ending.{Ending}
use Rattle.tptp_commands.specs.Modelled.{IsModelRefusal, SpellsModel, SaysModelFault, first_false, verdict, SaysItems, SaysModel, EndsModel}
use Rattle.tptp_commands.specs.Modelling.{IsModelled}
use Rattle.tptp_commands.specs.Refuted.{IsInBudget}
use Rattle.read_problems.proofs.NoRefusal.{no_refusal, no_lex, no_grammar, no_include, no_sort}
use Rattle.tptp_commands.proofs.Modellings.{model_complete}
use Rattle.fi_model.specs.declared.fault.ModelFault.TheVariants as fault

-- ---- what is said of a text

no_model_fault : {T : Type 0} (file : List ℕ) (f : ModelFault) (ending : Ending) → ending.status ≡ 0 → SaysModelFault file f ending → T
no_model_fault file (fault.Shape place) ending zero says = no_refusal ending 0 _ zero says
no_model_fault file (fault.Domain name) ending zero says = no_refusal ending 0 _ zero says
no_model_fault file (fault.Element place name) ending zero says = no_refusal ending 0 _ zero says
no_model_fault file (fault.Double place name) ending zero says = no_refusal ending 0 _ zero says
no_model_fault file (fault.Missing name) ending zero says = no_refusal ending 0 _ zero says
no_model_fault file fault.Memory ending zero says = absurd says

no_model_refusal : {T : Type 0} (file text : List ℕ) (ending : Ending) → ending.status ≡ 0 → IsModelRefusal file text ending → T
no_model_refusal file text ending zero (inl (f, lexed, says)) = no_lex file f ending zero says
no_model_refusal file text ending zero (inr (tokens, f, lexed, parsed, says)) = no_grammar file f ending zero says

-- where none is the first that is false all are true
none_false : (m : Interpretation) (entries : List GivenEntry) → first_false m entries ≡ None → AllByRecursion (λ (entry : GivenEntry). True m entry.form) entries
none_false m [] e = tt
none_false m (entry ∷ entries) e = by (is_true m [] entry.form) refl e (λ rest. none_false m entries rest)
  where
    by : (b : Bool) → is_true m [] entry.form ≡ b → (if b then first_false m entries else Some entry) ≡ None → (first_false m entries ≡ None → AllByRecursion (λ (other : GivenEntry). True m other.form) entries)
        → AllByRecursion (λ (other : GivenEntry). True m other.form) (entry ∷ entries)
    by true t rest others = (t, others rest)
    by false t wrong others = absurd cc

said_true : (m : Interpretation) (count : ℕ) (found : Option GivenEntry) (ending : Ending) → ending.status ≡ 0 → ending ≡ verdict count found → found ≡ None
said_true m count None ending zero says = refl
said_true m count (Some entry) ending zero says = no_refusal ending 0 _ zero says

-- ---- how the command ends

module _ (files : Files) (root : Option (List ℕ)) (problem file : List ℕ) (ending : Ending) where
  -- the interpretation in which all is true
  abbrev Truth : Vocabulary → List GivenEntry → List Item → Type 0
  Truth v entries items = (m : Interpretation) × ModelOf items v m × AllByRecursion (λ (entry : GivenEntry). True m entry.form) entries

  items_true : (v : Vocabulary) (entries : List GivenEntry) (items : List Item) → ending.status ≡ 0 → SaysItems file v entries items ending → Truth v entries items
  items_true v entries items zero (inl (f, is, says)) = no_model_fault file f ending zero says
  items_true v entries items zero (inr (m, is, says)) = (m, is, none_false m entries (said_true m (length entries) (first_false m entries) ending zero says))

  text_true : (v : Vocabulary) (entries : List GivenEntry) (text : List ℕ) → ending.status ≡ 0 → SaysModel file v entries text ending → (items : List Item) × SpellsModel text items × Truth v entries items
  text_true v entries text zero (inl refused) = no_model_refusal file text ending zero refused
  text_true v entries text zero (inr (items, spells, says)) = (items, spells, items_true v entries items zero says)

  model_true : EndsModel files root problem file ending → ending.status ≡ 0 → IsModelled files root problem file
  model_true (inl (f, resolves, says)) zero = no_include f ending zero says
  model_true (inr (whole, resolves, inl (f, denotes, says))) zero = no_sort whole.files f ending zero says
  model_true (inr (whole, resolves, inr (lines, v, denotes, after))) zero = found (file_at files file) refl
    where
      found : (found : Option (List ℕ)) → file_at files file ≡ found → IsModelled files root problem file
      found None is = no_refusal ending 2 _ zero (after.missing is)
      found (Some text) is =
          let fits : IsInBudget whole.read (length text) = λ limit over. no_refusal ending 6 _ zero (after.limit limit text is over) in
          let said = text_true v (given_entries lines) text zero (after.read text is fits) in
          record {
            whole = whole;
            resolves = resolves;
            lines = lines;
            v = v;
            denotes = denotes;
            text = text;
            there = is;
            fits = fits;
            items = said.0;
            spells = said.1;
            m = said.2.0;
            model = said.2.1;
            all_true = said.2.2;
          }

  pub model_exact : EndsModel files root problem file ending → (ending.status ≡ 0) ↔ IsModelled files root problem file
  model_exact ends = (model_true ends, λ h. model_complete files root problem file ending h ends)
