-- A file that has a model of what a problem gives is said to have one.
use Rattle.std.proofs.Common.{◌≡◌, inl, inr, ℕ, Bool, ◌<◌, List, [], ◌∷◌, length, Option, None, Some, Result, Ok, Err, if◌then◌else◌, refl, sym, ◌∙◌, ap, subst, arith}
use Rattle.std.specs.List.{AllByRecursion}
use Rattle.tptp_base.specs.Store.{Files}
use Rattle.tptp_base.specs.declared.item.Item.{Item}
use Rattle.tptp_lexer.specs.declared.style.Style.TheVariants.{Derivation}
use Rattle.tptp_lexer.specs.declared.token.Tokens.{Tokens}
use Rattle.tptp_lexer.proofs.Answering as lexing
use Rattle.tptp_grammar.specs.declared.fault.GrammarFault.{GrammarFault}
use Rattle.tptp_grammar.specs.Texts.{IsParsed}
use Rattle.tptp_grammar.proofs.OneAnswer as parsing
use Rattle.fof_terms.specs.Vocabulary.{Vocabulary}
use Rattle.include_resolve.specs.declared.problem.Problem.{Problem}
use Rattle.sort_check.specs.declared.line.GivenEntry.{GivenEntry}
use Rattle.sort_check.specs.declared.line.Line.{Line}
use Rattle.sort_check.specs.declared.line.TextKind.TheVariants as kind
use Rattle.sort_check.specs.Given.{given_entries}
use Rattle.sort_check.specs.Texts.{denoted}
use Rattle.sort_check.proofs.LineSorts.{text_extends}
use Rattle.szs_report.specs.Region.{region_of}
use Rattle.fi_model.specs.declared.fault.ModelFault.{ModelFault}
use Rattle.fi_model.specs.Faults.{IsModelFault}
use Rattle.fi_model.specs.Interpretations.{Interpretation, True}
use Rattle.fi_model.specs.Models.{ModelOf}
use Rattle.fi_model.proofs.OneModel.{one_model, no_fault}
use Rattle.read_problems.specs.Denoted.{first_vocabulary}
use Rattle.read_problems.specs.Ending.{Ending}
use Rattle.tptp_commands.specs.Modelled.{IsModelLexed, IsModelRefusal, SpellsModel, worded, SaysModelFault, first_false, verdict, SaysItems, SaysModel, EndsModel}
use Rattle.tptp_commands.specs.Modelling.{IsModelled}
use Rattle.tptp_commands.specs.Refuted.{IsInBudget}
use Rattle.tptp_commands.proofs.OneFormat.{tokens_no_fault, same_tokens, items_no_fault, same_items}
use Rattle.read_problems.proofs.OneProblem.{no_include_fault, one_problem, no_sort_fault, same_meaning}
use Rattle.fi_model.specs.declared.fault.ModelFault.TheVariants as fault

module _ (name text : List ℕ) (ending : Ending) where
  here : (t u : Tokens) (x : Result (List Item) GrammarFault) → IsModelLexed text (Ok t) → IsModelLexed text (Ok u) → IsParsed (worded u) x → IsParsed (worded t) x
  here t u x h k p =
      let same : u ≡ t = same_tokens name text ending ending u t (lexing.one 0 text (region_of text) Derivation (Ok u) (Ok t) k h) in
      subst (λ (w : Tokens). IsParsed (worded w) x) same p

  not_refused : {R : Type 0} (items : List Item) → SpellsModel text items → IsModelRefusal name text ending → R
  not_refused items s (inl (f, h, says)) = tokens_no_fault name text ending ending s.tokens f ending says (lexing.one 0 text (region_of text) Derivation (Ok s.tokens) (Err f) s.lexed h)
  not_refused items s (inr (t, f, h, p, says)) =
      items_no_fault name text ending ending items f ending says (parsing.one (worded s.tokens).style (worded s.tokens).items (worded s.tokens).end (Ok items) (Err f) s.parsed (here s.tokens t (Err f) s.lexed h p))

  one_spelled : (items others : List Item) → SpellsModel text items → SpellsModel text others → items ≡ others
  one_spelled items others s r =
      same_items name text ending ending items others (parsing.one (worded s.tokens).style (worded s.tokens).items (worded s.tokens).end (Ok items) (Ok others) s.parsed (here s.tokens r.tokens (Ok others) s.lexed r.lexed r.parsed))

-- where all are true none is the first that is false
none_false : (m : Interpretation) (entries : List GivenEntry) → AllByRecursion (λ (entry : GivenEntry). True m entry.form) entries → first_false m entries ≡ None
none_false m [] all = refl
none_false m (entry ∷ entries) all = ap (λ (b : Bool). if b then first_false m entries else Some entry) all.0 ∙ none_false m entries all.1

no_said : (file : List ℕ) (f : ModelFault) (ending : Ending) → f ≡ fault.Memory → SaysModelFault file f ending → ⊥
no_said file f ending e says = subst (λ (g : ModelFault). SaysModelFault file g ending) e says

module _ (files : Files) (root : Option (List ℕ)) (problem file : List ℕ) (ending : Ending) (h : IsModelled files root problem file) where
  some_sorts : 0 < length h.v.sorts
  some_sorts = let grown = (text_extends h.whole.items first_vocabulary h.v kind.Problem (Ok h.lines) (omega arith) h.denotes).grows.more_sorts in omega (arith, grown)

  items_complete : (items : List Item) → items ≡ h.items → SaysItems file h.v (given_entries h.lines) items ending → ending.status ≡ 0
  items_complete items same (inl (f, is, says)) =
      absurd (no_said file f ending (no_fault h.items h.v some_sorts h.m h.model f (subst (λ (is_ : List Item). IsModelFault is_ h.v f) same is)) says)
  items_complete items same (inr (m, is, says)) =
      let one : m ≡ h.m = one_model h.items h.v m h.m (subst (λ (is_ : List Item). ModelOf is_ h.v m) same is) h.model in
      let none : first_false m (given_entries h.lines) ≡ None = subst (λ (n : Interpretation). first_false n (given_entries h.lines) ≡ None) (sym one) (none_false h.m (given_entries h.lines) h.all_true) in
      ap (λ (e : Ending). e.status) (says ∙ ap (verdict (length (given_entries h.lines))) none)

  text_complete : SaysModel file h.v (given_entries h.lines) h.text ending → ending.status ≡ 0
  text_complete (inl refused) = not_refused file h.text ending h.items h.spells refused
  text_complete (inr (items, spells, says)) = items_complete items (one_spelled file h.text ending items h.items spells h.spells) says

  pub model_complete : EndsModel files root problem file ending → ending.status ≡ 0
  model_complete (inl (f, resolves, says)) = absurd (no_include_fault files root problem f h.whole resolves h.resolves)
  model_complete (inr (whole, resolves, inl (f, denotes, says))) =
      let same : whole ≡ h.whole = one_problem files root problem whole h.whole resolves h.resolves in
      absurd (no_sort_fault h.whole.items f h.lines h.v (subst (λ (p : Problem). denoted p.items first_vocabulary kind.Problem ≡ Err f) same denotes) h.denotes)
  model_complete (inr (whole, resolves, inr (lines, v, denotes, after))) =
      let same : whole ≡ h.whole = one_problem files root problem whole h.whole resolves h.resolves in
      let denotes' : denoted h.whole.items first_vocabulary kind.Problem ≡ Ok (lines, v) = subst (λ (p : Problem). denoted p.items first_vocabulary kind.Problem ≡ Ok (lines, v)) same denotes in
      let meant = same_meaning lines h.lines v h.v (sym denotes' ∙ h.denotes) in
      let fits = subst (λ (p : Problem). IsInBudget p.read (length h.text)) (sym same) h.fits in
      text_complete (subst (λ (w : Vocabulary). SaysModel file w (given_entries h.lines) h.text ending) meant.1 (subst (λ (ls : List Line). SaysModel file v (given_entries ls) h.text ending) meant.0 (after.read h.text h.there fits)))
