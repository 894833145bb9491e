-- How the command `model` ends, by what it meets in turn.
use Rattle.std.proofs.Common.{◌≡◌, ◌⊎◌, inl, inr, ℕ, ◌+◌, ◌-◌, ◌<◌, ◌≤◌, Bool, true, false, List, [], length, drop, get_or, Option, None, Some, IfSome, Result, Ok, Err, if◌then◌else◌, sym, ◌∙◌, ap, subst}
use Rattle.std.proofs.lemmas.List.{drop_all}
use Rattle.tptp_base.specs.declared.read.TheConstants.{FILE_SIZE}
use Rattle.tptp_base.specs.Count.{Rose}
use Rattle.tptp_base.specs.Store.{Files, HasFile}
use Rattle.tptp_base.specs.declared.item.Item.{Item}
use Rattle.tptp_base.specs.declared.place.Place.{Place}
use Rattle.tptp_lexer.specs.declared.style.Style.{Style}
use Rattle.tptp_lexer.specs.declared.token.Token.{Token}
use Rattle.tptp_lexer.specs.declared.token.Tokens.{Tokens}
use Rattle.tptp_grammar.specs.declared.fault.GrammarFault.{GrammarFault}
use Rattle.tptp_grammar.specs.Answers.{Answers}
use Rattle.tptp_grammar.specs.Texts.{IsParsed}
use Rattle.fof_terms.specs.Vocabulary.{Vocabulary}
use Rattle.sort_check.specs.declared.line.GivenEntry.{GivenEntry}
use Rattle.sort_check.specs.Given.{given_entries}
use Rattle.tptp_lexer.specs.Words.{as_words}
use Rattle.fi_model.specs.Interpretations.{Interpretation, is_true}
use Rattle.fi_model.proofs.Loops.{at_member}
use Rattle.read_problems.specs.Denoted.{IsProblemRefusal}
use Rattle.read_problems.specs.Ending.{Ending, AfterFile, IsReadRefusal}
use Rattle.tptp_commands.specs.Modelled.{IsModelLexed, IsModelRefusal, SpellsModel, worded, first_false, SaysModel, EndsModel}
use Rattle.read_problems.specs.OtherFaults.{SaysProblemFault}
use Rattle.tptp_commands.specs.OtherFaults.{SaysModelFileFault, SaysModelledFault}
use Rattle.read_problems.specs.Spelled.{SaysGrammarFault}
use Rattle.read_problems.specs.Answer.{ending_of}
use Rattle.read_problems.specs.Posed.{IsPosed}
use Rattle.read_problems.specs.Stop.{IfAnswer}
use Rattle.read_problems.specs.declared.posed.Posed.{Posed}
use Rattle.read_problems.specs.declared.refusals.TheConstants.{TOTAL_SIZE}
use Rattle.read_problems.specs.declared.stop.Answer.{Answer}
use Rattle.read_problems.specs.declared.stop.Halt.{Halt}
use Rattle.read_problems.specs.declared.stop.Halt.TheVariants.{Refused, Stopped}
use Rattle.read_problems.proofs.Absences.{rose_since}
use Rattle.read_problems.proofs.Stages.{after_read, after_refused, if_told}

-- ---- the text of a model

-- tokens with words in place of distinct objects are parsed as those are
parsed_as : (tokens words : Tokens) (answer : Result (List Item) GrammarFault) → words.items ≡ as_words tokens.items → words.end ≡ tokens.end → words.style ≡ tokens.style → IsParsed words answer → IsParsed (worded tokens) answer
parsed_as tokens words answer is end style parsed =
    subst (λ (s : Style). Answers s (as_words tokens.items) tokens.end answer) style
    (subst (λ (at : Place). Answers words.style (as_words tokens.items) at answer) end (subst (λ (items : List (Token × Place)). Answers words.style items words.end answer) is parsed))

pub spells_model : (text : List ℕ) (tokens words : Tokens) (items : List Item) → IsModelLexed text (Ok tokens) → words.items ≡ as_words tokens.items → words.end ≡ tokens.end → words.style ≡ tokens.style → IsParsed words (Ok items) → SpellsModel text items
spells_model text tokens words items lexed is end style parsed = record { tokens = tokens; lexed = lexed; parsed = parsed_as tokens words (Ok items) is end style parsed }

pub model_refused : (name text : List ℕ) (tokens words : Tokens) (fault : GrammarFault) (ending : Ending) → IsModelLexed text (Ok tokens) → words.items ≡ as_words tokens.items → words.end ≡ tokens.end → words.style ≡ tokens.style → IsParsed words (Err fault) → SaysGrammarFault name fault ending
    → IsModelRefusal name text ending
model_refused name text tokens words fault ending lexed is end style parsed says = inr (tokens, fault, lexed, parsed_as tokens words (Err fault) is end style parsed, says)

-- ---- the first that is false

module _ (m : Interpretation) (given : List GivenEntry) (i : ℕ) (before : first_false m given ≡ first_false m (drop i given)) where
  pub none_is_false : length given ≤ i → None ≡ first_false m given
  none_is_false le = sym (before ∙ ap (first_false m) (drop_all i given le))

  module _ (entry : GivenEntry) (lt : i < length given) (is : entry ≡ get_or given i entry) where
    -- with the member at a place in front
    turning : first_false m given ≡ (if is_true m [] entry.form then first_false m (drop (i + 1) given) else Some entry)
    turning = before ∙ ap (first_false m) (at_member given i entry lt is)

    pub this_is_false : is_true m [] entry.form ≡ false → Some entry ≡ first_false m given
    this_is_false e = sym (turning ∙ ap (λ (b : Bool). if b then first_false m (drop (i + 1) given) else Some entry) e)

    pub this_is_true : is_true m [] entry.form ≡ true → first_false m given ≡ first_false m (drop (i + 1) given)
    this_is_true e = turning ∙ ap (λ (b : Bool). if b then first_false m (drop (i + 1) given) else Some entry) e

-- ---- how the command ends

module _ (told : Option Files) (file : List ℕ) (v : Vocabulary) (entries : List GivenEntry) (budget : ℕ) (ending : Ending) where
  abbrev AfterModel : Type 0
  AfterModel = IfSome told (λ files. AfterFile files file budget (SaysModel file v entries) ending)

  pub model_unread : IfSome told (λ files. IsReadRefusal files file budget ending) → AfterModel
  model_unread refused = after_refused told file budget (λ files. SaysModel file v entries) ending refused

  pub model_said : (text : List ℕ) → HasFile told file (λ bytes. bytes ≡ text) → length text ≤ budget → length text ≤ FILE_SIZE → SaysModel file v entries text ending → AfterModel
  model_said text has in_budget in_limit said = after_read told file budget text (λ files. SaysModel file v entries) ending has in_budget in_limit (if_told told said)

pub file_said : (told : Option Files) (file : List ℕ) (v : Vocabulary) (entries : List GivenEntry) (budget : ℕ) (text : List ℕ) (r : Result Answer Halt) → HasFile told file (λ bytes. bytes ≡ text) → length text ≤ budget → length text ≤ FILE_SIZE
    → IfAnswer r (λ answer. SaysModel file v entries text (ending_of answer)) → IfAnswer r (λ answer. AfterModel told file v entries budget (ending_of answer))
file_said told file v entries budget text (Ok answer) has in_budget in_limit said = model_said told file v entries budget (ending_of answer) text has in_budget in_limit said
file_said told file v entries budget text (Err (Refused answer)) has in_budget in_limit said = model_said told file v entries budget (ending_of answer) text has in_budget in_limit said
file_said told file v entries budget text (Err (Stopped stop)) has in_budget in_limit said = tt

module _ (root : Option (List ℕ)) (problem file : List ℕ) where
  abbrev Ends : Option Files → Ending → Type 0
  Ends told ending = IfSome told (λ files. EndsModel files root problem file ending)

  pub model_ends_refused : (ending : Ending) (told : Option Files) → IsProblemRefusal told root problem ending → Ends told ending
  model_ends_refused ending None refused = tt
  model_ends_refused ending (Some files) (inl refused) = inl refused
  model_ends_refused ending (Some files) (inr (whole, resolves, refused)) = inr (whole, resolves, inl refused)

  posed_then : (ending : Ending) (told : Option Files) (posed : Posed) → IsPosed told root problem posed → AfterModel told file posed.signature posed.given (TOTAL_SIZE - posed.read) ending → Ends told ending
  posed_then ending None posed is after = tt
  posed_then ending (Some files) posed is after =
      let of_given : List GivenEntry → Type 0 = λ entries. AfterFile files file (TOTAL_SIZE - posed.read) (SaysModel file posed.signature entries) ending in
      let of_read : ℕ → Type 0 = λ n. AfterFile files file (TOTAL_SIZE - n) (SaysModel file posed.signature (given_entries is.lines)) ending in
      inr (is.whole, is.resolves, inr (is.lines, posed.signature, is.denotes, subst of_read is.read (subst of_given is.gives after)))

  answer_ends : (told : Option Files) (posed : Posed) (r : Result Answer Halt) → IsPosed told root problem posed → IfAnswer r (λ answer. AfterModel told file posed.signature posed.given (TOTAL_SIZE - posed.read) (ending_of answer)) → IfAnswer r (λ answer. Ends told (ending_of answer))
  answer_ends told posed (Ok answer) is after = posed_then (ending_of answer) told posed is after
  answer_ends told posed (Err (Refused answer)) is after = posed_then (ending_of answer) told posed is after
  answer_ends told posed (Err (Stopped stop)) is after = tt

  pub model_ends : (told later : Option Files) (posed : Posed) (r : Result Answer Halt) → IsPosed told root problem posed → later ≡ told → IfAnswer r (λ answer. AfterModel later file posed.signature posed.given (TOTAL_SIZE - posed.read) (ending_of answer))
      → IfAnswer r (λ answer. Ends told (ending_of answer))
  model_ends told later posed r is same after =
      answer_ends told posed r is (subst (λ (files : Option Files). IfAnswer r (λ answer. AfterModel files file posed.signature posed.given (TOTAL_SIZE - posed.read) (ending_of answer))) same after)

  -- what is said of the model's text, where the problem resolves
  pub modelled_said : (told later : Option Files) (posed : Posed) (ending : Ending) (a b c : ℕ) → a ≤ b → IsPosed told root problem posed → later ≡ told → Rose b c ⊎ SaysModelFileFault later file ending
      → Rose a c ⊎ (SaysProblemFault told root problem ending ⊎ SaysModelledFault told root problem file ending)
  modelled_said told later posed ending a b c le is same (inl rose) = inl (rose_since a b c le rose)
  modelled_said told later posed ending a b c le is same (inr said) = inr (inr (is.whole, is.resolves, subst (λ (files : Option Files). SaysModelFileFault files file ending) same said))
