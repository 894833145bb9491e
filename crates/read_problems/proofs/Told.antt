-- What is told of items that were taken one behind the other.
use Rattle.std.proofs.Common.{◌≡◌, inl, inr, ℕ, ◌∷◌, [], Bool, List, length, count_by, Option, Result, Ok, Err, IfOk, IfSome, refl, ◌∙◌, subst}
use Rattle.tptp_base.specs.declared.item.Item.{Item}
use Rattle.tptp_grammar.specs.Texts.{IsParsed}
use Rattle.tptp_lexer.specs.declared.token.Tokens.{Tokens}
use Rattle.tstp_graph.specs.Lines.{is_formula}
use Rattle.sort_check.specs.declared.fault.SortFault.{SortFault}
use Rattle.sort_check.specs.declared.progress.Denoted.{Denoted}
use Rattle.sort_check.specs.Turns.{AreDenoted, HaveNoInclude}
use Rattle.read_problems.specs.Answer.{ending_of}
use Rattle.read_problems.specs.code.Turns.{IsOfItems, IsOfText, IsSortRefusal, IsRefusalOfText}
use Rattle.read_problems.specs.declared.denotations.Denotation.{Denotation}
use Rattle.read_problems.specs.Denoted.{SaysSortFault}
use Rattle.read_problems.specs.declared.stop.Answer.{Answer}
use Rattle.read_problems.specs.declared.stop.Halt.{Halt}
use Rattle.read_problems.specs.Spelled.{IsLexed}
use Rattle.read_problems.specs.Stop.{IfRefused}
use Rattle.read_problems.proofs.Answered.{found_so, refused_so}

abbrev pub Found : Type 0
Found = Result Denoted SortFault

abbrev pub Told : Type 0
Told = Result (Option Denotation) Halt

-- it is told of all items that are denoted so
abbrev pub Tells : Found → ℕ → ℕ → Denotation → Type 0
Tells found formulas size d =
    (items : List Item) (keeps : Bool) → AreDenoted (record { items = items; keeps = keeps }) found → formulas ≡ count_by is_formula items → IsOfItems items keeps size d

abbrev pub Refuses : Found → List (List ℕ) → Answer → Type 0
Refuses found files answer = (items : List Item) (keeps : Bool) → AreDenoted (record { items = items; keeps = keeps }) found → IsSortRefusal files items (ending_of answer)

-- what is found is told
pub told_so : (found : Found) (denoted : Denoted) (formulas size : ℕ) → found ≡ Ok denoted → Tells found formulas size (record { lines = denoted.lines; signature = denoted.signature; formulas = formulas; read = size })
told_so found denoted formulas size same items keeps is counted =
    let (lines, denotes, kept_lines) = subst (λ (f : Found). AreDenoted (record { items = items; keeps = keeps }) f) same is in
    record { lines = lines; denotes = denotes; kept_lines = kept_lines; formulas = counted; read = refl }

pub refuses_so : (found : Found) (fault : SortFault) (files : List (List ℕ)) (answer : Answer) → found ≡ Err fault → SaysSortFault files fault (ending_of answer) → Refuses found files answer
refuses_so found fault files answer same says items keeps is = (fault, subst (λ (f : Found). AreDenoted (record { items = items; keeps = keeps }) f) same is, says)

module _ (found : Found) (items : List Item) (keeps : Bool) (formulas : ℕ) (is : AreDenoted (record { items = items; keeps = keeps }) found) where
  pub items_told : (size : ℕ) (r : Told) → formulas ≡ count_by is_formula items → IfOk r (λ told. IfSome told (λ d. Tells found formulas size d)) → IfOk r (λ told. IfSome told (λ d. IsOfItems items keeps size d))
  items_told size r counted tells = found_so Denotation r (λ d. Tells found formulas size d) (λ d. IsOfItems items keeps size d) (λ d so. so items keeps is counted) tells

  pub items_refused : (files : List (List ℕ)) (r : Told) → IfRefused r (λ answer. Refuses found files answer) → IfRefused r (λ answer. IsSortRefusal files items (ending_of answer))
  items_refused files r refuses = refused_so (Option Denotation) r (λ answer. Refuses found files answer) (λ answer. IsSortRefusal files items (ending_of answer)) (λ answer so. so items keeps is) refuses

  -- ---- of a text

  module _ (text : List ℕ) (tokens : Tokens) (lexed : IsLexed text (Ok tokens)) (parsed : IsParsed tokens (Ok items)) (whole : HaveNoInclude items) where
    pub text_told : (r : Told) → formulas ≡ count_by is_formula items → IfOk r (λ told. IfSome told (λ d. Tells found formulas (length text) d)) → IfOk r (λ told. IfSome told (λ d. IsOfText text keeps d))
    text_told r counted tells = found_so Denotation r (λ d. Tells found formulas (length text) d) (λ d. IsOfText text keeps d)
        (λ d so. record { items = items; spells = record { tokens = tokens; lexed = lexed; parsed = parsed }; whole = whole; is = so items keeps is counted })
        tells

    pub text_refused : (file : List ℕ) (r : Told) → IfRefused r (λ answer. Refuses found (file ∷ []) answer) → IfRefused r (λ answer. IsRefusalOfText file text (ending_of answer))
    text_refused file r refuses = refused_so (Option Denotation) r (λ answer. Refuses found (file ∷ []) answer) (λ answer. IsRefusalOfText file text (ending_of answer))
        (λ answer so. inr (record { items = items; spells = record { tokens = tokens; lexed = lexed; parsed = parsed }; whole = whole; says = so items keeps is }))
        refuses
