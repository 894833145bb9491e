-- What is found for the formulas that a problem gives, and what is answered.
use Rattle.std.specs.Prelude.{ℕ, ◌≡◌, ◌+◌, ◌≤◌, ◌++◌, ◌↔◌, Bool, true, false, List, [], length, Result, Ok, Err, IfOk, IfErr, OnOk, IsErrAnd, IsTrue, refl}
use Rattle.std.specs.List.{All as Each}
use Rattle.std.proofs.Common.{ap, sym, subst, ◌∙◌, arith, inl, inr}
use Rattle.std.proofs.lemmas.List.Elements.{recursion_from_All}
use Rattle.tptp_base.specs.declared.limit.LimitName.{LimitName}
use Rattle.tptp_base.specs.declared.limit.LimitName.TheVariants.{Symbols}
use Rattle.tptp_base.specs.declared.item.Item.{Item}
use Rattle.fof_terms.specs.Vocabulary.{IsDeclared, Vocabulary}
use Rattle.fof_terms.specs.declared.signature.Symbol.{Symbol}
use Rattle.fof_terms.specs.declared.form.Form.{Form}
use Rattle.clause_form.specs.Paths.{forms_of}
use Rattle.clause_form.specs.declared.clause.Clause.{Clause}
use Rattle.clause_form.specs.declared.path.Parent.{Parent}
use Rattle.clause_rules.specs.Steps.{IsReady}
use Rattle.kernel.specs.Statements.{Statements}
use Rattle.sort_check.specs.declared.line.GivenEntry.{GivenEntry}
use Rattle.saturation.specs.Ends.{IsRefuted}
use Rattle.saturation.specs.Members.{clauses_of}
use Rattle.saturation.specs.Origins.{AreMade, IsMade}
use Rattle.saturation.specs.declared.member.Member.{Member}
use Rattle.step_clauses.specs.Room.{AreBelow, HasRoom}
use Rattle.step_search.proofs.Growing.{with_symbols}
use Rattle.derivation_items.specs.Words.{Text}
use Rattle.derivation_items.specs.declared.line.ProofLine.{ProofLine}
use Rattle.given_parts.specs.Functions.{functions_from, used_existentials}
use Rattle.given_parts.specs.Parts.{parts_of as parts_of_given}
use Rattle.printed_clauses.specs.Prefixes.{IsPrefix, prefix_of}
use Rattle.refutation_lines.specs.Derivations.{IsDerivationOf}
use Rattle.refutation_lines.specs.Plans.{refutation, used_in}
use Rattle.refutation_lines.specs.declared.derivation.Derivation.{Derivation}
use Rattle.limited_items.specs.Limits.{AreWithin, IfLimit, IsOver}
use Rattle.limited_items.specs.Premises.{HaveSmallPremises}
use Rattle.limited_items.specs.declared.fault.ProveFault.{ProveFault}
use Rattle.limited_items.specs.declared.fault.ProveFault.TheVariants.{Limit, Memory}
use Rattle.problem_proofs.specs.Found.{IsFound, refutation_by, vocabulary_of}
use Rattle.problem_proofs.specs.Posed.{HasSymbols, clauses_of_given, falsehood, is_too_wide, parents_of, with_functions}
use Rattle.problem_proofs.specs.Proved.{IsProved, MayBeOver}
use Rattle.problem_proofs.specs.declared.proved.Proved.TheVariants.{Proof}
use Rattle.problem_proofs.proofs.FunctionFacts.{functions_declare, no_more_functions}
use Rattle.problem_proofs.proofs.PosedFacts.{counts_fit, falsehood_ready, parents_ready}

-- what a theory without formulas states
abbrev pub only : Vocabulary → Statements
only v = record { vocabulary = v; formulas = [] }

-- ---- a derivation

module _ (v : Vocabulary) (given : List GivenEntry) (members : List Member) (last : Member) (narrow : is_too_wide v given ≡ false) (made : AreMade (with_functions v given) (clauses_of_given v given) members)
    (last_made : IsMade (with_functions v given) (clauses_of_given v given) (clauses_of members) last) (first : ℕ) (inputs : List Clause) (is_first : first ≡ length v.symbols) (are : inputs ≡ clauses_of_given v given) (prefix slice : Text) (same : slice ≡ prefix)
    (free : (n : ℕ) × (prefix ≡ prefix_of n) × IsPrefix v n) where
  moved : (d : Derivation) → IsDerivationOf (refutation given first inputs members last) slice d → IsDerivationOf (refutation_by v given members last) (prefix_of free.0) d
  moved d is =
      subst (λ (t : Text). IsDerivationOf (refutation_by v given members last) t d) (same ∙ free.1)
      (subst (λ (k : ℕ). IsDerivationOf (refutation given k (clauses_of_given v given) members last) slice d) is_first (subst (λ (cs : List Clause). IsDerivationOf (refutation given first cs members last) slice d) are is))

  pub found : {E : Type 0} (result : Result Derivation E) → IfOk result (IsDerivationOf (refutation given first inputs members last) slice)
      → IfOk result (λ (d : Derivation). (limit : ℕ) → IsRefuted (with_functions v given) (clauses_of_given v given) limit (clauses_of members) last.clause → IsFound v given limit d)
  found (Ok d) is = λ limit refuted. record {
    members = members;
    last = last;
    narrow = narrow;
    refuted = refuted;
    made = made;
    last_made = last_made;
    underscores = free.0;
    free = free.2;
    derivation = moved d is;
  }
  found (Err fault) is = tt

  pub made_over : AreMade (with_functions v given) inputs members × IsMade (with_functions v given) inputs (clauses_of members) last
  made_over = subst (λ (cs : List Clause). AreMade (with_functions v given) cs members × IsMade (with_functions v given) cs (clauses_of members) last) (sym are) (made, last_made)

-- its functions
module _ (v : Vocabulary) (given : List GivenEntry) (limit : ℕ) (d : Derivation) (f : IsFound v given limit d) where
  functions_are : d.functions ≡ functions_from (prefix_of f.underscores) 1 (used_existentials (used_in (refutation_by v given f.members f.last) f.derivation.needed) (parts_of_given given))
  functions_are = ap (λ (e : Derivation). e.functions) f.derivation.is

  pub functions_room : Each (λ (g : GivenEntry). IsReady v g.form) given → HasSymbols v given → length v.symbols + length d.functions ≤ 16777216
  functions_room ready room =
      let few = no_more_functions (prefix_of f.underscores) (used_in (refutation_by v given f.members f.last) f.derivation.needed) (parts_of_given given) in
      let fit = counts_fit v given ready f.narrow room in
      let count = ap (λ (symbols : List Symbol). length symbols) functions_are in
      omega (arith, few, fit, count)

  pub functions_known : Each (λ (g : GivenEntry). IsReady v g.form) given → Each (IsDeclared (length v.sorts)) d.functions
  functions_known ready =
      subst (Each (IsDeclared (length v.sorts))) (sym functions_are)
      (functions_declare v given (used_in (refutation_by v given f.members f.last) f.derivation.needed) (prefix_of f.underscores) (recursion_from_All (λ (g : GivenEntry). IsReady v g.form) given ready))

-- ---- answers

pub grown_is : (v : Vocabulary) (d : Derivation) (grown : Vocabulary) (functions : List Symbol) → functions ≡ d.functions → grown ≡ with_symbols v (v.symbols ++ functions) → grown ≡ vocabulary_of v d
grown_is v d grown functions same made = made ∙ ap (λ (symbols : List Symbol). with_symbols v (v.symbols ++ symbols)) same

module _ (v : Vocabulary) (given : List GivenEntry) (limit : ℕ) (d : Derivation) (f : IsFound v given limit d) (lines : List ProofLine) (same : lines ≡ d.lines) where
  pub large_premises : (small : Bool) → (IsTrue small ↔ HaveSmallPremises lines) → small ≡ false → HaveSmallPremises d.lines → ⊥
  large_premises small told fails all = let holds : small ≡ true = told.1 (subst HaveSmallPremises (sym same) all) in cc

  pub small_premises : (small : Bool) → (IsTrue small ↔ HaveSmallPremises lines) → small ≡ true → HaveSmallPremises d.lines
  small_premises small told holds = subst HaveSmallPremises same (told.0 holds)

  module _ (grown : Vocabulary) (first : ℕ) (is_grown : grown ≡ vocabulary_of v d) (is_first : first ≡ length v.symbols) where
    pub within : (file : Text) (items : List Item) → HaveSmallPremises d.lines → AreWithin file grown first given lines items → IsProved v given file limit (Proof items)
    within file items small are =
        let there : AreWithin file (vocabulary_of v d) (length v.symbols) given d.lines items =
        subst (λ (ls : List ProofLine). AreWithin file (vocabulary_of v d) (length v.symbols) given ls items) same
        (subst (λ (n : ℕ). AreWithin file (vocabulary_of v d) n given lines items) is_first (subst (λ (w : Vocabulary). AreWithin file w first given lines items) is_grown are))
        in
        (d, f, (small, there))

    over_of : (name : LimitName) → IsOver grown first given lines name → IsOver (vocabulary_of v d) (length v.symbols) given d.lines name
    over_of name over =
        subst (λ (ls : List ProofLine). IsOver (vocabulary_of v d) (length v.symbols) given ls name) same
        (subst (λ (n : ℕ). IsOver (vocabulary_of v d) n given lines name) is_first (subst (λ (w : Vocabulary). IsOver w first given lines name) is_grown over))

    passed : HasSymbols v given → (fault : ProveFault) → IfLimit (IsOver grown first given lines) fault → IfLimit (MayBeOver v given limit) fault
    passed room (Limit name) over = inr (room, (d, f, over_of name over))
    passed room Memory over = tt

    pub limit_passed : {T : Type 0} → HasSymbols v given → (result : Result T ProveFault) (cause : ProveFault) → IsErrAnd result (λ c. c ≡ cause) → IfLimit (IsOver grown first given lines) cause → IfErr result (IfLimit (MayBeOver v given limit))
    limit_passed room (Ok value) cause is over = absurd is
    limit_passed room (Err fault) cause is over = subst (IfLimit (MayBeOver v given limit)) (sym is) (passed room cause over)

-- ---- a search that is not made, or not made whole

-- the words of a step from what is given to falsehood, at other names of its parts
module _ (v : Vocabulary) (given : List GivenEntry) (next : ℕ) (parents : List Parent) (line : Form) (is_next : next ≡ length v.symbols) (ep : parents ≡ parents_of given) (el : line ≡ falsehood) where
  pub posed : (P : ℕ → List Parent → Form → Type 0) → P next parents line → P (length v.symbols) (parents_of given) falsehood
  posed P h = subst (P (length v.symbols) (parents_of given)) el (subst (λ (ps : List Parent). P (length v.symbols) ps line) ep (subst (λ (n : ℕ). P n parents line) is_next h))

  pub as_step : (P : ℕ → List Parent → Form → Type 0) → P (length v.symbols) (parents_of given) falsehood → P next parents line
  as_step P h = subst (λ (n : ℕ). P n parents line) (sym is_next) (subst (λ (ps : List Parent). P (length v.symbols) ps line) (sym ep) (subst (P (length v.symbols) (parents_of given)) (sym el) h))

  pub are_below : Each (λ (g : GivenEntry). IsReady v g.form) given → AreBelow next parents line
  are_below ready = as_step AreBelow (record { vocabulary = v; new = omega arith; parents = parents_ready v given ready; line = falsehood_ready v })

  module _ (room : Bool) (told : IsTrue room ↔ HasRoom next (forms_of parents) line) where
    pub has_symbols : room ≡ true → HasSymbols v given
    has_symbols holds = posed (λ n ps a. HasRoom n (forms_of ps) a) (told.0 holds)

    -- there is no room for the functions of the given formulas
    pub no_symbols : (limit : ℕ) → room ≡ false → MayBeOver v given limit Symbols
    no_symbols limit fails = inl (refl, λ has. let holds : room ≡ true = told.1 (as_step (λ n ps a. HasRoom n (forms_of ps) a) has) in cc)

pub on_any : {T E P : Type 0} (result : Result T E) → P → OnOk result P
on_any (Ok value) h = h
on_any (Err fault) h = tt

-- want of memory needs no cause
pub wanting : {T : Type 0} (P : LimitName → Type 0) (result : Result T ProveFault) → IsErrAnd result (λ e. e ≡ Memory) → IfErr result (IfLimit P)
wanting P (Ok value) is = absurd is
wanting P (Err fault) is = subst (IfLimit P) (sym is) tt

pub nothing_proved : {T : Type 0} (P : T → Type 0) (result : Result T ProveFault) → IsErrAnd result (λ e. e ≡ Memory) → IfOk result P
nothing_proved P (Ok value) is = absurd is
nothing_proved P (Err fault) is = tt
