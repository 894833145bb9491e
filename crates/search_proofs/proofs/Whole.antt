-- The entries of a whole search.
use Rattle.std.specs.Prelude.{ℕ, ◌≡◌, ◌+◌, ◌-◌, ◌<◌, ◌≤◌, false, Bool, List, [], ◌∷◌, ◌++◌, length, map, Some, slice_get, refl}
use Rattle.std.specs.List.{AllByRecursion}
use Rattle.std.proofs.Common.{sym, ap, subst, ◌∙◌, arith, inl, inr, take, append-nil}
use Rattle.std.proofs.lemmas.List.{append_assoc, append_cancel_left, length-append, map-append}
use Rattle.std.proofs.lemmas.List.Elements.{All-append, All-from_recursion, All-weaker, recursion_from_All}
use Rattle.fof_terms.specs.Occurs.{occurs_in}
use Rattle.fof_terms.proofs.OccursFacts.{occurs_in-Imp, occurs_in-Not, occurs_in-Or}
use Rattle.fof_terms.specs.Vocabulary.{Vocabulary, IsVocabulary, IsDeclared}
use Rattle.fof_terms.specs.SortLaws.{Grows}
use Rattle.fof_terms.proofs.SortLawsFacts.{grown_sorted}
use Rattle.fof_terms.specs.Sorts.{Sorted}
use Rattle.fof_terms.proofs.Scoped.{member_of, raised}
use Rattle.fof_terms.specs.declared.signature.Symbol.{Symbol}
use Rattle.fof_terms.specs.declared.form.Form.{Form, Not, Or, Imp}
use Rattle.clause_form.specs.declared.clause.Clause.{Clause}
use Rattle.clause_form.specs.declared.path.Parent.{Parent}
use Rattle.clause_rules.proofs.ListPlaces.{before, get_lifted}
use Rattle.clause_rules.specs.Steps.{IsReady}
use Rattle.derive_kit.specs.Derived.{AreOfTheory, HasCited, numbers_of, with_formulas}
use Rattle.kernel.specs.Statements.{Statements, IsRefuted}
use Rattle.kernel.specs.Entries.{Admits, MayDeclare}
use Rattle.kernel.specs.declared.entry.Decl.TheVariants.{Symbol as NewSymbol}
use Rattle.kernel.specs.declared.entry.Entry.{Entry}
use Rattle.kernel.specs.declared.entry.Entry.TheVariants.{Declare, Lemma}
use Rattle.kernel.specs.declared.proof.Proof.{Proof}
use Rattle.kernel.proofs.EntryLaws.{admits_append}
use Rattle.input_proofs.specs.Formulas.{formula_of}
use Rattle.input_proofs.specs.Functions.{functions_of, searched_vocabulary, searched_clauses, with_functions, SpeakOfKnown}
use Rattle.input_proofs.specs.Opened.{AreOpened}
use Rattle.input_proofs.specs.declared.opening.OpenedInputs.{OpenedInputs}
use Rattle.negated_lemmas.specs.Negated.{ConcludeLine, ShowFalsehood, implied, lemmas_by, with_denied}
use Rattle.saturation.specs.Members.{clauses_of}
use Rattle.search_proofs.specs.code.Derived.{AreDerived, IsDerived}
use Rattle.saturation.specs.declared.member.Member.{Member}
use Rattle.saturation.specs.declared.member.Origin.TheVariants.{Input}
use Rattle.skolem_fresh.specs.Entered.{Enters, formulas_told}
use Rattle.skolem_fresh.specs.Told.{AddedFrom}
use Rattle.superpose.specs.Absent.{AreWithout}
use Rattle.search_proofs.specs.Searched.{AddsSearched, IsSearchedFrom, declare_all, searched_theory}
use Rattle.search_proofs.specs.Needed.{IsMarked}
use Rattle.search_proofs.specs.Placed.{there, numbers_from}
use Rattle.search_proofs.specs.code.Wanting.{AreInputsMarked, IsInputMarked}
use Rattle.search_proofs.specs.code.Facts.{Setting, IsOf, first_fact}
use Rattle.search_proofs.specs.code.Members.{InputStands, IsLater, LeadOn, ShowFalsehoodLast}
use Rattle.search_proofs.proofs.InTurn.{told_count, last_place}
use Rattle.search_proofs.proofs.Inputs.{setting_of, input_facts, inputs_shown, inputs_count, input_stands, wanted_forms, wanted_speak}
use Rattle.search_proofs.proofs.Passing.{input_within}
use Rattle.search_proofs.proofs.Symbols.{clause_without, formula_without, member_without, made_without, clause_at}

-- Functions that are declared in turn.
declare_in_turn : (w : Vocabulary) (sorts : List (List ℕ)) (front back : List Symbol) (formulas : List Form) → IsVocabulary w → w.sorts ≡ sorts → w.symbols ≡ front ++ back
    → Admits (record { vocabulary = record { sorts = sorts; symbols = front }; formulas = formulas }) (declare_all back) (record { vocabulary = record { sorts = sorts; symbols = front ++ back }; formulas = formulas })
declare_in_turn w sorts front [] formulas ok same is = ap (λ (symbols : List Symbol). record { vocabulary = record { sorts = sorts; symbols = symbols }; formulas = formulas }) (append-nil front)
declare_in_turn w sorts front (s ∷ back) formulas ok same is =
    let long = ap (λ (symbols : List Symbol). length symbols) is in
    let whole = length-append front (s ∷ back) in
    let few = ok.few_symbols in
    let room : length front < 16777216 = omega arith in
    let all = recursion_from_All (IsDeclared (length w.sorts)) w.symbols ok.declared in
    let own : IsDeclared (length w.sorts) s = member_of (IsDeclared (length w.sorts)) w.symbols (length front) s all (ap (λ (symbols : List Symbol). slice_get symbols (length front)) is ∙ at_seam front s back) in
    let legal : IsDeclared (length sorts) s = subst (λ (xs : List (List ℕ)). IsDeclared (length xs) s) same own in
    let next : Statements = record { vocabulary = record { sorts = sorts; symbols = front ++ s ∷ [] }; formulas = formulas } in
    let rest = declare_in_turn w sorts (front ++ s ∷ []) back formulas ok same (is ∙ sym (append_assoc front (s ∷ []) back)) in
    let begun : Statements = record { vocabulary = record { sorts = sorts; symbols = front }; formulas = formulas } in
    let may : MayDeclare begun (NewSymbol s) = (room, legal) in (
      may,
      (next, refl, subst (λ (symbols : List Symbol). Admits next (declare_all back) (record { vocabulary = record { sorts = sorts; symbols = symbols }; formulas = formulas })) (append_assoc front (s ∷ []) back) rest),
    ) where
      at_seam : (xs : List Symbol) (y : Symbol) (ys : List Symbol) → slice_get (xs ++ y ∷ ys) (length xs) ≡ Some y
      at_seam [] y ys = refl
      at_seam (x ∷ xs) y ys = at_seam xs y ys

-- the declarations are those of the functions
pub declared_are : (symbols front back : List Symbol) (entries : List Entry) → symbols ≡ front ++ back → declare_all symbols ≡ declare_all front ++ entries → entries ≡ declare_all back
declared_are symbols front back entries is e =
    sym (append_cancel_left (declare_all front) (declare_all back) entries (sym (map-append (λ (s : Symbol). Declare (NewSymbol s)) front back) ∙ (ap declare_all (sym is) ∙ e)))

-- the parents of one theory are those of the other
cited_parents : (t u : Statements) (parents : List Parent) → AllByRecursion (λ (p : Parent). slice_get t.formulas p.number ≡ Some p.form) parents → AllByRecursion (λ n. slice_get u.formulas n ≡ slice_get t.formulas n) (numbers_of parents)
    → AllByRecursion (λ (p : Parent). slice_get u.formulas p.number ≡ Some p.form) parents
cited_parents t u [] h g = tt
cited_parents t u (p ∷ parents) h g = (g.0 ∙ h.0, cited_parents t u parents h.1 g.1)

parents_of : (t u : Statements) (parents : List Parent) → AreOfTheory t parents → HasCited t (numbers_of parents) u → AreOfTheory u parents
parents_of t u parents h c =
    All-from_recursion (λ (p : Parent). slice_get u.formulas p.number ≡ Some p.form) parents
    (cited_parents t u parents (recursion_from_All (λ (p : Parent). slice_get t.formulas p.number ≡ Some p.form) parents h) (recursion_from_All (λ n. slice_get u.formulas n ≡ slice_get t.formulas n) (numbers_of parents) c.formulas))

-- a list that ends in falsehood
refuted_last : (t : Statements) (line : Form) (facts rest : List Form) → facts ≡ rest ++ Or [] ∷ [] → IsRefuted (with_denied t line facts)
refuted_last t line facts rest e =
    let whole : t.formulas ++ (Not line ∷ facts) ≡ (t.formulas ++ (Not line ∷ rest)) ++ Or [] ∷ [] = ap (λ (fs : List Form). t.formulas ++ (Not line ∷ fs)) e ∙ sym (append_assoc t.formulas (Not line ∷ rest) (Or [] ∷ [])) in
    let front = t.formulas ++ (Not line ∷ rest) in
    let long = ap (λ (fs : List Form). length fs) whole in
    let many = length-append front (Or [] ∷ []) in
    let place : length front ≡ length (t.formulas ++ (Not line ∷ facts)) - 1 = omega arith in
    subst (λ i. slice_get (t.formulas ++ (Not line ∷ facts)) i ≡ Some (Or [])) place (ap (λ (fs : List Form). slice_get fs (length front)) whole ∙ last_place front (Or []))

-- the theory has itself
itself : (t : Statements) (cites : List ℕ) → HasCited t cites t
itself t cites = record { vocabulary = refl; count = refl; formulas = All-from_recursion (λ n. slice_get t.formulas n ≡ slice_get t.formulas n) cites (all_same cites); fresh = λ k h. h } where
  all_same : (ns : List ℕ) → AllByRecursion (λ n. slice_get t.formulas n ≡ slice_get t.formulas n) ns
  all_same [] = tt
  all_same (n ∷ ns) = (refl, all_same ns)

-- formulas without a symbol
module _ (k : ℕ) where
  abbrev Lacks : Form → Type 0
  Lacks a = occurs_in k a ≡ false

  implied_lack : (line : Form) (facts : List Form) → Lacks line → AllByRecursion Lacks facts → AllByRecursion Lacks (map (Imp (Not line)) facts)
  implied_lack line [] off h = tt
  implied_lack line (a ∷ facts) off h = (rw (occurs_in-Imp, occurs_in-Not, off) h.0, implied_lack line facts off h.1)

  each_append : (as_ bs : List Form) → AllByRecursion Lacks as_ → AllByRecursion Lacks bs → AllByRecursion Lacks (as_ ++ bs)
  each_append [] bs h g = g
  each_append (a ∷ as_) bs h g = (h.0, each_append as_ bs h.1 g)

  each_of : (P : Form → Type 0) → ((a : Form) → P a → Lacks a) → (as_ : List Form) → AllByRecursion P as_ → AllByRecursion Lacks as_
  each_of P f [] h = tt
  each_of P f (a ∷ as_) h = (f a h.0, each_of P f as_ h.1)

  module _ (v : Vocabulary) (inputs : List Clause) (all : AllByRecursion Lacks (map formula_of inputs)) (members : List Member) (made : AreDerived v inputs members) (last : Member) (made_last : IsDerived v inputs (clauses_of members) last) where
    input_lacks : (i : ℕ) (c : Clause) → slice_get inputs i ≡ Some c → AreWithout k c.lits
    input_lacks i c at = clause_without k c (member_of Lacks (map formula_of inputs) i (formula_of c) all (get_lifted formula_of inputs i c at))

    listed_lacks : (i : ℕ) (c : Clause) → slice_get (clauses_of members) i ≡ Some c → AreWithout k c.lits
    listed_lacks i c at =
        let found = clause_at members i c at in
        subst (λ (x : Clause). AreWithout k x.lits) found.2 (member_without k v inputs input_lacks members made i found.0 found.1)

    later_lacks : (a : Form) → IsLater members last a → Lacks a
    later_lacks a (inl m) = ap (occurs_in k) m.3 ∙ formula_without k m.1.clause (member_without k v inputs input_lacks members made m.0 m.1 m.2)
    later_lacks a (inr (inl e)) = ap (occurs_in k) e ∙ formula_without k last.clause (made_without k v inputs input_lacks (clauses_of members) listed_lacks last.clause last.origin made_last)
    later_lacks a (inr (inr e)) = ap (occurs_in k) e ∙ occurs_in-Or k []

module _ (t : Statements) (parents : List Parent) (line : Form) (wanted : List Bool) (opened : OpenedInputs) (o : AreOpened t parents line wanted opened) (of_theory : AreOfTheory t parents) (ready : IsReady t.vocabulary line)
    (ok : IsVocabulary (searched_vocabulary t.vocabulary parents line)) where
  abbrev grown : Vocabulary
  grown = searched_vocabulary t.vocabulary parents line

  abbrev told : List Form
  told = formulas_told grown opened.choices

  abbrev pub setting : Setting
  setting = setting_of t parents line wanted opened o

  -- a theory over the same symbols
  abbrev over : List Form → Statements
  over fs = record { vocabulary = t.vocabulary; formulas = fs }

  abbrev with_told : List Form → Statements
  with_told fs = record { vocabulary = grown; formulas = fs ++ told }

  grows : Grows t.vocabulary grown
  grows = record { more_sorts = omega arith; same_symbols = λ k s e. before t.vocabulary.symbols (functions_of t.vocabulary parents line) k s e }

  closed_line : Sorted grown [] line
  closed_line = grown_sorted t.vocabulary grown grows 2147483647 [] line (raised t.vocabulary [] 1000000000 2147483647 line (omega arith) ready)

  module _ (fs : List Form) (c : HasCited t (numbers_of parents) (over fs)) where
    entered : Enters (with_functions (over fs) parents line) opened.choices
    entered = o.enter (over fs) c

    added : AddedFrom (with_told fs) (length t.formulas) opened.choices
    added = entered.stands (with_told fs) refl fs [] (ap (λ (gs : List Form). fs ++ gs) (sym (append-nil told))) (length t.formulas) c.count

    is_of : IsOf setting (with_told fs)
    is_of = record {
      vocabulary = refl;
      parents = All-weaker (λ (p : Parent). slice_get fs p.number ≡ Some p.form) (λ (p : Parent). slice_get (fs ++ told) p.number ≡ Some p.form) (λ p at. before fs told p.number p.form at) parents (parents_of t (over fs) parents of_theory c);
      added = added;
      count = let long = length-append fs told in let many = told_count (with_told fs) (length t.formulas) opened.choices added in let same = c.count in omega arith;
    }

    module _ (proofs : List Proof) (members : List Member) (last : Member) (f : ShowFalsehoodLast setting (IsLater members last) proofs (input_facts t parents line wanted opened o)) where
      shown : ShowFalsehood (with_told fs) line proofs f.facts
      shown = record { legal = f.shown.shown.legal (with_told fs) is_of; refuted = refuted_last (with_told fs) line f.facts f.rest f.ends }

      legal : (lemmas : List Entry) → ConcludeLine line (length t.formulas + length opened.choices) proofs lemmas
          → Admits (over fs) (declare_all (functions_of t.vocabulary parents line) ++ (opened.choices ++ lemmas)) (searched_theory (over fs) parents line ((told ++ implied line f.facts) ++ line ∷ []))
      legal lemmas concludes =
          let functions = functions_of t.vocabulary parents line in
          let with_them = with_functions (over fs) parents line in
          let ending = implied line f.facts ++ line ∷ [] in
          let final = with_formulas (with_told fs) ending in
          let declares = declare_in_turn grown t.vocabulary.sorts t.vocabulary.symbols functions fs ok refl refl in
          let ends = concludes.adds (with_told fs) f.facts is_of.count closed_line shown in
          let all = admits_append (over fs) with_them final (declare_all functions) (opened.choices ++ lemmas) declares (admits_append with_them (with_told fs) final opened.choices lemmas entered.admits ends) in
          let same : (fs ++ told) ++ ending ≡ fs ++ ((told ++ implied line f.facts) ++ line ∷ []) = append_assoc fs told ending ∙ ap (λ (gs : List Form). fs ++ gs) (sym (append_assoc told (implied line f.facts) (line ∷ []))) in
          subst (λ (gs : List Form). Admits (over fs) (declare_all functions ++ (opened.choices ++ lemmas)) (record { vocabulary = grown; formulas = gs })) same all

      speak : AreDerived grown (searched_clauses t.vocabulary parents line) members → IsDerived grown (searched_clauses t.vocabulary parents line) (clauses_of members) last → SpeakOfKnown (over fs) line (told ++ implied line f.facts)
      speak made made_last k lt fresh off =
          let clauses = searched_clauses t.vocabulary parents line in
          let P = λ (a : Form). occurs_in k a ≡ false in
          let inputs = recursion_from_All P (map formula_of clauses) (o.clauses_speak (over fs) c k lt fresh off) in
          let forms = recursion_from_All P o.forms (o.forms_speak (over fs) c k lt fresh off) in
          let first = each_append k o.forms (wanted_forms wanted clauses) forms (wanted_speak P wanted clauses inputs) in
          let later = each_of k (IsLater members last) (later_lacks k grown clauses inputs members made last made_last) f.shown.more f.shown.each in
          let all = each_append k (input_facts t parents line wanted opened o) f.shown.more first later in
          let facts : AllByRecursion P f.facts = subst (AllByRecursion P) (sym f.shown.is) all in
          let denied : P (Not line) = occurs_in-Not k line ∙ off in
          All-append P told (implied line f.facts) (o.speak (over fs) c k lt fresh off)
          (All-from_recursion P (implied line f.facts) (implied_lack k line (Not line ∷ f.facts) off (denied, facts)))

  pub is_base : IsOf setting (with_told t.formulas)
  is_base = is_of t.formulas (itself t (numbers_of parents))

  -- the entries of the search
  pub whole_search : (proofs : List Proof) (members : List Member) (last : Member) → AreDerived grown (searched_clauses t.vocabulary parents line) members → IsDerived grown (searched_clauses t.vocabulary parents line) (clauses_of members) last
      → ShowFalsehoodLast setting (IsLater members last) proofs (input_facts t parents line wanted opened o) → (declarations lemmas entries : List Entry) → declarations ≡ declare_all (functions_of t.vocabulary parents line)
      → ConcludeLine line (length t.formulas + length opened.choices) proofs lemmas → entries ≡ (declarations ++ opened.choices) ++ lemmas → IsSearchedFrom t parents entries line
  whole_search proofs members last made made_last f declarations lemmas entries declares concludes is =
      let functions = functions_of t.vocabulary parents line in
      let ends = Lemma concludes.last ∷ [] in
      let turned : entries ≡ declare_all functions ++ (opened.choices ++ lemmas) = is ∙ (append_assoc declarations opened.choices lemmas ∙ ap (λ (es : List Entry). es ++ (opened.choices ++ lemmas)) declares) in
      record {
        middle = opened.choices ++ lemmas_by concludes.lemmas;
        last = concludes.last;
        is = turned ∙ ap (λ (es : List Entry). declare_all functions ++ es) (ap (λ (es : List Entry). opened.choices ++ es) concludes.is ∙ sym (append_assoc opened.choices (lemmas_by concludes.lemmas) ends));
        before = told ++ implied line f.facts;
        adds = λ u c.
            let same : over u.formulas ≡ u = ap (λ (v : Vocabulary). record { vocabulary = v; formulas = u.formulas }) (sym c.vocabulary) in
            let cited : HasCited t (numbers_of parents) (over u.formulas) = subst (HasCited t (numbers_of parents)) (sym same) c in
            let adds : AddsSearched (over u.formulas) parents entries (told ++ implied line f.facts) line = record {
              legal = subst (λ (es : List Entry). Admits (over u.formulas) es (searched_theory (over u.formulas) parents line ((told ++ implied line f.facts) ++ line ∷ []))) (sym turned) (legal u.formulas cited proofs members last f lemmas concludes);
              speak = speak u.formulas cited proofs members last f made made_last;
            } in
            subst (λ (x : Statements). AddsSearched x parents entries (told ++ implied line f.facts) line) same adds;
      }

take_front : {X : Type 0} (xs ys : List X) → take (length xs) (xs ++ ys) ≡ xs
take_front [] ys = refl
take_front (x ∷ xs) ys = ap (λ (zs : List _). x ∷ zs) (take_front xs ys)

-- what the calls give together
module _ (t : Statements) (parents : List Parent) (line : Form) (w : Vocabulary) (w_is : w ≡ searched_vocabulary t.vocabulary parents line) (inputs : List Clause) (inputs_are : inputs ≡ searched_clauses t.vocabulary parents line)
    (members : List Member) (last : Member) (made_in : AreDerived w inputs members) (last_in : IsDerived w inputs (clauses_of members) last) where
  abbrev functions : List Symbol
  functions = functions_of t.vocabulary parents line

  abbrev step_vocabulary : Vocabulary
  step_vocabulary = searched_vocabulary t.vocabulary parents line

  abbrev step_clauses : List Clause
  step_clauses = searched_clauses t.vocabulary parents line

  made : AreDerived step_vocabulary step_clauses members
  made = subst (λ (v : Vocabulary). AreDerived v step_clauses members) w_is (subst (λ (cs : List Clause). AreDerived w cs members) inputs_are made_in)

  made_last : IsDerived step_vocabulary step_clauses (clauses_of members) last
  made_last = subst (λ (v : Vocabulary). IsDerived v step_clauses (clauses_of members) last) w_is (subst (λ (cs : List Clause). IsDerived w cs (clauses_of members) last) inputs_are last_in)

  module _ (needed wanted : List Bool) (opened : OpenedInputs) (o : AreOpened t parents line wanted opened) (marks : AreInputsMarked (length inputs) members needed last wanted) (of_theory : AreOfTheory t parents) (ready : IsReady t.vocabulary line) (ok : IsVocabulary w)
      (denied start : ℕ) (denied_is : denied ≡ length t.formulas + length opened.choices) (start_is : start ≡ denied + 1) where
    known : IsVocabulary step_vocabulary
    known = subst IsVocabulary w_is ok

    abbrev here : Setting
    here = setting_of t parents line wanted opened o

    starts : first_fact here ≡ start
    starts = omega arith

    in_base : IsOf here (record { vocabulary = step_vocabulary; formulas = t.formulas ++ formulas_told step_vocabulary opened.choices })
    in_base = is_base t parents line wanted opened o of_theory ready known

    abbrev numbers : List ℕ
    numbers = numbers_from (start + length opened.facts) opened.proofs

    stands : (m : Member) → IsInputMarked wanted m.origin → ((i : ℕ) → m.origin ≡ Input i → slice_get step_clauses i ≡ Some m.clause) → InputStands here (input_facts t parents line wanted opened o) numbers m
    stands m marked from i n is number =
        input_stands t parents line wanted opened o (record { vocabulary = step_vocabulary; formulas = t.formulas ++ formulas_told step_vocabulary opened.choices }) in_base i n m.clause (marked i is) (from i is)
        (subst (λ k. slice_get (numbers_from (k + length opened.facts) opened.proofs) i ≡ Some n) (sym starts) number)

    pub as_many_inputs : length inputs ≡ length opened.proofs
    as_many_inputs =
        ap (λ (cs : List Clause). length cs) inputs_are
        ∙ inputs_count t parents line wanted opened o (record { vocabulary = step_vocabulary; formulas = t.formulas ++ formulas_told step_vocabulary opened.choices }) in_base

    pub searched : (proofs : List Proof) → LeadOn w start members needed last numbers (opened.facts ++ there opened.proofs) proofs → (declarations lemmas entries : List Entry)
        → declare_all w.symbols ≡ declare_all (take (length t.vocabulary.symbols) w.symbols) ++ declarations
        → ConcludeLine line denied proofs lemmas → entries ≡ (declarations ++ opened.choices) ++ lemmas → IsSearchedFrom t parents entries line
    searched proofs leads declarations lemmas entries declares concludes is =
        let shown = inputs_shown t parents line wanted opened o (record { vocabulary = step_vocabulary; formulas = t.formulas ++ formulas_told step_vocabulary opened.choices }) in_base in
        let each = λ (j : ℕ) (m : Member) (at : slice_get members j ≡ Some m) (marked : IsMarked needed j). stands m (marks.of_each j m at marked) (λ i e. input_within step_vocabulary step_clauses (clauses_of (take j members)) m.clause m.origin i (made j m at) e) in
        let own = stands last marks.of_last (λ i e. input_within step_vocabulary step_clauses (clauses_of members) last.clause last.origin i made_last e) in
        let f = leads here (sym w_is) starts (input_facts t parents line wanted opened o) shown each own in
        let symbols : declare_all step_vocabulary.symbols ≡ declare_all (take (length t.vocabulary.symbols) step_vocabulary.symbols) ++ declarations =
        subst (λ (v : Vocabulary). declare_all v.symbols ≡ declare_all (take (length t.vocabulary.symbols) v.symbols) ++ declarations) w_is declares in
        let front : take (length t.vocabulary.symbols) (t.vocabulary.symbols ++ functions) ≡ t.vocabulary.symbols = take_front t.vocabulary.symbols functions in
        let are = declared_are step_vocabulary.symbols t.vocabulary.symbols functions declarations refl (symbols ∙ ap (λ (ss : List Symbol). declare_all ss ++ declarations) front) in
        whole_search t parents line wanted opened o of_theory ready known proofs members last made made_last f declarations lemmas entries are (subst (λ n. ConcludeLine line n proofs lemmas) denied_is concludes) is

-- the functions come behind the symbols that are there
pub symbols_known : (v w : Vocabulary) (parents : List Parent) (line : Form) → w ≡ searched_vocabulary v parents line → length v.symbols ≤ length w.symbols
symbols_known v w parents line is =
    let many = length-append v.symbols (functions_of v parents line) in
    let own : length v.symbols ≤ length (v.symbols ++ functions_of v parents line) = omega arith in
    subst (λ (x : Vocabulary). length v.symbols ≤ length x.symbols) (sym is) own
