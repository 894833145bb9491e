-- How far the opening of several formulas has come.
use Rattle.std.specs.Prelude.{ℕ, ◌≡◌, ◌+◌, ◌<◌, List, [], ◌∷◌, ◌++◌, length, map, take, get_or, Option, Some, None, MatchOption, Result, IfOk, refl}
use Rattle.std.proofs.Common.{ap, sym, ◌∙◌, arith, suc, append_assoc, append-nil, length-append}
use Rattle.fof_terms.specs.declared.term.Term.{Term, Var}
use Rattle.fof_terms.specs.declared.form.Form.{Form, All}
use Rattle.clause_form.specs.declared.clause.Lit.{Lit}
use Rattle.unify_terms.specs.declared.goal.Goal.{Goal}
use Rattle.substitution_search.specs.CoverSearch.{Opening, near, opened_all, opening, goals_from, goal_of_lit, sorts_of_all}
use Rattle.substitution_search.proofs.CoverSearchFacts.{opening-All}
use Rattle.clause_form.specs.ClauseView.{view_of}
use Rattle.clause_form.specs.Paths.{plain}
use Rattle.clause_rules.proofs.Firsts.{ok_map}
use Rattle.substitution_search.proofs.Names.{near_more, snoc_same}
use Rattle.substitution_search.proofs.Openings.{IsLeafForm, leaf_form}
use Rattle.clause_rules.proofs.TakenLists.{mapped_more, take_all}

pub goals_more : (os : List Opening) (o : Opening) (n : ℕ) (env : List Term) → goals_from (os ++ o ∷ []) n env ≡ goals_from os n env ++ o.goal (n + length (sorts_of_all os)) env ∷ []
goals_more [] o n env = let same : n + 0 ≡ n = omega arith in ap (λ k. o.goal k env ∷ []) (sym same)
goals_more (p ∷ os) o n env =
    let total = length-append p.sorts (sorts_of_all os) in
    let same : n + length p.sorts + length (sorts_of_all os) ≡ n + length (p.sorts ++ sorts_of_all os) = omega (arith, total) in
    ap (λ gs. p.goal n env ∷ gs) (goals_more os o (n + length p.sorts) env ∙ ap (λ k. goals_from os (n + length p.sorts) env ++ o.goal k env ∷ []) same)

pub sorts_more : (os : List Opening) (o : Opening) → sorts_of_all (os ++ o ∷ []) ≡ sorts_of_all os ++ o.sorts
sorts_more [] o = append-nil o.sorts
sorts_more (p ∷ os) o = ap (λ ss. p.sorts ++ ss) (sorts_more os o) ∙ sym (append_assoc p.sorts (sorts_of_all os) o.sorts)

pub record OpenedSoFar (line : List Lit) (forms : List Form) (i : ℕ) (before names : List ℕ) (goals : List Goal) (sorts now : List ℕ) : Type 0 where
  pub goals_are : goals ≡ goals_from (map (opening line) (take i forms)) (length before) (near names)
  pub sorts_are : sorts ≡ before ++ sorts_of_all (map (opening line) (take i forms))
  pub names_are : now ≡ names

pub opened_none : (line : List Lit) (forms : List Form) (before names : List ℕ) (goals : List Goal) → goals ≡ [] → OpenedSoFar line forms 0 before names goals before names
opened_none line forms before names goals e = record { goals_are = e; sorts_are = sym (append-nil before); names_are = refl }

pub opened_more : (line : List Lit) (forms : List Form) (i : ℕ) (before names : List ℕ) (goals : List Goal) (sorts now : List ℕ) (form : Form) (goal : Goal) (sorts' now' : List ℕ) (goals' : List Goal) → i < length forms → form ≡ get_or forms i form
    → OpenedSoFar line forms i before names goals sorts now → (goal ≡ (opening line form).goal (length sorts) (near now)) × (sorts' ≡ sorts ++ (opening line form).sorts) × (now' ≡ now) → goals' ≡ goals ++ goal ∷ []
    → OpenedSoFar line forms (i + 1) before names goals' sorts' now'
opened_more line forms i before names goals sorts now form goal sorts' now' goals' h e so step made =
    let os = map (opening line) (take i forms) in
    let o = opening line form in
    let next = mapped_more (opening line) forms i form h e in
    let count : length sorts ≡ length before + length (sorts_of_all os) = ap length so.sorts_are ∙ length-append before (sorts_of_all os) in
    record {
      goals_are = made ∙ ap (λ gs. gs ++ goal ∷ []) so.goals_are ∙ ap (λ g. goals_from os (length before) (near names) ++ g ∷ []) (step.0 ∙ ap (λ k. o.goal k (near now)) count ∙ ap (λ ns. o.goal (length before + length (sorts_of_all os)) (near ns)) so.names_are)
          ∙ sym (goals_more os o (length before) (near names)) ∙ ap (λ ps. goals_from ps (length before) (near names)) (sym next);
      sorts_are = step.1 ∙ ap (λ ss. ss ++ o.sorts) so.sorts_are ∙ append_assoc before (sorts_of_all os) o.sorts ∙ ap (λ ss. before ++ ss) (sym (sorts_more os o)) ∙ ap (λ ps. before ++ sorts_of_all ps) (sym next);
      names_are = step.2 ∙ so.names_are;
    }

pub opened_done : (line : List Lit) (forms : List Form) (n : ℕ) (before names : List ℕ) (goals : List Goal) (sorts now : List ℕ) → n ≡ length forms → OpenedSoFar line forms n before names goals sorts now
    → (goals ≡ goals_from (map (opening line) forms) (length before) (near names)) × (sorts ≡ before ++ sorts_of_all (map (opening line) forms)) × (now ≡ names)
opened_done line forms n before names goals sorts now e so =
    let all = take_all forms n e in (
      so.goals_are ∙ ap (λ fs. goals_from (map (opening line) fs) (length before) (near names)) all,
      so.sorts_are ∙ ap (λ fs. before ++ sorts_of_all (map (opening line) fs)) all,
      so.names_are,
    )

abbrev Answer : List Lit → Form → List ℕ → List ℕ → Goal → List ℕ → List ℕ → Type 0
Answer line form names sorts goal sorts' names' = (goal ≡ (opening line form).goal (length sorts) (near names)) × (sorts' ≡ sorts ++ (opening line form).sorts) × (names' ≡ names)

pub leaf_opened : (line : List Lit) (form : Form) (names sorts : List ℕ) {E : Type 0} (r : Result Goal E) → IsLeafForm form → IfOk r (λ goal. goal ≡ goal_of_lit line (near names) (plain (view_of form).lit)) → IfOk r (λ goal. Answer line form names sorts goal sorts names)
leaf_opened line form names sorts r leaf h =
    let is = (leaf_form line form leaf).opened in
    ok_map r (λ goal e. (
      e ∙ ap (λ (o : Opening). o.goal (length sorts) (near names)) (sym is),
      sym (append-nil sorts) ∙ ap (λ (o : Opening). sorts ++ o.sorts) (sym is),
      refl,
    )) h

pub popped : (r : Option ℕ) (old new names : List ℕ) (n : ℕ) → old ≡ names ++ n ∷ [] → MatchOption r ((old ≡ []) × (new ≡ [])) (λ last. old ≡ new ++ last ∷ []) → new ≡ names
popped None old new names n e h =
    let size = length-append names (n ∷ []) in
    let none : length (names ++ n ∷ []) ≡ 0 = ap length (sym e ∙ h.0) in
    absurd (omega arith)
popped (Some last) old new names n e h = snoc_same new names last n (sym h ∙ e)

pub under_opened : (line : List Lit) (form body inner : Form) (s n : ℕ) (names sorts names1 sorts1 names2 sorts2 names3 : List ℕ) (goal : Goal) (r : Option ℕ) → form ≡ All s body → inner ≡ body → n ≡ length sorts → names1 ≡ names ++ n ∷ [] → sorts1 ≡ sorts ++ s ∷ []
    → Answer line inner names1 sorts1 goal sorts2 names2 → MatchOption r ((names2 ≡ []) × (names3 ≡ [])) (λ last. names2 ≡ names3 ++ last ∷ []) → Answer line form names sorts goal sorts2 names3
under_opened line form body inner s n names sorts names1 sorts1 names2 sorts2 names3 goal r is got count pushed more answer pop =
    let o = opening line body in
    let opened : opening line form ≡ opened_all s o = ap (opening line) is ∙ opening-All line s body in
    let size : length sorts1 ≡ suc (length sorts) = ap length more ∙ length-append sorts (s ∷ []) ∙ omega arith in
    let env : near names1 ≡ Var (length sorts) ∷ near names = ap near pushed ∙ near_more names n ∙ ap (λ k. Var k ∷ near names) count in (
      answer.0 ∙ ap (λ b. (opening line b).goal (length sorts1) (near names1)) got ∙ ap (λ k. o.goal k (near names1)) size ∙ ap (o.goal (suc (length sorts))) env ∙ ap (λ (p : Opening). p.goal (length sorts) (near names)) (sym opened),
      answer.1 ∙ ap (λ b. sorts1 ++ (opening line b).sorts) got ∙ ap (λ ss. ss ++ o.sorts) more ∙ append_assoc sorts (s ∷ []) o.sorts ∙ ap (λ (p : Opening). sorts ++ p.sorts) (sym opened),
      popped r names2 names3 names n (answer.2 ∙ pushed) pop,
    )
