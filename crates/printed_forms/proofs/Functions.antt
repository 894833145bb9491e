-- New functions in place of existential variables leave lists as long as they are.
use Rattle.std.specs.Prelude.{ℕ, ◌+◌, ◌≡◌, List, [], ◌∷◌, map, refl}
use Rattle.std.specs.List.{AllByRecursion}
use Rattle.fof_terms.proofs.Induction.{form_induction}
use Rattle.fof_terms.specs.declared.term.Term.{Term, Var, App}
use Rattle.fof_terms.specs.declared.form.Form.{Form}
use Rattle.clause_form.specs.Clauses.{in_turn, skolem_made, skolemized, under_all, under_ex, variables}
use Rattle.clause_form.proofs.ClausesFacts.{skolem_made-Atom, skolem_made-Eq, skolem_made-Not, skolem_made-And, skolem_made-Or, skolem_made-Imp, skolem_made-Iff, skolem_made-All, skolem_made-Ex}
use Rattle.printed_forms.specs.Lists.{has_no_list_of_one}
use Rattle.printed_forms.proofs.ListsFacts.{listed-Atom, listed-Eq, listed-Not, listed-And, listed-Or, listed-Imp, listed-Iff, listed-All, listed-Ex}

-- what is made of the formula has as many members in each list
abbrev Keeps : Form → Type 0
Keeps a = (next n : ℕ) (s : ℕ → Term) → has_no_list_of_one (skolem_made a next n s).0 ≡ has_no_list_of_one a

each_keeps : (as_ : List Form) → AllByRecursion Keeps as_ → (next n : ℕ) (s : ℕ → Term) → map has_no_list_of_one (in_turn (map skolem_made as_) next n s).0 ≡ map has_no_list_of_one as_
each_keeps [] all next n s = refl
each_keeps (a ∷ as_) all next n s = rw (all.0 next n s, each_keeps as_ all.1 (skolem_made a next n s).1 n s) refl

made_keeps : (a : Form) → Keeps a
made_keeps = form_induction Keeps (record {
  atom = λ p ts next n s. rw (skolem_made-Atom, listed-Atom, listed-Atom) refl;
  eq = λ l r next n s. rw (skolem_made-Eq, listed-Eq, listed-Eq) refl;
  not = λ a ih next n s. rw (skolem_made-Not, listed-Not, listed-Not, ih next n s) refl;
  and = λ as_ all next n s. rw (skolem_made-And, listed-And, listed-And, each_keeps as_ all next n s) refl;
  or = λ as_ all next n s. rw (skolem_made-Or, listed-Or, listed-Or, each_keeps as_ all next n s) refl;
  imp = λ a b ih jh next n s. rw (skolem_made-Imp, listed-Imp, listed-Imp, ih next n s, jh (skolem_made a next n s).1 n s) refl;
  iff = λ a b ih jh next n s. rw (skolem_made-Iff, listed-Iff, listed-Iff, ih next n s, jh (skolem_made a next n s).1 n s) refl;
  all = λ q a ih next n s. rw (skolem_made-All, listed-All, listed-All, ih next (n + 1) (under_all s)) refl;
  ex = λ q a ih next n s. rw (skolem_made-Ex, listed-Ex, ih (next + 1) n (under_ex (App next (variables n)) s)) refl;
})

pub skolem_listed : (a : Form) (next : ℕ) → has_no_list_of_one (skolemized a next) ≡ has_no_list_of_one a
skolem_listed a next = made_keeps a next 0 Var
