use Rattle.std.proofs.Common.{◌∙◌, sym, ap, refl, subst, []}
use Rattle.fof_terms.specs.Sorts.{Sorted}
use Rattle.fof_terms.specs.declared.signature.Symbol.{Symbol}
use Rattle.kernel.specs.Entries.{MayName, MayChoose, with_formula, naming, choice}
use Rattle.kernel.proofs.Building.{shown_sorted}
use Rattle.proof_check.proofs.Added.{on_ok, none_some}
use Rattle.proof_check.proofs.theory.Theory.admit.Goals as goal

pub adopt-requires : goal.adopt-requires
adopt-requires c = λ a e. shown_sorted c.args.self.now [] [] c.in-Lemma.proof a ((c.in_ok-form-in-Lemma.ensures a).0 e)

pub adopt-requires-in-Name : goal.adopt-requires-in-Name
adopt-requires-in-Name c = λ a e. let w = (c.in_ok-form-in-Name.ensures a).0 e in subst (Sorted c.args.self.now.vocabulary []) (sym w.2) w.1.added

pub returns-in_ok-form-in-Name-clause-ok : goal.returns-in_ok-form-in-Name-clause-ok
returns-in_ok-form-in-Name-clause-ok c = rw c.in-Name.is (on_ok c.adopt-in-Name.result (λ w.
    let v = (c.in_ok-form-in-Name.ensures w.0).0 w.1 in
    ((v.0, v.1), (v.0, v.1.found, w.2 ∙ ap (with_formula c.args.self.now) v.2))) c.adopt-in-Name.ensures.ok)

pub returns-in_ok-form-in-Name-clause-illegal : goal.returns-in_ok-form-in-Name-clause-illegal
returns-in_ok-form-in-Name-clause-illegal c = λ e legal.
    let l : (symbol : Symbol) × MayName c.args.self.now c.in-Name.symbol symbol c.in-Name.form = rw c.in-Name.is at legal in
    none_some c.in_ok-form-in-Name.form (naming c.in-Name.symbol l.0 c.in-Name.form) (c.adopt-in-Name.ensures.illegal e) ((c.in_ok-form-in-Name.ensures (naming c.in-Name.symbol l.0 c.in-Name.form)).1 (l.0, l.1, refl))

pub adopt-requires-in-Choice : goal.adopt-requires-in-Choice
adopt-requires-in-Choice c = λ a e. let w = (c.in_ok-form-in-Choice.ensures a).0 e in subst (Sorted c.args.self.now.vocabulary []) (sym w.2) w.1.added

pub returns-in_ok-form-in-Choice-clause-ok : goal.returns-in_ok-form-in-Choice-clause-ok
returns-in_ok-form-in-Choice-clause-ok c = rw c.in-Choice.is (on_ok c.adopt-in-Choice.result (λ w.
    let v = (c.in_ok-form-in-Choice.ensures w.0).0 w.1 in
    ((v.0, v.1), (v.0, v.1.found, w.2 ∙ ap (with_formula c.args.self.now) v.2))) c.adopt-in-Choice.ensures.ok)

pub returns-in_ok-form-in-Choice-clause-illegal : goal.returns-in_ok-form-in-Choice-clause-illegal
returns-in_ok-form-in-Choice-clause-illegal c = λ e legal.
    let l : (symbol : Symbol) × MayChoose c.args.self.now c.in-Choice.symbol symbol c.in-Choice.form = rw c.in-Choice.is at legal in
    none_some c.in_ok-form-in-Choice.form (choice c.in-Choice.symbol l.0 c.in-Choice.form) (c.adopt-in-Choice.ensures.illegal e) ((c.in_ok-form-in-Choice.ensures (choice c.in-Choice.symbol l.0 c.in-Choice.form)).1 (l.0, l.1, refl))
