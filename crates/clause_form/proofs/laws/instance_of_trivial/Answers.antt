use Rattle.std.proofs.Common.{subst, sym, List}
use Rattle.clause_form.specs.declared.clause.Lit.{Lit}
use Rattle.clause_form.specs.Covers.{IsTrivial}
use Rattle.clause_form.proofs.ClauseLaws.{trivial_image}
use Rattle.clause_form.proofs.laws.instance_of_trivial.Goals as goal

pub returns : goal.returns
returns c = λ v c e is trivial. subst (λ (ls : List Lit). IsTrivial ls) (sym is.1.same) (trivial_image is.0 c.lits trivial)
