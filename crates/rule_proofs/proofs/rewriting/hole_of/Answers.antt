use Rattle.std.specs.Prelude.{List, map, ◌≡◌}
use Rattle.std.proofs.Common.{ap, ◌∙◌}
use Rattle.fof_terms.specs.declared.term.Term.{Term, Var}
use Rattle.fof_terms.specs.Lift.{lifted_term}
use Rattle.derive_kit.proofs.Built.{ok_map}
use Rattle.clause_proofs.specs.Bodies.{body_of}
use Rattle.rule_proofs.specs.code.Rewriting.{filled}
use Rattle.rule_proofs.proofs.rewriting.hole_of.Goals as goal

pub returns : goal.returns
returns c =
    let same : c.as_slice.result.now ≡ c.args.images.now = c.as_slice.ensures ∙ c.images.view_is in
    ok_map c.form_of_body.result (λ form e. e ∙ ap (body_of c.args.is_or) (c.as_slice-2.ensures ∙ c.in_ok-lits.ensures ∙ ap (λ (xs : List Term). filled xs c.args.marked.now (Var 0)) (c.in_ok-images.ensures ∙ ap (map (lifted_term 1 0)) same))) c.form_of_body.ensures
