-- The quantifiers over the body whose nodes aren't joined, in the order of their variables, have the flat form as their
-- normal form.
use Rattle.std.specs.Prelude.{ℕ, ◌≡◌, ◌+◌, ◌<◌, true, List, [], ◌∷◌, length, map, refl}
use Rattle.std.proofs.Common.{ap, subst, ◌∙◌, arith}
use Rattle.std.proofs.lemmas.List.{length-map}
use Rattle.fof_terms.specs.declared.form.Form.{Form}
use Rattle.fof_terms.specs.Variables.{has_variable}
use Rattle.clause_form.specs.ClauseView.{closed_by}
use Rattle.clause_form.specs.Norm.{norm_of, quantified}
use Rattle.clause_form.proofs.NormFacts.{norm_of-All, quantified-kept}
use Rattle.flat_form.specs.Flat.{pulled, order_of, new_number, sort_of, flattened}
use Rattle.flat_form.specs.Renumbered.{renumbered}
use Rattle.flat_form.proofs.FlatLaws.{variable_in_closed, each_stands}
use Rattle.flat_form.proofs.Own.{IsOwn}
use Rattle.flat_proofs.specs.code.Loose.{loose}
use Rattle.flat_proofs.specs.code.Permuting.{loose_flat}
use Rattle.flat_proofs.proofs.LooseFacts.{loose_norm}
use Rattle.flat_proofs.proofs.NormWalk.{norm_walk}

norm_closed : (sorts : List ℕ) (a : Form) → ((k : ℕ) → k < length sorts → has_variable k (norm_of true a) ≡ true) → norm_of true (closed_by sorts a) ≡ closed_by sorts (norm_of true a)
norm_closed [] a stand = refl
norm_closed (s ∷ sorts) a stand =
    let rest = norm_closed sorts a (λ k lt. stand k (omega arith)) in
    let none : 0 + length sorts ≡ length sorts = omega arith in
    let there : has_variable 0 (closed_by sorts (norm_of true a)) ≡ true = variable_in_closed sorts (norm_of true a) 0 ∙ (ap (λ n. has_variable n (norm_of true a)) none ∙ stand (length sorts) (omega arith)) in
    norm_of-All true s (closed_by sorts a) ∙ (ap (quantified true s) rest ∙ quantified-kept true s (closed_by sorts (norm_of true a)) there)

pub norm_of_loose : (a : Form) → IsOwn a → norm_of true (loose_flat a) ≡ flattened a
norm_of_loose a o =
    let p = pulled a in
    let n = length p.sorts in
    let order = order_of n p.body in
    let new = new_number order n in
    let ss = map (sort_of p.sorts) order in
    let body : norm_of true (renumbered new 0 (loose a).body) ≡ renumbered new 0 p.body = norm_walk new (loose a).body true 0 ∙ ap (renumbered new 0) (loose_norm a o) in
    norm_closed ss (renumbered new 0 (loose a).body)
    (λ k lt. ap (has_variable k) body ∙ each_stands p.sorts p.body k (subst (λ m. k < m) (length-map order (sort_of p.sorts)) lt))
    ∙ ap (closed_by ss) body
