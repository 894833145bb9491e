use Rattle.clause_form.specs.Sizes.{norm_size_of}
use Rattle.step_clauses.proofs.InputFacts.{one_clausable, not_above}
use Rattle.step_clauses.proofs.clausal.clausify.Goals as goal

pub clausify_norm-requires : goal.clausify_norm-requires
clausify_norm-requires c =
    let small = not_above (norm_size_of c.args.form.now) (λ h. let clash = c.in_ok-norm.ensures.wide.1 h in cc) in
    one_clausable c.requires.below.vocabulary c.args.next c.args.form.now c.in_ok-norm.norm c.requires.below.new c.requires.below.sorted small (c.requires.numbers small) c.in_ok-norm.ensures.ok
