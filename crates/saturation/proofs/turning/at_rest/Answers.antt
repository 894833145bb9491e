use Rattle.std.proofs.Common.{arith, subst, ◌<◌, ◌≡◌, length}
use Rattle.saturation.specs.Members.{clauses_of}
use Rattle.saturation.specs.code.Steps.{AreCoveredIn}
use Rattle.saturation.proofs.Turns.{answers_dry, answers_heavy, answers_full}
use Rattle.saturation.proofs.turning.at_rest.Goals as goal

pub returns-then-covered : goal.returns-then-covered
returns-then-covered c = λ v whole inputs heavy h kept k.
    answers_dry v whole inputs c.args.limit c.args.list heavy c.requires kept h (subst (AreCoveredIn v (clauses_of c.args.list) heavy) c.if-covered.true k)

pub returns-then-len-limit : goal.returns-then-len-limit
returns-then-len-limit c = λ v whole inputs heavy h kept k.
    let few : length c.args.list < c.args.limit = omega arith in
    answers_heavy v whole inputs c.args.limit c.args.list heavy few kept h (subst (AreCoveredIn v (clauses_of c.args.list) heavy) c.if-covered.false k)

pub returns-else-len-limit : goal.returns-else-len-limit
returns-else-len-limit c = λ v whole inputs heavy h kept k.
    let full : length c.args.list ≡ c.args.limit = omega arith in
    answers_full v whole inputs c.args.limit c.args.list heavy full kept h (subst (AreCoveredIn v (clauses_of c.args.list) heavy) c.if-covered.false k)
