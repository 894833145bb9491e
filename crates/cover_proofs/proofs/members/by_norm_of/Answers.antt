use Rattle.std.proofs.Common.{refl, ap, sym, true, ◌∙◌}
use Rattle.clause_form.specs.Norm.{norm_of}
use Rattle.clause_form.specs.declared.path.Parent.{Parent}
use Rattle.cover_proofs.proofs.MemberLines.{found_in, fact_shows, lone_ready, lone_there}
use Rattle.cover_proofs.proofs.members.by_norm_of.Goals as goal

pub returns-then-equal : goal.returns-then-equal
returns-then-equal c =
    let found = found_in c.args.signature.now c.args.parent.now c.args.found.form c.get-3.result.now c.in_ok-last.last.form c.args.found.part c.in_ok-own.own c.in_ok-last.last.part c.in_ok-last.last.more c.requires.ready c.requires.fact (c.get-3.ensures ∙ c.in_ok-norm.ensures ∙ c.in_ok-small_norm.ensures ∙ ap (norm_of true) c.get-2.ensures) (rw c.get.ensures at c.in_ok-own.ensures) c.in_ok-last.ensures.leads c.in_ok-last.ensures.few in
    fact_shows 900000000 c.args.signature.now c.args.parent.now c.in_ok-last.last.form c.args.line.now c.in_ok-last.last.part (sym c.get-4.ensures ∙ c.if-equal.ensures.0 refl) found.1

pub by_lone-requires-clause-ready : goal.by_lone-requires-clause-ready
by_lone-requires-clause-ready c =
    let found = found_in c.args.signature.now c.args.parent.now c.args.found.form c.get-3.result.now c.in_ok-last.last.form c.args.found.part c.in_ok-own.own c.in_ok-last.last.part c.in_ok-last.last.more c.requires.ready c.requires.fact (c.get-3.ensures ∙ c.in_ok-norm.ensures ∙ c.in_ok-small_norm.ensures ∙ ap (norm_of true) c.get-2.ensures) (rw c.get.ensures at c.in_ok-own.ensures) c.in_ok-last.ensures.leads c.in_ok-last.ensures.few in
    lone_ready c.args.signature.now c.as_slice.result.now c.in_ok-cited.ensures.0 (c.as_slice.ensures ∙ c.in_ok-cited.ensures.1) (rw c.in_ok-cited.ensures.2 found.0)

pub by_lone-requires-clause-fact : goal.by_lone-requires-clause-fact
by_lone-requires-clause-fact c = λ p k at.
    let found = found_in c.args.signature.now c.args.parent.now c.args.found.form c.get-3.result.now c.in_ok-last.last.form c.args.found.part c.in_ok-own.own c.in_ok-last.last.part c.in_ok-last.last.more c.requires.ready c.requires.fact (c.get-3.ensures ∙ c.in_ok-norm.ensures ∙ c.in_ok-small_norm.ensures ∙ ap (norm_of true) c.get-2.ensures) (rw c.get.ensures at c.in_ok-own.ensures) c.in_ok-last.ensures.leads c.in_ok-last.ensures.few in
    rw (ap (λ (q : Parent). q.form) (lone_there c.as_slice.result.now c.in_ok-cited.ensures.0 p k (c.as_slice.ensures ∙ c.in_ok-cited.ensures.1) at) ∙ c.in_ok-cited.ensures.2) found.1
