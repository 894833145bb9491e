use Rattle.std.proofs.Common.{ℕ, ◌≤◌, sym, subst}
use Rattle.read_problems.specs.declared.refusals.TheConstants.{TOTAL_SIZE}
use Rattle.read_problems.proofs.Sourced.{all_declared, few_names, good_forms, posed_gives, theory_signature}
use Rattle.tptp_run.proofs.Printing.{proof_from}
use Rattle.tptp_run.proofs.Proves.{source_proofs}
use Rattle.tptp_run.proofs.prove.say_proof.Goals as goal

pub source_of-requires : goal.source_of-requires
source_of-requires c = c.requires.sorted

pub say_items-requires : goal.say_items-requires
say_items-requires c =
    let posed = c.args.posed in
    let source = c.in_ok-source.source in
    let is = c.in_ok-source.ensures in
    record {
      proof = proof_from posed c.args.limit c.args.problem.now c.args.items.now source c.requires.proof is.theory is.signature is.names is.marks is.conjecture;
      budget = subst (λ (n : ℕ). n ≤ TOTAL_SIZE) (sym is.read) c.requires.budget;
      few = few_names posed source c.requires.few is.names;
      same = theory_signature posed source is.theory is.signature;
      sentences = good_forms posed source c.requires.sorted is.theory is.signature;
      declared = all_declared posed source c.requires.declared is.signature;
    }

pub returns-clause-said : goal.returns-clause-said
returns-clause-said c =
    let posed = c.args.posed in
    let source = c.in_ok-source.source in
    let is = c.in_ok-source.ensures in
    source_proofs c.args.limit c.args.problem.now posed c.args.items.now source is.read (posed_gives posed source is.theory is.signature is.names is.marks is.conjecture) c.say_items.result c.say_items.ensures.said
