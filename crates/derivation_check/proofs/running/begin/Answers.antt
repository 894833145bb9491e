use Rattle.std.proofs.lemmas.Result.{err_from_is_err_and}
use Rattle.verifier.specs.Declarations.{declarations}
use Rattle.derivation_check.specs.Cases.{widened}
use Rattle.derivation_check.proofs.Declared.{declarations_admit, declared_is}
use Rattle.derivation_check.proofs.LogTexts.{begun_cut, header_cut, log_begun}
use Rattle.derivation_check.proofs.running.begin.Goals as goal

pub returns-in_err-write_header-clause-cut : goal.returns-in_err-write_header-clause-cut
returns-in_err-write_header-clause-cut g c =
    let p = err_from_is_err_and c.from_residual.result c.from_residual.ensures.1 in
    rw p.1 (header_cut c.args.theory.now (g.K.Sink.taken c.args.log.now) (g.K.Sink.taken c.write_header.new.sink) c.in_err-write_header.ensures.err)

pub declare-requires : goal.declare-requires
declare-requires g c = (
  widened c.args.theory.now c.args.signature.now,
  declarations_admit c.args.theory.now.vocabulary c.args.signature.now c.args.theory.now.formulas c.requires.extends c.sort_count-sorts.ensures.few c.symbol_count-symbols.ensures.few c.requires.declared,
)

pub returns-in-Ok-clause-widens : goal.returns-in-Ok-clause-widens
returns-in-Ok-clause-widens g c =
    declared_is c.args.theory.now c.declare.new.theory c.args.signature.now c.requires.extends c.sort_count-sorts.ensures.few c.symbol_count-symbols.ensures.few c.requires.declared c.in-Ok.ensures.admits

pub returns-in-Ok-clause-declared : goal.returns-in-Ok-clause-declared
returns-in-Ok-clause-declared g c =
    declarations_admit c.args.theory.now.vocabulary c.args.signature.now c.args.theory.now.formulas c.requires.extends c.sort_count-sorts.ensures.few c.symbol_count-symbols.ensures.few c.requires.declared

pub returns-in-Ok-clause-logged : goal.returns-in-Ok-clause-logged
returns-in-Ok-clause-logged g c =
    log_begun (g.K.Sink.taken c.args.log.now) (g.K.Sink.taken c.write_header.new.sink) (g.K.Sink.taken c.declare.new.log) (declarations c.args.theory.now.vocabulary c.args.signature.now) c.in_ok-write_header.ensures.ok c.in-Ok.ensures.logged

pub returns-in-Err-clause-cut : goal.returns-in-Err-clause-cut
returns-in-Err-clause-cut g c =
    begun_cut c.args.theory.now (g.K.Sink.taken c.args.log.now) (g.K.Sink.taken c.write_header.new.sink) (g.K.Sink.taken c.declare.new.log) c.in_ok-write_header.ensures.ok c.in-Err.ensures.cut
