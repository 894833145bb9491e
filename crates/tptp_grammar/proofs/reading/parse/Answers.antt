use Rattle.std.proofs.Common.{Ok}
use Rattle.tptp_grammar.proofs.OneAnswer.{only, deep, all_taken, refused}
use Rattle.tptp_grammar.proofs.Whole.{one_list}
use Rattle.tptp_grammar.proofs.reading.parse.Goals as goal

pub returns-in_err-parse_into-clause-answers : goal.returns-in_err-parse_into-clause-answers
returns-in_err-parse_into-clause-answers c =
    refused c.args.tokens.now.style c.args.tokens.now.items c.args.tokens.now.end c.from_residual.result c.in_err-parse_into.field-0.0 c.from_residual.ensures.1 c.in_err-parse_into.ensures.fault

pub returns-in_err-parse_into-clause-only : goal.returns-in_err-parse_into-clause-only
returns-in_err-parse_into-clause-only c = λ items s.
    let style = c.args.tokens.now.style in
    let tokens = c.args.tokens.now.items in
    let end = c.args.tokens.now.end in
    only style tokens end c.from_residual.result (refused style tokens end c.from_residual.result c.in_err-parse_into.field-0.0 c.from_residual.ensures.1 c.in_err-parse_into.ensures.fault) items s

pub returns-in_err-parse_into-clause-deep : goal.returns-in_err-parse_into-clause-deep
returns-in_err-parse_into-clause-deep c = λ items us over d k.
    let style = c.args.tokens.now.style in
    let tokens = c.args.tokens.now.items in
    let end = c.args.tokens.now.end in
    deep style tokens end c.from_residual.result (refused style tokens end c.from_residual.result c.in_err-parse_into.field-0.0 c.from_residual.ensures.1 c.in_err-parse_into.ensures.fault) items us over d k

pub returns-in_err-parse_into-clause-one : goal.returns-in_err-parse_into-clause-one
returns-in_err-parse_into-clause-one c = λ first second s t. one_list c.args.tokens.now.style c.args.tokens.now.items first second s t

pub returns-clause-answers : goal.returns-clause-answers
returns-clause-answers c =
    all_taken c.args.tokens.now.style c.args.tokens.now.items c.args.tokens.now.end c.new-found.result c.parse_into.new.into c.new-found.ensures c.in_ok-parse_into.ensures.taken

pub returns-clause-only : goal.returns-clause-only
returns-clause-only c = λ items s.
    let style = c.args.tokens.now.style in
    let tokens = c.args.tokens.now.items in
    let end = c.args.tokens.now.end in
    only style tokens end (Ok c.parse_into.new.into) (all_taken style tokens end c.new-found.result c.parse_into.new.into c.new-found.ensures c.in_ok-parse_into.ensures.taken) items s

pub returns-clause-deep : goal.returns-clause-deep
returns-clause-deep c = λ items us over d k.
    let style = c.args.tokens.now.style in
    let tokens = c.args.tokens.now.items in
    let end = c.args.tokens.now.end in
    deep style tokens end (Ok c.parse_into.new.into) (all_taken style tokens end c.new-found.result c.parse_into.new.into c.new-found.ensures c.in_ok-parse_into.ensures.taken) items us over d k

pub returns-clause-one : goal.returns-clause-one
returns-clause-one c = λ first second s t. one_list c.args.tokens.now.style c.args.tokens.now.items first second s t
