use Rattle.std.proofs.Common.{subst, arith, List, ℕ}
use Rattle.clause_rules.proofs.Firsts.{holds}
use Rattle.superpose.specs.Drafts.{SortsExist}
use Rattle.superpose.proofs.Admitted.{sorted_by, fit_by}
use Rattle.superpose.proofs.admission.is_clause.Goals as goal

pub returns : goal.returns
returns c =
    let v = c.args.signature.now in
    let clause = c.args.clause.now in (
      λ t. record {
        fit = record {
          sorted = sorted_by v clause c.as_slice-2.result c.as_slice-3.result.now c.as_slice-2.ensures c.as_slice-3.ensures (c.are_sorted.ensures.0 t);
          few = (let size = c.len.ensures in let over = c.if-len-gt-MAX_VARIABLES.false in omega arith);
        };
        exist = subst (λ (sorts : List ℕ). SortsExist v sorts) c.as_slice.ensures
            (holds c.do_exist.result (SortsExist v c.as_slice.result.now) c.if-not-do_exist.false c.do_exist.ensures);
      },
      λ h. c.are_sorted.ensures.1 (fit_by v clause c.as_slice-2.result c.as_slice-3.result.now c.as_slice-2.ensures c.as_slice-3.ensures h.fit.sorted),
    )
