use Rattle.std.proofs.Common.{sym, subst}
use Rattle.std.specs.Prelude.{List}
use Rattle.std.specs.List.{All as Each}
use Rattle.saturation.specs.Members.{clauses_of}
use Rattle.saturation.specs.declared.member.Member.{Member}
use Rattle.superpose.specs.Drafts.{IsClause}
use Rattle.search_proofs.specs.code.Derived.{AreDerived, IsDerived}
use Rattle.search_proofs.proofs.Merged.{last_derived, merged_derived, merged_fit}
use Rattle.search_proofs.proofs.entries.refutation_entries.Goals as goal

pub entries_by-requires-clause-members : goal.entries_by-requires-clause-members
entries_by-requires-clause-members c =
    subst (AreDerived c.args.signature.now c.args.inputs.now) (sym c.as_slice.ensures) (merged_derived c.args.signature.now c.args.inputs.now c.args.members.now c.in_ok-merged.merged c.in_ok-merged.ensures c.requires.fit c.requires.members)

pub entries_by-requires-clause-last : goal.entries_by-requires-clause-last
entries_by-requires-clause-last c =
    subst (λ (ms : List Member). IsDerived c.args.signature.now c.args.inputs.now (clauses_of ms) c.args.empty.now) (sym c.as_slice.ensures)
    (last_derived c.args.signature.now c.args.inputs.now c.args.members.now c.in_ok-merged.merged c.in_ok-merged.ensures c.requires.fit c.args.empty.now c.requires.last c.requires.empty)

pub entries_by-requires-clause-fit : goal.entries_by-requires-clause-fit
entries_by-requires-clause-fit c =
    subst (Each (λ (m : Member). IsClause c.args.signature.now m.clause)) (sym c.as_slice.ensures) (merged_fit c.args.signature.now c.args.inputs.now c.args.members.now c.in_ok-merged.merged c.in_ok-merged.ensures c.requires.fit)
