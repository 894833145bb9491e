use Rattle.split_defs.proofs.Unfolding.{covers_there, joint_here, named_here, parent_clause, parent_opened, parent_there, parent_within}
use Rattle.split_defs.proofs.proving.split_proof.Goals as goal

pub all_stages-requires-clause-named : goal.all_stages-requires-clause-named
all_stages-requires-clause-named c =
    let s = c.requires.shown in
    (s.2, named_here c.args.sig.now c.args.parents.now c.args.line.now c.args.parent c.args.names.now c.args.subst.now s.0 s.1 s.2 s.3 s.4 c.in_ok-opened.opened c.in_ok-opened.ensures)

pub bounds-parents-parent : goal.bounds-parents-parent
bounds-parents-parent c =
    let s = c.requires.shown in
    parent_within c.args.sig.now c.args.parents.now c.args.line.now c.args.parent c.args.names.now c.args.subst.now s.0 s.1 s.2 s.3 s.4

pub known_clause-requires-2 : goal.known_clause-requires-2
known_clause-requires-2 c =
    let s = c.requires.shown in
    (s.1, parent_clause c.args.sig.now c.args.parents.now c.args.line.now c.args.parent c.args.names.now c.args.subst.now s.0 s.1 s.2 s.3 s.4 c.index-parents-parent.result c.index-parents-parent.is)

pub by_stages-requires-clause-there : goal.by_stages-requires-clause-there
by_stages-requires-clause-there c =
    let s = c.requires.shown in
    (c.args.parent, parent_there c.args.sig.now c.args.parents.now c.args.line.now c.args.parent c.args.names.now c.args.subst.now s.0 s.1 s.2 s.3 s.4 c.index-parents-parent.result c.index-parents-parent.is)

pub by_stages-requires-clause-parent : goal.by_stages-requires-clause-parent
by_stages-requires-clause-parent c =
    let s = c.requires.shown in
    parent_opened c.args.sig.now c.args.parents.now c.args.line.now c.args.parent c.args.names.now c.args.subst.now s.0 s.1 s.2 s.3 s.4 c.index-parents-parent.result c.index-parents-parent.is c.in_ok-clause.clause c.requires.ready c.in_ok-clause.ensures

pub by_stages-requires-clause-joint : goal.by_stages-requires-clause-joint
by_stages-requires-clause-joint c =
    let s = c.requires.shown in
    joint_here c.args.sig.now c.args.parents.now c.args.line.now c.args.parent c.args.names.now c.args.subst.now s.0 s.1 s.2 s.3 s.4 c.in_ok-opened.opened c.in_ok-opened.ensures c.in_ok-stages.stages c.in_ok-stages.ensures.clauses c.index-parents-parent.result c.index-parents-parent.is c.in_ok-clause.clause c.in_ok-clause.ensures

pub by_stages-requires-clause-covers : goal.by_stages-requires-clause-covers
by_stages-requires-clause-covers c =
    let s = c.requires.shown in
    covers_there c.args.sig.now c.args.parents.now c.args.line.now c.args.parent c.args.names.now c.args.subst.now s.0 s.1 s.2 s.3 s.4 c.in_ok-opened.opened c.in_ok-opened.ensures c.in_ok-stages.stages c.in_ok-stages.ensures.clauses c.index-parents-parent.result c.index-parents-parent.is c.in_ok-clause.clause c.in_ok-clause.ensures
