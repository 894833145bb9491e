-- One layer of a term or a formula of a text.
use Rattle.tptp_base.specs.declared.surface.STerm.TheViews.{outs-Var, outs-App}
use Rattle.tptp_base.specs.declared.surface.Surface.TheViews.{outs-True, outs-False, outs-Atom, outs-Eq, outs-Neq, outs-Not, outs-And, outs-Or, outs-Binary, outs-Bind}

pub ruleset term_layers = (outs-Var, outs-App)

pub ruleset form_layers = (outs-True, outs-False, outs-Atom, outs-Eq, outs-Neq, outs-Not, outs-And, outs-Or, outs-Binary, outs-Bind)
