-- Where no path reaches a clause that the line covers, the line covers nothing that a path reaches.
use Rattle.fof_terms.specs.Vocabulary.{Vocabulary}
use Rattle.fof_terms.specs.declared.form.Form.{Form}
use Rattle.clause_form.specs.declared.clause.Clause.{Clause}
use Rattle.substitution_search.specs.Screens.{NeverReached}
use Rattle.rule_steps.specs.code.CoverFound.{NoCover}

pub not_reached : (v : Vocabulary) (norm : Form) (line : Clause) → NeverReached line.lits norm → NoCover v norm line
not_reached v norm line never path c more s is h = let bad = never path c is in bad.3 s (h.covered bad.0 bad.1 bad.2)
