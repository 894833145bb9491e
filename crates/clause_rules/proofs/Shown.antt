-- A justification shows that its rule holds.
use Rattle.std.specs.Prelude.{List}
use Rattle.fof_terms.specs.Vocabulary.{Vocabulary}
use Rattle.fof_terms.specs.declared.form.Form.{Form}
use Rattle.clause_form.specs.declared.path.Parent.{Parent}
use Rattle.clause_form.specs.Covers.{scope_of}
use Rattle.clause_rules.specs.declared.just.Just.{Just}
use Rattle.clause_rules.specs.declared.just.Just.TheVariants.{Norm, Cover, Tautology, Resolution, Paramodulation, EqFactor, Rewrite}
use Rattle.clause_rules.specs.Answers.{Holds, rule_of}
use Rattle.clause_rules.specs.Justified.{Shows}
use Rattle.clause_rules.specs.Steps.{scope_of_both, images_of_parents}

pub holds_when_shown : (v : Vocabulary) (parents : List Parent) (line : Form) (just : Just) → Shows v parents line just → Holds v parents line (rule_of just)
holds_when_shown v parents line (Norm a) h = (a, h)
holds_when_shown v parents line (Cover a path images) h = (a, path, h.0, h.1, scope_of h.0, images_of_parents h.1 images, h.3)
holds_when_shown v parents line Tautology h = h
holds_when_shown v parents line (Resolution a b i j images) h = (a, b, i, j, h.0, h.1, h.2, scope_of_both h.0 h.1, images_of_parents h.2 images, h.4)
holds_when_shown v parents line (Paramodulation a b i place j flipped images) h = (a, b, i, place, j, flipped, h.0, h.1, h.2, scope_of_both h.0 h.1, images_of_parents h.2 images, h.4)
holds_when_shown v parents line (EqFactor a i f j g images) h = (a, i, f, j, g, h.0, h.1, scope_of h.0, images_of_parents h.1 images, h.3)
holds_when_shown v parents line (Rewrite a b target flipped by_images images) h = (a, b, target, flipped, h.0, h.1, h.2, scope_of h.1, images_of_parents h.0 by_images, scope_of_both h.0 h.1, images_of_parents h.2 images, h.5)
