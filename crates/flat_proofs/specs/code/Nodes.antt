-- What shows a node of bodies, of closed bodies or of linked formulas.
use Rattle.std.specs.Prelude.{Bool, true, false, List, []}
use Rattle.fof_terms.specs.declared.form.Form.{Form, Or}
use Rattle.kernel.specs.declared.proof.Proof.{Proof, Hyp, AndI, OrE, Raa}
use Rattle.flat_form.specs.Flat.{Pulled}
use Rattle.flat_proofs.specs.code.Gathering.{and_arms, or_arms, back_arms, refuted}
use Rattle.flat_proofs.specs.code.Moving.{and_links, or_links}

-- the node of the bodies, by the node of the closed bodies
abbrev pub bodies_tree : Bool → List Form → List Pulled → Proof
bodies_tree true bs ps = AndI (and_arms 0 ps)
bodies_tree false bs ps = OrE (Or bs) (Hyp 0) (or_arms bs 0 ps)

-- the node of the closed bodies, by all quantifiers over the node of the bodies
abbrev pub closed_tree : Bool → List Form → List Pulled → Proof
closed_tree true cs ps = AndI (back_arms [] 0 ps)
closed_tree false cs ps = Raa (Or cs) (refuted cs 0 0 ps)

-- the node of the second formulas, by that of the first and the parts
abbrev pub links_tree : Bool → List Form → List Proof → Proof
links_tree true to ps = AndI (and_links 0 ps)
links_tree false to ps = OrE (Or to) (Hyp 0) (or_links to 0 ps)
