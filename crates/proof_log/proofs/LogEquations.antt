-- One equation for each node: what its text is in those of its parts.
use Rattle.std.specs.Prelude.{ℕ, List, ◌∷◌, ◌++◌, ◌≡◌, map, codes}
use Rattle.std.proofs.Common.{ap, ◌∙◌}
use Rattle.fof_terms.specs.declared.term.Term.{Term, Var, App}
use Rattle.fof_terms.specs.declared.term.Term.TheViews.{roll-Term}
use Rattle.fof_terms.specs.declared.term.Term.TheFolds.{fold-roll-Term}
use Rattle.fof_terms.specs.declared.form.Form.{Form, Atom, Eq, Not, And, Or, Imp, Iff, All, Ex}
use Rattle.fof_terms.specs.declared.form.Form.TheViews.{roll-Form}
use Rattle.fof_terms.specs.declared.form.Form.TheFolds.{fold-roll-Form}
use Rattle.kernel.specs.declared.proof.Proof.{Proof, Line, Hyp, AndI, AndE, OrI, OrE, ImpI, ImpE, NotI, NotE, Raa, IffI, IffL, IffR, AllI, AllE, ExI, ExE, Refl, Subst, Inhabit}
use Rattle.kernel.specs.declared.proof.Proof.TheViews.{roll-Proof}
use Rattle.kernel.specs.declared.proof.Proof.TheFolds.{fold-roll-Proof}
use denote.Hole.Carrier.{roll}
use Rattle.proof_log.specs.Words.{Word, small, list_of, word, text_of}
use Rattle.proof_log.proofs.WordLaws.{text-append, text-deeper, text-list, text_equations}
use Rattle.proof_log.specs.LogText.{number, list_text, term_node, term_words, form_node, form_words, form_text, proof_node, proof_words, proof_text}
use Rattle.proof_log.specs.code.LogText.{terms_text, forms_text, term_text}
use Rattle.fof_terms.specs.declared.term.Term.TheOpen as term
use Rattle.fof_terms.specs.declared.form.Form.TheOpen as form
use Rattle.kernel.specs.declared.proof.Proof.TheOpen as proof

pub term_text-Var : (k : ℕ) → term_text (Var k) ≡ word (codes "v") ++ number k
unfolding term_text form_text proof_text term_words form_words proof_words roll-Term roll
term_text-Var k = ap text_of (fold-roll-Term (List Word) term_node (term.Var k)) ∙ simp text_equations

pub term_text-App : (f : ℕ) (args : List Term) → term_text (App f args) ≡ word (codes "f") ++ (number f ++ terms_text args)
unfolding term_text form_text proof_text term_words form_words proof_words roll-Term roll
term_text-App f args = ap text_of (fold-roll-Term (List Word) term_node (term.App f args)) ∙ simp text_equations

pub ruleset term_equations = (term_text-Var, term_text-App)

pub form_text-Atom : (p : ℕ) (args : List Term) → form_text (Atom p args) ≡ word (codes "a") ++ (number p ++ terms_text args)
unfolding term_text form_text proof_text term_words form_words proof_words roll-Form roll
form_text-Atom p args = ap text_of (fold-roll-Form (List Word) form_node (form.Atom p args)) ∙ simp text_equations

pub form_text-Eq : (s : Term) (t : Term) → form_text (Eq s t) ≡ word (codes "=") ++ (term_text s ++ term_text t)
unfolding term_text form_text proof_text term_words form_words proof_words roll-Form roll
form_text-Eq s t = ap text_of (fold-roll-Form (List Word) form_node (form.Eq s t)) ∙ simp text_equations

pub form_text-Not : (a : Form) → form_text (Not a) ≡ word (codes "~") ++ form_text a
unfolding term_text form_text proof_text term_words form_words proof_words roll-Form roll
form_text-Not a = ap text_of (fold-roll-Form (List Word) form_node (form.Not a)) ∙ simp text_equations

pub form_text-And : (members : List Form) → form_text (And members) ≡ word (codes "&") ++ forms_text members
unfolding term_text form_text proof_text term_words form_words proof_words roll-Form roll
form_text-And members = ap text_of (fold-roll-Form (List Word) form_node (form.And members)) ∙ simp text_equations

pub form_text-Or : (members : List Form) → form_text (Or members) ≡ word (codes "|") ++ forms_text members
unfolding term_text form_text proof_text term_words form_words proof_words roll-Form roll
form_text-Or members = ap text_of (fold-roll-Form (List Word) form_node (form.Or members)) ∙ simp text_equations

pub form_text-Imp : (a : Form) (b : Form) → form_text (Imp a b) ≡ word (codes ">") ++ (form_text a ++ form_text b)
unfolding term_text form_text proof_text term_words form_words proof_words roll-Form roll
form_text-Imp a b = ap text_of (fold-roll-Form (List Word) form_node (form.Imp a b)) ∙ simp text_equations

pub form_text-Iff : (a : Form) (b : Form) → form_text (Iff a b) ≡ word (codes "<>") ++ (form_text a ++ form_text b)
unfolding term_text form_text proof_text term_words form_words proof_words roll-Form roll
form_text-Iff a b = ap text_of (fold-roll-Form (List Word) form_node (form.Iff a b)) ∙ simp text_equations

pub form_text-All : (s : ℕ) (a : Form) → form_text (All s a) ≡ word (codes "!") ++ (number s ++ form_text a)
unfolding term_text form_text proof_text term_words form_words proof_words roll-Form roll
form_text-All s a = ap text_of (fold-roll-Form (List Word) form_node (form.All s a)) ∙ simp text_equations

pub form_text-Ex : (s : ℕ) (a : Form) → form_text (Ex s a) ≡ word (codes "?") ++ (number s ++ form_text a)
unfolding term_text form_text proof_text term_words form_words proof_words roll-Form roll
form_text-Ex s a = ap text_of (fold-roll-Form (List Word) form_node (form.Ex s a)) ∙ simp text_equations

pub ruleset form_equations = (form_text-Atom, form_text-Eq, form_text-Not, form_text-And, form_text-Or, form_text-Imp, form_text-Iff, form_text-All, form_text-Ex, term_equations)

pub proof_text-Line : (i : ℕ) → proof_text (Line i) ≡ word (codes "line") ++ number i
unfolding term_text form_text proof_text term_words form_words proof_words roll-Proof roll
proof_text-Line i = ap text_of (fold-roll-Proof (List Word) proof_node (proof.Line i)) ∙ simp text_equations

pub proof_text-Hyp : (i : ℕ) → proof_text (Hyp i) ≡ word (codes "hyp") ++ number i
unfolding term_text form_text proof_text term_words form_words proof_words roll-Proof roll
proof_text-Hyp i = ap text_of (fold-roll-Proof (List Word) proof_node (proof.Hyp i)) ∙ simp text_equations

pub proof_text-AndI : (ps : List Proof) → proof_text (AndI ps) ≡ word (codes "andi") ++ list_text (map proof_text ps)
unfolding term_text form_text proof_text term_words form_words proof_words roll-Proof roll
proof_text-AndI ps = ap text_of (fold-roll-Proof (List Word) proof_node (proof.AndI ps)) ∙ simp text_equations

pub proof_text-AndE : (k : ℕ) (p : Proof) → proof_text (AndE k p) ≡ word (codes "ande") ++ (number k ++ proof_text p)
unfolding term_text form_text proof_text term_words form_words proof_words roll-Proof roll
proof_text-AndE k p = ap text_of (fold-roll-Proof (List Word) proof_node (proof.AndE k p)) ∙ simp text_equations

pub proof_text-OrI : (members : List Form) (k : ℕ) (p : Proof) → proof_text (OrI members k p) ≡ word (codes "ori") ++ (forms_text members ++ (number k ++ proof_text p))
unfolding term_text form_text proof_text term_words form_words proof_words roll-Proof roll
proof_text-OrI members k p = ap text_of (fold-roll-Proof (List Word) proof_node (proof.OrI members k p)) ∙ ap (λ l. word (codes "ori") ++ l) (text-deeper (list_of (map form_words members) ++ (small k ∷ proof_words p)) ∙ text-append (list_of (map form_words members)) (small k ∷ proof_words p) ∙ ap (λ l. l ++ (number k ++ text_of (proof_words p))) (text-list form_words members))

pub proof_text-OrE : (a : Form) (p : Proof) (arms : List Proof) → proof_text (OrE a p arms) ≡ word (codes "ore") ++ (form_text a ++ (proof_text p ++ list_text (map proof_text arms)))
unfolding term_text form_text proof_text term_words form_words proof_words roll-Proof roll
proof_text-OrE a p arms = ap text_of (fold-roll-Proof (List Word) proof_node (proof.OrE a p arms)) ∙ simp text_equations

pub proof_text-ImpI : (a : Form) (p : Proof) → proof_text (ImpI a p) ≡ word (codes "impi") ++ (form_text a ++ proof_text p)
unfolding term_text form_text proof_text term_words form_words proof_words roll-Proof roll
proof_text-ImpI a p = ap text_of (fold-roll-Proof (List Word) proof_node (proof.ImpI a p)) ∙ simp text_equations

pub proof_text-ImpE : (p : Proof) (q : Proof) → proof_text (ImpE p q) ≡ word (codes "impe") ++ (proof_text p ++ proof_text q)
unfolding term_text form_text proof_text term_words form_words proof_words roll-Proof roll
proof_text-ImpE p q = ap text_of (fold-roll-Proof (List Word) proof_node (proof.ImpE p q)) ∙ simp text_equations

pub proof_text-NotI : (a : Form) (p : Proof) → proof_text (NotI a p) ≡ word (codes "noti") ++ (form_text a ++ proof_text p)
unfolding term_text form_text proof_text term_words form_words proof_words roll-Proof roll
proof_text-NotI a p = ap text_of (fold-roll-Proof (List Word) proof_node (proof.NotI a p)) ∙ simp text_equations

pub proof_text-NotE : (p : Proof) (q : Proof) → proof_text (NotE p q) ≡ word (codes "note") ++ (proof_text p ++ proof_text q)
unfolding term_text form_text proof_text term_words form_words proof_words roll-Proof roll
proof_text-NotE p q = ap text_of (fold-roll-Proof (List Word) proof_node (proof.NotE p q)) ∙ simp text_equations

pub proof_text-Raa : (a : Form) (p : Proof) → proof_text (Raa a p) ≡ word (codes "raa") ++ (form_text a ++ proof_text p)
unfolding term_text form_text proof_text term_words form_words proof_words roll-Proof roll
proof_text-Raa a p = ap text_of (fold-roll-Proof (List Word) proof_node (proof.Raa a p)) ∙ simp text_equations

pub proof_text-IffI : (a : Form) (b : Form) (p : Proof) (q : Proof) → proof_text (IffI a b p q) ≡ word (codes "iffi") ++ (form_text a ++ (form_text b ++ (proof_text p ++ proof_text q)))
unfolding term_text form_text proof_text term_words form_words proof_words roll-Proof roll
proof_text-IffI a b p q = ap text_of (fold-roll-Proof (List Word) proof_node (proof.IffI a b p q)) ∙ simp text_equations

pub proof_text-IffL : (p : Proof) (q : Proof) → proof_text (IffL p q) ≡ word (codes "iffl") ++ (proof_text p ++ proof_text q)
unfolding term_text form_text proof_text term_words form_words proof_words roll-Proof roll
proof_text-IffL p q = ap text_of (fold-roll-Proof (List Word) proof_node (proof.IffL p q)) ∙ simp text_equations

pub proof_text-IffR : (p : Proof) (q : Proof) → proof_text (IffR p q) ≡ word (codes "iffr") ++ (proof_text p ++ proof_text q)
unfolding term_text form_text proof_text term_words form_words proof_words roll-Proof roll
proof_text-IffR p q = ap text_of (fold-roll-Proof (List Word) proof_node (proof.IffR p q)) ∙ simp text_equations

pub proof_text-AllI : (s : ℕ) (p : Proof) → proof_text (AllI s p) ≡ word (codes "alli") ++ (number s ++ proof_text p)
unfolding term_text form_text proof_text term_words form_words proof_words roll-Proof roll
proof_text-AllI s p = ap text_of (fold-roll-Proof (List Word) proof_node (proof.AllI s p)) ∙ simp text_equations

pub proof_text-AllE : (t : Term) (p : Proof) → proof_text (AllE t p) ≡ word (codes "alle") ++ (term_text t ++ proof_text p)
unfolding term_text form_text proof_text term_words form_words proof_words roll-Proof roll
proof_text-AllE t p = ap text_of (fold-roll-Proof (List Word) proof_node (proof.AllE t p)) ∙ simp text_equations

pub proof_text-ExI : (s : ℕ) (a : Form) (t : Term) (p : Proof) → proof_text (ExI s a t p) ≡ word (codes "exi") ++ (number s ++ (form_text a ++ (term_text t ++ proof_text p)))
unfolding term_text form_text proof_text term_words form_words proof_words roll-Proof roll
proof_text-ExI s a t p = ap text_of (fold-roll-Proof (List Word) proof_node (proof.ExI s a t p)) ∙ simp text_equations

pub proof_text-ExE : (a : Form) (p : Proof) (q : Proof) → proof_text (ExE a p q) ≡ word (codes "exe") ++ (form_text a ++ (proof_text p ++ proof_text q))
unfolding term_text form_text proof_text term_words form_words proof_words roll-Proof roll
proof_text-ExE a p q = ap text_of (fold-roll-Proof (List Word) proof_node (proof.ExE a p q)) ∙ simp text_equations

pub proof_text-Refl : (t : Term) → proof_text (Refl t) ≡ word (codes "refl") ++ term_text t
unfolding term_text form_text proof_text term_words form_words proof_words roll-Proof roll
proof_text-Refl t = ap text_of (fold-roll-Proof (List Word) proof_node (proof.Refl t)) ∙ simp text_equations

pub proof_text-Subst : (s : ℕ) (a : Form) (p : Proof) (q : Proof) → proof_text (Subst s a p q) ≡ word (codes "subst") ++ (number s ++ (form_text a ++ (proof_text p ++ proof_text q)))
unfolding term_text form_text proof_text term_words form_words proof_words roll-Proof roll
proof_text-Subst s a p q = ap text_of (fold-roll-Proof (List Word) proof_node (proof.Subst s a p q)) ∙ simp text_equations

pub proof_text-Inhabit : (s : ℕ) (a : Form) (p : Proof) → proof_text (Inhabit s a p) ≡ word (codes "inhabit") ++ (number s ++ (form_text a ++ proof_text p))
unfolding term_text form_text proof_text term_words form_words proof_words roll-Proof roll
proof_text-Inhabit s a p = ap text_of (fold-roll-Proof (List Word) proof_node (proof.Inhabit s a p)) ∙ simp text_equations

pub ruleset proof_equations = (proof_text-Line, proof_text-Hyp, proof_text-AndI, proof_text-AndE, proof_text-OrI, proof_text-OrE, proof_text-ImpI, proof_text-ImpE, proof_text-NotI, proof_text-NotE, proof_text-Raa, proof_text-IffI, proof_text-IffL, proof_text-IffR, proof_text-AllI, proof_text-AllE, proof_text-ExI, proof_text-ExE, proof_text-Refl, proof_text-Subst, proof_text-Inhabit, form_equations)
