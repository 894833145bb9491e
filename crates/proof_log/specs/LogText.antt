-- How terms, formulas and proofs are written in a log: the name of the node, and then its arguments from left to
-- right. Each word has a blank before it. A list is its length and then its members.
use Rattle.std.specs.Prelude.{ℕ, List, [], ◌∷◌, ◌++◌, length, map, codes, decimal}
use Rattle.std.specs.List.{flat_map}
use Rattle.fof_terms.specs.declared.term.Term.{Term}
use Rattle.fof_terms.specs.declared.term.Term.TheFolds.{fold-Term}
use Rattle.fof_terms.specs.declared.form.Form.{Form}
use Rattle.fof_terms.specs.declared.form.Form.TheFolds.{fold-Form}
use Rattle.kernel.specs.declared.proof.Proof.{Proof}
use Rattle.kernel.specs.declared.proof.Proof.TheFolds.{fold-Proof}
use Rattle.proof_log.specs.Words.{Word, small, large, list_of, node, word, text_of}
use Rattle.fof_terms.specs.declared.term.Term.TheOpen as term
use Rattle.fof_terms.specs.declared.form.Form.TheOpen as form
use Rattle.kernel.specs.declared.proof.Proof.TheOpen as proof

-- ---- the words of trees

abbrev pub term_node : term.Term-F (List Word) → List Word
term_node (term.Var k) = node (codes "v") (small k ∷ [])
term_node (term.App f args) = node (codes "f") (small f ∷ list_of args)

-- the words of a term
unfoldable pub term_words : Term → List Word
term_words = fold-Term (List Word) term_node

abbrev pub form_node : form.Form-F (List Word) → List Word
form_node (form.Atom p args) = node (codes "a") (small p ∷ list_of (map term_words args))
form_node (form.Eq s t) = node (codes "=") (term_words s ++ (term_words t))
form_node (form.Not a) = node (codes "~") a
form_node (form.And members) = node (codes "&") (list_of members)
form_node (form.Or members) = node (codes "|") (list_of members)
form_node (form.Imp a b) = node (codes ">") (a ++ b)
form_node (form.Iff a b) = node (codes "<>") (a ++ b)
form_node (form.All s a) = node (codes "!") (small s ∷ a)
form_node (form.Ex s a) = node (codes "?") (small s ∷ a)

-- the words of a formula
unfoldable pub form_words : Form → List Word
form_words = fold-Form (List Word) form_node

abbrev pub proof_node : proof.Proof-F (List Word) → List Word
proof_node (proof.Line i) = node (codes "line") (large i ∷ [])
proof_node (proof.Hyp i) = node (codes "hyp") (small i ∷ [])
proof_node (proof.AndI ps) = node (codes "andi") (list_of ps)
proof_node (proof.AndE k p) = node (codes "ande") (small k ∷ p)
proof_node (proof.OrI members k p) = node (codes "ori") (list_of (map form_words members) ++ (small k ∷ p))
proof_node (proof.OrE a p arms) = node (codes "ore") (form_words a ++ (p ++ (list_of arms)))
proof_node (proof.ImpI a p) = node (codes "impi") (form_words a ++ p)
proof_node (proof.ImpE p q) = node (codes "impe") (p ++ q)
proof_node (proof.NotI a p) = node (codes "noti") (form_words a ++ p)
proof_node (proof.NotE p q) = node (codes "note") (p ++ q)
proof_node (proof.Raa a p) = node (codes "raa") (form_words a ++ p)
proof_node (proof.IffI a b p q) = node (codes "iffi") (form_words a ++ (form_words b ++ (p ++ q)))
proof_node (proof.IffL p q) = node (codes "iffl") (p ++ q)
proof_node (proof.IffR p q) = node (codes "iffr") (p ++ q)
proof_node (proof.AllI s p) = node (codes "alli") (small s ∷ p)
proof_node (proof.AllE t p) = node (codes "alle") (term_words t ++ p)
proof_node (proof.ExI s a t p) = node (codes "exi") (small s ∷ (form_words a ++ (term_words t ++ p)))
proof_node (proof.ExE a p q) = node (codes "exe") (form_words a ++ (p ++ q))
proof_node (proof.Refl t) = node (codes "refl") (term_words t)
proof_node (proof.Subst s a p q) = node (codes "subst") (small s ∷ (form_words a ++ (p ++ q)))
proof_node (proof.Inhabit s a p) = node (codes "inhabit") (small s ∷ (form_words a ++ p))

-- the words of a proof
unfoldable pub proof_words : Proof → List Word
proof_words = fold-Proof (List Word) proof_node

-- ---- their texts

abbrev pub number : ℕ → List ℕ
number n = word (decimal n)

-- a list of texts
abbrev pub list_text : List (List ℕ) → List ℕ
list_text parts = number (length parts) ++ flat_map (λ part. part) parts

-- a list of numbers
abbrev pub numbers_text : List ℕ → List ℕ
numbers_text numbers = list_text (map number numbers)

-- the text of a formula
unfoldable pub form_text : Form → List ℕ
form_text a = text_of (form_words a)

-- the text of a proof
unfoldable pub proof_text : Proof → List ℕ
proof_text p = text_of (proof_words p)
