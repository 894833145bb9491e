-- The reader of proofs is exact and finds each proof within its limit.
use Rattle.std.proofs.Common.{◌≡◌, ℕ, zero, suc, ◌+◌, ◌≤◌, List, [], ◌∷◌, ◌++◌, Some, refl, sym, ◌∙◌, ap, subst, arith}
use Rattle.first_fault.specs.Nesting.{Nested}
use Rattle.first_fault.specs.code.Reading.{Reader}
use Rattle.first_fault.specs.Rules.{Rule}
use Rattle.first_fault.proofs.Exact.{Inhabited}
use Rattle.first_fault.proofs.Good.{Good, good_map}
use Rattle.fof_terms.specs.declared.term.Term.{Term, Var}
use Rattle.fof_terms.specs.declared.form.Form.{Form, And}
use Rattle.kernel.specs.declared.proof.Proof.{Proof, Line, Hyp, AndI, AndE, OrI, OrE, ImpI, ImpE, NotI, NotE, Raa, IffI, IffL, IffR, AllI, AllE, ExI, ExE, Refl, Subst, Inhabit}
use Rattle.kernel.specs.declared.proof.Proof.TheVariants.{rolls-Line, rolls-Hyp, rolls-AndI, rolls-AndE, rolls-OrI, rolls-OrE, rolls-ImpI, rolls-ImpE, rolls-NotI, rolls-NotE, rolls-Raa, rolls-IffI, rolls-IffL, rolls-IffR, rolls-AllI, rolls-AllE, rolls-ExI, rolls-ExE, rolls-Refl, rolls-Subst, rolls-Inhabit}
use Rattle.kernel.specs.declared.proof.Proof.TheOpen as proof
use Rattle.kernel.specs.declared.proof.Proof.TheViews.{roll-Proof, out-Proof, roll-out-Proof, outs-Line, outs-Hyp, outs-AndI, outs-AndE, outs-OrI, outs-OrE, outs-ImpI, outs-ImpE, outs-NotI, outs-NotE, outs-Raa, outs-IffI, outs-IffL, outs-IffR, outs-AllI, outs-AllE, outs-ExI, outs-ExE, outs-Refl, outs-Subst, outs-Inhabit}
use Rattle.kernel.specs.declared.proof.Proof.TheFolds.{fold-roll-Proof}
use Rattle.proof_log.specs.declared.name.ProofName.{ProofName}
use Rattle.proof_log.specs.declared.name.ProofName.TheVariants as n
use Rattle.proof_log.specs.Words.{Word, small, large, node, nested, AreInRange}
use Rattle.proof_log.specs.LogText.{term_words, form_words, proof_words, proof_node}
use Rattle.proof_log.specs.code.Names.{proof_name, proof_names}
use Rattle.proof_log.specs.code.ReadWords.{find, number, listed, both}
use Rattle.proof_log.specs.code.ReadTrees.{proof_by, term, form, proof}
use Rattle.proof_log.proofs.Spelling.{Spell, ends, pair, good_pair, ranges-append, ranges-deeper}
use Rattle.proof_log.proofs.NumberReader.{one_number, small_good, large_good}
use Rattle.proof_log.proofs.ListReader.{list_words, good_list}
use Rattle.proof_log.proofs.TreeReader.{good_tree, good_deep_tree}
use Rattle.proof_log.proofs.TermReader.{good_term, term_sample}
use Rattle.proof_log.proofs.FormReader.{good_form, form_sample}

-- ---- names

found_all : (w : ProofName) (r : List ℕ) → find proof_name proof_names (proof_name w ++ r) ≡ Some w
found_all n.Line r = refl
found_all n.Hyp r = refl
found_all n.AndI r = refl
found_all n.AndE r = refl
found_all n.OrI r = refl
found_all n.OrE r = refl
found_all n.ImpI r = refl
found_all n.ImpE r = refl
found_all n.NotI r = refl
found_all n.NotE r = refl
found_all n.Raa r = refl
found_all n.IffI r = refl
found_all n.IffL r = refl
found_all n.IffR r = refl
found_all n.AllI r = refl
found_all n.AllE r = refl
found_all n.ExI r = refl
found_all n.ExE r = refl
found_all n.Refl r = refl
found_all n.Subst r = refl
found_all n.Inhabit r = refl

filled : (w : ProofName) → (b : ℕ) × (more : List ℕ) × (proof_name w ≡ b ∷ more)
filled n.Line = (_, _, refl)
filled n.Hyp = (_, _, refl)
filled n.AndI = (_, _, refl)
filled n.AndE = (_, _, refl)
filled n.OrI = (_, _, refl)
filled n.OrE = (_, _, refl)
filled n.ImpI = (_, _, refl)
filled n.ImpE = (_, _, refl)
filled n.NotI = (_, _, refl)
filled n.NotE = (_, _, refl)
filled n.Raa = (_, _, refl)
filled n.IffI = (_, _, refl)
filled n.IffL = (_, _, refl)
filled n.IffR = (_, _, refl)
filled n.AllI = (_, _, refl)
filled n.AllE = (_, _, refl)
filled n.ExI = (_, _, refl)
filled n.ExE = (_, _, refl)
filled n.Refl = (_, _, refl)
filled n.Subst = (_, _, refl)
filled n.Inhabit = (_, _, refl)

-- ---- the name of a tree, and its arguments

abbrev head_of : proof.Proof-F Proof → ProofName
head_of (proof.Line i) = n.Line
head_of (proof.Hyp i) = n.Hyp
head_of (proof.AndI ps) = n.AndI
head_of (proof.AndE k p) = n.AndE
head_of (proof.OrI members k p) = n.OrI
head_of (proof.OrE a p arms) = n.OrE
head_of (proof.ImpI a p) = n.ImpI
head_of (proof.ImpE p q) = n.ImpE
head_of (proof.NotI a p) = n.NotI
head_of (proof.NotE p q) = n.NotE
head_of (proof.Raa a p) = n.Raa
head_of (proof.IffI a b p q) = n.IffI
head_of (proof.IffL p q) = n.IffL
head_of (proof.IffR p q) = n.IffR
head_of (proof.AllI s p) = n.AllI
head_of (proof.AllE t p) = n.AllE
head_of (proof.ExI s a t p) = n.ExI
head_of (proof.ExE a p q) = n.ExE
head_of (proof.Refl t) = n.Refl
head_of (proof.Subst s a p q) = n.Subst
head_of (proof.Inhabit s a p) = n.Inhabit

abbrev args_of : proof.Proof-F Proof → List Word
args_of (proof.Line i) = large i ∷ []
args_of (proof.Hyp i) = small i ∷ []
args_of (proof.AndI ps) = list_words proof_words ps
args_of (proof.AndE k p) = small k ∷ proof_words p
args_of (proof.OrI members k p) = list_words form_words members ++ (small k ∷ proof_words p)
args_of (proof.OrE a p arms) = form_words a ++ (proof_words p ++ (list_words proof_words arms))
args_of (proof.ImpI a p) = form_words a ++ (proof_words p)
args_of (proof.ImpE p q) = proof_words p ++ (proof_words q)
args_of (proof.NotI a p) = form_words a ++ (proof_words p)
args_of (proof.NotE p q) = proof_words p ++ (proof_words q)
args_of (proof.Raa a p) = form_words a ++ (proof_words p)
args_of (proof.IffI a b p q) = form_words a ++ (form_words b ++ (proof_words p ++ (proof_words q)))
args_of (proof.IffL p q) = proof_words p ++ (proof_words q)
args_of (proof.IffR p q) = proof_words p ++ (proof_words q)
args_of (proof.AllI s p) = small s ∷ proof_words p
args_of (proof.AllE t p) = term_words t ++ (proof_words p)
args_of (proof.ExI s a t p) = small s ∷ (form_words a ++ (term_words t ++ (proof_words p)))
args_of (proof.ExE a p q) = form_words a ++ (proof_words p ++ (proof_words q))
args_of (proof.Refl t) = term_words t
args_of (proof.Subst s a p q) = small s ∷ (form_words a ++ (proof_words p ++ (proof_words q)))
args_of (proof.Inhabit s a p) = small s ∷ (form_words a ++ (proof_words p))

is_layer : (l : proof.Proof-F Proof) → proof_words (roll-Proof l) ≡ node (proof_name (head_of l)) (args_of l)
unfolding proof_words
is_layer (proof.Line i) = fold-roll-Proof (List Word) proof_node (proof.Line i)
is_layer (proof.Hyp i) = fold-roll-Proof (List Word) proof_node (proof.Hyp i)
is_layer (proof.AndI ps) = fold-roll-Proof (List Word) proof_node (proof.AndI ps)
is_layer (proof.AndE k p) = fold-roll-Proof (List Word) proof_node (proof.AndE k p)
is_layer (proof.OrI members k p) = fold-roll-Proof (List Word) proof_node (proof.OrI members k p)
is_layer (proof.OrE a p arms) = fold-roll-Proof (List Word) proof_node (proof.OrE a p arms)
is_layer (proof.ImpI a p) = fold-roll-Proof (List Word) proof_node (proof.ImpI a p)
is_layer (proof.ImpE p q) = fold-roll-Proof (List Word) proof_node (proof.ImpE p q)
is_layer (proof.NotI a p) = fold-roll-Proof (List Word) proof_node (proof.NotI a p)
is_layer (proof.NotE p q) = fold-roll-Proof (List Word) proof_node (proof.NotE p q)
is_layer (proof.Raa a p) = fold-roll-Proof (List Word) proof_node (proof.Raa a p)
is_layer (proof.IffI a b p q) = fold-roll-Proof (List Word) proof_node (proof.IffI a b p q)
is_layer (proof.IffL p q) = fold-roll-Proof (List Word) proof_node (proof.IffL p q)
is_layer (proof.IffR p q) = fold-roll-Proof (List Word) proof_node (proof.IffR p q)
is_layer (proof.AllI s p) = fold-roll-Proof (List Word) proof_node (proof.AllI s p)
is_layer (proof.AllE t p) = fold-roll-Proof (List Word) proof_node (proof.AllE t p)
is_layer (proof.ExI s a t p) = fold-roll-Proof (List Word) proof_node (proof.ExI s a t p)
is_layer (proof.ExE a p q) = fold-roll-Proof (List Word) proof_node (proof.ExE a p q)
is_layer (proof.Refl t) = fold-roll-Proof (List Word) proof_node (proof.Refl t)
is_layer (proof.Subst s a p q) = fold-roll-Proof (List Word) proof_node (proof.Subst s a p q)
is_layer (proof.Inhabit s a p) = fold-roll-Proof (List Word) proof_node (proof.Inhabit s a p)

is_node : (x : Proof) → proof_words x ≡ node (proof_name (head_of (out-Proof x))) (args_of (out-Proof x))
is_node x = ap proof_words (sym (roll-out-Proof x)) ∙ is_layer (out-Proof x)

abbrev ProofArgs : ℕ → ProofName → Rule ℕ Proof
ProofArgs d w x ts rest = (head_of (out-Proof x) ≡ w) × Spell (λ y. args_of (out-Proof y)) (suc d) x ts rest

to_args : (d : ℕ) (w : ProofName) (x : Proof) (l : proof.Proof-F Proof) → out-Proof x ≡ l → head_of l ≡ w → (ts rest : List (Nested ℕ)) → ts ≡ nested (suc d) (args_of l) ++ rest → AreInRange (args_of l) → ProofArgs d w x ts rest
to_args d w x l e k ts rest h r = (ap head_of e ∙ k, (h ∙ ap (λ y. nested (suc d) (args_of y) ++ rest) (sym e), subst (λ y. AreInRange (args_of y)) (sym e) r))

-- the parts that a value of the name has
abbrev Split : {B : Type 0} → (B → List Word) → (B → Proof) → ℕ → Proof → List (Nested ℕ) → List (Nested ℕ) → Type 0
Split words make d x ts rest = (v : _) × Spell words (suc d) v ts rest × (make v ≡ x)

module _ (d : ℕ) (ts rest : List (Nested ℕ)) where
  built : (x y : Proof) (l : proof.Proof-F Proof) → out-Proof x ≡ l → roll-Proof l ≡ y → y ≡ x
  built x y l e k = sym (sym (roll-out-Proof x) ∙ ap roll-Proof e ∙ k)

  -- by its name
  abbrev PartsBy : ProofName → Proof → Type 0
  PartsBy n.Line x = Split {B = ℕ} (one_number 18446744073709551615) Line d x ts rest
  PartsBy n.Hyp x = Split {B = ℕ} (one_number 4294967295) Hyp d x ts rest
  PartsBy n.AndI x = Split {B = List Proof} (list_words proof_words) AndI d x ts rest
  PartsBy n.AndE x = Split {B = ℕ × Proof} (pair (one_number 4294967295) proof_words) (λ v. AndE v.0 v.1) d x ts rest
  PartsBy n.OrI x = Split {B = List Form × (ℕ × Proof)} (pair (list_words form_words) (pair (one_number 4294967295) proof_words)) (λ v. OrI v.0 v.1.0 v.1.1) d x ts rest
  PartsBy n.OrE x = Split {B = Form × (Proof × List Proof)} (pair form_words (pair proof_words (list_words proof_words))) (λ v. OrE v.0 v.1.0 v.1.1) d x ts rest
  PartsBy n.ImpI x = Split {B = Form × Proof} (pair form_words proof_words) (λ v. ImpI v.0 v.1) d x ts rest
  PartsBy n.ImpE x = Split {B = Proof × Proof} (pair proof_words proof_words) (λ v. ImpE v.0 v.1) d x ts rest
  PartsBy n.NotI x = Split {B = Form × Proof} (pair form_words proof_words) (λ v. NotI v.0 v.1) d x ts rest
  PartsBy n.NotE x = Split {B = Proof × Proof} (pair proof_words proof_words) (λ v. NotE v.0 v.1) d x ts rest
  PartsBy n.Raa x = Split {B = Form × Proof} (pair form_words proof_words) (λ v. Raa v.0 v.1) d x ts rest
  PartsBy n.IffI x = Split {B = Form × (Form × (Proof × Proof))} (pair form_words (pair form_words (pair proof_words proof_words))) (λ v. IffI v.0 v.1.0 v.1.1.0 v.1.1.1) d x ts rest
  PartsBy n.IffL x = Split {B = Proof × Proof} (pair proof_words proof_words) (λ v. IffL v.0 v.1) d x ts rest
  PartsBy n.IffR x = Split {B = Proof × Proof} (pair proof_words proof_words) (λ v. IffR v.0 v.1) d x ts rest
  PartsBy n.AllI x = Split {B = ℕ × Proof} (pair (one_number 4294967295) proof_words) (λ v. AllI v.0 v.1) d x ts rest
  PartsBy n.AllE x = Split {B = Term × Proof} (pair term_words proof_words) (λ v. AllE v.0 v.1) d x ts rest
  PartsBy n.ExI x = Split {B = ℕ × (Form × (Term × Proof))} (pair (one_number 4294967295) (pair form_words (pair term_words proof_words))) (λ v. ExI v.0 v.1.0 v.1.1.0 v.1.1.1) d x ts rest
  PartsBy n.ExE x = Split {B = Form × (Proof × Proof)} (pair form_words (pair proof_words proof_words)) (λ v. ExE v.0 v.1.0 v.1.1) d x ts rest
  PartsBy n.Refl x = Split {B = Term} term_words Refl d x ts rest
  PartsBy n.Subst x = Split {B = ℕ × (Form × (Proof × Proof))} (pair (one_number 4294967295) (pair form_words (pair proof_words proof_words))) (λ v. Subst v.0 v.1.0 v.1.1.0 v.1.1.1) d x ts rest
  PartsBy n.Inhabit x = Split {B = ℕ × (Form × Proof)} (pair (one_number 4294967295) (pair form_words proof_words)) (λ v. Inhabit v.0 v.1.0 v.1.1) d x ts rest

  parts : (x : Proof) (l : proof.Proof-F Proof) → out-Proof x ≡ l → ts ≡ nested (suc d) (args_of l) ++ rest → AreInRange (args_of l) → PartsBy (head_of l) x
  parts x (proof.Line i) out text fits = (i, (text, fits), built x (Line i) (proof.Line i) out (rolls-Line i))
  parts x (proof.Hyp i) out text fits = (i, (text, fits), built x (Hyp i) (proof.Hyp i) out (rolls-Hyp i))
  parts x (proof.AndI ps) out text fits = (ps, (text, fits), built x (AndI ps) (proof.AndI ps) out (rolls-AndI ps))
  parts x (proof.AndE k p) out text fits = ((k, p), (text, fits), built x (AndE k p) (proof.AndE k p) out (rolls-AndE k p))
  parts x (proof.OrI members k p) out text fits = ((members, (k, p)), (text, fits), built x (OrI members k p) (proof.OrI members k p) out (rolls-OrI members k p))
  parts x (proof.OrE a p arms) out text fits = ((a, (p, arms)), (text, fits), built x (OrE a p arms) (proof.OrE a p arms) out (rolls-OrE a p arms))
  parts x (proof.ImpI a p) out text fits = ((a, p), (text, fits), built x (ImpI a p) (proof.ImpI a p) out (rolls-ImpI a p))
  parts x (proof.ImpE p q) out text fits = ((p, q), (text, fits), built x (ImpE p q) (proof.ImpE p q) out (rolls-ImpE p q))
  parts x (proof.NotI a p) out text fits = ((a, p), (text, fits), built x (NotI a p) (proof.NotI a p) out (rolls-NotI a p))
  parts x (proof.NotE p q) out text fits = ((p, q), (text, fits), built x (NotE p q) (proof.NotE p q) out (rolls-NotE p q))
  parts x (proof.Raa a p) out text fits = ((a, p), (text, fits), built x (Raa a p) (proof.Raa a p) out (rolls-Raa a p))
  parts x (proof.IffI a b p q) out text fits = ((a, (b, (p, q))), (text, fits), built x (IffI a b p q) (proof.IffI a b p q) out (rolls-IffI a b p q))
  parts x (proof.IffL p q) out text fits = ((p, q), (text, fits), built x (IffL p q) (proof.IffL p q) out (rolls-IffL p q))
  parts x (proof.IffR p q) out text fits = ((p, q), (text, fits), built x (IffR p q) (proof.IffR p q) out (rolls-IffR p q))
  parts x (proof.AllI s p) out text fits = ((s, p), (text, fits), built x (AllI s p) (proof.AllI s p) out (rolls-AllI s p))
  parts x (proof.AllE t p) out text fits = ((t, p), (text, fits), built x (AllE t p) (proof.AllE t p) out (rolls-AllE t p))
  parts x (proof.ExI s a t p) out text fits = ((s, (a, (t, p))), (text, fits), built x (ExI s a t p) (proof.ExI s a t p) out (rolls-ExI s a t p))
  parts x (proof.ExE a p q) out text fits = ((a, (p, q)), (text, fits), built x (ExE a p q) (proof.ExE a p q) out (rolls-ExE a p q))
  parts x (proof.Refl t) out text fits = (t, (text, fits), built x (Refl t) (proof.Refl t) out (rolls-Refl t))
  parts x (proof.Subst s a p q) out text fits = ((s, (a, (p, q))), (text, fits), built x (Subst s a p q) (proof.Subst s a p q) out (rolls-Subst s a p q))
  parts x (proof.Inhabit s a p) out text fits = ((s, (a, p)), (text, fits), built x (Inhabit s a p) (proof.Inhabit s a p) out (rolls-Inhabit s a p))

  split : (w : ProofName) (x : Proof) → ProofArgs d w x ts rest → PartsBy w x
  split w x h = subst (λ v. PartsBy v x) h.0 (parts x (out-Proof x) refl h.1.0 h.1.1)

-- ---- the readers

module _ (limit d : ℕ) (t : Reader ℕ Term) (good_t : Good limit t (Spell term_words (suc d)) ends) (f : Reader ℕ Form) (good_f : Good limit f (Spell form_words (suc d)) ends) (p : Reader ℕ Proof) (good_p : Good limit p (Spell proof_words (suc d)) ends) where
  good_by : (w : ProofName) → Good limit (proof_by t f p w) (ProofArgs d w) ends
  good_by n.Line =
      good_map limit (number 18446744073709551615) (proof_by t f p n.Line) (Spell (one_number 18446744073709551615) (suc d)) (ProofArgs d n.Line) ends Line (λ us. refl) (large_good (suc d))
      (λ v us rest h. to_args d n.Line (Line v) (proof.Line v) (outs-Line v) refl us rest h.0 h.1) (λ x us rest h. split d us rest n.Line x h)
  good_by n.Hyp =
      good_map limit (number 4294967295) (proof_by t f p n.Hyp) (Spell (one_number 4294967295) (suc d)) (ProofArgs d n.Hyp) ends Hyp (λ us. refl) (small_good (suc d))
      (λ v us rest h. to_args d n.Hyp (Hyp v) (proof.Hyp v) (outs-Hyp v) refl us rest h.0 h.1) (λ x us rest h. split d us rest n.Hyp x h)
  good_by n.AndI =
      good_map limit (listed p) (proof_by t f p n.AndI) (Spell (list_words proof_words) (suc d)) (ProofArgs d n.AndI) ends AndI (λ us. refl) (good_list proof_words limit (suc d) p good_p)
      (λ v us rest h. to_args d n.AndI (AndI v) (proof.AndI v) (outs-AndI v) refl us rest h.0 h.1) (λ x us rest h. split d us rest n.AndI x h)
  good_by n.AndE =
      good_map limit (both (number 4294967295) p) (proof_by t f p n.AndE) (Spell (pair (one_number 4294967295) proof_words) (suc d)) (ProofArgs d n.AndE) ends (λ v. AndE v.0 v.1) (λ us. refl) (good_pair limit (suc d) (number 4294967295) p (one_number 4294967295) proof_words (small_good (suc d)) good_p)
      (λ v us rest h. to_args d n.AndE (AndE v.0 v.1) (proof.AndE v.0 v.1) (outs-AndE v.0 v.1) refl us rest h.0 h.1) (λ x us rest h. split d us rest n.AndE x h)
  good_by n.OrI =
      good_map limit (both (listed f) (both (number 4294967295) p)) (proof_by t f p n.OrI) (Spell (pair (list_words form_words) (pair (one_number 4294967295) proof_words)) (suc d)) (ProofArgs d n.OrI) ends (λ v. OrI v.0 v.1.0 v.1.1) (λ us. refl) (good_pair limit (suc d) (listed f) (both (number 4294967295) p) (list_words form_words) (pair (one_number 4294967295) proof_words) (good_list form_words limit (suc d) f good_f) (good_pair limit (suc d) (number 4294967295) p (one_number 4294967295) proof_words (small_good (suc d)) good_p))
      (λ v us rest h. to_args d n.OrI (OrI v.0 v.1.0 v.1.1) (proof.OrI v.0 v.1.0 v.1.1) (outs-OrI v.0 v.1.0 v.1.1) refl us rest h.0 h.1) (λ x us rest h. split d us rest n.OrI x h)
  good_by n.OrE =
      good_map limit (both f (both p (listed p))) (proof_by t f p n.OrE) (Spell (pair form_words (pair proof_words (list_words proof_words))) (suc d)) (ProofArgs d n.OrE) ends (λ v. OrE v.0 v.1.0 v.1.1) (λ us. refl) (good_pair limit (suc d) f (both p (listed p)) form_words (pair proof_words (list_words proof_words)) good_f (good_pair limit (suc d) p (listed p) proof_words (list_words proof_words) good_p (good_list proof_words limit (suc d) p good_p)))
      (λ v us rest h. to_args d n.OrE (OrE v.0 v.1.0 v.1.1) (proof.OrE v.0 v.1.0 v.1.1) (outs-OrE v.0 v.1.0 v.1.1) refl us rest h.0 h.1) (λ x us rest h. split d us rest n.OrE x h)
  good_by n.ImpI =
      good_map limit (both f p) (proof_by t f p n.ImpI) (Spell (pair form_words proof_words) (suc d)) (ProofArgs d n.ImpI) ends (λ v. ImpI v.0 v.1) (λ us. refl) (good_pair limit (suc d) f p form_words proof_words good_f good_p)
      (λ v us rest h. to_args d n.ImpI (ImpI v.0 v.1) (proof.ImpI v.0 v.1) (outs-ImpI v.0 v.1) refl us rest h.0 h.1) (λ x us rest h. split d us rest n.ImpI x h)
  good_by n.ImpE =
      good_map limit (both p p) (proof_by t f p n.ImpE) (Spell (pair proof_words proof_words) (suc d)) (ProofArgs d n.ImpE) ends (λ v. ImpE v.0 v.1) (λ us. refl) (good_pair limit (suc d) p p proof_words proof_words good_p good_p)
      (λ v us rest h. to_args d n.ImpE (ImpE v.0 v.1) (proof.ImpE v.0 v.1) (outs-ImpE v.0 v.1) refl us rest h.0 h.1) (λ x us rest h. split d us rest n.ImpE x h)
  good_by n.NotI =
      good_map limit (both f p) (proof_by t f p n.NotI) (Spell (pair form_words proof_words) (suc d)) (ProofArgs d n.NotI) ends (λ v. NotI v.0 v.1) (λ us. refl) (good_pair limit (suc d) f p form_words proof_words good_f good_p)
      (λ v us rest h. to_args d n.NotI (NotI v.0 v.1) (proof.NotI v.0 v.1) (outs-NotI v.0 v.1) refl us rest h.0 h.1) (λ x us rest h. split d us rest n.NotI x h)
  good_by n.NotE =
      good_map limit (both p p) (proof_by t f p n.NotE) (Spell (pair proof_words proof_words) (suc d)) (ProofArgs d n.NotE) ends (λ v. NotE v.0 v.1) (λ us. refl) (good_pair limit (suc d) p p proof_words proof_words good_p good_p)
      (λ v us rest h. to_args d n.NotE (NotE v.0 v.1) (proof.NotE v.0 v.1) (outs-NotE v.0 v.1) refl us rest h.0 h.1) (λ x us rest h. split d us rest n.NotE x h)
  good_by n.Raa =
      good_map limit (both f p) (proof_by t f p n.Raa) (Spell (pair form_words proof_words) (suc d)) (ProofArgs d n.Raa) ends (λ v. Raa v.0 v.1) (λ us. refl) (good_pair limit (suc d) f p form_words proof_words good_f good_p)
      (λ v us rest h. to_args d n.Raa (Raa v.0 v.1) (proof.Raa v.0 v.1) (outs-Raa v.0 v.1) refl us rest h.0 h.1) (λ x us rest h. split d us rest n.Raa x h)
  good_by n.IffI =
      good_map limit (both f (both f (both p p))) (proof_by t f p n.IffI) (Spell (pair form_words (pair form_words (pair proof_words proof_words))) (suc d)) (ProofArgs d n.IffI) ends (λ v. IffI v.0 v.1.0 v.1.1.0 v.1.1.1) (λ us. refl) (good_pair limit (suc d) f (both f (both p p)) form_words (pair form_words (pair proof_words proof_words)) good_f (good_pair limit (suc d) f (both p p) form_words (pair proof_words proof_words) good_f (good_pair limit (suc d) p p proof_words proof_words good_p good_p)))
      (λ v us rest h. to_args d n.IffI (IffI v.0 v.1.0 v.1.1.0 v.1.1.1) (proof.IffI v.0 v.1.0 v.1.1.0 v.1.1.1) (outs-IffI v.0 v.1.0 v.1.1.0 v.1.1.1) refl us rest h.0 h.1) (λ x us rest h. split d us rest n.IffI x h)
  good_by n.IffL =
      good_map limit (both p p) (proof_by t f p n.IffL) (Spell (pair proof_words proof_words) (suc d)) (ProofArgs d n.IffL) ends (λ v. IffL v.0 v.1) (λ us. refl) (good_pair limit (suc d) p p proof_words proof_words good_p good_p)
      (λ v us rest h. to_args d n.IffL (IffL v.0 v.1) (proof.IffL v.0 v.1) (outs-IffL v.0 v.1) refl us rest h.0 h.1) (λ x us rest h. split d us rest n.IffL x h)
  good_by n.IffR =
      good_map limit (both p p) (proof_by t f p n.IffR) (Spell (pair proof_words proof_words) (suc d)) (ProofArgs d n.IffR) ends (λ v. IffR v.0 v.1) (λ us. refl) (good_pair limit (suc d) p p proof_words proof_words good_p good_p)
      (λ v us rest h. to_args d n.IffR (IffR v.0 v.1) (proof.IffR v.0 v.1) (outs-IffR v.0 v.1) refl us rest h.0 h.1) (λ x us rest h. split d us rest n.IffR x h)
  good_by n.AllI =
      good_map limit (both (number 4294967295) p) (proof_by t f p n.AllI) (Spell (pair (one_number 4294967295) proof_words) (suc d)) (ProofArgs d n.AllI) ends (λ v. AllI v.0 v.1) (λ us. refl) (good_pair limit (suc d) (number 4294967295) p (one_number 4294967295) proof_words (small_good (suc d)) good_p)
      (λ v us rest h. to_args d n.AllI (AllI v.0 v.1) (proof.AllI v.0 v.1) (outs-AllI v.0 v.1) refl us rest h.0 h.1) (λ x us rest h. split d us rest n.AllI x h)
  good_by n.AllE =
      good_map limit (both t p) (proof_by t f p n.AllE) (Spell (pair term_words proof_words) (suc d)) (ProofArgs d n.AllE) ends (λ v. AllE v.0 v.1) (λ us. refl) (good_pair limit (suc d) t p term_words proof_words good_t good_p)
      (λ v us rest h. to_args d n.AllE (AllE v.0 v.1) (proof.AllE v.0 v.1) (outs-AllE v.0 v.1) refl us rest h.0 h.1) (λ x us rest h. split d us rest n.AllE x h)
  good_by n.ExI =
      good_map limit (both (number 4294967295) (both f (both t p))) (proof_by t f p n.ExI) (Spell (pair (one_number 4294967295) (pair form_words (pair term_words proof_words))) (suc d)) (ProofArgs d n.ExI) ends (λ v. ExI v.0 v.1.0 v.1.1.0 v.1.1.1) (λ us. refl) (good_pair limit (suc d) (number 4294967295) (both f (both t p)) (one_number 4294967295) (pair form_words (pair term_words proof_words)) (small_good (suc d)) (good_pair limit (suc d) f (both t p) form_words (pair term_words proof_words) good_f (good_pair limit (suc d) t p term_words proof_words good_t good_p)))
      (λ v us rest h. to_args d n.ExI (ExI v.0 v.1.0 v.1.1.0 v.1.1.1) (proof.ExI v.0 v.1.0 v.1.1.0 v.1.1.1) (outs-ExI v.0 v.1.0 v.1.1.0 v.1.1.1) refl us rest h.0 h.1) (λ x us rest h. split d us rest n.ExI x h)
  good_by n.ExE =
      good_map limit (both f (both p p)) (proof_by t f p n.ExE) (Spell (pair form_words (pair proof_words proof_words)) (suc d)) (ProofArgs d n.ExE) ends (λ v. ExE v.0 v.1.0 v.1.1) (λ us. refl) (good_pair limit (suc d) f (both p p) form_words (pair proof_words proof_words) good_f (good_pair limit (suc d) p p proof_words proof_words good_p good_p))
      (λ v us rest h. to_args d n.ExE (ExE v.0 v.1.0 v.1.1) (proof.ExE v.0 v.1.0 v.1.1) (outs-ExE v.0 v.1.0 v.1.1) refl us rest h.0 h.1) (λ x us rest h. split d us rest n.ExE x h)
  good_by n.Refl =
      good_map limit t (proof_by t f p n.Refl) (Spell term_words (suc d)) (ProofArgs d n.Refl) ends Refl (λ us. refl) good_t
      (λ v us rest h. to_args d n.Refl (Refl v) (proof.Refl v) (outs-Refl v) refl us rest h.0 h.1) (λ x us rest h. split d us rest n.Refl x h)
  good_by n.Subst =
      good_map limit (both (number 4294967295) (both f (both p p))) (proof_by t f p n.Subst) (Spell (pair (one_number 4294967295) (pair form_words (pair proof_words proof_words))) (suc d)) (ProofArgs d n.Subst) ends (λ v. Subst v.0 v.1.0 v.1.1.0 v.1.1.1) (λ us. refl) (good_pair limit (suc d) (number 4294967295) (both f (both p p)) (one_number 4294967295) (pair form_words (pair proof_words proof_words)) (small_good (suc d)) (good_pair limit (suc d) f (both p p) form_words (pair proof_words proof_words) good_f (good_pair limit (suc d) p p proof_words proof_words good_p good_p)))
      (λ v us rest h. to_args d n.Subst (Subst v.0 v.1.0 v.1.1.0 v.1.1.1) (proof.Subst v.0 v.1.0 v.1.1.0 v.1.1.1) (outs-Subst v.0 v.1.0 v.1.1.0 v.1.1.1) refl us rest h.0 h.1) (λ x us rest h. split d us rest n.Subst x h)
  good_by n.Inhabit =
      good_map limit (both (number 4294967295) (both f p)) (proof_by t f p n.Inhabit) (Spell (pair (one_number 4294967295) (pair form_words proof_words)) (suc d)) (ProofArgs d n.Inhabit) ends (λ v. Inhabit v.0 v.1.0 v.1.1) (λ us. refl) (good_pair limit (suc d) (number 4294967295) (both f p) (one_number 4294967295) (pair form_words proof_words) (small_good (suc d)) (good_pair limit (suc d) f p form_words proof_words good_f good_p))
      (λ v us rest h. to_args d n.Inhabit (Inhabit v.0 v.1.0 v.1.1) (proof.Inhabit v.0 v.1.0 v.1.1) (outs-Inhabit v.0 v.1.0 v.1.1) refl us rest h.0 h.1) (λ x us rest h. split d us rest n.Inhabit x h)

zero_le : {n : ℕ} → 0 ≤ n
zero_le = omega arith

pub proof_sample : AreInRange (proof_words (Line 0))
proof_sample = subst AreInRange (sym (is_node (Line 0))) (tt, (let r : AreInRange (args_of (out-Proof (Line 0))) = subst (λ l. AreInRange (args_of l)) (sym (outs-Line 0)) (zero_le, tt) in ranges-deeper (args_of (out-Proof (Line 0))) r))

samples : (d : ℕ) (w : ProofName) → Inhabited (ProofArgs d w)
samples d n.Line = record { value = Line 0; text = λ more. nested (suc d) (large 0 ∷ []) ++ more; spells = λ more. to_args d n.Line (Line 0) (proof.Line 0) (outs-Line 0) refl (nested (suc d) (large 0 ∷ []) ++ more) more refl (zero_le, tt) }
samples d n.Hyp = record { value = Hyp 0; text = λ more. nested (suc d) (small 0 ∷ []) ++ more; spells = λ more. to_args d n.Hyp (Hyp 0) (proof.Hyp 0) (outs-Hyp 0) refl (nested (suc d) (small 0 ∷ []) ++ more) more refl (zero_le, tt) }
samples d n.AndI = record { value = AndI []; text = λ more. nested (suc d) (list_words proof_words []) ++ more; spells = λ more. to_args d n.AndI (AndI []) (proof.AndI []) (outs-AndI []) refl (nested (suc d) (list_words proof_words []) ++ more) more refl (zero_le, tt) }
samples d n.AndE = record { value = AndE 0 (Line 0); text = λ more. nested (suc d) (small 0 ∷ proof_words (Line 0)) ++ more; spells = λ more. to_args d n.AndE (AndE 0 (Line 0)) (proof.AndE 0 (Line 0)) (outs-AndE 0 (Line 0)) refl (nested (suc d) (small 0 ∷ proof_words (Line 0)) ++ more) more refl (zero_le, proof_sample) }
samples d n.OrI = record { value = OrI [] 0 (Line 0); text = λ more. nested (suc d) (list_words form_words [] ++ (small 0 ∷ proof_words (Line 0))) ++ more; spells = λ more. to_args d n.OrI (OrI [] 0 (Line 0)) (proof.OrI [] 0 (Line 0)) (outs-OrI [] 0 (Line 0)) refl (nested (suc d) (list_words form_words [] ++ (small 0 ∷ proof_words (Line 0))) ++ more) more refl (zero_le, (zero_le, proof_sample)) }
samples d n.OrE = record { value = OrE (And []) (Line 0) []; text = λ more. nested (suc d) (form_words (And []) ++ (proof_words (Line 0) ++ (list_words proof_words []))) ++ more; spells = λ more. to_args d n.OrE (OrE (And []) (Line 0) []) (proof.OrE (And []) (Line 0) []) (outs-OrE (And []) (Line 0) []) refl (nested (suc d) (form_words (And []) ++ (proof_words (Line 0) ++ (list_words proof_words []))) ++ more) more refl (ranges-append (form_words (And [])) (proof_words (Line 0) ++ (list_words proof_words [])) form_sample (ranges-append (proof_words (Line 0)) (list_words proof_words []) proof_sample (zero_le, tt))) }
samples d n.ImpI = record { value = ImpI (And []) (Line 0); text = λ more. nested (suc d) (form_words (And []) ++ (proof_words (Line 0))) ++ more; spells = λ more. to_args d n.ImpI (ImpI (And []) (Line 0)) (proof.ImpI (And []) (Line 0)) (outs-ImpI (And []) (Line 0)) refl (nested (suc d) (form_words (And []) ++ (proof_words (Line 0))) ++ more) more refl (ranges-append (form_words (And [])) (proof_words (Line 0)) form_sample proof_sample) }
samples d n.ImpE = record { value = ImpE (Line 0) (Line 0); text = λ more. nested (suc d) (proof_words (Line 0) ++ (proof_words (Line 0))) ++ more; spells = λ more. to_args d n.ImpE (ImpE (Line 0) (Line 0)) (proof.ImpE (Line 0) (Line 0)) (outs-ImpE (Line 0) (Line 0)) refl (nested (suc d) (proof_words (Line 0) ++ (proof_words (Line 0))) ++ more) more refl (ranges-append (proof_words (Line 0)) (proof_words (Line 0)) proof_sample proof_sample) }
samples d n.NotI = record { value = NotI (And []) (Line 0); text = λ more. nested (suc d) (form_words (And []) ++ (proof_words (Line 0))) ++ more; spells = λ more. to_args d n.NotI (NotI (And []) (Line 0)) (proof.NotI (And []) (Line 0)) (outs-NotI (And []) (Line 0)) refl (nested (suc d) (form_words (And []) ++ (proof_words (Line 0))) ++ more) more refl (ranges-append (form_words (And [])) (proof_words (Line 0)) form_sample proof_sample) }
samples d n.NotE = record { value = NotE (Line 0) (Line 0); text = λ more. nested (suc d) (proof_words (Line 0) ++ (proof_words (Line 0))) ++ more; spells = λ more. to_args d n.NotE (NotE (Line 0) (Line 0)) (proof.NotE (Line 0) (Line 0)) (outs-NotE (Line 0) (Line 0)) refl (nested (suc d) (proof_words (Line 0) ++ (proof_words (Line 0))) ++ more) more refl (ranges-append (proof_words (Line 0)) (proof_words (Line 0)) proof_sample proof_sample) }
samples d n.Raa = record { value = Raa (And []) (Line 0); text = λ more. nested (suc d) (form_words (And []) ++ (proof_words (Line 0))) ++ more; spells = λ more. to_args d n.Raa (Raa (And []) (Line 0)) (proof.Raa (And []) (Line 0)) (outs-Raa (And []) (Line 0)) refl (nested (suc d) (form_words (And []) ++ (proof_words (Line 0))) ++ more) more refl (ranges-append (form_words (And [])) (proof_words (Line 0)) form_sample proof_sample) }
samples d n.IffI = record { value = IffI (And []) (And []) (Line 0) (Line 0); text = λ more. nested (suc d) (form_words (And []) ++ (form_words (And []) ++ (proof_words (Line 0) ++ (proof_words (Line 0))))) ++ more; spells = λ more. to_args d n.IffI (IffI (And []) (And []) (Line 0) (Line 0)) (proof.IffI (And []) (And []) (Line 0) (Line 0)) (outs-IffI (And []) (And []) (Line 0) (Line 0)) refl (nested (suc d) (form_words (And []) ++ (form_words (And []) ++ (proof_words (Line 0) ++ (proof_words (Line 0))))) ++ more) more refl (ranges-append (form_words (And [])) (form_words (And []) ++ (proof_words (Line 0) ++ (proof_words (Line 0)))) form_sample (ranges-append (form_words (And [])) (proof_words (Line 0) ++ (proof_words (Line 0))) form_sample (ranges-append (proof_words (Line 0)) (proof_words (Line 0)) proof_sample proof_sample))) }
samples d n.IffL = record { value = IffL (Line 0) (Line 0); text = λ more. nested (suc d) (proof_words (Line 0) ++ (proof_words (Line 0))) ++ more; spells = λ more. to_args d n.IffL (IffL (Line 0) (Line 0)) (proof.IffL (Line 0) (Line 0)) (outs-IffL (Line 0) (Line 0)) refl (nested (suc d) (proof_words (Line 0) ++ (proof_words (Line 0))) ++ more) more refl (ranges-append (proof_words (Line 0)) (proof_words (Line 0)) proof_sample proof_sample) }
samples d n.IffR = record { value = IffR (Line 0) (Line 0); text = λ more. nested (suc d) (proof_words (Line 0) ++ (proof_words (Line 0))) ++ more; spells = λ more. to_args d n.IffR (IffR (Line 0) (Line 0)) (proof.IffR (Line 0) (Line 0)) (outs-IffR (Line 0) (Line 0)) refl (nested (suc d) (proof_words (Line 0) ++ (proof_words (Line 0))) ++ more) more refl (ranges-append (proof_words (Line 0)) (proof_words (Line 0)) proof_sample proof_sample) }
samples d n.AllI = record { value = AllI 0 (Line 0); text = λ more. nested (suc d) (small 0 ∷ proof_words (Line 0)) ++ more; spells = λ more. to_args d n.AllI (AllI 0 (Line 0)) (proof.AllI 0 (Line 0)) (outs-AllI 0 (Line 0)) refl (nested (suc d) (small 0 ∷ proof_words (Line 0)) ++ more) more refl (zero_le, proof_sample) }
samples d n.AllE = record { value = AllE (Var 0) (Line 0); text = λ more. nested (suc d) (term_words (Var 0) ++ (proof_words (Line 0))) ++ more; spells = λ more. to_args d n.AllE (AllE (Var 0) (Line 0)) (proof.AllE (Var 0) (Line 0)) (outs-AllE (Var 0) (Line 0)) refl (nested (suc d) (term_words (Var 0) ++ (proof_words (Line 0))) ++ more) more refl (ranges-append (term_words (Var 0)) (proof_words (Line 0)) term_sample proof_sample) }
samples d n.ExI = record { value = ExI 0 (And []) (Var 0) (Line 0); text = λ more. nested (suc d) (small 0 ∷ (form_words (And []) ++ (term_words (Var 0) ++ (proof_words (Line 0))))) ++ more; spells = λ more. to_args d n.ExI (ExI 0 (And []) (Var 0) (Line 0)) (proof.ExI 0 (And []) (Var 0) (Line 0)) (outs-ExI 0 (And []) (Var 0) (Line 0)) refl (nested (suc d) (small 0 ∷ (form_words (And []) ++ (term_words (Var 0) ++ (proof_words (Line 0))))) ++ more) more refl (zero_le, ranges-append (form_words (And [])) (term_words (Var 0) ++ (proof_words (Line 0))) form_sample (ranges-append (term_words (Var 0)) (proof_words (Line 0)) term_sample proof_sample)) }
samples d n.ExE = record { value = ExE (And []) (Line 0) (Line 0); text = λ more. nested (suc d) (form_words (And []) ++ (proof_words (Line 0) ++ (proof_words (Line 0)))) ++ more; spells = λ more. to_args d n.ExE (ExE (And []) (Line 0) (Line 0)) (proof.ExE (And []) (Line 0) (Line 0)) (outs-ExE (And []) (Line 0) (Line 0)) refl (nested (suc d) (form_words (And []) ++ (proof_words (Line 0) ++ (proof_words (Line 0)))) ++ more) more refl (ranges-append (form_words (And [])) (proof_words (Line 0) ++ (proof_words (Line 0))) form_sample (ranges-append (proof_words (Line 0)) (proof_words (Line 0)) proof_sample proof_sample)) }
samples d n.Refl = record { value = Refl (Var 0); text = λ more. nested (suc d) (term_words (Var 0)) ++ more; spells = λ more. to_args d n.Refl (Refl (Var 0)) (proof.Refl (Var 0)) (outs-Refl (Var 0)) refl (nested (suc d) (term_words (Var 0)) ++ more) more refl (term_sample) }
samples d n.Subst = record { value = Subst 0 (And []) (Line 0) (Line 0); text = λ more. nested (suc d) (small 0 ∷ (form_words (And []) ++ (proof_words (Line 0) ++ (proof_words (Line 0))))) ++ more; spells = λ more. to_args d n.Subst (Subst 0 (And []) (Line 0) (Line 0)) (proof.Subst 0 (And []) (Line 0) (Line 0)) (outs-Subst 0 (And []) (Line 0) (Line 0)) refl (nested (suc d) (small 0 ∷ (form_words (And []) ++ (proof_words (Line 0) ++ (proof_words (Line 0))))) ++ more) more refl (zero_le, ranges-append (form_words (And [])) (proof_words (Line 0) ++ (proof_words (Line 0))) form_sample (ranges-append (proof_words (Line 0)) (proof_words (Line 0)) proof_sample proof_sample)) }
samples d n.Inhabit = record { value = Inhabit 0 (And []) (Line 0); text = λ more. nested (suc d) (small 0 ∷ (form_words (And []) ++ (proof_words (Line 0)))) ++ more; spells = λ more. to_args d n.Inhabit (Inhabit 0 (And []) (Line 0)) (proof.Inhabit 0 (And []) (Line 0)) (outs-Inhabit 0 (And []) (Line 0)) refl (nested (suc d) (small 0 ∷ (form_words (And []) ++ (proof_words (Line 0)))) ++ more) more refl (zero_le, ranges-append (form_words (And [])) (proof_words (Line 0)) form_sample proof_sample) }

pub good_proof : (room limit d : ℕ) → limit ≡ d + room → Good limit (proof room) (Spell proof_words d) ends
unfolding proof
good_proof zero limit d e = good_deep_tree proof_name proof_names n.Line found_all proof_words (λ x. head_of (out-Proof x)) (λ x. args_of (out-Proof x)) is_node limit d (omega arith) filled (samples d)
good_proof (suc room) limit d e = good_tree proof_name proof_names n.Line found_all proof_words (λ x. head_of (out-Proof x)) (λ x. args_of (out-Proof x)) is_node limit d (omega arith) (proof_by (term room) (form room) (proof room)) (good_by limit d (term room) (good_term room limit (suc d) (omega arith)) (form room) (good_form room limit (suc d) (omega arith)) (proof room) (good_proof room limit (suc d) (omega arith)))
