-- The reader of terms is exact and finds each term within its limit.
use Rattle.std.proofs.Common.{◌≡◌, ℕ, zero, suc, ◌+◌, ◌≤◌, List, [], ◌∷◌, ◌++◌, Some, refl, sym, ◌∙◌, ap, subst, arith}
use Rattle.first_fault.specs.Nesting.{Nested}
use Rattle.first_fault.specs.code.Reading.{Reader}
use Rattle.first_fault.specs.Rules.{Rule}
use Rattle.first_fault.proofs.Exact.{Inhabited}
use Rattle.first_fault.proofs.Good.{Good, good_map}
use Rattle.fof_terms.specs.declared.term.Term.{Term, Var, App}
use Rattle.fof_terms.specs.declared.term.Term.TheVariants.{rolls-Var, rolls-App}
use Rattle.fof_terms.specs.declared.term.Term.TheOpen as term
use Rattle.fof_terms.specs.declared.term.Term.TheViews.{roll-Term, out-Term, roll-out-Term, outs-Var, outs-App}
use Rattle.fof_terms.specs.declared.term.Term.TheFolds.{fold-roll-Term}
use Rattle.proof_log.specs.declared.name.TermName.{TermName}
use Rattle.proof_log.specs.declared.name.TermName.TheVariants as n
use Rattle.proof_log.specs.Words.{Word, small, node, nested, AreInRange}
use Rattle.proof_log.specs.LogText.{term_words, term_node}
use Rattle.proof_log.specs.code.Names.{term_name, term_names}
use Rattle.proof_log.specs.code.ReadWords.{find, number, listed, both}
use Rattle.proof_log.specs.code.ReadTrees.{term_by, term}
use Rattle.proof_log.proofs.Spelling.{Spell, ends, pair, good_pair, ranges-deeper}
use Rattle.proof_log.proofs.NumberReader.{one_number, small_good}
use Rattle.proof_log.proofs.ListReader.{list_words, good_list}
use Rattle.proof_log.proofs.TreeReader.{good_tree, good_deep_tree}

-- ---- names

found_all : (w : TermName) (r : List ℕ) → find term_name term_names (term_name w ++ r) ≡ Some w
found_all n.Var r = refl
found_all n.App r = refl

filled : (w : TermName) → (b : ℕ) × (more : List ℕ) × (term_name w ≡ b ∷ more)
filled n.Var = (_, _, refl)
filled n.App = (_, _, refl)

-- ---- the name of a tree, and its arguments

abbrev head_of : term.Term-F Term → TermName
head_of (term.Var k) = n.Var
head_of (term.App f args) = n.App

abbrev args_of : term.Term-F Term → List Word
args_of (term.Var k) = small k ∷ []
args_of (term.App f args) = small f ∷ list_words term_words args

is_layer : (l : term.Term-F Term) → term_words (roll-Term l) ≡ node (term_name (head_of l)) (args_of l)
unfolding term_words
is_layer (term.Var k) = fold-roll-Term (List Word) term_node (term.Var k)
is_layer (term.App f args) = fold-roll-Term (List Word) term_node (term.App f args)

is_node : (x : Term) → term_words x ≡ node (term_name (head_of (out-Term x))) (args_of (out-Term x))
is_node x = ap term_words (sym (roll-out-Term x)) ∙ is_layer (out-Term x)

abbrev TermArgs : ℕ → TermName → Rule ℕ Term
TermArgs d w x ts rest = (head_of (out-Term x) ≡ w) × Spell (λ y. args_of (out-Term y)) (suc d) x ts rest

to_args : (d : ℕ) (w : TermName) (x : Term) (l : term.Term-F Term) → out-Term x ≡ l → head_of l ≡ w → (ts rest : List (Nested ℕ)) → ts ≡ nested (suc d) (args_of l) ++ rest → AreInRange (args_of l) → TermArgs d w x ts rest
to_args d w x l e k ts rest h r = (ap head_of e ∙ k, (h ∙ ap (λ y. nested (suc d) (args_of y) ++ rest) (sym e), subst (λ y. AreInRange (args_of y)) (sym e) r))

-- the parts that a value of the name has
abbrev Split : {B : Type 0} → (B → List Word) → (B → Term) → ℕ → Term → List (Nested ℕ) → List (Nested ℕ) → Type 0
Split words make d x ts rest = (v : _) × Spell words (suc d) v ts rest × (make v ≡ x)

module _ (d : ℕ) (ts rest : List (Nested ℕ)) where
  abbrev IsAt : TermName → Term → term.Term-F Term → Type 0
  IsAt w x l = (out-Term x ≡ l) × (head_of l ≡ w) × (ts ≡ nested (suc d) (args_of l) ++ rest) × AreInRange (args_of l)

  is_at : (w : TermName) (x : Term) → TermArgs d w x ts rest → IsAt w x (out-Term x)
  is_at w x h = (refl, h.0, h.1.0, h.1.1)

  built : (x y : Term) (l : term.Term-F Term) → out-Term x ≡ l → roll-Term l ≡ y → y ≡ x
  built x y l e k = sym (sym (roll-out-Term x) ∙ ap roll-Term e ∙ k)

  split-Var : (x : Term) (l : term.Term-F Term) → IsAt n.Var x l → Split {B = ℕ} (one_number 4294967295) Var d x ts rest
  split-Var x (term.Var k) h = (k, (h.2, h.3), built x (Var k) (term.Var k) h.0 (rolls-Var k))
  split-Var x l h = let e = h.1 in cc

  split-App : (x : Term) (l : term.Term-F Term) → IsAt n.App x l → Split {B = ℕ × List Term} (pair (one_number 4294967295) (list_words term_words)) (λ v. App v.0 v.1) d x ts rest
  split-App x (term.App f args) h = ((f, args), (h.2, h.3), built x (App f args) (term.App f args) h.0 (rolls-App f args))
  split-App x l h = let e = h.1 in cc

-- ---- the readers

module _ (limit d : ℕ) (t : Reader ℕ Term) (good_t : Good limit t (Spell term_words (suc d)) ends) where
  good_by : (w : TermName) → Good limit (term_by t w) (TermArgs d w) ends
  good_by n.Var =
      good_map limit (number 4294967295) (term_by t n.Var) (Spell (one_number 4294967295) (suc d)) (TermArgs d n.Var) ends Var (λ us. refl) (small_good (suc d))
      (λ v us rest h. to_args d n.Var (Var v) (term.Var v) (outs-Var v) refl us rest h.0 h.1) (λ x us rest h. split-Var d us rest x (out-Term x) (is_at d us rest n.Var x h))
  good_by n.App =
      good_map limit (both (number 4294967295) (listed t)) (term_by t n.App) (Spell (pair (one_number 4294967295) (list_words term_words)) (suc d)) (TermArgs d n.App) ends (λ v. App v.0 v.1) (λ us. refl) (good_pair limit (suc d) (number 4294967295) (listed t) (one_number 4294967295) (list_words term_words) (small_good (suc d)) (good_list term_words limit (suc d) t good_t))
      (λ v us rest h. to_args d n.App (App v.0 v.1) (term.App v.0 v.1) (outs-App v.0 v.1) refl us rest h.0 h.1) (λ x us rest h. split-App d us rest x (out-Term x) (is_at d us rest n.App x h))

zero_le : {n : ℕ} → 0 ≤ n
zero_le = omega arith

pub term_sample : AreInRange (term_words (Var 0))
term_sample = subst AreInRange (sym (is_node (Var 0))) (tt, (let r : AreInRange (args_of (out-Term (Var 0))) = subst (λ l. AreInRange (args_of l)) (sym (outs-Var 0)) (zero_le, tt) in ranges-deeper (args_of (out-Term (Var 0))) r))

samples : (d : ℕ) (w : TermName) → Inhabited (TermArgs d w)
samples d n.Var = record { value = Var 0; text = λ more. nested (suc d) (small 0 ∷ []) ++ more; spells = λ more. to_args d n.Var (Var 0) (term.Var 0) (outs-Var 0) refl (nested (suc d) (small 0 ∷ []) ++ more) more refl (zero_le, tt) }
samples d n.App = record { value = App 0 []; text = λ more. nested (suc d) (small 0 ∷ list_words term_words []) ++ more; spells = λ more. to_args d n.App (App 0 []) (term.App 0 []) (outs-App 0 []) refl (nested (suc d) (small 0 ∷ list_words term_words []) ++ more) more refl (zero_le, (zero_le, tt)) }

pub good_term : (room limit d : ℕ) → limit ≡ d + room → Good limit (term room) (Spell term_words d) ends
unfolding term
good_term zero limit d e = good_deep_tree term_name term_names n.Var found_all term_words (λ x. head_of (out-Term x)) (λ x. args_of (out-Term x)) is_node limit d (omega arith) filled (samples d)
good_term (suc room) limit d e = good_tree term_name term_names n.Var found_all term_words (λ x. head_of (out-Term x)) (λ x. args_of (out-Term x)) is_node limit d (omega arith) (term_by (term room)) (good_by limit d (term room) (good_term room limit (suc d) (omega arith)))
