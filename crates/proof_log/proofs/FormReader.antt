-- The reader of forms is exact and finds each form within its limit.
use Rattle.std.proofs.Common.{◌≡◌, ℕ, zero, suc, ◌+◌, ◌≤◌, List, [], ◌∷◌, ◌++◌, Some, refl, sym, ◌∙◌, ap, subst, arith}
use Rattle.first_fault.specs.Nesting.{Nested}
use Rattle.first_fault.specs.code.Reading.{Reader}
use Rattle.first_fault.specs.Rules.{Rule}
use Rattle.first_fault.proofs.Exact.{Inhabited}
use Rattle.first_fault.proofs.Good.{Good, good_map}
use Rattle.fof_terms.specs.declared.term.Term.{Term, Var}
use Rattle.fof_terms.specs.declared.form.Form.{Form, Atom, Eq, Not, And, Or, Imp, Iff, All, Ex}
use Rattle.fof_terms.specs.declared.form.Form.TheVariants.{rolls-Atom, rolls-Eq, rolls-Not, rolls-And, rolls-Or, rolls-Imp, rolls-Iff, rolls-All, rolls-Ex}
use Rattle.fof_terms.specs.declared.form.Form.TheOpen as form
use Rattle.fof_terms.specs.declared.form.Form.TheViews.{roll-Form, out-Form, roll-out-Form, outs-Atom, outs-Eq, outs-Not, outs-And, outs-Or, outs-Imp, outs-Iff, outs-All, outs-Ex}
use Rattle.fof_terms.specs.declared.form.Form.TheFolds.{fold-roll-Form}
use Rattle.proof_log.specs.declared.name.FormName.{FormName}
use Rattle.proof_log.specs.declared.name.FormName.TheVariants as n
use Rattle.proof_log.specs.Words.{Word, small, node, nested, AreInRange}
use Rattle.proof_log.specs.LogText.{term_words, form_words, form_node}
use Rattle.proof_log.specs.code.Names.{form_name, form_names}
use Rattle.proof_log.specs.code.ReadWords.{find, number, listed, both}
use Rattle.proof_log.specs.code.ReadTrees.{form_by, term, form}
use Rattle.proof_log.proofs.Spelling.{Spell, ends, pair, good_pair, ranges-append, ranges-deeper}
use Rattle.proof_log.proofs.NumberReader.{one_number, small_good}
use Rattle.proof_log.proofs.ListReader.{list_words, good_list}
use Rattle.proof_log.proofs.TreeReader.{good_tree, good_deep_tree}
use Rattle.proof_log.proofs.TermReader.{good_term, term_sample}

-- ---- names

found_all : (w : FormName) (r : List ℕ) → find form_name form_names (form_name w ++ r) ≡ Some w
found_all n.Atom r = refl
found_all n.Eq r = refl
found_all n.Not r = refl
found_all n.And r = refl
found_all n.Or r = refl
found_all n.Imp r = refl
found_all n.Iff r = refl
found_all n.All r = refl
found_all n.Ex r = refl

filled : (w : FormName) → (b : ℕ) × (more : List ℕ) × (form_name w ≡ b ∷ more)
filled n.Atom = (_, _, refl)
filled n.Eq = (_, _, refl)
filled n.Not = (_, _, refl)
filled n.And = (_, _, refl)
filled n.Or = (_, _, refl)
filled n.Imp = (_, _, refl)
filled n.Iff = (_, _, refl)
filled n.All = (_, _, refl)
filled n.Ex = (_, _, refl)

-- ---- the name of a tree, and its arguments

abbrev head_of : form.Form-F Form → FormName
head_of (form.Atom p args) = n.Atom
head_of (form.Eq s t) = n.Eq
head_of (form.Not a) = n.Not
head_of (form.And members) = n.And
head_of (form.Or members) = n.Or
head_of (form.Imp a b) = n.Imp
head_of (form.Iff a b) = n.Iff
head_of (form.All s a) = n.All
head_of (form.Ex s a) = n.Ex

abbrev args_of : form.Form-F Form → List Word
args_of (form.Atom p args) = small p ∷ list_words term_words args
args_of (form.Eq s t) = term_words s ++ (term_words t)
args_of (form.Not a) = form_words a
args_of (form.And members) = list_words form_words members
args_of (form.Or members) = list_words form_words members
args_of (form.Imp a b) = form_words a ++ (form_words b)
args_of (form.Iff a b) = form_words a ++ (form_words b)
args_of (form.All s a) = small s ∷ form_words a
args_of (form.Ex s a) = small s ∷ form_words a

is_layer : (l : form.Form-F Form) → form_words (roll-Form l) ≡ node (form_name (head_of l)) (args_of l)
unfolding form_words
is_layer (form.Atom p args) = fold-roll-Form (List Word) form_node (form.Atom p args)
is_layer (form.Eq s t) = fold-roll-Form (List Word) form_node (form.Eq s t)
is_layer (form.Not a) = fold-roll-Form (List Word) form_node (form.Not a)
is_layer (form.And members) = fold-roll-Form (List Word) form_node (form.And members)
is_layer (form.Or members) = fold-roll-Form (List Word) form_node (form.Or members)
is_layer (form.Imp a b) = fold-roll-Form (List Word) form_node (form.Imp a b)
is_layer (form.Iff a b) = fold-roll-Form (List Word) form_node (form.Iff a b)
is_layer (form.All s a) = fold-roll-Form (List Word) form_node (form.All s a)
is_layer (form.Ex s a) = fold-roll-Form (List Word) form_node (form.Ex s a)

is_node : (x : Form) → form_words x ≡ node (form_name (head_of (out-Form x))) (args_of (out-Form x))
is_node x = ap form_words (sym (roll-out-Form x)) ∙ is_layer (out-Form x)

abbrev FormArgs : ℕ → FormName → Rule ℕ Form
FormArgs d w x ts rest = (head_of (out-Form x) ≡ w) × Spell (λ y. args_of (out-Form y)) (suc d) x ts rest

to_args : (d : ℕ) (w : FormName) (x : Form) (l : form.Form-F Form) → out-Form x ≡ l → head_of l ≡ w → (ts rest : List (Nested ℕ)) → ts ≡ nested (suc d) (args_of l) ++ rest → AreInRange (args_of l) → FormArgs d w x ts rest
to_args d w x l e k ts rest h r = (ap head_of e ∙ k, (h ∙ ap (λ y. nested (suc d) (args_of y) ++ rest) (sym e), subst (λ y. AreInRange (args_of y)) (sym e) r))

-- the parts that a value of the name has
abbrev Split : {B : Type 0} → (B → List Word) → (B → Form) → ℕ → Form → List (Nested ℕ) → List (Nested ℕ) → Type 0
Split words make d x ts rest = (v : _) × Spell words (suc d) v ts rest × (make v ≡ x)

module _ (d : ℕ) (ts rest : List (Nested ℕ)) where
  built : (x y : Form) (l : form.Form-F Form) → out-Form x ≡ l → roll-Form l ≡ y → y ≡ x
  built x y l e k = sym (sym (roll-out-Form x) ∙ ap roll-Form e ∙ k)

  -- by its name
  abbrev PartsBy : FormName → Form → Type 0
  PartsBy n.Atom x = Split {B = ℕ × List Term} (pair (one_number 4294967295) (list_words term_words)) (λ v. Atom v.0 v.1) d x ts rest
  PartsBy n.Eq x = Split {B = Term × Term} (pair term_words term_words) (λ v. Eq v.0 v.1) d x ts rest
  PartsBy n.Not x = Split {B = Form} form_words Not d x ts rest
  PartsBy n.And x = Split {B = List Form} (list_words form_words) And d x ts rest
  PartsBy n.Or x = Split {B = List Form} (list_words form_words) Or d x ts rest
  PartsBy n.Imp x = Split {B = Form × Form} (pair form_words form_words) (λ v. Imp v.0 v.1) d x ts rest
  PartsBy n.Iff x = Split {B = Form × Form} (pair form_words form_words) (λ v. Iff v.0 v.1) d x ts rest
  PartsBy n.All x = Split {B = ℕ × Form} (pair (one_number 4294967295) form_words) (λ v. All v.0 v.1) d x ts rest
  PartsBy n.Ex x = Split {B = ℕ × Form} (pair (one_number 4294967295) form_words) (λ v. Ex v.0 v.1) d x ts rest

  parts : (x : Form) (l : form.Form-F Form) → out-Form x ≡ l → ts ≡ nested (suc d) (args_of l) ++ rest → AreInRange (args_of l) → PartsBy (head_of l) x
  parts x (form.Atom p args) out text fits = ((p, args), (text, fits), built x (Atom p args) (form.Atom p args) out (rolls-Atom p args))
  parts x (form.Eq s t) out text fits = ((s, t), (text, fits), built x (Eq s t) (form.Eq s t) out (rolls-Eq s t))
  parts x (form.Not a) out text fits = (a, (text, fits), built x (Not a) (form.Not a) out (rolls-Not a))
  parts x (form.And members) out text fits = (members, (text, fits), built x (And members) (form.And members) out (rolls-And members))
  parts x (form.Or members) out text fits = (members, (text, fits), built x (Or members) (form.Or members) out (rolls-Or members))
  parts x (form.Imp a b) out text fits = ((a, b), (text, fits), built x (Imp a b) (form.Imp a b) out (rolls-Imp a b))
  parts x (form.Iff a b) out text fits = ((a, b), (text, fits), built x (Iff a b) (form.Iff a b) out (rolls-Iff a b))
  parts x (form.All s a) out text fits = ((s, a), (text, fits), built x (All s a) (form.All s a) out (rolls-All s a))
  parts x (form.Ex s a) out text fits = ((s, a), (text, fits), built x (Ex s a) (form.Ex s a) out (rolls-Ex s a))

  split : (w : FormName) (x : Form) → FormArgs d w x ts rest → PartsBy w x
  split w x h = subst (λ v. PartsBy v x) h.0 (parts x (out-Form x) refl h.1.0 h.1.1)

-- ---- the readers

module _ (limit d : ℕ) (t : Reader ℕ Term) (good_t : Good limit t (Spell term_words (suc d)) ends) (f : Reader ℕ Form) (good_f : Good limit f (Spell form_words (suc d)) ends) where
  good_by : (w : FormName) → Good limit (form_by t f w) (FormArgs d w) ends
  good_by n.Atom =
      good_map limit (both (number 4294967295) (listed t)) (form_by t f n.Atom) (Spell (pair (one_number 4294967295) (list_words term_words)) (suc d)) (FormArgs d n.Atom) ends (λ v. Atom v.0 v.1) (λ us. refl) (good_pair limit (suc d) (number 4294967295) (listed t) (one_number 4294967295) (list_words term_words) (small_good (suc d)) (good_list term_words limit (suc d) t good_t))
      (λ v us rest h. to_args d n.Atom (Atom v.0 v.1) (form.Atom v.0 v.1) (outs-Atom v.0 v.1) refl us rest h.0 h.1) (λ x us rest h. split d us rest n.Atom x h)
  good_by n.Eq =
      good_map limit (both t t) (form_by t f n.Eq) (Spell (pair term_words term_words) (suc d)) (FormArgs d n.Eq) ends (λ v. Eq v.0 v.1) (λ us. refl) (good_pair limit (suc d) t t term_words term_words good_t good_t)
      (λ v us rest h. to_args d n.Eq (Eq v.0 v.1) (form.Eq v.0 v.1) (outs-Eq v.0 v.1) refl us rest h.0 h.1) (λ x us rest h. split d us rest n.Eq x h)
  good_by n.Not =
      good_map limit f (form_by t f n.Not) (Spell form_words (suc d)) (FormArgs d n.Not) ends Not (λ us. refl) good_f
      (λ v us rest h. to_args d n.Not (Not v) (form.Not v) (outs-Not v) refl us rest h.0 h.1) (λ x us rest h. split d us rest n.Not x h)
  good_by n.And =
      good_map limit (listed f) (form_by t f n.And) (Spell (list_words form_words) (suc d)) (FormArgs d n.And) ends And (λ us. refl) (good_list form_words limit (suc d) f good_f)
      (λ v us rest h. to_args d n.And (And v) (form.And v) (outs-And v) refl us rest h.0 h.1) (λ x us rest h. split d us rest n.And x h)
  good_by n.Or =
      good_map limit (listed f) (form_by t f n.Or) (Spell (list_words form_words) (suc d)) (FormArgs d n.Or) ends Or (λ us. refl) (good_list form_words limit (suc d) f good_f)
      (λ v us rest h. to_args d n.Or (Or v) (form.Or v) (outs-Or v) refl us rest h.0 h.1) (λ x us rest h. split d us rest n.Or x h)
  good_by n.Imp =
      good_map limit (both f f) (form_by t f n.Imp) (Spell (pair form_words form_words) (suc d)) (FormArgs d n.Imp) ends (λ v. Imp v.0 v.1) (λ us. refl) (good_pair limit (suc d) f f form_words form_words good_f good_f)
      (λ v us rest h. to_args d n.Imp (Imp v.0 v.1) (form.Imp v.0 v.1) (outs-Imp v.0 v.1) refl us rest h.0 h.1) (λ x us rest h. split d us rest n.Imp x h)
  good_by n.Iff =
      good_map limit (both f f) (form_by t f n.Iff) (Spell (pair form_words form_words) (suc d)) (FormArgs d n.Iff) ends (λ v. Iff v.0 v.1) (λ us. refl) (good_pair limit (suc d) f f form_words form_words good_f good_f)
      (λ v us rest h. to_args d n.Iff (Iff v.0 v.1) (form.Iff v.0 v.1) (outs-Iff v.0 v.1) refl us rest h.0 h.1) (λ x us rest h. split d us rest n.Iff x h)
  good_by n.All =
      good_map limit (both (number 4294967295) f) (form_by t f n.All) (Spell (pair (one_number 4294967295) form_words) (suc d)) (FormArgs d n.All) ends (λ v. All v.0 v.1) (λ us. refl) (good_pair limit (suc d) (number 4294967295) f (one_number 4294967295) form_words (small_good (suc d)) good_f)
      (λ v us rest h. to_args d n.All (All v.0 v.1) (form.All v.0 v.1) (outs-All v.0 v.1) refl us rest h.0 h.1) (λ x us rest h. split d us rest n.All x h)
  good_by n.Ex =
      good_map limit (both (number 4294967295) f) (form_by t f n.Ex) (Spell (pair (one_number 4294967295) form_words) (suc d)) (FormArgs d n.Ex) ends (λ v. Ex v.0 v.1) (λ us. refl) (good_pair limit (suc d) (number 4294967295) f (one_number 4294967295) form_words (small_good (suc d)) good_f)
      (λ v us rest h. to_args d n.Ex (Ex v.0 v.1) (form.Ex v.0 v.1) (outs-Ex v.0 v.1) refl us rest h.0 h.1) (λ x us rest h. split d us rest n.Ex x h)

zero_le : {n : ℕ} → 0 ≤ n
zero_le = omega arith

pub form_sample : AreInRange (form_words (And []))
form_sample = subst AreInRange (sym (is_node (And []))) (tt, (let r : AreInRange (args_of (out-Form (And []))) = subst (λ l. AreInRange (args_of l)) (sym (outs-And [])) (zero_le, tt) in ranges-deeper (args_of (out-Form (And []))) r))

samples : (d : ℕ) (w : FormName) → Inhabited (FormArgs d w)
samples d n.Atom = record { value = Atom 0 []; text = λ more. nested (suc d) (small 0 ∷ list_words term_words []) ++ more; spells = λ more. to_args d n.Atom (Atom 0 []) (form.Atom 0 []) (outs-Atom 0 []) refl (nested (suc d) (small 0 ∷ list_words term_words []) ++ more) more refl (zero_le, (zero_le, tt)) }
samples d n.Eq = record { value = Eq (Var 0) (Var 0); text = λ more. nested (suc d) (term_words (Var 0) ++ (term_words (Var 0))) ++ more; spells = λ more. to_args d n.Eq (Eq (Var 0) (Var 0)) (form.Eq (Var 0) (Var 0)) (outs-Eq (Var 0) (Var 0)) refl (nested (suc d) (term_words (Var 0) ++ (term_words (Var 0))) ++ more) more refl (ranges-append (term_words (Var 0)) (term_words (Var 0)) term_sample term_sample) }
samples d n.Not = record { value = Not (And []); text = λ more. nested (suc d) (form_words (And [])) ++ more; spells = λ more. to_args d n.Not (Not (And [])) (form.Not (And [])) (outs-Not (And [])) refl (nested (suc d) (form_words (And [])) ++ more) more refl (form_sample) }
samples d n.And = record { value = And []; text = λ more. nested (suc d) (list_words form_words []) ++ more; spells = λ more. to_args d n.And (And []) (form.And []) (outs-And []) refl (nested (suc d) (list_words form_words []) ++ more) more refl (zero_le, tt) }
samples d n.Or = record { value = Or []; text = λ more. nested (suc d) (list_words form_words []) ++ more; spells = λ more. to_args d n.Or (Or []) (form.Or []) (outs-Or []) refl (nested (suc d) (list_words form_words []) ++ more) more refl (zero_le, tt) }
samples d n.Imp = record { value = Imp (And []) (And []); text = λ more. nested (suc d) (form_words (And []) ++ (form_words (And []))) ++ more; spells = λ more. to_args d n.Imp (Imp (And []) (And [])) (form.Imp (And []) (And [])) (outs-Imp (And []) (And [])) refl (nested (suc d) (form_words (And []) ++ (form_words (And []))) ++ more) more refl (ranges-append (form_words (And [])) (form_words (And [])) form_sample form_sample) }
samples d n.Iff = record { value = Iff (And []) (And []); text = λ more. nested (suc d) (form_words (And []) ++ (form_words (And []))) ++ more; spells = λ more. to_args d n.Iff (Iff (And []) (And [])) (form.Iff (And []) (And [])) (outs-Iff (And []) (And [])) refl (nested (suc d) (form_words (And []) ++ (form_words (And []))) ++ more) more refl (ranges-append (form_words (And [])) (form_words (And [])) form_sample form_sample) }
samples d n.All = record { value = All 0 (And []); text = λ more. nested (suc d) (small 0 ∷ form_words (And [])) ++ more; spells = λ more. to_args d n.All (All 0 (And [])) (form.All 0 (And [])) (outs-All 0 (And [])) refl (nested (suc d) (small 0 ∷ form_words (And [])) ++ more) more refl (zero_le, form_sample) }
samples d n.Ex = record { value = Ex 0 (And []); text = λ more. nested (suc d) (small 0 ∷ form_words (And [])) ++ more; spells = λ more. to_args d n.Ex (Ex 0 (And [])) (form.Ex 0 (And [])) (outs-Ex 0 (And [])) refl (nested (suc d) (small 0 ∷ form_words (And [])) ++ more) more refl (zero_le, form_sample) }

pub good_form : (room limit d : ℕ) → limit ≡ d + room → Good limit (form room) (Spell form_words d) ends
unfolding form
good_form zero limit d e = good_deep_tree form_name form_names n.And found_all form_words (λ x. head_of (out-Form x)) (λ x. args_of (out-Form x)) is_node limit d (omega arith) filled (samples d)
good_form (suc room) limit d e = good_tree form_name form_names n.And found_all form_words (λ x. head_of (out-Form x)) (λ x. args_of (out-Form x)) is_node limit d (omega arith) (form_by (term room) (form room)) (good_by limit d (term room) (good_term room limit (suc d) (omega arith)) (form room) (good_form room limit (suc d) (omega arith)))
