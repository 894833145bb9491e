-- The normal form of a clause whose literals are plain and whose variables occur is the clause, and a path reaches it.
use Rattle.std.specs.Prelude.{ℕ, ◌≡◌, ◌+◌, ◌<◌, ◌≤◌, ◌||◌, Bool, true, false, if◌then◌else◌, List, [], ◌∷◌, ◌++◌, flat_map, length, map, Option, Some, None, slice_get, refl}
use Rattle.std.specs.List.{list_any}
use Rattle.std.specs.Option.{option_map}
use Rattle.std.proofs.Common.{ap, ◌∙◌, arith, suc}
use Rattle.std.proofs.lemmas.List.Concat.{flat_map-cons}
use Rattle.fof_terms.specs.declared.form.Form.{Form, Atom, Eq, Not}
use Rattle.fof_terms.specs.declared.form.Form.TheViews.{outs-Atom, outs-Eq, outs-Not}
use Rattle.fof_terms.specs.declared.term.Term.{Term}
use Rattle.fof_terms.specs.Lift.{lifted_term}
use Rattle.fof_terms.specs.Variables.{has_in_term, has_variable}
use Rattle.fof_terms.specs.Vocabulary.{Vocabulary}
use Rattle.fof_terms.proofs.VariablesFacts.{has_variable-Atom, has_variable-Eq, has_variable-Not, has_variable-And, has_variable-Or, has_variable-All}
use Rattle.clause_form.specs.declared.clause.AtomOf.{AtomOf}
use Rattle.clause_form.specs.declared.clause.AtomOf.TheVariants.{Pred, Eq as Equation, True, False}
use Rattle.clause_form.specs.declared.clause.Lit.{Lit}
use Rattle.clause_form.specs.declared.clause.Clause.{Clause}
use Rattle.clause_form.specs.declared.path.Parent.{Parent}
use Rattle.clause_form.specs.declared.path.Path.{Path, Leaf, Each, Under}
use Rattle.clause_form.specs.ClauseView.{alone_lit, clause_of, closed, closed_by, form_of_atom, form_of_lit, form_of_lits, open_clause, within}
use Rattle.clause_form.specs.Covers.{at_terms, in_lit, Covers}
use Rattle.clause_form.specs.Norm.{ends, ends_in, join, joined_flat, members_in, members_of, norm_of, quantified, signed}
use Rattle.clause_form.specs.Paths.{all_beside, beside, each_reaches, is_plain, plain, reached}
use Rattle.clause_form.specs.Sizes.{norm_size_of}
use Rattle.clause_form.proofs.BesideFacts.{lift_nothing}
use Rattle.clause_form.proofs.ClauseLaws.{lits_themselves}
use Rattle.clause_form.proofs.NormFacts.{joined_flat-alone, norm_of-Atom, norm_of-Eq, norm_of-Not, norm_of-Or, norm_of-All, quantified-kept}
use Rattle.clause_form.proofs.PathCases.{reached-Leaf, reached-Each, reached-Under}
use Rattle.clause_form.proofs.ViewLaws.{lit_view}
use Rattle.clause_rules.specs.CoverRule.{IsCoverStep}
use Rattle.printed_clauses.specs.Trimmed.{has_in_atom, occurs_in, trimmed}
use Rattle.printed_steps.specs.Carried.{HasItsVariables}
use Rattle.printed_steps.specs.Printed.{IsPlain}
use Rattle.printed_steps.proofs.Occurring.{trimmed_occurs}

-- literals
lit_norm : (g : Bool) (a : AtomOf) → is_plain a ≡ true → norm_of true (signed g (form_of_atom a)) ≡ signed g (form_of_atom a)
lit_norm true (Pred p ts) e = norm_of-Atom true p ts
lit_norm true (Equation l r) e = norm_of-Eq true l r
lit_norm true True e = cc
lit_norm true False e = cc
lit_norm false (Pred p ts) e = norm_of-Not true (Atom p ts) ∙ norm_of-Atom false p ts
lit_norm false (Equation l r) e = norm_of-Not true (Eq l r) ∙ norm_of-Eq false l r
lit_norm false True e = cc
lit_norm false False e = cc

lit_members : (g : Bool) (a : AtomOf) → is_plain a ≡ true → members_of false (signed g (form_of_atom a)) ≡ signed g (form_of_atom a) ∷ []
unfolding members_of
lit_members true (Pred p ts) e = ap (members_in false (Atom p ts)) (outs-Atom p ts)
lit_members true (Equation l r) e = ap (members_in false (Eq l r)) (outs-Eq l r)
lit_members true True e = cc
lit_members true False e = cc
lit_members false (Pred p ts) e = ap (members_in false (Not (Atom p ts))) (outs-Not (Atom p ts))
lit_members false (Equation l r) e = ap (members_in false (Not (Eq l r))) (outs-Not (Eq l r))
lit_members false True e = cc
lit_members false False e = cc

lit_ends : (g : Bool) (a : AtomOf) → is_plain a ≡ true → ends false (signed g (form_of_atom a)) ≡ false
unfolding ends
lit_ends true (Pred p ts) e = ap (ends_in false) (outs-Atom p ts)
lit_ends true (Equation l r) e = ap (ends_in false) (outs-Eq l r)
lit_ends true True e = cc
lit_ends true False e = cc
lit_ends false (Pred p ts) e = ap (ends_in false) (outs-Not (Atom p ts))
lit_ends false (Equation l r) e = ap (ends_in false) (outs-Not (Eq l r))
lit_ends false True e = cc
lit_ends false False e = cc

norms_same : (lits : List Lit) → IsPlain lits → map (norm_of true) (map form_of_lit lits) ≡ map form_of_lit lits
norms_same [] h = refl
norms_same (l ∷ lits) h = rw (lit_norm l.positive l.atom h.0, norms_same lits h.1) refl

members_same : (lits : List Lit) → IsPlain lits → flat_map (members_of false) (map form_of_lit lits) ≡ map form_of_lit lits
members_same [] h = refl
members_same (l ∷ lits) h =
    flat_map-cons (members_of false) (form_of_lit l) (map form_of_lit lits)
    ∙ ap (λ (xs : List Form). xs ++ flat_map (members_of false) (map form_of_lit lits)) (lit_members l.positive l.atom h.0) ∙ ap (λ (xs : List Form). form_of_lit l ∷ xs) (members_same lits h.1)

none_ends : (lits : List Lit) → IsPlain lits → list_any (ends false) (map form_of_lit lits) ≡ false
none_ends [] h = refl
none_ends (l ∷ lits) h = rw (lit_ends l.positive l.atom h.0, none_ends lits h.1) refl

body_norm : (lits : List Lit) → IsPlain lits → norm_of true (form_of_lits lits) ≡ form_of_lits lits
body_norm [] h = norm_of-Or true [] ∙ joined_flat-alone false [] refl
body_norm (l ∷ []) h = lit_norm l.positive l.atom h.0
body_norm (l ∷ k ∷ lits) h =
    let all : List Lit = l ∷ k ∷ lits in
    norm_of-Or true (map form_of_lit all) ∙ ap (join false) (norms_same all h) ∙ ap (joined_flat false) (members_same all h) ∙ joined_flat-alone false (map form_of_lit all) (none_ends all h)

-- variables
or_false : (b : Bool) → b ≡ (b || false)
or_false true = refl
or_false false = refl

atom_variable : (k : ℕ) (a : AtomOf) → has_variable k (form_of_atom a) ≡ has_in_atom k a
atom_variable k (Pred p ts) = has_variable-Atom k p ts
atom_variable k (Equation l r) = has_variable-Eq k l r ∙ ap (λ (b : Bool). has_in_term k l || b) (or_false (has_in_term k r))
atom_variable k True = has_variable-And k []
atom_variable k False = has_variable-Or k []

lit_variable : (k : ℕ) (g : Bool) (a : AtomOf) → has_variable k (signed g (form_of_atom a)) ≡ has_in_atom k a
lit_variable k true a = atom_variable k a
lit_variable k false a = has_variable-Not k (form_of_atom a) ∙ atom_variable k a

lits_variable : (k : ℕ) (lits : List Lit) → list_any (has_variable k) (map form_of_lit lits) ≡ occurs_in lits k
lits_variable k [] = refl
lits_variable k (l ∷ lits) = rw (lit_variable k l.positive l.atom, lits_variable k lits) refl

body_variable : (k : ℕ) (lits : List Lit) → has_variable k (form_of_lits lits) ≡ occurs_in lits k
body_variable k [] = has_variable-Or k []
body_variable k (l ∷ []) = lit_variable k l.positive l.atom ∙ or_false (has_in_atom k l.atom)
body_variable k (l ∷ j ∷ lits) = has_variable-Or k (map form_of_lit (l ∷ j ∷ lits)) ∙ lits_variable k (l ∷ j ∷ lits)

closed_variable : (sorts : List ℕ) (a : Form) (k : ℕ) → has_variable k (closed_by sorts a) ≡ has_variable (k + length sorts) a
closed_variable [] a k = ap (λ (n : ℕ). has_variable n a) (omega arith)
closed_variable (s ∷ sorts) a k = has_variable-All k s (closed_by sorts a) ∙ closed_variable sorts a (k + 1) ∙ ap (λ (n : ℕ). has_variable n a) (step k (length sorts)) where
  step : (k n : ℕ) → k + 1 + n ≡ k + suc n
  step k n = omega arith

closed_norm : (sorts : List ℕ) (lits : List Lit) → IsPlain lits → ((m : ℕ) → m < length sorts → occurs_in lits m ≡ true) → norm_of true (closed_by sorts (form_of_lits lits)) ≡ closed_by sorts (form_of_lits lits)
closed_norm [] lits h all = body_norm lits h
closed_norm (s ∷ sorts) lits h all =
    let inner : Form = closed_by sorts (form_of_lits lits) in
    let there : has_variable 0 inner ≡ true =
    closed_variable sorts (form_of_lits lits) 0 ∙ ap (λ (n : ℕ). has_variable n (form_of_lits lits)) (zero_more (length sorts)) ∙ body_variable (length sorts) lits ∙ all (length sorts) (omega arith) in
    norm_of-All true s inner ∙ ap (quantified true s) (closed_norm sorts lits h (λ m lt. all m (omega arith))) ∙ quantified-kept true s inner there
  where
    zero_more : (n : ℕ) → 0 + n ≡ n
    zero_more n = omega arith

-- a path
lit_reached : (l : Lit) → is_plain l.atom ≡ true → reached Leaf (form_of_lit l) ≡ Some (open_clause (l ∷ []))
lit_reached l e =
    reached-Leaf (form_of_lit l) ∙ ap (λ (o : Option Lit). option_map open_clause (option_map alone_lit (plain o))) (lit_view l)
    ∙ ap (λ (b : Bool). option_map open_clause (option_map alone_lit (if b then Some l else None))) e

abbrev leaves : List Lit → List Path
leaves lits = map (λ (l : Lit). Leaf) lits

abbrev alone_clauses : List Lit → List Clause
alone_clauses lits = map (λ (l : Lit). open_clause (l ∷ [])) lits

leaves_reach : (lits : List Lit) → IsPlain lits → each_reaches (map reached (leaves lits)) (map form_of_lit lits) ≡ Some (alone_clauses lits)
leaves_reach [] h = refl
leaves_reach (l ∷ lits) h = rw (lit_reached l h.0, leaves_reach lits h.1) refl

beside_alone : (lits : List Lit) → all_beside (alone_clauses lits) ≡ open_clause lits
beside_alone [] = refl
beside_alone (l ∷ lits) =
    ap (beside (open_clause (l ∷ []))) (beside_alone lits)
    ∙ ap (λ (ls : List Lit). open_clause (in_lit (lifted_term 0 0) l ∷ ls)) (lits_themselves (lifted_term 0 0) (lift_nothing 0) lits)
    ∙ ap (λ (ls : List Lit). open_clause (ls ++ lits)) (lits_themselves (lifted_term 0 0) (lift_nothing 0) (l ∷ []))

body_reached : (lits : List Lit) → IsPlain lits → (p : Path) × (reached p (form_of_lits lits) ≡ Some (open_clause lits))
body_reached [] h = (Each [], reached-Each [] [])
body_reached (l ∷ []) h = (Leaf, lit_reached l h.0)
body_reached (l ∷ k ∷ lits) h =
    let all : List Lit = l ∷ k ∷ lits in
    (Each (leaves all), reached-Each (leaves all) (map form_of_lit all) ∙ ap (option_map all_beside) (leaves_reach all h) ∙ ap Some (beside_alone all))

closed_reached : (sorts : List ℕ) (lits : List Lit) → IsPlain lits → (p : Path) × (reached p (closed_by sorts (form_of_lits lits)) ≡ Some (record { sorts = sorts; lits = lits }))
closed_reached [] lits h = body_reached lits h
closed_reached (s ∷ sorts) lits h =
    let inner = closed_reached sorts lits h in
    (Under inner.0, reached-Under inner.0 s (closed_by sorts (form_of_lits lits)) ∙ ap (option_map (within s)) inner.1)

-- a change of terms keeps literals plain
plain_change : (f : Term → Term) (a : AtomOf) → is_plain (at_terms f a) ≡ is_plain a
plain_change f (Pred p ts) = refl
plain_change f (Equation l r) = refl
plain_change f True = refl
plain_change f False = refl

plain_lits : (f : Term → Term) (lits : List Lit) → IsPlain lits → IsPlain (map (in_lit f) lits)
plain_lits f [] h = tt
plain_lits f (l ∷ lits) h = (plain_change f l.atom ∙ h.0, plain_lits f lits h.1)

pub covers_by_rule : (v : Vocabulary) (parents : List Parent) (line : Form) (a : ℕ) (p : Parent) (c e : Clause) → slice_get parents a ≡ Some p → p.form ≡ closed (trimmed c) → norm_size_of p.form ≤ 100000 → IsPlain c.lits → HasItsVariables c
    → clause_of line ≡ Some e → Covers v (trimmed c) e → IsCoverStep v parents line
covers_by_rule v parents line a p c e there is small simple own line_clause covers =
    let kept = plain_lits _ c.lits simple in
    let way = closed_reached (trimmed c).sorts (trimmed c).lits kept in
    let norm : norm_of true p.form ≡ closed (trimmed c) = ap (norm_of true) is ∙ closed_norm (trimmed c).sorts (trimmed c).lits kept (trimmed_occurs c own) in (
      a,
      way.0,
      trimmed c,
      e,
      covers.0,
      covers.1,
      record {
        reaches = record { parent = p; there = there; small = small; clause = ap (reached way.0) norm ∙ way.1 };
        line_clause = line_clause;
        covers = covers.2;
      },
    )
