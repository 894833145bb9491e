-- What the nodes of a proof state is well-sorted, so a symbol that two vocabularies do not have as one kind stands in no
-- proof that shows something over both.
use Rattle.std.specs.Prelude.{ℕ, ◌≡◌, false, List, [], ◌∷◌, Some, slice_get}
use Rattle.std.specs.List.{AllByRecursion}
use Rattle.std.proofs.Common.{subst}
use Rattle.fof_terms.specs.declared.term.Term.{Term}
use Rattle.fof_terms.specs.declared.form.Form.{Form, Eq, Not, Or, Imp, Iff}
use Rattle.fof_terms.specs.Occurs.{occurs_in, occurs_in_term}
use Rattle.fof_terms.specs.Sorts.{Sorted, sort_of_term}
use Rattle.fof_terms.proofs.Scoped.{sorted_of_eq, sorted_of_not, sorted_of_or, sorted_of_imp, sorted_of_iff}
use Rattle.kernel.specs.Statements.{Statements}
use Rattle.kernel.specs.Proves.{Proves, ProvesAll, ProvesEach, all_over}
use Rattle.kernel.specs.declared.proof.Proof.{Proof, Line, Hyp, AndI', AndE', OrI', OrE', ImpI', ImpE', NotI', NotE', Raa', IffI', IffL', IffR', AllI', AllE', ExI', ExE', Refl, Subst', Inhabit', Row_of-Proof, end_of-Proof, more_of-Proof}
use Rattle.entry_symbols.specs.Inside.{States, AllState, Lacks}
use Rattle.entry_symbols.proofs.Clashing.{Clash, form_lacks, term_lacks}

each_weaker : {X : Type 0} (P Q : X → Type 0) → ((x : X) → P x → Q x) → (xs : List X) → AllByRecursion P xs → AllByRecursion Q xs
each_weaker P Q on [] all = tt
each_weaker P Q on (x ∷ xs) all = (on x all.0, each_weaker P Q on xs all.1)

module _ (t : Statements) where
  -- the formula is well-sorted over some variables, and the term has a sort over some
  abbrev pub Fits : Form → Type 0
  Fits a = (v : List ℕ) × Sorted t.vocabulary v a

  abbrev pub HasSort : Term → Type 0
  HasSort x = (v : List ℕ) × ((s : ℕ) × (sort_of_term t.vocabulary v x ≡ Some s))

  all_fit : (v : List ℕ) (as_ : List Form) → AllByRecursion (Sorted t.vocabulary v) as_ → AllByRecursion Fits as_
  all_fit v as_ all = each_weaker (Sorted t.vocabulary v) Fits (λ a s. (v, s)) as_ all

  of_or : (v : List ℕ) (as_ : List Form) → Sorted t.vocabulary v (Or as_) → AllByRecursion Fits as_
  of_or v as_ s = all_fit v as_ (sorted_of_or t.vocabulary v 2147483647 as_ s)

  of_not : (v : List ℕ) (b : Form) → Sorted t.vocabulary v (Not b) → Fits b
  of_not v b s = (v, sorted_of_not t.vocabulary v 2147483647 b s)

  of_imp : (v : List ℕ) (b c : Form) → Sorted t.vocabulary v (Imp b c) → Fits b
  of_imp v b c s = (v, (sorted_of_imp t.vocabulary v 2147483647 b c s).0)

  of_iff : (v : List ℕ) (b c : Form) → Sorted t.vocabulary v (Iff b c) → Fits b × Fits c
  of_iff v b c s = let sides = sorted_of_iff t.vocabulary v 2147483647 b c s in ((v, sides.0), (v, sides.1))

  of_refl : (v : List ℕ) (x : Term) → Sorted t.vocabulary v (Eq x x) → HasSort x
  of_refl v x s = let sort = sorted_of_eq t.vocabulary v 2147483647 x x s in (v, (sort.0, sort.1))

  sorted_as : (v : List ℕ) (a b : Form) → a ≡ b → Sorted t.vocabulary v a → Sorted t.vocabulary v b
  sorted_as v a b is s = subst (Sorted t.vocabulary v) is s

  mutual
    unfolding Proves ProvesAll ProvesEach States AllState

    pub shown_fits : (v : List ℕ) (h : List Form) (p : Proof) (a : Form) → Proves t v h p a → States Fits HasSort p
    shown_fits v h (Line i) a w = tt
    shown_fits v h (Hyp i) a w = tt
    shown_fits v h (AndI' u ps) a w = all_shown_fit v h ps w.1.0 w.1.2
    shown_fits v h (AndE' k u (more_of-Proof p end_of-Proof)) a w = shown_fits v h p _ w.1.1
    shown_fits v h (OrI' as_ k u (more_of-Proof p end_of-Proof)) a w = (of_or v as_ (sorted_as v a (Or as_) w.1 w.0), shown_fits v h p _ w.2.2)
    shown_fits v h (OrE' g u (more_of-Proof p end_of-Proof) x qs) a w = ((v, sorted_as v a g w.1 w.0), shown_fits v h p _ w.2.1, each_shown_fits v h qs w.2.0 a w.2.2)
    shown_fits v h (ImpI' b u (more_of-Proof p end_of-Proof)) a w = (of_imp v b w.1.0 (sorted_as v a (Imp b w.1.0) w.1.1 w.0), shown_fits v (b ∷ h) p _ w.1.2)
    shown_fits v h (ImpE' u (more_of-Proof p end_of-Proof) x (more_of-Proof q end_of-Proof)) a w = (shown_fits v h p _ w.1.1, shown_fits v h q _ w.1.2)
    shown_fits v h (NotI' b u (more_of-Proof p end_of-Proof)) a w = (of_not v b (sorted_as v a (Not b) w.1 w.0), shown_fits v (b ∷ h) p _ w.2)
    shown_fits v h (NotE' u (more_of-Proof p end_of-Proof) x (more_of-Proof q end_of-Proof)) a w = (shown_fits v h p _ w.2.1, shown_fits v h q _ w.2.2)
    shown_fits v h (Raa' g u (more_of-Proof p end_of-Proof)) a w = ((v, sorted_as v a g w.1 w.0), shown_fits v (Not a ∷ h) p _ w.2)
    shown_fits v h (IffI' b c u (more_of-Proof p end_of-Proof) x (more_of-Proof q end_of-Proof)) a w =
        let sides = of_iff v b c (sorted_as v a (Iff b c) w.1 w.0) in
        (sides.0, sides.1, shown_fits v (b ∷ h) p _ w.2, shown_fits v (c ∷ h) q _ w.3)
    shown_fits v h (IffL' u (more_of-Proof p end_of-Proof) x (more_of-Proof q end_of-Proof)) a w = (shown_fits v h p _ w.1.1, shown_fits v h q _ w.1.2)
    shown_fits v h (IffR' u (more_of-Proof p end_of-Proof) x (more_of-Proof q end_of-Proof)) a w = (shown_fits v h p _ w.1.1, shown_fits v h q _ w.1.2)
    shown_fits v h (AllI' s u (more_of-Proof p end_of-Proof)) a w = shown_fits (s ∷ v) (all_over h) p _ w.1.2
    shown_fits v h (AllE' x u (more_of-Proof p end_of-Proof)) a w = ((v, (w.1.0, w.1.3)), shown_fits v h p _ w.1.2)
    shown_fits v h (ExI' s b x u (more_of-Proof p end_of-Proof)) a w = ((s ∷ v, w.2), (v, (s, w.3)), shown_fits v h p _ w.4)
    shown_fits v h (ExE' g u (more_of-Proof p end_of-Proof) x (more_of-Proof q end_of-Proof)) a w =
        ((v, sorted_as v a g w.1 w.0), shown_fits v h p _ w.2.2, shown_fits (w.2.0 ∷ v) (w.2.1 ∷ all_over h) q _ w.2.3)
    shown_fits v h (Refl x) a w = of_refl v x (sorted_as v a (Eq x x) w.1 w.0)
    shown_fits v h (Subst' s b u (more_of-Proof p end_of-Proof) x (more_of-Proof q end_of-Proof)) a w = ((s ∷ v, w.1), shown_fits v h p _ w.2.2, shown_fits v h q _ w.2.4)
    shown_fits v h (Inhabit' s g u (more_of-Proof p end_of-Proof)) a w = ((v, sorted_as v a g w.1 w.0), shown_fits (s ∷ v) (all_over h) p _ w.2)

    all_shown_fit : {m : _} (v : List ℕ) (h : List Form) (row : Row_of-Proof m) (bs : List Form) → ProvesAll t v h row bs → AllState Fits HasSort row
    all_shown_fit v h end_of-Proof [] w = tt
    all_shown_fit v h end_of-Proof (b ∷ bs) w = absurd w
    all_shown_fit v h (more_of-Proof p ps) [] w = absurd w
    all_shown_fit v h (more_of-Proof p ps) (b ∷ bs) w = (shown_fits v h p b w.0, all_shown_fit v h ps bs w.1)

    each_shown_fits : {m : _} (v : List ℕ) (h : List Form) (row : Row_of-Proof m) (bs : List Form) (a : Form) → ProvesEach t v h row bs a → AllState Fits HasSort row
    each_shown_fits v h end_of-Proof [] a w = tt
    each_shown_fits v h end_of-Proof (b ∷ bs) a w = absurd w
    each_shown_fits v h (more_of-Proof p ps) [] a w = absurd w
    each_shown_fits v h (more_of-Proof p ps) (b ∷ bs) a w = (shown_fits v (b ∷ h) p a w.0, each_shown_fits v h ps bs a w.1)

-- what has two properties has each that follows from both
module _ (F G H : Form → Type 0) (T U V : Term → Type 0) (forms : (a : Form) → F a → G a → H a) (terms : (x : Term) → T x → U x → V x) where
  each_both : (as_ : List Form) → AllByRecursion F as_ → AllByRecursion G as_ → AllByRecursion H as_
  each_both [] f g = tt
  each_both (a ∷ as_) f g = (forms a f.0 g.0, each_both as_ f.1 g.1)

  mutual
    unfolding States AllState

    pub both_state : (p : Proof) → States F T p → States G U p → States H V p
    both_state (Line i) f g = tt
    both_state (Hyp i) f g = tt
    both_state (AndI' u ps) f g = both_all_state ps f g
    both_state (AndE' k u (more_of-Proof p end_of-Proof)) f g = both_state p f g
    both_state (OrI' as_ k u (more_of-Proof p end_of-Proof)) f g = (each_both as_ f.0 g.0, both_state p f.1 g.1)
    both_state (OrE' a u (more_of-Proof p end_of-Proof) x qs) f g = (forms a f.0 g.0, both_state p f.1 g.1, both_all_state qs f.2 g.2)
    both_state (ImpI' b u (more_of-Proof p end_of-Proof)) f g = (forms b f.0 g.0, both_state p f.1 g.1)
    both_state (ImpE' u (more_of-Proof p end_of-Proof) x (more_of-Proof q end_of-Proof)) f g = (both_state p f.0 g.0, both_state q f.1 g.1)
    both_state (NotI' b u (more_of-Proof p end_of-Proof)) f g = (forms b f.0 g.0, both_state p f.1 g.1)
    both_state (NotE' u (more_of-Proof p end_of-Proof) x (more_of-Proof q end_of-Proof)) f g = (both_state p f.0 g.0, both_state q f.1 g.1)
    both_state (Raa' a u (more_of-Proof p end_of-Proof)) f g = (forms a f.0 g.0, both_state p f.1 g.1)
    both_state (IffI' b c u (more_of-Proof p end_of-Proof) x (more_of-Proof q end_of-Proof)) f g = (forms b f.0 g.0, forms c f.1 g.1, both_state p f.2 g.2, both_state q f.3 g.3)
    both_state (IffL' u (more_of-Proof p end_of-Proof) x (more_of-Proof q end_of-Proof)) f g = (both_state p f.0 g.0, both_state q f.1 g.1)
    both_state (IffR' u (more_of-Proof p end_of-Proof) x (more_of-Proof q end_of-Proof)) f g = (both_state p f.0 g.0, both_state q f.1 g.1)
    both_state (AllI' s u (more_of-Proof p end_of-Proof)) f g = both_state p f g
    both_state (AllE' x u (more_of-Proof p end_of-Proof)) f g = (terms x f.0 g.0, both_state p f.1 g.1)
    both_state (ExI' s b x u (more_of-Proof p end_of-Proof)) f g = (forms b f.0 g.0, terms x f.1 g.1, both_state p f.2 g.2)
    both_state (ExE' a u (more_of-Proof p end_of-Proof) x (more_of-Proof q end_of-Proof)) f g = (forms a f.0 g.0, both_state p f.1 g.1, both_state q f.2 g.2)
    both_state (Refl x) f g = terms x f g
    both_state (Subst' s b u (more_of-Proof p end_of-Proof) x (more_of-Proof q end_of-Proof)) f g = (forms b f.0 g.0, both_state p f.1 g.1, both_state q f.2 g.2)
    both_state (Inhabit' s a u (more_of-Proof p end_of-Proof)) f g = (forms a f.0 g.0, both_state p f.1 g.1)

    both_all_state : {m : _} (row : Row_of-Proof m) → AllState F T row → AllState G U row → AllState H V row
    both_all_state end_of-Proof f g = tt
    both_all_state (more_of-Proof p ps) f g = (both_state p f.0 g.0, both_all_state ps f.1 g.1)

-- a proof that shows something in both theories lacks such a symbol
pub shown_lacks : (t u : Statements) (k : ℕ) → Clash (slice_get t.vocabulary.symbols k) (slice_get u.vocabulary.symbols k) → (v w : List ℕ) (h g : List Form) (p : Proof) (a b : Form) → Proves t v h p a → Proves u w g p b → Lacks k p
shown_lacks t u k clash v w h g p a b here there =
    both_state (Fits t) (Fits u) (λ c. occurs_in k c ≡ false) (HasSort t) (HasSort u) (λ x. occurs_in_term k x ≡ false)
    (λ c one other. form_lacks t.vocabulary u.vocabulary k clash c one.0 other.0 one.1.fits other.1.fits)
    (λ x one other. term_lacks t.vocabulary u.vocabulary k clash one.0 other.0 x one.1.0 other.1.0 one.1.1 other.1.1)
    p (shown_fits t v h p a here) (shown_fits u w g p b there)
