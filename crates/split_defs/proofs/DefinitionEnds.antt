-- From what stands under the quantifiers to the line.
use Rattle.std.proofs.Common.{ℕ, ◌≡◌, ◌≤◌, ◌⊎◌, Bool, true, false, ◌∷◌, map, arith, sym, ap, subst, ◌∙◌, inl, inr, Option, Some, None}
use Rattle.fof_terms.proofs.Trees.{Imp-injective, Iff-injective, Eq-injective}
use Rattle.fof_terms.specs.Sorts.{binder_depth}
use Rattle.fof_terms.proofs.SortsFacts.{binder_depth-Imp, binder_depth-Iff, binder_depth-All}
use Rattle.fof_terms.specs.declared.term.Term.{Term, Var, App}
use Rattle.fof_terms.specs.declared.form.Form.{Form, Atom, Eq, Imp, Iff, All}
use Rattle.fof_terms.specs.declared.form.Form.TheOpen as form
use Rattle.fof_terms.specs.declared.form.Form.TheViews.{out-Form, outs-Eq, outs-Imp, outs-Iff, outs-All}
use Rattle.kernel.specs.Statements.{Statements}
use Rattle.split_defs.specs.declared.just.SplitJust.{SplitJust}
use Rattle.split_defs.specs.declared.just.SplitJust.TheVariants.{Definition, Split}
use Rattle.split_defs.specs.DefinitionRule.{IsMeaning, IsValue, Relates, Equates, DefinesPredicate, DefinesFunction, Defines}
use Rattle.split_defs.specs.code.DefinitionSearch.{HeadsAt, ValuesAt, IsBody}
use Rattle.split_defs.specs.DefinitionSearch.{IsFoundDefinition}
use Rattle.split_defs.proofs.UnderAll.{one_body}

-- Shapes.
abbrev shape : form.Form-F Form → ℕ
shape (form.Eq l r) = 1
shape (form.Imp a b) = 2
shape (form.Iff a b) = 3
shape (form.All s a) = 4
shape other = 0

abbrev shape_of : Form → ℕ
shape_of a = shape (out-Form a)

of_eq : (l r : Term) → shape_of (Eq l r) ≡ 1
of_eq l r = ap shape (outs-Eq l r)

of_imp : (a b : Form) → shape_of (Imp a b) ≡ 2
of_imp a b = ap shape (outs-Imp a b)

of_iff : (a b : Form) → shape_of (Iff a b) ≡ 3
of_iff a b = ap shape (outs-Iff a b)

of_all : (s : ℕ) (a : Form) → shape_of (All s a) ≡ 4
of_all s a = ap shape (outs-All s a)

apart : (a b : Form) (m n : ℕ) → shape_of a ≡ m → shape_of b ≡ n → (m ≡ n → ⊥) → a ≡ b → ⊥
apart a b m n ea eb other e = other (sym ea ∙ ap shape_of e ∙ eb)

pub eq_not_all : (l r : Term) (s : ℕ) (a : Form) → Eq l r ≡ All s a → ⊥
eq_not_all l r s a = apart (Eq l r) (All s a) 1 4 (of_eq l r) (of_all s a) (λ e. omega arith)

pub imp_not_all : (l r : Form) (s : ℕ) (a : Form) → Imp l r ≡ All s a → ⊥
imp_not_all l r s a = apart (Imp l r) (All s a) 2 4 (of_imp l r) (of_all s a) (λ e. omega arith)

pub iff_not_all : (l r : Form) (s : ℕ) (a : Form) → Iff l r ≡ All s a → ⊥
iff_not_all l r s a = apart (Iff l r) (All s a) 3 4 (of_iff l r) (of_all s a) (λ e. omega arith)

pub imp_not_iff : (a b c d : Form) → Imp a b ≡ Iff c d → ⊥
imp_not_iff a b c d = apart (Imp a b) (Iff c d) 2 3 (of_imp a b) (of_iff c d) (λ e. omega arith)

imp_not_eq : (a b : Form) (l r : Term) → Imp a b ≡ Eq l r → ⊥
imp_not_eq a b l r = apart (Imp a b) (Eq l r) 2 1 (of_imp a b) (of_eq l r) (λ e. omega arith)

iff_not_eq : (a b : Form) (l r : Term) → Iff a b ≡ Eq l r → ⊥
iff_not_eq a b l r = apart (Iff a b) (Eq l r) 3 1 (of_iff a b) (of_eq l r) (λ e. omega arith)

-- What defines a symbol is no quantified formula.
relates_not_all : (first : Bool) (head a body : Form) → Relates first head a body → (s : ℕ) (c : Form) → body ≡ All s c → ⊥
relates_not_all true head a body (inl e) s c f = iff_not_all head a s c (sym e ∙ f)
relates_not_all true head a body (inr e) s c f = imp_not_all head a s c (sym e ∙ f)
relates_not_all false head a body (inl e) s c f = iff_not_all a head s c (sym e ∙ f)
relates_not_all false head a body (inr e) s c f = imp_not_all a head s c (sym e ∙ f)

equates_not_all : (first : Bool) (head u : Term) (body : Form) → Equates first head u body → (s : ℕ) (c : Form) → body ≡ All s c → ⊥
equates_not_all true head u body e s c f = eq_not_all head u s c (sym e ∙ f)
equates_not_all false head u body e s c f = eq_not_all u head s c (sym e ∙ f)

module _ (t : Statements) (line body : Form) (is : IsBody line body) where
  abbrev DefinesIn : ℕ → Bool → Form → Type 0
  DefinesIn k first b = DefinesPredicate t k first b ⊎ DefinesFunction t k first b

  -- the line defines what its body does
  pub of_body : (k : ℕ) (first : Bool) → DefinesIn k first body → Defines t line k first
  of_body k first d = (is.sorts, body, is.is, d)

  pub in_body : (k : ℕ) (first : Bool) → Defines t line k first → DefinesIn k first body
  in_body k first d =
      let same : body ≡ d.1 = (one_body line body d.1 d.0 is d.2 (λ s c e. elim d.3 [
        | inl p ↦ relates_not_all first (Atom k (map Var p.1.0)) p.1.1 d.1 p.1.3 s c e
        | inr f ↦ equates_not_all first (App k (map Var f.1.0)) f.1.1 d.1 f.1.3 s c e
      ])).1 in
      subst (λ (b : Form). DefinesIn k first b) (sym same) d.3

  found_there : (P Q : ℕ → Bool → Type 0) (o : Option SplitJust) → ((k : ℕ) (first : Bool) → P k first → Q k first) → ((k : ℕ) (first : Bool) → Q k first → P k first) → IsFoundDefinition P o → IsFoundDefinition Q o
  found_there P Q None f g h = λ k first q. h k first (g k first q)
  found_there P Q (Some (Definition k first)) f g h = f k first h
  found_there P Q (Some (Split n names images)) f g h = h

  -- equivalences and implications
  abbrev Joins : Form → Form → Type 0
  Joins l r = (body ≡ Iff l r) ⊎ (body ≡ Imp l r)

  relates_first : (l r : Form) → Joins l r → Relates true l r body
  relates_first l r (inl e) = inl e
  relates_first l r (inr e) = inr e

  relates_second : (l r : Form) → Joins l r → Relates false r l body
  relates_second l r (inl e) = inl e
  relates_second l r (inr e) = inr e

  joins_same : (l r a b : Form) → Joins l r → (body ≡ Iff a b) ⊎ (body ≡ Imp a b) → (l ≡ a) × (r ≡ b)
  joins_same l r a b (inl e) (inl f) = Iff-injective l r a b (sym e ∙ f)
  joins_same l r a b (inl e) (inr f) = absurd (imp_not_iff a b l r (sym f ∙ e))
  joins_same l r a b (inr e) (inl f) = absurd (imp_not_iff l r a b (sym e ∙ f))
  joins_same l r a b (inr e) (inr f) = Imp-injective l r a b (sym e ∙ f)

  joins_not_eq : (l r : Form) (x y : Term) → Joins l r → body ≡ Eq x y → ⊥
  joins_not_eq l r x y (inl e) f = iff_not_eq l r x y (sym e ∙ f)
  joins_not_eq l r x y (inr e) f = imp_not_eq l r x y (sym e ∙ f)

  heads_define : (l r : Form) → Joins l r → (k : ℕ) (first : Bool) → HeadsAt t l r k first → DefinesIn k first body
  heads_define l r j k true h = inl (h.0, (h.1.0, r, h.1.2, subst (λ (b : Form). Relates true b r body) h.1.1 (relates_first l r j)))
  heads_define l r j k false h = inl (h.0, (h.1.0, l, h.1.2, subst (λ (b : Form). Relates false b l body) h.1.1 (relates_second l r j)))

  pub define_heads : (l r : Form) → Joins l r → (k : ℕ) (first : Bool) → DefinesIn k first body → HeadsAt t l r k first
  define_heads l r j k true (inl p) =
      let same = joins_same l r (Atom k (map Var p.1.0)) p.1.1 j p.1.3 in
      (p.0, (p.1.0, same.0, subst (λ (b : Form). IsMeaning k p.1.0 b) (sym same.1) p.1.2))
  define_heads l r j k false (inl p) =
      let same = joins_same l r p.1.1 (Atom k (map Var p.1.0)) j p.1.3 in
      (p.0, (p.1.0, same.1, subst (λ (b : Form). IsMeaning k p.1.0 b) (sym same.0) p.1.2))
  define_heads l r j k true (inr f) = absurd (joins_not_eq l r (App k (map Var f.1.0)) f.1.1 j f.1.3)
  define_heads l r j k false (inr f) = absurd (joins_not_eq l r f.1.1 (App k (map Var f.1.0)) j f.1.3)

  pub joined_found : (l r : Form) (o : Option SplitJust) → Joins l r → IsFoundDefinition (HeadsAt t l r) o → IsFoundDefinition (Defines t line) o
  joined_found l r o j = found_there (HeadsAt t l r) (Defines t line) o (λ k first h. of_body k first (heads_define l r j k first h)) (λ k first d. define_heads l r j k first (in_body k first d))

  -- equations
  values_define : (l r : Term) → body ≡ Eq l r → (k : ℕ) (first : Bool) → ValuesAt t l r k first → DefinesIn k first body
  values_define l r e k true h = inr (h.0, (h.1.0, r, h.1.2, e ∙ ap (λ (x : Term). Eq x r) h.1.1))
  values_define l r e k false h = inr (h.0, (h.1.0, l, h.1.2, e ∙ ap (λ (x : Term). Eq l x) h.1.1))

  pub define_values : (l r : Term) → body ≡ Eq l r → (k : ℕ) (first : Bool) → DefinesIn k first body → ValuesAt t l r k first
  define_values l r e k true (inr f) =
      let same = Eq-injective l r (App k (map Var f.1.0)) f.1.1 (sym e ∙ f.1.3) in
      (f.0, (f.1.0, same.0, subst (λ (u : Term). IsValue k f.1.0 u) (sym same.1) f.1.2))
  define_values l r e k false (inr f) =
      let same = Eq-injective l r f.1.1 (App k (map Var f.1.0)) (sym e ∙ f.1.3) in
      (f.0, (f.1.0, same.1, subst (λ (u : Term). IsValue k f.1.0 u) (sym same.0) f.1.2))
  define_values l r e k true (inl p) = absurd (joins_not_eq (Atom k (map Var p.1.0)) p.1.1 l r p.1.3 e)
  define_values l r e k false (inl p) = absurd (joins_not_eq p.1.1 (Atom k (map Var p.1.0)) l r p.1.3 e)

  pub equation_found : (l r : Term) (o : Option SplitJust) → body ≡ Eq l r → IsFoundDefinition (ValuesAt t l r) o → IsFoundDefinition (Defines t line) o
  equation_found l r o e = found_there (ValuesAt t l r) (Defines t line) o (λ k first h. of_body k first (values_define l r e k first h)) (λ k first d. define_values l r e k first (in_body k first d))

  -- nothing else
  no_other : (k : ℕ) (first : Bool) → DefinesIn k first body → ((a b : Form) → body ≡ Iff a b → ⊥) → ((a b : Form) → body ≡ Imp a b → ⊥) → ((l r : Term) → body ≡ Eq l r → ⊥) → ⊥
  no_other k true (inl p) iff imp eq = elim p.1.3 [ inl e ↦ iff (Atom k (map Var p.1.0)) p.1.1 e | inr e ↦ imp (Atom k (map Var p.1.0)) p.1.1 e ]
  no_other k false (inl p) iff imp eq = elim p.1.3 [ inl e ↦ iff p.1.1 (Atom k (map Var p.1.0)) e | inr e ↦ imp p.1.1 (Atom k (map Var p.1.0)) e ]
  no_other k true (inr f) iff imp eq = eq (App k (map Var f.1.0)) f.1.1 f.1.3
  no_other k false (inr f) iff imp eq = eq f.1.1 (App k (map Var f.1.0)) f.1.3

  pub nothing_found : ((a b : Form) → body ≡ Iff a b → ⊥) → ((a b : Form) → body ≡ Imp a b → ⊥) → ((l r : Term) → body ≡ Eq l r → ⊥) → IsFoundDefinition (Defines t line) None
  nothing_found iff imp eq = λ k first d. no_other k first (in_body k first d) iff imp eq

-- The body of what stands under a quantifier.
pub body_further : (whole inner b : Form) (s : ℕ) (own : Form) → whole ≡ All s own → inner ≡ own → IsBody inner b → IsBody whole b
body_further whole inner b s own e same i = record { sorts = s ∷ i.sorts; is = e ∙ ap (All s) (sym same ∙ i.is); inmost = i.inmost }

pub body_shallow : (whole inner b : Form) (s : ℕ) (own : Form) → whole ≡ All s own → inner ≡ own → binder_depth b ≤ binder_depth inner → binder_depth b ≤ binder_depth whole
body_shallow whole inner b s own e same le = omega (arith, ap binder_depth e, binder_depth-All s own, ap binder_depth same, le)

-- What the code reads off an equivalence or an implication.
pub joins_at : (body left right l r : Form) → (body ≡ Iff left right) ⊎ (body ≡ Imp left right) → l ≡ left → r ≡ right → (body ≡ Iff l r) ⊎ (body ≡ Imp l r)
joins_at body left right l r (inl e) el er = inl (e ∙ ap (λ (x : Form). Iff x right) (sym el) ∙ ap (Iff l) (sym er))
joins_at body left right l r (inr e) el er = inr (e ∙ ap (λ (x : Form). Imp x right) (sym el) ∙ ap (Imp l) (sym er))

pub joins_shallow : (body l r : Form) (n : ℕ) → (body ≡ Iff l r) ⊎ (body ≡ Imp l r) → binder_depth body ≤ n → (binder_depth l ≤ n) × (binder_depth r ≤ n)
joins_shallow body l r n (inl e) le = (omega (arith, ap binder_depth e, binder_depth-Iff l r, le), omega (arith, ap binder_depth e, binder_depth-Iff l r, le))
joins_shallow body l r n (inr e) le = (omega (arith, ap binder_depth e, binder_depth-Imp l r, le), omega (arith, ap binder_depth e, binder_depth-Imp l r, le))
