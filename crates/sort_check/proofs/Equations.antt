-- The equations of what terms and formulas denote.
use Rattle.std.specs.Prelude.{ℕ, ◌+◌, List, [], ◌∷◌, ◌≡◌, length, map, Option, None, Ok, Err, refl}
use Rattle.std.proofs.Common.{ap, ◌∙◌, suc}
use Rattle.std.proofs.lemmas.Simd.{map-map}
use denote.Hole.Carrier.{roll}
use Rattle.tptp_base.specs.declared.surface.STerm.{STerm}
use Rattle.tptp_base.specs.declared.surface.STerm.TheViews.{roll-STerm}
use Rattle.tptp_base.specs.declared.surface.STerm.TheFolds.{fold-STerm, fold-roll-STerm}
use Rattle.tptp_base.specs.declared.surface.Surface.{Surface}
use Rattle.tptp_base.specs.declared.surface.Surface.TheViews.{roll-Surface}
use Rattle.tptp_base.specs.declared.surface.Surface.TheFolds.{fold-Surface, fold-roll-Surface}
use Rattle.tptp_base.specs.declared.surface.BoundVar.{BoundVar}
use Rattle.tptp_base.specs.declared.surface.BinOp.{BinOp}
use Rattle.tptp_base.specs.declared.surface.Quant.{Quant}
use Rattle.fof_terms.specs.Vocabulary.{Vocabulary, found_symbol}
use Rattle.fof_terms.specs.declared.signature.Symbol.{Symbol}
use Rattle.fof_terms.specs.declared.signature.Kind.TheVariants.{Function, Predicate}
use Rattle.fof_terms.specs.declared.form.Form.{Not, And, Or}
use Rattle.sort_check.specs.declared.scope.Variable.{Variable}
use Rattle.sort_check.specs.Outcomes.{Outcome, and_then, mapped, each}
use Rattle.sort_check.specs.Symbols.{Text, new_symbol, head, result_sort}
use Rattle.sort_check.specs.Denotation.{Setting, State, Meaning, TermOutcome, Walk, nearest, variable_at, variable_known, application_known, argument, made, term_step, walked, denoted_term, known_sort, beside, atom, equation, joined, form_step, denoted_form}
use Rattle.sort_check.specs.code.Denotation.{bound}
use Rattle.tptp_base.specs.declared.surface.STerm.TheVariants as tm
use Rattle.tptp_base.specs.declared.surface.STerm.TheOpen as st
use Rattle.tptp_base.specs.declared.surface.Surface.TheVariants as fm
use Rattle.tptp_base.specs.declared.surface.Surface.TheOpen as sf

-- ---- each of some parts, seen as each of their wholes

same_then : {E S R A B : Type 0} (o : Outcome E S A) (f g : A → S → Outcome E R B) → ((x : A) (s : S) → f x s ≡ g x s) → and_then o f ≡ and_then o g
same_then (Ok p) f g e = e p.0 p.1
same_then (Err x) f g e = refl

pub each-map : {E S X Y A : Type 0} (p : ℕ → Y → S → Outcome E S A) (f : X → Y) (i : ℕ) (xs : List X) (s : S) → each p i (map f xs) s ≡ each (λ k x. p k (f x)) i xs s
each-map p f i [] s = refl
each-map p f i (x ∷ xs) s =
    same_then (p i (f x) s) _ _ (λ y t. ap (mapped (λ ys. y ∷ ys)) (each-map p f (i + 1) xs t))

length-map : {X Y : Type 0} (f : X → Y) (xs : List X) → length (map f xs) ≡ length xs
length-map f [] = refl
length-map f (x ∷ xs) = ap suc (length-map f xs)

-- ---- terms

pub fold-Var : (A : Type 0) (step : st.STerm-F A → A) (x : Text) → fold-STerm A step (tm.Var x) ≡ step (st.Var x)
unfolding roll-STerm roll
fold-Var A step x = fold-roll-STerm A step (st.Var x)

pub fold-App : (A : Type 0) (step : st.STerm-F A → A) (f : Text) (ts : List STerm) → fold-STerm A step (tm.App f ts) ≡ step (st.App f (map (fold-STerm A step) ts))
unfolding roll-STerm roll
fold-App A step f ts = fold-roll-STerm A step (st.App f ts)

pub known_sort-Var : (scope : List Variable) (v : Vocabulary) (x : Text) → known_sort scope v (tm.Var x) ≡ variable_known (nearest scope x)
unfolding walked
known_sort-Var scope v x = ap (λ (m : Walk). m.known v) (fold-Var Walk (term_step scope) x)

pub known_sort-App : (scope : List Variable) (v : Vocabulary) (f : Text) (ts : List STerm) → known_sort scope v (tm.App f ts) ≡ application_known v (found_symbol v f Function (length ts))
unfolding walked
known_sort-App scope v f ts = ap (λ (m : Walk). m.known v) (fold-App Walk (term_step scope) f ts) ∙ ap (λ n. application_known v (found_symbol v f Function n)) (length-map (walked scope) ts)

pub ruleset known_equations = (known_sort-Var, known_sort-App)

pub denoted_term-Var : (here : Setting) (scope : List Variable) (x : Text) (asked : Option ℕ) (v : Vocabulary) → denoted_term here scope (tm.Var x) asked v ≡ variable_at here.outside (nearest scope x) v
unfolding walked
denoted_term-Var here scope x asked v = ap (λ (m : Walk). m.denotes here asked v) (fold-Var Walk (term_step scope) x)

-- the symbols that new heads become
abbrev pub new_function : Setting → List Variable → Vocabulary → Text → List STerm → Option ℕ → Symbol
new_function here scope v f ts asked = new_symbol here.by_place v f Function (map (known_sort scope v) ts) asked

abbrev pub new_predicate : Setting → List Variable → Vocabulary → Text → List STerm → Symbol
new_predicate here scope v p ts = new_symbol here.by_place v p Predicate (map (known_sort scope v) ts) None

pub denoted_term-App : (here : Setting) (scope : List Variable) (f : Text) (ts : List STerm) (asked : Option ℕ) (v : Vocabulary) → denoted_term here scope (tm.App f ts) asked v
    ≡ and_then (head here.declared f Function (length ts) (new_function here scope v f ts asked) v) (λ g w. mapped (made g (result_sort w g)) (each (λ place t. argument g place (denoted_term here scope t)) 0 ts w))
unfolding walked
denoted_term-App here scope f ts asked v =
    let by = walked scope in
    let of : List Walk → ℕ → Symbol → TermOutcome = λ ws n new. and_then (head here.declared f Function n new v) (λ g w. mapped (made g (result_sort w g)) (each (λ place (t : Walk). argument g place (t.denotes here)) 0 ws w)) in
    ap (λ (m : Walk). m.denotes here asked v) (fold-App Walk (term_step scope) f ts)
    ∙ ap (λ n. of (map by ts) n (new_symbol here.by_place v f Function (map (λ (t : Walk). t.known v) (map by ts)) asked)) (length-map by ts)
    ∙ ap (λ (told : List (Option ℕ)). of (map by ts) (length ts) (new_symbol here.by_place v f Function told asked)) (map-map (λ (t : Walk). t.known v) by ts)
    ∙ same_then (head here.declared f Function (length ts) (new_function here scope v f ts asked) v) _ _ (λ g w. ap (mapped (made g (result_sort w g))) (each-map (λ place (t : Walk). argument g place (t.denotes here)) by 0 ts w))

pub ruleset term_equations = (denoted_term-Var, denoted_term-App)

-- ---- formulas

pub fold-True : (A : Type 0) (step : sf.Surface-F A → A) → fold-Surface A step fm.True ≡ step sf.True
unfolding roll-Surface roll
fold-True A step = fold-roll-Surface A step sf.True

pub fold-False : (A : Type 0) (step : sf.Surface-F A → A) → fold-Surface A step fm.False ≡ step sf.False
unfolding roll-Surface roll
fold-False A step = fold-roll-Surface A step sf.False

pub fold-Atom : (A : Type 0) (step : sf.Surface-F A → A) (p : Text) (ts : List STerm) → fold-Surface A step (fm.Atom p ts) ≡ step (sf.Atom p ts)
unfolding roll-Surface roll
fold-Atom A step p ts = fold-roll-Surface A step (sf.Atom p ts)

pub fold-Eq : (A : Type 0) (step : sf.Surface-F A → A) (l r : STerm) → fold-Surface A step (fm.Eq l r) ≡ step (sf.Eq l r)
unfolding roll-Surface roll
fold-Eq A step l r = fold-roll-Surface A step (sf.Eq l r)

pub fold-Neq : (A : Type 0) (step : sf.Surface-F A → A) (l r : STerm) → fold-Surface A step (fm.Neq l r) ≡ step (sf.Neq l r)
unfolding roll-Surface roll
fold-Neq A step l r = fold-roll-Surface A step (sf.Neq l r)

pub fold-Not : (A : Type 0) (step : sf.Surface-F A → A) (a : Surface) → fold-Surface A step (fm.Not a) ≡ step (sf.Not (fold-Surface A step a))
unfolding roll-Surface roll
fold-Not A step a = fold-roll-Surface A step (sf.Not a)

pub fold-And : (A : Type 0) (step : sf.Surface-F A → A) (as_ : List Surface) → fold-Surface A step (fm.And as_) ≡ step (sf.And (map (fold-Surface A step) as_))
unfolding roll-Surface roll
fold-And A step as_ = fold-roll-Surface A step (sf.And as_)

pub fold-Or : (A : Type 0) (step : sf.Surface-F A → A) (as_ : List Surface) → fold-Surface A step (fm.Or as_) ≡ step (sf.Or (map (fold-Surface A step) as_))
unfolding roll-Surface roll
fold-Or A step as_ = fold-roll-Surface A step (sf.Or as_)

pub fold-Binary : (A : Type 0) (step : sf.Surface-F A → A) (op : BinOp) (a b : Surface) → fold-Surface A step (fm.Binary op a b) ≡ step (sf.Binary op (fold-Surface A step a) (fold-Surface A step b))
unfolding roll-Surface roll
fold-Binary A step op a b = fold-roll-Surface A step (sf.Binary op a b)

pub fold-Bind : (A : Type 0) (step : sf.Surface-F A → A) (quant : Quant) (xs : List BoundVar) (a : Surface) → fold-Surface A step (fm.Bind quant xs a) ≡ step (sf.Bind quant xs (fold-Surface A step a))
unfolding roll-Surface roll
fold-Bind A step quant xs a = fold-roll-Surface A step (sf.Bind quant xs a)

module _ (here : Setting) (scope : List Variable) (s : State) where
  pub denoted_form-True : denoted_form here fm.True scope s ≡ Ok (And [], s)
  unfolding denoted_form
  denoted_form-True = ap (λ m. m scope s) (fold-True Meaning (form_step here))

  pub denoted_form-False : denoted_form here fm.False scope s ≡ Ok (Or [], s)
  unfolding denoted_form
  denoted_form-False = ap (λ m. m scope s) (fold-False Meaning (form_step here))

  pub denoted_form-Atom : (p : Text) (ts : List STerm) → denoted_form here (fm.Atom p ts) scope s ≡ beside s.bound (atom here scope p ts s.vocabulary)
  unfolding denoted_form
  denoted_form-Atom p ts = ap (λ m. m scope s) (fold-Atom Meaning (form_step here) p ts)

  pub denoted_form-Eq : (l r : STerm) → denoted_form here (fm.Eq l r) scope s ≡ beside s.bound (equation here scope l r s.vocabulary)
  unfolding denoted_form
  denoted_form-Eq l r = ap (λ m. m scope s) (fold-Eq Meaning (form_step here) l r)

  pub denoted_form-Neq : (l r : STerm) → denoted_form here (fm.Neq l r) scope s ≡ mapped Not (beside s.bound (equation here scope l r s.vocabulary))
  unfolding denoted_form
  denoted_form-Neq l r = ap (λ m. m scope s) (fold-Neq Meaning (form_step here) l r)

  pub denoted_form-Not : (a : Surface) → denoted_form here (fm.Not a) scope s ≡ mapped Not (denoted_form here a scope s)
  unfolding denoted_form
  denoted_form-Not a = ap (λ m. m scope s) (fold-Not Meaning (form_step here) a)

  pub denoted_form-And : (as_ : List Surface) → denoted_form here (fm.And as_) scope s ≡ mapped And (each (λ place a. denoted_form here a scope) 0 as_ s)
  unfolding denoted_form
  denoted_form-And as_ = ap (λ m. m scope s) (fold-And Meaning (form_step here) as_) ∙ ap (mapped And) (each-map (λ place a. a scope) (denoted_form here) 0 as_ s)

  pub denoted_form-Or : (as_ : List Surface) → denoted_form here (fm.Or as_) scope s ≡ mapped Or (each (λ place a. denoted_form here a scope) 0 as_ s)
  unfolding denoted_form
  denoted_form-Or as_ = ap (λ m. m scope s) (fold-Or Meaning (form_step here) as_) ∙ ap (mapped Or) (each-map (λ place a. a scope) (denoted_form here) 0 as_ s)

  pub denoted_form-Binary : (op : BinOp) (a b : Surface) → denoted_form here (fm.Binary op a b) scope s ≡ and_then (denoted_form here a scope s) (λ x t. mapped (joined op x) (denoted_form here b scope t))
  unfolding denoted_form
  denoted_form-Binary op a b = ap (λ m. m scope s) (fold-Binary Meaning (form_step here) op a b)

  pub denoted_form-Bind : (quant : Quant) (xs : List BoundVar) (a : Surface) → denoted_form here (fm.Bind quant xs a) scope s ≡ bound here quant xs a scope s
  unfolding denoted_form
  denoted_form-Bind quant xs a = ap (λ m. m scope s) (fold-Bind Meaning (form_step here) quant xs a)

pub ruleset form_equations = (denoted_form-True, denoted_form-False, denoted_form-Atom, denoted_form-Eq, denoted_form-Neq, denoted_form-Not, denoted_form-And, denoted_form-Or, denoted_form-Binary, denoted_form-Bind)
