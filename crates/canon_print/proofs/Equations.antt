-- One equation for each node: what its text is in those of its parts.
use Rattle.std.specs.Prelude.{◌≡◌, Bool, true, false, List, ◌++◌, map, codes}
use Rattle.std.proofs.Common.{ap, sym, ◌∙◌}
use Rattle.std.proofs.lemmas.Simd.{map-map}
use Rattle.tptp_base.specs.declared.surface.STerm.{STerm}
use Rattle.tptp_base.specs.declared.surface.STerm.TheViews.{roll-STerm}
use Rattle.tptp_base.specs.declared.surface.STerm.TheFolds.{fold-roll-STerm}
use Rattle.tptp_base.specs.declared.surface.BoundVar.{BoundVar}
use Rattle.tptp_base.specs.declared.surface.BinOp.{BinOp}
use Rattle.tptp_base.specs.declared.surface.Quant.{Quant}
use Rattle.tptp_base.specs.declared.surface.Surface.{Surface}
use Rattle.tptp_base.specs.declared.surface.Surface.TheViews.{roll-Surface}
use Rattle.tptp_base.specs.declared.surface.Surface.TheFolds.{fold-roll-Surface}
use Rattle.tptp_base.specs.declared.item.Lang.{Lang}
use Rattle.tptp_base.specs.declared.item.GTerm.{GTerm}
use Rattle.tptp_base.specs.declared.item.GTerm.TheViews.{roll-GTerm}
use Rattle.tptp_base.specs.declared.item.GTerm.TheFolds.{fold-roll-GTerm}
use denote.Hole.Carrier.{roll}
use Rattle.tptp_lexer.specs.Bytes.{Text}
use Rattle.tptp_lexer.specs.Quotes.{double_quote}
use Rattle.tptp_grammar.specs.Tokens.{embedded_text}
use Rattle.canon_print.specs.Words.{quoted, word_text, separated}
use Rattle.canon_print.specs.Canonical.{applied_text, term_node, term_text, terms_text, variable_text, operator_text, quantifier_text, Shown, Writing, unit_of, bound_text, formula_node, written, shown, formula_text, typed_clause_text, list_text, general_node, general_text}
use Rattle.canon_print.specs.code.Canonical.{unit_text}
use Rattle.tptp_base.specs.declared.surface.STerm.TheVariants as term
use Rattle.tptp_base.specs.declared.surface.STerm.TheOpen as tm
use Rattle.tptp_base.specs.declared.surface.Surface.TheVariants as formula
use Rattle.tptp_base.specs.declared.surface.Surface.TheOpen as fm
use Rattle.tptp_base.specs.declared.item.GTerm.TheVariants as general
use Rattle.tptp_base.specs.declared.item.GTerm.TheOpen as gt

pub term_text-Var : (name : Text) → term_text (term.Var name) ≡ name
unfolding term_text roll-STerm roll
term_text-Var name = fold-roll-STerm Text term_node (tm.Var name)

pub term_text-App : (word : Text) (parts : List STerm) → term_text (term.App word parts) ≡ applied_text word (terms_text parts)
unfolding term_text roll-STerm roll
term_text-App word parts = fold-roll-STerm Text term_node (tm.App word parts)

pub ruleset term_equations = (term_text-Var, term_text-App)

written-True : (clause : Bool) → written formula.True clause ≡ (false, codes "$true")
unfolding written roll-Surface roll
written-True clause = ap (λ (w : Writing). w clause) (fold-roll-Surface Writing formula_node fm.True)

pub shown-True : shown formula.True ≡ (false, codes "$true")
shown-True = written-True false

written-False : (clause : Bool) → written formula.False clause ≡ (false, codes "$false")
unfolding written roll-Surface roll
written-False clause = ap (λ (w : Writing). w clause) (fold-roll-Surface Writing formula_node fm.False)

pub shown-False : shown formula.False ≡ (false, codes "$false")
shown-False = written-False false

written-Atom : (word : Text) (terms : List STerm) (clause : Bool) → written (formula.Atom word terms) clause ≡ (false, applied_text word (terms_text terms))
unfolding written roll-Surface roll
written-Atom word terms clause = ap (λ (w : Writing). w clause) (fold-roll-Surface Writing formula_node (fm.Atom word terms))

pub shown-Atom : (word : Text) (terms : List STerm) → shown (formula.Atom word terms) ≡ (false, applied_text word (terms_text terms))
shown-Atom word terms = written-Atom word terms false

written-Eq : (left right : STerm) (clause : Bool) → written (formula.Eq left right) clause ≡ (false, term_text left ++ (codes " = " ++ term_text right))
unfolding written roll-Surface roll
written-Eq left right clause = ap (λ (w : Writing). w clause) (fold-roll-Surface Writing formula_node (fm.Eq left right))

pub shown-Eq : (left right : STerm) → shown (formula.Eq left right) ≡ (false, term_text left ++ (codes " = " ++ term_text right))
shown-Eq left right = written-Eq left right false

written-Neq : (left right : STerm) (clause : Bool) → written (formula.Neq left right) clause ≡ (false, term_text left ++ (codes " != " ++ term_text right))
unfolding written roll-Surface roll
written-Neq left right clause = ap (λ (w : Writing). w clause) (fold-roll-Surface Writing formula_node (fm.Neq left right))

pub shown-Neq : (left right : STerm) → shown (formula.Neq left right) ≡ (false, term_text left ++ (codes " != " ++ term_text right))
shown-Neq left right = written-Neq left right false

written-Not : (part : Surface) (clause : Bool) → written (formula.Not part) clause ≡ (false, codes "~ " ++ unit_text part)
unfolding written roll-Surface roll
written-Not part clause = ap (λ (w : Writing). w clause) (fold-roll-Surface Writing formula_node (fm.Not part))

pub shown-Not : (part : Surface) → shown (formula.Not part) ≡ (false, codes "~ " ++ unit_text part)
shown-Not part = written-Not part false

written-And : (parts : List Surface) (clause : Bool) → written (formula.And parts) clause ≡ (true, separated (codes " & ") (map unit_text parts))
unfolding written roll-Surface roll
written-And parts clause = ap (λ (w : Writing). w clause) (fold-roll-Surface Writing formula_node (fm.And parts)) ∙ ap (λ (texts : List Text). let s : Shown = (true, separated (codes " & ") texts) in s) (map-map unit_of written parts)

pub shown-And : (parts : List Surface) → shown (formula.And parts) ≡ (true, separated (codes " & ") (map unit_text parts))
shown-And parts = written-And parts false

written-Or : (parts : List Surface) (clause : Bool) → written (formula.Or parts) clause ≡ (true, separated (codes " | ") (map unit_text parts))
unfolding written roll-Surface roll
written-Or parts clause = ap (λ (w : Writing). w clause) (fold-roll-Surface Writing formula_node (fm.Or parts)) ∙ ap (λ (texts : List Text). let s : Shown = (true, separated (codes " | ") texts) in s) (map-map unit_of written parts)

pub shown-Or : (parts : List Surface) → shown (formula.Or parts) ≡ (true, separated (codes " | ") (map unit_text parts))
shown-Or parts = written-Or parts false

written-Binary : (operator : BinOp) (left right : Surface) (clause : Bool) → written (formula.Binary operator left right) clause ≡ (true, unit_text left ++ (operator_text operator ++ unit_text right))
unfolding written roll-Surface roll
written-Binary operator left right clause = ap (λ (w : Writing). w clause) (fold-roll-Surface Writing formula_node (fm.Binary operator left right))

pub shown-Binary : (operator : BinOp) (left right : Surface) → shown (formula.Binary operator left right) ≡ (true, unit_text left ++ (operator_text operator ++ unit_text right))
shown-Binary operator left right = written-Binary operator left right false

written-Bind : (quantifier : Quant) (variables : List BoundVar) (part : Surface) (clause : Bool) → written (formula.Bind quantifier variables part) clause ≡ (false, quantifier_text quantifier ++ (separated (codes ",") (map variable_text variables) ++ (codes "] : " ++ bound_text clause (written part))))
unfolding written roll-Surface roll
written-Bind quantifier variables part clause = ap (λ (w : Writing). w clause) (fold-roll-Surface Writing formula_node (fm.Bind quantifier variables part))

pub shown-Bind : (quantifier : Quant) (variables : List BoundVar) (part : Surface) → shown (formula.Bind quantifier variables part) ≡ (false, quantifier_text quantifier ++ (separated (codes ",") (map variable_text variables) ++ (codes "] : " ++ unit_text part)))
shown-Bind quantifier variables part = written-Bind quantifier variables part false

pub ruleset formula_equations = (shown-True, shown-False, shown-Atom, shown-Eq, shown-Neq, shown-Not, shown-And, shown-Or, shown-Binary, shown-Bind, term_equations)

-- ---- typed clauses: what is no quantified formula is written as ever

pub clause-Bind : (quantifier : Quant) (variables : List BoundVar) (part : Surface) → typed_clause_text (formula.Bind quantifier variables part) ≡ quantifier_text quantifier ++ (separated (codes ",") (map variable_text variables) ++ (codes "] : " ++ typed_clause_text part))
clause-Bind quantifier variables part = ap (λ (s : Shown). s.1) (written-Bind quantifier variables part true)

pub clause-True : typed_clause_text formula.True ≡ formula_text formula.True
clause-True = ap (λ (s : Shown). s.1) (written-True true ∙ sym (written-True false))

pub clause-False : typed_clause_text formula.False ≡ formula_text formula.False
clause-False = ap (λ (s : Shown). s.1) (written-False true ∙ sym (written-False false))

pub clause-Atom : (word : Text) (terms : List STerm) → typed_clause_text (formula.Atom word terms) ≡ formula_text (formula.Atom word terms)
clause-Atom word terms = ap (λ (s : Shown). s.1) (written-Atom word terms true ∙ sym (written-Atom word terms false))

pub clause-Eq : (left right : STerm) → typed_clause_text (formula.Eq left right) ≡ formula_text (formula.Eq left right)
clause-Eq left right = ap (λ (s : Shown). s.1) (written-Eq left right true ∙ sym (written-Eq left right false))

pub clause-Neq : (left right : STerm) → typed_clause_text (formula.Neq left right) ≡ formula_text (formula.Neq left right)
clause-Neq left right = ap (λ (s : Shown). s.1) (written-Neq left right true ∙ sym (written-Neq left right false))

pub clause-Not : (part : Surface) → typed_clause_text (formula.Not part) ≡ formula_text (formula.Not part)
clause-Not part = ap (λ (s : Shown). s.1) (written-Not part true ∙ sym (written-Not part false))

pub clause-And : (parts : List Surface) → typed_clause_text (formula.And parts) ≡ formula_text (formula.And parts)
clause-And parts = ap (λ (s : Shown). s.1) (written-And parts true ∙ sym (written-And parts false))

pub clause-Or : (parts : List Surface) → typed_clause_text (formula.Or parts) ≡ formula_text (formula.Or parts)
clause-Or parts = ap (λ (s : Shown). s.1) (written-Or parts true ∙ sym (written-Or parts false))

pub clause-Binary : (operator : BinOp) (left right : Surface) → typed_clause_text (formula.Binary operator left right) ≡ formula_text (formula.Binary operator left right)
clause-Binary operator left right = ap (λ (s : Shown). s.1) (written-Binary operator left right true ∙ sym (written-Binary operator left right false))

pub ruleset clause_equations = (clause-True, clause-False, clause-Atom, clause-Eq, clause-Neq, clause-Not, clause-And, clause-Or, clause-Binary, clause-Bind)

pub general_text-Word : (word : Text) → general_text (general.Word word) ≡ word_text word
unfolding general_text roll-GTerm roll
general_text-Word word = fold-roll-GTerm Text general_node (gt.Word word)

pub general_text-Func : (word : Text) (parts : List GTerm) → general_text (general.Func word parts) ≡ word_text word ++ (codes "(" ++ (separated (codes ",") (map general_text parts) ++ codes ")"))
unfolding general_text roll-GTerm roll
general_text-Func word parts = fold-roll-GTerm Text general_node (gt.Func word parts)

pub general_text-Var : (name : Text) → general_text (general.Var name) ≡ name
unfolding general_text roll-GTerm roll
general_text-Var name = fold-roll-GTerm Text general_node (gt.Var name)

pub general_text-Number : (number : Text) → general_text (general.Number number) ≡ number
unfolding general_text roll-GTerm roll
general_text-Number number = fold-roll-GTerm Text general_node (gt.Number number)

pub general_text-Distinct : (chars : Text) → general_text (general.Distinct chars) ≡ quoted double_quote chars
unfolding general_text roll-GTerm roll
general_text-Distinct chars = fold-roll-GTerm Text general_node (gt.Distinct chars)

pub general_text-Formula : (lang : Lang) (formula : Surface) → general_text (general.Formula lang formula) ≡ embedded_text lang ++ (codes "(" ++ (formula_text formula ++ codes ")"))
unfolding general_text roll-GTerm roll
general_text-Formula lang formula = fold-roll-GTerm Text general_node (gt.Formula lang formula)

pub general_text-Term : (term : STerm) → general_text (general.Term term) ≡ codes "$fot(" ++ (term_text term ++ codes ")")
unfolding general_text roll-GTerm roll
general_text-Term term = fold-roll-GTerm Text general_node (gt.Term term)

pub general_text-List : (parts : List GTerm) → general_text (general.List parts) ≡ list_text (map general_text parts)
unfolding general_text roll-GTerm roll
general_text-List parts = fold-roll-GTerm Text general_node (gt.List parts)

pub general_text-Pair : (left right : GTerm) → general_text (general.Pair left right) ≡ general_text left ++ (codes ":" ++ general_text right)
unfolding general_text roll-GTerm roll
general_text-Pair left right = fold-roll-GTerm Text general_node (gt.Pair left right)

pub ruleset general_equations = (general_text-Word, general_text-Func, general_text-Var, general_text-Number, general_text-Distinct, general_text-Formula, general_text-Term, general_text-List, general_text-Pair, formula_equations)
