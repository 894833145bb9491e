-- A derivation has a line, and so there is room for the symbols of its vocabulary.
use Rattle.std.proofs.Common.{◌≡◌, ℕ, ◌≤◌, List, [], ◌∷◌, ◌++◌, slice_get, Some, refl, ◌∙◌, ap, arith}
use Rattle.fof_terms.specs.Vocabulary.{Vocabulary}
use Rattle.sort_check.specs.declared.line.GivenEntry.{GivenEntry}
use Rattle.derivation_items.specs.declared.line.ProofLine.{ProofLine}
use Rattle.given_parts.specs.Chosen.{chosen}
use Rattle.refutation_lines.specs.Lines.{given_lines, inferred_lines, input_lines, last_line, lines_of, skolem_lines}
use Rattle.refutation_lines.specs.Plans.{Refutation, plan_of}
use Rattle.refutation_lines.specs.declared.derivation.Derivation.{Derivation}
use Rattle.refutation_lines.specs.declared.plan.Plan.{Plan}
use Rattle.limited_items.specs.Room.{HaveRoom}
use Rattle.problem_proofs.specs.Found.{IsFound, refutation_by}

-- a list with an element behind another has one
some_at : {X : Type 0} (xs : List X) (y : X) (ys : List X) → (i : ℕ) × (x : X) × (slice_get (xs ++ y ∷ ys) i ≡ Some x)
some_at [] y ys = (0, y, refl)
some_at (x ∷ xs) y ys = (0, x, refl)

has_line : (r : Refutation) (p : Plan) → (i : ℕ) × (l : ProofLine) × (slice_get (lines_of r p) i ≡ Some l)
has_line r p = some_at (chosen given_lines p.used r.given ++ chosen (skolem_lines p.numbers.firsts) p.used p.parts ++ chosen (input_lines p) p.printed r.inputs ++ chosen (inferred_lines p) p.needed r.members) (last_line p r.last.origin) []

pub few_symbols : (v : Vocabulary) (given : List GivenEntry) (limit : ℕ) (d : Derivation) → IsFound v given limit d → (symbols : ℕ) → HaveRoom symbols given d.lines → symbols ≤ 16777216
few_symbols v given limit d found symbols room =
    let r = refutation_by v given found.members found.last in
    let at = has_line r (plan_of r found.derivation.needed) in
    let lines_are : d.lines ≡ lines_of r (plan_of r found.derivation.needed) = ap (λ (e : Derivation). e.lines) found.derivation.is in
    let fits = room at.0 at.1 (ap (λ (ls : List ProofLine). slice_get ls at.0) lines_are ∙ at.2) in
    omega (arith, fits)
