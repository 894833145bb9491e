-- What a problem gives, and what it poses.
use Rattle.std.specs.List.{All}
use Rattle.std.proofs.Common.{◌≡◌, inl, inr, ℕ, true, List, [], ◌∷◌, map, Option, IfOk, Result, Ok, Err, sym, ◌∙◌, ap, subst, arith}
use Rattle.std.proofs.lemmas.List.Elements.{All-nil, All-cons, All-head, All-tail}
use Rattle.tptp_base.specs.Store.{Files}
use Rattle.fof_terms.specs.Vocabulary.{Vocabulary}
use Rattle.fof_terms.proofs.Scoped.{raised}
use Rattle.fof_terms.specs.Sorts.{Sorted}
use Rattle.fof_terms.specs.declared.form.Form.{Form}
use Rattle.kernel.specs.Statements.{Statements}
use Rattle.include_resolve.specs.declared.fault.IncludeFault.{IncludeFault}
use Rattle.include_resolve.specs.declared.problem.Problem.{Problem}
use Rattle.include_resolve.specs.Resolved.{Resolves}
use Rattle.sort_check.specs.declared.fault.SortFault.{SortFault}
use Rattle.sort_check.specs.declared.line.Line.{Line}
use Rattle.sort_check.specs.declared.line.GivenEntry.{GivenEntry}
use Rattle.sort_check.specs.declared.line.TextKind.TheVariants as kind
use Rattle.sort_check.specs.Given.{given_entries}
use Rattle.sort_check.proofs.LineSorts.{text_fits}
use Rattle.sort_check.specs.Sorting.{AreDeclared, AreSorted, AreGivenSorted, IsSentence}
use Rattle.sort_check.specs.Texts.{denoted}
use Rattle.read_problems.specs.Denotations.{IsDenotation}
use Rattle.read_problems.specs.Given.{given_theory, IsGiven}
use Rattle.read_problems.specs.declared.denotations.Denotation.{Denotation}
use Rattle.read_problems.specs.Denoted.{first_vocabulary, SaysIncludeFault, SaysSortFault, IsProblemRefusal}
use Rattle.read_problems.specs.Ending.{Ending}
use Rattle.read_problems.specs.Posed.{IsPosed}
use Rattle.read_problems.specs.declared.posed.Posed.{Posed}

-- ---- what a problem gives

abbrev pub forms_of : List GivenEntry → List Form
forms_of entries = map (λ (entry : GivenEntry). entry.form) entries

mapped_sorted : (v : Vocabulary) (entries : List GivenEntry) → AreGivenSorted v entries → All (Sorted v []) (forms_of entries)
mapped_sorted v [] all = All-nil (Sorted v [])
mapped_sorted v (entry ∷ entries) all =
    All-cons (Sorted v []) entry.form (forms_of entries) (raised v [] 500 2147483647 entry.form (omega arith) (All-head (λ (e : GivenEntry). IsSentence v e.form) entry entries all)) (mapped_sorted v entries (All-tail (λ (e : GivenEntry). IsSentence v e.form) entry entries all))

pub forms_sorted : (v : Vocabulary) (entries : List GivenEntry) (forms : List Form) → forms ≡ forms_of entries → AreGivenSorted v entries → All (Sorted v []) forms
forms_sorted v entries forms is all = subst (All (Sorted v [])) (sym is) (mapped_sorted v entries all)

theory_made : (lines : List Line) (v : Vocabulary) (entries : List GivenEntry) (forms : List Form) (theory : Statements) → entries ≡ given_entries lines → forms ≡ forms_of entries → theory ≡ record { vocabulary = v; formulas = forms } → theory ≡ given_theory lines v
theory_made lines v entries forms theory gives are is =
    let with_forms : List Form → Statements = λ fs. record { vocabulary = v; formulas = fs } in
    is ∙ ap with_forms (are ∙ ap forms_of gives)

pub theory_started : {E : Type 0} (lines : List Line) (v : Vocabulary) (entries : List GivenEntry) (forms : List Form) (r : Result Statements E) → entries ≡ given_entries lines → forms ≡ forms_of entries → IfOk r (λ theory. theory ≡ record { vocabulary = v; formulas = forms })
    → IfOk r (λ theory. theory ≡ given_theory lines v)
theory_started lines v entries forms (Ok theory) gives are is = theory_made lines v entries forms theory gives are is
theory_started lines v entries forms (Err e) gives are is = tt

module _ (told : Option Files) (root : Option (List ℕ)) (file : List ℕ) where
  pub include_refused : (ending : Ending) → ((fault : IncludeFault) × Resolves told root file (Err fault) × SaysIncludeFault fault ending) → IsProblemRefusal told root file ending
  include_refused ending refused = inl refused

  pub sort_refused : (ending : Ending) (whole : Problem) → Resolves told root file (Ok whole) → ((fault : SortFault) × (denoted whole.items first_vocabulary kind.Problem ≡ Err fault) × SaysSortFault whole.files fault ending) → IsProblemRefusal told root file ending
  sort_refused ending whole resolves refused = inr (whole, resolves, refused)

  module _ (d : Denotation) (is : IsDenotation told root file true d) where
    pub denoted_given : (theory : Statements) (read : ℕ) → theory ≡ given_theory d.lines d.signature → read ≡ d.read → IsGiven told root file theory read
    denoted_given theory read gives same =
        (is.whole, is.resolves, (is.lines, d.signature, is.denotes, gives ∙ ap (λ (ls : List Line). given_theory ls d.signature) is.kept_lines), same ∙ is.read)

    -- what a problem poses
    pub denoted_posed : (posed : Posed) → posed.signature ≡ d.signature → posed.given ≡ given_entries d.lines → posed.read ≡ d.read → IsPosed told root file posed
    denoted_posed posed signature gives read = record {
      whole = is.whole;
      lines = is.lines;
      resolves = is.resolves;
      denotes = is.denotes ∙ ap (λ (v : Vocabulary). Ok (is.lines, v)) (sym signature);
      gives = gives ∙ ap given_entries is.kept_lines;
      read = read ∙ is.read;
    }

    pub kept_sorted : AreSorted d.signature d.lines
    kept_sorted = subst (AreSorted d.signature) (sym is.kept_lines) (text_fits is.whole.items first_vocabulary d.signature kind.Problem is.lines (omega arith) is.denotes).1

    pub all_declared : AreDeclared d.signature
    all_declared = (text_fits is.whole.items first_vocabulary d.signature kind.Problem is.lines (omega arith) is.denotes).0.declared (omega arith) tt
