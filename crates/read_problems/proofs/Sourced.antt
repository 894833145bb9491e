-- What a problem gives to a derivation from it, by what it poses.
use Rattle.std.specs.List.{All}
use Rattle.std.proofs.Common.{◌≡◌, ℕ, ◌<◌, ◌^◌, ◌||◌, Bool, false, List, [], ◌∷◌, length, map, Option, Some, None, refl, sym, ◌∙◌, ap, subst, arith}
use Rattle.std.proofs.lemmas.List.{length-map}
use Rattle.std.proofs.lemmas.List.Elements.{All-nil, All-cons, All-head, All-tail}
use Rattle.tptp_base.specs.Store.{Files}
use Rattle.tptp_base.specs.declared.item.Role.{Role}
use Rattle.tptp_base.specs.declared.item.Role.TheVariants as role
use Rattle.fof_terms.specs.Vocabulary.{Vocabulary}
use Rattle.fof_terms.specs.declared.form.Form.{Form}
use Rattle.kernel.specs.Statements.{Statements}
use Rattle.sort_check.specs.declared.line.Line.{Line}
use Rattle.sort_check.specs.declared.line.GivenEntry.{GivenEntry}
use Rattle.sort_check.specs.Given.{given_entries, given_form, with_entry}
use Rattle.sort_check.specs.Sorting.{AreDeclared, AreGivenSorted, IsSentence}
use Rattle.sort_check.specs.Texts.{is_conjecture}
use Rattle.read_problems.specs.Posed.{IsPosed}
use Rattle.read_problems.specs.Sources.{Gives, IsSource, entry_theory, entry_names, entry_marks, have_conjecture, has_conjecture}
use Rattle.read_problems.specs.declared.posed.Posed.{Posed}
use Rattle.read_problems.specs.declared.sources.Source.{Source}

-- ---- a conjecture gives a formula

-- a line that gives none is no conjecture
abbrev IsKept : Role → Option Form → Type 0
IsKept r (Some a) = Unit {0}
IsKept r None = is_conjecture r ≡ false

conjecture_kept : (r : Role) (a : Form) → IsKept r (given_form r a)
conjecture_kept role.Axiom a = tt
conjecture_kept role.Hypothesis a = tt
conjecture_kept role.Definition a = tt
conjecture_kept role.Assumption a = tt
conjecture_kept role.Lemma a = tt
conjecture_kept role.Theorem a = tt
conjecture_kept role.Corollary a = tt
conjecture_kept role.NegatedConjecture a = tt
conjecture_kept role.Conjecture a = tt
conjecture_kept role.Plain a = refl
conjecture_kept role.Typing a = refl
conjecture_kept role.FiDomain a = refl
conjecture_kept role.FiFunctors a = refl
conjecture_kept role.FiPredicates a = refl
conjecture_kept role.Unknown a = refl

with_conjecture : (l : Line) (o : Option Form) (entries : List GivenEntry) → IsKept l.role o → have_conjecture (with_entry l o entries) ≡ (is_conjecture l.role || have_conjecture entries)
with_conjecture l (Some a) entries kept = refl
with_conjecture l None entries kept = sym (ap (λ (b : Bool). b || have_conjecture entries) kept)

given_conjecture : (lines : List Line) → have_conjecture (given_entries lines) ≡ has_conjecture lines
given_conjecture [] = refl
given_conjecture (l ∷ lines) =
    with_conjecture l (given_form l.role l.form) (given_entries lines) (conjecture_kept l.role l.form) ∙ ap (λ (b : Bool). is_conjecture l.role || b) (given_conjecture lines)

-- ---- the parts of a source

forms_good : (v : Vocabulary) (entries : List GivenEntry) → AreGivenSorted v entries → All (IsSentence v) (map (λ (entry : GivenEntry). entry.form) entries)
forms_good v [] all = All-nil (IsSentence v)
forms_good v (entry ∷ entries) all =
    All-cons (IsSentence v) entry.form (map (λ (e : GivenEntry). e.form) entries) (All-head (λ (e : GivenEntry). IsSentence v e.form) entry entries all) (forms_good v entries (All-tail (λ (e : GivenEntry). IsSentence v e.form) entry entries all))

module _ (posed : Posed) (source : Source) where
  pub few_names : length posed.given < 2 ^ 32 → source.names ≡ entry_names posed.given → length source.names < 2 ^ 32
  few_names few names = omega (arith, few, ap length names, length-map posed.given (λ (entry : GivenEntry). entry.name))

  pub good_forms : AreGivenSorted posed.signature posed.given → source.theory ≡ entry_theory posed.signature posed.given → source.signature ≡ posed.signature → All (IsSentence source.signature) source.theory.formulas
  good_forms sorted theory signature =
      subst (λ (w : Vocabulary). All (IsSentence w) source.theory.formulas) (sym signature)
      (subst (λ (t : Statements). All (IsSentence posed.signature) t.formulas) (sym theory) (forms_good posed.signature posed.given sorted))

  pub all_declared : AreDeclared posed.signature → source.signature ≡ posed.signature → AreDeclared source.signature
  all_declared declared signature = subst AreDeclared (sym signature) declared

  pub theory_signature : source.theory ≡ entry_theory posed.signature posed.given → source.signature ≡ posed.signature → source.theory.vocabulary ≡ source.signature
  theory_signature theory signature = ap (λ (t : Statements). t.vocabulary) theory ∙ sym signature

  module _ (theory : source.theory ≡ entry_theory posed.signature posed.given) (signature : source.signature ≡ posed.signature) (names : source.names ≡ entry_names posed.given) (marks : source.marks ≡ entry_marks posed.given) (conjecture : source.has_conjecture ≡ have_conjecture posed.given) where
    pub posed_gives : (lines : List Line) → posed.given ≡ given_entries lines → Gives lines posed.signature source
    posed_gives lines gives = record {
      theory = theory ∙ ap (entry_theory posed.signature) gives;
      signature = signature;
      names = names ∙ ap entry_names gives;
      marks = marks ∙ ap entry_marks gives;
      conjecture = conjecture ∙ (ap have_conjecture gives ∙ given_conjecture lines);
    }

    pub posed_source : source.read ≡ posed.read → (told : Option Files) (root : Option (List ℕ)) (file : List ℕ) → IsPosed told root file posed → IsSource told root file source
    posed_source read told root file is = (is.whole, is.resolves, (is.lines, posed.signature, is.denotes, posed_gives is.lines is.gives, read ∙ is.read))
