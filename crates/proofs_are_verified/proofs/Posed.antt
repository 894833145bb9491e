-- What a problem gives is posed.
use Rattle.std.specs.Prelude.{ℕ, ◌≡◌, ◌<◌, ◌^◌, List, [], Option, Ok, length, codes, refl}
use Rattle.std.proofs.Common.{arith}
use Rattle.std.proofs.lemmas.List.Elements.{All-weaker}
use Rattle.std.proofs.lemmas.List.Sums.{AllPass-from_list_all}
use Rattle.tptp_base.specs.Quotable.{is_printable}
use Rattle.tptp_base.specs.Store.{Files}
use Rattle.fof_terms.specs.Vocabulary.{Vocabulary}
use Rattle.fof_terms.proofs.Scoped.{raised}
use Rattle.clause_rules.specs.Steps.{IsReady}
use Rattle.include_resolve.specs.Resolved.{Resolves}
use Rattle.include_resolve.specs.declared.problem.Problem.{Problem}
use Rattle.sort_check.specs.Given.{given_entries}
use Rattle.sort_check.specs.Sorting.{AreGivenSorted, IsSentence}
use Rattle.sort_check.specs.Texts.{denoted}
use Rattle.sort_check.specs.declared.line.GivenEntry.{GivenEntry}
use Rattle.sort_check.specs.declared.line.Line.{Line}
use Rattle.sort_check.specs.declared.line.TextKind.TheVariants as kind
use Rattle.printed_forms.specs.Words.{HasWords}
use Rattle.written_names.proofs.Given.{problem_listed, problem_named, problem_words}
use Rattle.read_problems.specs.Denoted.{first_vocabulary}
use Rattle.unambiguous_names.proofs.Whole.{none_named, text_keeps}
use Rattle.proofs_are_verified.specs.Printed.{IsPosed}

first_words : HasWords first_vocabulary
first_words = record { symbols = tt; sorts = (record { some = omega arith; printable = AllPass-from_list_all is_printable (codes "$i") refl }, tt) }

pub problem_posed : (told : Option Files) (root : Option (List ℕ)) (file : List ℕ) (whole : Problem) (lines : List Line) (v : Vocabulary) → Resolves told root file (Ok whole) → denoted whole.items first_vocabulary kind.Problem ≡ Ok (lines, v)
    → AreGivenSorted v (given_entries lines) → length (given_entries lines) < 2 ^ 32 → IsPosed v (given_entries lines)
problem_posed told root file whole lines v resolves denotes sorted few = record {
  few = omega arith;
  names = problem_named told root file whole lines first_vocabulary v resolves denotes;
  listed = problem_listed told root file whole lines first_vocabulary v resolves denotes;
  ready = All-weaker (λ (g : GivenEntry). IsSentence v g.form) (λ (g : GivenEntry). IsReady v g.form) (λ g is. raised v [] 500 1000000000 g.form (omega arith) is) (given_entries lines) sorted;
  unambiguous = text_keeps whole.items first_vocabulary v kind.Problem lines denotes (none_named first_vocabulary (omega arith) refl);
  words = problem_words told root file whole lines first_vocabulary v resolves first_words denotes;
}
