-- What a source is read as, in one fold over its term. Nothing public rests on this: specs/Sources says it plainly.
use Rattle.std.specs.Prelude.{ℕ, ◌==◌, ◌&&◌, ◌||◌, nat_le, Bool, true, false, List, [], ◌∷◌, length, slice_get, Option}
use Rattle.std.specs.Prelude.{None, Some, is_some, if◌then◌else◌}
use Rattle.std.specs.List.{flat_map, list_all}
use Rattle.std.specs.Option.{option_map_or}
use Rattle.tptp_base.specs.declared.name.Name.{Name}
use Rattle.tptp_base.specs.declared.name.Name.TheVariants.{Word, Integer}
use Rattle.tptp_base.specs.declared.item.GTerm.{GTerm}
use Rattle.tptp_base.specs.declared.item.GTerm.TheFolds.{fold-GTerm}
use Rattle.tstp_graph.specs.declared.word.RecordKind.{RecordKind}
use Rattle.tstp_graph.specs.declared.word.RecordKind.TheVariants.{Inference, Introduced, File, Theory, Other}
use Rattle.tstp_graph.specs.declared.cite.Cite.{Cite}
use Rattle.tstp_graph.specs.declared.cite.Cite.TheVariants.{Named, Filed}
use Rattle.tstp_graph.specs.declared.cite.Reading.{Reading}
use Rattle.tstp_graph.specs.Sources.{is_step_record}
use Rattle.tstp_graph.specs.Words.{is_unknown, record_kind}
use Rattle.tptp_base.specs.Numerals.{is_integer}
use Rattle.tptp_base.specs.declared.item.GTerm.TheOpen as term

-- a term that gives nothing, and makes a leaf that is not cited
abbrev pub nothing : Reading
nothing = record { name = None; is_list = false; is_good = true; is_step = false; is_read = true; gives = [] }

-- a name gives what it means, and makes a step from it
abbrev pub named : Name → Reading
named name = record { name = Some name; is_list = false; is_good = true; is_step = true; is_read = true; gives = Named name ∷ [] }

-- the word `unknown` is a name, and gives nothing
abbrev pub word_reading : List ℕ → Reading
word_reading word = if is_unknown word then record nothing { name = Some (Word word) } else named (Word word)

-- of the numbers the integers are names
abbrev pub number_reading : List ℕ → Reading
number_reading number = if is_integer number then named (Integer number) else nothing

-- a list gives what its members give, and makes a step from it
abbrev pub list_reading : List Reading → Reading
list_reading members = record {
  name = None;
  is_list = true;
  is_good = list_all (λ member. member.is_good) members;
  is_step = true;
  is_read = true;
  gives = flat_map (λ member. member.gives) members;
}

-- a pair gives what its left side gives, and makes a leaf as each other term does
abbrev pub pair_reading : Reading → Reading
pair_reading left = record { name = None; is_list = false; is_good = left.is_good; is_step = false; is_read = false; gives = left.gives }

-- what the argument at a place gives
abbrev pub gives_at : List Reading → ℕ → List Cite
gives_at args at = option_map_or (λ arg. arg.gives) (slice_get args at) []

abbrev pub is_list_at : List Reading → ℕ → Bool
is_list_at args at = option_map_or (λ arg. arg.is_list) (slice_get args at) false

-- the argument at a place is a list whose members are well formed
abbrev pub is_good_list_at : List Reading → ℕ → Bool
is_good_list_at args at = option_map_or (λ arg. arg.is_list && arg.is_good) (slice_get args at) false

abbrev pub name_at : List Reading → ℕ → Option Name
name_at args at = option_map_or (λ arg. arg.name) (slice_get args at) None

-- the given formulas of a name other than `unknown`
abbrev pub filed : Option Name → List Cite
filed None = []
filed (Some (Word word)) = if is_unknown word then [] else Filed (Word word) ∷ []
filed (Some (Integer number)) = Filed (Integer number) ∷ []

-- what a record gives: an inference and what is introduced the members of the third argument, a file the formulas
-- that its second argument names
abbrev pub record_gives : RecordKind → List Reading → List Cite
record_gives Inference args = gives_at args 2
record_gives Introduced args = gives_at args 2
record_gives File args = filed (name_at args 1)
record_gives Theory args = []
record_gives Other args = []

-- Where a record is well formed: an inference has three arguments, of which the last two are lists; what is
-- introduced at most three, of which the third is a list; a file one or two, of which the second is a name.
abbrev pub is_good_record : RecordKind → List Reading → Bool
is_good_record Inference args = length args == 3 && is_list_at args 1 && is_good_list_at args 2
is_good_record Introduced args = nat_le (length args) 2 || (length args == 3 && is_good_list_at args 2)
is_good_record File args = length args == 1 || (length args == 2 && is_some (name_at args 1))
is_good_record Theory args = true
is_good_record Other args = true

abbrev pub record_reading : RecordKind → List Reading → Reading
record_reading kind args = record {
  name = None;
  is_list = false;
  is_good = is_good_record kind args;
  is_step = is_step_record kind;
  is_read = true;
  gives = record_gives kind args;
}

-- one row for each kind of general term
abbrev pub row : term.GTerm-F Reading → Reading
row (term.Word word) = word_reading word
row (term.Func word args) = record_reading (record_kind word) args
row (term.Var name) = nothing
row (term.Number number) = number_reading number
row (term.Distinct text) = nothing
row (term.Formula lang formula) = nothing
row (term.Term t) = nothing
row (term.List members) = list_reading members
row (term.Pair left right) = pair_reading left

unfoldable pub reading : GTerm → Reading
reading = fold-GTerm Reading row

-- the source of a line: a line without one is a leaf that is not cited
abbrev pub source_of : Option GTerm → Reading
source_of None = nothing
source_of (Some source) = if (reading source).is_read then reading source else nothing
