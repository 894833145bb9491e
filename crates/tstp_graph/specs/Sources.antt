-- How a source is read, in the words of the TPTP's annotations: what a general term gives as a member of a list of
-- parents, and what it makes of a line whose source it is. Terms in a list stand in a row, `more_of-GTerm` before each
-- and `end_of-GTerm` behind them all.
use Rattle.std.specs.Prelude.{Bool, true, false, not, List, [], ◌∷◌, ◌++◌, Option, None, Some, if◌then◌else◌}
use Rattle.std.specs.Option.{option_map, option_map_or}
use Rattle.tptp_base.specs.declared.name.Name.{Name}
use Rattle.tptp_base.specs.declared.name.Name.TheVariants.{Integer}
use Rattle.tptp_base.specs.declared.item.GTerm.{GTerm, Word, Number, Func', List', Pair', Row_of-GTerm, end_of-GTerm}
use Rattle.tptp_base.specs.declared.item.GTerm.{more_of-GTerm}
use Rattle.tstp_graph.specs.declared.word.RecordKind.{RecordKind}
use Rattle.tstp_graph.specs.declared.word.RecordKind.TheVariants.{Inference, Introduced, File, Theory, Other}
use Rattle.tstp_graph.specs.declared.cite.Cite.{Cite}
use Rattle.tstp_graph.specs.declared.cite.Cite.TheVariants.{Named, Filed}
use Rattle.tstp_graph.specs.Words.{is_unknown, record_kind}
use Rattle.tptp_base.specs.Numerals.{is_integer}
use Rattle.tptp_base.specs.declared.name.Name.TheVariants as name

-- the name that a term is, if it is one: a word or an integer
abbrev pub name_of : GTerm → Option Name
name_of (Word word) = Some (name.Word word)
name_of (Number number) = if is_integer number then Some (Integer number) else None
name_of other = None

-- the parent of this name; the word `unknown` names none
abbrev pub cited : (Name → Cite) → Name → List Cite
cited cite (name.Word word) = if is_unknown word then [] else cite (name.Word word) ∷ []
cited cite (Integer number) = cite (Integer number) ∷ []

abbrev pub is_list : GTerm → Bool
is_list (List' n terms) = true
is_list other = false

-- what both give, unless one of them is malformed
abbrev pub both : Option (List Cite) → Option (List Cite) → Option (List Cite)
both None rest = None
both (Some first) None = None
both (Some first) (Some rest) = Some (first ++ rest)

unfoldable mutual
  -- What a term gives as a member of a list of parents, or none where it is malformed: a name gives the parent of that
  -- name, a pair what its left side gives, and what is neither this nor a record nor a list gives nothing.
  pub member : GTerm → Option (List Cite)
  member (Func' word n args) = of_record (record_kind word) args
  member (List' n terms) = members terms
  member (Pair' u (more_of-GTerm left end_of-GTerm) w right) = member left
  member term = Some (option_map_or (cited Named) (name_of term) [])

  -- what each of these gives, in turn
  pub members : {n : _} → Row_of-GTerm n → Option (List Cite)
  members end_of-GTerm = Some []
  members (more_of-GTerm term terms) = both (member term) (members terms)

  -- what the members of a list give, where there has to be a list
  pub listed : GTerm → Option (List Cite)
  listed (List' n terms) = members terms
  listed other = None

  -- What a record gives. An inference has three arguments, of which the last two are lists, and gives the members of
  -- the third; what is introduced has at most three, and gives the members of the third, a list; a file has one or two,
  -- and gives the given formulas that the second names.
  pub of_record : {n : _} → RecordKind → Row_of-GTerm n → Option (List Cite)
  of_record Inference (more_of-GTerm rule (more_of-GTerm info (more_of-GTerm parents end_of-GTerm))) =
      if is_list info then listed parents else None
  of_record Inference args = None
  of_record Introduced (more_of-GTerm kind (more_of-GTerm info (more_of-GTerm parents end_of-GTerm))) = listed parents
  of_record Introduced (more_of-GTerm a (more_of-GTerm b (more_of-GTerm c (more_of-GTerm d more)))) = None
  of_record Introduced fewer = Some []
  of_record File (more_of-GTerm source end_of-GTerm) = Some []
  of_record File (more_of-GTerm source (more_of-GTerm name end_of-GTerm)) = option_map (cited Filed) (name_of name)
  of_record File args = None
  of_record Theory args = Some []
  of_record Other args = Some []

-- a record makes a step, but for a file and what is no record
abbrev pub is_step_record : RecordKind → Bool
is_step_record Inference = true
is_step_record Introduced = true
is_step_record File = false
is_step_record Theory = true
is_step_record Other = false

-- a line of this source is a step: names, lists and records make one
abbrev pub makes_step : GTerm → Bool
makes_step (Word word) = not (is_unknown word)
makes_step (Number number) = is_integer number
makes_step (Func' word n args) = is_step_record (record_kind word)
makes_step (List' n terms) = true
makes_step other = false

-- A source as it is read: whether its line is a step, and which parents it names.
pub record Source : Type 0 where
  pub is_step : Bool
  pub gives : List Cite

-- the source of a line, or none where it is malformed: without one, and by a pair, it is a leaf that names no parents
abbrev pub source_of : Option GTerm → Option Source
source_of None = Some (record { is_step = false; gives = [] })
source_of (Some (Pair' u left w right)) = Some (record { is_step = false; gives = [] })
source_of (Some term) = option_map (λ cites. record { is_step = makes_step term; gives = cites }) (member term)
