-- One equation for each kind of general term: what it is read as, by the readings of its parts.
use Rattle.std.specs.Prelude.{ℕ, List, ◌≡◌, map}
use Rattle.tptp_base.specs.declared.surface.STerm.{STerm}
use Rattle.tptp_base.specs.declared.surface.Surface.{Surface}
use Rattle.tptp_base.specs.declared.item.Lang.{Lang}
use Rattle.tptp_base.specs.declared.item.GTerm.{GTerm}
use Rattle.tptp_base.specs.declared.item.GTerm.TheViews.{roll-GTerm}
use Rattle.tptp_base.specs.declared.item.GTerm.TheFolds.{fold-roll-GTerm}
use denote.Hole.Carrier.{roll}
use Rattle.tstp_graph.specs.declared.cite.Reading.{Reading}
use Rattle.tstp_graph.specs.Words.{record_kind}
use Rattle.tstp_graph.specs.code.Sources.{nothing, word_reading, number_reading, list_reading, pair_reading, record_reading, row, reading}
use Rattle.tptp_base.specs.declared.item.GTerm.TheVariants as term
use Rattle.tptp_base.specs.declared.item.GTerm.TheOpen as open_term

pub reading-Word : (word : List ℕ) → reading (term.Word word) ≡ word_reading word
unfolding reading roll-GTerm roll
reading-Word word = fold-roll-GTerm Reading row (open_term.Word word)

pub reading-Func : (word : List ℕ) (args : List GTerm) → reading (term.Func word args) ≡ record_reading (record_kind word) (map reading args)
unfolding reading roll-GTerm roll
reading-Func word args = fold-roll-GTerm Reading row (open_term.Func word args)

pub reading-Var : (name : List ℕ) → reading (term.Var name) ≡ nothing
unfolding reading roll-GTerm roll
reading-Var name = fold-roll-GTerm Reading row (open_term.Var name)

pub reading-Number : (number : List ℕ) → reading (term.Number number) ≡ number_reading number
unfolding reading roll-GTerm roll
reading-Number number = fold-roll-GTerm Reading row (open_term.Number number)

pub reading-Distinct : (text : List ℕ) → reading (term.Distinct text) ≡ nothing
unfolding reading roll-GTerm roll
reading-Distinct text = fold-roll-GTerm Reading row (open_term.Distinct text)

pub reading-Formula : (lang : Lang) (formula : Surface) → reading (term.Formula lang formula) ≡ nothing
unfolding reading roll-GTerm roll
reading-Formula lang formula = fold-roll-GTerm Reading row (open_term.Formula lang formula)

pub reading-Term : (t : STerm) → reading (term.Term t) ≡ nothing
unfolding reading roll-GTerm roll
reading-Term t = fold-roll-GTerm Reading row (open_term.Term t)

pub reading-List : (members : List GTerm) → reading (term.List members) ≡ list_reading (map reading members)
unfolding reading roll-GTerm roll
reading-List members = fold-roll-GTerm Reading row (open_term.List members)

pub reading-Pair : (left right : GTerm) → reading (term.Pair left right) ≡ pair_reading (reading left)
unfolding reading roll-GTerm roll
reading-Pair left right = fold-roll-GTerm Reading row (open_term.Pair left right)

pub ruleset reading_equations = (reading-Word, reading-Func, reading-Var, reading-Number, reading-Distinct, reading-Formula, reading-Term, reading-List, reading-Pair)
