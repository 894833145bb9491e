-- The spellings of the marks: the punctuation and the connectives of the TPTP BNF.
use Rattle.std.specs.Prelude.{codes}
use Rattle.tptp_lexer.specs.declared.token.Mark.{Mark}
use Rattle.tptp_lexer.specs.Bytes.{Text}
use Rattle.tptp_lexer.specs.declared.token.Mark.TheVariants as m

abbrev pub mark_text : Mark → Text
mark_text m.Open = codes "("
mark_text m.Close = codes ")"
mark_text m.OpenList = codes "["
mark_text m.CloseList = codes "]"
mark_text m.Comma = codes ","
mark_text m.Dot = codes "."
mark_text m.Colon = codes ":"
mark_text m.Bang = codes "!"
mark_text m.Question = codes "?"
mark_text m.Tilde = codes "~"
mark_text m.Ampersand = codes "&"
mark_text m.Equal = codes "="
mark_text m.NotEqual = codes "!="
mark_text m.Star = codes "*"
mark_text m.Greater = codes ">"
mark_text m.Imp = codes "=>"
mark_text m.RevImp = codes "<="
mark_text m.Iff = codes "<=>"
mark_text m.Xor = codes "<~>"
mark_text m.Nand = codes "~&"
mark_text m.Bar = codes "|"
mark_text m.Nor = codes "~|"
