-- The names that begin the lines and the trees of a log, and how they are written.
use Rattle.std.specs.Prelude.{ℕ, List, codes, [], ◌∷◌}
use Rattle.proof_log.specs.declared.name.TermName.{TermName}
use Rattle.proof_log.specs.declared.name.FormName.{FormName}
use Rattle.proof_log.specs.declared.name.ProofName.{ProofName}
use Rattle.proof_log.specs.declared.name.DeclName.{DeclName}
use Rattle.proof_log.specs.declared.name.EntryName.{EntryName}
use Rattle.proof_log.specs.declared.name.LogVersion.{LogVersion}
use Rattle.proof_log.specs.declared.write.TheConstants.{HEADER}
use Rattle.proof_log.specs.declared.name.TermName.TheVariants as t
use Rattle.proof_log.specs.declared.name.FormName.TheVariants as f
use Rattle.proof_log.specs.declared.name.ProofName.TheVariants as p
use Rattle.proof_log.specs.declared.name.DeclName.TheVariants as decl
use Rattle.proof_log.specs.declared.name.EntryName.TheVariants as entry
use Rattle.proof_log.specs.declared.name.LogVersion.TheVariants as version

abbrev pub term_name : TermName → List ℕ
term_name t.Var = codes "v"
term_name t.App = codes "f"

abbrev pub form_name : FormName → List ℕ
form_name f.Atom = codes "a"
form_name f.Eq = codes "="
form_name f.Not = codes "~"
form_name f.And = codes "&"
form_name f.Or = codes "|"
form_name f.Imp = codes ">"
form_name f.Iff = codes "<>"
form_name f.All = codes "!"
form_name f.Ex = codes "?"

abbrev pub proof_name : ProofName → List ℕ
proof_name p.Line = codes "line"
proof_name p.Hyp = codes "hyp"
proof_name p.AndI = codes "andi"
proof_name p.AndE = codes "ande"
proof_name p.OrI = codes "ori"
proof_name p.OrE = codes "ore"
proof_name p.ImpI = codes "impi"
proof_name p.ImpE = codes "impe"
proof_name p.NotI = codes "noti"
proof_name p.NotE = codes "note"
proof_name p.Raa = codes "raa"
proof_name p.IffI = codes "iffi"
proof_name p.IffL = codes "iffl"
proof_name p.IffR = codes "iffr"
proof_name p.AllI = codes "alli"
proof_name p.AllE = codes "alle"
proof_name p.ExI = codes "exi"
proof_name p.ExE = codes "exe"
proof_name p.Refl = codes "refl"
proof_name p.Subst = codes "subst"
proof_name p.Inhabit = codes "inhabit"

abbrev pub decl_name : DeclName → List ℕ
decl_name decl.Sort = codes "s"
decl_name decl.Function = codes "f"
decl_name decl.Predicate = codes "p"

abbrev pub entry_name : EntryName → List ℕ
entry_name entry.Declare = codes "D"
entry_name entry.Lemma = codes "L"
entry_name entry.Name = codes "N"
entry_name entry.Choice = codes "C"

-- the first line of a log
abbrev pub version_line : LogVersion → List ℕ
version_line version.One = HEADER.now

abbrev pub term_names : List TermName
term_names = t.Var ∷ t.App ∷ []

abbrev pub form_names : List FormName
form_names = f.Atom ∷ f.Eq ∷ f.Not ∷ f.And ∷ f.Or ∷ f.Imp ∷ f.Iff ∷ f.All ∷ f.Ex ∷ []

abbrev pub proof_names : List ProofName
proof_names = p.Line ∷ p.Hyp ∷ p.AndI ∷ p.AndE ∷ p.OrI ∷ p.OrE ∷ p.ImpI ∷ p.ImpE ∷ p.NotI ∷ p.NotE ∷ p.Raa ∷ p.IffI ∷ p.IffL ∷ p.IffR ∷ p.AllI ∷ p.AllE ∷ p.ExI ∷ p.ExE ∷ p.Refl ∷ p.Subst ∷ p.Inhabit ∷ []

abbrev pub decl_names : List DeclName
decl_names = decl.Sort ∷ decl.Function ∷ decl.Predicate ∷ []

abbrev pub entry_names : List EntryName
entry_names = entry.Declare ∷ entry.Lemma ∷ entry.Name ∷ entry.Choice ∷ []

abbrev pub versions : List LogVersion
versions = version.One ∷ []
