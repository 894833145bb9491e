-- What the functions that read terms, formulas and proofs compute. The number is how deep they may still nest.
use Rattle.std.specs.Prelude.{ℕ, zero, suc}
use Rattle.first_fault.specs.code.Reading.{Reader, refuse, and_then, mapped}
use Rattle.fof_terms.specs.declared.term.Term.{Term, Var, App}
use Rattle.fof_terms.specs.declared.form.Form.{Form, Atom, Eq, Not, And, Or, Imp, Iff, All, Ex}
use Rattle.kernel.specs.declared.proof.Proof.{Proof, Line, Hyp, AndI, AndE, OrI, OrE, ImpI, ImpE, NotI, NotE, Raa, IffI}
use Rattle.kernel.specs.declared.proof.Proof.{IffL, IffR, AllI, AllE, ExI, ExE, Refl, Subst, Inhabit}
use Rattle.proof_log.specs.declared.name.TermName.{TermName}
use Rattle.proof_log.specs.declared.name.FormName.{FormName}
use Rattle.proof_log.specs.declared.name.ProofName.{ProofName}
use Rattle.proof_log.specs.code.Names.{term_name, form_name, proof_name, term_names, form_names, proof_names}
use Rattle.proof_log.specs.code.ReadWords.{number, listed, both, head, deep_head}
use Rattle.proof_log.specs.declared.name.TermName.TheVariants as t
use Rattle.proof_log.specs.declared.name.FormName.TheVariants as f
use Rattle.proof_log.specs.declared.name.ProofName.TheVariants as p

-- a name, and what is read behind it
abbrev pub behind : {W A : Type 0} → Reader ℕ W → (W → Reader ℕ A) → Reader ℕ A
behind first by ts = and_then (first ts) by

-- no tree is read where the name is nested too deep
abbrev pub nothing : {W A : Type 0} → W → Reader ℕ A
nothing w ts = refuse ts

abbrev pub term_by : Reader ℕ Term → TermName → Reader ℕ Term
term_by term t.Var ts = mapped Var (number 4294967295 ts)
term_by term t.App ts = mapped (λ v. App v.0 v.1) (both (number 4294967295) (listed term) ts)

unfoldable pub term : ℕ → Reader ℕ Term
term zero = behind (deep_head term_name term_names) nothing
term (suc room) = behind (head term_name term_names) (term_by (term room))

abbrev pub form_by : Reader ℕ Term → Reader ℕ Form → FormName → Reader ℕ Form
form_by term form f.Atom ts = mapped (λ v. Atom v.0 v.1) (both (number 4294967295) (listed term) ts)
form_by term form f.Eq ts = mapped (λ v. Eq v.0 v.1) (both term term ts)
form_by term form f.Not ts = mapped Not (form ts)
form_by term form f.And ts = mapped And (listed form ts)
form_by term form f.Or ts = mapped Or (listed form ts)
form_by term form f.Imp ts = mapped (λ v. Imp v.0 v.1) (both form form ts)
form_by term form f.Iff ts = mapped (λ v. Iff v.0 v.1) (both form form ts)
form_by term form f.All ts = mapped (λ v. All v.0 v.1) (both (number 4294967295) form ts)
form_by term form f.Ex ts = mapped (λ v. Ex v.0 v.1) (both (number 4294967295) form ts)

unfoldable pub form : ℕ → Reader ℕ Form
form zero = behind (deep_head form_name form_names) nothing
form (suc room) = behind (head form_name form_names) (form_by (term room) (form room))

abbrev pub proof_by : Reader ℕ Term → Reader ℕ Form → Reader ℕ Proof → ProofName → Reader ℕ Proof
proof_by term form proof p.Line ts = mapped Line (number 18446744073709551615 ts)
proof_by term form proof p.Hyp ts = mapped Hyp (number 4294967295 ts)
proof_by term form proof p.AndI ts = mapped AndI (listed proof ts)
proof_by term form proof p.AndE ts = mapped (λ v. AndE v.0 v.1) (both (number 4294967295) proof ts)
proof_by term form proof p.OrI ts = mapped (λ v. OrI v.0 v.1.0 v.1.1) (both (listed form) (both (number 4294967295) proof) ts)
proof_by term form proof p.OrE ts = mapped (λ v. OrE v.0 v.1.0 v.1.1) (both form (both proof (listed proof)) ts)
proof_by term form proof p.ImpI ts = mapped (λ v. ImpI v.0 v.1) (both form proof ts)
proof_by term form proof p.ImpE ts = mapped (λ v. ImpE v.0 v.1) (both proof proof ts)
proof_by term form proof p.NotI ts = mapped (λ v. NotI v.0 v.1) (both form proof ts)
proof_by term form proof p.NotE ts = mapped (λ v. NotE v.0 v.1) (both proof proof ts)
proof_by term form proof p.Raa ts = mapped (λ v. Raa v.0 v.1) (both form proof ts)
proof_by term form proof p.IffI ts = mapped (λ v. IffI v.0 v.1.0 v.1.1.0 v.1.1.1) (both form (both form (both proof proof)) ts)
proof_by term form proof p.IffL ts = mapped (λ v. IffL v.0 v.1) (both proof proof ts)
proof_by term form proof p.IffR ts = mapped (λ v. IffR v.0 v.1) (both proof proof ts)
proof_by term form proof p.AllI ts = mapped (λ v. AllI v.0 v.1) (both (number 4294967295) proof ts)
proof_by term form proof p.AllE ts = mapped (λ v. AllE v.0 v.1) (both term proof ts)
proof_by term form proof p.ExI ts = mapped (λ v. ExI v.0 v.1.0 v.1.1.0 v.1.1.1) (both (number 4294967295) (both form (both term proof)) ts)
proof_by term form proof p.ExE ts = mapped (λ v. ExE v.0 v.1.0 v.1.1) (both form (both proof proof) ts)
proof_by term form proof p.Refl ts = mapped Refl (term ts)
proof_by term form proof p.Subst ts = mapped (λ v. Subst v.0 v.1.0 v.1.1.0 v.1.1.1) (both (number 4294967295) (both form (both proof proof)) ts)
proof_by term form proof p.Inhabit ts = mapped (λ v. Inhabit v.0 v.1.0 v.1.1) (both (number 4294967295) (both form proof) ts)

unfoldable pub proof : ℕ → Reader ℕ Proof
proof zero = behind (deep_head proof_name proof_names) nothing
proof (suc room) = behind (head proof_name proof_names) (proof_by (term room) (form room) (proof room))
