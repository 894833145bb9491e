-- The reader of entries is exact and finds each entry.
use Rattle.std.proofs.Common.{◌≡◌, ℕ, List, [], ◌∷◌, ◌++◌, Some, refl, sym, ◌∙◌, ap, append_assoc, arith}
use Rattle.first_fault.specs.Nesting.{Nested}
use Rattle.first_fault.specs.code.Reading.{closed}
use Rattle.first_fault.specs.Rules.{Rule}
use Rattle.first_fault.proofs.Good.{Good, good_then, good_map, good_as, good_closed, Parts, always}
use Rattle.fof_terms.specs.declared.form.Form.{Form}
use Rattle.kernel.specs.declared.entry.Decl.{Decl}
use Rattle.kernel.specs.declared.entry.Entry.{Entry}
use Rattle.kernel.specs.declared.entry.Entry.TheVariants.{Declare, Lemma, Name, Choice}
use Rattle.kernel.specs.declared.proof.Proof.{Proof}
use Rattle.proof_log.specs.declared.name.EntryName.{EntryName}
use Rattle.proof_log.specs.declared.name.EntryName.TheVariants as n
use Rattle.proof_log.specs.Words.{small, at_level, nested}
use Rattle.proof_log.specs.LogText.{form_words, proof_words}
use Rattle.proof_log.specs.Entries.{decl_text, IsLogged, nested_entry}
use Rattle.proof_log.specs.code.Names.{entry_name, entry_names}
use Rattle.proof_log.specs.code.ReadWords.{is_byte, find, number, both, name}
use Rattle.proof_log.specs.code.ReadTrees.{behind, form, proof}
use Rattle.proof_log.specs.code.ReadEntries.{declaration, entry_by, entry}
use Rattle.proof_log.proofs.Spelling.{Spell, ends, pair, good_pair, level-append}
use Rattle.proof_log.proofs.NumberReader.{is_kind, one_number, small_good}
use Rattle.proof_log.proofs.NameReader.{Named, good_name}
use Rattle.proof_log.proofs.DeclReader.{DeclSays, good_declaration}
use Rattle.proof_log.proofs.FormReader.{good_form}
use Rattle.proof_log.proofs.ProofReader.{good_proof}

abbrev head_of : Entry → EntryName
head_of (Declare decl) = n.Declare
head_of (Lemma p) = n.Lemma
head_of (Name k a) = n.Name
head_of (Choice k a) = n.Choice

-- what stands between the name and the line feed
abbrev body_of : Entry → List (Nested ℕ)
body_of (Declare decl) = at_level 0 (decl_text decl)
body_of (Lemma p) = nested 0 (proof_words p)
body_of (Name k a) = nested 0 (small k ∷ form_words a)
body_of (Choice k a) = nested 0 (small k ∷ form_words a)

-- the text of an entry is its name, its body and a line feed
entry_on : (e : Entry) (rest : List (Nested ℕ)) → nested_entry e ++ rest ≡ at_level 0 (entry_name (head_of e)) ++ (body_of e ++ ((10, 0) ∷ rest))
entry_on (Declare decl) rest = ap (λ l. (68, 0) ∷ l) (ap (λ l. l ++ rest) (level-append 0 (decl_text decl) (10 ∷ [])) ∙ append_assoc (at_level 0 (decl_text decl)) ((10, 0) ∷ []) rest)
entry_on (Lemma p) rest = ap (λ l. (76, 0) ∷ l) (append_assoc (nested 0 (proof_words p)) ((10, 0) ∷ []) rest)
entry_on (Name k a) rest = ap (λ l. (78, 0) ∷ l) (append_assoc (nested 0 (small k ∷ form_words a)) ((10, 0) ∷ []) rest)
entry_on (Choice k a) rest = ap (λ l. (67, 0) ∷ l) (append_assoc (nested 0 (small k ∷ form_words a)) ((10, 0) ∷ []) rest)

abbrev By : EntryName → Rule ℕ Entry
By w e ts rest = (head_of e ≡ w) × (ts ≡ body_of e ++ rest) × IsLogged e

-- an entry without its line feed
abbrev Says : Rule ℕ Entry
Says e ts rest = (ts ≡ at_level 0 (entry_name (head_of e)) ++ (body_of e ++ rest)) × IsLogged e

-- an entry
abbrev pub Line : Rule ℕ Entry
Line e ts rest = (ts ≡ nested_entry e ++ rest) × IsLogged e

abbrev Defined : Rule ℕ (ℕ × Form)
Defined = Spell (pair (one_number 4294967295) form_words) 0

join_declare : (v : Decl) (ts rest : List (Nested ℕ)) → DeclSays v ts rest → By n.Declare (Declare v) ts rest
join_declare v ts rest h = (refl, h.0, record { writable = h.1.0; in_range = h.1.1 })

join_lemma : (v : Proof) (ts rest : List (Nested ℕ)) → Spell proof_words 0 v ts rest → By n.Lemma (Lemma v) ts rest
join_lemma v ts rest h = (refl, h.0, record { writable = tt; in_range = h.1 })

join_name : (v : ℕ × Form) (ts rest : List (Nested ℕ)) → Defined v ts rest → By n.Name (Name v.0 v.1) ts rest
join_name v ts rest h = (refl, h.0, record { writable = tt; in_range = (h.1.0, h.1.1) })

join_choice : (v : ℕ × Form) (ts rest : List (Nested ℕ)) → Defined v ts rest → By n.Choice (Choice v.0 v.1) ts rest
join_choice v ts rest h = (refl, h.0, record { writable = tt; in_range = (h.1.0, h.1.1) })

split_declare : (e : Entry) (ts rest : List (Nested ℕ)) → By n.Declare e ts rest → (v : Decl) × DeclSays v ts rest × (Declare v ≡ e)
split_declare (Declare decl) ts rest h = (decl, (h.1, (h.2.writable, h.2.in_range)), refl)
split_declare (Lemma p) ts rest h = let e = h.0 in cc
split_declare (Name k a) ts rest h = let e = h.0 in cc
split_declare (Choice k a) ts rest h = let e = h.0 in cc

split_lemma : (e : Entry) (ts rest : List (Nested ℕ)) → By n.Lemma e ts rest → (v : Proof) × Spell proof_words 0 v ts rest × (Lemma v ≡ e)
split_lemma (Lemma p) ts rest h = (p, (h.1, h.2.in_range), refl)
split_lemma (Declare decl) ts rest h = let e = h.0 in cc
split_lemma (Name k a) ts rest h = let e = h.0 in cc
split_lemma (Choice k a) ts rest h = let e = h.0 in cc

split_name : (e : Entry) (ts rest : List (Nested ℕ)) → By n.Name e ts rest → (v : ℕ × Form) × Defined v ts rest × (Name v.0 v.1 ≡ e)
split_name (Name k a) ts rest h = ((k, a), (h.1, (h.2.in_range.0, h.2.in_range.1)), refl)
split_name (Declare decl) ts rest h = let e = h.0 in cc
split_name (Lemma p) ts rest h = let e = h.0 in cc
split_name (Choice k a) ts rest h = let e = h.0 in cc

split_choice : (e : Entry) (ts rest : List (Nested ℕ)) → By n.Choice e ts rest → (v : ℕ × Form) × Defined v ts rest × (Choice v.0 v.1 ≡ e)
split_choice (Choice k a) ts rest h = ((k, a), (h.1, (h.2.in_range.0, h.2.in_range.1)), refl)
split_choice (Declare decl) ts rest h = let e = h.0 in cc
split_choice (Lemma p) ts rest h = let e = h.0 in cc
split_choice (Name k a) ts rest h = let e = h.0 in cc

found_all : (w : EntryName) (r : List ℕ) → find entry_name entry_names (entry_name w ++ r) ≡ Some w
found_all n.Declare r = refl
found_all n.Lemma r = refl
found_all n.Name r = refl
found_all n.Choice r = refl

module _ (limit : ℕ) where
  good_defined : Good limit (both (number 4294967295) (form limit)) Defined ends
  good_defined = good_pair limit 0 (number 4294967295) (form limit) (one_number 4294967295) form_words (small_good 0) (good_form limit limit 0 (omega arith))

  good_by : (w : EntryName) → Good limit (entry_by limit w) (By w) ends
  good_by n.Declare = good_map limit declaration (entry_by limit n.Declare) DeclSays (By n.Declare) ends Declare (λ ts. refl) (good_declaration limit) join_declare split_declare
  good_by n.Lemma = good_map limit (proof limit) (entry_by limit n.Lemma) (Spell proof_words 0) (By n.Lemma) ends Lemma (λ ts. refl) (good_proof limit limit 0 (omega arith)) join_lemma split_lemma
  good_by n.Name = good_map limit (both (number 4294967295) (form limit)) (entry_by limit n.Name) Defined (By n.Name) ends (λ v. Name v.0 v.1) (λ ts. refl) good_defined join_name split_name
  good_by n.Choice = good_map limit (both (number 4294967295) (form limit)) (entry_by limit n.Choice) Defined (By n.Choice) ends (λ v. Choice v.0 v.1) (λ ts. refl) good_defined join_choice split_choice

  join : (w : EntryName) (e : Entry) (ts mid rest : List (Nested ℕ)) → Named entry_name 0 w ts mid → By w e mid rest → Says e ts rest
  join w e ts mid rest h k = (h ∙ ap (λ v. at_level 0 (entry_name v) ++ mid) (sym k.0) ∙ ap (λ l. at_level 0 (entry_name (head_of e)) ++ l) k.1, k.2)

  split : (e : Entry) (ts rest : List (Nested ℕ)) → Says e ts rest → Parts (Named entry_name 0) By always e ts rest
  split e ts rest h = record { value = head_of e; mid = body_of e ++ rest; first = h.0; second = (refl, refl, h.1); ends = refl }

  good_says : Good limit (behind (name entry_name entry_names) (entry_by limit)) Says ends
  good_says =
      good_then limit (name entry_name entry_names) (entry_by limit) (Named entry_name 0) By Says always ends (good_name entry_name entry_names n.Declare found_all limit 0 (omega arith))
      (λ w can. good_by w) join (λ e ts rest h k. split e ts rest h)

  to_line : (e : Entry) (ts rest : List (Nested ℕ)) → Says e ts ((10, 0) ∷ rest) → Line e ts rest
  to_line e ts rest h = (h.0 ∙ sym (entry_on e rest), h.1)

  of_line : (e : Entry) (ts rest : List (Nested ℕ)) → Line e ts rest → Says e ts ((10, 0) ∷ rest)
  of_line e ts rest h = (h.0 ∙ entry_on e rest, h.1)

  pub good_entry : Good limit (entry limit) Line always
  unfolding entry
  good_entry =
      good_as limit (closed (is_byte 10) (behind (name entry_name entry_names) (entry_by limit))) (λ e ts rest. Says e ts ((10, 0) ∷ rest)) Line always always
      (good_closed (is_byte 10) 10 (is_kind 10) limit 0 (omega arith) (behind (name entry_name entry_names) (entry_by limit)) Says ends always refl good_says) to_line of_line (λ h e. e)
