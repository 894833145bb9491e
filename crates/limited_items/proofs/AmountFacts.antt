-- Amounts of formulas in total, and tables of these by name.
use Rattle.std.specs.Prelude.{ℕ, ◌≡◌, ◌+◌, ◌-◌, ◌^◌, ◌<◌, min, Bool, true, false, cond, if◌then◌else◌, List, [], ◌∷◌, ◌++◌, get_or, length, map, take}
use Rattle.std.specs.List.{filter}
use Rattle.std.specs.Str.{bytes_eq}
use Rattle.std.proofs.Common.{ap, sym, subst, ◌∙◌, arith}
use Rattle.tstp_graph.specs.Tables.{same_name}
use Rattle.fof_terms.specs.declared.form.Form.{Form}
use Rattle.clause_form.proofs.SizeLaws.{sum_cons}
use Rattle.sort_check.specs.declared.line.GivenEntry.{GivenEntry}
use Rattle.step_clauses.specs.Room.{wanted}
use Rattle.derivation_items.specs.Words.{Text}
use Rattle.derivation_items.specs.declared.line.ProofLine.{ProofLine}
use Rattle.derivation_limits.specs.Names.{AddsName, HasNone, total_of_name}
use Rattle.derivation_limits.specs.Totals.{Adds, IsEmpty, capped, total_of}
use Rattle.derivation_limits.specs.declared.totals.Totals.{Totals}
use Rattle.limited_items.specs.declared.wanted.Wanted.{Wanted}
use Rattle.limited_items.specs.Sources.{forms_given, given_named, lines_named}
use Rattle.limited_items.specs.code.Amounts.{AreWanted, total}
use Rattle.limited_items.proofs.PlaceFacts.{taken}

pub total_append : (amount : Form → ℕ) (as_ bs : List Form) → total amount (as_ ++ bs) ≡ total amount as_ + total amount bs
total_append amount [] bs = omega arith
total_append amount (a ∷ as_) bs =
    let rest = total_append amount as_ bs in
    let left = sum_cons (amount a) (map amount as_) in
    let whole = sum_cons (amount a) (map amount (as_ ++ bs)) in
    omega (arith, rest, left, whole)

-- ---- the formulas of elements that pass a test

module _ {X : Type 0} (form : X → Form) (test : X → Bool) (amount : Form → ℕ) where
  first_by : (x : X) (xs : List X) (b : Bool) → total amount (map form (cond b (x ∷ filter test xs) (filter test xs))) ≡ (if b then amount (form x) else 0) + total amount (map form (filter test xs))
  first_by x xs true = sum_cons (amount (form x)) (map amount (map form (filter test xs)))
  first_by x xs false = omega arith

  last : (xs : List X) (x : X) → total amount (map form (filter test (xs ++ x ∷ []))) ≡ total amount (map form (filter test xs)) + (if test x then amount (form x) else 0)
  last [] x = let one = first_by x [] (test x) in omega (arith, one)
  last (y ∷ xs) x =
      let whole = first_by y (xs ++ x ∷ []) (test y) in
      let front = first_by y xs (test y) in
      let rest = last xs x in
      omega (arith, whole, front, rest)

  -- where the amount of the last one is known
  pub picked_more : (xs : List X) (x : X) (own : ℕ) → own ≡ amount (form x) → total amount (map form (filter test (xs ++ x ∷ []))) ≡ total amount (map form (filter test xs)) + (if test x then own else 0)
  picked_more xs x own is = last xs x ∙ ap (λ (n : ℕ). total amount (map form (filter test xs)) + (if test x then n else 0)) (sym is)

-- the total at a name, where an amount is added at a name that may be the same
total_by : (b : Bool) (most old new own before whole : ℕ) → old ≡ min before most → new ≡ (if b then min (old + own) most else old) → whole ≡ before + (if b then own else 0) → new ≡ min whole most
total_by true most old new own before whole was made is = omega arith
total_by false most old new own before whole was made is = omega arith

capped_more : (most old new own before whole : ℕ) → old ≡ min before most → new ≡ min (old + own) most → whole ≡ before + own → new ≡ min whole most
capped_more most old new own before whole was made is = omega arith

none_is : (n : ℕ) → n ≡ 0 → n ≡ capped 0
none_is n is = omega arith

-- ---- totals of lines

-- the amounts of the lines of each name
pub record AreTotals (amount : Form → ℕ) (lines : List ProofLine) (totals : Totals) : Type 0 where
  pub each : (word : Text) → total_of totals word ≡ capped (total amount (lines_named lines word))

pub totals_none : (amount : Form → ℕ) (totals : Totals) → IsEmpty totals → AreTotals amount [] totals
totals_none amount totals empty = record { each = λ word. none_is (total_of totals word) (empty word) }

one_total_more : (amount : Form → ℕ) (lines : List ProofLine) (line : ProofLine) (own : ℕ) (old new : Totals) → AreTotals amount lines old → own ≡ amount line.form → Adds old line.name own new → AreTotals amount (lines ++ line ∷ []) new
one_total_more amount lines line own old new are is adds = record {
  each = λ word. total_by (bytes_eq line.name word) (2 ^ 64 - 1) (total_of old word) (total_of new word) own (total amount (lines_named lines word)) (total amount (lines_named (lines ++ line ∷ []) word)) (are.each word) (adds word)
      (picked_more (λ (l : ProofLine). l.form) (λ (l : ProofLine). bytes_eq l.name word) amount lines line own is);
}

pub totals_more : (amount : Form → ℕ) (lines : List ProofLine) (i : ℕ) (line : ProofLine) (word : Text) (own : ℕ) (old new : Totals) → i < length lines → line ≡ get_or lines i line → AreTotals amount (take i lines) old → word ≡ line.name → own ≡ amount line.form → Adds old word own new
    → AreTotals amount (take (i + 1) lines) new
totals_more amount lines i line word own old new lt at are named is adds =
    subst (λ (ls : List ProofLine). AreTotals amount ls new) (taken lines i line lt at) (one_total_more amount (take i lines) line own old new are is (subst (λ (w : Text). Adds old w own new) named adds))

-- ---- totals of what is given

pub wanted_none : (by_given : Wanted) → HasNone by_given.names → by_given.all ≡ 0 → AreWanted [] by_given
wanted_none by_given none nothing = record { each = λ name. none_is (total_of_name by_given.names name) (none name); all = none_is by_given.all nothing }

forms_more : (given : List GivenEntry) (entry : GivenEntry) (own : ℕ) → own ≡ wanted entry.form → total wanted (forms_given (given ++ entry ∷ [])) ≡ total wanted (forms_given given) + own
forms_more [] entry own is = let one = sum_cons (wanted entry.form) [] in omega (arith, one)
forms_more (g ∷ given) entry own is =
    let rest = forms_more given entry own is in
    let whole = sum_cons (wanted g.form) (map wanted (forms_given (given ++ entry ∷ []))) in
    let front = sum_cons (wanted g.form) (map wanted (forms_given given)) in
    omega (arith, rest, whole, front)

pub wanted_more : (given : List GivenEntry) (entry : GivenEntry) (own : ℕ) (old new : Wanted) → own ≡ wanted entry.form → AddsName old.names entry.name own new.names → new.all ≡ capped (old.all + own) → AreWanted given old → AreWanted (given ++ entry ∷ []) new
wanted_more given entry own old new is adds all are = record {
  each = λ name. total_by (same_name entry.name name) (2 ^ 64 - 1) (total_of_name old.names name) (total_of_name new.names name) own (total wanted (given_named given name)) (total wanted (given_named (given ++ entry ∷ []) name)) (are.each name) (adds name)
      (picked_more (λ (g : GivenEntry). g.form) (λ (g : GivenEntry). same_name g.name name) wanted given entry own is);
  all = capped_more (2 ^ 64 - 1) old.all new.all own (total wanted (forms_given given)) (total wanted (forms_given (given ++ entry ∷ []))) are.all all (forms_more given entry own is);
}
