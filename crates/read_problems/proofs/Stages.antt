-- What is said of a file that is not read, and what follows one that is.
use Rattle.std.proofs.Common.{◌≡◌, inl, inr, ℕ, ◌≤◌, List, length, Option, None, Some, IfSome, IsSomeAnd, refl, sym, ◌∙◌, ap, subst, arith}
use Rattle.tptp_base.specs.Read.{IsOver}
use Rattle.tptp_base.specs.Store.{Files, HasFile, file_at}
use Rattle.tptp_base.specs.declared.limit.LimitName.{LimitName}
use Rattle.tptp_base.specs.declared.limit.LimitName.TheVariants.{FileSize, TotalSize}
use Rattle.tptp_base.specs.declared.read.TheConstants.{FILE_SIZE}
use Rattle.read_problems.specs.Ending.{Ending, AfterFile, over_limit, IsReadRefusal}

pub limit_refusal : (told : Option Files) (name : List ℕ) (budget : ℕ) (limit : LimitName) (ending : Ending) → HasFile told name (λ file. IsOver limit budget (length file)) → ending ≡ over_limit name limit → IfSome told (λ files. IsReadRefusal files name budget ending)
limit_refusal None name budget limit ending over said = tt
limit_refusal (Some files) name budget limit ending over said = go (file_at files name) refl over
  where
    go : (found : Option (List ℕ)) → file_at files name ≡ found → IsSomeAnd found (λ file. IsOver limit budget (length file)) → IsReadRefusal files name budget ending
    go None is over = absurd over
    go (Some text) is over = inr (limit, text, is, over, said)

not_over : (limit : LimitName) (budget count : ℕ) → count ≤ budget → count ≤ FILE_SIZE → IsOver limit budget count → ⊥
not_over FileSize budget count in_budget in_limit over = omega arith
not_over TotalSize budget count in_budget in_limit over = omega arith
not_over other budget count in_budget in_limit over = over

one_limit : (first second : LimitName) (budget count : ℕ) → IsOver first budget count → IsOver second budget count → first ≡ second
one_limit FileSize FileSize budget count a b = refl
one_limit FileSize TotalSize budget count a b = absurd (omega arith)
one_limit TotalSize FileSize budget count a b = absurd (omega arith)
one_limit TotalSize TotalSize budget count a b = refl
one_limit FileSize other budget count a b = absurd b
one_limit TotalSize other budget count a b = absurd b
one_limit other second budget count a b = absurd a

some_is : {found other : List ℕ} {o : Option (List ℕ)} → o ≡ Some found → o ≡ Some other → other ≡ found
some_is is found = cc

not_none : {T : Type 0} {text : List ℕ} {o : Option (List ℕ)} → o ≡ Some text → o ≡ None → T
not_none is none = absurd (let e = sym is ∙ none in cc)

-- a file that was read
pub after_read : (told : Option Files) (name : List ℕ) (budget : ℕ) (text : List ℕ) (Rest : Files → List ℕ → Ending → Type 0) (ending : Ending) → HasFile told name (λ file. file ≡ text) → length text ≤ budget → length text ≤ FILE_SIZE → IfSome told (λ files. Rest files text ending) → IfSome told (λ files. AfterFile files name budget (Rest files) ending)
after_read None name budget text Rest ending has in_budget in_limit rest = tt
after_read (Some files) name budget text Rest ending has in_budget in_limit rest = go (file_at files name) refl has
  where
    go : (found : Option (List ℕ)) → file_at files name ≡ found → IsSomeAnd found (λ file. file ≡ text) → AfterFile files name budget (Rest files) ending
    go None is same = absurd same
    go (Some file) is same = record {
      missing = λ none. not_none is none;
      limit = λ limit other found over. absurd (not_over limit budget (length text) in_budget in_limit (subst (λ (t : List ℕ). IsOver limit budget (length t)) (some_is is found ∙ same) over));
      read = λ other found fits. subst (λ (t : List ℕ). Rest files t ending) (sym (some_is is found ∙ same)) rest;
    }

-- a file that was refused
pub after_refused : (told : Option Files) (name : List ℕ) (budget : ℕ) (Rest : Files → List ℕ → Ending → Type 0) (ending : Ending) → IfSome told (λ files. IsReadRefusal files name budget ending) → IfSome told (λ files. AfterFile files name budget (Rest files) ending)
after_refused None name budget Rest ending refused = tt
after_refused (Some files) name budget Rest ending (inl missing) = record {
  missing = λ none. missing.1;
  limit = λ limit text found over. not_none found missing.0;
  read = λ text found fits. not_none found missing.0;
}
after_refused (Some files) name budget Rest ending (inr over) = record {
  missing = λ none. not_none over.2 none;
  limit = λ limit text found is_over. over.4 ∙ ap (over_limit name) (one_limit over.0 limit budget (length over.1) over.3 (subst (λ (t : List ℕ). IsOver limit budget (length t)) (some_is over.2 found) is_over));
  read = λ text found fits. absurd (fits over.0 (subst (λ (t : List ℕ). IsOver over.0 budget (length t)) (sym (some_is over.2 found)) over.3));
}

pub if_told : {P : Type 0} (told : Option Files) → P → IfSome told (λ _. P)
if_told None p = tt
if_told (Some files) p = p

pub if_map : (told : Option Files) (P Q : Files → Type 0) → IfSome told P → ((files : Files) → P files → Q files) → IfSome told Q
if_map None P Q p each = tt
if_map (Some files) P Q p each = each files p
