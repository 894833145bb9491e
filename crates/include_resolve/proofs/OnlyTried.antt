-- The walk looks at no other files than those whose names it tries.
use Rattle.std.specs.Prelude.{⊤, IsSomeAnd, IsNone, if◌then◌else◌, nat_eq}
use Rattle.std.specs.Cmp.Lexicographic.{pointwise, bytes_decides}
use Rattle.std.proofs.Common.{◌≡◌, refl, sym, subst, ◌-◌, Bool, true, false, List, [], ◌∷◌, length, All, Option, Some}
use Rattle.std.proofs.lemmas.List.Elements.{All-nil, All-cons, All-head, All-tail}
use Rattle.tptp_base.specs.declared.item.Item.{Item}
use Rattle.tptp_base.specs.declared.name.Name.{Name}
use Rattle.tptp_base.specs.Read.{IsOver}
use Rattle.tptp_base.specs.Store.{Files, HasFile, IsMissing, file_at}
use Rattle.include_resolve.specs.declared.problem.TheConstants.{TOTAL_SIZE}
use Rattle.include_resolve.specs.Names.{Text}
use Rattle.include_resolve.specs.Parts.{Answer}
use Rattle.include_resolve.specs.Resolved as walk
use Rattle.include_resolve.specs.Resolved.{Walk, IsFirstFile, first, later, IsRead, Opens, Reads, Replaces, TakesItem, inside, beyond}
use Rattle.include_resolve.specs.Tried as tried
use Rattle.include_resolve.specs.Tried.{IsTried, TriesToOpen, TriesInFile, TriesInItems, HasAllTried, Tries}

module _ (files after : Files) where
  abbrev told : Option Files
  told = Some files

  abbrev now_told : Option Files
  now_told = Some after

  abbrev Same : Text → Type 0
  Same name = file_at after name ≡ file_at files name

  file_moved : (name : Text) (P : Text → Type 0) → Same name → HasFile told name P → HasFile now_told name P
  file_moved name P same has = subst (λ (o : Option Text). IsSomeAnd o P) (sym same) has

  missing_moved : (name : Text) → Same name → IsMissing told name → IsMissing now_told name
  missing_moved name same is = subst (λ (o : Option Text). IsNone o) (sym same) is

  all_moved : (names : List Text) → ((n : Text) → IsTried told n names → Same n) → All (IsMissing told) names → All (IsMissing now_told) names
  all_moved [] same all = All-nil (IsMissing now_told)
  all_moved (name ∷ names) same all =
      let here : IsMissing told name = All-head (IsMissing told) name names all in
      All-cons (IsMissing now_told) name names (missing_moved name (same name tried.now) here)
      (all_moved names (λ n t. same n (tried.next here t)) (All-tail (IsMissing told) name names all))

  first_moved : {names : List Text} {name : Text} → ((n : Text) → IsTried told n names → Same n) → IsFirstFile told names name → IsFirstFile now_told names name
  first_moved same (first {name = name} h) = first (file_moved name (λ file. ⊤) (same name tried.now) h)
  first_moved same (later {other = other} h more) = later (missing_moved other (same other tried.now) h) (first_moved (λ n t. same n (tried.next h t)) more)

  -- the first file is tried
  first_tried : {names : List Text} {name : Text} → IsFirstFile told names name → IsTried told name names
  first_tried (first h) = tried.now
  first_tried (later h more) = tried.next h (first_tried more)

  read_moved : (w : Walk) (name bytes : Text) → Same name → IsRead told w name bytes → IsRead now_told w name bytes
  read_moved w name bytes same read = record { whole = file_moved name (λ file. file ≡ bytes) same read.whole; in_limit = read.in_limit; in_budget = read.in_budget }

  module _ (root : Option Text) where
    mutual
      pub opens_moved : {w : Walk} {names : List Text} {written : Text} {selection : Option (List Name)} {a : Answer} → ((n : Text) → TriesToOpen told root n w names → Same n)
          → Opens told root w names written selection a → Opens now_told root w names written selection a
      opens_moved {names = names} same (walk.missing all) = walk.missing (all_moved names (λ n t. same n (tried.among t)) all)
      opens_moved same (walk.cycle found on) = walk.cycle (first_moved (λ n t. same n (tried.among t)) found) on
      opens_moved same (walk.too_deep found off deep) = walk.too_deep (first_moved (λ n t. same n (tried.among t)) found) off deep
      opens_moved same (walk.opened {name = name} found off room reads) =
          walk.opened (first_moved (λ n t. same n (tried.among t)) found) off room (reads_moved (same name (tried.among (first_tried found))) (λ n t. same n (tried.within found off room t)) reads)

      reads_moved : {w : Walk} {name : Text} {a : Answer} → Same name → ((n : Text) → TriesInFile told root n w name → Same n) → Reads told root w name a → Reads now_told root w name a
      reads_moved {w} {name} here same (walk.over {limit = limit} h) = walk.over (file_moved name (λ file. IsOver limit (TOTAL_SIZE - w.read) (length file)) here h)
      reads_moved {w} {name} here same (walk.faulty {bytes = bytes} read faulty) = walk.faulty (read_moved w name bytes here read) faulty
      reads_moved {w} {name} here same (walk.spelled {bytes = bytes} read spelled replaces) = walk.spelled (read_moved w name bytes here read) spelled (replaces_moved (λ n t. same n (tried.in_text read spelled t)) replaces)

      replaces_moved : {w : Walk} {from : Text} {items : List Item} {a : Answer} → ((n : Text) → TriesInItems told root n w from items → Same n) → Replaces told root w from items a → Replaces now_told root w from items a
      replaces_moved same walk.done = walk.done
      replaces_moved same (walk.stopped takes) = walk.stopped (takes_moved same takes)
      replaces_moved same (walk.went_on takes replaces) = walk.went_on (takes_moved same takes) (replaces_moved (λ n t. same n (tried.later takes t)) replaces)

      takes_moved : {w : Walk} {from : Text} {item : Item} {items : List Item} {a : Answer} → ((n : Text) → TriesInItems told root n w from (item ∷ items) → Same n) → TakesItem told root w from item a → TakesItem now_told root w from item a
      takes_moved same walk.comment = walk.comment
      takes_moved same walk.formula = walk.formula
      takes_moved same (walk.replaced opens) = walk.replaced (opens_moved (λ n t. same n (tried.here t)) opens)

-- a store with the same files under the names that are tried gives the same answer
pub tried_alone : (files after : Files) (root : Option Text) (name : Text) (answer : Answer) → HasAllTried files after root name → walk.Resolves (Some files) root name answer → walk.Resolves (Some after) root name answer
tried_alone files after root name answer same resolves = opens_moved files after root same resolves

other_file : (files : Files) (name other bytes : Text) → (other ≡ name → ⊥) → file_at ((other, bytes) ∷ files) name ≡ file_at files name
other_file files name other bytes apart = by (pointwise nat_eq other name) refl
  where
    by : (b : Bool) → pointwise nat_eq other name ≡ b → (if b then Some bytes else file_at files name) ≡ file_at files name
    by true test = absurd (apart ((bytes_decides other name).0 test))
    by false test = refl

-- and so does one with a further file under a name that is not tried
pub further_file : (files : Files) (root : Option Text) (name other bytes : Text) (answer : Answer) → (Tries files root name other → ⊥) → walk.Resolves (Some files) root name answer → walk.Resolves (Some ((other, bytes) ∷ files)) root name answer
further_file files root name other bytes answer untried resolves =
    tried_alone files ((other, bytes) ∷ files) root name answer (λ n t. other_file files n other bytes (λ same. untried (subst (Tries files root name) (sym same) t))) resolves
