-- The walk through files that are told has one answer.
use Rattle.std.specs.Prelude.{⊤, IsSomeAnd, IsNone}
use Rattle.std.proofs.Common.{◌≡◌, ◌≤◌, ◌<◌, refl, sym, ◌∙◌, ap, subst, arith, ℕ, ◌+◌, ◌-◌, true, false, List, [], ◌∷◌, length, All, Option, None, Some, Ok, Err}
use Rattle.std.proofs.lemmas.List.Elements.{All-head, All-tail}
use Rattle.tptp_base.specs.declared.item.Annotated.{Annotated}
use Rattle.tptp_base.specs.declared.item.Include.{Include as Inclusion}
use Rattle.tptp_base.specs.declared.item.Item.{Item}
use Rattle.tptp_base.specs.declared.item.Item.TheVariants.{Comment, Formula, Include}
use Rattle.tptp_base.specs.declared.limit.LimitName.{LimitName}
use Rattle.tptp_base.specs.declared.limit.LimitName.TheVariants.{FileSize, TotalSize}
use Rattle.tptp_base.specs.declared.name.Name.{Name}
use Rattle.tptp_base.specs.declared.read.TheConstants.{FILE_SIZE}
use Rattle.tptp_base.specs.Read.{IsOver}
use Rattle.tptp_base.specs.Store.{Files, HasFile, IsMissing, file_at}
use Rattle.include_resolve.specs.declared.fault.IncludeFault.{IncludeFault}
use Rattle.include_resolve.specs.declared.fault.IncludeFault.TheVariants as fault
use Rattle.include_resolve.specs.declared.fault.TextFault.{TextFault}
use Rattle.include_resolve.specs.declared.problem.Problem.{Problem}
use Rattle.include_resolve.specs.declared.problem.TheConstants.{MAX_DEPTH, TOTAL_SIZE}
use Rattle.include_resolve.specs.Names.{Text, tried_names, is_on}
use Rattle.include_resolve.specs.Parts.{Answer, file_alone, item_alone, nothing, before}
use Rattle.include_resolve.specs.Resolved as walk
use Rattle.include_resolve.specs.Resolved.{Walk, IsFirstFile, first, later, IsRead, Opens, Reads, Replaces, TakesItem, inside, beyond}
use Rattle.include_resolve.specs.Selection.{selected}
use Rattle.include_resolve.specs.Texts.{IsSpelled, IsFaulty}
use Rattle.include_resolve.proofs.OneText.{one_spelled, not_spelled, one_fault}

-- ---- files

-- there is a file or there is none
not_both : (o : Option Text) (P : Text → Type 0) → IsSomeAnd o P → IsNone o → ⊥
not_both None P h k = h
not_both (Some x) P h k = let wrong : true ≡ false = k in cc

one_file : (o : Option Text) (a b : Text) → IsSomeAnd o (λ file. file ≡ a) → IsSomeAnd o (λ file. file ≡ b) → a ≡ b
one_file None a b h k = absurd h
one_file (Some x) a b h k = sym h ∙ k

one_limit : (limit other : LimitName) (budget count : ℕ) → IsOver limit budget count → IsOver other budget count → limit ≡ other
one_limit FileSize FileSize budget count h k = refl
one_limit FileSize TotalSize budget count h k = absurd (omega (arith, h, k.0))
one_limit TotalSize FileSize budget count h k = absurd (omega (arith, h.0, k))
one_limit TotalSize TotalSize budget count h k = refl
one_limit FileSize other budget count h k = absurd k
one_limit TotalSize other budget count h k = absurd k
one_limit limit other budget count h k = absurd h

one_over : (o : Option Text) (limit other : LimitName) (budget : ℕ) → IsSomeAnd o (λ file. IsOver limit budget (length file)) → IsSomeAnd o (λ file. IsOver other budget (length file)) → limit ≡ other
one_over None limit other budget h k = absurd h
one_over (Some x) limit other budget h k = one_limit limit other budget (length x) h k

fits_no : (limit : LimitName) (read count : ℕ) → count ≤ FILE_SIZE → read + count ≤ TOTAL_SIZE → IsOver limit (TOTAL_SIZE - read) count → ⊥
fits_no FileSize read count le fits h = omega (arith, le, h)
fits_no TotalSize read count le fits h = omega (arith, fits, h.1)
fits_no other read count le fits h = h

not_over : (o : Option Text) (limit : LimitName) (read : ℕ) (bytes : Text) → IsSomeAnd o (λ file. file ≡ bytes) → length bytes ≤ FILE_SIZE → read + length bytes ≤ TOTAL_SIZE → IsSomeAnd o (λ file. IsOver limit (TOTAL_SIZE - read) (length file)) → ⊥
not_over None limit read bytes h le fits k = h
not_over (Some x) limit read bytes h le fits k = fits_no limit read (length bytes) le fits (subst (λ (l : Text). IsOver limit (TOTAL_SIZE - read) (length l)) h k)

abbrev refused : IncludeFault → Answer
refused cause = Err cause

abbrev given : Problem → Answer
given part = Ok part

not_given : {R : Type 0} (cause : IncludeFault) (part : Problem) → refused cause ≡ given part → R
not_given cause part e = absurd cc

same_given : (part other : Problem) → given part ≡ given other → part ≡ other
same_given part other e = cc

module _ (files : Files) where
  abbrev told : Option Files
  told = Some files

  one_name : {names : List Text} {name other : Text} → IsFirstFile told names name → IsFirstFile told names other → name ≡ other
  one_name (first h) (first k) = refl
  one_name (first {name = name} h) (later k more) = absurd (not_both (file_at files name) (λ file. ⊤) h k)
  one_name (later {other = other} h more) (first k) = absurd (not_both (file_at files other) (λ file. ⊤) k h)
  one_name (later h more) (later k others) = one_name more others

  not_first : {names : List Text} {name : Text} → IsFirstFile told names name → All (IsMissing told) names → ⊥
  not_first (first {name = name} {names = names} h) all = not_both (file_at files name) (λ file. ⊤) h (All-head (IsMissing told) name names all)
  not_first (later {other = other} {names = names} h more) all = not_first more (All-tail (IsMissing told) other names all)

  -- ---- one step of the walk, whatever its parts give

  module _ (root : Option Text) where
    on_not_off : (path : List Text) (name other : Text) → name ≡ other → is_on path name ≡ true → is_on path other ≡ false → ⊥
    on_not_off path name other e h k = let same : is_on path name ≡ is_on path other = ap (is_on path) e in let wrong : true ≡ false = sym h ∙ same ∙ k in cc

    module _ {w : Walk} {names : List Text} {written : Text} {selection : Option (List Name)} where
      missing_so : All (IsMissing told) names → {b : Answer} → Opens told root w names written selection b → refused (fault.Missing written) ≡ b
      missing_so all (walk.missing also) = refl
      missing_so all (walk.cycle found on) = absurd (not_first found all)
      missing_so all (walk.too_deep found off deep) = absurd (not_first found all)
      missing_so all (walk.opened found off room reads) = absurd (not_first found all)

      module _ {name : Text} (found : IsFirstFile told names name) where
        cycle_so : is_on w.path name ≡ true → {b : Answer} → Opens told root w names written selection b → refused (fault.Cycle name) ≡ b
        cycle_so on (walk.missing all) = absurd (not_first found all)
        cycle_so on (walk.cycle also so) = ap (λ (n : Text). refused (fault.Cycle n)) (one_name found also)
        cycle_so on (walk.too_deep {name = other} also off deep) = absurd (on_not_off w.path name other (one_name found also) on off)
        cycle_so on (walk.opened {name = other} also off room reads) = absurd (on_not_off w.path name other (one_name found also) on off)

        deep_so : is_on w.path name ≡ false → MAX_DEPTH < length w.path → {b : Answer} → Opens told root w names written selection b → refused (fault.DeepInclude name) ≡ b
        deep_so off deep (walk.missing all) = absurd (not_first found all)
        deep_so off deep (walk.cycle {name = other} also on) = absurd (on_not_off w.path other name (sym (one_name found also)) on off)
        deep_so off deep (walk.too_deep also so too) = ap (λ (n : Text). refused (fault.DeepInclude n)) (one_name found also)
        deep_so off deep (walk.opened also so room reads) = absurd (omega (arith, deep, room))

        opened_so : is_on w.path name ≡ false → length w.path ≤ MAX_DEPTH → (a : Answer) → ((c : Answer) → Reads told root w name c → a ≡ c) → {b : Answer} → Opens told root w names written selection b → selected name selection a ≡ b
        opened_so off room a again (walk.missing all) = absurd (not_first found all)
        opened_so off room a again (walk.cycle {name = other} also on) = absurd (on_not_off w.path other name (sym (one_name found also)) on off)
        opened_so off room a again (walk.too_deep also so deep) = absurd (omega (arith, deep, room))
        opened_so off room a again (walk.opened {name = other} {answer = c} also so fits reads) =
            let same : other ≡ name = sym (one_name found also) in
            ap (selected name selection) (again c (subst (λ (n : Text). Reads told root w n c) same reads)) ∙ ap (λ (n : Text). selected n selection c) (sym same)

    module _ {w : Walk} {name : Text} where
      over_so : (limit : LimitName) → HasFile told name (λ file. IsOver limit (TOTAL_SIZE - w.read) (length file)) → {b : Answer} → Reads told root w name b → refused (fault.Limit name limit) ≡ b
      over_so limit h (walk.over {limit = other} k) = ap (λ (l : LimitName). refused (fault.Limit name l)) (one_over (file_at files name) limit other (TOTAL_SIZE - w.read) h k)
      over_so limit h (walk.faulty {bytes = bytes} read faulty) = absurd (not_over (file_at files name) limit w.read bytes read.whole read.in_limit read.in_budget h)
      over_so limit h (walk.spelled {bytes = bytes} read spelled more) = absurd (not_over (file_at files name) limit w.read bytes read.whole read.in_limit read.in_budget h)

      module _ (bytes : Text) (read : IsRead told w name bytes) where
        same_bytes : (other : Text) → IsRead told w name other → other ≡ bytes
        same_bytes other also = one_file (file_at files name) other bytes also.whole read.whole

        faulty_so : (f : TextFault) → IsFaulty w.opened bytes f → {b : Answer} → Reads told root w name b → refused (fault.Text name f) ≡ b
        faulty_so f h (walk.over {limit = limit} k) = absurd (not_over (file_at files name) limit w.read bytes read.whole read.in_limit read.in_budget k)
        faulty_so f h (walk.faulty {bytes = other} {text_fault = g} also k) =
            ap (λ (g : TextFault). refused (fault.Text name g)) (one_fault w.opened bytes f g h (subst (λ (l : Text). IsFaulty w.opened l g) (same_bytes other also) k))
        faulty_so f h (walk.spelled {bytes = other} {items = items} also k more) = absurd (not_spelled w.opened bytes items f (subst (λ (l : Text). IsSpelled w.opened l items) (same_bytes other also) k) h)

        spelled_so : (items : List Item) → IsSpelled w.opened bytes items → (a : Answer) → ((c : Answer) → Replaces told root (inside w name (length bytes)) name items c → a ≡ c)
            → {b : Answer} → Reads told root w name b → before (file_alone name (length bytes)) a ≡ b
        spelled_so items h a again (walk.over {limit = limit} k) = absurd (not_over (file_at files name) limit w.read bytes read.whole read.in_limit read.in_budget k)
        spelled_so items h a again (walk.faulty {bytes = other} {text_fault = f} also k) = absurd (not_spelled w.opened bytes items f h (subst (λ (l : Text). IsFaulty w.opened l f) (same_bytes other also) k))
        spelled_so items h a again (walk.spelled {bytes = other} {items = others} {answer = c} also k more) =
            let same = same_bytes other also in
            let lists : others ≡ items = one_spelled w.opened bytes others items (subst (λ (l : Text). IsSpelled w.opened l others) same k) h in
            let here : Replaces told root (inside w name (length bytes)) name others c = subst (λ (l : Text). Replaces told root (inside w name (length l)) name others c) same more in
            ap (before (file_alone name (length bytes))) (again c (subst (λ (is : List Item). Replaces told root (inside w name (length bytes)) name is c) lists here))
            ∙ ap (λ (l : Text). before (file_alone name (length l)) c) (sym same)

    module _ {w : Walk} {from : Text} where
      done_so : {b : Answer} → Replaces told root w from [] b → given nothing ≡ b
      done_so walk.done = refl

      module _ {item : Item} {items : List Item} where
        stopped_so : (cause : IncludeFault) → ((c : Answer) → TakesItem told root w from item c → refused cause ≡ c) → {b : Answer} → Replaces told root w from (item ∷ items) b → refused cause ≡ b
        stopped_so cause takes (walk.stopped {cause = other} also) = takes (Err other) also
        stopped_so cause takes (walk.went_on {part = part} also more) = not_given cause part (takes (Ok part) also)

        went_so : (part : Problem) → ((c : Answer) → TakesItem told root w from item c → given part ≡ c) → (a : Answer) → ((c : Answer) → Replaces told root (beyond w part) from items c → a ≡ c)
            → {b : Answer} → Replaces told root w from (item ∷ items) b → before part a ≡ b
        went_so part takes a again (walk.stopped {cause = cause} also) = not_given cause part (sym (takes (Err cause) also))
        went_so part takes a again (walk.went_on {part = other} {answer = c} also more) =
            let same : other ≡ part = same_given other part (sym (takes (Ok other) also)) in
            ap (before part) (again c (subst (λ (p : Problem). Replaces told root (beyond w p) from items c) same more)) ∙ ap (λ (p : Problem). before p c) (sym same)

      comment_so : {text : Text} {b : Answer} → TakesItem told root w from (Comment text) b → given (item_alone (Comment text)) ≡ b
      comment_so walk.comment = refl

      formula_so : {annotated : Annotated} {b : Answer} → TakesItem told root w from (Formula annotated) b → given (item_alone (Formula annotated)) ≡ b
      formula_so walk.formula = refl

      replaced_so : {inclusion : Inclusion} (a : Answer) → ((c : Answer) → Opens told root w (tried_names from root inclusion.file) inclusion.file inclusion.names c → a ≡ c) → {b : Answer} → TakesItem told root w from (Include inclusion) b → a ≡ b
      replaced_so a again (walk.replaced {answer = c} opens) = again c opens

    -- ---- the walk

    mutual
      pub one_opens : {w : Walk} {names : List Text} {written : Text} {selection : Option (List Name)} {a : Answer} → Opens told root w names written selection a → (b : Answer) → Opens told root w names written selection b → a ≡ b
      one_opens (walk.missing all) b other = missing_so all other
      one_opens (walk.cycle found on) b other = cycle_so found on other
      one_opens (walk.too_deep found off deep) b other = deep_so found off deep other
      one_opens (walk.opened {answer = a} found off room reads) b other = opened_so found off room a (λ c more. one_reads reads c more) other

      one_reads : {w : Walk} {name : Text} {a : Answer} → Reads told root w name a → (b : Answer) → Reads told root w name b → a ≡ b
      one_reads (walk.over {limit = limit} h) b other = over_so limit h other
      one_reads (walk.faulty {bytes = bytes} {text_fault = f} read faulty) b other = faulty_so bytes read f faulty other
      one_reads (walk.spelled {bytes = bytes} {items = items} {answer = a} read spelled replaces) b other = spelled_so bytes read items spelled a (λ c more. one_replaces replaces c more) other

      one_replaces : {w : Walk} {from : Text} {items : List Item} {a : Answer} → Replaces told root w from items a → (b : Answer) → Replaces told root w from items b → a ≡ b
      one_replaces walk.done b other = done_so other
      one_replaces (walk.stopped {cause = cause} takes) b other = stopped_so cause (λ c more. one_takes takes c more) other
      one_replaces (walk.went_on {part = part} {answer = a} takes replaces) b other = went_so part (λ c more. one_takes takes c more) a (λ c more. one_replaces replaces c more) other

      one_takes : {w : Walk} {from : Text} {item : Item} {a : Answer} → TakesItem told root w from item a → (b : Answer) → TakesItem told root w from item b → a ≡ b
      one_takes walk.comment b other = comment_so other
      one_takes walk.formula b other = formula_so other
      one_takes (walk.replaced {answer = a} opens) b other = replaced_so a (λ c more. one_opens opens c more) other

-- a problem that files have gives one answer
pub one : (files : Files) (root : Option Text) (name : Text) (answer other : Answer) → walk.Resolves (Some files) root name answer → walk.Resolves (Some files) root name other → answer ≡ other
one files root name answer other h k = one_opens files root h other k
