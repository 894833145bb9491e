-- Steps of the walk, one behind the other.
use Rattle.std.specs.Prelude.{OnOk, IfErr}
use Rattle.std.proofs.Common.{◌≡◌, ◌⊎◌, ◌≤◌, ◌<◌, ℕ, ◌+◌, ◌-◌, false, List, [], ◌∷◌, ◌++◌, length, reverse, All, inl, inr, refl, sym, ap, subst, ◌∙◌, arith, append_assoc, append-nil, length-append, Some, None, Ok, Err}
use Rattle.std.specs.Borrow.{Bor}
use Rattle.std.specs.declared.option.Option.{Option}
use Rattle.std.specs.declared.result.Result.{Result}
use Rattle.std.proofs.lemmas.List.{reverse-append}
use Rattle.tptp_base.specs.declared.item.Annotated.{Annotated}
use Rattle.tptp_base.specs.declared.item.Include.{Include as Inclusion}
use Rattle.tptp_base.specs.declared.item.Item.{Item}
use Rattle.tptp_base.specs.declared.item.Item.TheVariants as it
use Rattle.tptp_base.specs.declared.name.Name.{Name}
use Rattle.tptp_base.specs.Store.{Files, IsMissing}
use Rattle.include_resolve.specs.declared.fault.IncludeFault.{IncludeFault}
use Rattle.include_resolve.specs.declared.fault.IncludeFault.TheVariants as fault
use Rattle.include_resolve.specs.declared.opened.Opened.{Opened}
use Rattle.include_resolve.specs.declared.path.Path.{Path, Inside}
use Rattle.include_resolve.specs.declared.problem.Problem.{Problem}
use Rattle.include_resolve.specs.declared.problem.TheConstants.{MAX_DEPTH, TOTAL_SIZE}
use Rattle.include_resolve.specs.declared.reading.Read.{Read}
use Rattle.include_resolve.specs.declared.reading.Read.TheVariants.{Whole, Over}
use Rattle.include_resolve.specs.Names.{Text, tried_names, is_on}
use Rattle.include_resolve.specs.code.Opening.{Joins, TakesText}
use Rattle.include_resolve.specs.Parts.{Answer, nothing, joined, before, file_alone, item_alone}
use Rattle.include_resolve.specs.code.Path.{path_names}
use Rattle.include_resolve.proofs.PathFacts.{path_names-Inside}
use Rattle.include_resolve.specs.code.Reading.{IsReadOf}
use Rattle.include_resolve.specs.Resolved.{Walk, start, beyond, inside, IsFirstFile, IsRead, Opens, missing, cycle, too_deep, opened, Reads, over, faulty, spelled, Replaces, done, stopped, went_on, TakesItem, comment, formula, replaced, Answers}
use Rattle.include_resolve.specs.code.Selecting.{Selects}
use Rattle.include_resolve.specs.Selection.{selected}
use Rattle.include_resolve.specs.code.Steps.{walk_of, IsRefusal, Opening, Fails, Gives, Adds}
use Rattle.include_resolve.proofs.Joins.{part_of, same_walk, same_part, beyond_joined, beyond_nothing, before_joined, before_end, nothing_before}

-- ---- faults

pub fails_of : (P : Answer → Type 0) (c : IncludeFault) → P (Err c) → Fails P c
fails_of P (fault.Missing name) h = h
fails_of P (fault.Cycle name) h = h
fails_of P (fault.DeepInclude name) h = h
fails_of P (fault.UnknownSelection file name) h = h
fails_of P (fault.Text name t) h = h
fails_of P (fault.Limit name limit) h = h
fails_of P fault.Store h = tt
fails_of P fault.Memory h = tt

pub fails_map : (P Q : Answer → Type 0) → ((c : IncludeFault) → P (Err c) → Q (Err c)) → (c : IncludeFault) → Fails P c → Fails Q c
fails_map P Q f (fault.Missing name) h = f (fault.Missing name) h
fails_map P Q f (fault.Cycle name) h = f (fault.Cycle name) h
fails_map P Q f (fault.DeepInclude name) h = f (fault.DeepInclude name) h
fails_map P Q f (fault.UnknownSelection file name) h = f (fault.UnknownSelection file name) h
fails_map P Q f (fault.Text name t) h = f (fault.Text name t) h
fails_map P Q f (fault.Limit name limit) h = f (fault.Limit name limit) h
fails_map P Q f fault.Store h = tt
fails_map P Q f fault.Memory h = tt

-- want of memory is always allowed
pub fails_memory : (P : Answer → Type 0) (c : IncludeFault) → c ≡ fault.Memory → Fails P c
fails_memory P c e = subst (Fails P) (sym e) tt

pub gives_map : (P Q : Answer → Type 0) (old new : Opened) → ((a : Answer) → P a → Q a) → (result : Result (List Item) IncludeFault) → Gives P old new result → Gives Q old new result
gives_map P Q old new f (Ok items) (part, is, opening, h) = (part, is, opening, f (Ok part) h)
gives_map P Q old new f (Err cause) h = fails_map P Q (λ c. f (Err c)) cause h

selected_fault : (file : Text) (selection : Option (List Name)) (c : IncludeFault) → selected file selection (Err c) ≡ Err c
selected_fault file None c = refl
selected_fault file (Some names) c = refl

-- ---- where the walk stands

pub walk_beyond : (path : List Text) (old new : Opened) (part : Problem) → Opening old new part → walk_of path new ≡ beyond (walk_of path old) part
walk_beyond path old new part o =
    same_walk path (length new.names) (length old.names + length part.files) new.read (old.read + part.read) (ap length o.names ∙ length-append old.names part.files) o.read

pub walk_inside : (path : List Text) (old new : Opened) (name text : Text) (items : List Item) → Joins old new name text items → walk_of (name ∷ path) new ≡ inside (walk_of path old) name (length text)
walk_inside path old new name text items j =
    same_walk (name ∷ path) (length new.names) (length old.names + 1) new.read (old.read + length text) (ap length j.names ∙ length-append old.names (name ∷ [])) j.read

nothing_opened : (old : Opened) (item : Item) → Opening old old (item_alone item)
nothing_opened old item = record { names = sym (append-nil old.names); read = omega arith }

then_opening : (old mid new : Opened) (a b : Problem) → Opening old mid a → Opening mid new b → Opening old new (joined a b)
then_opening old mid new a b o p = record {
  names = p.names ∙ ap (λ l. l ++ b.files) o.names ∙ append_assoc old.names a.files b.files;
  read = omega (arith, o.read, p.read);
}

module _ (told : Option Files) (root : Option Text) where
  -- ---- one item

  pub takes_comment : {T : Type 0} (value : T) (path : List Text) (from text : Text) (old : Opened) (kept more : List Item) → more ≡ kept ++ it.Comment text ∷ []
      → Adds {T = T} (TakesItem told root (walk_of path old) from (it.Comment text)) old old kept more (Ok value)
  takes_comment value path from text old kept more e = (item_alone (it.Comment text), e, nothing_opened old (it.Comment text), comment)

  pub takes_formula : {T : Type 0} (value : T) (path : List Text) (from : Text) (annotated : Annotated) (old : Opened) (kept more : List Item) → more ≡ kept ++ it.Formula annotated ∷ []
      → Adds {T = T} (TakesItem told root (walk_of path old) from (it.Formula annotated)) old old kept more (Ok value)
  takes_formula value path from annotated old kept more e = (item_alone (it.Formula annotated), e, nothing_opened old (it.Formula annotated), formula)

  -- ---- the items of a file

  pub record Progress (path : List Text) (from : Text) (items : List Item) (old now : Opened) (left kept : List Item) : Type 0 where
    pub part : Problem
    pub kept_is : part.items ≡ kept
    pub opening : Opening old now part
    pub rest : (answer : Answer) → Replaces told root (beyond (walk_of path old) part) from (reverse left) answer → Replaces told root (walk_of path old) from items (before part answer)

  module _ (path : List Text) (from : Text) (items : List Item) (old : Opened) where
    pub progress_start : (left : List Item) → reverse left ≡ items → Progress path from items old old left []
    progress_start left e = record {
      part = nothing;
      kept_is = refl;
      opening = record { names = sym (append-nil old.names); read = omega arith };
      rest = λ answer h. subst (Replaces told root (walk_of path old) from items) (sym (nothing_before answer)) (subst (λ (l : List Item). Replaces told root (walk_of path old) from l answer) e (subst (λ (w : Walk). Replaces told root w from (reverse left) answer) (beyond_nothing (walk_of path old)) h));
    }

    module _ (now : Opened) (left rest kept : List Item) (item : Item) (p : Progress path from items old now left kept) (is : left ≡ rest ++ item ∷ []) where
      next_is : reverse left ≡ item ∷ reverse rest
      next_is = ap reverse is ∙ reverse-append rest (item ∷ [])

      takes_here : (answer : Answer) → TakesItem told root (walk_of path now) from item answer → TakesItem told root (beyond (walk_of path old) p.part) from item answer
      takes_here answer h = subst (λ (w : Walk). TakesItem told root w from item answer) (walk_beyond path old now p.part p.opening) h

      pub progress_on : (new : Opened) (more : List Item) → Adds {T = Unit {0}} (TakesItem told root (walk_of path now) from item) now new kept more (Ok tt) → Progress path from items old new rest more
      progress_on new more (part, added, opening, takes) = record {
        part = joined p.part part;
        kept_is = ap (λ l. l ++ part.items) p.kept_is ∙ sym added;
        opening = then_opening old now new p.part part p.opening opening;
        rest = λ answer h.
            let h' = subst (λ (w : Walk). Replaces told root w from (reverse rest) answer) (beyond_joined (walk_of path old) p.part part) h in
            let all : Replaces told root (beyond (walk_of path old) p.part) from (item ∷ reverse rest) (before part answer) = went_on (takes_here (Ok part) takes) h' in
            subst (Replaces told root (walk_of path old) from items) (sym (before_joined p.part part answer)) (p.rest (before part answer) (subst (λ (l : List Item). Replaces told root (beyond (walk_of path old) p.part) from l (before part answer)) (sym next_is) all));
      }

      pub progress_stops : (new : Opened) (more : List Item) (cause : IncludeFault) → Adds {T = Unit {0}} (TakesItem told root (walk_of path now) from item) now new kept more (Err cause)
          → Fails (Replaces told root (walk_of path old) from items) cause
      progress_stops new more cause h =
          fails_map (TakesItem told root (walk_of path now) from item) (Replaces told root (walk_of path old) from items)
          (λ c t. p.rest (Err c) (subst (λ (l : List Item). Replaces told root (beyond (walk_of path old) p.part) from l (Err c)) (sym next_is) (stopped (takes_here (Err c) t)))) cause h

    pub progress_ends : (now : Opened) (left kept : List Item) → Progress path from items old now left kept → left ≡ [] → Gives (Replaces told root (walk_of path old) from items) old now (Ok kept)
    progress_ends now left kept p e =
        (p.part, p.kept_is, p.opening, subst (Replaces told root (walk_of path old) from items) (before_end p.part) (p.rest (Ok nothing) (subst (λ (l : List Item). Replaces told root (beyond (walk_of path old) p.part) from l (Ok nothing)) (sym (ap reverse e)) done)))

  -- ---- a file

  module _ (path : List Text) (old : Opened) (names : List Text) (written : Text) (selection : Option (List Name)) where
    abbrev OpensHere : Answer → Type 0
    OpensHere answer = Opens told root (walk_of path old) names written selection answer

    pub nowhere : (cause : IncludeFault) → All (IsMissing told) names → (cause ≡ fault.Missing written) ⊎ (cause ≡ fault.Memory) → Fails OpensHere cause
    nowhere cause h (inl e) = subst (Fails OpensHere) (sym e) (missing h)
    nowhere cause h (inr e) = fails_memory OpensHere cause e

    module _ (name : Text) (found : IsFirstFile told names name) where
      pub refuses : (cause : IncludeFault) → IsRefusal path name cause → Fails OpensHere cause
      refuses cause (inl h) = subst (Fails OpensHere) (sym h.0) (cycle found h.1)
      refuses cause (inr (inl h)) = subst (Fails OpensHere) (sym h.0) (too_deep found h.1 h.2)
      refuses cause (inr (inr e)) = fails_memory OpensHere cause e

      module _ (off : is_on path name ≡ false) (room : length path ≤ MAX_DEPTH) where
        opens_fault : (c : IncludeFault) → Reads told root (walk_of path old) name (Err c) → OpensHere (Err c)
        opens_fault c h = subst OpensHere (selected_fault name selection c) (opened found off room h)

        read_within : (text : Text) → IsReadOf told name (TOTAL_SIZE - old.read) (Whole text) → old.read ≤ TOTAL_SIZE → IsRead told (walk_of path old) name text
        read_within text h le = record { whole = h.0; in_limit = h.1; in_budget = omega (arith, h.2, le) }

        pub text_fault : (read : Read) (new : Opened) (cause : IncludeFault) → IsReadOf told name (TOTAL_SIZE - old.read) read → old.read ≤ TOTAL_SIZE → TakesText old new name read (Err cause) → Fails OpensHere cause
        text_fault (Whole text) new cause h le (inl (t, e, is)) = subst (Fails OpensHere) (sym e) (opens_fault (fault.Text name t) (faulty (read_within text h le) is))
        text_fault (Whole text) new cause h le (inr e) = fails_memory OpensHere cause e
        text_fault (Over limit) new cause h le (inl e) = subst (Fails OpensHere) (sym e) (opens_fault (fault.Limit name limit) (over h))
        text_fault (Over limit) new cause h le (inr e) = fails_memory OpensHere cause e

        module _ (text : Text) (mid : Opened) (items : List Item) (h : IsReadOf told name (TOTAL_SIZE - old.read) (Whole text)) (le : old.read ≤ TOTAL_SIZE) (j : Joins old mid name text items) where
          reads_all : (answer : Answer) → Replaces told root (walk_of (name ∷ path) mid) name items answer → Reads told root (walk_of path old) name (before (file_alone name (length text)) answer)
          reads_all answer r = spelled (read_within text h le) j.spelled (subst (λ (w : Walk). Replaces told root w name items answer) (walk_inside path old mid name text items j) r)

          items_fault : (cause : IncludeFault) → Fails (Replaces told root (walk_of (name ∷ path) mid) name items) cause → Fails OpensHere cause
          items_fault cause f = fails_map (Replaces told root (walk_of (name ∷ path) mid) name items) OpensHere (λ c r. opens_fault c (reads_all (Err c) r)) cause f

          module _ (new : Opened) (inner : List Item) (part : Problem) (is : part.items ≡ inner) (o : Opening mid new part) (r : Replaces told root (walk_of (name ∷ path) mid) name items (Ok part)) where
            opens_selected : OpensHere (selected name selection (Ok (part_of (name ∷ part.files) inner (length text + part.read))))
            opens_selected = subst (λ (l : List Item). OpensHere (selected name selection (Ok (part_of (name ∷ part.files) l (length text + part.read))))) is (opened found off room (reads_all (Ok part) r))

            opening_all : (kept : List Item) → Opening old new (part_of (name ∷ part.files) kept (length text + part.read))
            opening_all kept = record {
              names = o.names ∙ ap (λ l. l ++ part.files) j.names ∙ append_assoc old.names (name ∷ []) part.files;
              read = omega (arith, o.read, j.read);
            }

            gives_selected : (result : Result (List Item) IncludeFault) → Selects name selection inner result → Gives OpensHere old new result
            gives_selected (Ok kept) s = (part_of (name ∷ part.files) kept (length text + part.read), refl, opening_all kept, subst OpensHere (s (name ∷ part.files) (length text + part.read)) opens_selected)
            gives_selected (Err cause) (inl e) = fails_memory OpensHere cause e
            gives_selected (Err cause) (inr s) = fails_of OpensHere cause (subst OpensHere (s (name ∷ part.files) (length text + part.read)) opens_selected)

        -- the items of the file are replaced and selected from
        pub file_given : (read : Read) (mid new : Opened) (items inner : List Item) (result : Result (List Item) IncludeFault) → IsReadOf told name (TOTAL_SIZE - old.read) read → old.read ≤ TOTAL_SIZE
            → TakesText old mid name read (Ok items) → Gives (Replaces told root (walk_of (name ∷ path) mid) name items) mid new (Ok inner) → Selects name selection inner result → Gives OpensHere old new result
        file_given (Whole text) mid new items inner result h le j (part, is, o, r) s = gives_selected text mid items h le j new inner part is o r result s
        file_given (Over limit) mid new items inner result h le j g s = absurd j

        -- an item of the file has a fault
        pub file_fails : (read : Read) (mid new : Opened) (items : List Item) (cause : IncludeFault) → IsReadOf told name (TOTAL_SIZE - old.read) read → old.read ≤ TOTAL_SIZE
            → TakesText old mid name read (Ok items) → Gives (Replaces told root (walk_of (name ∷ path) mid) name items) mid new (Err cause) → Fails OpensHere cause
        file_fails (Whole text) mid new items cause h le j f = items_fault text mid items h le j cause f
        file_fails (Over limit) mid new items cause h le j f = absurd j

  -- ---- includes

  pub include_given : (path : List Text) (from : Text) (include : Inclusion) (names : List Text) (old new : Opened) (result : Result (List Item) IncludeFault) → names ≡ tried_names from root include.file
      → Gives (Opens told root (walk_of path old) names include.file include.names) old new result → Gives (TakesItem told root (walk_of path old) from (it.Include include)) old new result
  include_given path from include names old new result e h =
      gives_map (Opens told root (walk_of path old) names include.file include.names) (TakesItem told root (walk_of path old) from (it.Include include)) old new
      (λ a o. replaced (subst (λ (l : List Text). Opens told root (walk_of path old) l include.file include.names a) e o)) result h

  pub adds_given : {T : Type 0} (value : T) (P : Answer → Type 0) (old new : Opened) (kept more items : List Item) → more ≡ kept ++ items → Gives P old new (Ok items) → Adds {T = T} P old new kept more (Ok value)
  adds_given value P old new kept more items e (part, is, opening, h) = (part, e ∙ ap (λ l. kept ++ l) (sym is), opening, h)

  -- ---- the whole

  pub answers_of : (name : Text) (old new : Opened) (items : List Item) → old.names ≡ [] → old.read ≡ 0 → Gives (Opens told root (walk_of [] old) (name ∷ []) name None) old new (Ok items)
      → Answers told root name (Ok (part_of new.names items new.read))
  answers_of name old new items e f (part, is, opening, h) =
      let same : part ≡ part_of new.names items new.read = same_part part.files new.names part.items items part.read new.read (sym (opening.names ∙ ap (λ l. l ++ part.files) e)) is (omega (arith, opening.read, f)) in
      let here_is : walk_of [] old ≡ start = same_walk [] (length old.names) 0 old.read 0 (ap length e) f in
      subst (λ (p : Problem). Opens told root start (name ∷ []) name None (Ok p)) same (subst (λ (w : Walk). Opens told root w (name ∷ []) name None (Ok part)) here_is h)

  pub fault_answers : (name : Text) (old : Opened) (cause : IncludeFault) → old.names ≡ [] → old.read ≡ 0 → Fails (Opens told root (walk_of [] old) (name ∷ []) name None) cause → Answers told root name (Err cause)
  fault_answers name old cause e f h =
      let here_is : walk_of [] old ≡ start = same_walk [] (length old.names) 0 old.read 0 (ap length e) f in
      by_case cause (subst (λ (w : Walk). Fails (Opens told root w (name ∷ []) name None) cause) here_is h)
    where
      by_case : (c : IncludeFault) → Fails (Opens told root start (name ∷ []) name None) c → Answers told root name (Err c)
      by_case (fault.Missing n) k = k
      by_case (fault.Cycle n) k = k
      by_case (fault.DeepInclude n) k = k
      by_case (fault.UnknownSelection file n) k = k
      by_case (fault.Text n t) k = k
      by_case (fault.Limit n limit) k = k
      by_case fault.Store k = tt
      by_case fault.Memory k = tt

-- ---- one item more, by a call

module _ (told : Option Files) (root : Option Text) where
  pub item_added : {T : Type 0} (path : List Text) (from : Text) (item : Item) (old : Opened) (kept more : List Item) (result : Result T IncludeFault) → TakesItem told root (walk_of path old) from item (Ok (item_alone item))
      → OnOk result (more ≡ kept ++ item ∷ []) → IfErr result (λ cause. cause ≡ fault.Memory) → Adds (TakesItem told root (walk_of path old) from item) old old kept more result
  item_added path from item old kept more (Ok value) t e m = (item_alone item, e, nothing_opened old item, t)
  item_added path from item old kept more (Err cause) t e m = fails_memory (TakesItem told root (walk_of path old) from item) cause m

-- inside one file more there is room for one file less
pub room_inside : (name : Bor Text) (others : Bor Path) (room : ℕ) → length (path_names others.now) + room ≡ MAX_DEPTH + 1 → 0 < room → length (path_names (Inside name others)) + (room - 1) ≡ MAX_DEPTH + 1
room_inside name others room h some = rw path_names-Inside (omega (arith, h, some))
