use Rattle.std.proofs.Common.{◌≤◌, List, [], ◌∷◌, length, length-append, reverse, refl, ap, ◌∙◌, arith, rules, Result}
use Rattle.std.specs.Prelude.{string_bytes}
use Rattle.std.proofs.lemmas.List.{length-reverse, reverse-reverse}
use Rattle.std.specs.Option.{option_copied}
use Rattle.tptp_base.specs.declared.item.Item.{Item}
use Rattle.tptp_base.specs.declared.item.Item.TheVariants.{Comment, Formula}
use Rattle.include_resolve.specs.declared.fault.IncludeFault.{IncludeFault}
use Rattle.include_resolve.specs.declared.problem.TheConstants.{MAX_DEPTH}
use Rattle.include_resolve.specs.code.Path.{path_names}
use Rattle.include_resolve.proofs.PathFacts.{path_names-Inside}
use Rattle.include_resolve.specs.Resolved.{Opens, Replaces, comment, formula}
use Rattle.include_resolve.specs.code.Steps.{list_of, walk_of, Gives}
use Rattle.include_resolve.proofs.Causing.{err_case, causes_of_selection}
use Rattle.include_resolve.proofs.FewFiles.{added_few, text_few}
use Rattle.include_resolve.proofs.Quotables.{text_quotable, reversed_quotable, rest_quotable}
use Rattle.include_resolve.proofs.Steps.{include_given, nowhere, refuses, text_fault, file_given, file_fails, progress_start, progress_on, progress_stops, progress_ends, item_added, room_inside}
use Rattle.include_resolve.proofs.resolving.+open.Goals as goal

pub included-returns-clause-gives : goal.included-returns-clause-gives
included-returns-clause-gives g t c =
    let told = g.S.Store.files c.args.store.now in
    let root = option_copied c.args.level.now.root in
    let path = path_names c.args.level.now.path.now in
    include_given told root path c.args.from.now c.args.include.now (list_of c.in_ok-names.names) c.args.opened.now c.open.new.opened c.open.result (rw c.written_name-written.ensures at c.in_ok-names.ensures.names)
    (rw c.written_name-written.ensures at c.open.ensures.gives)

pub open-returns-in-None-clause-gives : goal.open-returns-in-None-clause-gives
open-returns-in-None-clause-gives g t c =
    let told = g.S.Store.files c.args.store.now in
    let root = option_copied c.args.level.now.root in
    let path = path_names c.args.level.now.path.now in
    nowhere told root path c.args.opened.now (list_of c.args.names) c.args.wanted.now.written.now c.args.wanted.now.selection.now c.missing.result (rw c.in-None.is at c.in_ok-found.ensures.found) c.missing.ensures

pub open_found-returns-in_err-check_path-clause-gives : goal.open_found-returns-in_err-check_path-clause-gives
open_found-returns-in_err-check_path-clause-gives g t c =
    let told = g.S.Store.files c.args.store.now in
    let root = option_copied c.args.level.now.root in
    let path = path_names c.args.level.now.path.now in
    let name = string_bytes c.args.found.name in
    let written = c.args.wanted.now.written.now in
    let selection = c.args.wanted.now.selection.now in
    let old = c.args.opened.now in
    λ names found. err_case (λ (r : Result (List Item) IncludeFault). Gives (Opens told root (walk_of path old) names written selection) old old r) c.from_residual.result c.in_err-check_path.field-0.0 c.from_residual.ensures.1
    (refuses told root path old names written selection name found c.in_err-check_path.field-0.0 (rw c.as_str.ensures.value at c.in_err-check_path.ensures.err))

pub open_found-returns-in_err-items-clause-gives : goal.open_found-returns-in_err-items-clause-gives
open_found-returns-in_err-items-clause-gives g t c =
    let told = g.S.Store.files c.args.store.now in
    let root = option_copied c.args.level.now.root in
    let path = path_names c.args.level.now.path.now in
    let name = string_bytes c.args.found.name in
    let written = c.args.wanted.now.written.now in
    let selection = c.args.wanted.now.selection.now in
    let old = c.args.opened.now in
    let off = rw c.as_str.ensures.value at c.in_ok-check_path.ensures.other in
    let room : length path ≤ MAX_DEPTH = omega (arith, c.requires.room, c.in_ok-check_path.ensures.room) in
    λ names found. err_case (λ (r : Result (List Item) IncludeFault). Gives (Opens told root (walk_of path old) names written selection) old c.take_text.new.opened r) c.from_residual-in_err-items.result c.in_err-items.field-0.0 c.from_residual-in_err-items.ensures.1
    (text_fault told root path old names written selection name found off room c.args.found.read c.take_text.new.opened c.in_err-items.field-0.0 c.requires.read c.requires.budget (rw c.as_str-2.ensures.value at c.in_err-items.ensures.taken))

pub open_found-replace-requires : goal.open_found-replace-requires
open_found-replace-requires g t c κs within =
    let few = text_few c.args.opened.now c.take_text.new.opened _ c.args.found.read c.in_ok-items.items c.in_ok-items.ensures.taken c.requires.few_files in
    let names = text_quotable c.args.opened.now c.take_text.new.opened _ c.args.found.read c.in_ok-items.items c.in_ok-items.ensures.taken in
    (omega (arith, c.in_ok-check_path.ensures.room), (search rules, first_of (search (rules, room_inside, few, names), grind (arith, room_inside, few, names))))

pub open_found-returns-in_err-items-2-clause-gives : goal.open_found-returns-in_err-items-2-clause-gives
open_found-returns-in_err-items-2-clause-gives g t c =
    let told = g.S.Store.files c.args.store.now in
    let root = option_copied c.args.level.now.root in
    let path = path_names c.args.level.now.path.now in
    let name = string_bytes c.args.found.name in
    let written = c.args.wanted.now.written.now in
    let selection = c.args.wanted.now.selection.now in
    let old = c.args.opened.now in
    let off = rw c.as_str.ensures.value at c.in_ok-check_path.ensures.other in
    let room : length path ≤ MAX_DEPTH = omega (arith, c.requires.room, c.in_ok-check_path.ensures.room) in
    let given = rw (path_names-Inside, c.as_str-3.ensures.value, c.as_str-4.ensures.value) at c.in_err-items-2.ensures.gives in
    λ names found. err_case (λ (r : Result (List Item) IncludeFault). Gives (Opens told root (walk_of path old) names written selection) old c.replace.new.opened r) c.from_residual-in_err-items-2.result c.in_err-items-2.field-0.0 c.from_residual-in_err-items-2.ensures.1
    (file_fails told root path old names written selection name found off room c.args.found.read c.take_text.new.opened c.replace.new.opened c.in_ok-items.items c.in_err-items-2.field-0.0 c.requires.read c.requires.budget
    (rw c.as_str-2.ensures.value at c.in_ok-items.ensures.taken) given)

pub open_found-returns-clause-gives : goal.open_found-returns-clause-gives
open_found-returns-clause-gives g t c =
    let told = g.S.Store.files c.args.store.now in
    let root = option_copied c.args.level.now.root in
    let path = path_names c.args.level.now.path.now in
    let name = string_bytes c.args.found.name in
    let written = c.args.wanted.now.written.now in
    let selection = c.args.wanted.now.selection.now in
    let old = c.args.opened.now in
    let off = rw c.as_str.ensures.value at c.in_ok-check_path.ensures.other in
    let room : length path ≤ MAX_DEPTH = omega (arith, c.requires.room, c.in_ok-check_path.ensures.room) in
    let given = rw (path_names-Inside, c.as_str-3.ensures.value, c.as_str-4.ensures.value) at c.in_ok-items-2.ensures.gives in
    λ names found. file_given told root path old names written selection name found off room c.args.found.read c.take_text.new.opened c.replace.new.opened c.in_ok-items.items c.in_ok-items-2.items c.select.result c.requires.read c.requires.budget
    (rw c.as_str-2.ensures.value at c.in_ok-items.ensures.taken) given (rw c.as_str-5.ensures.value at c.select.ensures)

pub open_found-returns-clause-cause : goal.open_found-returns-clause-cause
open_found-returns-clause-cause g t c = causes_of_selection _ _ c.as_str-5.result.now c.args.wanted.now.selection.now c.in_ok-items-2.items c.select.result c.select.ensures

pub replace-items-init : goal.replace-items-init
replace-items-init g t c =
    let told = g.S.Store.files c.args.store.now in
    let root = option_copied c.args.level.now.root in
    let path = path_names c.args.level.now.path.now in
    record {
      progress = rw c.new-kept.ensures (progress_start told root path c.args.from.now c.args.items c.args.opened.now c.in_ok-left.left (ap reverse c.in_ok-left.ensures ∙ reverse-reverse c.args.items));
      names = reversed_quotable c.args.items c.in_ok-left.left c.in_ok-left.ensures (search rules);
      budget = omega arith;
      few_files = let count = ap length c.in_ok-left.ensures in omega (arith, count, length-reverse c.args.items);
      same_files = refl;
      more_absents = omega arith;
      more_faults = omega arith;
    }

pub replace-items-preserved : goal.replace-items-preserved
replace-items-preserved g t c =
    let told = g.S.Store.files c.args.store.now in
    let root = option_copied c.args.level.now.root in
    let path = path_names c.args.level.now.path.now in
    record {
      progress = progress_on told root path c.args.from.now c.args.items c.args.opened.now c.items.opened c.items.left c.pop.new.self c.items.kept c.in-Some.item c.items.invariant.progress c.in-Some.ensures c.take.new.opened c.take.new.kept
          (rw c.items.invariant.same_files at c.in_ok-take.ensures.adds);
      names = rest_quotable c.items.left c.pop.new.self c.in-Some.item c.in-Some.ensures c.items.invariant.names;
      budget = c.in_ok-take.ensures.read;
      few_files =
          let added = added_few told root (walk_of path c.items.opened) c.args.from.now c.in-Some.item c.items.opened c.take.new.opened c.items.kept c.take.new.kept (rw c.items.invariant.same_files at c.in_ok-take.ensures.adds) in
          let count = ap length c.in-Some.ensures in
          omega (arith, added, count, length-append c.pop.new.self (c.in-Some.item ∷ []), c.items.invariant.few_files);
      same_files = c.in_ok-take.ensures.same_files ∙ c.items.invariant.same_files;
      more_absents = omega (arith, c.items.invariant.more_absents, c.in_ok-take.ensures.more_absents);
      more_faults = omega (arith, c.items.invariant.more_faults, c.in_ok-take.ensures.more_faults);
    }

pub replace-returns-in_err-take-clause-gives : goal.replace-returns-in_err-take-clause-gives
replace-returns-in_err-take-clause-gives g t c =
    let told = g.S.Store.files c.args.store.now in
    let root = option_copied c.args.level.now.root in
    let path = path_names c.args.level.now.path.now in
    err_case (λ (r : Result (List Item) IncludeFault). Gives (Replaces told root (walk_of path c.args.opened.now) c.args.from.now c.args.items) c.args.opened.now c.take.new.opened r) c.from_residual-in_err-take.result c.in_err-take.field-0.0 c.from_residual-in_err-take.ensures.1
    (progress_stops told root path c.args.from.now c.args.items c.args.opened.now c.items.opened c.items.left c.pop.new.self c.items.kept c.in-Some.item c.items.invariant.progress c.in-Some.ensures c.take.new.opened c.take.new.kept c.in_err-take.field-0.0
    (rw c.items.invariant.same_files at c.in_err-take.ensures.adds))

pub replace-returns-clause-gives : goal.replace-returns-clause-gives
replace-returns-clause-gives g t c =
    let told = g.S.Store.files c.args.store.now in
    let root = option_copied c.args.level.now.root in
    let path = path_names c.args.level.now.path.now in
    progress_ends told root path c.args.from.now c.args.items c.args.opened.now c.items.opened c.items.left c.items.kept c.items.invariant.progress (rw c.in_default.is at c.pop.ensures).0

pub take-returns-in-Comment-clause-adds : goal.take-returns-in-Comment-clause-adds
take-returns-in-Comment-clause-adds g t c =
    let told = g.S.Store.files c.args.store.now in
    let root = option_copied c.args.level.now.root in
    let path = path_names c.args.level.now.path.now in
    rw c.in-Comment.is (item_added told root path c.args.from.now (Comment c.in-Comment.text) c.args.opened.now c.args.kept.now c.keep.new.kept c.keep.result comment c.keep.ensures.ok c.keep.ensures.err)

pub take-returns-in-Formula-clause-adds : goal.take-returns-in-Formula-clause-adds
take-returns-in-Formula-clause-adds g t c =
    let told = g.S.Store.files c.args.store.now in
    let root = option_copied c.args.level.now.root in
    let path = path_names c.args.level.now.path.now in
    rw c.in-Formula.is (item_added told root path c.args.from.now (Formula c.in-Formula.formula) c.args.opened.now c.args.kept.now c.keep-in-Formula.new.kept c.keep-in-Formula.result formula c.keep-in-Formula.ensures.ok c.keep-in-Formula.ensures.err)
