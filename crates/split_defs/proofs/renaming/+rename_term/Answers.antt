use Rattle.std.proofs.Common.{rules, arith}
use Rattle.fof_terms.specs.declared.term.Term.TheViews.{the_lemmas}
use Rattle.split_defs.specs.code.Renaming.{speaks_in_term}
use Rattle.split_defs.proofs.RenamingFacts.{speaks_equations}
use Rattle.split_defs.proofs.Lists.{each_passes}
use Rattle.split_defs.proofs.renaming.+rename_term.Goals as goal

pub rename_term-rename_terms-requires : goal.rename_term-rename_terms-requires
rename_term-rename_terms-requires t c = (search (rules, the_lemmas), (grind (arith, speaks_equations), c.requires.room))

pub rename_terms-rename_term-requires : goal.rename_terms-rename_term-requires
rename_terms-rename_term-requires t c =
    let passes = each_passes (speaks_in_term c.args.names.now.keys c.args.depth) c.args.terms.now c.requires.among in
    (search (rules, the_lemmas), (search (rules, passes), c.requires.room))
