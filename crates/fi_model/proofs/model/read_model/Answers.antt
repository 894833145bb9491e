use Rattle.std.proofs.Common.{List, Ok, refl, sym, ◌∙◌, ap, subst}
use Rattle.fi_model.specs.declared.sentence.Sentence.{Sentence}
use Rattle.fi_model.specs.Models.{domains}
use Rattle.fi_model.specs.code.Adding.{AreOf}
use Rattle.fi_model.proofs.Reading.{are_of, domains_some, model_is}
use Rattle.fi_model.proofs.model.read_model.Goals as goal

pub index_rows-requires : goal.index_rows-requires
index_rows-requires c =
    subst (λ (said : List Sentence). AreOf c.as_slice-4.result.now said) (c.as_slice-3.ensures ∙ sym c.as_slice-5.ensures)
    (are_of c.args.signature.now c.as_slice-2.result.now c.as_slice-3.result.now c.as_slice-4.result.now (c.in_ok-rows.ensures.all ∙ ap Ok (sym c.as_slice-4.ensures)))

pub tables-requires-clause-some : goal.tables-requires-clause-some
tables-requires-clause-some c = rw c.as_slice-6.ensures (domains_some c.args.signature.now (domains c.as_slice.result.now) c.in_ok-domains.domains c.in_ok-domains.ensures.are)

pub returns-clause-model : goal.returns-clause-model
returns-clause-model c =
    model_is c.args.items.now c.args.signature.now c.in_ok-said.said c.in_ok-domains.domains c.in_ok-rows.rows c.in_ok-index.index c.in_ok-tables.tables (record { domains = c.in_ok-domains.domains; tables = c.in_ok-tables.tables })
    c.in_ok-said.ensures.all
    (rw c.as_slice.ensures at c.in_ok-domains.ensures.are)
    (rw (c.as_slice-2.ensures, c.as_slice-3.ensures) at c.in_ok-rows.ensures.all)
    (rw c.as_slice-4.ensures at c.in_ok-index.ensures.single)
    (rw c.as_slice-4.ensures at c.in_ok-index.ensures.entries)
    (rw c.as_slice-6.ensures at c.in_ok-tables.ensures.are)
    c.in_ok-tables.ensures.all refl refl
